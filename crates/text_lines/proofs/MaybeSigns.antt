-- A sign that may stand there is read exactly where it stands.
use Rattle.std.proofs.Common.{◌≡◌, ℕ, Bool, true, false, cond, ◌==◌, List, [], ◌∷◌, ◌++◌, Some}
use Rattle.std.proofs.Common.{None, refl, ap, subst}
use Rattle.std.proofs.lemmas.Bool.{eqb-true, eq-eqb}
use Rattle.text_lines.specs.Bytes.{is_tight, unblanked}
use Rattle.text_lines.specs.Reading.{maybe_sign_at, begins}
use Rattle.text_lines.specs.Spelling.{IsGap}
use Rattle.text_lines.proofs.SpelledWords.{Sign, Gap, gap_of, gap_again}

-- the byte that a line begins with
pub begun : (c : ℕ) (xs : List ℕ) → begins c xs ≡ true → (rest : List ℕ) × (xs ≡ c ∷ rest)
begun c [] h = absurd cc
begun c (b ∷ bs) h = (bs, ap (λ n. n ∷ bs) (eqb-true b c h))

taken_by : (t : Bool) (b c : ℕ) (bs rest : List ℕ) → (b == c) ≡ t
    → cond t (Some (unblanked bs)) None ≡ Some rest → Sign c (b ∷ bs) rest
taken_by true b c bs rest e h =
    let same : unblanked bs ≡ rest = cc in
    record {
      tail = bs;
      parts = ap (λ n. n ∷ bs) (eqb-true b c e);
      gap = subst (λ (r : List ℕ). Gap bs r) same (gap_of bs);
    }
taken_by false b c bs rest e h = absurd cc

pub maybe_sign_takes : (c : ℕ) (xs rest : List ℕ) → maybe_sign_at c xs ≡ Some rest → Sign c xs rest
unfolding maybe_sign_at
maybe_sign_takes c [] rest h = absurd cc
maybe_sign_takes c (b ∷ bs) rest h = taken_by (b == c) b c bs rest refl h

pub maybe_sign_again : (c : ℕ) (gap rest : List ℕ) → IsGap gap → is_tight rest ≡ true
    → maybe_sign_at c (c ∷ (gap ++ rest)) ≡ Some rest
unfolding maybe_sign_at
maybe_sign_again c gap rest h t = rw (eq-eqb c c refl, gap_again gap rest h t) refl

none_by : (t : Bool) (bs : List ℕ) → cond t (Some (unblanked bs)) None ≡ None → t ≡ false
none_by true bs h = absurd cc
none_by false bs h = refl

pub other_there : (c : ℕ) (xs : List ℕ) → maybe_sign_at c xs ≡ None → begins c xs ≡ false
unfolding maybe_sign_at
other_there c [] h = refl
other_there c (b ∷ bs) h = none_by (b == c) bs h

pub no_maybe_sign : (c : ℕ) (xs : List ℕ) → begins c xs ≡ false → maybe_sign_at c xs ≡ None
unfolding maybe_sign_at
no_maybe_sign c [] h = refl
no_maybe_sign c (b ∷ bs) h = rw h refl
