-- Lists of screens, and sets of them.
use Rattle.std.proofs.Common.{◌≡◌, ℕ, Bool, true, false, not, ◌&&◌, ◌||◌, cond, List, [], ◌∷◌, refl}
use Rattle.std.proofs.Common.{sym, ◌∙◌, ap}
use Rattle.std.specs.Prelude.{◌==◌}
use Rattle.std.proofs.lemmas.Bool.{eqb-true}
use Rattle.share_base.specs.Screens.{has}
use Rattle.clip_chunks.specs.Clips.{is_among, without}
use Rattle.clip_chunks.specs.Books.{AreIn}

and_false : (b : Bool) → (b && false) ≡ false
and_false true = refl
and_false false = refl

-- n is looked at; two tests tell whether it is left, and whether it is k
one_without : (n screen k : ℕ) (rest less : List ℕ) (a b : Bool) → (n == screen) ≡ a → (n == k) ≡ b
    → is_among less k ≡ (is_among rest k && not (k == screen))
    → is_among (cond (not a) (n ∷ less) less) k ≡ ((b || is_among rest k) && not (k == screen))
one_without n screen k rest less false false left other more =
    ap (λ (t : Bool). t || is_among less k) other ∙ more
one_without n screen k rest less false true left same more =
    let kept : (k == screen) ≡ false =
    ap (λ (m : ℕ). m == screen) (sym (eqb-true n k same)) ∙ left in
    ap (λ (t : Bool). t || is_among less k) same ∙ ap not (sym kept)
one_without n screen k rest less true false gone other more = more
one_without n screen k rest less true true gone same more =
    let out : (k == screen) ≡ true = ap (λ (m : ℕ). m == screen) (sym (eqb-true n k same)) ∙ gone in
    more ∙ ap (λ (t : Bool). is_among rest k && not t) out ∙ and_false (is_among rest k)
    ∙ ap not (sym out)

pub is_among-without : (screens : List ℕ) (screen k : ℕ)
    → is_among (without screens screen) k ≡ (is_among screens k && not (k == screen))
is_among-without [] screen k = refl
is_among-without (n ∷ rest) screen k =
    one_without n screen k rest (without rest screen) (n == screen) (n == k) refl refl
    (is_among-without rest screen k)

pub taken_out : (set new screen : ℕ) (screens : List ℕ) → AreIn set screens
    → ((k : ℕ) → has new k ≡ (has set k && not (k == screen))) → AreIn new (without screens screen)
taken_out set new screen screens is out k =
    out k ∙ ap (λ (t : Bool). t && not (k == screen)) (is k)
    ∙ sym (is_among-without screens screen k)
