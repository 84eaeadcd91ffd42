-- Words that are read byte by byte.
use Rattle.std.proofs.Common.{◌≡◌, ℕ, Bool, true, false, cond, ◌==◌, List, [], ◌∷◌, ◌++◌, length}
use Rattle.std.proofs.Common.{Ok, Err, refl, ap, subst, ◌∙◌}
use Rattle.std.proofs.lemmas.Bool.{eqb-true, eq-eqb}
use Rattle.text_lines.specs.Reading.{literal_at}

taken_then : (t : Bool) (b c : ℕ) (bs cs rest : List ℕ) → (b == c) ≡ t
    → (literal_at cs bs ≡ Ok rest → bs ≡ cs ++ rest)
    → cond t (literal_at cs bs) (Err (length (b ∷ bs))) ≡ Ok rest → b ∷ bs ≡ c ∷ (cs ++ rest)
taken_then true b c bs cs rest e go h =
    ap (λ (n : ℕ). n ∷ bs) (eqb-true b c e) ∙ ap (λ (t : List ℕ). c ∷ t) (go h)
taken_then false b c bs cs rest e go h = absurd cc

pub literal_takes : (w xs rest : List ℕ) → literal_at w xs ≡ Ok rest → xs ≡ w ++ rest
unfolding literal_at
literal_takes [] xs rest h = cc
literal_takes (c ∷ cs) [] rest h = absurd cc
literal_takes (c ∷ cs) (b ∷ bs) rest h =
    taken_then (b == c) b c bs cs rest refl (literal_takes cs bs rest) h

pub literal_again : (w rest : List ℕ) → literal_at w (w ++ rest) ≡ Ok rest
unfolding literal_at
literal_again [] rest = refl
literal_again (c ∷ cs) rest = rw (eq-eqb c c refl) (literal_again cs rest)

-- its front stands there, and then not its next byte
pub record Stuck (w xs : List ℕ) (left : ℕ) : Type 0 where
  pub done : List ℕ
  pub next : ℕ
  pub others : List ℕ
  pub bad : List ℕ
  pub word : w ≡ done ++ next ∷ others
  pub parts : xs ≡ done ++ bad
  pub place : length bad ≡ left
  pub other : (b : ℕ) (rest : List ℕ) → bad ≡ b ∷ rest → (b == next) ≡ false

stuck_then : (t : Bool) (b c : ℕ) (bs cs : List ℕ) (left : ℕ) → (b == c) ≡ t
    → (literal_at cs bs ≡ Err left → Stuck cs bs left)
    → cond t (literal_at cs bs) (Err (length (b ∷ bs))) ≡ Err left → Stuck (c ∷ cs) (b ∷ bs) left
stuck_then true b c bs cs left e go h =
    let s = go h in
    record {
      done = c ∷ s.done;
      next = s.next;
      others = s.others;
      bad = s.bad;
      word = ap (λ (t : List ℕ). c ∷ t) s.word;
      parts = ap (λ (n : ℕ). n ∷ bs) (eqb-true b c e) ∙ ap (λ (t : List ℕ). c ∷ t) s.parts;
      place = s.place;
      other = s.other;
    }
stuck_then false b c bs cs left e go h =
    record {
      done = [];
      next = c;
      others = cs;
      bad = b ∷ bs;
      word = refl;
      parts = refl;
      place = cc;
      other = λ x rest k. let same : b ≡ x = cc in subst (λ n. (n == c) ≡ false) same e;
    }

pub literal_stops : (w xs : List ℕ) (left : ℕ) → literal_at w xs ≡ Err left → Stuck w xs left
unfolding literal_at
literal_stops [] xs left h = absurd cc
literal_stops (c ∷ cs) [] left h =
    record {
      done = [];
      next = c;
      others = cs;
      bad = [];
      word = refl;
      parts = refl;
      place = cc;
      other = λ b rest e. absurd cc;
    }
literal_stops (c ∷ cs) (b ∷ bs) left h =
    stuck_then (b == c) b c bs cs left refl (literal_stops cs bs left) h

pub no_literal : (done : List ℕ) (next : ℕ) (others : List ℕ) (b : ℕ) (rest : List ℕ)
    → (b == next) ≡ false
    → literal_at (done ++ next ∷ others) (done ++ b ∷ rest) ≡ Err (length (b ∷ rest))
unfolding literal_at
no_literal [] next others b rest h = rw h refl
no_literal (d ∷ ds) next others b rest h = rw (eq-eqb d d refl) (no_literal ds next others b rest h)
