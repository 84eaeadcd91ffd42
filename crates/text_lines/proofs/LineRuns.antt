-- Reading line by line as a function, and as a relation on lines: each the other.
use Rattle.std.proofs.Common.{◌≡◌, ℕ, ◌+◌, List, [], ◌∷◌, ◌++◌, length, Result, Ok, Err, refl, ap}
use Rattle.std.proofs.Common.{sym, ◌∙◌, arith, ◌⊎◌, inl, inr, zero-add}
use Rattle.text_lines.specs.Reading.{◌>>=◌}
use Rattle.text_lines.specs.LineByLine.{all_lines, LeadsOver, OffendsIn}

pub after_good : {A B E : Type 0} (r : Result A E) (f : A → Result B E) (y : B) → (r >>= f) ≡ Ok y
    → (x : A) × (r ≡ Ok x) × (f x ≡ Ok y)
after_good (Ok x) f y e = (x, refl, e)
after_good (Err d) f y e = absurd cc

pub after_bad : {A B E : Type 0} (r : Result A E) (f : A → Result B E) (y : E) → (r >>= f) ≡ Err y
    → (r ≡ Err y) ⊎ ((x : A) × (r ≡ Ok x) × (f x ≡ Err y))
after_bad (Ok x) f y e = inr (x, refl, e)
after_bad {A = A} {E = E} (Err d) f y e =
    let same : d ≡ y = cc in inl (ap (λ (k : E). let a : Result A E = Err k in a) same)

pub leads : {D E : Type 0} (judge : ℕ → D → List ℕ → Result D E) (n : ℕ) (d : D)
    (ls : List (List ℕ)) (e : D)
    → all_lines judge n d ls ≡ Ok e → LeadsOver judge n d ls e
unfolding all_lines
leads judge n d [] e h = cc
leads judge n d (l ∷ ls) e h =
    let b = after_good (judge n d l) (λ m. all_lines judge (n + 1) m ls) e h in
    (b.0, b.1, leads judge (n + 1) b.0 ls e b.2)

pub led : {D E : Type 0} (judge : ℕ → D → List ℕ → Result D E) (n : ℕ) (d : D) (ls : List (List ℕ))
    (e : D)
    → LeadsOver judge n d ls e → all_lines judge n d ls ≡ Ok e
unfolding all_lines
led {D = D} {E = E} judge n d [] e h = ap (λ (x : D). let a : Result D E = Ok x in a) h
led {D = D} {E = E} judge n d (l ∷ ls) e h =
    ap (λ (r : Result D E). r >>= λ m. all_lines judge (n + 1) m ls) h.1
    ∙ led judge (n + 1) h.0 ls e h.2

-- the first line that offends, the first line of all having the number n
record Stops {D E : Type 0} (judge : ℕ → D → List ℕ → Result D E) (n : ℕ) (d : D)
    (ls : List (List ℕ)) (r : E) : Type 0 where
  above : List (List ℕ)
  line : List ℕ
  below : List (List ℕ)
  draft : D
  parts : ls ≡ above ++ line ∷ below
  good : LeadsOver judge n d above draft
  bad : judge (length above + n) draft line ≡ Err r

stops : {D E : Type 0} (judge : ℕ → D → List ℕ → Result D E) (n : ℕ) (d : D) (ls : List (List ℕ))
    (r : E)
    → all_lines judge n d ls ≡ Err r → Stops judge n d ls r
unfolding all_lines
stops judge n d [] r h = absurd cc
stops judge n d (l ∷ ls) r h =
    elim (after_bad (judge n d l) (λ m. all_lines judge (n + 1) m ls) r h) [
      | inl e ↦
          record {
            above = [];
            line = l;
            below = ls;
            draft = d;
            parts = refl;
            good = refl;
            bad = ap (λ (k : ℕ). judge k d l) (zero-add n) ∙ e;
          }
      | inr b ↦
          let s = stops judge (n + 1) b.0 ls r b.2 in
          let m : length s.above + (n + 1) ≡ length (l ∷ s.above) + n = omega arith in
          record {
            above = l ∷ s.above;
            line = s.line;
            below = s.below;
            draft = s.draft;
            parts = ap (λ (t : List (List ℕ)). l ∷ t) s.parts;
            good = (b.0, b.1, s.good);
            bad = ap (λ (k : ℕ). judge k s.draft s.line) (sym m) ∙ s.bad;
          }
    ]

pub offends : {D E : Type 0} (judge : ℕ → D → List ℕ → Result D E) (d : D) (ls : List (List ℕ))
    (r : E)
    → all_lines judge 1 d ls ≡ Err r → OffendsIn judge d ls r
offends judge d ls r h =
    let s = stops judge 1 d ls r h in
    record {
      above = s.above;
      line = s.line;
      below = s.below;
      draft = s.draft;
      parts = s.parts;
      good = s.good;
      bad = s.bad;
    }

stopped : {D E : Type 0} (judge : ℕ → D → List ℕ → Result D E) (n m : ℕ) (d e : D)
    (above : List (List ℕ)) (line : List ℕ) (below : List (List ℕ)) (r : E)
    → m ≡ length above + n
    → LeadsOver judge n d above e → judge m e line ≡ Err r
    → all_lines judge n d (above ++ line ∷ below) ≡ Err r
unfolding all_lines
stopped {D = D} {E = E} judge n m d e [] line below r s g b =
    let k : n ≡ m = omega arith in
    ap (λ (r : Result D E). r >>= λ x. all_lines judge (n + 1) x below)
    (ap (λ (x : D). judge n x line) g ∙ ap (λ (i : ℕ). judge i e line) k ∙ b)
stopped {D = D} {E = E} judge n m d e (l ∷ ls) line below r s g b =
    ap (λ (r : Result D E). r >>= λ x. all_lines judge (n + 1) x (ls ++ line ∷ below)) g.1
    ∙ stopped judge (n + 1) m g.0 e ls line below r (omega arith) g.2 b

pub offended : {D E : Type 0} (judge : ℕ → D → List ℕ → Result D E) (d : D) (ls : List (List ℕ))
    (r : E)
    → OffendsIn judge d ls r → all_lines judge 1 d ls ≡ Err r
offended judge d ls r h =
    ap (all_lines judge 1 d) h.parts
    ∙ stopped judge 1 (length h.above + 1) d h.draft h.above h.line h.below r refl h.good h.bad
