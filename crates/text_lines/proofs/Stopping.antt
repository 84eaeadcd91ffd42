-- Where a line can't go on.
use Rattle.std.proofs.Common.{◌≡◌, ℕ, suc, ◌+◌, ◌<◌, Bool, true, false, cond, List, [], ◌∷◌, ◌++◌}
use Rattle.std.proofs.Common.{length, length-append, take, Result, Ok, Err, refl, ap, sym, subst}
use Rattle.std.proofs.Common.{◌∙◌, inl, inr, append_assoc, arith}
use Rattle.std.specs.List.{prefix_len}
use Rattle.std.proofs.lemmas.Bool.{cases_order, both_ways}
use Rattle.text_lines.specs.Bytes.{is_tight, front}
use Rattle.text_lines.specs.Reading.{Text, run_at, word_at, is_empty}
use Rattle.text_lines.specs.Spelling.{IsGap, IsWord, CanGoOn, StopsAt}
use Rattle.text_lines.proofs.SpelledWords.{Breaks, one_answer, gap_again, word_again}

-- a form's lines, by what they spell
abbrev pub Line : {A : Type 0} → (List ℕ → A → Type 0) → List ℕ → Type 0
Line {A} Spells xs = (x : A) × Spells xs x

pub flat : (a g c xs : List ℕ) → (a ++ (g ++ c)) ++ xs ≡ a ++ (g ++ (c ++ xs))
flat a g c xs = simp append_assoc

-- no line goes on over a byte behind which its form is never read
pub never_read : {A : Type 0} (form : List ℕ → Result A ℕ) (Spells : List ℕ → A → Type 0)
    → ((xs : List ℕ) (x : A) → Spells xs x → form xs ≡ Ok x)
    → (good : List ℕ) (b : ℕ)
    → ((more : List ℕ) → (left : ℕ) × (form (good ++ b ∷ more) ≡ Err left))
    → CanGoOn (Line Spells) (good ++ b ∷ []) → ⊥
never_read form Spells again good b stuck go =
    let whole : (good ++ b ∷ []) ++ go.0 ≡ good ++ b ∷ go.0 = append_assoc good (b ∷ []) go.0 in
    let s = stuck go.0 in
    one_answer (form (good ++ b ∷ go.0)) go.1.0 s.0
    (ap form (sym whole) ∙ again ((good ++ b ∷ []) ++ go.0) go.1.0 go.1.1) s.1

-- ---- words

-- no byte of that kind stands there
pub record NoWord (p : ℕ → Bool) (xs : List ℕ) (left : ℕ) : Type 0 where
  pub place : length xs ≡ left
  pub other : (b : ℕ) (rest : List ℕ) → xs ≡ b ∷ rest → p b ≡ false

empty_by : (t : Bool) (p : ℕ → Bool) (b : ℕ) (rest : List ℕ) → p b ≡ t
    → is_empty (take (cond t (1 + prefix_len p rest) 0) (b ∷ rest)) ≡ true → t ≡ false
empty_by true p b rest e h =
    let s : 1 + prefix_len p rest ≡ suc (prefix_len p rest) = omega arith in
    absurd (both_ways true (sym (rw s at h)) refl)
empty_by false p b rest e h = refl

none_then : (t : Bool) (p : ℕ → Bool) (xs : List ℕ) (left : ℕ) → is_empty (front p xs) ≡ t
    → cond t (Err (length xs)) (Ok (run_at p xs)) ≡ Err left → NoWord p xs left
none_then true p xs left e h =
    record {
      place = cc;
      other =
          λ b rest k.
          empty_by (p b) p b rest refl
          (ap (λ (x : List ℕ). is_empty (front p x)) (sym k) ∙ e);
    }
none_then false p xs left e h = absurd cc

pub word_stops : (p : ℕ → Bool) (xs : List ℕ) (left : ℕ) → word_at p xs ≡ Err left
    → NoWord p xs left
unfolding word_at
word_stops p xs left h = none_then (is_empty (front p xs)) p xs left refl h

pub no_word : (p : ℕ → Bool) (b : ℕ) (rest : List ℕ) → p b ≡ false
    → word_at p (b ∷ rest) ≡ Err (length (b ∷ rest))
unfolding word_at
no_word p b rest h = rw h refl

-- behind a word and a gap it doesn't matter which bytes come after the next one
pub same_next : (p : ℕ → Bool) (gap : List ℕ) (b : ℕ) (rest more : List ℕ)
    → Breaks p (gap ++ b ∷ rest) → Breaks p (gap ++ b ∷ more)
same_next p [] b rest more h = h
same_next p (x ∷ xs) b rest more h = h

pub word_gap_again : (p : ℕ → Bool) (w gap rest : List ℕ) → IsWord p w → IsGap gap
    → Breaks p (gap ++ rest) → is_tight rest ≡ true
    → word_at p (w ++ (gap ++ rest))
    ≡ Ok (record { text = w; left = length (w ++ (gap ++ rest)) }, rest)
word_gap_again p w gap rest h g k t =
    word_again p w (gap ++ rest) h k
    ∙ ap
    (λ (x : List ℕ).
    let y : Result (Text × List ℕ) ℕ =
    Ok (record { text = w; left = length (w ++ (gap ++ rest)) }, x) in
    y)
    (gap_again gap rest g t)

-- ---- one place

-- what goes on over a list goes on over its front
front_goes_on : (Form : List ℕ → Type 0) (xs ys : List ℕ) → CanGoOn Form (xs ++ ys)
    → CanGoOn Form xs
front_goes_on Form xs ys go = (ys ++ go.0, subst Form (append_assoc xs ys go.0) go.1)

-- of two cuts of one list the longer front begins with the shorter one and its next byte
longer_cut : (good bad front back : List ℕ) → good ++ bad ≡ front ++ back → length back < length bad
    → (b : ℕ) × (rest : List ℕ) × (more : List ℕ) × (bad ≡ b ∷ rest)
    × (front ≡ (good ++ b ∷ []) ++ more)
longer_cut [] [] front back e h = absurd (omega arith)
longer_cut [] (b ∷ bs) [] back e h = absurd (omega (arith, ap length e))
longer_cut [] (b ∷ bs) (x ∷ xs) back e h =
    let same : b ≡ x = cc in
    (b, bs, xs, refl, ap (λ (n : ℕ). n ∷ xs) (sym same))
longer_cut (g ∷ gs) bad [] back e h = absurd (omega (arith, ap length e, length-append gs bad))
longer_cut (g ∷ gs) bad (x ∷ xs) back e h =
    let same : g ≡ x = cc in
    let others : gs ++ bad ≡ xs ++ back = cc in
    let c = longer_cut gs bad xs back others h in (
      c.0,
      c.1,
      c.2,
      c.3,
      ap (λ (t : List ℕ). x ∷ t) c.4 ∙ ap (λ (n : ℕ). n ∷ ((gs ++ c.0 ∷ []) ++ c.2)) (sym same),
    )

no_further : (Form : List ℕ → Type 0) (xs : List ℕ) (a b : ℕ) → StopsAt Form xs a
    → StopsAt Form xs b → b < a → ⊥
no_further Form xs a b s t h =
    let c =
    longer_cut s.good s.bad t.good t.bad (sym s.parts ∙ t.parts)
    (omega (arith, s.place, t.place)) in
    s.no_more c.0 c.1 c.3
    (front_goes_on Form (s.good ++ c.0 ∷ []) c.2 (subst (CanGoOn Form) c.4 t.goes_on))

-- a line stops at one place
pub one_stop : (Form : List ℕ → Type 0) (xs : List ℕ) (a b : ℕ) → StopsAt Form xs a
    → StopsAt Form xs b → a ≡ b
one_stop Form xs a b s t =
    elim (cases_order a b) [
      | inl e ↦ e
      | inr o ↦
          elim o [
            | inl h ↦ absurd (no_further Form xs b a t s h)
            | inr h ↦ absurd (no_further Form xs a b s t h)
          ]
    ]
