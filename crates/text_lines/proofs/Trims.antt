-- Blanks at the end of a line.
use Rattle.std.proofs.Common.{◌≡◌, ℕ, ◌-◌, ◌<◌, true, false, cond, ◌&&◌, List, [], ◌∷◌, ◌++◌}
use Rattle.std.proofs.Common.{length, take, get_or, refl, ap, sym, ◌∙◌, arith}
use Rattle.share_base.proofs.Ends.{front_and_last}
use Rattle.text_lines.specs.Bytes.{is_blank}
use Rattle.text_lines.specs.Reading.{is_empty}
use Rattle.text_lines.specs.Lines.{trimmed}

pub trimmed_blank : (xs : List ℕ) (b : ℕ) → is_blank b ≡ true → trimmed (xs ++ b ∷ []) ≡ trimmed xs
unfolding trimmed
trimmed_blank [] b h = rw h refl
trimmed_blank (x ∷ xs) b h = rw (trimmed_blank xs b h) refl

trimmed_some : (xs : List ℕ) (b : ℕ) → is_empty (xs ++ b ∷ []) ≡ false
trimmed_some [] b = refl
trimmed_some (x ∷ xs) b = refl

pub trimmed_solid : (xs : List ℕ) (b : ℕ) → is_blank b ≡ false
    → trimmed (xs ++ b ∷ []) ≡ xs ++ b ∷ []
unfolding trimmed
trimmed_solid [] b h = rw h refl
trimmed_solid (x ∷ xs) b h =
    rw (trimmed_solid xs b h, trimmed_some xs b)
    (elim (is_blank x) as (λ t. cond (t && false) [] (x ∷ (xs ++ b ∷ [])) ≡ x ∷ (xs ++ b ∷ []))
    [ true ↦ refl | false ↦ refl ])

pub trimmed_cut : (xs : List ℕ) → 0 < length xs → is_blank (get_or xs (length xs - 1) 0) ≡ true
    → trimmed (take (length xs - 1) xs) ≡ trimmed xs
trimmed_cut xs h e =
    sym
    (ap trimmed (front_and_last xs h)
    ∙ trimmed_blank (take (length xs - 1) xs) (get_or xs (length xs - 1) 0) e)

pub trimmed_whole : (xs : List ℕ) → 0 < length xs → is_blank (get_or xs (length xs - 1) 0) ≡ false
    → trimmed xs ≡ xs
trimmed_whole xs h e =
    ap trimmed (front_and_last xs h)
    ∙ trimmed_solid (take (length xs - 1) xs) (get_or xs (length xs - 1) 0) e
    ∙ sym (front_and_last xs h)

pub trimmed_none : (xs : List ℕ) → length xs < 1 → trimmed xs ≡ xs
unfolding trimmed
trimmed_none [] h = refl
trimmed_none (x ∷ xs) h = absurd (omega arith)
