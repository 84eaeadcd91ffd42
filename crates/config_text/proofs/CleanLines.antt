-- What counts of a line whose words stand behind tabs, with no comment.
use Rattle.std.proofs.Common.{◌≡◌, ℕ, ◌<◌, Bool, true, false, cond, ◌==◌, ◌&&◌, List, [], ◌∷◌, ◌++◌}
use Rattle.std.proofs.Common.{length, length-append, refl, ap, sym, subst, ◌∙◌, ◌-◌, get_or, arith}
use Rattle.std.specs.List.{list_all, list_any}
use Rattle.std.proofs.lemmas.Bool.{and_parts, and_right, eqb-true, ne_eqb, both_ways}
use Rattle.std.proofs.lemmas.Bool.{false_from_ne_true, not_from_true}
use Rattle.std.specs.Prelude.{codes}
use Rattle.std.specs.Str.{bytes_eq}
use Rattle.std.proofs.lemmas.Slice.Eq.{bytes_eq-Decides}
use Rattle.share_base.proofs.Ends.{last_is}
use Rattle.text_lines.specs.Bytes.{is_blank, is_tight, unblanked}
use Rattle.text_lines.specs.Lines.{trimmed}
use Rattle.text_lines.proofs.SpelledWords.{gap_again}
use Rattle.config_text.specs.Sections.{is_header}

trimmed_more : (b : ℕ) (xs : List ℕ) → 0 < length xs → trimmed xs ≡ xs → trimmed (b ∷ xs) ≡ b ∷ xs
unfolding trimmed
trimmed_more b [] h e = absurd (omega arith)
trimmed_more b (x ∷ xs) h e =
    rw e
    (elim (is_blank b) as (λ t. cond (t && false) [] (b ∷ x ∷ xs) ≡ b ∷ x ∷ xs)
    [ true ↦ refl | false ↦ refl ])

-- tabs in front stay where nothing is dropped behind them
pub trimmed_tabs : (tabs xs : List ℕ) → 0 < length xs → trimmed xs ≡ xs
    → trimmed (tabs ++ xs) ≡ tabs ++ xs
trimmed_tabs [] xs h e = e
trimmed_tabs (b ∷ bs) xs h e =
    trimmed_more b (bs ++ xs) (omega (arith, length-append bs xs)) (trimmed_tabs bs xs h e)

one_tab_off : (b : ℕ) (xs : List ℕ) → (b == 9) ≡ true → unblanked (b ∷ xs) ≡ unblanked xs
one_tab_off b xs e =
    subst (λ (k : ℕ). unblanked (k ∷ xs) ≡ unblanked xs) (sym (eqb-true b 9 e)) refl

-- they are dropped
pub tabs_off : (tabs xs : List ℕ) → list_all (λ b. b == 9) tabs ≡ true
    → unblanked (tabs ++ xs) ≡ unblanked xs
tabs_off [] xs h = refl
tabs_off (b ∷ bs) xs h =
    let e = and_parts (b == 9) (list_all (λ b. b == 9) bs) h in
    one_tab_off b (bs ++ xs) e.0 ∙ tabs_off bs xs e.1

pub tight_whole : (xs : List ℕ) → is_tight xs ≡ true → unblanked xs ≡ xs
tight_whole xs h = gap_again [] xs refl h

-- a byte that passes a test is none that doesn't
pub differs : (p : ℕ → Bool) (b c : ℕ) → p b ≡ true → p c ≡ false → (b == c) ≡ false
differs p b c h k = ne_eqb b c (λ e. both_ways (p c) k (subst (λ x. p x ≡ true) e h))

-- a line that ends with : is not `end`
pub not_end : (name : List ℕ) → bytes_eq (name ++ 58 ∷ []) (codes "end") ≡ false
not_end name = false_from_ne_true _ (λ e.
    let same : name ++ 58 ∷ [] ≡ codes "end" =
    (bytes_eq-Decides (name ++ 58 ∷ []) (codes "end")).0 e in
    let last : 58 ≡ 100 =
    sym (last_is name 58) ∙ ap (λ (xs : List ℕ). get_or xs (length xs - 1) 0) same in
    absurd (omega arith))

-- nor is one with the sign =, and it is no header
pub equals_no_end : (xs : List ℕ) → list_any (λ b. b == 61) xs ≡ true
    → bytes_eq xs (codes "end") ≡ false
equals_no_end xs h =
    false_from_ne_true _
    (λ e. both_ways _ (ap (list_any (λ b. b == 61)) ((bytes_eq-Decides xs (codes "end")).0 e)) h)

pub equals_no_header : (xs : List ℕ) → list_any (λ b. b == 61) xs ≡ true → is_header xs ≡ false
unfolding is_header
equals_no_header xs h = and_right _ _ (not_from_true _ h)
