-- Words without blanks, and the line that they make.
use Rattle.std.proofs.Common.{◌≡◌, ℕ, ◌-◌, ◌<◌, ◌≤◌, true, false, not, ◌==◌, ◌&&◌, List, [], ◌∷◌}
use Rattle.std.proofs.Common.{◌++◌, length, get_or, Result, refl, ap, sym, subst, ◌∙◌}
use Rattle.std.proofs.Common.{append_assoc, append-nil, nat_lt, arith}
use Rattle.std.specs.Prelude.{filter}
use Rattle.std.specs.List.{list_all, join_with_byte, slice_split, All}
use Rattle.std.proofs.lemmas.Bool.{and_parts, not-true}
use borrow.Author.Tests.{ltb-true}
use Rattle.std.proofs.lemmas.Bool.Decides.{nat_tests}
use Rattle.std.proofs.lemmas.Option.{slice_get-get_or}
use Rattle.std.proofs.lemmas.List.Splits.{slice_split_at, slice_split_none}
use Rattle.share_base.proofs.Ends.{last_is}
use Rattle.share_base.proofs.ListTests.{all_at}
use Rattle.text_lines.specs.Bytes.{is_blank}
use Rattle.text_lines.specs.Lines.{Words, line_text}
use Rattle.text_lines.specs.Reading.{is_empty}
use Rattle.text_lines.specs.Words.{words_of}
use Rattle.text_lines.proofs.CleanWords.{is_plain, is_solid, IsClean, clean_solid, clean_around}
use Rattle.text_lines.proofs.SpelledLines.{content_again}
use Rattle.text_lines.proofs.WordLists.{some_kept}
use Rattle.config_text.proofs.Runs.{IsLine, is_line}
use Rattle.script_screen.specs.declared.kinds.TextKind.{TextKind}
use Rattle.script_screen.specs.NumberedLines.{at_line, numbered}

-- bytes that may stand in a line, none of which is a blank or begins a comment
pub record IsWhole (w : List ℕ) : Type 0 where
  pub plain : list_all is_plain w ≡ true
  pub solid : list_all is_solid w ≡ true
  pub some : 0 < length w

pub whole_literal : (w : List ℕ)
    → (list_all is_plain w && list_all is_solid w && nat_lt 0 (length w)) ≡ true → IsWhole w
whole_literal w h =
    let all = and_parts (list_all is_plain w && list_all is_solid w) (nat_lt 0 (length w)) h in
    let both = and_parts (list_all is_plain w) (list_all is_solid w) all.0 in
    record { plain = both.0; solid = both.1; some = ltb-true 0 (length w) all.1 }

abbrev pub AreWhole : List (List ℕ) → Type 0
AreWhole [] = Unit {0}
AreWhole (w ∷ ws) = IsWhole w × AreWhole ws

-- with a blank between each two
abbrev pub joined : List (List ℕ) → List ℕ
joined words = join_with_byte 32 words

clean_word : (w : List ℕ) → IsWhole w → IsClean w
clean_word w h = clean_solid w h.plain h.solid h.some

pub clean_joined : (w : List ℕ) (ws : List (List ℕ)) → AreWhole (w ∷ ws)
    → IsClean (joined (w ∷ ws))
clean_joined w [] h = clean_word w h.0
clean_joined w (v ∷ vs) h =
    subst IsClean (append_assoc w (32 ∷ []) (joined (v ∷ vs)))
    (clean_around w (32 ∷ []) (joined (v ∷ vs)) (clean_word w h.0) refl (clean_joined v vs h.1))

-- ---- its words are those again

no_blank : (w : List ℕ) → list_all is_solid w ≡ true → All (λ b. is_blank b ≡ false) w
no_blank w h =
    λ k d lt.
    not-true (is_blank (get_or w k d)) (all_at is_solid w k (get_or w k d) h
    (slice_get-get_or w k d lt))

pub words_joined : (w : List ℕ) (ws : List (List ℕ)) → AreWhole (w ∷ ws)
    → words_of (joined (w ∷ ws)) ≡ w ∷ ws
unfolding words_of
words_joined w [] h =
    ap (filter (λ w. not (is_empty w))) (slice_split_none is_blank w (no_blank w h.0.solid))
    ∙ some_kept w [] h.0.some
words_joined w (v ∷ vs) h =
    ap (filter (λ w. not (is_empty w)))
    (slice_split_at is_blank w 32 (joined (v ∷ vs)) (no_blank w h.0.solid) refl)
    ∙ some_kept w (slice_split is_blank (joined (v ∷ vs))) h.0.some
    ∙ ap (λ (ws : List (List ℕ)). w ∷ ws) (words_joined v vs h.1)

-- ---- the line

ends_tight : (xs front : List ℕ) (b : ℕ) → is_blank (get_or xs (length xs - 1) 0) ≡ false
    → xs ≡ front ++ b ∷ [] → is_blank b ≡ false
ends_tight xs front b h e =
    ap is_blank (sym (ap (λ (t : List ℕ). get_or t (length t - 1) 0) e ∙ last_is front b)) ∙ h

line_clean : (xs : List ℕ) → IsClean xs → line_text xs ≡ Words xs (length xs)
line_clean xs c =
    content_again xs xs (length xs)
    (record {
      before = [];
      behind = [];
      comment = [];
      text = sym (append-nil xs);
      some = c.some;
      run = c.plain;
      tight = c.tight;
      ends_tight = λ front b e. ends_tight xs front b c.ends e;
      gaps = (refl, refl);
      ends = tt;
      place = refl;
    })

pub line_joined : (w : List ℕ) (ws : List (List ℕ)) → AreWhole (w ∷ ws) → IsLine (joined (w ∷ ws))
line_joined w ws h = is_line [] (joined (w ∷ ws)) refl (clean_joined w ws h)

few : (n : ℕ) → n ≤ 1000000 → nat_lt 1000000 n ≡ false
few n h = grind (arith, nat_tests)

-- a line of such words is judged by them
pub judged_joined : {D : Type 0} (judge : D → List (List ℕ) → Result D TextKind) (n : ℕ) (draft : D)
    (w : List ℕ) (ws : List (List ℕ))
    → n ≤ 1000000 → AreWhole (w ∷ ws)
    → numbered judge n draft (joined (w ∷ ws)) ≡ at_line n (judge draft (w ∷ ws))
judged_joined judge n draft w ws few_lines h =
    rw (few n few_lines, line_clean (joined (w ∷ ws)) (clean_joined w ws h), words_joined w ws h)
    refl
