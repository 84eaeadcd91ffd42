-- The words behind an action's name are read exactly where they are spelled: a mode of the lock, a
-- side, a screen.
use Rattle.std.proofs.Common.{◌≡◌, ℕ, cond, not, List, [], ◌∷◌, ◌++◌, length, Option, Some, None}
use Rattle.std.proofs.Common.{Result, Ok, refl, ap, sym, subst, ◌∙◌, take-append-drop}
use Rattle.std.specs.List.{list_all, prefix_len}
use Rattle.std.proofs.lemmas.Bool.{not-true}
use Rattle.std.proofs.lemmas.List.{append_cancel_left}
use Rattle.share_base.specs.declared.shape.Side.{Side}
use Rattle.share_base.specs.Sides.{side_text, sides, side_named}
use Rattle.share_base.proofs.SideWords.{side_found}
use Rattle.text_lines.specs.declared.bytes.WordKind.TheVariants as word_kind
use Rattle.text_lines.specs.Bytes.{takes, front, behind, unblanked}
use Rattle.text_lines.specs.Reading.{◌>>=◌, Text, run_at, begins, is_empty}
use Rattle.text_lines.specs.Spelling.{IsRun}
use Rattle.text_lines.proofs.SpelledWords.{run_takes, gap_again, some_filled, filled_some, text_of}
use Rattle.hotkey_rules.specs.declared.action.LockMode.{LockMode}
use Rattle.hotkey_rules.specs.declared.action.LockMode.TheVariants as lock
use Rattle.hotkey_text.specs.declared.faults.HotkeyFault.{HotkeyFault}
use Rattle.hotkey_text.specs.declared.faults.HotkeyKind.TheVariants as kind
use Rattle.hotkey_text.specs.Faults.{unless, or_fault}
use Rattle.hotkey_text.specs.LockModes.{lock_word, lock_named}
use Rattle.hotkey_text.specs.Chords.{closed_at}
use Rattle.hotkey_text.specs.Arguments.{ScreenText, lock_at, side_at, screen_at}
use Rattle.hotkey_text.specs.SpellingWords.{SpellsLast, SpellsScreen}
use Rattle.hotkey_text.proofs.WordsFound.{lock_found, each_mode, each_side}
use Rattle.hotkey_text.proofs.WordSteps.{table_word, test_passed, word_made, last_made, word_read}
use Rattle.hotkey_text.proofs.WordSteps.{went, there}

abbrev choice_run : List ℕ → Text × List ℕ
choice_run xs = run_at (takes word_kind.Choice) xs

-- ---- a mode of the lock

pub lock_takes : (xs : List ℕ) (m : LockMode) → lock_at xs ≡ Ok m → SpellsLast xs (lock_word m)
unfolding lock_at
lock_takes xs m e =
    let word = choice_run xs in
    let mode = went (or_fault (lock_named word.0.text) kind.BadValue word.0.left) _ m e in
    let close = went (closed_at word.1) _ m mode.2 in
    let same : mode.0 ≡ m = cc in
    let is =
    table_word lock_word (lock.On ∷ lock.Off ∷ lock.Toggle ∷ []) word.0.text mode.0
    (there _ _ _ mode.0 mode.1) in
    subst (λ (x : LockMode). SpellsLast xs (lock_word x)) same
    (subst (SpellsLast xs) is (last_made (takes word_kind.Choice) xs close.0 close.1))

lock_bytes : (m : LockMode) → IsRun (takes word_kind.Choice) (lock_word m)
lock_bytes = each_mode (λ m. list_all (takes word_kind.Choice) (lock_word m)) refl

abbrev lock_from : Text × List ℕ → Result LockMode HotkeyFault
lock_from word =
    or_fault (lock_named word.0.text) kind.BadValue word.0.left >>= λ mode. closed_at word.1
    >>= λ u. Ok mode

pub lock_read : (xs : List ℕ) (m : LockMode) → SpellsLast xs (lock_word m) → lock_at xs ≡ Ok m
unfolding lock_at
lock_read xs m w =
    ap lock_from
    (word_read word_kind.Choice refl xs (lock_word m) (41 ∷ w.0) w.1 (lock_bytes m) refl refl)
    ∙ rw (lock_found m) refl

-- ---- a side

pub side_takes : (xs : List ℕ) (s : Side) → side_at xs ≡ Ok s → SpellsLast xs (side_text s)
unfolding side_at
side_takes xs s e =
    let word = choice_run xs in
    let found = went (or_fault (side_named word.0.text) kind.BadValue word.0.left) _ s e in
    let close = went (closed_at word.1) _ s found.2 in
    let same : found.0 ≡ s = cc in
    let is = table_word side_text sides word.0.text found.0 (there _ _ _ found.0 found.1) in
    subst (λ (x : Side). SpellsLast xs (side_text x)) same
    (subst (SpellsLast xs) is (last_made (takes word_kind.Choice) xs close.0 close.1))

side_bytes : (s : Side) → IsRun (takes word_kind.Choice) (side_text s)
side_bytes = each_side (λ s. list_all (takes word_kind.Choice) (side_text s)) refl

abbrev side_from : Text × List ℕ → Result Side HotkeyFault
side_from word =
    or_fault (side_named word.0.text) kind.BadValue word.0.left >>= λ s. closed_at word.1
    >>= λ u. Ok s

pub side_read : (xs : List ℕ) (s : Side) → SpellsLast xs (side_text s) → side_at xs ≡ Ok s
unfolding side_at
side_read xs s w =
    ap side_from
    (word_read word_kind.Choice refl xs (side_text s) (41 ∷ w.0) w.1 (side_bytes s) refl refl)
    ∙ rw (side_found s) refl

-- ---- the word of a screen

abbrev further_at : List ℕ → Option ℕ
further_at rest = cond (begins 41 rest) None (Some (length rest))

pub screen_takes : (xs : List ℕ) (s : ScreenText) → screen_at xs ≡ Ok s → SpellsScreen xs s
unfolding screen_at
screen_takes xs s e =
    let word = choice_run xs in
    let some = went (unless (not (is_empty word.0.text)) kind.UnknownScreen word.0.left) _ s e in
    let given : ScreenText = record { word = word.0; further = further_at word.1 } in
    let same : given ≡ s = cc in
    let run = run_takes (takes word_kind.Choice) xs in
    subst (SpellsScreen xs) same
    (record {
      rest = word.1;
      text = word_made (takes word_kind.Choice) xs word.1 refl;
      longest = refl;
      some =
          some_filled word.0.text
          (not-true (is_empty word.0.text) (test_passed _ _ _ some.0 some.1));
      tight = run.gap.tight;
      further = refl;
      place = refl;
    })

screen_run : (xs : List ℕ) (s : ScreenText) (w : SpellsScreen xs s)
    → choice_run xs ≡ (s.word, w.rest)
screen_run xs s w =
    let p = takes word_kind.Choice in
    let word : front p xs ≡ s.word.text = sym w.longest in
    let whole : s.word.text ++ behind p xs ≡ s.word.text ++ (w.text.behind_word ++ w.rest) =
    ap (λ (t : List ℕ). t ++ behind p xs) w.longest ∙ take-append-drop (prefix_len p xs) xs
    ∙ w.text.text in
    let tail : unblanked (behind p xs) ≡ w.rest =
    ap unblanked (append_cancel_left s.word.text (behind p xs) (w.text.behind_word ++ w.rest) whole)
    ∙ gap_again w.text.behind_word w.rest w.text.gap w.tight in
    ap (λ (t : List ℕ). (text_of t (length xs), unblanked (behind p xs))) word
    ∙ ap (λ (n : ℕ). (text_of s.word.text n, unblanked (behind p xs))) (sym w.place)
    ∙ ap (λ (t : List ℕ). (s.word, t)) tail

abbrev screen_from : Text × List ℕ → Result ScreenText HotkeyFault
screen_from word =
    unless (not (is_empty word.0.text)) kind.UnknownScreen word.0.left
    >>= λ u. Ok (record { word = word.0; further = further_at word.1 })

pub screen_read : (xs : List ℕ) (s : ScreenText) → SpellsScreen xs s → screen_at xs ≡ Ok s
unfolding screen_at
screen_read xs s w =
    let some = filled_some s.word.text w.some in
    ap screen_from (screen_run xs s w)
    ∙ rw some
    (ap (λ (o : Option ℕ). Ok (record { word = s.word; further = o })) (sym w.further))
