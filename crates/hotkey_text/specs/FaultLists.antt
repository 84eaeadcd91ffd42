-- All faults of the words in a hotkey's line, from the left. Each list of bytes here is the line
-- from there on.
use Rattle.std.specs.Prelude.{ℕ, ◌≤◌, Bool, true, false, not, ◌&&◌, ◌||◌, List, [], ◌∷◌, ◌++◌}
use Rattle.std.specs.Prelude.{length, Result, Ok, Err, Option, Some, None, is_some}
use Rattle.std.specs.List.{flat_map, list_any}
use Rattle.share_base.specs.Names.{same_name}
use Rattle.share_base.specs.Sides.{side_named}
use Rattle.text_lines.specs.declared.bytes.WordKind.TheVariants as word_kind
use Rattle.text_lines.specs.Bytes.{takes}
use Rattle.text_lines.specs.Numbers.{decimal_of}
use Rattle.text_lines.specs.Reading.{Text, run_at, begins, is_empty}
use Rattle.hotkey_text.specs.declared.names.ActionName.{ActionName}
use Rattle.hotkey_text.specs.declared.names.ActionName.TheVariants as name
use Rattle.hotkey_text.specs.declared.names.TriggerKind.{TriggerKind}
use Rattle.hotkey_text.specs.declared.names.TriggerKind.TheVariants as trigger_kind
use Rattle.hotkey_text.specs.declared.faults.HotkeyKind.{HotkeyKind}
use Rattle.hotkey_text.specs.declared.faults.HotkeyKind.TheVariants as kind
use Rattle.hotkey_text.specs.declared.faults.HotkeyFault.{HotkeyFault}
use Rattle.hotkey_text.specs.Faults.{fault_at}
use Rattle.hotkey_text.specs.Names.{action_named}
use Rattle.hotkey_text.specs.LockModes.{lock_named}
use Rattle.hotkey_text.specs.Keys.{key_named}
use Rattle.hotkey_text.specs.Chords.{class_named, allowed, button_of}
use Rattle.hotkey_text.specs.ChordWords.{chord_words}
use Rattle.hotkey_text.specs.Shapes.{ActionForm, HotkeyForm, has_some}
use Rattle.hotkey_text.specs.Arguments.{ScreenText, ActionText, Key, Mouse, Lock, SwitchTo}
use Rattle.hotkey_text.specs.Arguments.{SwitchToward}

abbrev pub fault_unless : Bool → HotkeyKind → ℕ → List HotkeyFault
fault_unless true k left = []
fault_unless false k left = fault_at k left ∷ []

-- ---- their faults

-- it names a class of modifiers that no word above names
abbrev pub is_new_modifier : List Text → Text → Bool
is_new_modifier above word =
    is_some (class_named word.text)
    && not (list_any (λ (w : Text). same_name w.text word.text) above)

unfoldable pub mod_faults : List Text → List Text → List HotkeyFault
mod_faults above [] = []
mod_faults above (word ∷ words) =
    fault_unless (is_new_modifier above word) kind.BadValue word.left
    ++ mod_faults (above ++ word ∷ []) words

-- a word more where the ) should stand
abbrev pub further_faults : List ℕ → List HotkeyFault
further_faults xs = fault_unless (begins 41 xs) kind.BadValue (length xs)

unfoldable pub key_chord_faults : Bool → List ℕ → List HotkeyFault
key_chord_faults modifiers xs = let words = chord_words xs in
    mod_faults [] words.mods
    ++ (fault_unless (is_some (allowed modifiers (key_named words.last.text))) kind.UnknownKey
    words.last.left
    ++ further_faults words.rest)

unfoldable pub mouse_chord_faults : List ℕ → List HotkeyFault
mouse_chord_faults xs = let words = chord_words xs in
    mod_faults [] words.mods
    ++ (fault_unless (is_some (button_of (decimal_of 255 words.last.text))) kind.BadValue
    words.last.left
    ++ further_faults words.rest)

-- of one word that has to be a good one
unfoldable pub word_faults : (List ℕ → Bool) → HotkeyKind → List ℕ → List HotkeyFault
word_faults is_good k xs =
    let word = run_at (takes word_kind.Choice) xs in
    fault_unless (is_good word.0.text) k word.0.left ++ further_faults word.1

-- ---- of an action, where a screen has the words that are known

abbrev pub argument_faults : (List ℕ → Bool) → ActionName → List ℕ → List HotkeyFault
argument_faults known (name.Key deed) xs = key_chord_faults true xs
argument_faults known (name.Mouse deed) xs = mouse_chord_faults xs
argument_faults known name.Lock xs = word_faults (λ w. is_some (lock_named w)) kind.BadValue xs
argument_faults known name.SwitchTo xs =
    word_faults (λ w. not (is_empty w) && known w) kind.UnknownScreen xs
argument_faults known name.SwitchToward xs =
    word_faults (λ w. is_some (side_named w)) kind.BadValue xs

-- of an action that nobody knows the argument has no form
abbrev pub named_faults : (List ℕ → Bool) → Option ActionName → ActionForm → List HotkeyFault
named_faults known None form = fault_at kind.UnknownAction form.word.left ∷ []
named_faults known (Some n) form = argument_faults known n form.argument

unfoldable pub action_faults : (List ℕ → Bool) → ActionForm → List HotkeyFault
action_faults known form = named_faults known (action_named form.word.text) form

-- ---- of a line

abbrev pub chord_faults : TriggerKind → List ℕ → List HotkeyFault
chord_faults trigger_kind.Key xs = key_chord_faults false xs
chord_faults trigger_kind.Mouse xs = mouse_chord_faults xs

-- without a list of actions something is missing at the line's end
unfoldable pub trigger_faults : HotkeyForm → List HotkeyFault
trigger_faults line =
    chord_faults line.kind line.argument
    ++ fault_unless (line.released || has_some line.press) kind.BadValue 0

unfoldable pub line_faults : (List ℕ → Bool) → HotkeyForm → List HotkeyFault
line_faults known line =
    trigger_faults line
    ++ (flat_map (action_faults known) line.press ++ flat_map (action_faults known) line.release)

-- ---- which comes

abbrev pub first : List HotkeyFault → Option HotkeyFault
first [] = None
first (f ∷ fs) = Some f

-- the fault for which words are refused, if they are
abbrev pub refusal_of : {A : Type 0} → Result A HotkeyFault → Option HotkeyFault
refusal_of (Ok x) = None
refusal_of (Err f) = Some f

-- what is left of an action's faults once its words are read: those of a screen's word, which
-- others look up
abbrev pub place_faults : Option ℕ → List HotkeyFault
place_faults None = []
place_faults (Some left) = fault_at kind.BadValue left ∷ []

abbrev pub screen_faults : (List ℕ → Bool) → ScreenText → List HotkeyFault
screen_faults known s =
    fault_unless (known s.word.text) kind.UnknownScreen s.word.left ++ place_faults s.further

abbrev pub faults_left : (List ℕ → Bool) → ActionText → List HotkeyFault
faults_left known (Key deed id mods) = []
faults_left known (Mouse deed b mods) = []
faults_left known (Lock mode) = []
faults_left known (SwitchTo s) = screen_faults known s
faults_left known (SwitchToward side) = []

abbrev pub refusal_among : (List ℕ → Bool) → Result ActionText HotkeyFault → Option HotkeyFault
refusal_among known (Ok text) = first (faults_left known text)
refusal_among known (Err f) = Some f

-- ---- their order

abbrev pub StandBehind : ℕ → List HotkeyFault → Type 0
StandBehind left [] = Unit {0}
StandBehind left (f ∷ fs) = (f.left ≤ left) × StandBehind left fs

-- none stands further to the left than one before it
abbrev pub StandFromTheLeft : List HotkeyFault → Type 0
StandFromTheLeft [] = Unit {0}
StandFromTheLeft (f ∷ fs) = StandBehind f.left fs × StandFromTheLeft fs
