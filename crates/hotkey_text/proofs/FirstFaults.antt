-- The words of a hotkey's line are refused for the first of all their faults.
use Rattle.std.proofs.Common.{◌≡◌, ℕ, zero, suc, ◌<◌, ◌≤◌, Bool, true, false, not, ◌&&◌, ◌||◌, List}
use Rattle.std.proofs.Common.{[], ◌∷◌, ◌++◌, length, Option, Some, None, Result, Ok, Err, refl, ap}
use Rattle.std.proofs.Common.{sym, ◌∙◌, ◌⊎◌, inl, inr, arith}
use Rattle.std.specs.Prelude.{is_some, if◌then◌else◌}
use Rattle.share_base.specs.Sides.{side_named}
use Rattle.share_base.specs.declared.numbers.Mask.{Mask}
use Rattle.text_lines.specs.declared.bytes.WordKind.TheVariants as word_kind
use Rattle.text_lines.specs.Bytes.{takes}
use Rattle.text_lines.specs.Numbers.{decimal_of}
use Rattle.text_lines.specs.Reading.{◌>>=◌, Text, run_at, maybe_sign_at, begins, is_empty}
use Rattle.hotkey_rules.specs.declared.trigger.Trigger.{Trigger}
use Rattle.hotkey_text.specs.declared.chords.KeyChord.{KeyChord}
use Rattle.hotkey_text.specs.declared.chords.MouseChord.{MouseChord}
use Rattle.hotkey_text.specs.declared.faults.HotkeyFault.{HotkeyFault}
use Rattle.hotkey_text.specs.declared.faults.HotkeyKind.{HotkeyKind}
use Rattle.hotkey_text.specs.declared.faults.HotkeyKind.TheVariants as kind
use Rattle.hotkey_text.specs.declared.names.ActionName.{ActionName}
use Rattle.hotkey_text.specs.declared.names.ActionName.TheVariants as name
use Rattle.hotkey_text.specs.declared.names.TriggerKind.{TriggerKind}
use Rattle.hotkey_text.specs.declared.names.TriggerKind.TheVariants as trigger_kind
use Rattle.hotkey_text.specs.Faults.{unless, or_fault}
use Rattle.hotkey_text.specs.Names.{action_named}
use Rattle.hotkey_text.specs.LockModes.{lock_named}
use Rattle.hotkey_text.specs.Keys.{key_named}
use Rattle.hotkey_text.specs.Chords.{mask, mods_of, mods_at, closed_at, allowed, key_chord_at}
use Rattle.hotkey_text.specs.Chords.{button_of, mouse_chord_at}
use Rattle.hotkey_text.specs.ChordWords.{ChordWords, word_or_last, words_within, chord_words}
use Rattle.hotkey_text.specs.Shapes.{ActionForm, HotkeyForm, has_some}
use Rattle.hotkey_text.specs.Arguments.{trigger_at, trigger_of, ScreenText, ActionText, SwitchTo}
use Rattle.hotkey_text.specs.Arguments.{lock_at, side_at, screen_at, argument_of, action_of}
use Rattle.hotkey_text.specs.FaultLists.{fault_unless, mod_faults, further_faults, key_chord_faults}
use Rattle.hotkey_text.specs.FaultLists.{mouse_chord_faults, word_faults, argument_faults}
use Rattle.hotkey_text.specs.FaultLists.{named_faults, action_faults, chord_faults, trigger_faults}
use Rattle.hotkey_text.specs.FaultLists.{first, refusal_of, faults_left, refusal_among}
use Rattle.hotkey_text.proofs.SpelledChordWords.{chord_run, part_of, plus_there, plus_shorter}
use Rattle.hotkey_text.proofs.ModTurns.{made_then}
use Rattle.hotkey_text.proofs.WordsAbove.{StandsFor, stands_for_none, Refused, Taken, judged}

-- ---- steps

step : {A : Type 0} (b : Bool) (k : HotkeyKind) (left : ℕ) (f : Unit {0} → Result A HotkeyFault)
    (fs : List HotkeyFault)
    → refusal_of (f tt) ≡ first fs
    → refusal_of (unless b k left >>= f) ≡ first (fault_unless b k left ++ fs)
step true k left f fs h = h
step false k left f fs h = refl

last : {A : Type 0} (b : Bool) (k : HotkeyKind) (left : ℕ) (x : A)
    → refusal_of (unless b k left >>= λ _. Ok x) ≡ first (fault_unless b k left)
last true k left x = refl
last false k left x = refl

found_step : {A B : Type 0} (o : Option A) (k : HotkeyKind) (left : ℕ)
    (f : A → Result B HotkeyFault) (fs : List HotkeyFault)
    → ((a : A) → refusal_of (f a) ≡ first fs)
    → refusal_of (or_fault o k left >>= f) ≡ first (fault_unless (is_some o) k left ++ fs)
found_step None k left f fs h = refl
found_step (Some a) k left f fs h = h a

-- ---- modifiers

-- a reader f goes on with the last word, and is refused for the first of the faults fs
abbrev GoesOn : {A : Type 0} → (Mask → Result A HotkeyFault) → List HotkeyFault → Type 0
GoesOn f fs = (mods : Mask) → refusal_of (f mods) ≡ first fs

word_first : {A : Type 0} (f : Mask → Result A HotkeyFault) (fs : List HotkeyFault) (m : Mask)
    (above : List Text) (word : Text) (words : List Text)
    → ((next : Mask) → StandsFor next (above ++ word ∷ [])
    → refusal_of (mods_of next words >>= f)
    ≡ first (mod_faults (above ++ word ∷ []) words ++ fs))
    → Refused m above word ⊎ Taken m above word
    → refusal_of (mods_of m (word ∷ words) >>= f)
    ≡ first (mod_faults above (word ∷ words) ++ fs)
unfolding mods_of mod_faults
word_first f fs m above word words again (inl r) = rw (r.read, r.judged) refl
word_first f fs m above word words again (inr t) = rw (t.read, t.judged) (again t.next t.stands)

mods_first : {A : Type 0} (f : Mask → Result A HotkeyFault) (fs : List HotkeyFault) (m : Mask)
    (above words : List Text)
    → StandsFor m above → GoesOn f fs
    → refusal_of (mods_of m words >>= f) ≡ first (mod_faults above words ++ fs)
unfolding mods_of mod_faults
mods_first f fs m above [] s go = go m
mods_first f fs m above (word ∷ words) s go =
    word_first f fs m above word words
    (λ next stands. mods_first f fs next (above ++ word ∷ []) words stands go)
    (judged m above word s)

-- ---- a key, and a button

abbrev key_at : Bool → Mask → Text × List ℕ → Result KeyChord HotkeyFault
key_at modifiers mods word =
    or_fault (allowed modifiers (key_named word.0.text)) kind.UnknownKey word.0.left
    >>= λ id. closed_at word.1 >>= λ _. Ok (record { id = id; mods = mods })

key_first : (modifiers : Bool) (mods : Mask) (word : Text × List ℕ)
    → refusal_of (key_at modifiers mods word)
    ≡ first
    (fault_unless (is_some (allowed modifiers (key_named word.0.text))) kind.UnknownKey
    word.0.left
    ++ further_faults word.1)
key_first modifiers mods word =
    found_step (allowed modifiers (key_named word.0.text)) kind.UnknownKey word.0.left _ _
    (λ id. last (begins 41 word.1) kind.BadValue (length word.1) _)

first_of_key : (modifiers : Bool) (xs : List ℕ)
    → refusal_of (key_chord_at modifiers xs) ≡ first (key_chord_faults modifiers xs)
unfolding key_chord_at key_chord_faults mods_at
first_of_key modifiers xs =
    let words = chord_words xs in
    ap refusal_of
    (made_then (mods_of (mask 0) words.mods) (λ (mods : Mask). (mods, words.last, words.rest))
    (λ chord. key_at modifiers chord.0 (chord.1, chord.2)))
    ∙ mods_first (λ mods. key_at modifiers mods (words.last, words.rest)) _ (mask 0) [] words.mods
    stands_for_none (λ mods. key_first modifiers mods (words.last, words.rest))

abbrev button_at : Mask → Text × List ℕ → Result MouseChord HotkeyFault
button_at mods word =
    or_fault (button_of (decimal_of 255 word.0.text)) kind.BadValue word.0.left
    >>= λ b. closed_at word.1 >>= λ _. Ok (record { b = b; mods = mods })

button_first : (mods : Mask) (word : Text × List ℕ)
    → refusal_of (button_at mods word)
    ≡ first
    (fault_unless (is_some (button_of (decimal_of 255 word.0.text))) kind.BadValue
    word.0.left
    ++ further_faults word.1)
button_first mods word =
    found_step (button_of (decimal_of 255 word.0.text)) kind.BadValue word.0.left _ _
    (λ b. last (begins 41 word.1) kind.BadValue (length word.1) _)

first_of_mouse : (xs : List ℕ) → refusal_of (mouse_chord_at xs) ≡ first (mouse_chord_faults xs)
unfolding mouse_chord_at mouse_chord_faults mods_at
first_of_mouse xs =
    let words = chord_words xs in
    ap refusal_of
    (made_then (mods_of (mask 0) words.mods) (λ (mods : Mask). (mods, words.last, words.rest))
    (λ chord. button_at chord.0 (chord.1, chord.2)))
    ∙ mods_first (λ mods. button_at mods (words.last, words.rest)) _ (mask 0) [] words.mods
    stands_for_none (λ mods. button_first mods (words.last, words.rest))

-- ---- triggers

then_made : {A B : Type 0} (r : Result A HotkeyFault) (make : A → B)
    → refusal_of (r >>= λ a. Ok (make a)) ≡ refusal_of r
then_made (Ok a) make = refl
then_made (Err f) make = refl

first_of_chord : (of : TriggerKind) (xs : List ℕ)
    → refusal_of (trigger_at of xs) ≡ first (chord_faults of xs)
first_of_chord trigger_kind.Key xs = then_made (key_chord_at false xs) _ ∙ first_of_key false xs
first_of_chord trigger_kind.Mouse xs = then_made (mouse_chord_at xs) _ ∙ first_of_mouse xs

none_first : (fs gs : List HotkeyFault) → None ≡ first fs → first (fs ++ gs) ≡ first gs
none_first [] gs h = refl
none_first (f ∷ fs) gs h = absurd cc

some_first : (f : HotkeyFault) (fs gs : List HotkeyFault) → Some f ≡ first fs
    → Some f ≡ first (fs ++ gs)
some_first f [] gs h = absurd cc
some_first f (g ∷ fs) gs h = h

behind_chord : (r : Result Trigger HotkeyFault) (fs : List HotkeyFault) (b : Bool) (k : HotkeyKind)
    (left : ℕ)
    → refusal_of r ≡ first fs
    → refusal_of (r >>= λ t. unless b k left >>= λ _. Ok t) ≡ first (fs ++ fault_unless b k left)
behind_chord (Ok t) fs b k left h = last b k left t ∙ sym (none_first fs (fault_unless b k left) h)
behind_chord (Err f) fs b k left h = some_first f fs (fault_unless b k left) h

pub first_of_trigger : (line : HotkeyForm)
    → refusal_of (trigger_of line) ≡ first (trigger_faults line)
unfolding trigger_of trigger_faults
first_of_trigger line =
    behind_chord (trigger_at line.kind line.argument) (chord_faults line.kind line.argument)
    (line.released || has_some line.press) kind.BadValue 0 (first_of_chord line.kind line.argument)

-- ---- actions

-- an action whose words leave no fault to others
among_made : {A : Type 0} (known : List ℕ → Bool) (r : Result A HotkeyFault) (make : A → ActionText)
    → ((a : A) → faults_left known (make a) ≡ [])
    → refusal_among known (r >>= λ a. Ok (make a)) ≡ refusal_of r
among_made known (Ok a) make h = ap first (h a)
among_made known (Err f) make h = refl

word_first_of : {A : Type 0} (named : List ℕ → Option A) (word : Text × List ℕ)
    → refusal_of
    (or_fault (named word.0.text) kind.BadValue word.0.left >>= λ a. closed_at word.1
    >>= λ _. Ok a)
    ≡ first
    (fault_unless (is_some (named word.0.text)) kind.BadValue word.0.left
    ++ further_faults word.1)
word_first_of named word =
    found_step (named word.0.text) kind.BadValue word.0.left _ _
    (λ a. last (begins 41 word.1) kind.BadValue (length word.1) a)

first_of_lock : (xs : List ℕ)
    → refusal_of (lock_at xs) ≡ first (word_faults (λ w. is_some (lock_named w)) kind.BadValue xs)
unfolding lock_at word_faults
first_of_lock xs = word_first_of lock_named (run_at (takes word_kind.Choice) xs)

first_of_side : (xs : List ℕ)
    → refusal_of (side_at xs) ≡ first (word_faults (λ w. is_some (side_named w)) kind.BadValue xs)
unfolding side_at word_faults
first_of_side xs = word_first_of side_named (run_at (takes word_kind.Choice) xs)

abbrev screen_of : Text → Option ℕ → ScreenText
screen_of word further = record { word = word; further = further }

screen_first : (t b : Bool) (known : List ℕ → Bool) (word : Text) (left : ℕ)
    → refusal_among known
    ((unless t kind.UnknownScreen word.left
    >>= λ _. Ok (screen_of word (if b then None else Some left)))
    >>= λ s. Ok (SwitchTo s))
    ≡ first
    (fault_unless (t && known word.text) kind.UnknownScreen word.left
    ++ fault_unless b kind.BadValue left)
screen_first false b known word left = refl
screen_first true true known word left = refl
screen_first true false known word left = refl

first_of_screen : (known : List ℕ → Bool) (xs : List ℕ)
    → refusal_among known (screen_at xs >>= λ s. Ok (SwitchTo s))
    ≡ first (word_faults (λ w. not (is_empty w) && known w) kind.UnknownScreen xs)
unfolding screen_at word_faults
first_of_screen known xs =
    let word = run_at (takes word_kind.Choice) xs in
    screen_first (not (is_empty word.0.text)) (begins 41 word.1) known word.0 (length word.1)

first_of_argument : (known : List ℕ → Bool) (n : ActionName) (xs : List ℕ)
    → refusal_among known (argument_of n xs) ≡ first (argument_faults known n xs)
first_of_argument known (name.Key deed) xs =
    among_made known (key_chord_at true xs) _ (λ c. refl) ∙ first_of_key true xs
first_of_argument known (name.Mouse deed) xs =
    among_made known (mouse_chord_at xs) _ (λ c. refl) ∙ first_of_mouse xs
first_of_argument known name.Lock xs =
    among_made known (lock_at xs) _ (λ m. refl) ∙ first_of_lock xs
first_of_argument known name.SwitchTo xs = first_of_screen known xs
first_of_argument known name.SwitchToward xs =
    among_made known (side_at xs) _ (λ s. refl) ∙ first_of_side xs

first_of_named : (known : List ℕ → Bool) (o : Option ActionName) (form : ActionForm)
    → refusal_among known
    (or_fault o kind.UnknownAction form.word.left >>= λ n. argument_of n form.argument)
    ≡ first (named_faults known o form)
first_of_named known None form = refl
first_of_named known (Some n) form = first_of_argument known n form.argument

pub first_of_action : (known : List ℕ → Bool) (form : ActionForm)
    → refusal_among known (action_of form) ≡ first (action_faults known form)
unfolding action_of action_faults
first_of_action known form = first_of_named known (action_named form.word.text) form
