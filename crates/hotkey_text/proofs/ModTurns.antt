-- Modifiers read in turns, word by word, as many as there may be: the same as those of all words at
-- once.
use Rattle.std.proofs.Common.{◌≡◌, ℕ, zero, suc, ◌<◌, ◌≤◌, List, [], ◌∷◌, length, Option, Some}
use Rattle.std.proofs.Common.{None, Result, Ok, Err, refl, ap, sym, ◌∙◌, arith}
use Rattle.share_base.specs.declared.numbers.Mask.{Mask}
use Rattle.text_lines.specs.declared.bytes.WordKind.TheVariants as word_kind
use Rattle.text_lines.specs.Bytes.{takes}
use Rattle.text_lines.specs.Reading.{◌>>=◌, Text, run_at, maybe_sign_at}
use Rattle.hotkey_text.specs.declared.faults.HotkeyFault.{HotkeyFault}
use Rattle.hotkey_text.specs.ChordWords.{ChordWords, chord_words, word_or_last, words_within}
use Rattle.hotkey_text.specs.Chords.{mask, mods_at, mods_of, with_last, with_modifier}
use Rattle.hotkey_text.proofs.FreeClasses.{free}
use Rattle.hotkey_text.proofs.NewClasses.{next_fewer}
use Rattle.hotkey_text.proofs.SpelledChordWords.{chord_run, part_of, plus_shorter, plus_there}

-- what goes on behind a sign
abbrev pub Turn : Type 0
Turn = Mask → List ℕ → Result (Mask × List ℕ) HotkeyFault

-- a word with a + behind it is one more modifier; without, it is the last word, which stands here
abbrev pub or_last_word : Turn → Mask → List ℕ → Text → Option (List ℕ)
    → Result (Mask × List ℕ) HotkeyFault
or_last_word more mods here word None = Ok (mods, here)
or_last_word more mods here word (Some rest) = with_modifier mods word >>= λ next. more next rest

-- the modifiers of a mask and those that stand here, which are at most so many; and the line from
-- the last word on
unfoldable pub mods_within : ℕ → Turn
mods_within zero mods xs = Ok (mods, xs)
mods_within (suc n) mods xs =
    or_last_word (mods_within n) mods xs (chord_run xs).0 (maybe_sign_at 43 (chord_run xs).1)

-- each of the five may stand once, so a sixth turn finds a fault or the last word
abbrev pub in_turns : List ℕ → Result (Mask × List ℕ) HotkeyFault
in_turns xs = mods_within 6 (mask 0) xs

-- what is made of the last word in each way of reading
abbrev from_words : {A : Type 0} → (Mask → Text × List ℕ → Result A HotkeyFault) → Mask → ChordWords
    → Result A HotkeyFault
from_words f m words = mods_of m words.mods >>= λ mods. f mods (words.last, words.rest)

abbrev from_turns : {A : Type 0} → (Mask → Text × List ℕ → Result A HotkeyFault)
    → Result (Mask × List ℕ) HotkeyFault → Result A HotkeyFault
from_turns f r = r >>= λ out. f out.0 (chord_run out.1)

abbrev AreSame : {A : Type 0} → (Mask → Text × List ℕ → Result A HotkeyFault) → ℕ → ℕ → Type 0
AreSame f n k =
    (m : Mask) (xs : List ℕ) → length xs ≤ k → m.0 < 32 → free m < n
    → from_turns f (mods_within n m xs) ≡ from_words f m (words_within k xs)

word_same : {A : Type 0} (f : Mask → Text × List ℕ → Result A HotkeyFault) (n k : ℕ) (m : Mask)
    (word : Text) (rest : List ℕ) (r : Result Mask HotkeyFault)
    → with_modifier m word ≡ r
    → AreSame f n k → length rest ≤ k → m.0 < 32 → free m < suc n
    → from_turns f (r >>= λ next. mods_within n next rest)
    ≡ ((r >>= λ next. mods_of next (words_within k rest).mods)
    >>= λ mods. f mods ((words_within k rest).last, (words_within k rest).rest))
word_same f n k m word rest (Err e) h again short small left = refl
word_same f n k m word rest (Ok next) h again short small left =
    let less = next_fewer m word next small h in
    again next rest short less.0 (omega (arith, less.1))

turn_same : {A : Type 0} (f : Mask → Text × List ℕ → Result A HotkeyFault) (n k : ℕ) (m : Mask)
    (xs : List ℕ) (o : Option (List ℕ))
    → AreSame f n k → maybe_sign_at 43 (chord_run xs).1 ≡ o
    → length xs ≤ suc k → m.0 < 32 → free m < suc n
    → from_turns f (or_last_word (mods_within n) m xs (chord_run xs).0 o)
    ≡ from_words f m (word_or_last (words_within k) (chord_run xs) o)
unfolding mods_of
turn_same f n k m xs None again e short small left = refl
turn_same f n k m xs (Some rest) again e short small left =
    let plus = plus_there (chord_run xs).1 rest e in
    let shorter = plus_shorter xs (chord_run xs).0 plus.gap rest (rw plus.parts at (part_of xs)) in
    word_same f n k m (chord_run xs).0 rest (with_modifier m (chord_run xs).0) refl again
    (omega arith) small left

all_same : {A : Type 0} (f : Mask → Text × List ℕ → Result A HotkeyFault) (n k : ℕ) → AreSame f n k
unfolding mods_within words_within mods_of maybe_sign_at
all_same f zero k m xs short small left = absurd (omega arith)
all_same f (suc n) zero m [] short small left = refl
all_same f (suc n) zero m (x ∷ xs) short small left = absurd (omega arith)
all_same f (suc n) (suc k) m xs short small left =
    turn_same f n k m xs (maybe_sign_at 43 (chord_run xs).1) (all_same f n k) refl short small left

pub made_then : {A B E C : Type 0} (r : Result A E) (g : A → B) (f : B → Result C E)
    → ((r >>= λ a. Ok (g a)) >>= f) ≡ (r >>= λ a. f (g a))
made_then (Ok a) g f = refl
made_then (Err e) g f = refl

-- a chord's words, and the same in turns
pub by_turns : {A : Type 0} (f : Mask → Text × List ℕ → Result A HotkeyFault) (xs : List ℕ)
    → (mods_at xs >>= λ chord. f chord.0 (chord.1, chord.2))
    ≡ (in_turns xs >>= λ out. f out.0 (chord_run out.1))
unfolding mods_at
by_turns f xs =
    let words = chord_words xs in
    made_then (mods_of (mask 0) words.mods) (λ (mods : Mask). (mods, words.last, words.rest))
    (λ chord. f chord.0 (chord.1, chord.2))
    ∙ sym (all_same f 6 (length xs) (mask 0) xs (omega arith) (omega arith) (omega arith))
