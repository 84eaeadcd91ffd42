-- One turn over modifiers.
use Rattle.std.proofs.Common.{◌≡◌, ℕ, suc, ◌+◌, ◌<◌, List, ◌++◌, length, length-append, Option}
use Rattle.std.proofs.Common.{Some, None, Result, Ok, Err, ap, sym, ◌∙◌, arith}
use Rattle.share_base.specs.declared.numbers.Mask.{Mask}
use Rattle.text_lines.specs.declared.bytes.WordKind.TheVariants as word_kind
use Rattle.text_lines.specs.Bytes.{takes}
use Rattle.text_lines.specs.Reading.{◌>>=◌, Text, run_at, maybe_sign_at}
use Rattle.hotkey_text.specs.declared.faults.HotkeyFault.{HotkeyFault}
use Rattle.hotkey_text.specs.ChordWords.{ChordWords, chord_words, with_mod, word_or_last}
use Rattle.hotkey_text.specs.Chords.{mask, mods_at, mods_of, with_last, with_modifier}
use Rattle.hotkey_text.proofs.SpelledChordWords.{chord_run, chord_words_step, part_of, plus_there}
use Rattle.hotkey_text.proofs.ModTurns.{or_last_word, mods_within}

turn : (n : ℕ) (mods : Mask) (xs : List ℕ) (word : Text) (behind : List ℕ) (o : Option (List ℕ))
    → (word, behind) ≡ run_at (takes word_kind.Chord) xs → o ≡ maybe_sign_at 43 behind
    → mods_within (suc n) mods xs ≡ or_last_word (mods_within n) mods xs word o
unfolding mods_within
turn n mods xs word behind o e s =
    ap (λ (p : Text × List ℕ). or_last_word (mods_within n) mods xs p.0 (maybe_sign_at 43 p.1))
    (sym e)
    ∙ ap (or_last_word (mods_within n) mods xs word) (sym s)

-- no + follows the word
pub last_word : (n : ℕ) (mods : Mask) (xs : List ℕ) (word : Text) (behind : List ℕ)
    → (word, behind) ≡ run_at (takes word_kind.Chord) xs → None ≡ maybe_sign_at 43 behind
    → mods_within (suc n) mods xs ≡ Ok (mods, xs)
last_word n mods xs word behind e s = turn n mods xs word behind None e s

abbrev after : ℕ → List ℕ → Result Mask HotkeyFault → Result (Mask × List ℕ) HotkeyFault
after n rest r = r >>= λ next. mods_within n next rest

-- the word is one
pub one_modifier : (n : ℕ) (mods next : Mask) (xs : List ℕ) (word : Text) (behind rest : List ℕ)
    → (word, behind) ≡ run_at (takes word_kind.Chord) xs
    → Some rest ≡ maybe_sign_at 43 behind → Ok next ≡ with_modifier mods word
    → mods_within (suc n) mods xs ≡ mods_within n next rest
one_modifier n mods next xs word behind rest e s h =
    turn n mods xs word behind (Some rest) e s ∙ ap (after n rest) (sym h)

-- ---- the words of a chord, as the code goes over them

pub first_words : (xs : List ℕ) (p : Text × List ℕ) → p ≡ run_at (takes word_kind.Chord) xs
    → mods_at xs ≡ with_last (mask 0) (word_or_last chord_words p (maybe_sign_at 43 p.1))
unfolding mods_at
first_words xs p e =
    ap (with_last (mask 0)) (chord_words_step xs)
    ∙ ap
    (λ (q : Text × List ℕ).
    with_last (mask 0) (word_or_last chord_words q (maybe_sign_at 43 q.1)))
    (sym e)

pub last_words : (mods : Mask) (word : Text) (behind : List ℕ) → None ≡ maybe_sign_at 43 behind
    → with_last mods (word_or_last chord_words (word, behind) (maybe_sign_at 43 behind))
    ≡ Ok (mods, word, behind)
unfolding mods_of
last_words mods word behind s =
    ap (λ (o : Option (List ℕ)). with_last mods (word_or_last chord_words (word, behind) o)) (sym s)

more_words : (mods : Mask) (word : Text) (behind rest : List ℕ)
    → Some rest ≡ maybe_sign_at 43 behind
    → with_last mods (word_or_last chord_words (word, behind) (maybe_sign_at 43 behind))
    ≡ with_last mods (with_mod word (chord_words rest))
more_words mods word behind rest s =
    ap (λ (o : Option (List ℕ)). with_last mods (word_or_last chord_words (word, behind) o)) (sym s)

abbrev after_word : ChordWords → Result Mask HotkeyFault → Result (Mask × Text × List ℕ) HotkeyFault
after_word words r =
    (r >>= λ next. mods_of next words.mods) >>= λ all. Ok (all, words.last, words.rest)

pub refused_word : (mods : Mask) (word : Text) (behind rest : List ℕ) (f : HotkeyFault)
    → Some rest ≡ maybe_sign_at 43 behind → Err f ≡ with_modifier mods word
    → with_last mods (word_or_last chord_words (word, behind) (maybe_sign_at 43 behind)) ≡ Err f
unfolding mods_of
refused_word mods word behind rest f s h =
    more_words mods word behind rest s ∙ ap (after_word (chord_words rest)) (sym h)

pub taken_word : (mods next : Mask) (word : Text) (behind rest : List ℕ) (p : Text × List ℕ)
    → Some rest ≡ maybe_sign_at 43 behind → Ok next ≡ with_modifier mods word
    → p ≡ run_at (takes word_kind.Chord) rest
    → with_last mods (word_or_last chord_words (word, behind) (maybe_sign_at 43 behind))
    ≡ with_last next (word_or_last chord_words p (maybe_sign_at 43 p.1))
unfolding mods_of
taken_word mods next word behind rest p s h e =
    more_words mods word behind rest s
    ∙ ap (after_word (chord_words rest)) (sym h)
    ∙ ap (with_last next) (chord_words_step rest)
    ∙ ap (λ (q : Text × List ℕ). with_last next (word_or_last chord_words q (maybe_sign_at 43 q.1)))
    (sym e)

-- what follows the next word is shorter
pub shorter_behind : (behind rest : List ℕ) (p : Text × List ℕ)
    → Some rest ≡ maybe_sign_at 43 behind → p ≡ run_at (takes word_kind.Chord) rest
    → length p.1 < length behind
shorter_behind behind rest p s e =
    let plus = plus_there behind rest (sym s) in
    let part = part_of rest in
    let whole : length rest ≡ length (chord_run rest).0.text + length part.tail =
    ap length part.text ∙ length-append (chord_run rest).0.text part.tail in
    let gap : length part.tail ≡ length part.gap + length (chord_run rest).1 =
    ap length part.behind ∙ length-append part.gap (chord_run rest).1 in
    let sign : length behind ≡ suc (length (plus.gap ++ rest)) = ap length plus.parts in
    let same : length p.1 ≡ length (chord_run rest).1 = ap (λ (q : Text × List ℕ). length q.1) e in
    omega (arith, whole, gap, sign, same, length-append plus.gap rest)
