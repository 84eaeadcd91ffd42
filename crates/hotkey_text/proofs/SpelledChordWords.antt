-- Each text has words of modifiers, a last word and what follows it, in one way alone.
use Rattle.std.proofs.Common.{◌≡◌, ℕ, zero, suc, ◌<◌, ◌≤◌, Bool, true, false, List, [], ◌∷◌, ◌++◌}
use Rattle.std.proofs.Common.{length, length-append, Option, Some, None, refl, ap, sym, subst, ◌∙◌}
use Rattle.std.proofs.Common.{arith}
use Rattle.text_lines.specs.declared.bytes.WordKind.TheVariants as word_kind
use Rattle.text_lines.specs.Bytes.{takes, is_tight, unblanked, front, behind}
use Rattle.text_lines.specs.Reading.{Text, run_at, maybe_sign_at, begins}
use Rattle.text_lines.specs.Spelling.{IsGap}
use Rattle.text_lines.proofs.MaybeSigns.{maybe_sign_takes, maybe_sign_again, other_there}
use Rattle.text_lines.proofs.MaybeSigns.{no_maybe_sign}
use Rattle.text_lines.proofs.SpelledWords.{gap_again, Breaks, front_again, behind_again, run_takes}
use Rattle.text_lines.proofs.SpelledWords.{text_of}
use Rattle.hotkey_text.specs.ChordWords.{ChordWords, with_mod, word_or_last, words_within}
use Rattle.hotkey_text.specs.ChordWords.{chord_words, SpellsPart, SpellsParts, SpellsChordWords}

-- ---- a word

abbrev pub chord_run : List ℕ → Text × List ℕ
chord_run xs = run_at (takes word_kind.Chord) xs

pub part_of : (xs : List ℕ) → SpellsPart xs (chord_run xs).0 (chord_run xs).1
part_of xs =
    let r = run_takes (takes word_kind.Chord) xs in
    record {
      tail = r.tail;
      gap = r.gap.gap;
      text = r.parts;
      behind = r.gap.parts;
      run = r.run;
      whole = λ b bs e. subst (Breaks (takes word_kind.Chord)) e r.breaks;
      blank = r.gap.blank;
      tight = r.gap.tight;
      place = r.place;
    }

breaks_of : (p : ℕ → Bool) (tail : List ℕ) → ((b : ℕ) (bs : List ℕ) → tail ≡ b ∷ bs → p b ≡ false)
    → Breaks p tail
breaks_of p [] h = tt
breaks_of p (b ∷ bs) h = h b bs refl

abbrev text_before : List ℕ → ℕ → List ℕ → Text × List ℕ
text_before word left rest = (text_of word left, rest)

pub part_again : (xs : List ℕ) (word : Text) (rest : List ℕ) → SpellsPart xs word rest
    → chord_run xs ≡ (word, rest)
part_again xs word rest h =
    let p = takes word_kind.Chord in
    let breaks = breaks_of p h.tail h.whole in
    let taken : front p xs ≡ word.text =
    ap (front p) h.text ∙ front_again p word.text h.tail h.run breaks in
    let left : behind p xs ≡ h.tail =
    ap (behind p) h.text ∙ behind_again p word.text h.tail h.run breaks in
    let rest_of : unblanked (behind p xs) ≡ rest =
    ap unblanked left ∙ ap unblanked h.behind ∙ gap_again h.gap rest h.blank h.tight in
    ap (λ (w : List ℕ). text_before w (length xs) (unblanked (behind p xs))) taken
    ∙ ap (λ (n : ℕ). text_before word.text n (unblanked (behind p xs))) (sym h.place)
    ∙ ap (λ (r : List ℕ). text_before word.text word.left r) rest_of

-- ---- a + behind it

pub record Plus (xs rest : List ℕ) : Type 0 where
  pub gap : List ℕ
  pub parts : xs ≡ 43 ∷ (gap ++ rest)
  pub blank : IsGap gap
  pub tight : is_tight rest ≡ true

pub plus_there : (xs rest : List ℕ) → maybe_sign_at 43 xs ≡ Some rest → Plus xs rest
plus_there xs rest h =
    let s = maybe_sign_takes 43 xs rest h in
    record {
      gap = s.gap.gap;
      parts = s.parts ∙ ap (λ (t : List ℕ). 43 ∷ t) s.gap.parts;
      blank = s.gap.blank;
      tight = s.gap.tight;
    }

-- a word with a + behind it is longer than what follows them
pub plus_shorter : (xs : List ℕ) (word : Text) (gap rest : List ℕ)
    → SpellsPart xs word (43 ∷ (gap ++ rest)) → length rest < length xs
plus_shorter xs word gap rest h =
    omega (
      arith,
      ap length h.text,
      length-append word.text h.tail,
      ap length h.behind,
      length-append h.gap (43 ∷ (gap ++ rest)),
      length-append gap rest,
    )

-- ---- all words

abbrev AreSpelled : ℕ → Type 0
AreSpelled n = (xs : List ℕ) → length xs ≤ n → SpellsChordWords xs (words_within n xs)

spelled_then : (n : ℕ) (xs : List ℕ) (o : Option (List ℕ)) → AreSpelled n → length xs ≤ suc n
    → maybe_sign_at 43 (chord_run xs).1 ≡ o
    → SpellsChordWords xs (word_or_last (words_within n) (chord_run xs) o)
spelled_then n xs None again h e =
    record { here = xs; mods = refl; last = part_of xs; none = other_there 43 (chord_run xs).1 e }
spelled_then n xs (Some rest) again h e =
    let plus = plus_there (chord_run xs).1 rest e in
    let part = subst (λ (r : List ℕ). SpellsPart xs (chord_run xs).0 r) plus.parts (part_of xs) in
    let shorter = plus_shorter xs (chord_run xs).0 plus.gap rest part in
    let others = again rest (omega arith) in
    record {
      here = others.here;
      mods =
          record {
            behind_sign = plus.gap;
            rest = rest;
            part = part;
            gap = plus.blank;
            tight = plus.tight;
            others = others.mods;
          };
      last = others.last;
      none = others.none;
    }

spelled_within : (n : ℕ) → AreSpelled n
unfolding words_within
spelled_within zero [] h = record { here = []; mods = refl; last = part_of []; none = refl }
spelled_within zero (x ∷ xs) h = absurd (omega arith)
spelled_within (suc n) xs h =
    spelled_then n xs (maybe_sign_at 43 (chord_run xs).1) (spelled_within n) h refl

pub chord_words_spelled : (xs : List ℕ) → SpellsChordWords xs (chord_words xs)
chord_words_spelled xs = spelled_within (length xs) xs (omega arith)

-- ---- in one way alone

abbrev chord_of : List Text → Text → List ℕ → ChordWords
chord_of mods last rest = record { mods = mods; last = last; rest = rest }

last_within : (n : ℕ) (xs : List ℕ) (last : Text) (rest : List ℕ) → SpellsPart xs last rest
    → begins 43 rest ≡ false → words_within n xs ≡ chord_of [] last rest
unfolding words_within
last_within zero xs last rest h e =
    ap (λ (p : Text × List ℕ). chord_of [] p.0 p.1) (part_again xs last rest h)
last_within (suc n) xs last rest h e =
    ap (λ (p : Text × List ℕ). word_or_last (words_within n) p (maybe_sign_at 43 p.1))
    (part_again xs last rest h)
    ∙ ap (word_or_last (words_within n) (last, rest)) (no_maybe_sign 43 rest e)

more_within : (n : ℕ) (xs : List ℕ) (word : Text) (gap rest : List ℕ)
    → SpellsPart xs word (43 ∷ (gap ++ rest)) → IsGap gap → is_tight rest ≡ true
    → words_within (suc n) xs ≡ with_mod word (words_within n rest)
unfolding words_within
more_within n xs word gap rest h g t =
    ap (λ (p : Text × List ℕ). word_or_last (words_within n) p (maybe_sign_at 43 p.1))
    (part_again xs word (43 ∷ (gap ++ rest)) h)
    ∙ ap (word_or_last (words_within n) (word, 43 ∷ (gap ++ rest)))
    (maybe_sign_again 43 gap rest g t)

parts_within : (n : ℕ) (xs : List ℕ) (words : List Text) (last : Text) (here rest : List ℕ)
    → length xs ≤ n → SpellsParts xs words here → SpellsPart here last rest
    → begins 43 rest ≡ false → words_within n xs ≡ chord_of words last rest
parts_within n xs [] last here rest h s l e =
    ap (words_within n) s ∙ last_within n here last rest l e
parts_within zero xs (word ∷ words) last here rest h s l e =
    absurd (omega (arith, plus_shorter xs word s.behind_sign s.rest s.part))
parts_within (suc n) xs (word ∷ words) last here rest h s l e =
    let shorter = plus_shorter xs word s.behind_sign s.rest s.part in
    more_within n xs word s.behind_sign s.rest s.part s.gap s.tight
    ∙ ap (with_mod word) (parts_within n s.rest words last here rest (omega arith) s.others l e)

pub chord_words_again : (xs : List ℕ) (words : ChordWords) → SpellsChordWords xs words
    → chord_words xs ≡ words
chord_words_again xs words h =
    parts_within (length xs) xs words.mods words.last h.here words.rest (omega arith) h.mods h.last
    h.none

-- more turns than there are bytes answer the same
pub enough_words : (n : ℕ) (xs : List ℕ) → length xs ≤ n → words_within n xs ≡ chord_words xs
enough_words n xs h =
    let s = chord_words_spelled xs in
    parts_within n xs (chord_words xs).mods (chord_words xs).last s.here (chord_words xs).rest h
    s.mods s.last s.none

step_by : (n : ℕ) (xs : List ℕ) (o : Option (List ℕ)) → length xs ≤ suc n
    → maybe_sign_at 43 (chord_run xs).1 ≡ o
    → word_or_last (words_within n) (chord_run xs) o ≡ word_or_last chord_words (chord_run xs) o
step_by n xs None h e = refl
step_by n xs (Some rest) h e =
    let plus = plus_there (chord_run xs).1 rest e in
    let shorter = plus_shorter xs (chord_run xs).0 plus.gap rest (rw plus.parts at (part_of xs)) in
    ap (with_mod (chord_run xs).0) (enough_words n rest (omega arith))

-- the first of them, and the others
pub chord_words_step : (xs : List ℕ)
    → chord_words xs ≡ word_or_last chord_words (chord_run xs) (maybe_sign_at 43 (chord_run xs).1)
unfolding words_within
chord_words_step xs =
    sym (enough_words (suc (length xs)) xs (omega arith))
    ∙ step_by (length xs) xs (maybe_sign_at 43 (chord_run xs).1) (omega arith) refl
