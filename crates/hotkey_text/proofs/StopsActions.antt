-- Where arguments, actions and lists of them can't go on.
use Rattle.std.proofs.Common.{◌≡◌, ℕ, Bool, false, not, ◌==◌, List, [], ◌∷◌, ◌++◌, length, Result}
use Rattle.std.proofs.Common.{Ok, Err, refl, ap, sym, subst, ◌∙◌, append_assoc, append-nil, arith}
use Rattle.std.proofs.Common.{take-append-drop}
use Rattle.std.specs.List.{prefix_len}
use Rattle.std.proofs.lemmas.Bool.{both_ways}
use Rattle.text_lines.specs.declared.bytes.WordKind.TheVariants as kind
use Rattle.text_lines.specs.Bytes.{takes, is_tight, front, behind}
use Rattle.text_lines.specs.Reading.{Text, word_at, sign_at, begins}
use Rattle.text_lines.proofs.SpelledWords.{on_err, Sign, NoSign, Word, Breaks, behind_breaks}
use Rattle.text_lines.proofs.SpelledWords.{front_run, word_takes, sign_takes, sign_stops, no_sign}
use Rattle.text_lines.proofs.Stopping.{NoWord, word_stops, no_word, same_next, word_gap_again, flat}
use Rattle.hotkey_text.specs.Shapes.{argument_at, action_at}
use Rattle.hotkey_text.specs.Spelling.{SpellsBrackets, SpellsAction}
use Rattle.hotkey_text.proofs.SpelledBrackets.{tight_front}
use Rattle.hotkey_text.proofs.Fronts.{next_first}

-- what is good so far can be ended, with any rest behind it, and is never read over the byte that
-- stands there
pub record Halts {A X : Type 0} (Spells : List ℕ → A → List ℕ → Type 0)
    (reads : List ℕ → Result X ℕ) (xs : List ℕ) (left : ℕ) : Type 0 where
  pub good : List ℕ
  pub bad : List ℕ
  pub parts : xs ≡ good ++ bad
  pub place : length bad ≡ left
  pub more : List ℕ
  pub opens : (tail : List ℕ) → begins 59 (more ++ tail) ≡ false
  pub ends : (tail : List ℕ) → (x : A) × Spells (good ++ (more ++ tail)) x tail
  pub stuck : (b : ℕ) (rest : List ℕ) → bad ≡ b ∷ rest → (u : List ℕ)
      → (n : ℕ) × (reads (good ++ b ∷ u) ≡ Err n)

-- ---- an argument

-- (), with nothing behind the signs
empty_brackets : (tail : List ℕ) → SpellsBrackets (40 ∷ 41 ∷ tail) (41 ∷ tail) tail
empty_brackets tail =
    record {
      behind_open = [];
      inside = [];
      behind_close = [];
      text = refl;
      closes = refl;
      run = refl;
      tight = refl;
      gaps = (refl, refl);
    }

never_opened : (b : ℕ) (u : List ℕ) → (b == 40) ≡ false → argument_at (b ∷ u) ≡ Err (length (b ∷ u))
unfolding argument_at
never_opened b u h = rw (no_sign 40 b u h) refl

not_opened : (xs : List ℕ) (left : ℕ) → NoSign 40 xs left → Halts SpellsBrackets argument_at xs left
not_opened xs left n =
    record {
      good = [];
      bad = xs;
      parts = refl;
      place = n.place;
      more = 40 ∷ 41 ∷ [];
      opens = λ tail. refl;
      ends = λ tail. (41 ∷ tail, empty_brackets tail);
      stuck = λ b rest e u. (length (b ∷ u), never_opened b u (n.other b rest e));
    }

-- behind an argument stands its ), or nothing
ended : (xs : List ℕ) (left : ℕ) → Breaks (takes kind.Argument) xs → NoSign 41 xs left
    → (xs ≡ []) × (left ≡ 0)
ended [] left k n = (refl, sym n.place)
ended (b ∷ bs) left k n = absurd (both_ways (not (b == 41)) k (ap not (n.other b bs refl)))

not_closed : (xs argument : List ℕ) (left : ℕ) → Sign 40 xs argument
    → NoSign 41 (behind (takes kind.Argument) argument) left
    → Halts SpellsBrackets argument_at xs left
not_closed xs argument left s n =
    let inside = front (takes kind.Argument) argument in
    let tail = behind (takes kind.Argument) argument in
    let end = ended tail left (behind_breaks (takes kind.Argument) argument) n in
    let parts : argument ≡ inside ++ tail =
    sym (take-append-drop (prefix_len (takes kind.Argument) argument) argument) in
    let whole : argument ≡ inside =
    parts ∙ ap (λ (t : List ℕ). inside ++ t) end.0 ∙ append-nil inside in
    let good = 40 ∷ (s.gap.gap ++ inside) in
    record {
      good = good;
      bad = [];
      parts =
          s.parts
          ∙ ap (λ (t : List ℕ). 40 ∷ t) (s.gap.parts ∙ ap (λ (t : List ℕ). s.gap.gap ++ t) whole)
          ∙ sym (append-nil good);
      place = sym end.1;
      more = 41 ∷ [];
      opens = λ rest. refl;
      ends = λ rest. (
        inside ++ 41 ∷ rest,
        record {
          behind_open = s.gap.gap;
          inside = inside;
          behind_close = [];
          text = ap (λ (t : List ℕ). 40 ∷ t) (append_assoc s.gap.gap inside (41 ∷ rest));
          closes = refl;
          run = front_run (takes kind.Argument) argument;
          tight = tight_front inside tail (ap is_tight (sym parts) ∙ s.gap.tight);
          gaps = (s.gap.blank, refl);
        },
      );
      stuck = λ b rest e u. absurd cc;
    }

pub argument_halts : (xs : List ℕ) (left : ℕ) → argument_at xs ≡ Err left
    → Halts SpellsBrackets argument_at xs left
unfolding argument_at
argument_halts xs left h =
    on_err (sign_at 40 xs) _ left h (λ e. not_opened xs left (sign_stops 40 xs left e))
    (λ argument o h.
    on_err (sign_at 41 (behind (takes kind.Argument) argument)) _ left h
    (λ e.
    not_closed xs argument left (sign_takes 40 xs argument o)
    (sign_stops 41 (behind (takes kind.Argument) argument) left e))
    (λ rest c h. absurd cc))

-- ---- an action

never_begun : (b : ℕ) (u : List ℕ) → takes kind.Action b ≡ false
    → action_at (b ∷ u) ≡ Err (length (b ∷ u))
unfolding action_at
never_begun b u h = rw (no_word (takes kind.Action) b u h) refl

without_word : (xs : List ℕ) (left : ℕ) → NoWord (takes kind.Action) xs left
    → Halts SpellsAction action_at xs left
without_word xs left n =
    record {
      good = [];
      bad = xs;
      parts = refl;
      place = n.place;
      more = 97 ∷ 40 ∷ 41 ∷ [];
      opens = λ tail. refl;
      ends = λ tail. (
        record {
          word = record { text = 97 ∷ []; left = length (97 ∷ 40 ∷ 41 ∷ tail) };
          argument = 41 ∷ tail;
        },
        record {
          behind_word = [];
          brackets = 40 ∷ 41 ∷ tail;
          text = refl;
          argument = empty_brackets tail;
          word = (omega arith, refl);
          gap = refl;
          place = refl;
        },
      );
      stuck = λ b rest e u. (length (b ∷ u), never_begun b u (n.other b rest e));
    }

-- a word is read the same whatever comes behind the next byte
word_over : (p : ℕ → Bool) (xs : List ℕ) (word : Text × List ℕ) (w : Word p xs word) (good : List ℕ)
    (b : ℕ) (rest u : List ℕ)
    → word.1 ≡ good ++ b ∷ rest
    → word_at p (word.0.text ++ (w.run.gap.gap ++ (good ++ b ∷ u)))
    ≡ Ok (
      record {
        text = word.0.text;
        left = length (word.0.text ++ (w.run.gap.gap ++ (good ++ b ∷ u)));
      },
      good ++ b ∷ u,
    )
word_over p xs word w good b rest u e =
    let gap = w.run.gap.gap in
    let there : w.run.tail ≡ (gap ++ good) ++ b ∷ rest =
    w.run.gap.parts ∙ ap (λ (t : List ℕ). gap ++ t) e
    ∙ sym (append_assoc gap good (b ∷ rest)) in
    let breaks = same_next p (gap ++ good) b rest u (subst (Breaks p) there w.run.breaks) in
    let tight =
    next_first is_tight (λ x y z. refl) good b rest u ∙ ap is_tight (sym e) ∙ w.run.gap.tight in
    word_gap_again p word.0.text gap (good ++ b ∷ u) (w.some, w.run.run) w.run.gap.blank
    (subst (Breaks p) (append_assoc gap good (b ∷ u)) breaks) tight

halted_over : (ys : List ℕ) (word : Text × List ℕ) (n : ℕ)
    → word_at (takes kind.Action) ys ≡ Ok word → argument_at word.1 ≡ Err n → action_at ys ≡ Err n
unfolding action_at
halted_over ys word n e h = rw (e, h) refl

behind_word : (xs : List ℕ) (word : Text × List ℕ) (left : ℕ) → Word (takes kind.Action) xs word
    → Halts SpellsBrackets argument_at word.1 left → Halts SpellsAction action_at xs left
behind_word xs word left w h =
    let gap = w.run.gap.gap in
    let good = word.0.text ++ (gap ++ h.good) in
    record {
      good = good;
      bad = h.bad;
      parts =
          w.run.parts
          ∙ ap (λ (t : List ℕ). word.0.text ++ t)
          (w.run.gap.parts ∙ ap (λ (t : List ℕ). gap ++ t) h.parts)
          ∙ sym (flat word.0.text gap h.good h.bad);
      place = h.place;
      more = h.more;
      opens = h.opens;
      ends = λ tail. let argument = h.ends tail in (
        record {
          word = record { text = word.0.text; left = length (good ++ (h.more ++ tail)) };
          argument = argument.0;
        },
        record {
          behind_word = gap;
          brackets = h.good ++ (h.more ++ tail);
          text = flat word.0.text gap h.good (h.more ++ tail);
          argument = argument.1;
          word = (w.some, w.run.run);
          gap = w.run.gap.blank;
          place = refl;
        },
      );
      stuck = λ b rest e u.
          let s = h.stuck b rest e u in
          let read =
          word_over (takes kind.Action) xs word w h.good b rest u
          (h.parts ∙ ap (λ (t : List ℕ). h.good ++ t) e) in
          (s.0, ap action_at (flat word.0.text gap h.good (b ∷ u)) ∙ halted_over _ _ s.0 read s.1);
    }

pub action_halts : (xs : List ℕ) (left : ℕ) → action_at xs ≡ Err left
    → Halts SpellsAction action_at xs left
unfolding action_at
action_halts xs left h =
    on_err (word_at (takes kind.Action) xs) _ left h
    (λ e. without_word xs left (word_stops (takes kind.Action) xs left e)) (λ word w h.
    on_err (argument_at word.1) _ left h
    (λ e.
    behind_word xs word left (word_takes (takes kind.Action) xs word w)
    (argument_halts word.1 left e))
    (λ argument a h. absurd cc))
