-- An argument in brackets, and an action, are read exactly where they are spelled.
use Rattle.std.proofs.Common.{◌≡◌, ℕ, ◌<◌, true, false, List, [], ◌∷◌, ◌++◌, length, length-append}
use Rattle.std.proofs.Common.{Ok, refl, ap, sym, subst, ◌∙◌, take-append-drop, arith}
use Rattle.std.specs.List.{prefix_len}
use Rattle.text_lines.specs.declared.bytes.WordKind.TheVariants as kind
use Rattle.text_lines.specs.Bytes.{takes, is_tight, front, behind}
use Rattle.text_lines.specs.Reading.{Text, word_at, sign_at, is_empty}
use Rattle.text_lines.proofs.SpelledWords.{on_ok, Sign, Word, Breaks, front_run, behind_again}
use Rattle.text_lines.proofs.SpelledWords.{sign_takes, sign_again, word_takes, word_tight}
use Rattle.text_lines.proofs.SpelledWords.{gap_breaks, filled_some}
use Rattle.text_lines.proofs.Stopping.{word_gap_again}
use Rattle.hotkey_text.specs.Shapes.{ActionForm, argument_at, action_at}
use Rattle.hotkey_text.specs.Spelling.{SpellsBrackets, SpellsAction}

-- a text without blanks in front has none in front of its own front
pub tight_front : (a b : List ℕ) → is_tight (a ++ b) ≡ true → is_tight a ≡ true
tight_front [] b h = refl
tight_front (x ∷ xs) b h = h

tight_closed : (a b : List ℕ) → is_tight a ≡ true → is_tight b ≡ true → is_tight (a ++ b) ≡ true
tight_closed [] b h k = k
tight_closed (x ∷ xs) b h k = h

-- ---- an argument

-- it is spelled, and what follows begins with no blank
pub record Argument (xs argument rest : List ℕ) : Type 0 where
  pub spelled : SpellsBrackets xs argument rest
  pub tight : is_tight rest ≡ true

closed : (xs argument rest : List ℕ) → Sign 40 xs argument
    → Sign 41 (behind (takes kind.Argument) argument) rest → Argument xs argument rest
closed xs argument rest o c =
    let inside = front (takes kind.Argument) argument in
    let tail = behind (takes kind.Argument) argument in
    let parts : argument ≡ inside ++ tail =
    sym (take-append-drop (prefix_len (takes kind.Argument) argument) argument) in
    record {
      spelled = record {
        behind_open = o.gap.gap;
        inside = inside;
        behind_close = c.gap.gap;
        text = o.parts ∙ ap (λ (t : List ℕ). 40 ∷ t) o.gap.parts;
        closes =
            parts
            ∙ ap (λ (t : List ℕ). inside ++ t) (c.parts ∙ ap (λ (t : List ℕ). 41 ∷ t) c.gap.parts);
        run = front_run (takes kind.Argument) argument;
        tight = tight_front inside tail (ap is_tight (sym parts) ∙ o.gap.tight);
        gaps = (o.gap.blank, c.gap.blank);
      };
      tight = c.gap.tight;
    }

pub argument_takes : (xs : List ℕ) (y : List ℕ × List ℕ) → argument_at xs ≡ Ok y
    → Argument xs y.0 y.1
unfolding argument_at
argument_takes xs y h =
    on_ok (sign_at 40 xs) _ y h (λ argument o h.
    on_ok (sign_at 41 (behind (takes kind.Argument) argument)) _ y h (λ rest c h.
    let made : List ℕ × List ℕ = (argument, rest) in
    let same : made ≡ y = cc in
    subst (λ (p : List ℕ × List ℕ). Argument xs p.0 p.1) same
    (closed xs argument rest (sign_takes 40 xs argument o)
    (sign_takes 41 (behind (takes kind.Argument) argument) rest c))))

pub argument_again : (xs argument rest : List ℕ) → SpellsBrackets xs argument rest
    → is_tight rest ≡ true → argument_at xs ≡ Ok (argument, rest)
unfolding argument_at
argument_again xs argument rest b t =
    let tail = 41 ∷ (b.behind_close ++ rest) in
    let e : xs ≡ 40 ∷ (b.behind_open ++ argument) = b.text in
    let tight : is_tight argument ≡ true =
    ap is_tight b.closes ∙ tight_closed b.inside tail b.tight refl in
    let inside : behind (takes kind.Argument) argument ≡ tail =
    ap (behind (takes kind.Argument)) b.closes
    ∙ behind_again (takes kind.Argument) b.inside tail b.run refl in
    rw (
      e,
      sign_again 40 b.behind_open argument b.gaps.0 tight,
      inside,
      sign_again 41 b.behind_close rest b.gaps.1 t,
    )
    refl

-- ---- an action

-- it is spelled, and what follows begins with no blank
pub record Action (xs : List ℕ) (a : ActionForm) (rest : List ℕ) : Type 0 where
  pub spelled : SpellsAction xs a rest
  pub tight : is_tight rest ≡ true

action_made : (xs : List ℕ) (word : Text × List ℕ) (argument : List ℕ × List ℕ)
    → Word (takes kind.Action) xs word → Argument word.1 argument.0 argument.1
    → Action xs (record { word = word.0; argument = argument.0 }) argument.1
action_made xs word argument w a =
    record {
      spelled = record {
        behind_word = w.run.gap.gap;
        brackets = word.1;
        text = w.run.parts ∙ ap (λ (t : List ℕ). word.0.text ++ t) w.run.gap.parts;
        argument = a.spelled;
        word = (w.some, w.run.run);
        gap = w.run.gap.blank;
        place = w.run.place;
      };
      tight = a.tight;
    }

pub action_takes : (xs : List ℕ) (y : ActionForm × List ℕ) → action_at xs ≡ Ok y → Action xs y.0 y.1
unfolding action_at
action_takes xs y h =
    on_ok (word_at (takes kind.Action) xs) _ y h (λ word w h.
    on_ok (argument_at word.1) _ y h (λ argument a h.
    let made : ActionForm × List ℕ =
    (record { word = word.0; argument = argument.0 }, argument.1) in
    let same : made ≡ y = cc in
    subst (λ (p : ActionForm × List ℕ). Action xs p.0 p.1) same
    (action_made xs word argument (word_takes (takes kind.Action) xs word w)
    (argument_takes word.1 argument a))))

bracket_breaks : (brackets argument rest : List ℕ) → SpellsBrackets brackets argument rest
    → Breaks (takes kind.Action) brackets
bracket_breaks brackets argument rest b = subst (Breaks (takes kind.Action)) (sym b.text) refl

pub action_again : (xs : List ℕ) (a : ActionForm) (rest : List ℕ) → SpellsAction xs a rest
    → is_tight rest ≡ true → action_at xs ≡ Ok (a, rest)
unfolding action_at
action_again xs a rest s t =
    let e : xs ≡ a.word.text ++ (s.behind_word ++ s.brackets) = s.text in
    let p = s.place in
    let breaks =
    gap_breaks kind.Action refl s.behind_word s.brackets s.gap
    (bracket_breaks s.brackets a.argument rest s.argument) in
    let word =
    word_gap_again (takes kind.Action) a.word.text s.behind_word s.brackets s.word s.gap breaks
    (ap is_tight s.argument.text) in
    rw (e, word, argument_again s.brackets a.argument rest s.argument t) (rw (← e, ← p) refl)

pub action_tight : (xs : List ℕ) (a : ActionForm) (rest : List ℕ) → SpellsAction xs a rest
    → is_tight xs ≡ true
action_tight xs a rest s =
    ap is_tight s.text
    ∙ word_tight kind.Action refl a.word.text (s.behind_word ++ s.brackets) s.word

pub action_there : (xs : List ℕ) (a : ActionForm) (rest : List ℕ) → SpellsAction xs a rest
    → is_empty xs ≡ false
action_there xs a rest s =
    filled_some xs
    (omega (
      arith,
      ap length s.text,
      length-append a.word.text (s.behind_word ++ s.brackets),
      s.word.0,
    ))

-- what follows it is shorter
pub action_shorter : (xs : List ℕ) (a : ActionForm × List ℕ) → action_at xs ≡ Ok a
    → length a.1 < length xs
action_shorter xs a e =
    let s = (action_takes xs a e).spelled in
    let b = s.argument in
    omega (
      arith,
      ap length s.text,
      length-append a.0.word.text (s.behind_word ++ s.brackets),
      length-append s.behind_word s.brackets,
      ap length b.text,
      length-append b.behind_open a.0.argument,
      ap length b.closes,
      length-append b.inside (41 ∷ (b.behind_close ++ a.1)),
      length-append b.behind_close a.1,
    )
