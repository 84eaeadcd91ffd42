-- A line is read as a hotkey's exactly where it is spelled so.
use Rattle.std.proofs.Common.{◌≡◌, ℕ, Bool, true, false, cond, List, [], ◌∷◌, ◌++◌, Ok, refl, ap}
use Rattle.std.proofs.Common.{sym, subst, ◌∙◌, ◌⊎◌, inl, inr}
use Rattle.text_lines.specs.declared.bytes.WordKind.TheVariants as kind
use Rattle.text_lines.specs.Bytes.{takes, is_tight}
use Rattle.text_lines.specs.Reading.{Text, word_at, sign_at, end_at, begins, or_left}
use Rattle.text_lines.proofs.SpelledWords.{or_left_takes, on_ok, Word, Sign, word_takes, sign_takes}
use Rattle.text_lines.proofs.SpelledWords.{sign_again, end_takes, gap_breaks, Breaks}
use Rattle.text_lines.proofs.Stopping.{word_gap_again}
use Rattle.hotkey_text.specs.declared.names.TriggerKind.{TriggerKind}
use Rattle.hotkey_text.specs.Names.{trigger_word, trigger_named}
use Rattle.hotkey_text.specs.Shapes.{ActionForm, HotkeyForm, argument_at, list_at, press_at}
use Rattle.hotkey_text.specs.Shapes.{release_at, hotkey_at}
use Rattle.hotkey_text.specs.Spelling.{SpellsBrackets, SpellsList, SpellsRelease, SpellsHotkey}
use Rattle.hotkey_text.proofs.WordsFound.{trigger_found}
use Rattle.hotkey_text.proofs.HotkeyWords.{trigger_takes, trigger_is_word}
use Rattle.hotkey_text.proofs.SpelledBrackets.{Argument, argument_takes, argument_again}
use Rattle.hotkey_text.proofs.SpelledBrackets.{action_there}
use Rattle.hotkey_text.proofs.SpelledLists.{list_there, list_takes, list_tight, list_again}
use Rattle.hotkey_text.proofs.SpelledLists.{actions_again}

-- ---- the press list

-- a list, with no ; in front of its first action
pub record Press (xs : List ℕ) (press : List ActionForm) (rest : List ℕ) : Type 0 where
  pub spelled : SpellsList xs press rest
  pub first : (press ≡ []) ⊎ (begins 59 xs ≡ false)

press_then : (t : Bool) (xs : List ℕ) (y : List ActionForm × List ℕ) → begins 59 xs ≡ t
    → cond t (Ok ([], xs)) (list_at xs) ≡ Ok y → Press xs y.0 y.1
press_then true xs y e h =
    let made : List ActionForm × List ℕ = ([], xs) in
    let same : made ≡ y = cc in
    subst (λ (p : List ActionForm × List ℕ). Press xs p.0 p.1) same
    (record { spelled = refl; first = inl refl })
press_then false xs y e h = record { spelled = list_takes xs y h; first = inr e }

press_takes : (xs : List ℕ) (y : List ActionForm × List ℕ) → press_at xs ≡ Ok y → Press xs y.0 y.1
unfolding press_at
press_takes xs y h = press_then (begins 59 xs) xs y refl h

-- ---- the release list

release_takes : (xs : List ℕ) (y : Bool × List ActionForm) → release_at xs ≡ Ok y
    → SpellsRelease xs y.0 y.1
unfolding release_at
release_takes [] y h =
    let made : Bool × List ActionForm = (false, []) in
    let same : made ≡ y = cc in
    subst (λ (p : Bool × List ActionForm). SpellsRelease [] p.0 p.1) same (refl, refl)
release_takes (b ∷ bs) y h =
    on_ok (sign_at 59 (b ∷ bs)) _ y h (λ rest s h.
    on_ok (list_at rest) _ y h (λ list l h.
    on_ok (end_at list.1) _ y h (λ u e h.
    let sign = sign_takes 59 (b ∷ bs) rest s in
    let made : Bool × List ActionForm = (true, list.0) in
    let same : made ≡ y = cc in
    subst (λ (p : Bool × List ActionForm). SpellsRelease (b ∷ bs) p.0 p.1) same (
      sign.gap.gap,
      rest,
      sign.parts ∙ ap (λ (t : List ℕ). 59 ∷ t) sign.gap.parts,
      sign.gap.blank,
      subst (SpellsList rest list.0) (end_takes list.1 u e) (list_takes rest list l),
    ))))

pub release_again : (xs : List ℕ) (released : Bool) (release : List ActionForm)
    → SpellsRelease xs released release → release_at xs ≡ Ok (released, release)
unfolding release_at
release_again xs false release s =
    ap release_at s.0 ∙ ap (λ (t : List ActionForm). Ok (false, t)) (sym s.1)
release_again xs true release s =
    ap release_at s.2
    ∙ rw (
      sign_again 59 s.0 s.1 s.3 (list_tight s.1 release [] s.4 refl),
      list_again s.1 release s.4,
    )
    refl

-- ---- both lists

-- what stands behind the press list
pub record Second (xs : List ℕ) : Type 0 where
  pub tight : is_tight xs ≡ true
  pub no_comma : begins 44 xs ≡ false

second_is : (xs : List ℕ) (released : Bool) (release : List ActionForm)
    → SpellsRelease xs released release → Second xs
second_is xs false release s = record { tight = ap is_tight s.0; no_comma = ap (begins 44) s.0 }
second_is xs true release s = record { tight = ap is_tight s.2; no_comma = ap (begins 44) s.2 }

pub press_actions : (xs : List ℕ) (a : ActionForm) (others : List ActionForm) (second : List ℕ)
    → SpellsList xs (a ∷ others) second → begins 59 xs ≡ false → Second second
    → press_at xs ≡ Ok (a ∷ others, second)
unfolding press_at
press_actions xs a others second s other end =
    rw other
    (list_there xs (action_there xs a s.0 s.1)
    ∙ actions_again xs a others second s end.tight end.no_comma)

no_sign_first : (xs : List ℕ) (a : ActionForm) (others : List ActionForm) (rest : List ℕ)
    → Press xs (a ∷ others) rest → begins 59 xs ≡ false
no_sign_first xs a others rest p = elim p.first [ inl e ↦ absurd cc | inr e ↦ e ]

-- the line ends behind the list
press_alone : (xs : List ℕ) (press : List ActionForm) → Press xs press []
    → press_at xs ≡ Ok (press, [])
unfolding press_at list_at
press_alone xs [] p = ap press_at p.spelled
press_alone xs (a ∷ others) p =
    press_actions xs a others [] p.spelled (no_sign_first xs a others [] p)
    (record { tight = refl; no_comma = refl })

-- a ; stands behind the list
pub press_signed : (xs : List ℕ) (press : List ActionForm) (tail : List ℕ)
    → Press xs press (59 ∷ tail) → press_at xs ≡ Ok (press, 59 ∷ tail)
unfolding press_at
press_signed xs [] tail p = ap press_at p.spelled
press_signed xs (a ∷ others) tail p =
    press_actions xs a others (59 ∷ tail) p.spelled (no_sign_first xs a others (59 ∷ tail) p)
    (record { tight = refl; no_comma = refl })

press_again : (xs : List ℕ) (press : List ActionForm) (second : List ℕ) (released : Bool)
    (release : List ActionForm)
    → Press xs press second → SpellsRelease second released release
    → press_at xs ≡ Ok (press, second)
press_again xs press second false release p r =
    subst (λ (t : List ℕ). press_at xs ≡ Ok (press, t)) (sym r.0)
    (press_alone xs press (subst (Press xs press) r.0 p))
press_again xs press second true release p r =
    subst (λ (t : List ℕ). press_at xs ≡ Ok (press, t)) (sym r.2)
    (press_signed xs press (r.0 ++ r.1) (subst (Press xs press) r.2 p))

-- ---- the line

hotkey_made : (xs : List ℕ) (word : Text × List ℕ) (k : TriggerKind) (argument : List ℕ × List ℕ)
    (lists : List ℕ) (press : List ActionForm × List ℕ) (release : Bool × List ActionForm)
    → Word (takes kind.Key) xs word → word.0.text ≡ trigger_word k
    → Argument word.1 argument.0 argument.1 → Sign 61 argument.1 lists
    → Press lists press.0 press.1 → SpellsRelease press.1 release.0 release.1
    → SpellsHotkey xs
    (record {
      kind = k;
      argument = argument.0;
      press = press.0;
      released = release.0;
      release = release.1;
    })
hotkey_made xs word k argument lists press release w e a s p r =
    record {
      behind_word = w.run.gap.gap;
      brackets = word.1;
      behind_sign = s.gap.gap;
      lists = lists;
      second = press.1;
      text =
          w.run.parts ∙ ap (λ (t : List ℕ). t ++ w.run.tail) e
          ∙ ap (λ (t : List ℕ). trigger_word k ++ t) w.run.gap.parts;
      argument =
          subst (SpellsBrackets word.1 argument.0)
          (s.parts ∙ ap (λ (t : List ℕ). 61 ∷ t) s.gap.parts) a.spelled;
      press = p.spelled;
      release = r;
      first = p.first;
      gaps = (w.run.gap.blank, s.gap.blank);
    }

pub hotkey_takes : (xs : List ℕ) (line : HotkeyForm) → hotkey_at xs ≡ Ok line → SpellsHotkey xs line
unfolding hotkey_at
hotkey_takes xs line h =
    on_ok (word_at (takes kind.Key) xs) _ line h (λ word w h.
    on_ok (or_left (trigger_named word.0.text) word.0.left) _ line h (λ k t h.
    on_ok (argument_at word.1) _ line h (λ argument a h.
    on_ok (sign_at 61 argument.1) _ line h (λ lists s h.
    on_ok (press_at lists) _ line h (λ press p h.
    on_ok (release_at press.1) _ line h (λ release r h.
    let made : HotkeyForm =
    record {
      kind = k;
      argument = argument.0;
      press = press.0;
      released = release.0;
      release = release.1;
    }
    in
    let same : made ≡ line = cc in
    subst (SpellsHotkey xs) same
    (hotkey_made xs word k argument lists press release (word_takes (takes kind.Key) xs word w)
    (trigger_takes word.0.text k (or_left_takes (trigger_named word.0.text) word.0.left k t))
    (argument_takes word.1 argument a) (sign_takes 61 argument.1 lists s)
    (press_takes lists press p) (release_takes press.1 release r))))))))

pub hotkey_again : (xs : List ℕ) (line : HotkeyForm) → SpellsHotkey xs line → hotkey_at xs ≡ Ok line
unfolding hotkey_at
hotkey_again xs line h =
    let signed = 61 ∷ (h.behind_sign ++ h.lists) in
    let e : xs ≡ trigger_word line.kind ++ (h.behind_word ++ h.brackets) = h.text in
    let breaks =
    gap_breaks kind.Key refl h.behind_word h.brackets h.gaps.0
    (subst (Breaks (takes kind.Key)) (sym h.argument.text) refl) in
    let word =
    word_gap_again (takes kind.Key) (trigger_word line.kind) h.behind_word h.brackets
    (trigger_is_word line.kind) h.gaps.0 breaks (ap is_tight h.argument.text) in
    let end = second_is h.second line.released line.release h.release in
    let sign =
    sign_again 61 h.behind_sign h.lists h.gaps.1
    (list_tight h.lists line.press h.second h.press end.tight) in
    let press =
    press_again h.lists line.press h.second line.released line.release
    (record { spelled = h.press; first = h.first }) h.release in
    rw (
      e,
      word,
      trigger_found line.kind,
      argument_again h.brackets line.argument signed h.argument refl,
      sign,
      press,
      release_again h.second line.released line.release h.release,
    )
    refl
