-- Where a line that is taken for a hotkey's can't go on.
use Rattle.std.proofs.Common.{◌≡◌, ℕ, true, List, [], ◌∷◌, ◌++◌, length, Result, Ok, Err, refl, ap}
use Rattle.std.proofs.Common.{sym, subst, ◌∙◌, inl}
use Rattle.text_lines.specs.declared.bytes.WordKind.TheVariants as kind
use Rattle.text_lines.specs.Bytes.{takes, is_tight}
use Rattle.text_lines.specs.Reading.{◌>>=◌, sign_at}
use Rattle.text_lines.specs.Spelling.{IsGap, StopsAt}
use Rattle.text_lines.proofs.SpelledWords.{on_err, Sign, NoSign, sign_takes, sign_again, sign_stops}
use Rattle.text_lines.proofs.SpelledWords.{no_sign, gap_breaks}
use Rattle.text_lines.proofs.Stopping.{never_read, word_gap_again, flat}
use Rattle.hotkey_text.specs.declared.names.TriggerKind.{TriggerKind}
use Rattle.hotkey_text.specs.Names.{trigger_word}
use Rattle.hotkey_text.specs.Shapes.{HotkeyForm, argument_at, press_at, release_at, is_hotkey}
use Rattle.hotkey_text.specs.Shapes.{hotkey_at}
use Rattle.hotkey_text.specs.Spelling.{SpellsBrackets, SpellsHotkey, IsHotkey}
use Rattle.hotkey_text.proofs.WordsFound.{trigger_found}
use Rattle.hotkey_text.proofs.HotkeyWords.{trigger_is_word, hotkey_begins}
use Rattle.hotkey_text.proofs.SpelledBrackets.{Argument, argument_takes, argument_again}
use Rattle.hotkey_text.proofs.SpelledHotkeys.{hotkey_again}
use Rattle.hotkey_text.proofs.Fronts.{next_first, brackets_front, flat_sign}
use Rattle.hotkey_text.proofs.StopsActions.{Halts, argument_halts}
use Rattle.hotkey_text.proofs.StopsLists.{Blocked}
use Rattle.hotkey_text.proofs.StopsBothLists.{IsLists, both_lists, both_blocked}

-- ---- what is read behind the sign, and behind the word

abbrev behind_sign : TriggerKind → List ℕ → List ℕ → Result HotkeyForm ℕ
behind_sign k argument xs =
    press_at xs >>= λ press. release_at press.1
    >>= λ release.
    Ok
    (record {
      kind = k;
      argument = argument;
      press = press.0;
      released = release.0;
      release = release.1;
    })

abbrev behind_word : TriggerKind → List ℕ → Result HotkeyForm ℕ
behind_word k xs =
    argument_at xs >>= λ argument. sign_at 61 argument.1 >>= λ rest. behind_sign k argument.0 rest

word_read : (k : TriggerKind) (gap tail : List ℕ) → IsGap gap
    → hotkey_at (trigger_word k ++ (gap ++ 40 ∷ tail)) ≡ behind_word k (40 ∷ tail)
unfolding hotkey_at
word_read k gap tail g =
    rw (
      word_gap_again (takes kind.Key) (trigger_word k) gap (40 ∷ tail) (trigger_is_word k) g
          (gap_breaks kind.Key refl gap (40 ∷ tail) g refl) refl,
      trigger_found k,
    )
    refl

-- the line stops there where its lists do
lists_stuck : (k : TriggerKind) (argument xs : List ℕ) (n : ℕ) → both_lists xs ≡ Err n
    → behind_sign k argument xs ≡ Err n
lists_stuck k argument xs n h =
    on_err (press_at xs) _ n h (λ e. rw e refl) (λ press p h.
    on_err (release_at press.1) _ n h (λ e. rw (p, e) refl) (λ release q h. absurd cc))

stuck_lists : (k : TriggerKind) (argument xs : List ℕ) (n : ℕ) → behind_sign k argument xs ≡ Err n
    → both_lists xs ≡ Err n
stuck_lists k argument xs n h =
    on_err (press_at xs) _ n h (λ e. rw e refl) (λ press p h.
    on_err (release_at press.1) _ n h (λ e. rw (p, e) refl) (λ release q h. absurd cc))

-- lists that begin with one byte, up to some place
same_head : (good : List ℕ) (b : ℕ) (rest u : List ℕ) (c : ℕ) (tail : List ℕ)
    → c ∷ tail ≡ good ++ b ∷ rest → (v : List ℕ) × (good ++ b ∷ u ≡ c ∷ v)
same_head [] b rest u c tail e = let same : c ≡ b = cc in (u, ap (λ n. n ∷ u) (sym same))
same_head (x ∷ xs) b rest u c tail e =
    let same : c ≡ x = cc in (xs ++ b ∷ u, ap (λ n. n ∷ (xs ++ b ∷ u)) (sym same))

-- a line up to the bracket that closes its argument: whatever follows, that much is read, and a
-- sign and lists make a hotkey's line of it
record Begun (k : TriggerKind) (xs rest : List ℕ) : Type 0 where
  begin : List ℕ
  parts : xs ≡ begin ++ rest
  tight : is_tight rest ≡ true
  again : (u : List ℕ) → is_tight u ≡ true
      → (argument : List ℕ)
      × (hotkey_at (begin ++ u) ≡ (sign_at 61 u >>= λ lists. behind_sign k argument lists))
  spelled : (next lists : List ℕ) → IsGap next → IsLists lists
      → IsHotkey (begin ++ 61 ∷ (next ++ lists))

module _ (xs : List ℕ) (k : TriggerKind) (gap tail : List ℕ)
    (text : xs ≡ trigger_word k ++ (gap ++ 40 ∷ tail)) (blank : IsGap gap) where
  -- ---- in the argument

  in_argument : (left : ℕ) → Halts SpellsBrackets argument_at (40 ∷ tail) left
      → StopsAt IsHotkey xs left
  in_argument left h =
      let good = trigger_word k ++ (gap ++ h.good) in
      let ends = 61 ∷ 59 ∷ [] in
      let argument = h.ends ends in
      record {
        good = good;
        bad = h.bad;
        parts =
            text ∙ ap (λ (t : List ℕ). trigger_word k ++ (gap ++ t)) h.parts
            ∙ sym (flat (trigger_word k) gap h.good h.bad);
        place = h.place;
        goes_on = (
          h.more ++ ends,
          (
            record { kind = k; argument = argument.0; press = []; released = true; release = [] },
            record {
              behind_word = gap;
              brackets = h.good ++ (h.more ++ ends);
              behind_sign = [];
              lists = 59 ∷ [];
              second = 59 ∷ [];
              text = flat (trigger_word k) gap h.good (h.more ++ ends);
              argument = argument.1;
              press = refl;
              release = ([], [], refl, refl, refl);
              first = inl refl;
              gaps = (blank, refl);
            },
          ),
        );
        no_more = λ b rest e. never_read hotkey_at SpellsHotkey hotkey_again good b
            (λ u.
            let s = h.stuck b rest e u in
            let o =
            same_head h.good b rest u 40 tail (h.parts ∙ ap (λ (t : List ℕ). h.good ++ t) e)
            in (
              s.0,
              ap hotkey_at (flat (trigger_word k) gap h.good (b ∷ u))
                  ∙ ap (λ (t : List ℕ). hotkey_at (trigger_word k ++ (gap ++ t))) o.1
                  ∙ word_read k gap o.0 blank ∙ ap (behind_word k) (sym o.1) ∙ rw s.1 refl,
            ));
      }

  -- ---- behind the argument

  begun : (argument rest : List ℕ) → Argument (40 ∷ tail) argument rest → Begun k xs rest
  begun argument rest a =
      let f = brackets_front (40 ∷ tail) argument rest a.spelled in
      record {
        begin = trigger_word k ++ (gap ++ f.front);
        parts =
            text ∙ ap (λ (t : List ℕ). trigger_word k ++ (gap ++ t)) f.parts
            ∙ sym (flat (trigger_word k) gap f.front rest);
        tight = a.tight;
        again = λ u t.
            let x = f.on u in (
              x.0,
              ap hotkey_at (flat (trigger_word k) gap f.front u)
                  ∙ ap (λ (t : List ℕ). hotkey_at (trigger_word k ++ (gap ++ t))) x.1.text
                  ∙ word_read k gap (x.1.behind_open ++ x.0) blank
                  ∙ ap (behind_word k) (sym x.1.text)
                  ∙ rw (argument_again (f.front ++ u) x.0 u x.1 t) refl,
            );
        spelled = λ next lists g l.
            let x = f.on (61 ∷ (next ++ lists)) in (
              record {
                kind = k;
                argument = x.0;
                press = l.press;
                released = l.released;
                release = l.release;
              },
              record {
                behind_word = gap;
                brackets = f.front ++ 61 ∷ (next ++ lists);
                behind_sign = next;
                lists = lists;
                second = l.second;
                text = flat (trigger_word k) gap f.front (61 ∷ (next ++ lists));
                argument = x.1;
                press = l.first.spelled;
                release = l.behind;
                first = l.first.first;
                gaps = (blank, g);
              },
            );
      }

-- a ; alone
sign_alone : IsLists (59 ∷ [])
sign_alone =
    record {
      press = [];
      second = 59 ∷ [];
      released = true;
      release = [];
      first = record { spelled = refl; first = inl refl };
      behind = ([], [], refl, refl, refl);
    }

at_sign : (k : TriggerKind) (xs rest : List ℕ) (left : ℕ) → Begun k xs rest → NoSign 61 rest left
    → StopsAt IsHotkey xs left
at_sign k xs rest left h n =
    record {
      good = h.begin;
      bad = rest;
      parts = h.parts;
      place = n.place;
      goes_on = (61 ∷ 59 ∷ [], h.spelled [] (59 ∷ []) refl sign_alone);
      no_more = λ b t e. never_read hotkey_at SpellsHotkey hotkey_again h.begin b
          (λ u.
          let read = h.again (b ∷ u) (ap is_tight (sym e) ∙ h.tight) in
          (length (b ∷ u), read.1 ∙ rw (no_sign 61 b u (n.other b t e)) refl));
    }

in_lists : (k : TriggerKind) (xs rest lists : List ℕ) (left : ℕ) → Begun k xs rest
    → Sign 61 rest lists → Blocked IsLists both_lists lists left → StopsAt IsHotkey xs left
in_lists k xs rest lists left h s l =
    let gap = s.gap.gap in
    let good = h.begin ++ 61 ∷ (gap ++ l.good) in
    record {
      good = good;
      bad = l.bad;
      parts =
          h.parts
          ∙ ap (λ (t : List ℕ). h.begin ++ t)
          (s.parts
          ∙ ap (λ (t : List ℕ). 61 ∷ t)
          (s.gap.parts ∙ ap (λ (t : List ℕ). gap ++ t) l.parts))
          ∙ sym (flat_sign h.begin 61 gap l.good l.bad);
      place = l.place;
      goes_on = (
        l.more,
        subst IsHotkey (sym (flat_sign h.begin 61 gap l.good l.more))
            (h.spelled gap (l.good ++ l.more) s.gap.blank l.ends),
      );
      no_more = λ b t e. never_read hotkey_at SpellsHotkey hotkey_again good b
          (λ u.
          let ys = l.good ++ b ∷ u in
          let stop = l.stuck b t e u in
          let there = l.parts ∙ ap (λ (x : List ℕ). l.good ++ x) e in
          let tight =
          next_first is_tight (λ x y z. refl) l.good b t u ∙ ap is_tight (sym there)
          ∙ s.gap.tight in
          let read = h.again (61 ∷ (gap ++ ys)) refl in (
            stop.0,
            ap hotkey_at (flat_sign h.begin 61 gap l.good (b ∷ u)) ∙ read.1
                ∙ rw (sign_again 61 gap ys s.gap.blank tight)
                (lists_stuck k read.0 ys stop.0 stop.1),
          ));
    }

pub hotkey_stops : (xs : List ℕ) (left : ℕ) → is_hotkey xs ≡ true → hotkey_at xs ≡ Err left
    → StopsAt IsHotkey xs left
hotkey_stops xs left known h =
    let b = hotkey_begins xs known in
    let opened = 40 ∷ b.rest in
    let read : behind_word b.of opened ≡ Err left =
    sym (word_read b.of b.behind_word b.rest b.gap) ∙ ap hotkey_at (sym b.text) ∙ h in
    on_err (argument_at opened) _ left read
    (λ e.
    in_argument xs b.of b.behind_word b.rest b.text b.gap left
    (argument_halts opened left e))
    (λ a r h.
    let start =
    begun xs b.of b.behind_word b.rest b.text b.gap a.0 a.1 (argument_takes opened a r) in
    on_err (sign_at 61 a.1) _ left h
    (λ e. at_sign b.of xs a.1 left start (sign_stops 61 a.1 left e)) (λ lists s h.
    in_lists b.of xs a.1 lists left start (sign_takes 61 a.1 lists s)
    (both_blocked lists left (stuck_lists b.of a.0 lists left h))))
