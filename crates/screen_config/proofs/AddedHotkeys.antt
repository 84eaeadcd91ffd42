-- What adding a hotkey answers, from what was looked for in turn.
use Rattle.std.proofs.Common.{◌≡◌, ℕ, ◌+◌, ◌<◌, ◌≤◌, true, false, ◌&&◌, List, [], ◌∷◌, ◌++◌, length}
use Rattle.std.proofs.Common.{map, Err, refl, ap, sym, ◌∙◌, subst, length-append, arith}
use Rattle.std.specs.Prelude.{nat_lt, nat_le}
use Rattle.std.proofs.lemmas.Bool.{and_from, and_left, and_right, lt-ltb, le-ltb, le-leb, lt-leb}
use Rattle.std.proofs.lemmas.List.{length-map}
use Rattle.hotkey_rules.specs.declared.action.Action.{Action}
use Rattle.hotkey_rules.specs.declared.trigger.Trigger.{Trigger}
use Rattle.hotkey_rules.specs.declared.rule.Rule.{Rule}
use Rattle.hotkey_rules.specs.Rules.{rule_of}
use Rattle.hotkey_rules.specs.declared.rules.TheConstants.{MOST_RULES}
use Rattle.screen_config.specs.declared.hotkeys.HotkeysFault.{HotkeysFault}
use Rattle.screen_config.specs.declared.hotkeys.HotkeysFault.TheVariants as fault
use Rattle.screen_config.specs.ActionKeys.{keys_in, with_keys, actions_in, action_keys, with_button}
use Rattle.screen_config.specs.declared.hotkeys.TheConstants.{MOST_ACTIONS}
use Rattle.screen_config.specs.declared.action_keys.TheConstants.{MOST_ACTION_KEYS}
use Rattle.screen_config.specs.AddingHotkeys.{keys_with, has_room, next_rule}
use Rattle.screen_config.specs.AddingHotkeys.{AddsHotkey, AddsKeys, AreCounted}
use Rattle.screen_config.proofs.KeyPlaces.{with_keys_append, longer, keys_in_append}
use Rattle.screen_config.proofs.SoundHotkeys.{actions_with, keys_after}

-- ---- room, and none

pub no_room_for_rule : (hotkeys : List Rule) (acts : List Action) → length hotkeys ≡ MOST_RULES
    → has_room hotkeys acts ≡ false
unfolding has_room
no_room_for_rule hotkeys acts h =
    and_left _ (nat_le (length (actions_in hotkeys) + length acts) MOST_ACTIONS)
    (and_left (nat_lt (length hotkeys) MOST_RULES)
    (nat_le (length (keys_with hotkeys acts)) MOST_ACTION_KEYS)
    (le-ltb (length hotkeys) MOST_RULES (omega arith)))

no_room_for_keys : (hotkeys : List Rule) (acts : List Action)
    → MOST_ACTION_KEYS < length (keys_with hotkeys acts) → has_room hotkeys acts ≡ false
unfolding has_room
no_room_for_keys hotkeys acts h =
    and_left _ (nat_le (length (actions_in hotkeys) + length acts) MOST_ACTIONS)
    (and_right (nat_lt (length hotkeys) MOST_RULES)
    (nat_le (length (keys_with hotkeys acts)) MOST_ACTION_KEYS)
    (lt-leb (length (keys_with hotkeys acts)) MOST_ACTION_KEYS h))

no_room_for_actions : (hotkeys : List Rule) (acts : List Action)
    → MOST_ACTIONS < length (actions_in hotkeys) + length acts → has_room hotkeys acts ≡ false
unfolding has_room
no_room_for_actions hotkeys acts h =
    and_right
    (nat_lt (length hotkeys) MOST_RULES
    && nat_le (length (keys_with hotkeys acts)) MOST_ACTION_KEYS)
    _ (lt-leb (length (actions_in hotkeys) + length acts) MOST_ACTIONS h)

has_all_room : (hotkeys : List Rule) (acts : List Action) → length hotkeys < MOST_RULES
    → length (keys_with hotkeys acts) ≤ MOST_ACTION_KEYS
    → length (actions_in hotkeys) + length acts ≤ MOST_ACTIONS → has_room hotkeys acts ≡ true
unfolding has_room
has_all_room hotkeys acts rules keys actions =
    and_from _ _
    (and_from _ _ (lt-ltb (length hotkeys) MOST_RULES rules)
    (le-leb (length (keys_with hotkeys acts)) MOST_ACTION_KEYS keys))
    (le-leb (length (actions_in hotkeys) + length acts) MOST_ACTIONS actions)

pub too_many_actions : (hotkeys : List Rule) (keys : List ℕ) (n : ℕ) (press release : List Action)
    → AreCounted hotkeys keys n → MOST_ACTIONS < n + (length press + length release)
    → has_room hotkeys (press ++ release) ≡ false
too_many_actions hotkeys keys n press release s h =
    no_room_for_actions hotkeys (press ++ release)
    (omega (arith, s.actions_are, length-append press release))

-- ---- keys

pub keys_of_both : (hotkeys : List Rule) (press release : List Action)
    → with_keys (with_keys (action_keys hotkeys) (keys_in press)) (keys_in release)
    ≡ keys_with hotkeys (press ++ release)
keys_of_both hotkeys press release =
    sym (with_keys_append (action_keys hotkeys) (keys_in press) (keys_in release))
    ∙ ap (λ (ids : List ℕ). with_keys (action_keys hotkeys) ids)
    (sym (keys_in_append press release))

pub refused_by_press : (f : HotkeysFault) (hotkeys : List Rule) (keys new : List ℕ) (t : Trigger)
    (press release : List Action)
    → keys ≡ action_keys hotkeys
    → AddsKeys (Err f) keys (keys_in press) new → AddsHotkey (Err f) hotkeys t press release hotkeys
refused_by_press fault.Full hotkeys keys new t press release e h =
    let more = longer (with_keys (action_keys hotkeys) (keys_in press)) (keys_in release) in
    let both = ap (λ (ks : List ℕ). length ks) (keys_of_both hotkeys press release) in
    let first = ap (λ (ks : List ℕ). length (with_keys ks (keys_in press))) e in
    (no_room_for_keys hotkeys (press ++ release) (omega (arith, more, both, first, h)), refl)
refused_by_press fault.OutOfMemory hotkeys keys new t press release e h = refl

pub refused_by_release : (f : HotkeysFault) (hotkeys : List Rule) (keys first new : List ℕ)
    (t : Trigger) (press release : List Action)
    → keys ≡ action_keys hotkeys
    → first ≡ with_keys keys (keys_in press) → AddsKeys (Err f) first (keys_in release) new
    → AddsHotkey (Err f) hotkeys t press release hotkeys
refused_by_release fault.Full hotkeys keys first new t press release e g h =
    let both = ap (λ (ks : List ℕ). length ks) (keys_of_both hotkeys press release) in
    let same =
    ap (λ (ks : List ℕ). length (with_keys ks (keys_in release)))
    (g ∙ ap (λ (ks : List ℕ). with_keys ks (keys_in press)) e) in
    (no_room_for_keys hotkeys (press ++ release) (omega (arith, both, same, h)), refl)
refused_by_release fault.OutOfMemory hotkeys keys first new t press release e g h = refl

-- ---- the hotkey added

pub record IsAdded (hotkeys new : List Rule) (n : ℕ) (t : Trigger) (press release : List Action)
    (keys : List ℕ) : Type 0 where
  pub few : length hotkeys < MOST_RULES
  pub same : new
      ≡ hotkeys ++ rule_of t (map (with_button keys) press) (map (with_button keys) release) ∷ []
  pub keys_are : keys ≡ keys_with hotkeys (press ++ release)
  pub few_keys : length keys ≤ MOST_ACTION_KEYS
  pub few_actions : n + (length press + length release) ≤ MOST_ACTIONS

as_next : (hotkeys new : List Rule) (n : ℕ) (t : Trigger) (press release : List Action)
    (keys : List ℕ)
    → IsAdded hotkeys new n t press release keys
    → new ≡ hotkeys ++ next_rule hotkeys t press release ∷ []
as_next hotkeys new n t press release keys a =
    a.same
    ∙ ap
    (λ (ks : List ℕ). hotkeys
    ++ rule_of t (map (with_button ks) press) (map (with_button ks) release) ∷ [])
    a.keys_are

pub added_hotkey : (hotkeys new : List Rule) (kept : List ℕ) (n : ℕ) (t : Trigger)
    (press release : List Action) (keys : List ℕ)
    → AreCounted hotkeys kept n
    → IsAdded hotkeys new n t press release keys
    → (has_room hotkeys (press ++ release) ≡ true)
    × (new ≡ hotkeys ++ next_rule hotkeys t press release ∷ [])
added_hotkey hotkeys new kept n t press release keys s a = (
  has_all_room hotkeys (press ++ release) a.few
      (subst (λ (ks : List ℕ). length ks ≤ MOST_ACTION_KEYS) a.keys_are a.few_keys)
      (omega (arith, s.actions_are, a.few_actions, length-append press release)),
  as_next hotkeys new n t press release keys a,
)

pub counted_with : (hotkeys new : List Rule) (kept : List ℕ) (n : ℕ) (t : Trigger)
    (press release : List Action) (keys : List ℕ)
    → AreCounted hotkeys kept n
    → IsAdded hotkeys new n t press release keys
    → AreCounted new keys (n + (length press + length release))
counted_with hotkeys new kept n t press release keys s a =
    let next = as_next hotkeys new n t press release keys a in
    let given = map (with_button (keys_with hotkeys (press ++ release))) (press ++ release) in
    let acts =
    ap (λ (rules : List Rule). length (actions_in rules)) next
    ∙ ap (λ (xs : List Action). length xs) (actions_with hotkeys t press release)
    ∙ length-append (actions_in hotkeys) given in
    record {
      keys_are = a.keys_are ∙ sym (keys_after hotkeys t press release) ∙ ap action_keys (sym next);
      few_keys = a.few_keys;
      actions_are =
          omega (
            arith,
            acts,
            s.actions_are,
            length-map (press ++ release) (with_button (keys_with hotkeys (press ++ release))),
            length-append press release,
          );
      few_actions = a.few_actions;
    }
