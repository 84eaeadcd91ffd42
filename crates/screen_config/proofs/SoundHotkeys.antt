-- What the hotkeys of every configuration keep, with one hotkey more and among more screens.
use Rattle.std.proofs.Common.{◌≡◌, ℕ, ◌+◌, ◌<◌, ◌≤◌, true, List, [], ◌∷◌, ◌++◌, length, map, refl}
use Rattle.std.proofs.Common.{ap, sym, ◌∙◌, subst, append-nil, length-append, arith}
use Rattle.std.specs.Prelude.{nat_lt, nat_le}
use Rattle.std.specs.List.{list_all, All}
use Rattle.std.proofs.lemmas.Bool.{and_parts, and_from, ltb-true, leb-true, lt-ltb}
use Rattle.std.proofs.lemmas.List.{map-append, length-map}
use Rattle.std.proofs.lemmas.List.Concat.{flat_map-append}
use Rattle.std.proofs.lemmas.List.Elements.{All-nil, All-append}
use Rattle.share_base.proofs.ListTests.{all_weaker, all_append}
use Rattle.hotkey_rules.specs.declared.action.Action.{Action}
use Rattle.hotkey_rules.specs.declared.action.Action.TheVariants as action
use Rattle.hotkey_rules.specs.declared.trigger.Trigger.{Trigger}
use Rattle.hotkey_rules.specs.declared.rule.Rule.{Rule}
use Rattle.hotkey_rules.specs.declared.rules.TheConstants.{MOST_RULES}
use Rattle.hotkey_rules.specs.WellFormed.{is_trigger, is_action}
use Rattle.screen_config.specs.ActionKeys.{keys_in, with_keys, actions_in, action_keys, with_button}
use Rattle.screen_config.specs.declared.hotkeys.TheConstants.{MOST_ACTIONS}
use Rattle.screen_config.specs.declared.action_keys.TheConstants.{MOST_ACTION_KEYS}
use Rattle.screen_config.specs.AddingHotkeys.{keys_with, has_room, next_rule}
use Rattle.screen_config.specs.AddingHotkeys.{AreCounted}
use Rattle.screen_config.specs.SoundHotkeys.{action_below, is_action_among, HasItsButton}
use Rattle.screen_config.specs.SoundHotkeys.{AreHotkeys}
use Rattle.screen_config.proofs.KeyPlaces.{with_keys_append, all_there, same_buttons, given_buttons}
use Rattle.screen_config.proofs.KeyPlaces.{same_keys, keys_in_append}

pub no_hotkeys : (count : ℕ) → AreHotkeys count []
unfolding action_keys
no_hotkeys count = record {
  few = omega arith;
  few_keys = omega arith;
  few_actions = omega arith;
  triggers = refl;
  actions = refl;
  buttons = All-nil (HasItsButton []);
}

-- ---- more screens

below_more : (count more : ℕ) → count ≤ more → (a : Action) → action_below count a ≡ true
    → action_below more a ≡ true
below_more count more le (action.KeyStroke id mods button) h = refl
below_more count more le (action.KeyPress id mods button) h = refl
below_more count more le (action.KeyRelease id mods button) h = refl
below_more count more le (action.MouseClick mods b) h = refl
below_more count more le (action.MousePress mods b) h = refl
below_more count more le (action.MouseRelease mods b) h = refl
below_more count more le (action.Lock mode) h = refl
below_more count more le (action.SwitchTo screen) h =
    let lt = ltb-true screen.0 count h in lt-ltb screen.0 more (omega arith)
below_more count more le (action.SwitchToward side) h = refl

among_more : (count more : ℕ) → count ≤ more → (a : Action) → is_action_among count a ≡ true
    → is_action_among more a ≡ true
among_more count more le a h =
    let parts = and_parts (is_action a) (action_below count a) h in
    and_from (is_action a) (action_below more a) parts.0 (below_more count more le a parts.1)

pub hotkeys_among_more : (count more : ℕ) (hotkeys : List Rule) → count ≤ more
    → AreHotkeys count hotkeys → AreHotkeys more hotkeys
hotkeys_among_more count more hotkeys le s = record {
  few = s.few;
  few_keys = s.few_keys;
  few_actions = s.few_actions;
  triggers = s.triggers;
  actions =
      all_weaker (is_action_among count) (is_action_among more) (among_more count more le)
      (actions_in hotkeys) s.actions;
  buttons = s.buttons;
}

-- ---- one hotkey more

-- actions with their buttons, behind those of the hotkeys
pub actions_with : (hotkeys : List Rule) (trigger : Trigger) (press release : List Action)
    → actions_in (hotkeys ++ next_rule hotkeys trigger press release ∷ [])
    ≡ actions_in hotkeys
    ++ map (with_button (keys_with hotkeys (press ++ release))) (press ++ release)
actions_with hotkeys trigger press release =
    let given = with_button (keys_with hotkeys (press ++ release)) in
    flat_map-append (λ (rule : Rule). rule.press ++ rule.release) hotkeys
    (next_rule hotkeys trigger press release ∷ [])
    ∙ ap (λ (more : List Action). actions_in hotkeys ++ more)
    (append-nil (map given press ++ map given release) ∙ sym (map-append given press release))

-- their keys, behind those of the hotkeys
pub keys_after : (hotkeys : List Rule) (trigger : Trigger) (press release : List Action)
    → action_keys (hotkeys ++ next_rule hotkeys trigger press release ∷ [])
    ≡ keys_with hotkeys (press ++ release)
unfolding action_keys
keys_after hotkeys trigger press release =
    let keys = keys_with hotkeys (press ++ release) in
    ap (λ (actions : List Action). with_keys [] (keys_in actions))
    (actions_with hotkeys trigger press release)
    ∙ ap (λ (ids : List ℕ). with_keys [] ids)
    (keys_in_append (actions_in hotkeys) (map (with_button keys) (press ++ release)))
    ∙ with_keys_append [] (keys_in (actions_in hotkeys))
    (keys_in (map (with_button keys) (press ++ release)))
    ∙ ap (λ (ids : List ℕ). with_keys (action_keys hotkeys) ids) (same_keys keys (press ++ release))

given_among : (count : ℕ) (keys : List ℕ) (a : Action)
    → is_action_among count (with_button keys a) ≡ is_action_among count a
unfolding with_button
given_among count keys (action.KeyStroke id mods button) = refl
given_among count keys (action.KeyPress id mods button) = refl
given_among count keys (action.KeyRelease id mods button) = refl
given_among count keys (action.MouseClick mods b) = refl
given_among count keys (action.MousePress mods b) = refl
given_among count keys (action.MouseRelease mods b) = refl
given_among count keys (action.Lock mode) = refl
given_among count keys (action.SwitchTo screen) = refl
given_among count keys (action.SwitchToward side) = refl

all_given : (count : ℕ) (keys : List ℕ) (actions : List Action)
    → list_all (is_action_among count) actions ≡ true
    → list_all (is_action_among count) (map (with_button keys) actions) ≡ true
all_given count keys [] h = refl
all_given count keys (a ∷ actions) h =
    let parts = and_parts (is_action_among count a) (list_all (is_action_among count) actions) h in
    and_from _ _ (given_among count keys a ∙ parts.0) (all_given count keys actions parts.1)

-- what room means
record HasRoom (hotkeys : List Rule) (acts : List Action) : Type 0 where
  rules : length hotkeys < MOST_RULES
  keys : length (keys_with hotkeys acts) ≤ MOST_ACTION_KEYS
  actions : length (actions_in hotkeys) + length acts ≤ MOST_ACTIONS

room_for : (hotkeys : List Rule) (acts : List Action) → has_room hotkeys acts ≡ true
    → HasRoom hotkeys acts
unfolding has_room
room_for hotkeys acts h =
    let parts = and_parts _ (nat_le (length (actions_in hotkeys) + length acts) MOST_ACTIONS) h in
    let front =
    and_parts (nat_lt (length hotkeys) MOST_RULES)
    (nat_le (length (keys_with hotkeys acts)) MOST_ACTION_KEYS) parts.0 in
    record {
      rules = ltb-true (length hotkeys) MOST_RULES front.0;
      keys = leb-true (length (keys_with hotkeys acts)) MOST_ACTION_KEYS front.1;
      actions = leb-true (length (actions_in hotkeys) + length acts) MOST_ACTIONS parts.1;
    }

pub hotkeys_with : (count : ℕ) (hotkeys : List Rule) (trigger : Trigger)
    (press release : List Action)
    → AreHotkeys count hotkeys → is_trigger trigger ≡ true
    → list_all (is_action_among count) press ≡ true
    → list_all (is_action_among count) release ≡ true
    → has_room hotkeys (press ++ release) ≡ true
    → AreHotkeys count (hotkeys ++ next_rule hotkeys trigger press release ∷ [])
unfolding action_keys
hotkeys_with count hotkeys trigger press release s t p r h =
    let room = room_for hotkeys (press ++ release) h in
    let keys = keys_with hotkeys (press ++ release) in
    let rule = next_rule hotkeys trigger press release in
    let acts = actions_with hotkeys trigger press release in
    let after = keys_after hotkeys trigger press release in
    let there = all_there [] (keys_in (actions_in hotkeys)) in
    let old_buttons =
    same_buttons (action_keys hotkeys) (keys_in (press ++ release)) (actions_in hotkeys) there
    s.buttons in
    let all_buttons =
    All-append (HasItsButton keys) (actions_in hotkeys)
    (map (with_button keys) (press ++ release)) old_buttons
    (given_buttons keys (press ++ release)) in
    record {
      few = omega (arith, length-append hotkeys (rule ∷ []), room.rules);
      few_keys = subst (λ (ks : List ℕ). length ks ≤ MOST_ACTION_KEYS) (sym after) room.keys;
      few_actions = subst (λ (xs : List Action). length xs ≤ MOST_ACTIONS) (sym acts)
          (omega (
            arith,
            length-append (actions_in hotkeys) (map (with_button keys) (press ++ release)),
            length-map (press ++ release) (with_button keys),
            room.actions,
          ));
      triggers =
          all_append (λ (rule : Rule). is_trigger rule.trigger) hotkeys (rule ∷ []) s.triggers
          (and_from (is_trigger trigger) true t refl);
      actions = ap (list_all (is_action_among count)) acts
          ∙ all_append (is_action_among count) (actions_in hotkeys)
          (map (with_button keys) (press ++ release)) s.actions
          (all_given count keys (press ++ release)
          (all_append (is_action_among count) press release p r));
      buttons =
          subst (λ (ks : List ℕ). All (HasItsButton ks) (actions_in (hotkeys ++ rule ∷ [])))
          (sym after)
          (subst (λ (xs : List Action). All (HasItsButton keys) xs) (sym acts) all_buttons);
    }

-- ---- what is counted

pub none_counted : AreCounted [] [] 0
unfolding action_keys
none_counted =
    record {
      keys_are = refl;
      few_keys = omega arith;
      actions_are = refl;
      few_actions = omega arith;
    }
