-- Actions that are read again, first without the buttons of their keys, get the buttons that they
-- had.
use Rattle.std.proofs.Common.{◌≡◌, ℕ, ◌+◌, ◌<◌, ◌≤◌, true, List, [], ◌∷◌, ◌++◌, length, map, refl}
use Rattle.std.proofs.Common.{ap, sym, ◌∙◌, subst, length-append, arith}
use Rattle.std.specs.List.{list_all, All}
use Rattle.std.proofs.lemmas.Bool.{and_from, lt-ltb, le-leb}
use Rattle.std.proofs.lemmas.List.{map-append, length-map}
use Rattle.std.proofs.lemmas.List.Concat.{flat_map-append}
use Rattle.std.proofs.lemmas.List.Elements.{All-nil, All-cons, All-head, All-tail}
use Rattle.share_base.proofs.ListTests.{all_parts}
use Rattle.hotkey_rules.specs.declared.action.Action.{Action}
use Rattle.hotkey_rules.specs.declared.action.Action.TheVariants as action
use Rattle.hotkey_rules.specs.declared.rule.Rule.{Rule}
use Rattle.hotkey_rules.specs.Rules.{rule_of}
use Rattle.hotkey_rules.specs.declared.rules.TheConstants.{MOST_RULES}
use Rattle.screen_config.specs.ActionKeys.{has_key, with_keys, key_in, keys_in, actions_in}
use Rattle.screen_config.specs.ActionKeys.{action_keys, with_button}
use Rattle.screen_config.specs.declared.hotkeys.TheConstants.{MOST_ACTIONS}
use Rattle.screen_config.specs.declared.action_keys.TheConstants.{MOST_ACTION_KEYS}
use Rattle.config_text.specs.Hotkeys.{no_button}
use Rattle.screen_config.specs.AddingHotkeys.{keys_with, has_room, next_rule}
use Rattle.screen_config.specs.SoundHotkeys.{HasItsButton, AreHotkeys}
use Rattle.screen_config.proofs.KeyPlaces.{with_keys_append, longer, all_there, same_button}
use Rattle.screen_config.proofs.KeyPlaces.{keys_in_append}

-- ---- an action without its button

abbrev pub bare : Action → Action
bare (action.KeyStroke id mods button) = action.KeyStroke id mods no_button
bare (action.KeyPress id mods button) = action.KeyPress id mods no_button
bare (action.KeyRelease id mods button) = action.KeyRelease id mods no_button
bare (action.MouseClick mods b) = action.MouseClick mods b
bare (action.MousePress mods b) = action.MousePress mods b
bare (action.MouseRelease mods b) = action.MouseRelease mods b
bare (action.Lock mode) = action.Lock mode
bare (action.SwitchTo screen) = action.SwitchTo screen
bare (action.SwitchToward side) = action.SwitchToward side

bare_key : (a : Action) → key_in (bare a) ≡ key_in a
bare_key (action.KeyStroke id mods button) = refl
bare_key (action.KeyPress id mods button) = refl
bare_key (action.KeyRelease id mods button) = refl
bare_key (action.MouseClick mods b) = refl
bare_key (action.MousePress mods b) = refl
bare_key (action.MouseRelease mods b) = refl
bare_key (action.Lock mode) = refl
bare_key (action.SwitchTo screen) = refl
bare_key (action.SwitchToward side) = refl

bare_keys : (actions : List Action) → keys_in (map bare actions) ≡ keys_in actions
bare_keys [] = refl
bare_keys (a ∷ actions) =
    ap (λ (ids : List ℕ). ids ++ keys_in (map bare actions)) (bare_key a)
    ∙ ap (λ (ids : List ℕ). key_in a ++ ids) (bare_keys actions)

given_bare : (keys : List ℕ) (a : Action) → with_button keys (bare a) ≡ with_button keys a
unfolding with_button
given_bare keys (action.KeyStroke id mods button) = refl
given_bare keys (action.KeyPress id mods button) = refl
given_bare keys (action.KeyRelease id mods button) = refl
given_bare keys (action.MouseClick mods b) = refl
given_bare keys (action.MousePress mods b) = refl
given_bare keys (action.MouseRelease mods b) = refl
given_bare keys (action.Lock mode) = refl
given_bare keys (action.SwitchTo screen) = refl
given_bare keys (action.SwitchToward side) = refl

-- its button among keys of which others follow is the one that it has among all of them
given_again : (keys ids : List ℕ) (actions : List Action)
    → list_all (has_key keys) (keys_in actions) ≡ true
    → All (HasItsButton (with_keys keys ids)) actions
    → map (with_button keys) (map bare actions) ≡ actions
given_again keys ids [] there all = refl
given_again keys ids (a ∷ actions) there all =
    let parts = all_parts (has_key keys) (key_in a) (keys_in actions) there in
    let own : with_button keys (bare a) ≡ a =
    given_bare keys a ∙ sym (same_button keys ids a parts.0)
    ∙ All-head (HasItsButton (with_keys keys ids)) a actions all in
    ap (λ (x : Action). x ∷ map (with_button keys) (map bare actions)) own
    ∙ ap (λ (xs : List Action). a ∷ xs)
    (given_again keys ids actions parts.1
    (All-tail (HasItsButton (with_keys keys ids)) a actions all))

-- ---- a rule among rules

all_front : {A : Type 0} (P : A → Type 0) (xs ys : List A) → All P (xs ++ ys) → All P xs
all_front P [] ys h = All-nil P
all_front P (x ∷ xs) ys h =
    All-cons P x xs (All-head P x (xs ++ ys) h) (all_front P xs ys (All-tail P x (xs ++ ys) h))

all_behind : {A : Type 0} (P : A → Type 0) (xs ys : List A) → All P (xs ++ ys) → All P ys
all_behind P [] ys h = h
all_behind P (x ∷ xs) ys h = all_behind P xs ys (All-tail P x (xs ++ ys) h)

abbrev own : Rule → List Action
own rule = rule.press ++ rule.release

abbrev keys_up_to : List Rule → Rule → List ℕ
keys_up_to front rule = keys_with front (own rule)

pub actions_are : (front : List Rule) (rule : Rule) (more : List Rule)
    → actions_in (front ++ rule ∷ more) ≡ actions_in front ++ (own rule ++ actions_in more)
actions_are front rule more = flat_map-append own front (rule ∷ more)

keys_are : (front : List Rule) (rule : Rule) (more : List Rule)
    → action_keys (front ++ rule ∷ more)
    ≡ with_keys (keys_up_to front rule) (keys_in (actions_in more))
unfolding action_keys
keys_are front rule more =
    let ids = keys_in (actions_in front) in
    ap (λ (actions : List Action). with_keys [] (keys_in actions)) (actions_are front rule more)
    ∙ ap (λ (k : List ℕ). with_keys [] k)
    (keys_in_append (actions_in front) (own rule ++ actions_in more)
    ∙ ap (λ (k : List ℕ). ids ++ k) (keys_in_append (own rule) (actions_in more)))
    ∙ with_keys_append [] ids (keys_in (own rule) ++ keys_in (actions_in more))
    ∙ with_keys_append (with_keys [] ids) (keys_in (own rule)) (keys_in (actions_in more))

bare_own : (rule : Rule) → map bare rule.press ++ map bare rule.release ≡ map bare (own rule)
bare_own rule = sym (map-append bare rule.press rule.release)

-- the keys up to the rule don't depend on buttons
same_keys_up_to : (front : List Rule) (rule : Rule)
    → keys_with front (map bare rule.press ++ map bare rule.release) ≡ keys_up_to front rule
same_keys_up_to front rule =
    ap (λ (ids : List ℕ). with_keys (action_keys front) ids)
    (ap keys_in (bare_own rule) ∙ bare_keys (own rule))

-- there is room for it behind those before it
pub room_again : (count : ℕ) (front : List Rule) (rule : Rule) (more : List Rule)
    → AreHotkeys count (front ++ rule ∷ more)
    → has_room front (map bare rule.press ++ map bare rule.release) ≡ true
unfolding has_room
room_again count front rule more s =
    let rules : length front < MOST_RULES =
    omega (arith, s.few, length-append front (rule ∷ more)) in
    let keys : length (keys_with front (map bare rule.press ++ map bare rule.release))
    ≤ MOST_ACTION_KEYS =
    omega (
      arith,
      s.few_keys,
      ap length (keys_are front rule more),
      longer (keys_up_to front rule) (keys_in (actions_in more)),
      ap length (same_keys_up_to front rule),
    )
    in
    let many : length (actions_in front) + length (map bare rule.press ++ map bare rule.release)
    ≤ MOST_ACTIONS =
    omega (
      arith,
      s.few_actions,
      ap length (actions_are front rule more),
      length-append (actions_in front) (own rule ++ actions_in more),
      length-append (own rule) (actions_in more),
      ap length (bare_own rule),
      length-map (own rule) bare,
    ) in
    and_from _ _
    (and_from _ _ (lt-ltb (length front) MOST_RULES rules)
    (le-leb (length (keys_with front (map bare rule.press ++ map bare rule.release)))
    MOST_ACTION_KEYS keys))
    (le-leb (length (actions_in front) + length (map bare rule.press ++ map bare rule.release))
    MOST_ACTIONS many)

-- and it is the same rule
pub rule_again : (count : ℕ) (front : List Rule) (rule : Rule) (more : List Rule)
    → AreHotkeys count (front ++ rule ∷ more)
    → next_rule front rule.trigger (map bare rule.press) (map bare rule.release) ≡ rule
rule_again count front rule more s =
    let keys = keys_up_to front rule in
    let ids = keys_in (actions_in more) in
    let there = all_there (action_keys front) (keys_in (own rule)) in
    let parts =
    all_parts (has_key keys) (keys_in rule.press) (keys_in rule.release)
    (sym (ap (list_all (has_key keys)) (keys_in_append rule.press rule.release)) ∙ there) in
    let buttons : All (HasItsButton (with_keys keys ids))
    (actions_in front ++ (own rule ++ actions_in more)) =
    subst
    (λ (ks : List ℕ). All (HasItsButton ks) (actions_in front ++ (own rule ++ actions_in more)))
    (keys_are front rule more)
    (subst (λ (xs : List Action). All (HasItsButton (action_keys (front ++ rule ∷ more))) xs)
    (actions_are front rule more) s.buttons)
    in
    let both =
    all_front (HasItsButton (with_keys keys ids)) (own rule) (actions_in more)
    (all_behind (HasItsButton (with_keys keys ids)) (actions_in front)
    (own rule ++ actions_in more) buttons)
    in
    let press : map (with_button keys) (map bare rule.press) ≡ rule.press =
    given_again keys ids rule.press parts.0
    (all_front (HasItsButton (with_keys keys ids)) rule.press rule.release both) in
    let release : map (with_button keys) (map bare rule.release) ≡ rule.release =
    given_again keys ids rule.release parts.1
    (all_behind (HasItsButton (with_keys keys ids)) rule.press rule.release both) in
    ap
    (λ (ks : List ℕ).
    rule_of rule.trigger (map (with_button ks) (map bare rule.press))
    (map (with_button ks) (map bare rule.release)))
    (same_keys_up_to front rule)
    ∙ ap
    (λ (xs : List Action).
    rule_of rule.trigger xs (map (with_button keys) (map bare rule.release)))
    press
    ∙ ap (λ (xs : List Action). rule_of rule.trigger rule.press xs) release
