-- Printed hotkeys are short: so many bytes for each, and so many for each action.
use Rattle.std.proofs.Common.{◌≡◌, ℕ, ◌+◌, ◌*◌, ◌≤◌, Bool, true, false, List, [], ◌∷◌, ◌++◌, length}
use Rattle.std.proofs.Common.{map, ap, length-append, arith}
use Rattle.std.specs.Prelude.{codes}
use Rattle.std.specs.List.{flat_map, list_all}
use Rattle.std.proofs.lemmas.Bool.{and_parts}
use Rattle.share_base.proofs.ListTests.{all_parts}
use Rattle.hotkey_rules.specs.declared.action.Action.{Action}
use Rattle.hotkey_rules.specs.declared.action.Action.TheVariants as action
use Rattle.hotkey_rules.specs.declared.rule.Rule.{Rule}
use Rattle.hotkey_text.specs.Printed.{trigger_text, between, and_further, with_commas, hotkey_text}
use Rattle.hotkey_text.specs.Shapes.{has_some}
use Rattle.hotkey_rules.specs.WellFormed.{is_trigger, is_action}
use Rattle.hotkey_text.proofs.ActionLengths.{trigger_short, action_short}
use Rattle.screen_config.specs.ActionKeys.{actions_in}
use Rattle.screen_config.specs.Configurations.{Configuration}
use Rattle.config_text.specs.Normal.{one_tab, screen_in, action_of, further_action, hotkey_of}
use Rattle.screen_config.specs.Sound.{IsSound}
use Rattle.screen_config.specs.SoundHotkeys.{action_below, is_action_among}
use Rattle.config_text.proofs.ActionTexts.{further_texts}
use Rattle.config_text.proofs.FlatMapLengths.{all_short}
use Rattle.config_text.proofs.NameLengths.{name_short}

-- ---- an action

screen_short : (c : Configuration) (a : Action) → IsSound c → length (screen_in c a) ≤ 255
screen_short c (action.SwitchTo screen) s = name_short c screen.0 s
screen_short c (action.SwitchToward side) s = omega arith
screen_short c (action.Lock mode) s = omega arith
screen_short c (action.KeyStroke id mods button) s = omega arith
screen_short c (action.KeyPress id mods button) s = omega arith
screen_short c (action.KeyRelease id mods button) s = omega arith
screen_short c (action.MouseClick mods b) s = omega arith
screen_short c (action.MousePress mods b) s = omega arith
screen_short c (action.MouseRelease mods b) s = omega arith

action_of_short : (c : Configuration) (count : ℕ) (a : Action) → IsSound c
    → is_action_among count a ≡ true → length (action_of c a) ≤ 275
unfolding action_of
action_of_short c count a s h =
    action_short a (screen_in c a) (and_parts (is_action a) (action_below count a) h).0
    (screen_short c a s)

further_short : (c : Configuration) (count : ℕ) (a : Action) → IsSound c
    → is_action_among count a ≡ true → length (further_action c a) ≤ 300
further_short c count a s h =
    omega (arith, length-append (codes ", ") (action_of c a), action_of_short c count a s h)

-- ---- a list of actions

list_short : (c : Configuration) (count : ℕ) (actions : List Action) → IsSound c
    → list_all (is_action_among count) actions ≡ true
    → length (with_commas (map (action_of c) actions)) ≤ 300 * length actions
list_short c count [] s h = omega arith
list_short c count (a ∷ actions) s h =
    let e = and_parts (is_action_among count a) (list_all (is_action_among count) actions) h in
    omega (
      arith,
      length-append (action_of c a) (and_further (map (action_of c) actions)),
      ap (λ (t : List ℕ). length t) (further_texts c actions),
      action_of_short c count a s e.0,
      all_short (further_action c) 300 (is_action_among count) actions
          (λ b k. further_short c count b s k) e.1,
    )

between_short : (press release : Bool) → length (between press release) ≤ 2
between_short true true = omega arith
between_short false true = omega arith
between_short true false = omega arith
between_short false false = omega arith

-- ---- a hotkey

hotkey_short : (c : Configuration) (count : ℕ) (rule : Rule) → IsSound c
    → is_trigger rule.trigger ≡ true
    → list_all (is_action_among count) (rule.press ++ rule.release) ≡ true
    → length (hotkey_of c rule) ≤ 100 + 300 * length (rule.press ++ rule.release)
unfolding hotkey_of hotkey_text
hotkey_short c count rule s t h =
    let parts = all_parts (is_action_among count) rule.press rule.release h in
    let trigger = trigger_text rule.trigger in
    let press = map (action_of c) rule.press in
    let release = map (action_of c) rule.release in
    let sign = between (has_some press) (has_some release) in
    omega (
      arith,
      length-append
          (one_tab
          ++ ((((trigger ++ codes " = ") ++ with_commas press) ++ sign) ++ with_commas release))
          (10 ∷ []),
      length-append one_tab
          ((((trigger ++ codes " = ") ++ with_commas press) ++ sign) ++ with_commas release),
      length-append (((trigger ++ codes " = ") ++ with_commas press) ++ sign) (with_commas release),
      length-append ((trigger ++ codes " = ") ++ with_commas press) sign,
      length-append (trigger ++ codes " = ") (with_commas press),
      length-append trigger (codes " = "),
      length-append rule.press rule.release,
      trigger_short rule.trigger t,
      between_short (has_some press) (has_some release),
      list_short c count rule.press s parts.0,
      list_short c count rule.release s parts.1,
    )

pub hotkeys_short : (c : Configuration) (count : ℕ) (rules : List Rule) → IsSound c
    → list_all (λ rule. is_trigger rule.trigger) rules ≡ true
    → list_all (is_action_among count) (actions_in rules) ≡ true
    → length (flat_map (hotkey_of c) rules)
    ≤ 100 * length rules + 300 * length (actions_in rules)
hotkeys_short c count [] s t h = omega arith
hotkeys_short c count (rule ∷ rules) s t h =
    let parts =
    all_parts (is_action_among count) (rule.press ++ rule.release) (actions_in rules) h in
    let triggers =
    and_parts (is_trigger rule.trigger) (list_all (λ (r : Rule). is_trigger r.trigger) rules) t
    in
    omega (
      arith,
      length-append (hotkey_of c rule) (flat_map (hotkey_of c) rules),
      length-append (rule.press ++ rule.release) (actions_in rules),
      hotkey_short c count rule s triggers.0 parts.0,
      hotkeys_short c count rules s triggers.1 parts.1,
    )
