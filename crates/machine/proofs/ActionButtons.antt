-- The rules of a sound configuration press keys at key buttons alone.
use Rattle.std.specs.Prelude.{◌≡◌, refl, ℕ, ◌+◌, ◌<◌, ◌≤◌, Bool, true, false, not, ◌||◌, ◌==◌, cond, List, [], ◌∷◌, ◌++◌, length, All}
use Rattle.std.specs.List.{list_all, list_any}
use Rattle.std.proofs.Common.{arith, sym, ap, ◌∙◌}
use Rattle.std.proofs.lemmas.Bool.{and_parts}
use Rattle.std.proofs.lemmas.Bool.Decides.{nat_tests}
use Rattle.std.proofs.lemmas.List.Folds.{list_all-append}
use Rattle.std.proofs.lemmas.List.Elements.{All-head, All-tail}
use Rattle.hotkey_rules.specs.declared.action.Action.{Action}
use Rattle.hotkey_rules.specs.declared.action.Action.TheVariants as action
use Rattle.hotkey_rules.specs.declared.rule.Rule.{Rule}
use Rattle.screen_config.specs.ActionKeys.{key_in, keys_in, has_key, actions_in, action_keys, place_of, button_of, with_button}
use Rattle.screen_config.specs.SoundHotkeys.{HasItsButton, AreHotkeys}
use Rattle.screen_config.proofs.KeyPlaces.{all_there}
use Rattle.machine.specs.KeyButtons.{is_key_button, pressed_by_action, pressed_by_rule}

place_below : (keys : List ℕ) (id : ℕ) → has_key keys id ≡ true → place_of keys id < length keys
place_below [] id h = grind (arith, h)
place_below (k ∷ keys) id h = by (k == id) h (place_below keys id)
  where
    by : (b : Bool) → (b || list_any (λ k. k == id) keys) ≡ true → (has_key keys id ≡ true → place_of keys id < length keys) → cond (not b) (1 + place_of keys id) 0 < length (k ∷ keys)
    by true h later = omega arith
    by false h later = let p = later h in omega arith

key_at : (keys : List ℕ) (id : ℕ) → length keys ≤ 256 → has_key keys id ≡ true → is_key_button (button_of keys id).0 ≡ true
key_at keys id few h = let p = place_below keys id h in grind (arith, nat_tests, p, few)

abbrev button_in : Action → ℕ
button_in (action.KeyStroke id mods button) = button.0
button_in (action.KeyPress id mods button) = button.0
button_in (action.KeyRelease id mods button) = button.0
button_in _ = 1

strikes : (keys : List ℕ) (a : Action) → length keys ≤ 256 → list_all (has_key keys) (key_in a) ≡ true → with_button keys a ≡ a → pressed_by_action is_key_button a ≡ true
unfolding with_button
strikes keys (action.KeyStroke id mods button) few h e = ap is_key_button (sym (ap button_in e)) ∙ key_at keys id.0 few (and_parts (has_key keys id.0) true h).0
strikes keys (action.KeyPress id mods button) few h e = ap is_key_button (sym (ap button_in e)) ∙ key_at keys id.0 few (and_parts (has_key keys id.0) true h).0
strikes keys a few h e = refl

strikes_all : (keys : List ℕ) (actions : List Action) → length keys ≤ 256 → list_all (has_key keys) (keys_in actions) ≡ true → All (HasItsButton keys) actions → list_all (pressed_by_action is_key_button) actions ≡ true
strikes_all keys [] few h b = refl
strikes_all keys (a ∷ actions) few h b =
    let parts = and_parts (list_all (has_key keys) (key_in a)) (list_all (has_key keys) (keys_in actions)) (sym (list_all-append (has_key keys) (key_in a) (keys_in actions)) ∙ h) in
    let one = strikes keys a few parts.0 (All-head (HasItsButton keys) a actions b) in
    let rest = strikes_all keys actions few parts.1 (All-tail (HasItsButton keys) a actions b) in
    grind (arith, one, rest)

rules_have : (rules : List Rule) → list_all (pressed_by_action is_key_button) (actions_in rules) ≡ true → list_all (pressed_by_rule is_key_button) rules ≡ true
rules_have [] h = refl
rules_have (r ∷ rules) h =
    let parts = and_parts (list_all (pressed_by_action is_key_button) (r.press ++ r.release)) (list_all (pressed_by_action is_key_button) (actions_in rules)) (sym (list_all-append (pressed_by_action is_key_button) (r.press ++ r.release) (actions_in rules)) ∙ h) in
    let one : pressed_by_rule is_key_button r ≡ true = sym (list_all-append (pressed_by_action is_key_button) r.press r.release) ∙ parts.0 in
    let rest = rules_have rules parts.1 in
    grind (arith, one, rest)

pub have-key-buttons : (count : ℕ) (rules : List Rule) → AreHotkeys count rules → list_all (pressed_by_rule is_key_button) rules ≡ true
unfolding action_keys
have-key-buttons count rules h = rules_have rules (strikes_all (action_keys rules) (actions_in rules) h.few_keys (all_there [] (keys_in (actions_in rules))) h.buttons)
