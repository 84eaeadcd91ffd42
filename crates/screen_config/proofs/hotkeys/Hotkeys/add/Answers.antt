use Rattle.std.proofs.Common.{◌≡◌, ℕ, false, List, [], ◌∷◌, ◌++◌, map, Ok, Err, refl, ap, ◌∙◌}
use Rattle.std.proofs.Common.{subst, arith}
use Rattle.std.proofs.lemmas.Result.{err_from_is_err_and}
use Rattle.hotkey_rules.specs.declared.action.Action.{Action}
use Rattle.hotkey_rules.specs.declared.rule.Rule.{Rule}
use Rattle.hotkey_rules.specs.Rules.{rule_of}
use Rattle.screen_config.specs.ActionKeys.{keys_in, with_keys, with_button}
use Rattle.screen_config.specs.AddingHotkeys.{has_room}
use Rattle.screen_config.specs.AddingHotkeys.{AddsHotkey}
use Rattle.screen_config.proofs.AddedHotkeys.{no_room_for_rule, too_many_actions, keys_of_both}
use Rattle.screen_config.proofs.AddedHotkeys.{refused_by_press, refused_by_release, IsAdded}
use Rattle.screen_config.proofs.AddedHotkeys.{added_hotkey, counted_with}
use Rattle.screen_config.proofs.hotkeys.Hotkeys.add.Goals as goal

pub returns-then-press-room : goal.returns-then-press-room
returns-then-press-room c = (
  subst (λ (h : List Rule). has_room h (c.args.press.now ++ c.args.release.now) ≡ false)
      c.self.view_is
      (too_many_actions c.self.inside.rules c.self.inside.keys.items c.self.inside.actions
      c.args.press.now c.args.release.now c.self.invariant
      (omega (arith, c.self.invariant.few_actions))),
  refl,
)

pub returns-then-release-room : goal.returns-then-release-room
returns-then-release-room c = (
  subst (λ (h : List Rule). has_room h (c.args.press.now ++ c.args.release.now) ≡ false)
      c.self.view_is
      (too_many_actions c.self.inside.rules c.self.inside.keys.items c.self.inside.actions
      c.args.press.now c.args.release.now c.self.invariant
      (omega (arith, c.self.invariant.few_actions))),
  refl,
)

pub returns-in_err-add_keys : goal.returns-in_err-add_keys
returns-in_err-add_keys c =
    let p =
    err_from_is_err_and c.from_residual-in_err-add_keys.result
    c.from_residual-in_err-add_keys.ensures.1 in
    rw (p.1, p.2)
    (subst
    (λ (h : List Rule).
    AddsHotkey (Err c.in_err-add_keys.field-0.0) h c.args.trigger c.args.press.now
    c.args.release.now h)
    c.self.view_is
    (refused_by_press c.in_err-add_keys.field-0.0 c.self.inside.rules c.in_ok-keys.keys.items
    c.add_keys.new.keys.items c.args.trigger c.args.press.now c.args.release.now
    (c.in_ok-keys.ensures ∙ c.as_slice.ensures.value ∙ c.self.invariant.keys_are)
    c.in_err-add_keys.ensures))

pub returns-in_err-add_keys-2 : goal.returns-in_err-add_keys-2
returns-in_err-add_keys-2 c =
    let p =
    err_from_is_err_and c.from_residual-in_err-add_keys-2.result
    c.from_residual-in_err-add_keys-2.ensures.1 in
    rw (p.1, p.2)
    (subst
    (λ (h : List Rule).
    AddsHotkey (Err c.in_err-add_keys-2.field-0.0) h c.args.trigger c.args.press.now
    c.args.release.now h)
    c.self.view_is
    (refused_by_release c.in_err-add_keys-2.field-0.0 c.self.inside.rules c.in_ok-keys.keys.items
    c.add_keys.new.keys.items c.add_keys-2.new.keys.items c.args.trigger c.args.press.now
    c.args.release.now
    (c.in_ok-keys.ensures ∙ c.as_slice.ensures.value ∙ c.self.invariant.keys_are)
    c.in_ok-add_keys.ensures.0 c.in_err-add_keys-2.ensures))

pub returns-in-Err-Full : goal.returns-in-Err-Full
returns-in-Err-Full c =
    let added = rw c.in-Err-Full.field-0-is at c.in-Err-Full.ensures in (
      subst (λ (h : List Rule). has_room h (c.args.press.now ++ c.args.release.now) ≡ false)
          c.self.view_is
          (no_room_for_rule c.self.inside.rules (c.args.press.now ++ c.args.release.now) added.0),
      added.1 ∙ c.self.view_is,
    )

is_added : (c : goal.After-self-1)
    → IsAdded c.self.inside.rules c.add.new.self c.self.inside.actions c.args.trigger
    c.args.press.now c.args.release.now c.add_keys-2.new.keys.items
is_added c =
    let press : c.in_ok-pressed.pressed
    ≡ map (with_button c.add_keys-2.new.keys.items) c.args.press.now =
    c.in_ok-pressed.ensures
    ∙ ap (λ (ks : List ℕ). map (with_button ks) c.args.press.now) c.as_slice-2.ensures.value in
    let release : c.in_ok-released.released
    ≡ map (with_button c.add_keys-2.new.keys.items) c.args.release.now =
    c.in_ok-released.ensures
    ∙ ap (λ (ks : List ℕ). map (with_button ks) c.args.release.now) c.as_slice-3.ensures.value
    in
    record {
      few = c.in-Ok.ensures.0;
      same = c.in-Ok.ensures.1
          ∙ ap
          (λ (actions : List Action). c.self.inside.rules
          ++ rule_of c.args.trigger actions c.in_ok-released.released ∷ [])
          press
          ∙ ap
          (λ (actions : List Action). c.self.inside.rules
          ++ rule_of c.args.trigger
          (map (with_button c.add_keys-2.new.keys.items) c.args.press.now) actions
          ∷ [])
          release;
      keys_are = c.in_ok-add_keys-2.ensures.0
          ∙ ap (λ (ks : List ℕ). with_keys ks (keys_in c.args.release.now))
          c.in_ok-add_keys.ensures.0
          ∙ ap
          (λ (ks : List ℕ).
          with_keys (with_keys ks (keys_in c.args.press.now)) (keys_in c.args.release.now))
          (c.in_ok-keys.ensures ∙ c.as_slice.ensures.value ∙ c.self.invariant.keys_are)
          ∙ keys_of_both c.self.inside.rules c.args.press.now c.args.release.now;
      few_keys = c.in_ok-add_keys-2.ensures.1;
      few_actions =
          omega
          (arith, c.if-press-room.false, c.if-release-room.false, c.self.invariant.few_actions);
    }

pub invariant_of-self-in-Ok : goal.invariant_of-self-in-Ok
invariant_of-self-in-Ok c = counted_with _ _ _ _ _ _ _ _ c.self.invariant (is_added c)

pub returns : goal.returns
returns c =
    subst
    (λ (h : List Rule).
    AddsHotkey (Ok tt) h c.args.trigger c.args.press.now c.args.release.now c.add.new.self)
    c.self.view_is
    (added_hotkey _ _ _ _ _ _ _ _ c.self.invariant (is_added c))
