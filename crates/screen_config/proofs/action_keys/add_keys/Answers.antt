use Rattle.std.proofs.Common.{◌≡◌, ℕ, ◌≤◌, List, ◌∷◌, ◌++◌, length, Err, [], get_or, ap, sym, ◌∙◌}
use Rattle.std.proofs.Common.{arith}
use Rattle.hotkey_rules.specs.declared.action.Action.{Action}
use Rattle.screen_config.specs.declared.hotkeys.HotkeysFault.{HotkeysFault}
use Rattle.screen_config.specs.declared.hotkeys.HotkeysFault.TheVariants as fault
use Rattle.screen_config.specs.ActionKeys.{with_keys, key_in, keys_in}
use Rattle.screen_config.specs.AddingHotkeys.{AddsKeys}
use Rattle.screen_config.proofs.KeyPlaces.{with_keys_append, longer}
use Rattle.screen_config.proofs.action_keys.add_keys.Goals as goal

refused_first : (f : HotkeysFault) (keys : List ℕ) (a : Action) (after : List Action)
    (all new given : List ℕ)
    → with_keys keys (key_in a ++ keys_in after) ≡ with_keys given all
    → AddsKeys (Err f) keys (key_in a) new → AddsKeys (Err f) given all new
refused_first fault.Full keys a after all new given same h =
    omega (
      arith,
      h,
      longer (with_keys keys (key_in a)) (keys_in after),
      ap (λ (ks : List ℕ). length ks)
          (sym (with_keys_append keys (key_in a) (keys_in after)) ∙ same),
    )
refused_first fault.OutOfMemory keys a after all new given same h = tt

refused_of : (f : HotkeysFault) (keys : List ℕ) (rest : List Action) (d : Action)
    (all new given : List ℕ)
    → 1 ≤ length rest → with_keys keys (keys_in rest) ≡ with_keys given all
    → AddsKeys (Err f) keys (key_in (get_or rest 0 d)) new → AddsKeys (Err f) given all new
refused_of f keys [] d all new given some same h = absurd (omega arith)
refused_of f keys (a ∷ after) d all new given some same h =
    refused_first f keys a after all new given same h

pub returns-in-Err : goal.returns-in-Err
returns-in-Err c =
    refused_of c.in-Err.fault c.loop-rest.keys.items c.loop-rest.rest.now _
    (keys_in c.args.actions.now) c.add_key_of.new.keys.items c.args.keys.now.items
    c.in-len1-up.len_at_least c.loop-rest.invariant.same c.in-Err.ensures
