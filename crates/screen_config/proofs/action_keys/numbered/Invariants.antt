use Rattle.std.proofs.Common.{◌≡◌, map, take}
use Rattle.screen_config.specs.ActionKeys.{with_button}
use Rattle.screen_config.proofs.action_keys.numbered.Given as goal

abbrev pub invariant-loop-action : goal.invariant-loop-action
invariant-loop-action l = l.given ≡ map (with_button l.keys) (take l.action-index l.actions)
