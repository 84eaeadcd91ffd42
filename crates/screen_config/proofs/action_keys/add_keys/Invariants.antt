use Rattle.std.proofs.Common.{◌≡◌, ◌≤◌, length}
use Rattle.screen_config.specs.ActionKeys.{with_keys, keys_in}
use Rattle.screen_config.proofs.action_keys.add_keys.Given as goal

abbrev pub invariant-loop-rest : goal.invariant-loop-rest
invariant-loop-rest l = record {
  same : with_keys l.keys.items (keys_in l.rest) ≡ with_keys l.fn.keys.items (keys_in l.fn.actions);
  few : length l.keys.items ≤ 256;
}

abbrev pub decreases-loop-rest : goal.decreases-loop-rest
decreases-loop-rest l = length l.rest
