use Rattle.std.proofs.Common.{◌≡◌, ◌++◌, drop}
use Rattle.std.specs.List.{flat_map}
use Rattle.config_text.specs.Normal.{further_action}
use Rattle.config_text.proofs.hotkey_printing.put_further.Given as goal

abbrev pub invariant-loop-action : goal.invariant-loop-action
invariant-loop-action l =
    l.out ++ flat_map (further_action l.config) (drop l.action-index l.actions)
    ≡ l.fn.out ++ flat_map (further_action l.config) l.actions
