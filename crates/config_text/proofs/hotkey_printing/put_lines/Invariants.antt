use Rattle.std.proofs.Common.{◌≡◌, ◌++◌, drop}
use Rattle.std.specs.List.{flat_map}
use Rattle.config_text.specs.Normal.{hotkey_of}
use Rattle.config_text.proofs.hotkey_printing.put_lines.Given as goal

abbrev pub invariant-loop-rule : goal.invariant-loop-rule
invariant-loop-rule l =
    l.out ++ flat_map (hotkey_of l.config) (drop l.rule-index l.rules)
    ≡ l.fn.out ++ flat_map (hotkey_of l.config) l.rules
