use Rattle.std.proofs.Common.{◌≡◌, ◌++◌, drop}
use Rattle.std.specs.List.{flat_map}
use Rattle.config_text.specs.Normal.{alias_text}
use Rattle.config_text.proofs.printing.put_alias_lines.Given as goal

abbrev pub invariant-loop-alias : goal.invariant-loop-alias
invariant-loop-alias l =
    l.out ++ flat_map (alias_text l.screen) (drop l.alias-index l.aliases)
    ≡ l.fn.out ++ flat_map (alias_text l.screen) l.aliases
