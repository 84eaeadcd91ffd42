use Rattle.std.proofs.Common.{◌≡◌, ◌++◌, drop}
use Rattle.std.specs.List.{flat_map}
use Rattle.modifier_map.specs.Table.{all_classes}
use Rattle.hotkey_text.specs.Printed.{mod_text, mods_text}
use Rattle.hotkey_text.proofs.printing.put_mods.Given as goal

abbrev pub invariant-loop-class : goal.invariant-loop-class
invariant-loop-class l =
    l.out ++ flat_map (mod_text l.mods) (drop l.class-index all_classes)
    ≡ l.fn.out ++ mods_text l.mods
