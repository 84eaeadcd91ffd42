use Rattle.std.proofs.Common.{arith}
use Rattle.share_base.proofs.FlatMaps.{part_added}
use Rattle.modifier_map.specs.Table.{all_classes}
use Rattle.hotkey_text.specs.Printed.{mod_text}
use Rattle.hotkey_text.proofs.printing.put_mods.Goals as goal

pub loop-class-preserved : goal.loop-class-preserved
loop-class-preserved c =
    part_added (mod_text c.args.mods) all_classes c.loop-class.class-index _ c.loop-class.out
    c.put_mod.new.out _
    (omega arith) c.loop-class.invariant c.in_ok-put_mod.ensures
