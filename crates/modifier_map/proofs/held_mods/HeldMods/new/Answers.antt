use Rattle.std.proofs.Common.{refl}
use Rattle.modifier_map.proofs.Tables.{fresh}
use Rattle.modifier_map.proofs.held_mods.HeldMods.new.Goals as goal

pub returns : goal.returns
returns c = fresh 256 refl
