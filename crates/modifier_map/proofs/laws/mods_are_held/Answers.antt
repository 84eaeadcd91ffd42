use Rattle.modifier_map.proofs.HeldLaw as law
use Rattle.modifier_map.proofs.laws.mods_are_held.Goals as goal

pub returns : goal.returns
returns c = record { held = law.mods_are_held; small = law.mods_small }
