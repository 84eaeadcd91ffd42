use Rattle.std.proofs.Common.{ap, ◌∙◌}
use Rattle.std.specs.Prelude.{fold, bit_or}
use Rattle.modifier_map.specs.Presses.{Kept}
use Rattle.modifier_map.proofs.Tables.{joined}
use Rattle.modifier_map.proofs.held_mods.HeldMods.mods.Goals as goal

pub returns : goal.returns
returns c =
    λ calls s. c.joined.ensures ∙ ap (λ (k : Kept). fold bit_or 0 k.bits) c.self.view_is
    ∙ joined calls c.args.self.now s
