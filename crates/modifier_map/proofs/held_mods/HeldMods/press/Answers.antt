use Rattle.std.proofs.Common.{subst, sym}
use Rattle.modifier_map.specs.Presses.{Kept, StandsFor}
use Rattle.modifier_map.proofs.Tables.{pressed}
use Rattle.modifier_map.proofs.held_mods.HeldMods.press.Goals as goal

pub returns : goal.returns
returns c = λ calls s.
    pressed calls c.self.inside.bits c.self.inside.toggles c.args.id.0 c.args.button.0
    c.key_bit.result c.lock_bit.result c.requires c.key_bit.ensures c.lock_bit.ensures
    (subst (λ (k : Kept). StandsFor k calls) (sym c.self.view_is) s)
