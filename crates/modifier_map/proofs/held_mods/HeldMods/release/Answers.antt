use Rattle.std.proofs.Common.{subst, sym}
use Rattle.modifier_map.specs.Presses.{Kept, StandsFor}
use Rattle.modifier_map.proofs.Tables.{released}
use Rattle.modifier_map.proofs.held_mods.HeldMods.release.Goals as goal

pub returns : goal.returns
returns c = λ calls s.
    released calls c.self.inside.bits c.self.inside.toggles c.args.button.0 c.requires
    (subst (λ (k : Kept). StandsFor k calls) (sym c.self.view_is) s)
