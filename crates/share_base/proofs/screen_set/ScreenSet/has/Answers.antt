use Rattle.std.proofs.Common.{◌≡◌, ℕ, ◌/◌, ◌^◌, eqb, bit_and, subst}
use Rattle.share_base.specs.Screens.{has}
use Rattle.share_base.proofs.ScreenBits.{has-bit}
use Rattle.share_base.proofs.screen_set.ScreenSet.has.Goals as goal

pub returns : goal.returns
returns c =
    subst (λ (s : ℕ). eqb (bit_and (c.self.inside.bits / 2 ^ c.args.no.0) 1) 1 ≡ has s c.args.no.0)
    c.self.view_is (has-bit c.self.inside.bits c.args.no.0)
