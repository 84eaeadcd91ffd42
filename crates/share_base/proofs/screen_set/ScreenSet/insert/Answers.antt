use Rattle.std.proofs.Common.{◌≡◌, ℕ, ◌*◌, ◌%◌, ◌^◌, ◌||◌, eqb, bit_or, subst}
use Rattle.share_base.specs.Screens.{has}
use Rattle.share_base.proofs.ScreenBits.{has-set}
use Rattle.share_base.proofs.screen_set.ScreenSet.insert.Goals as goal

pub returns : goal.returns
returns c =
    λ k.
    subst
    (λ (s : ℕ). has (bit_or c.self.inside.bits (1 * 2 ^ c.args.no.0 % 2 ^ 64)) k
    ≡ (has s k || eqb k c.args.no.0))
    c.self.view_is (has-set c.self.inside.bits c.args.no.0 c.requires k)
