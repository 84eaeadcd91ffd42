use Rattle.std.proofs.Common.{◌≡◌, ℕ, ◌*◌, ◌%◌, ◌^◌, ◌&&◌, not, eqb, bit_and, w64, subst, arith}
use Rattle.std.specs.Int.{bit_not}
use Rattle.share_base.specs.Screens.{has}
use Rattle.share_base.proofs.ScreenBits.{has-clear}
use Rattle.share_base.proofs.screen_set.ScreenSet.remove.Goals as goal

pub returns : goal.returns
returns c =
    λ k.
    subst
    (λ (s : ℕ). has (bit_and c.self.inside.bits (bit_not w64 (1 * 2 ^ c.args.no.0 % 2 ^ 64))) k
    ≡ (has s k && not (eqb k c.args.no.0)))
    c.self.view_is (has-clear c.self.inside.bits c.args.no.0 (omega arith) c.requires k)
