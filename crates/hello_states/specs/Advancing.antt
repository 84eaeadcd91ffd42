-- What a connection comes into from the one phase that leads there; in any other it stays.
use Rattle.std.specs.Prelude.{ℕ, Some}
use Rattle.share_base.specs.declared.shape.Shape.{Shape}
use Rattle.hello_states.specs.Phases.{Phase, Greeting, Asked, Joined, Parting}
use Rattle.hello_states.specs.Handshake.{Admitted, after_hello, asked_after_info, joined_after_info}

-- it is admitted as that screen; its keep-alive will have that rate
abbrev pub admitted_as : (screen rate : ℕ) → Phase → Phase
admitted_as screen rate (Greeting accepted) = after_hello (Admitted screen) accepted rate 0
admitted_as screen rate (Asked asked) = Asked asked
admitted_as screen rate (Joined joined) = Joined joined
admitted_as screen rate (Parting cause moment) = Parting cause moment

-- it tells its first shape
abbrev pub joined_with : Shape → (now : ℕ) → Phase → Phase
joined_with shape now (Greeting accepted) = Greeting accepted
joined_with shape now (Asked asked) = asked_after_info (Some shape) now asked
joined_with shape now (Joined joined) = Joined joined
joined_with shape now (Parting cause moment) = Parting cause moment

-- it tells another shape
abbrev pub reshaped_to : Shape → (now : ℕ) → Phase → Phase
reshaped_to shape now (Greeting accepted) = Greeting accepted
reshaped_to shape now (Asked asked) = Asked asked
reshaped_to shape now (Joined joined) = joined_after_info (Some shape) now joined
reshaped_to shape now (Parting cause moment) = Parting cause moment
