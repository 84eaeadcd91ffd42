-- The shape of the screen as which a connection is joined.
use Rattle.std.specs.Prelude.{ℕ, Option}
use Rattle.std.specs.Option.{option_and_then}
use Rattle.share_base.specs.declared.shape.Shape.{Shape}
use Rattle.hello_states.specs.Phases.{joined_shape}
use Rattle.machine.specs.Connections.{Connection}
use Rattle.machine.specs.States.{State}
use Rattle.machine.specs.Screens.{connection}

abbrev pub shape_joined : State → ℕ → Option Shape
shape_joined s serial =
    option_and_then (λ (c : Connection). joined_shape c.phase) (connection s serial)
