-- What a connection that joins is told.
use Rattle.std.specs.Prelude.{ℕ, [], ◌∷◌}
use Rattle.message_codec.specs.declared.messages.Msg.TheVariants as msg
use Rattle.screen_config.specs.Globals.{wire_options_of}
use Rattle.machine.specs.Targets.{Client, Own}
use Rattle.machine.specs.States.{State}
use Rattle.machine.specs.Routing.{route_each}

-- its information is acknowledged, and it is told the options of that screen
abbrev pub tell_options : ℕ → ℕ → State → State
tell_options serial screen s =
    route_each Own (Client serial)
    (msg.InfoAck ∷ msg.ResetOptions ∷ msg.SetOptions (wire_options_of s.config screen) ∷ []) s
