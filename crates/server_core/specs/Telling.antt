-- Telling the joined connections, one after another.
use Rattle.std.specs.Prelude.{ℕ, List, slice_get}
use Rattle.std.specs.Option.{option_map, option_to_list}
use Rattle.std.specs.List.{filter_map}
use Rattle.message_codec.specs.declared.messages.Msg.{Msg}
use Rattle.machine.specs.Targets.{Target, Client, Own}
use Rattle.machine.specs.Connections.{Connection}
use Rattle.machine.specs.States.{State}
use Rattle.machine.specs.Screens.{screen_in}
use Rattle.machine.specs.Routing.{route_all}

abbrev pub joined_among : List Connection → List Target
joined_among connections =
    filter_map (λ (c : Connection). option_map (λ screen. Client c.serial) (screen_in c))
    connections

-- the connection of that index is told it, if there is one and it is joined
abbrev pub tell_at : ℕ → Msg → State → State
tell_at index m s =
    route_all Own (joined_among (option_to_list (slice_get s.connections index))) m s
