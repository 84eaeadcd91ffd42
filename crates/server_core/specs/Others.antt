-- The clients that hear of another one's grab.
use Rattle.std.specs.Prelude.{ℕ, Bool, not, List, filter, slice_get}
use Rattle.std.specs.List.{filter_map}
use Rattle.std.specs.Option.{option_map, option_to_list}
use Rattle.message_codec.specs.declared.messages.Msg.{Msg}
use Rattle.machine.specs.Targets.{Target, Client, Own, same_target}
use Rattle.machine.specs.Connections.{Connection}
use Rattle.machine.specs.States.{State}
use Rattle.machine.specs.Screens.{screen_in}
use Rattle.machine.specs.Routing.{route_all}

abbrev pub is_other : ℕ → Target → Bool
is_other serial t = not (same_target t (Client serial))

-- the joined ones, without that one
abbrev pub others_among : ℕ → List Connection → List Target
others_among serial connections =
    filter (is_other serial)
    (filter_map (λ (c : Connection). option_map (λ screen. Client c.serial) (screen_in c))
    connections)

-- the connection of that index is told it, if it is one of them
abbrev pub tell_other_at : ℕ → ℕ → Msg → State → State
tell_other_at index serial m s =
    route_all Own (others_among serial (option_to_list (slice_get s.connections index))) m s
