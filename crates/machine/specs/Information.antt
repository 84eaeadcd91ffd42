-- A screen's information: with it a connection joins, and a joined screen has another shape.
use Rattle.std.specs.Prelude.{ℕ, List, [], ◌∷◌, Option, Some, None, unwrap_or, slice_get}
use Rattle.std.specs.Option.{option_map}
use Rattle.share_base.specs.declared.shape.Shape.{Shape}
use Rattle.message_codec.specs.declared.messages.Msg.TheVariants as msg
use Rattle.screen_config.specs.declared.screens.Screen as named
use Rattle.screen_config.specs.Globals.{wire_options_of}
use Rattle.hello_states.specs.declared.part_cause.PartCause.TheVariants as cause
use Rattle.hello_states.specs.Phases.{AskedScreen, JoinedScreen}
use Rattle.hello_states.specs.Handshake.{asked_after_info, joined_after_info}
use Rattle.machine.specs.Targets.{Client, Own, same_target}
use Rattle.machine.specs.Connections.{advanced}
use Rattle.machine.specs.States.{State, Join}
use Rattle.machine.specs.Combining.{when}
use Rattle.machine.specs.Screens.{change, clamped}
use Rattle.machine.specs.Routing.{route, route_each, logs}
use Rattle.machine.specs.Clipboards.{clips_joined}
use Rattle.machine.specs.Partings.{part}

-- as the configuration spells it
abbrev pub name_of : State → ℕ → List ℕ
name_of s screen =
    unwrap_or (option_map (λ (n : named.Screen). n.name) (slice_get s.config.screens screen)) []

-- it is joined, and dirty for the clipboards that are known; it is told its options
abbrev pub join : AskedScreen → Shape → ℕ → State → State
join asked shape serial s =
    route_each Own (Client serial)
    (msg.InfoAck ∷ msg.ResetOptions ∷ msg.SetOptions (wire_options_of s.config asked.screen)
    ∷ [])
    (logs (Join serial (name_of s asked.screen) ∷ [])
    (change serial (advanced (asked_after_info (Some shape) s.at asked))
    (clips_joined asked.screen s)))

abbrev pub clamp_cursor : Shape → State → State
clamp_cursor shape s = record s { cursor = clamped shape s.cursor }

-- the cursor, where it is there, stays inside
abbrev pub reshape : JoinedScreen → Shape → ℕ → State → State
reshape joined shape serial s =
    when (same_target s.active (Client serial)) (clamp_cursor shape)
    (route Own (Client serial) msg.InfoAck
    (change serial (advanced (joined_after_info (Some shape) s.at joined)) s))

-- a shape that no screen has is refused
abbrev pub hear_first_info : AskedScreen → Option Shape → ℕ → State → State
hear_first_info asked None serial s = part cause.Size serial s
hear_first_info asked (Some shape) serial s = join asked shape serial s

abbrev pub hear_later_info : JoinedScreen → Option Shape → ℕ → State → State
hear_later_info joined None serial s = part cause.Size serial s
hear_later_info joined (Some shape) serial s = reshape joined shape serial s
