-- What a connection is told: the greeting first, and no other one later.
use Rattle.std.specs.Prelude.{◌≡◌, ℕ, Bool, true, not, ◌&&◌, List, [], ◌∷◌}
use Rattle.std.specs.List.{list_all}
use Rattle.message_codec.specs.declared.messages.End.TheVariants as ends
use Rattle.message_codec.specs.declared.messages.Msg.{Msg}
use Rattle.message_codec.specs.declared.messages.Msg.TheVariants as msg
use Rattle.message_codec.specs.Table.{row, code_of}
use Rattle.message_codec.specs.BodyVerdicts.{sends}
use Rattle.message_reader.specs.Roles.{is_hello}
use Rattle.machine.specs.Targets.{Client}
use Rattle.machine.specs.States.{State}
use Rattle.machine.specs.Queues.{messages_for}
use Rattle.reached_states.specs.Reaching.{Origin, Reached}

-- of version 1.6
abbrev pub greeting : Msg
greeting = msg.Hello 1 6

-- a server sends it, and it is no greeting
abbrev pub may_follow : Msg → Bool
may_follow m = sends (row (code_of m)).sender ends.Server && not (is_hello m)

-- there is nothing, or the greeting and then what may follow it
abbrev pub IsGreetedFirst : List Msg → Type 0
IsGreetedFirst [] = Unit {0}
IsGreetedFirst (m ∷ later) = (m ≡ greeting) × (list_all may_follow later ≡ true)

abbrev pub GreetedFirst : Type 0
GreetedFirst =
    (o : Origin) (latest : ℕ) (s : State) (serial : ℕ) → Reached o latest s
    → IsGreetedFirst (messages_for (Client serial) s.routed)
