-- What a primary screen keeps of the messages that it was told, and what is logged of one more.
use Rattle.std.specs.Prelude.{◌≡◌, ℕ, List, [], ◌∷◌, ◌++◌, map}
use Rattle.std.specs.List.{flat_map}
use Rattle.message_codec.specs.declared.messages.Msg.{Msg}
use Rattle.held_inputs.specs.Stands.{Stands}
use Rattle.machine.specs.States.{Local}
use Rattle.machine.specs.Routing.{screen_after, local_lines}
use Rattle.machine.specs.Logs.{log_line}
use Rattle.server_log.specs.declared.primary.Primary.{Primary}

-- it was told these messages, oldest first
abbrev pub StandsFor : Primary → List Msg → Type 0
StandsFor p messages = Stands p.injector (screen_after messages)

-- it was told one message more, and the lines that the message prints were logged
pub record Tells (old new : Primary) (m : Msg) (before after : List ℕ) : Type 0 where
  pub stands : (messages : List Msg) → StandsFor old messages → StandsFor new (messages ++ m ∷ [])
  pub logged : (messages : List Msg) → StandsFor old messages
      → after ≡ before ++ flat_map log_line (map Local (local_lines messages m))
