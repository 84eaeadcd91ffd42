-- Whom the server tells something, what for, and the list of all that it told.
use Rattle.std.specs.Prelude.{ℕ, Bool, true, false, ◌==◌}
use Rattle.message_codec.specs.declared.messages.Msg.{Msg}

-- the primary screen, or the connection of that serial
pub data Target : Type 0 where
  Primary : Target
  Client : (serial : ℕ) → Target

abbrev pub same_target : Target → Target → Bool
same_target Primary Primary = true
same_target (Client one) (Client other) = one == other
same_target _ _ = false

abbrev pub is_primary : Target → Bool
is_primary Primary = true
is_primary (Client serial) = false

-- an input event of the script's line of that number, an action of its hotkey, or neither
pub data Origin : Type 0 where
  OfLine : (number : ℕ) → Origin
  OfAction : (number : ℕ) → Origin
  Own : Origin

-- a message that was routed. Taken is how many bytes its target had taken by then
pub record Entry : Type 0 where
  pub origin : Origin
  pub target : Target
  pub message : Msg
  pub taken : ℕ
