-- The law that a connection whose queue lacks a frame is parting: all that a live one was told is
-- in its queue.
use Rattle.std.specs.Prelude.{◌≡◌, ℕ, true, List, Contains}
use Rattle.screen_config.specs.Configurations.{Configuration}
use Rattle.machine.specs.Scripts.{Script}
use Rattle.machine.specs.Targets.{Client}
use Rattle.machine.specs.Connections.{Connection, is_live}
use Rattle.machine.specs.States.{State}
use Rattle.machine.specs.Queues.{messages_for, queued_messages}
use Rattle.machine.specs.Happenings.{Happening}
use Rattle.machine.specs.Acceptance.{start}
use Rattle.machine.specs.Steps.{run}
use Rattle.machine.specs.Runs.{AreAllowed}

abbrev pub NothingIsLeftOut : State → Type 0
NothingIsLeftOut s =
    (c : Connection) → Contains s.connections c → is_live c ≡ true
    → queued_messages s.routed c.serial ≡ messages_for (Client c.serial) s.routed

abbrev pub NothingLeftOut : Type 0
NothingLeftOut =
    (config : Configuration) (script : Script) (now : ℕ) (hs : List Happening)
    → AreAllowed 0 (start config script now) hs
    → NothingIsLeftOut (run hs (start config script now))
