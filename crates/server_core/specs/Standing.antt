-- Which state of the machine a server is in.
use Rattle.std.specs.Prelude.{◌≡◌, ℕ, List, [], ◌++◌, drop, map, length}
use Rattle.message_codec.specs.declared.messages.Msg.{Msg}
use Rattle.clip_chunks.specs.Books as books
use Rattle.machine.specs.Targets as machine
use Rattle.machine.specs.States.{State}
use Rattle.machine.specs.Queues.{messages_for}
use Rattle.machine.specs.Clipboards.{clip_limit}
use Rattle.machine.specs.Logs.{log_text}
use Rattle.pressed_inputs.specs.Inputs.{inputs_of}
use Rattle.pressed_inputs.specs.Keeping as pressed
use Rattle.screen_crossing.specs.Points.{point_of}
use Rattle.screen_crossing.specs.Remembering as gates
use Rattle.server_log.specs.Telling as logs
use Rattle.connection_table.specs.Standing.{Surroundings, AreFor}
use Rattle.server_core.specs.declared.server.ServerCore.{ServerCore}
use Rattle.server_core.specs.Targets.{meant, IsThere}
use Rattle.server_core.specs.Lines.{line_of}

-- what is told beside the state: the text of the log that was cleared, and of each connection the
-- bytes that came and the messages that its reader gave of them
pub record Beside : Type 0 where
  pub front : List ℕ
  pub received : ℕ → List ℕ
  pub given : ℕ → List Msg

abbrev pub nothing_told : Beside
nothing_told = record { front = []; received = λ serial. []; given = λ serial. [] }

-- nothing of that serial was heard
abbrev pub IsBlank : ℕ → Beside → Type 0
IsBlank serial b = (b.received serial ≡ []) × (b.given serial ≡ [])

-- what tells the kept connections
abbrev pub around : Beside → State → Surroundings
around b s =
    record {
      routed = s.routed;
      received = b.received;
      given = b.given;
      limit = clip_limit s;
      count = length s.config.screens;
    }

-- the server is in that state, of which that holds
pub record StandsWhere (P : State → Type 0) (b : Beside) (core : ServerCore) (s : State) : Type 0
  where
    -- what was given at the start
    pub config : core.config ≡ s.config
    pub primary : core.script.primary.screen.0 ≡ s.primary
    pub primary_shape : core.primary_shape ≡ s.primary_shape
    -- the script and the clock
    pub lines : map line_of (drop core.ran core.script.lines) ≡ s.lines
    pub ran : core.ran ≡ s.ran
    pub sleeps_until : core.sleeps_until ≡ s.sleeps_until
    pub has_quit : core.has_quit ≡ s.has_quit
    pub at : core.at ≡ s.at
    -- the connections
    pub connections : AreFor (around b s) core.table s.connections
    -- the cursor
    pub active : meant core.active ≡ s.active
    pub there : P s
    pub cursor : point_of core.cursor ≡ s.cursor
    pub sequence : core.sequence ≡ s.sequence
    pub is_locked : core.is_locked ≡ s.is_locked
    pub gate : gates.Remembers core.gate s
    -- what the script holds down
    pub pressed : pressed.Keeps core.pressed (inputs_of s)
    -- what goes from screen to screen
    pub clips : books.StandsAt core.clips s.clips
    pub clips_of : core.clips.primary.0 ≡ s.primary
    pub clips_limit : core.clips.limit ≡ clip_limit s
    -- what was told
    pub told : logs.StandsFor core.primary (messages_for machine.Primary s.routed)
    pub log : b.front ++ core.log ≡ log_text s

-- whose active screen is there
abbrev pub Stands : Beside → ServerCore → State → Type 0
Stands b core s = StandsWhere (λ t. IsThere t t.active) b core s

-- whose active screen may be gone, as it may be when a run ends
abbrev pub Leaves : Beside → ServerCore → State → Type 0
Leaves b core s = StandsWhere (λ t. Unit {0}) b core s
