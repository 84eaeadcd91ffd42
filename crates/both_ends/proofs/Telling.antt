-- What the machine tells, and what that rests on. What each of these steps keeps, every rule keeps but an acceptance: no
-- matter who lives, and which screen is active.
use Rattle.std.specs.Prelude.{◌≡◌, ℕ, ℤ, Bool, true, false, List, [], ◌++◌, map, Option, Some, unwrap_or, if◌then◌else◌}
use Rattle.std.specs.List.{AllByRecursion}
use Rattle.share_base.specs.declared.clip_id.ClipId.{ClipId}
use Rattle.share_base.specs.declared.shape.Shape.{Shape}
use Rattle.share_base.specs.declared.shape.Side.{Side}
use Rattle.share_base.specs.declared.numbers.RuleNo.{RuleNo}
use Rattle.screen_links.specs.declared.link.Landing.{Landing}
use Rattle.edge_cross.specs.declared.edge.Edge.{Edge}
use Rattle.edge_cross.specs.Gates as gates
use Rattle.message_codec.specs.declared.clip_mark.ClipMark.{ClipMark}
use Rattle.message_codec.specs.declared.messages.Msg.{Msg}
use Rattle.message_codec.specs.declared.messages.Msg.TheVariants as msg
use Rattle.hotkey_rules.specs.declared.action.Action.{Action}
use Rattle.hotkey_rules.specs.declared.action.Action.TheVariants as action
use Rattle.hotkey_rules.specs.Rules.{press_of, release_of}
use Rattle.screen_config.specs.Globals.{wire_options_of}
use Rattle.hello_states.specs.declared.part_cause.PartCause.{PartCause}
use Rattle.hello_states.specs.Phases.{AskedScreen, JoinedScreen}
use Rattle.hello_states.specs.Handshake.{Admitted, after_hello, shape_of_info, asked_after_info, joined_after_info}
use Rattle.clip_chunks.specs.Parts.{Part, part, message_of}
use Rattle.clip_chunks.specs.Sending.{parts_of}
use Rattle.clip_chunks.specs.Clips.{Clip}
use Rattle.clip_chunks.specs.OpenRuns.{whole_at}
use Rattle.clip_chunks.specs.Rules as rules
use Rattle.machine.specs.Scripts.{Line}
use Rattle.machine.specs.Scripts as line
use Rattle.machine.specs.Targets.{Target, Origin}
use Rattle.machine.specs.Connections.{Connection, advanced, removed}
use Rattle.machine.specs.States.{State, Point, LogLine}
use Rattle.machine.specs.Screens.{change, shape_of, middle, clamped}
use Rattle.machine.specs.Routing.{route, logs}
use Rattle.machine.specs.Modifiers.{mask, id_at, toggles}
use Rattle.machine.specs.Clipboards.{clip, set_clip, each_clip, clip_limit}
use Rattle.machine.specs.Edges.{landing}
use Rattle.machine.specs.Crossing.{entry_point}
use Rattle.machine.specs.Switching.{next_sequence, at_screen}
use Rattle.machine.specs.Partings.{parted}
use Rattle.machine.specs.Events.{holding}
use Rattle.machine.specs.Running.{past}
use Rattle.machine.specs.Hearing.{with_part, parts_from, was_heard}
use Rattle.machine.specs.Timers.{clock, sent_beat}
use Rattle.machine.specs.Steps.{inbox_of, received_by, receives, drops, takes}

-- messages whose fields, where they have any, are always the same
abbrev pub is_bare : Msg → Bool
is_bare msg.QueryInfo = true
is_bare msg.InfoAck = true
is_bare msg.ResetOptions = true
is_bare msg.Bye = true
is_bare msg.Leave = true
is_bare msg.Busy = true
is_bare msg.Unknown = true
is_bare msg.Malformed = true
is_bare msg.Alive = true
is_bare _ = false

-- which messages may be told, which states, script's lines, points, shapes, places along a side, clipboards, their bytes
-- and changes of connections go with that, and which messages, bytes and parts of clipboards come from clients
pub record Kinds : Type 1 where
  pub message : Msg → Type 0
  pub state : State → Type 0
  pub line : Line → Type 0
  pub point : Point → Type 0
  pub shape : Shape → Type 0
  pub place : ℕ → Type 0
  pub clip : Clip → Type 0
  pub bytes : List ℕ → Type 0
  pub change : (Connection → Connection) → Type 0
  pub heard : Msg → Type 0
  pub piece : List ℕ → Type 0
  pub part : Part → Type 0

-- what an action tells may be told
abbrev pub Says : Kinds → Action → Type 0
Says k (action.KeyStroke id mods button) = k.message (msg.KeyDown id.0 mods.0 button.0) × k.message (msg.KeyUp id.0 mods.0 button.0)
Says k (action.KeyPress id mods button) = k.message (msg.KeyDown id.0 mods.0 button.0)
Says k (action.KeyRelease id mods button) = k.message (msg.KeyUp id.0 mods.0 button.0)
Says k (action.MouseClick mods b) = k.message (msg.ButtonDown b.0) × k.message (msg.ButtonUp b.0)
Says k (action.MousePress mods b) = k.message (msg.ButtonDown b.0)
Says k (action.MouseRelease mods b) = k.message (msg.ButtonUp b.0)
Says k (action.Lock mode) = Unit {0}
Says k (action.SwitchTo screen) = Unit {0}
Says k (action.SwitchToward side) = Unit {0}

pub record IsTelling (k : Kinds) : Type 0 where
  -- a message
  pub told : (o : Origin) (t : Target) (m : Msg) → k.message m → (s : State) → k.state s → k.state (route o t m s)
  pub bare : (m : Msg) → is_bare m ≡ true → k.message m
  pub version : k.message (msg.BadVersion 1 6)
  pub grabs : (id : ClipId) → k.message (msg.Grab id 0)
  pub saver : (on : Bool) → k.message (msg.Saver (if on then 1 else 0))
  pub options : (s : State) (screen : ℕ) → k.state s → k.message (msg.SetOptions (wire_options_of s.config screen))
  pub copied : (id : ClipId) (bytes : List ℕ) → k.bytes bytes → AllByRecursion k.message (map message_of (parts_of id 0 bytes))
  pub enters : (p : Point) (n : ℕ) (s : State) → k.point p → k.state s → k.message (msg.Enter p.x p.y (next_sequence n) (toggles s))
  pub moves_to : (p : Point) → k.point p → k.message (msg.MoveTo p.x p.y)
  pub moves_by : (dx dy : ℤ) → k.line (line.Motion dx dy) → k.message (msg.MoveBy dx dy)
  pub turns : (dx dy : ℤ) → k.line (line.Wheel dx dy) → k.message (msg.Wheel dx dy)
  pub key_down : (id button : ℕ) (s : State) → k.line (line.KeyDown id button) → k.state s → k.message (msg.KeyDown id (mask s) button)
  pub key_repeat : (count button : ℕ) (s : State) → k.line (line.KeyRepeat count button) → k.state s → k.message (msg.KeyRepeat (id_at s button) (mask s) count button)
  pub key_up : (button : ℕ) (s : State) → k.line (line.KeyUp button) → k.state s → k.message (msg.KeyUp (id_at s button) (mask s) button)
  pub button_down : (b : ℕ) → k.line (line.ButtonDown b) → k.message (msg.ButtonDown b)
  pub button_up : (b : ℕ) → k.line (line.ButtonUp b) → k.message (msg.ButtonUp b)
  pub pressed : (s : State) (rule : RuleNo) → k.state s → AllByRecursion (Says k) (unwrap_or (press_of s.config.hotkeys rule) [])
  pub released : (s : State) (rule : RuleNo) → k.state s → AllByRecursion (Says k) (unwrap_or (release_of s.config.hotkeys rule) [])
  -- points
  pub shapes : (s : State) (t : Target) → k.state s → k.shape (shape_of s t)
  pub informed : (x y : ℤ) (w h warp : ℕ) (mx my : ℤ) (shape : Shape) → k.heard (msg.Info x y w h warp mx my) → shape_of_info x y w h ≡ Some shape → k.shape shape
  pub places : (s : State) (e : Edge) (l : Landing) → landing s e ≡ Some l → k.state s → k.place l.t
  pub middles : (shape : Shape) → k.shape shape → k.point (middle shape)
  pub entries : (side : Side) (shape : Shape) (n : ℕ) → k.shape shape → k.place n → k.point (entry_point side shape n)
  pub clamps : (shape : Shape) (p : Point) → k.shape shape → k.point (clamped shape p)
  pub cursor : (p : Point) (s : State) → k.point p → k.state s → k.state (record s { cursor = p })
  pub at_screen : (to : Target) (p : Point) (s : State) → k.point p → k.state s → k.state (at_screen to p s)
  pub gate : (calls : List gates.Call) (s : State) → k.state s → k.state (record s { gate_calls = calls })
  -- clipboards
  pub clip_of : (s : State) (id : ClipId) → k.state s → k.clip (clip s id)
  pub sets_clip : (id : ClipId) (c : Clip) (s : State) → k.clip c → k.state s → k.state (set_clip id c s)
  pub each_clip : (f : Clip → Clip) (s : State) → ((c : Clip) → k.clip c → k.clip (f c)) → k.state s → k.state (each_clip f s)
  pub known : (owner seq : ℕ) (bytes screens : List ℕ) → k.bytes bytes → k.clip (rules.known owner seq bytes screens)
  pub unknown : (owner seq : ℕ) → k.clip (rules.unknown owner seq)
  pub entered : (screen : ℕ) (c : Clip) → k.clip c → k.clip (rules.entered screen c)
  pub joined : (screen : ℕ) (c : Clip) → k.clip c → k.clip (rules.joined screen c)
  pub left : (primary screen : ℕ) (c : Clip) → k.clip c → k.clip (rules.left primary screen c)
  pub given : (screen : ℕ) (c : Clip) (bytes : List ℕ) → rules.given screen c ≡ Some bytes → k.clip c → k.bytes bytes
  pub copies : (s : State) (id : ClipId) (bytes : List ℕ) → k.line (line.Copy id bytes) → rules.copy_counts (clip_limit s) bytes ≡ true → k.state s → k.bytes bytes
  pub wholes : (serial : ℕ) (s : State) (p : Part) (bytes : List ℕ) → k.part p → whole_at (clip_limit s) p (parts_from s serial) ≡ Some bytes → k.state s → k.bytes bytes
  pub part_of : (id : ClipId) (seq : ℕ) (m : ClipMark) (bytes : List ℕ) → k.heard (msg.ClipPart id seq m bytes) → k.part (part m id seq bytes)
  -- connections
  pub changed : (serial : ℕ) (f : Connection → Connection) (s : State) → k.change f → k.state s → k.state (change serial f s)
  pub is_heard : (now : ℕ) → k.change (was_heard now)
  pub beaten : (now : ℕ) → k.change (sent_beat now)
  pub has_part : (p : Part) → k.part p → k.change (with_part p)
  pub parts : (cause : PartCause) (now : ℕ) → k.change (parted cause now)
  pub discards : k.change drops
  pub took : (count : ℕ) → k.change (takes count)
  pub asks : (screen accepted rate now : ℕ) → k.change (advanced (after_hello (Admitted screen) accepted rate now))
  pub joins : (shape : Shape) (now : ℕ) (asked : AskedScreen) → k.shape shape → k.change (advanced (asked_after_info (Some shape) now asked))
  pub reshapes : (shape : Shape) (now : ℕ) (joined : JoinedScreen) → k.shape shape → k.change (advanced (joined_after_info (Some shape) now joined))
  pub receives : (piece : List ℕ) → k.piece piece → k.change (receives piece)
  pub came : (serial : ℕ) (piece : List ℕ) (s : State) → k.piece piece → k.state s → AllByRecursion k.heard (inbox_of (received_by s serial ++ piece)).messages
  pub closed : (serial : ℕ) (s : State) → k.state s → k.state (record s { connections = removed serial s.connections })
  -- the rest
  pub logged : (lines : List LogLine) (s : State) → k.state s → k.state (logs lines s)
  pub locks : (on : Bool) (s : State) → k.state s → k.state (record s { is_locked = on })
  pub quits : (s : State) → k.state s → k.state (record s { has_quit = true })
  pub sleeps : (until : Option ℕ) (s : State) → k.state s → k.state (record s { sleeps_until = until })
  pub clocked : (t : ℕ) (s : State) → k.state s → k.state (clock t s)
  pub holds : (l : Line) (s : State) → k.line l → k.state s → k.state (holding l s)
  pub lines : (s : State) → k.state s → AllByRecursion k.line s.lines
  pub ahead : (ls : List Line) (s : State) → AllByRecursion k.line ls → k.state s → k.state (past ls s)
