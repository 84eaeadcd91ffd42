-- What rules are made of. An invariant that each of these steps keeps is kept by every rule.
use Rattle.std.specs.Prelude.{◌≡◌, ℕ, Bool, true, false, List}
use Rattle.std.specs.List.{list_all}
use Rattle.message_codec.specs.declared.messages.Msg.{Msg}
use Rattle.hotkey_rules.specs.declared.rule.Rule.{Rule}
use Rattle.hello_states.specs.declared.part_cause.PartCause.{PartCause}
use Rattle.machine.specs.Scripts.{Line}
use Rattle.machine.specs.Targets.{Target, Primary, Client, Entry, Origin, Own}
use Rattle.machine.specs.Connections.{Connection}
use Rattle.machine.specs.States.{State, Point, LogLine}
use Rattle.machine.specs.Screens.{change, lives}
use Rattle.machine.specs.Routing.{route, logs}
use Rattle.machine.specs.Switching.{tell_entering, tell_leaving}
use Rattle.machine.specs.Partings.{parted}
use Rattle.machine.specs.Running.{past}
use Rattle.machine.specs.Steps.{drops}
use Rattle.machine.specs.KeyButtons.{pressed_by_message, pressed_by_rule, pressed_by_line}
use Rattle.machine.proofs.MessageKinds.{is_plain, is_input}
use Rattle.machine.proofs.Live.{IsLive, IsKnown, IsTame, KeepsTaken, PartsNone}

-- what an invariant may look at
pub record View : Type 0 where
  pub active : Target
  pub connections : List Connection
  pub routed : List Entry
  pub hotkeys : List Rule
  pub lines : List Line
  pub log : List LogLine

abbrev pub view : State → View
view s = record { active = s.active; connections = s.connections; routed = s.routed; hotkeys = s.config.hotkeys; lines = s.lines; log = s.log }

abbrev pub On : (View → Type 0) → State → Type 0
On P s = P (view s)

-- entries have allowed origins, and keys go down at buttons that pass the test
pub record IsInvariant (key : ℕ → Bool) (allowed : Origin → Bool) (P : View → Type 0) : Type 0 where
  pub own : allowed Own ≡ true
  pub rules : (s : State) → On P s → list_all (pressed_by_rule key) s.config.hotkeys ≡ true
  pub script : (s : State) → On P s → list_all (pressed_by_line key) s.lines ≡ true
  pub plain : (o : Origin) → allowed o ≡ true → (t : Target) (m : Msg) → is_plain m ≡ true → (s : State) → IsKnown s t → On P s → On P (route o t m s)
  pub input : (o : Origin) → allowed o ≡ true → (m : Msg) → is_input m ≡ true → pressed_by_message key m ≡ true → (s : State) → On P s → On P (route o s.active m s)
  pub switched : (o : Origin) → allowed o ≡ true → (to : Target) (p : Point) (s : State) → IsLive s.connections to → On P s → On P (tell_entering o to p (tell_leaving s))
  pub fell : (p : Point) (s : State) → (IsLive s.connections s.active → ⊥) → On P s → On P (tell_entering Own Primary p s)
  pub changed : (serial : ℕ) (f : Connection → Connection) → IsTame f → KeepsTaken f → PartsNone f → (s : State) → On P s → On P (change serial f s)
  pub parts : (cause : PartCause) (serial : ℕ) (s : State) → IsLive s.connections (Client serial) → On P s → On P (change serial (parted cause s.at) s)
  pub discards : (serial : ℕ) (s : State) → lives s serial ≡ false → On P s → On P (change serial drops s)
  pub logged : (lines : List LogLine) (s : State) → On P s → On P (logs lines s)
  pub ahead : (lines : List Line) → list_all (pressed_by_line key) lines ≡ true → (s : State) → On P s → On P (past lines s)
