-- Invariants that hold whatever the buttons at which keys go down, and whatever the origins of entries.
use Rattle.std.specs.Prelude.{◌≡◌, refl, ℕ, Bool, true, false, List, [], ◌∷◌}
use Rattle.std.specs.List.{list_all}
use Rattle.std.proofs.Common.{arith}
use Rattle.hello_states.specs.declared.part_cause.PartCause.{PartCause}
use Rattle.hotkey_rules.specs.declared.action.Action.{Action}
use Rattle.hotkey_rules.specs.declared.action.Action.TheVariants as action
use Rattle.hotkey_rules.specs.declared.rule.Rule.{Rule}
use Rattle.machine.specs.Scripts.{Line}
use Rattle.machine.specs.Scripts as line
use Rattle.machine.specs.Targets.{Origin, Client}
use Rattle.machine.specs.Connections.{Connection, changed}
use Rattle.machine.specs.States.{State}
use Rattle.machine.specs.Screens.{lives}
use Rattle.machine.specs.Partings.{parted}
use Rattle.machine.specs.Steps.{drops}
use Rattle.machine.specs.KeyButtons.{pressed_by_line, pressed_by_action, pressed_by_rule}
use Rattle.machine.proofs.Live.{IsLive, IsTame, KeepsTaken, PartsNone}
use Rattle.machine.proofs.Invariant.{IsInvariant}

abbrev pub any : ℕ → Bool
any button = true

abbrev pub any_origin : Origin → Bool
any_origin o = true

action-any : (a : Action) → pressed_by_action any a ≡ true
action-any (action.KeyStroke id mods button) = refl
action-any (action.KeyPress id mods button) = refl
action-any a = refl

pub actions-any : (actions : List Action) → list_all (pressed_by_action any) actions ≡ true
actions-any [] = refl
actions-any (a ∷ actions) = let one = action-any a in let rest = actions-any actions in grind (arith, one, rest)

pub rules-any : (rules : List Rule) → list_all (pressed_by_rule any) rules ≡ true
rules-any [] = refl
rules-any (r ∷ rules) = let press = actions-any r.press in let release = actions-any r.release in let rest = rules-any rules in grind (arith, press, release, rest)

line-any : (l : Line) → pressed_by_line any l ≡ true
line-any (line.KeyDown id button) = refl
line-any l = refl

pub lines-any : (lines : List Line) → list_all (pressed_by_line any) lines ≡ true
lines-any [] = refl
lines-any (l ∷ lines) = let one = line-any l in let rest = lines-any lines in grind (arith, one, rest)

-- what the connections alone tell
pub of-connections : (P : List Connection → Type 0) → ((serial : ℕ) (f : Connection → Connection) → IsTame f → KeepsTaken f → PartsNone f → (cs : List Connection) → P cs → P (changed serial f cs)) → ((cause : PartCause) (serial now : ℕ) (cs : List Connection) → IsLive cs (Client serial) → P cs → P (changed serial (parted cause now) cs)) → ((serial : ℕ) (s : State) → lives s serial ≡ false → P s.connections → P (changed serial drops s.connections)) → IsInvariant any any_origin (λ v. P v.connections)
of-connections P changes parts discards = record {
  own = refl;
  rules = λ s h. rules-any s.config.hotkeys;
  script = λ s h. lines-any s.lines;
  plain = λ o a t m p s k h. h;
  input = λ o a m p b s h. h;
  switched = λ o a to p s on h. h;
  fell = λ p s off h. h;
  changed = λ serial f tame same none s h. changes serial f tame same none s.connections h;
  parts = λ cause serial s on h. parts cause serial s.at s.connections on h;
  discards = λ serial s off h. discards serial s off h;
  logged = λ lines s h. h;
  ahead = λ lines k s h. h;
}
