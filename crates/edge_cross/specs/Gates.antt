-- What the switch gate answers, as a function of the calls since it was made or reset, newest
-- first.
use Rattle.std.specs.Prelude.{◌≡◌, ℕ, ◌+◌, ◌-◌, ◌<◌, Bool, true, false, ◌&&◌, nat_lt, nat_le}
use Rattle.std.specs.Prelude.{if◌then◌else◌, List, [], ◌∷◌, Option, Some, None}
use Rattle.share_base.specs.declared.shape.Side.{Side}
use Rattle.share_base.specs.Shapes.{same_side}
use Rattle.share_base.specs.Moments.{moment_of}
use Rattle.edge_cross.specs.declared.gate.GateAnswer.{GateAnswer}
use Rattle.edge_cross.specs.declared.gate.GateAnswer.TheVariants.{Pass, Wait, Stay}
use Rattle.edge_cross.specs.declared.gate.Waiting.{Waiting}
use Rattle.edge_cross.specs.declared.gate.Tap.{Tap}
use Rattle.edge_cross.specs.declared.gate.Gate.{Gate}

-- the gate was asked at a moment about a side, or told that the motion was away from the edge
pub data Call : Type 0 where
  Ask : ℕ → Side → Call
  Away : Call

-- an ask at a number of milliseconds, which counts as a moment
abbrev pub asked : ℕ → Side → Call
asked now side = Ask (moment_of now) side

-- ---- a double tap within `time`

-- the ask is on the kept tap's side and within the time, so it is not a new tap
abbrev pub repeats : ℕ → Option Tap → ℕ → Side → Bool
repeats time None now side = false
repeats time (Some tap) now side = same_side tap.side side && nat_le (now - tap.at) time

-- the latest ask that was a new tap
abbrev pub kept_tap : ℕ → List Call → Option Tap
kept_tap time [] = None
kept_tap time (Away ∷ calls) = kept_tap time calls
kept_tap time (Ask now side ∷ calls) =
    if repeats time (kept_tap time calls) now side then kept_tap time calls
    else Some (record { at = now; side = side })

-- whether the motion was away since the kept tap
abbrev pub was_away : ℕ → List Call → Bool
was_away time [] = false
was_away time (Away ∷ calls) = true
was_away time (Ask now side ∷ calls) =
    if repeats time (kept_tap time calls) now side then was_away time calls else false

abbrev pub tap_answer : ℕ → List Call → ℕ → Side → GateAnswer
tap_answer time calls now side =
    if repeats time (kept_tap time calls) now side && was_away time calls then Pass else Stay

-- ---- a wait of `delay`

-- an ask about the side of the current wait joins it; any other ask begins a new one
abbrev pub wait_of : ℕ → Option Waiting → ℕ → Side → Waiting
wait_of delay None now side = record { side = side; due = now + delay }
wait_of delay (Some wait) now side =
    if same_side wait.side side then wait else (record { side = side; due = now + delay })

-- the wait that was begun last, unless the motion was away since
abbrev pub kept_wait : ℕ → List Call → Option Waiting
kept_wait delay [] = None
kept_wait delay (Away ∷ calls) = None
kept_wait delay (Ask now side ∷ calls) = Some (wait_of delay (kept_wait delay calls) now side)

abbrev pub answer_at : ℕ → Waiting → GateAnswer
answer_at now wait = if nat_le wait.due now then Pass else Wait wait.due

abbrev pub wait_answer : ℕ → List Call → ℕ → Side → GateAnswer
wait_answer delay calls now side = answer_at now (wait_of delay (kept_wait delay calls) now side)

-- ---- both options: a double tap that is set counts alone

abbrev pub gate_answer : ℕ → ℕ → List Call → ℕ → Side → GateAnswer
gate_answer delay time calls now side =
    if nat_lt 0 time then tap_answer time calls now side else if nat_lt 0 delay
    then wait_answer delay calls now side else Pass

abbrev pub gate_wait : ℕ → ℕ → List Call → Option Waiting
gate_wait delay time calls =
    if nat_lt 0 time then None else if nat_lt 0 delay then kept_wait delay calls else None

-- the gate is the result of these calls
pub record Represents (gate : Gate) (delay time : ℕ) (calls : List Call) : Type 0 where
  pub delay_is : gate.delay ≡ delay
  pub time_is : gate.tap ≡ time
  pub tapped : 0 < time → gate.tapped ≡ kept_tap time calls
  pub away : 0 < time → gate.was_away ≡ was_away time calls
  pub waiting : gate.waiting ≡ gate_wait delay time calls

-- ---- what one call does to a gate, whatever calls came before it

-- the call is added
abbrev pub Hears : Gate → Gate → Call → Type 0
Hears old new call =
    (delay time : ℕ) (calls : List Call) → Represents old delay time calls
    → Represents new delay time (call ∷ calls)

-- all calls are forgotten
abbrev pub Forgets : Gate → Gate → Type 0
Forgets old new =
    (delay time : ℕ) (calls : List Call) → Represents old delay time calls
    → Represents new delay time []

abbrev pub Answers : Gate → ℕ → Side → GateAnswer → Type 0
Answers gate now side answer =
    (delay time : ℕ) (calls : List Call) → Represents gate delay time calls
    → answer ≡ gate_answer delay time calls (moment_of now) side

abbrev pub Waits : Gate → Option Waiting → Type 0
Waits gate wait =
    (delay time : ℕ) (calls : List Call) → Represents gate delay time calls
    → wait ≡ gate_wait delay time calls
