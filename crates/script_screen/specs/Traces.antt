-- Traces: what their lines say of moments and connections, and what every trace keeps.
use Rattle.std.specs.Prelude.{◌≡◌, ℕ, ◌+◌, ◌<◌, ◌≤◌, ◌==◌, ◌&&◌, ◌||◌, not, nat_lt, Bool, true}
use Rattle.std.specs.Prelude.{false, if◌then◌else◌, List, [], ◌∷◌, ◌++◌, length, Option, Some, None}
use Rattle.std.specs.Prelude.{count_by}
use Rattle.std.specs.List.{fold, list_any}
use Rattle.script_screen.specs.declared.kinds.TextKind.{TextKind}
use Rattle.script_screen.specs.declared.kinds.TextKind.TheVariants as kind
use Rattle.script_screen.specs.declared.trace.TraceLine.{TraceLine}
use Rattle.script_screen.specs.declared.trace.TraceLine.TheVariants as line

-- the moment after one more line
abbrev pub moment_after : ℕ → TraceLine → ℕ
moment_after moment (line.Turn t) = t
moment_after moment _ = moment

-- the moment of the latest turn, 0 before the first
abbrev pub latest_moment : List TraceLine → ℕ
latest_moment lines = fold moment_after 0 lines

abbrev pub is_join : TraceLine → Bool
is_join (line.Join c) = true
is_join _ = false

abbrev pub is_join_of : ℕ → TraceLine → Bool
is_join_of c (line.Join d) = d == c
is_join_of c _ = false

-- the connection's stream ends there, or fails
abbrev pub is_end_of : ℕ → TraceLine → Bool
is_end_of c (line.End d) = d == c
is_end_of c (line.Fail d) = d == c
is_end_of c _ = false

-- how many connections have joined
abbrev pub join_count : List TraceLine → ℕ
join_count lines = count_by is_join lines

-- a line below these may name the connection: it is the first, or it joined
abbrev pub is_known : List TraceLine → ℕ → Bool
is_known above c = (c == 1) || list_any (is_join_of c) above

-- its stream has ended or failed
abbrev pub is_over : List TraceLine → ℕ → Bool
is_over above c = list_any (is_end_of c) above

-- bytes and a further end may come of it
abbrev pub is_going : List TraceLine → ℕ → Bool
is_going above c = is_known above c && not (is_over above c)

abbrev pub unless_known : Bool → Option TextKind
unless_known true = None
unless_known false = Some kind.UnknownConnection

-- what is wrong with a line below these
abbrev pub trace_fault : List TraceLine → TraceLine → Option TextKind
trace_fault above (line.Turn t) =
    if nat_lt t (latest_moment above) then Some kind.MomentBack else None
trace_fault above (line.Join c) = if c == join_count above + 1 then None else Some kind.WrongNumber
trace_fault above (line.Got c bytes) = unless_known (is_going above c)
trace_fault above (line.End c) = unless_known (is_going above c)
trace_fault above (line.Fail c) = unless_known (is_going above c)
trace_fault above (line.Room c room) = unless_known (is_known above c)

-- the line gives a byte at least, where it gives any
abbrev pub IsTraceLine : TraceLine → Type 0
IsTraceLine (line.Got c bytes) = 0 < length bytes
IsTraceLine _ = Unit {0}

-- each of these lines has no fault below those above it
abbrev pub AreTraceLines : List TraceLine → List TraceLine → Type 0
AreTraceLines above [] = Unit {0}
AreTraceLines above (l ∷ ls) =
    IsTraceLine l × (trace_fault above l ≡ None) × AreTraceLines (above ++ l ∷ []) ls

abbrev pub BeginsWithTurn : List TraceLine → Type 0
BeginsWithTurn [] = Unit {0}
BeginsWithTurn (line.Turn t ∷ ls) = Unit {0}
BeginsWithTurn (_ ∷ ls) = ⊥

pub record IsTrace (lines : List TraceLine) : Type 0 where
  pub first : BeginsWithTurn lines
  pub lines_fit : AreTraceLines [] lines
  pub few : length lines ≤ 1000000
