-- The line that is next: whether it may run, and what comes of it.
use Rattle.std.specs.Prelude.{Bool, false, List, [], ◌∷◌}
use Rattle.machine.specs.Scripts.{Line}
use Rattle.machine.specs.States.{State}
use Rattle.machine.specs.Running.{may_run, run_line}

abbrev pub may_run_first : List Line → State → Bool
may_run_first [] s = false
may_run_first (l ∷ ahead) s = may_run s l

abbrev pub may_run_next : State → Bool
may_run_next s = may_run_first s.lines s

-- where there is none, nothing changes
abbrev pub run_first : List Line → State → State
run_first [] s = s
run_first (l ∷ ahead) s = run_line l ahead s

abbrev pub run_next : State → State
run_next s = run_first s.lines s
