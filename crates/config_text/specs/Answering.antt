-- What functions answer, held against the definitions. Want of memory says nothing.
use Rattle.std.specs.Prelude.{◌≡◌, ℕ, ◌+◌, ◌-◌, List, Result, Ok, Err}
use Rattle.config_text.specs.declared.faults.Fault.{Fault}
use Rattle.config_text.specs.declared.faults.LineFault.{LineFault}
use Rattle.config_text.specs.declared.faults.LineFault.TheVariants as line_fault
use Rattle.config_text.specs.declared.faults.ConfigRefusal.{ConfigRefusal}
use Rattle.config_text.specs.declared.faults.ConfigFault.{ConfigFault}
use Rattle.config_text.specs.declared.faults.ConfigFault.TheVariants as fault
use Rattle.config_text.specs.Accepting.{Refuses}
use Rattle.config_text.specs.Lines.{refused}

-- a line's answer: what it gave, seen by view, or its fault
abbrev pub Judges : {X Y : Type 0} → (X → Y) → Result X LineFault → Result Y Fault → Type 0
Judges view (Ok x) read = read ≡ Ok (view x)
Judges view (Err (line_fault.Refused f)) read = read ≡ Err f
Judges view (Err line_fault.OutOfMemory) read = Unit {0}

-- the same of a whole text
abbrev pub Fails : {Y : Type 0} → ConfigFault → Result Y ConfigRefusal → Type 0
Fails (fault.Refused r) read = read ≡ Err r
Fails fault.OutOfMemory read = Unit {0}

abbrev pub Answers : {X Y : Type 0} → (X → Y) → Result X ConfigFault → Result Y ConfigRefusal
    → Type 0
Answers view (Ok x) read = read ≡ Ok (view x)
Answers view (Err e) read = Fails e read

-- a line's answer with its place in the text
abbrev pub PlacedAs : {X : Type 0} → ℕ → ℕ → Result X LineFault → Result X ConfigFault → Type 0
PlacedAs line end (Ok x) answer = answer ≡ Ok x
PlacedAs line end (Err line_fault.OutOfMemory) answer = answer ≡ Err fault.OutOfMemory
PlacedAs line end (Err (line_fault.Refused f)) answer =
    answer ≡ Err (fault.Refused (refused line (end - f.left + 1) f.kind))

abbrev pub RefusesBy : List ℕ → ConfigFault → Type 0
RefusesBy text (fault.Refused r) = Refuses text r
RefusesBy text fault.OutOfMemory = Unit {0}
