-- What functions answer, held against the definitions. Running out of memory says nothing.
use Rattle.std.specs.Prelude.{◌≡◌, Result, Ok, Err}
use Rattle.script_screen.specs.declared.kinds.TextKind.{TextKind}
use Rattle.script_screen.specs.declared.kinds.LineFault.{LineFault}
use Rattle.script_screen.specs.declared.kinds.LineFault.TheVariants as fault
use Rattle.script_screen.specs.declared.kinds.TextFault.{TextFault}
use Rattle.script_screen.specs.declared.kinds.TextFault.TheVariants as text_fault
use Rattle.script_screen.specs.NumberedLines.{TextRefusal, refused_at}

-- what a function gave for a part of a line, seen by view, or its fault
abbrev pub LineGives : {X Y : Type 0} → (X → Y) → Result X LineFault → Result Y TextKind → Type 0
LineGives view (Ok x) read = read ≡ Ok (view x)
LineGives view (Err (fault.Refused k)) read = read ≡ Err k
LineGives view (Err fault.OutOfMemory) read = Unit {0}

-- what a function gave for a text, seen by view, or the text's refusal
abbrev pub TextGives : {X Y : Type 0} → (X → Y) → Result X TextFault → Result Y TextRefusal → Type 0
TextGives view (Ok x) read = read ≡ Ok (view x)
TextGives view (Err (text_fault.Refused line k)) read = read ≡ Err (refused_at line k)
TextGives view (Err text_fault.OutOfMemory) read = Unit {0}

-- a refusal is that which the text has
abbrev pub RefusedBy : (TextRefusal → Type 0) → TextFault → Type 0
RefusedBy Refuses (text_fault.Refused line k) = Refuses (refused_at line k)
RefusedBy Refuses text_fault.OutOfMemory = Unit {0}
