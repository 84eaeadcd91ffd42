-- Lines whose numbers are in the ranges of their fields, as those of every line of the program are.
use Rattle.std.specs.Prelude.{◌<◌, ◌^◌, FitsSigned}
use Rattle.std.specs.List.{AllByRecursion}
use Rattle.std.specs.Int.{w16}
use Rattle.held_inputs.specs.declared.line.Line.{Line}
use Rattle.held_inputs.specs.declared.line.Line.TheVariants.{Enter, Leave, KeyDown, KeyRepeat}
use Rattle.held_inputs.specs.declared.line.Line.TheVariants.{KeyUp, ButtonDown, ButtonUp, MoveTo}
use Rattle.held_inputs.specs.declared.line.Line.TheVariants.{MoveBy, Wheel, SaverOn, SaverOff}
use Rattle.held_inputs.specs.declared.line.Line.TheVariants.{ResetOptions, SetOption, Grab, Clip}

abbrev pub Fits : Line → Type 0
Fits (Enter x y seq mask) = FitsSigned w16 x × FitsSigned w16 y × (seq < 2 ^ 32) × (mask < 2 ^ 16)
Fits (KeyDown id button mask) = (id < 2 ^ 16) × (button < 2 ^ 16) × (mask < 2 ^ 16)
Fits (KeyRepeat id count button mask) =
    (id < 2 ^ 16) × (count < 2 ^ 16) × (button < 2 ^ 16) × (mask < 2 ^ 16)
Fits (KeyUp id button) = (id < 2 ^ 16) × (button < 2 ^ 16)
Fits (ButtonDown b) = b < 2 ^ 8
Fits (ButtonUp b) = b < 2 ^ 8
Fits (MoveTo x y) = FitsSigned w16 x × FitsSigned w16 y
Fits (MoveBy dx dy) = FitsSigned w16 dx × FitsSigned w16 dy
Fits (Wheel dx dy) = FitsSigned w16 dx × FitsSigned w16 dy
Fits (SetOption code value) = (code < 2 ^ 32) × (value < 2 ^ 32)
Fits (Clip clip bytes) = AllByRecursion (λ byte. byte < 2 ^ 8) bytes
Fits Leave = Unit {0}
Fits SaverOn = Unit {0}
Fits SaverOff = Unit {0}
Fits ResetOptions = Unit {0}
Fits (Grab clip) = Unit {0}
