-- What a printer keeps of a display, and what its calls do to it.
use Rattle.std.specs.Prelude.{◌≡◌, ℕ, ◌+◌, ◌≤◌, List, ◌++◌, length, vec_capacity}
use Rattle.std.specs.List.{flat_map}
use Rattle.message_codec.specs.declared.messages.Msg.{Msg}
use Rattle.held_inputs.specs.Line.{line_of}
use Rattle.held_inputs.specs.Down.{releases}
use Rattle.held_inputs.specs.Screen.{Screen}
use Rattle.held_inputs.specs.Stands.{Stands}
use Rattle.client_core.specs.declared.printer.Printer.{Printer}
use Rattle.client_core.specs.declared.printer.TheConstants.{ROOM}
use Rattle.client_core.specs.Clipboards.{AreFor}
use Rattle.client_core.specs.Hearing.{Display, heard}

-- its injector is that of the screen, its clipboards have what is on its way, and what was printed
-- and cleared and then its lines are the screen's lines
pub record Shows (p : Printer) (d : Display) (front : List ℕ) : Type 0 where
  pub stands : Stands p.injector d.screen
  pub clips : AreFor p.clips d.parts
  pub printed : front ++ p.lines.items ≡ flat_map line_of d.screen.lines

-- whatever it displayed became another display
abbrev pub Turns : (Display → Display) → Printer → Printer → Type 0
Turns next old new = (d : Display) (front : List ℕ) → Shows old d front → Shows new (next d) front

-- the display took one more message
abbrev pub Hears : Msg → Printer → Printer → Type 0
Hears m old new = Turns (λ d. heard d m) old new

-- the display is the same
abbrev pub ShowsOn : Printer → Printer → Type 0
ShowsOn old new = Turns (λ d. d) old new

-- the lines of the cursor's leaving fit without more memory
abbrev pub HasRoom : Printer → Type 0
HasRoom p = length p.lines.items + ROOM ≤ vec_capacity p.lines

-- nothing but room for lines is another
pub record SamePrinted (old new : Printer) : Type 0 where
  pub injector : new.injector ≡ old.injector
  pub clips : new.clips ≡ old.clips
  pub lines : new.lines.items ≡ old.lines.items

-- its lines were cleared
abbrev pub Clears : Printer → Printer → Type 0
Clears old new =
    (d : Display) (front : List ℕ) → Shows old d front → Shows new d (front ++ old.lines.items)

-- the bytes are the screen's lines, and then those of all that is down going up
abbrev pub Releases : Screen → List ℕ → Type 0
Releases s bytes = bytes ≡ flat_map line_of (s.lines ++ releases s.lines)

-- these bytes after its lines let go of all that is down
abbrev pub LetsGo : Printer → List ℕ → Type 0
LetsGo p bytes = (d : Display) (front : List ℕ) → Shows p d front
    → Releases d.screen ((front ++ p.lines.items) ++ bytes)
