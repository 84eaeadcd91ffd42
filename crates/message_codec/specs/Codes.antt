-- The code that bytes begin with.
use Rattle.std.specs.Prelude.{List, [], ◌∷◌, ℕ, Option, Some, find, nat_eq, if◌then◌else◌}
use Rattle.std.specs.List.{starts_with}
use Rattle.message_codec.specs.declared.messages.End.{End}
use Rattle.message_codec.specs.declared.messages.End.TheVariants as ends
use Rattle.message_codec.specs.declared.coding.Code.{Code}
use Rattle.message_codec.specs.declared.coding.Code.TheVariants as code
use Rattle.message_codec.specs.Table.{text}

-- each end has a hello of its own, and both begin alike
abbrev pub hello_of : End → Code
hello_of ends.Server = code.Hello
hello_of ends.Client = code.HelloBack

-- the codes of four letters, the most frequent first; no two of them are the same text
abbrev pub four_letters : List Code
four_letters =
    code.MoveTo ∷ code.KeyDown ∷ code.KeyUp ∷ code.MoveBy ∷ code.Wheel ∷ code.ButtonDown
    ∷ code.ButtonUp ∷ code.KeyRepeat ∷ code.Alive ∷ code.Enter ∷ code.Leave ∷ code.Grab
    ∷ code.ClipPart ∷ code.Noop ∷ code.Info ∷ code.QueryInfo ∷ code.InfoAck ∷ code.ResetOptions
    ∷ code.SetOptions ∷ code.Saver ∷ code.Bye ∷ code.BadVersion ∷ code.Busy ∷ code.Unknown
    ∷ code.Malformed ∷ code.FilePart ∷ code.DragInfo ∷ []

-- the first of these codes that bytes begin with
abbrev pub first_code : List Code → List ℕ → Option Code
first_code codes bytes = find (λ c. starts_with nat_eq bytes (text c)) codes

-- the code that a body from that end begins with
unfoldable pub code_at : End → List ℕ → Option Code
code_at from bytes =
    if starts_with nat_eq bytes (text code.Hello) then Some (hello_of from)
    else first_code four_letters bytes
