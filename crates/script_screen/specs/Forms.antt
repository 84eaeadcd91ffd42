-- The forms of lines, a row for each: the words that it begins with, and its arguments.
use Rattle.std.specs.Prelude.{◌-◌, ◌^◌, List, [], ◌∷◌, codes}
use Rattle.script_screen.specs.declared.forms.ScriptForm.{ScriptForm}
use Rattle.script_screen.specs.declared.forms.ScriptForm.TheVariants as script
use Rattle.script_screen.specs.declared.forms.ClientForm.{ClientForm}
use Rattle.script_screen.specs.declared.forms.ClientForm.TheVariants as client
use Rattle.script_screen.specs.declared.forms.TraceForm.{TraceForm}
use Rattle.script_screen.specs.declared.forms.TraceForm.TheVariants as trace
use Rattle.script_screen.specs.Grammar.{Part, Number, Signed, Hex, Screen, Row, row_of}

-- ---- arguments

-- the width or the height of a screen
abbrev pub size : Part
size = Number 1 32767

-- a key's button, or a mouse button
abbrev pub button : Part
button = Number 1 255

-- a moment, a connection, or a count of bytes
abbrev pub long_number : Part
long_number = Number 0 (2 ^ 64 - 1)

-- ---- rows

abbrev pub sleep_row : Row
sleep_row = row_of (codes "sleep" ∷ []) (Number 0 86400000 ∷ [])

abbrev pub copy_row : Row
copy_row = row_of (codes "copy" ∷ []) (Number 0 1 ∷ Hex 0 4194304 ∷ [])

-- the server script
unfoldable pub script_row : ScriptForm → Row
script_row script.Primary = row_of (codes "primary" ∷ []) (Screen ∷ size ∷ size ∷ [])
script_row script.Sleep = sleep_row
script_row script.Await = row_of (codes "await" ∷ []) (Screen ∷ [])
script_row script.KeyDown = row_of (codes "key" ∷ codes "down" ∷ []) (Number 1 65535 ∷ button ∷ [])
script_row script.KeyRepeat =
    row_of (codes "key" ∷ codes "repeat" ∷ []) (Number 1 65535 ∷ button ∷ [])
script_row script.KeyUp = row_of (codes "key" ∷ codes "up" ∷ []) (button ∷ [])
script_row script.ButtonDown = row_of (codes "button" ∷ codes "down" ∷ []) (button ∷ [])
script_row script.ButtonUp = row_of (codes "button" ∷ codes "up" ∷ []) (button ∷ [])
script_row script.Motion = row_of (codes "motion" ∷ []) (Signed ∷ Signed ∷ [])
script_row script.Wheel = row_of (codes "wheel" ∷ []) (Signed ∷ Signed ∷ [])
script_row script.SaverOn = row_of (codes "saver" ∷ codes "on" ∷ []) []
script_row script.SaverOff = row_of (codes "saver" ∷ codes "off" ∷ []) []
script_row script.Copy = copy_row
script_row script.Quit = row_of (codes "quit" ∷ []) []

-- the client script
unfoldable pub client_row : ClientForm → Row
client_row client.Sleep = sleep_row
client_row client.Copy = copy_row
client_row client.Resize = row_of (codes "resize" ∷ []) (size ∷ size ∷ [])

-- the trace
unfoldable pub trace_row : TraceForm → Row
trace_row trace.Turn = row_of (codes "turn" ∷ []) (long_number ∷ [])
trace_row trace.Join = row_of (codes "join" ∷ []) (long_number ∷ [])
trace_row trace.Got = row_of (codes "got" ∷ []) (long_number ∷ Hex 1 (2 ^ 64 - 1) ∷ [])
trace_row trace.End = row_of (codes "end" ∷ []) (long_number ∷ [])
trace_row trace.Fail = row_of (codes "fail" ∷ []) (long_number ∷ [])
trace_row trace.Room = row_of (codes "room" ∷ []) (long_number ∷ long_number ∷ [])

-- ---- the forms of each text

abbrev pub script_forms : List ScriptForm
script_forms =
    script.Primary ∷ script.Sleep ∷ script.Await ∷ script.KeyDown ∷ script.KeyRepeat ∷ script.KeyUp
    ∷ script.ButtonDown ∷ script.ButtonUp ∷
    script.Motion ∷ script.Wheel ∷ script.SaverOn ∷ script.SaverOff ∷ script.Copy ∷ script.Quit ∷ []

abbrev pub client_forms : List ClientForm
client_forms = client.Sleep ∷ client.Copy ∷ client.Resize ∷ []

abbrev pub trace_forms : List TraceForm
trace_forms = trace.Turn ∷ trace.Join ∷ trace.Got ∷ trace.End ∷ trace.Fail ∷ trace.Room ∷ []
