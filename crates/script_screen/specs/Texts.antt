-- The three texts: their forms and the lines that these make, where a form may stand, and what a
-- line adds to those above it.
use Rattle.std.specs.Prelude.{ℕ, ◌==◌, if◌then◌else◌, List, [], ◌∷◌, ◌++◌, true, false, Option}
use Rattle.std.specs.Prelude.{Some, None, Result, Ok, Err}
use Rattle.text_lines.specs.Reading.{◌>>=◌}
use Rattle.share_base.specs.declared.clip_id.ClipId.{ClipId}
use Rattle.share_base.specs.declared.clip_id.ClipId.TheVariants.{Clipboard, Selection}
use Rattle.script_screen.specs.Screens.{KnownScreens, screen_named}
use Rattle.script_screen.specs.declared.kinds.TextKind.{TextKind}
use Rattle.script_screen.specs.declared.kinds.TextKind.TheVariants as kind
use Rattle.script_screen.specs.declared.forms.ScriptForm.{ScriptForm}
use Rattle.script_screen.specs.declared.forms.ScriptForm.TheVariants as script
use Rattle.script_screen.specs.declared.forms.ClientForm.{ClientForm}
use Rattle.script_screen.specs.declared.forms.ClientForm.TheVariants as client
use Rattle.script_screen.specs.declared.forms.TraceForm.{TraceForm}
use Rattle.script_screen.specs.declared.forms.TraceForm.TheVariants as trace
use Rattle.script_screen.specs.declared.script.ScriptLine.{ScriptLine}
use Rattle.script_screen.specs.declared.script.ScriptLine.TheVariants as script_line
use Rattle.script_screen.specs.declared.script.Primary.{Primary}
use Rattle.script_screen.specs.declared.script.ScriptItem.{ScriptItem}
use Rattle.script_screen.specs.declared.script.ScriptItem.TheVariants as item
use Rattle.script_screen.specs.declared.client_script.ClientLine.{ClientLine}
use Rattle.script_screen.specs.declared.client_script.ClientLine.TheVariants as client_line
use Rattle.script_screen.specs.declared.trace.TraceLine.{TraceLine}
use Rattle.script_screen.specs.declared.trace.TraceLine.TheVariants as trace_line
use Rattle.script_screen.specs.Grammar.{Language, Value, Natural, Integer, Bytes, Chosen}
use Rattle.script_screen.specs.Grammar.{unless_kind, words_judged}
use Rattle.script_screen.specs.Forms.{script_forms, script_row, client_forms, client_row}
use Rattle.script_screen.specs.Forms.{trace_forms, trace_row}
use Rattle.script_screen.specs.NumberedLines.{TextRefusal, refused_at, text_judged}
use Rattle.script_screen.specs.Scripts.{ScriptText, script_fault}
use Rattle.script_screen.specs.Traces.{trace_fault}

-- the clipboard of a number, 0 or 1
abbrev pub clip_of : ℕ → ClipId
clip_of n = if n == 0 then Clipboard else Selection

-- ---- the server script

-- what a script's lines gave
pub record ScriptSoFar : Type 0 where
  pub config : KnownScreens
  pub primary : Option Primary
  pub lines : List ScriptLine

abbrev pub a_line : ScriptLine → Option ScriptItem
a_line l = Some (item.Line l)

abbrev pub script_item : ScriptForm → List Value → Option ScriptItem
script_item script.Primary (Chosen n ∷ Natural w ∷ Natural h ∷ []) =
    Some (item.Primary (record { screen = record { 0 = n }; w = w; h = h }))
script_item script.Sleep (Natural ms ∷ []) = a_line (script_line.Sleep ms)
script_item script.Await (Chosen n ∷ []) = a_line (script_line.Await (record { 0 = n }))
script_item script.KeyDown (Natural id ∷ Natural b ∷ []) =
    a_line (script_line.KeyDown (record { 0 = id }) (record { 0 = b }))
script_item script.KeyRepeat (Natural n ∷ Natural b ∷ []) =
    a_line (script_line.KeyRepeat n (record { 0 = b }))
script_item script.KeyUp (Natural b ∷ []) = a_line (script_line.KeyUp (record { 0 = b }))
script_item script.ButtonDown (Natural b ∷ []) = a_line (script_line.ButtonDown (record { 0 = b }))
script_item script.ButtonUp (Natural b ∷ []) = a_line (script_line.ButtonUp (record { 0 = b }))
script_item script.Motion (Integer x ∷ Integer y ∷ []) = a_line (script_line.Motion x y)
script_item script.Wheel (Integer x ∷ Integer y ∷ []) = a_line (script_line.Wheel x y)
script_item script.SaverOn [] = a_line (script_line.Saver true)
script_item script.SaverOff [] = a_line (script_line.Saver false)
script_item script.Copy (Natural n ∷ Bytes bytes ∷ []) = a_line (script_line.Copy (clip_of n) bytes)
script_item script.Quit [] = a_line script_line.Quit
script_item _ _ = None

-- the primary line stands first, and nowhere else
abbrev pub misplaced_by : Option Primary → ScriptForm → Option TextKind
misplaced_by None script.Primary = None
misplaced_by None _ = Some kind.NoPrimary
misplaced_by (Some p) script.Primary = Some kind.SecondPrimary
misplaced_by (Some p) _ = None

abbrev pub script_add : ScriptSoFar → ScriptItem → Result ScriptSoFar TextKind
script_add s (item.Primary p) = Ok (record s { primary = Some p })
script_add s (item.Line l) =
    unless_kind (script_fault s.lines l) >>= λ _. Ok (record s { lines = s.lines ++ l ∷ [] })

abbrev pub script_language : Language ScriptForm ScriptItem ScriptSoFar
script_language = record {
  forms = script_forms;
  row = script_row;
  misplaced = λ s form. misplaced_by s.primary form;
  line = script_item;
  add = script_add;
}

-- ---- the client script

abbrev pub client_item : ClientForm → List Value → Option ClientLine
client_item client.Sleep (Natural ms ∷ []) = Some (client_line.Sleep ms)
client_item client.Copy (Natural n ∷ Bytes bytes ∷ []) = Some (client_line.Copy (clip_of n) bytes)
client_item client.Resize (Natural w ∷ Natural h ∷ []) = Some (client_line.Resize w h)
client_item _ _ = None

abbrev pub client_language : Language ClientForm ClientLine (List ClientLine)
client_language = record {
  forms = client_forms;
  row = client_row;
  misplaced = λ lines form. None;
  line = client_item;
  add = λ lines l. Ok (lines ++ l ∷ []);
}

-- ---- the trace

abbrev pub trace_item : TraceForm → List Value → Option TraceLine
trace_item trace.Turn (Natural t ∷ []) = Some (trace_line.Turn t)
trace_item trace.Join (Natural c ∷ []) = Some (trace_line.Join c)
trace_item trace.Got (Natural c ∷ Bytes bytes ∷ []) = Some (trace_line.Got c bytes)
trace_item trace.End (Natural c ∷ []) = Some (trace_line.End c)
trace_item trace.Fail (Natural c ∷ []) = Some (trace_line.Fail c)
trace_item trace.Room (Natural c ∷ Natural n ∷ []) = Some (trace_line.Room c n)
trace_item _ _ = None

-- a turn stands first
abbrev pub before_turn : List TraceLine → TraceForm → Option TextKind
before_turn [] trace.Turn = None
before_turn [] _ = Some kind.NoTurn
before_turn (l ∷ ls) form = None

abbrev pub trace_add : List TraceLine → TraceLine → Result (List TraceLine) TextKind
trace_add lines l = unless_kind (trace_fault lines l) >>= λ _. Ok (lines ++ l ∷ [])

abbrev pub trace_language : Language TraceForm TraceLine (List TraceLine)
trace_language = record {
  forms = trace_forms;
  row = trace_row;
  misplaced = before_turn;
  line = trace_item;
  add = trace_add;
}

-- ---- one line's words, in what the lines above it gave

abbrev pub script_start : KnownScreens → ScriptSoFar
script_start config = record { config = config; primary = None; lines = [] }

abbrev pub script_judged : ScriptSoFar → List (List ℕ) → Result ScriptSoFar TextKind
script_judged s words = words_judged script_language (screen_named s.config) s words

-- a client script and a trace name no screens
abbrev pub no_screens : List ℕ → Option ℕ
no_screens name = None

abbrev pub client_judged : List ClientLine → List (List ℕ) → Result (List ClientLine) TextKind
client_judged lines words = words_judged client_language no_screens lines words

abbrev pub trace_judged : List TraceLine → List (List ℕ) → Result (List TraceLine) TextKind
trace_judged lines words = words_judged trace_language no_screens lines words

-- ---- a server script is closed by its end: some line was the primary's

abbrev pub script_closed : Option Primary → List ScriptLine → Result ScriptText TextRefusal
script_closed None ls = Err (refused_at 1 kind.NoPrimary)
script_closed (Some p) ls = Ok (record { primary = p; lines = ls })

abbrev pub script_reading : KnownScreens → List ℕ → Result ScriptText TextRefusal
script_reading config text =
    text_judged script_judged (script_start config) text >>= λ d. script_closed d.primary d.lines
