-- The commands of the program, and the words that name each.
use Rattle.std.specs.Prelude.{◌≡◌, ℕ, true, List, [], ◌∷◌, map, codes, Option, Some, None, String}
use Rattle.std.specs.Prelude.{string_bytes}
use Rattle.std.specs.Fmt.{decimal}
use Rattle.std.specs.Global.{Global}
use Rattle.share_base.specs.Names.{is_name}
use Rattle.message_codec.specs.declared.messages.End.{End}
use Rattle.message_codec.specs.declared.messages.End.TheVariants as ends
use Rattle.command_words.specs.Numbers.{IsPort, AreTurns, IsSize, IsLong}
use Rattle.command_words.specs.declared.command.Command.{Command}
use Rattle.command_words.specs.declared.command.Command.TheVariants as command

-- a command with its words
pub data Form : Type 0 where
  Inject : Form
  Show : (sender : End) → Form
  Check : (config : List ℕ) → Form
  Replay : (config script trace : List ℕ) → Form
  Serve : (config script : List ℕ) (port turns : ℕ) → Form
  Join : (name host : List ℕ) (port w h : ℕ) (script : List ℕ) (turns : ℕ) → Form
  Generate : (n : ℕ) → Form

-- ---- words

abbrev pub end_word : End → List ℕ
end_word ends.Server = codes "server"
end_word ends.Client = codes "client"

-- the first word
abbrev pub command_word : Form → List ℕ
command_word Inject = codes "inject"
command_word (Show from) = codes "show"
command_word (Check config) = codes "check"
command_word (Replay config script trace) = codes "replay"
command_word (Serve config script port turns) = codes "serve"
command_word (Join name host port w h script turns) = codes "join"
command_word (Generate n) = codes "generate"

-- the words after it, numbers in their decimal digits
abbrev pub arguments_of : Form → List (List ℕ)
arguments_of Inject = []
arguments_of (Show from) = end_word from ∷ []
arguments_of (Check config) = config ∷ []
arguments_of (Replay config script trace) = config ∷ script ∷ trace ∷ []
arguments_of (Serve config script port turns) =
    config ∷ script ∷ decimal port ∷ decimal turns ∷ []
arguments_of (Join name host port w h script turns) =
    name ∷ host ∷ decimal port ∷ decimal w ∷ decimal h ∷ script ∷ decimal turns ∷ []
arguments_of (Generate n) = decimal n ∷ []

abbrev pub words_of : Form → List (List ℕ)
words_of form = command_word form ∷ arguments_of form

-- what a client of that name, on a screen of that width and height, connects to
abbrev pub IsJoin : List ℕ → ℕ → ℕ → ℕ → ℕ → Type 0
IsJoin name port w h turns =
    (is_name name ≡ true) × IsPort port × IsSize w × IsSize h × AreTurns turns

-- its numbers are within their limits, and its name is that of a screen
abbrev pub IsInRange : Form → Type 0
IsInRange (Serve config script port turns) = IsPort port × AreTurns turns
IsInRange (Join name host port w h script turns) = IsJoin name port w h turns
IsInRange (Generate n) = IsLong n
IsInRange form = Unit {0}

-- these words spell the command
abbrev pub Spells : Form → List (List ℕ) → Type 0
Spells form spelled = IsInRange form × (words_of form ≡ spelled)

-- these words, and no others, name the command
abbrev pub Names : Form → List (String Global) → Type 0
Names form words = Spells form (map string_bytes words)

-- the words name no command
abbrev pub NoForm : List (String Global) → Type 0
NoForm words = (form : Form) → Names form words → ⊥

-- what the code's borrowed words stand for
abbrev pub form_of : Command → Form
form_of command.Inject = Inject
form_of (command.Show from) = Show from
form_of (command.Check config) = Check config.now
form_of (command.Replay config script trace) = Replay config.now script.now trace.now
form_of (command.Serve config script port turns) = Serve config.now script.now port turns
form_of (command.Join name host port w h script turns) =
    Join name host.now port w h script.now turns
form_of (command.Generate n) = Generate n

-- ---- what is read

-- an answer for these words: the command that they spell, or none
abbrev pub ReadsAll : List (List ℕ) → Option Command → Type 0
ReadsAll spelled (Some found) = Spells (form_of found) spelled
ReadsAll spelled None = (form : Form) → Spells form spelled → ⊥

-- an answer for the words after that first one
abbrev pub Reads : List ℕ → List (String Global) → Option Command → Type 0
Reads first rest found = ReadsAll (first ∷ map string_bytes rest) found
