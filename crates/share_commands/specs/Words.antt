-- How each command that reads a stream prints it, and what each command leaves as it was.
use Rattle.std.specs.Prelude.{◌≡◌, Bool, true, false, List, Option, Some, None, String}
use Rattle.std.specs.Global.{Global}
use Rattle.command_words.specs.Forms.{Form, Inject, Show, Check, Replay, Serve, Join, Names, NoForm}
use Rattle.share_commands.specs.Ways.{Way, showing, injecting}

-- how it prints, where it reads a stream
abbrev pub way_of : Form → Option Way
way_of Inject = Some injecting
way_of (Show end) = Some (showing end)
way_of _ = None

-- ---- what each command touches

abbrev pub takes_files : Form → Bool
takes_files (Check config) = true
takes_files (Replay config script trace) = true
takes_files (Serve config script port turns) = true
takes_files (Join name host port w h script turns) = true
takes_files _ = false

abbrev pub takes_input : Form → Bool
takes_input Inject = true
takes_input (Show end) = true
takes_input _ = false

abbrev pub takes_hub : Form → Bool
takes_hub (Serve config script port turns) = true
takes_hub _ = false

abbrev pub takes_link : Form → Bool
takes_link (Join name host port w h script turns) = true
takes_link _ = false

-- words that name no command leave it as it was, and so do those that name one that doesn't take it
abbrev pub LeavesUnless : {A : Type 0} → (Form → Bool) → List (String Global) → A → A → Type 0
LeavesUnless takes words old new =
    (NoForm words → new ≡ old)
    × ((command : Form) → Names command words → takes command ≡ false → new ≡ old)
