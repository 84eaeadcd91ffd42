-- A list of actions as the code keeps it: the line from its first action on, where it has one.
use Rattle.std.specs.Prelude.{ℕ, Bool, true, List, [], Result, Ok, Err, Option, Some, None, is_ok}
use Rattle.std.specs.Borrow.{Bor}
use Rattle.text_lines.specs.Reading.{Read}
use Rattle.hotkey_text.specs.Shapes.{ActionForm, actions_at}

-- actions stand there, in their form
abbrev pub is_formed : Option (Bor (List ℕ)) → Bool
is_formed None = true
is_formed (Some line) = is_ok (actions_at line.now)

abbrev pub read_actions : Read (List ActionForm) → List ActionForm
read_actions (Ok list) = list.0
read_actions (Err left) = []

abbrev pub actions_from : Option (Bor (List ℕ)) → List ActionForm
actions_from None = []
actions_from (Some line) = read_actions (actions_at line.now)

-- what follows a list
abbrev pub behind_of : Read (List ActionForm) → Result (List ℕ) ℕ
behind_of (Ok list) = Ok list.1
behind_of (Err left) = Err left
