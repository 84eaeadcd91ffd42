-- The form of a hotkey's line: `keystroke` or `mousebutton`, an argument in brackets, =, a list of
-- actions, and maybe ; and a second list. A form that can't go on says how many bytes of the line
-- were left there.
use Rattle.std.specs.Prelude.{ℕ, zero, suc, Bool, true, false, ◌&&◌, if◌then◌else◌, List, [], ◌∷◌}
use Rattle.std.specs.Prelude.{length, Result, Ok, Err, Option, Some, None, is_some}
use Rattle.text_lines.specs.declared.bytes.WordKind.TheVariants as kind
use Rattle.text_lines.specs.Bytes.{takes, behind}
use Rattle.text_lines.specs.Reading.{Read, ◌>>=◌, Text, run_at, word_at, sign_at, maybe_sign_at}
use Rattle.text_lines.specs.Reading.{end_at, begins, or_left}
use Rattle.hotkey_text.specs.declared.names.TriggerKind.{TriggerKind}
use Rattle.hotkey_text.specs.Names.{trigger_named}

-- it is a hotkey's line: its first word is one of the two, and a ( stands behind it
abbrev pub is_hotkey : List ℕ → Bool
is_hotkey xs =
    let word = run_at (takes kind.Key) xs in is_some (trigger_named word.0.text) && begins 40 word.1

-- ( and an argument, which goes to the next ), and that sign: the line from the argument on,
-- without blanks in front
unfoldable pub argument_at : List ℕ → Read (List ℕ)
argument_at xs = do
  argument ← sign_at 40 xs
  rest ← sign_at 41 (behind (takes kind.Argument) argument)
  Ok (argument, rest)

pub record ActionForm : Type 0 where
  pub word : Text
  pub argument : List ℕ

-- WORD(ARGUMENT)
unfoldable pub action_at : List ℕ → Read ActionForm
action_at xs = do
  word ← word_at (takes kind.Action) xs
  argument ← argument_at word.1
  Ok (record { word = word.0; argument = argument.0 }, argument.1)

-- the list with one action more in front
abbrev pub with_first : ActionForm → Read (List ActionForm) → Read (List ActionForm)
with_first action list = list >>= λ others. Ok (action ∷ others.0, others.1)

-- an action and what follows it: one more list, or nothing of the list
abbrev pub and_more : (List ℕ → Read (List ActionForm)) → ActionForm × List ℕ → Option (List ℕ)
    → Read (List ActionForm)
and_more list action None = Ok (action.0 ∷ [], action.1)
and_more list action (Some rest) = with_first action.0 (list rest)

-- actions with commas between, of at most so many
unfoldable pub actions_within : ℕ → List ℕ → Read (List ActionForm)
actions_within zero xs = Err (length xs)
actions_within (suc n) xs =
    action_at xs >>= λ action. and_more (actions_within n) action (maybe_sign_at 44 action.1)

-- no text has more actions than bytes
abbrev pub actions_at : List ℕ → Read (List ActionForm)
actions_at xs = actions_within (length xs) xs

-- a list of actions, with none where the line ends
unfoldable pub list_at : List ℕ → Read (List ActionForm)
list_at [] = Ok ([], [])
list_at (b ∷ bs) = actions_at (b ∷ bs)

-- the press list, with none where a ; stands
unfoldable pub press_at : List ℕ → Read (List ActionForm)
press_at xs = if begins 59 xs then Ok ([], xs) else list_at xs

-- nothing, or ; and the release list: whether the ; stands, and the list
unfoldable pub release_at : List ℕ → Result (Bool × List ActionForm) ℕ
release_at [] = Ok (false, [])
release_at (b ∷ bs) = do
  rest ← sign_at 59 (b ∷ bs)
  list ← list_at rest
  _ ← end_at list.1
  Ok (true, list.0)

abbrev pub has_some : {A : Type 0} → List A → Bool
has_some [] = false
has_some (x ∷ xs) = true

pub record HotkeyForm : Type 0 where
  pub kind : TriggerKind
  pub argument : List ℕ
  pub press : List ActionForm
  pub released : Bool
  pub release : List ActionForm

unfoldable pub hotkey_at : List ℕ → Result HotkeyForm ℕ
hotkey_at xs = do
  word ← word_at (takes kind.Key) xs
  trigger ← or_left (trigger_named word.0.text) word.0.left
  argument ← argument_at word.1
  rest ← sign_at 61 argument.1
  press ← press_at rest
  release ← release_at press.1
  Ok
      (record {
        kind = trigger;
        argument = argument.0;
        press = press.0;
        released = release.0;
        release = release.1;
      })
