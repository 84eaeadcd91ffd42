-- What is read of a hotkey that is printed.
use Rattle.std.specs.Prelude.{◌≡◌, ℕ, Bool, true, not, ◌==◌, ◌&&◌, ◌||◌, nat_le, List, map, Ok}
use Rattle.std.specs.Prelude.{None}
use Rattle.std.specs.List.{list_all, AllZip}
use Rattle.text_lines.specs.Reading.{is_empty}
use Rattle.hotkey_rules.specs.declared.action.Action.{Action}
use Rattle.hotkey_rules.specs.declared.action.Action.TheVariants as action
use Rattle.hotkey_rules.specs.declared.trigger.Trigger.{Trigger}
use Rattle.hotkey_text.specs.declared.names.Deed.TheVariants as deed
use Rattle.hotkey_text.specs.Arguments.{ActionText, Key, Mouse, Lock, SwitchTo, SwitchToward}
use Rattle.hotkey_text.specs.Arguments.{action_of, trigger_of}
use Rattle.hotkey_text.specs.Printed.{action_text}
use Rattle.hotkey_text.specs.Shapes.{ActionForm, HotkeyForm, is_hotkey, hotkey_at}
use Rattle.hotkey_rules.specs.WellFormed.{is_action}

-- it may stand in the word of a screen: printed ASCII other than blanks, `#`, `)` and `,`
abbrev pub is_argument_byte : ℕ → Bool
is_argument_byte b = (nat_le 33 b && nat_le b 126) && not ((b == 35) || (b == 41) || (b == 44))

abbrev pub is_screen_word : List ℕ → Bool
is_screen_word word = not (is_empty word) && list_all is_argument_byte word

-- where it switches to a screen, that screen's name may stand there
abbrev pub has_screen_word : Action → List ℕ → Bool
has_screen_word (action.KeyStroke id mods button) screen = true
has_screen_word (action.KeyPress id mods button) screen = true
has_screen_word (action.KeyRelease id mods button) screen = true
has_screen_word (action.MouseClick mods b) screen = true
has_screen_word (action.MousePress mods b) screen = true
has_screen_word (action.MouseRelease mods b) screen = true
has_screen_word (action.Lock mode) screen = true
has_screen_word (action.SwitchTo number) screen = is_screen_word screen
has_screen_word (action.SwitchToward side) screen = true

-- a text can spell the action, where the screen to which it switches has that name
abbrev pub is_spelled : Action → List ℕ → Bool
is_spelled a screen = is_action a && has_screen_word a screen

-- ---- what is read

-- the words of an action, whose screen's word stands so many bytes before the end of the line
abbrev pub words_of : Action → List ℕ → ℕ → ActionText
words_of (action.KeyStroke id mods button) screen left = Key deed.Stroke id mods
words_of (action.KeyPress id mods button) screen left = Key deed.Press id mods
words_of (action.KeyRelease id mods button) screen left = Key deed.Release id mods
words_of (action.MouseClick mods b) screen left = Mouse deed.Stroke b mods
words_of (action.MousePress mods b) screen left = Mouse deed.Press b mods
words_of (action.MouseRelease mods b) screen left = Mouse deed.Release b mods
words_of (action.Lock mode) screen left = Lock mode
words_of (action.SwitchTo number) screen left =
    SwitchTo (record { word = record { text = screen; left = left }; further = None })
words_of (action.SwitchToward side) screen left = SwitchToward side

-- the form has that action's words
pub record HasWordsOf (a : Action) (screen : List ℕ) (form : ActionForm) : Type 0 where
  pub left : ℕ
  pub read : action_of form ≡ Ok (words_of a screen left)

-- each form has the words of the action at its place
abbrev pub HaveWordsOf : (Action → List ℕ) → List Action → List ActionForm → Type 0
HaveWordsOf screen actions forms = AllZip (λ a form. HasWordsOf a (screen a) form) actions forms

-- the texts of actions
abbrev pub texts_of : (Action → List ℕ) → List Action → List (List ℕ)
texts_of screen actions = map (λ a. action_text a (screen a)) actions

-- this line is read as one of that trigger, of these actions when it goes down and of those when it
-- goes up
pub record ReadsAs (text : List ℕ) (screen : Action → List ℕ) (t : Trigger) (down up : List Action)
    : Type 0 where
  pub line : HotkeyForm
  pub hotkey : is_hotkey text ≡ true
  pub read : hotkey_at text ≡ Ok line
  pub trigger : trigger_of line ≡ Ok t
  pub press : HaveWordsOf screen down line.press
  pub release : HaveWordsOf screen up line.release
