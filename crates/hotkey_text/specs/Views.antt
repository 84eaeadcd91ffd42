-- What the code's borrowed values stand for.
use Rattle.std.specs.Prelude.{List}
use Rattle.text_lines.specs.Views.{word_text}
use Rattle.hotkey_text.specs.declared.forms.ActionForm as code_form
use Rattle.hotkey_text.specs.declared.lists.ActionList as code_list
use Rattle.hotkey_text.specs.declared.shapes.HotkeyForm as code_line
use Rattle.hotkey_text.specs.declared.arguments.ScreenWord as code_screen
use Rattle.hotkey_text.specs.declared.arguments.ActionWords as code_words
use Rattle.hotkey_text.specs.declared.arguments.ActionWords.TheVariants as words
use Rattle.hotkey_text.specs.Shapes.{ActionForm, HotkeyForm}
use Rattle.hotkey_text.specs.Lists.{actions_from}
use Rattle.hotkey_text.specs.Arguments.{ScreenText, ActionText, Key, Mouse, Lock, SwitchTo}
use Rattle.hotkey_text.specs.Arguments.{SwitchToward}

abbrev pub form_text : code_form.ActionForm → ActionForm
form_text f = record { word = word_text f.word; argument = f.argument.now }

abbrev pub list_text : code_list.ActionList → List ActionForm
list_text l = actions_from l.rest

abbrev pub line_text : code_line.HotkeyForm → HotkeyForm
line_text l =
    record {
      kind = l.kind;
      argument = l.argument.now;
      press = list_text l.press;
      released = l.released;
      release = list_text l.release;
    }

abbrev pub screen_text : code_screen.ScreenWord → ScreenText
screen_text s = record { word = word_text s.word; further = s.further }

abbrev pub words_text : code_words.ActionWords → ActionText
words_text (words.Key deed id mods) = Key deed id mods
words_text (words.Mouse deed b mods) = Mouse deed b mods
words_text (words.Lock mode) = Lock mode
words_text (words.SwitchTo screen) = SwitchTo (screen_text screen)
words_text (words.SwitchToward side) = SwitchToward side
