-- Printed actions and triggers are spelled so: WORD(ARGUMENT), and what it means.
use Rattle.std.proofs.Common.{◌≡◌, ℕ, true, false, not, nat_lt, List, [], ◌∷◌, ◌++◌, length, None}
use Rattle.std.proofs.Common.{refl, ap, sym, ◌∙◌, inl, inr, append_assoc}
use Rattle.std.specs.List.{list_all}
use Rattle.std.proofs.lemmas.Bool.{and_parts, ltb-true, not-true}
use Rattle.share_base.specs.declared.numbers.KeyId.{KeyId}
use Rattle.share_base.specs.declared.numbers.Mask.{Mask}
use Rattle.share_base.specs.declared.numbers.MouseButton.{MouseButton}
use Rattle.share_base.specs.Sides.{side_text}
use Rattle.share_base.proofs.ListTests.{all_weaker}
use Rattle.text_lines.specs.declared.bytes.WordKind.TheVariants as kind
use Rattle.text_lines.specs.Bytes.{takes}
use Rattle.text_lines.specs.Reading.{is_empty, begins}
use Rattle.text_lines.specs.Spelling.{IsGap, IsWord}
use Rattle.text_lines.proofs.SpelledWords.{front_again, some_filled, text_of}
use Rattle.hotkey_rules.specs.declared.action.Action.{Action}
use Rattle.hotkey_rules.specs.declared.action.Action.TheVariants as action
use Rattle.hotkey_rules.specs.declared.trigger.Trigger.{Trigger}
use Rattle.hotkey_rules.specs.declared.trigger.Trigger.TheVariants as trigger
use Rattle.hotkey_text.specs.declared.names.Deed.{Deed}
use Rattle.hotkey_text.specs.declared.names.Deed.TheVariants as deed
use Rattle.hotkey_text.specs.declared.names.ActionName.{ActionName}
use Rattle.hotkey_text.specs.declared.names.ActionName.TheVariants as name
use Rattle.hotkey_text.specs.declared.names.TriggerKind.{TriggerKind}
use Rattle.hotkey_text.specs.declared.names.TriggerKind.TheVariants as trigger_kind
use Rattle.hotkey_text.specs.Names.{action_word, trigger_word}
use Rattle.hotkey_text.specs.LockModes.{lock_word}
use Rattle.hotkey_text.specs.Shapes.{ActionForm}
use Rattle.hotkey_text.specs.Arguments.{ActionText, Key, Mouse, SwitchTo}
use Rattle.hotkey_text.specs.Printed.{key_chord_text, mouse_chord_text, call_text, trigger_text}
use Rattle.hotkey_text.specs.Printed.{action_text}
use Rattle.hotkey_rules.specs.WellFormed.{is_key_chord, is_mouse_chord, is_trigger, is_modifier_key}
use Rattle.hotkey_text.specs.RoundTrip.{is_argument_byte, is_screen_word, is_spelled, words_of}
use Rattle.hotkey_text.specs.RoundTrip.{HasWordsOf}
use Rattle.hotkey_text.specs.Spelling.{SpellsBrackets, SpellsAction}
use Rattle.hotkey_text.specs.SpellingWords.{SpellsLast, SpellsChord, SpellsArgument}
use Rattle.hotkey_text.proofs.ArgumentBytes.{argument_taken, choice_taken, argument_tight}
use Rattle.hotkey_text.proofs.ChordsAgain.{key_chord_spelled, key_chord_bytes, mouse_chord_spelled}
use Rattle.hotkey_text.proofs.ChordsAgain.{mouse_chord_bytes}
use Rattle.hotkey_text.proofs.SpelledActions.{action_read}
use Rattle.hotkey_text.proofs.WordsFound.{each_name, each_mode, each_side}

-- ---- the parts of an action's text

-- WORD(ARGUMENT), and what its words mean, where so many bytes are left from the argument on
pub record Call (text : List ℕ) (meant : ℕ → ActionText) : Type 0 where
  pub name : ActionName
  pub argument : List ℕ
  pub is : text ≡ call_text name argument
  pub bytes : list_all is_argument_byte argument ≡ true
  pub words : (rest : List ℕ)
      → SpellsArgument name (argument ++ 41 ∷ rest) (meant (length (argument ++ 41 ∷ rest)))

key_call : (deed : Deed) (id : KeyId) (mods : Mask) → is_key_chord id mods ≡ true
    → Call (call_text (name.Key deed) (key_chord_text id mods)) (λ left. Key deed id mods)
key_call deed id mods h = record {
  name = name.Key deed;
  argument = key_chord_text id mods;
  is = refl;
  bytes = key_chord_bytes id mods h;
  words =
      λ rest.
      (record { id = id; mods = mods }, key_chord_spelled true id mods rest h (inl refl), refl);
}

mouse_call : (deed : Deed) (mods : Mask) (b : MouseButton) → is_mouse_chord b mods ≡ true
    → Call (call_text (name.Mouse deed) (mouse_chord_text b mods)) (λ left. Mouse deed b mods)
mouse_call deed mods b h = record {
  name = name.Mouse deed;
  argument = mouse_chord_text b mods;
  is = refl;
  bytes = mouse_chord_bytes b mods h;
  words = λ rest. (record { b = b; mods = mods }, mouse_chord_spelled b mods rest h, refl);
}

last_spelled : (word rest : List ℕ) → SpellsLast (word ++ 41 ∷ rest) word
last_spelled word rest = (rest, record { behind_word = []; text = refl; gap = refl })

screen_call : (screen : List ℕ) → is_screen_word screen ≡ true
    → Call (call_text name.SwitchTo screen)
    (λ left. SwitchTo (record { word = text_of screen left; further = None }))
screen_call screen h =
    let parts = and_parts (not (is_empty screen)) (list_all is_argument_byte screen) h in
    let p = takes kind.Choice in
    let run = all_weaker is_argument_byte p choice_taken screen parts.1 in
    record {
      name = name.SwitchTo;
      argument = screen;
      is = refl;
      bytes = parts.1;
      words = λ rest. (
        record { word = text_of screen (length (screen ++ 41 ∷ rest)); further = None },
        record {
          rest = 41 ∷ rest;
          text = record { behind_word = []; text = refl; gap = refl };
          longest = sym (front_again p screen (41 ∷ rest) run refl);
          some = some_filled screen (not-true (is_empty screen) parts.0);
          tight = refl;
          further = refl;
          place = refl;
        },
        refl,
      );
    }

pub call_of : (a : Action) (screen : List ℕ) → is_spelled a screen ≡ true
    → Call (action_text a screen) (words_of a screen)
call_of (action.KeyStroke id mods button) screen h =
    key_call deed.Stroke id mods (and_parts _ true h).0
call_of (action.KeyPress id mods button) screen h =
    key_call deed.Press id mods (and_parts _ true h).0
call_of (action.KeyRelease id mods button) screen h =
    key_call deed.Release id mods (and_parts _ true h).0
call_of (action.MouseClick mods b) screen h = mouse_call deed.Stroke mods b (and_parts _ true h).0
call_of (action.MousePress mods b) screen h = mouse_call deed.Press mods b (and_parts _ true h).0
call_of (action.MouseRelease mods b) screen h =
    mouse_call deed.Release mods b (and_parts _ true h).0
call_of (action.Lock mode) screen h =
    record {
      name = name.Lock;
      argument = lock_word mode;
      is = refl;
      bytes = each_mode (λ m. list_all is_argument_byte (lock_word m)) refl mode;
      words = λ rest. (mode, last_spelled (lock_word mode) rest, refl);
    }
call_of (action.SwitchTo number) screen h = screen_call screen (and_parts true _ h).1
call_of (action.SwitchToward s) screen h =
    record {
      name = name.SwitchToward;
      argument = side_text s;
      is = refl;
      bytes = each_side (λ s. list_all is_argument_byte (side_text s)) refl s;
      words = λ rest. (s, last_spelled (side_text s) rest, refl);
    }

-- ---- the text, with anything behind it

call_is : (n : ActionName) (argument rest : List ℕ)
    → call_text n argument ++ rest ≡ action_word n ++ 40 ∷ (argument ++ 41 ∷ rest)
unfolding call_text
call_is n argument rest = simp append_assoc

pub brackets_spelled : (argument gap rest : List ℕ) → list_all is_argument_byte argument ≡ true
    → IsGap gap
    → SpellsBrackets (40 ∷ (argument ++ 41 ∷ (gap ++ rest))) (argument ++ 41 ∷ (gap ++ rest)) rest
brackets_spelled argument gap rest all blank = record {
  behind_open = [];
  inside = argument;
  behind_close = gap;
  text = refl;
  closes = refl;
  run = all_weaker is_argument_byte (takes kind.Argument) argument_taken argument all;
  tight = argument_tight argument all;
  gaps = (refl, blank);
}

word_is : (n : ActionName) → IsWord (takes kind.Action) (action_word n)
word_is n = (
  ltb-true 0 _ (each_name (λ n. nat_lt 0 (length (action_word n))) refl n),
  each_name (λ n. list_all (takes kind.Action) (action_word n)) refl n,
)

-- an action is spelled, and begins with no ;
pub record PrintedAction (xs : List ℕ) (a : Action) (screen rest : List ℕ) : Type 0 where
  pub form : ActionForm
  pub spelled : SpellsAction xs form rest
  pub words : HasWordsOf a screen form
  pub no_sign : begins 59 xs ≡ false

pub action_printed : (xs : List ℕ) (a : Action) (screen rest : List ℕ)
    → xs ≡ action_text a screen ++ rest → is_spelled a screen ≡ true
    → PrintedAction xs a screen rest
action_printed xs a screen rest e h =
    let c = call_of a screen h in
    let argument = c.argument ++ 41 ∷ rest in
    let text : xs ≡ action_word c.name ++ 40 ∷ argument =
    e ∙ ap (λ (t : List ℕ). t ++ rest) c.is ∙ call_is c.name c.argument rest in
    let form : ActionForm =
    record { word = text_of (action_word c.name) (length xs); argument = argument } in
    record {
      form = form;
      spelled =
          record {
            behind_word = [];
            brackets = 40 ∷ argument;
            text = text;
            argument = brackets_spelled c.argument [] rest c.bytes refl;
            word = word_is c.name;
            gap = refl;
            place = refl;
          };
      words =
          record {
            left = length argument;
            read =
                action_read form (words_of a screen (length argument))
                (c.name, refl, c.words rest);
          };
      no_sign =
          ap (begins 59) text
          ∙ not-true _
          (each_name (λ n. not (begins 59 (action_word n ++ 40 ∷ argument))) refl c.name);
    }

-- ---- triggers

abbrev pub kind_in : Trigger → TriggerKind
kind_in (trigger.Key id mods) = trigger_kind.Key
kind_in (trigger.Mouse b mods) = trigger_kind.Mouse

abbrev pub trigger_argument : Trigger → List ℕ
trigger_argument (trigger.Key id mods) = key_chord_text id mods
trigger_argument (trigger.Mouse b mods) = mouse_chord_text b mods

pub trigger_is : (t : Trigger) (rest : List ℕ)
    → trigger_text t ++ rest ≡ trigger_word (kind_in t) ++ 40 ∷ (trigger_argument t ++ 41 ∷ rest)
trigger_is (trigger.Key id mods) rest = call_is (name.Key deed.Stroke) (key_chord_text id mods) rest
trigger_is (trigger.Mouse b mods) rest =
    call_is (name.Mouse deed.Stroke) (mouse_chord_text b mods) rest

pub trigger_bytes : (t : Trigger) → is_trigger t ≡ true
    → list_all is_argument_byte (trigger_argument t) ≡ true
trigger_bytes (trigger.Key id mods) h =
    key_chord_bytes id mods (and_parts (is_key_chord id mods) (not (is_modifier_key id)) h).0
trigger_bytes (trigger.Mouse b mods) h = mouse_chord_bytes b mods h

pub chord_spelled : (t : Trigger) (rest : List ℕ) → is_trigger t ≡ true
    → SpellsChord (kind_in t) (trigger_argument t ++ 41 ∷ rest) t
chord_spelled (trigger.Key id mods) rest h =
    let parts = and_parts (is_key_chord id mods) (not (is_modifier_key id)) h in
    key_chord_spelled false id mods rest parts.0 (inr (not-true (is_modifier_key id) parts.1))
chord_spelled (trigger.Mouse b mods) rest h = mouse_chord_spelled b mods rest h
