-- What the script holds down, as the server machine remembers it, what each event makes of it, and
-- what is read off it.
use Rattle.std.specs.Prelude.{ℕ, Bool, not, ◌==◌, List, [], ◌∷◌, filter, length, Option, unwrap_or, bit_and, bit_or}
use Rattle.std.specs.List.{list_any}
use Rattle.share_base.specs.declared.numbers.RuleNo.{RuleNo}
use Rattle.modifier_map.specs.declared.class.ModClass.{ModClass}
use Rattle.modifier_map.specs.Table.{row}
use Rattle.modifier_map.specs.Presses.{Call, Press, Release, down, mods_of, toggles_of}
use Rattle.machine.specs.States.{State}
use Rattle.machine.specs.Events.{taken_too, released}

pub record Inputs : Type 0 where
  pub presses : List Call  -- and releases of keys, the newest first
  pub buttons : List ℕ  -- of the mouse
  pub taken_keys : List (ℕ × RuleNo)
  pub taken_buttons : List (ℕ × RuleNo)

abbrev pub inputs_of : State → Inputs
inputs_of s =
    record {
      presses = s.presses;
      buttons = s.buttons;
      taken_keys = s.taken_keys;
      taken_buttons = s.taken_buttons;
    }

abbrev pub nothing : Inputs
nothing = record { presses = []; buttons = []; taken_keys = []; taken_buttons = [] }

-- ---- after an event; a rule, if any, takes what goes down

abbrev pub after_key_down : ℕ → ℕ → Option RuleNo → Inputs → Inputs
after_key_down id button rule i =
    record i {
      presses = Press id button ∷ i.presses;
      taken_keys = taken_too rule button i.taken_keys;
    }

abbrev pub after_key_up : ℕ → Inputs → Inputs
after_key_up button i =
    record i { presses = Release button ∷ i.presses; taken_keys = released button i.taken_keys }

abbrev pub after_button_down : ℕ → Option RuleNo → Inputs → Inputs
after_button_down b rule i =
    record i { buttons = b ∷ i.buttons; taken_buttons = taken_too rule b i.taken_buttons }

abbrev pub after_button_up : ℕ → Inputs → Inputs
after_button_up b i =
    record i {
      buttons = filter (λ n. not (n == b)) i.buttons;
      taken_buttons = released b i.taken_buttons;
    }

-- ---- what is read off it

-- the id with which the key at a button went down, 0 for none
abbrev pub id_down : List Call → ℕ → ℕ
id_down presses button = unwrap_or (down presses button) 0

abbrev pub mask_of : List Call → ℕ
mask_of presses = bit_or (mods_of presses) (toggles_of presses)

-- a key of that class is down
abbrev pub holds_class : List Call → ModClass → Bool
holds_class presses class = not (bit_and (mods_of presses) (row class).bit == 0)

-- the button is one of these
abbrev pub is_among : List ℕ → ℕ → Bool
is_among buttons b = list_any (λ n. n == b) buttons

abbrev pub is_some_down : List ℕ → Bool
is_some_down buttons = not (length buttons == 0)
