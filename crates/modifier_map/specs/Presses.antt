-- Presses and releases of keys, the newest first, and what they leave down.
use Rattle.std.specs.Prelude.{◌≡◌, ◌≢◌, ℕ, zero, suc, ◌<◌, List, [], ◌∷◌, length, Option, None}
use Rattle.std.specs.Prelude.{Some, slice_get, bit_and, bit_or, bit_xor, nat_eq, if◌then◌else◌}
use Rattle.modifier_map.specs.declared.class.ModClass.{ModClass}
use Rattle.modifier_map.specs.Table.{row, class_of_key, bit_of, lock_bit}

-- a key of this id went down at this button; the key at this button went up
pub data Call : Type 0 where
  Press : ℕ → ℕ → Call
  Release : ℕ → Call

-- ---- what they leave

-- the key that is down at a button: that of its latest press, where no release came since
abbrev pub down : List Call → ℕ → Option ℕ
down [] button = None
down (Press id at ∷ calls) button = if nat_eq button at then Some id else down calls button
down (Release at ∷ calls) button = if nat_eq button at then None else down calls button

-- the class of a key that is down, where it has one
abbrev pub class_down : Option ℕ → Option ModClass
class_down None = None
class_down (Some id) = class_of_key id

-- the modifier bit of the key that is down at a button, 0 for none
abbrev pub bit_at : List Call → ℕ → ℕ
bit_at calls button = bit_of (class_down (down calls button))

-- the modifiers of the keys that are down at the buttons below a number
unfoldable pub mods_below : List Call → ℕ → ℕ
mods_below calls zero = 0
mods_below calls (suc button) = bit_or (mods_below calls button) (bit_at calls button)

-- the modifiers of the keys that are down
abbrev pub mods_of : List Call → ℕ
mods_of calls = mods_below calls 256

-- the toggles: each press of a lock key flipped its own
abbrev pub toggles_of : List Call → ℕ
toggles_of [] = 0
toggles_of (Press id at ∷ calls) = bit_xor (toggles_of calls) (lock_bit id)
toggles_of (Release at ∷ calls) = toggles_of calls

-- a key of that class is down at a button below that number
abbrev pub IsHeldBelow : ℕ → List Call → ModClass → Type 0
IsHeldBelow limit calls c =
    (button : ℕ) × (button < limit) × (class_down (down calls button) ≡ Some c)

-- a key of that class is down
abbrev pub IsHeld : List Call → ModClass → Type 0
IsHeld calls c = IsHeldBelow 256 calls c

-- the mask has the bit of that class
abbrev pub HasBit : ModClass → ℕ → Type 0
HasBit c mask = bit_and mask (row c).bit ≢ 0

-- ---- what is kept

-- the modifier bit of the key at each button, and the toggles
pub record Kept : Type 0 where
  pub bits : List ℕ
  pub toggles : ℕ

-- what is kept is the result of these calls
pub record StandsFor (kept : Kept) (calls : List Call) : Type 0 where
  pub long : length kept.bits ≡ 256
  pub each : (button : ℕ) → button < 256 → slice_get kept.bits button ≡ Some (bit_at calls button)
  pub toggles : kept.toggles ≡ toggles_of calls

-- from every list of calls that it was the result of, this call leads to what is kept now
abbrev pub Extends : Kept → Kept → Call → Type 0
Extends old new call = (calls : List Call) → StandsFor old calls → StandsFor new (call ∷ calls)
