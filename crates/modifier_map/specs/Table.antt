-- The table of modifiers: for each class its two keys, its bit in masks, the code of the option
-- that gives it a target, and the value by which an option names it. And the lock keys.
use Rattle.std.specs.Prelude.{ℕ, List, [], ◌∷◌, Option, None, Some, codes, find, nat_eq}
use Rattle.std.specs.Prelude.{if◌then◌else◌}
use Rattle.std.specs.Int.{w32, from_be_bytes}
use Rattle.modifier_map.specs.declared.class.Row.{Row}
use Rattle.modifier_map.specs.declared.class.ModClass.{ModClass}
use Rattle.modifier_map.specs.declared.class.ModClass.TheVariants as class

abbrev pub row_of : ℕ → ℕ → ℕ → List ℕ → ℕ → Row
row_of left right bit letters value =
    record {
      left = left;
      right = right;
      bit = bit;
      code = from_be_bytes w32 letters;
      value = value;
    }

abbrev pub row : ModClass → Row
row class.Shift = row_of 0xefe1 0xefe2 0x01 (codes "MMFS") 1
row class.Control = row_of 0xefe3 0xefe4 0x02 (codes "MMFC") 2
row class.Alt = row_of 0xefe9 0xefea 0x04 (codes "MMFA") 3
row class.Meta = row_of 0xefe7 0xefe8 0x08 (codes "MMFM") 4
row class.Super = row_of 0xefeb 0xefec 0x10 (codes "MMFR") 5

-- all of them, in the order of the values
abbrev pub all_classes : List ModClass
all_classes = class.Shift ∷ class.Control ∷ class.Alt ∷ class.Meta ∷ class.Super ∷ []

-- ---- what the rows say

abbrev pub class_of_left : ℕ → Option ModClass
class_of_left id = find (λ c. nat_eq (row c).left id) all_classes

abbrev pub class_of_right : ℕ → Option ModClass
class_of_right id = find (λ c. nat_eq (row c).right id) all_classes

abbrev pub class_of_code : ℕ → Option ModClass
class_of_code code = find (λ c. nat_eq (row c).code code) all_classes

abbrev pub class_of_value : ℕ → Option ModClass
class_of_value value = find (λ c. nat_eq (row c).value value) all_classes

-- the bit of a class, 0 for none
abbrev pub bit_of : Option ModClass → ℕ
bit_of None = 0
bit_of (Some c) = (row c).bit

-- the class of which a key is
abbrev pub first_class : Option ModClass → Option ModClass → Option ModClass
first_class (Some c) other = Some c
first_class None other = other

abbrev pub class_of_key : ℕ → Option ModClass
class_of_key id = first_class (class_of_left id) (class_of_right id)

-- the bit of a key's class, 0 for every other key
abbrev pub key_bit : ℕ → ℕ
key_bit id = bit_of (class_of_key id)

-- the toggle that a lock key flips, 0 for every other key: CapsLock, NumLock and ScrollLock
abbrev pub lock_bit : ℕ → ℕ
lock_bit id =
    if nat_eq id 0xefe5 then 0x1000 else if nat_eq id 0xef7f then 0x2000 else if nat_eq id 0xef14
    then 0x4000 else 0
