-- What a map makes of keys and masks, and what an option makes of a map.
use Rattle.std.specs.Prelude.{ℕ, Option, None, Some, fold, bit_and, bit_or, nat_eq, if◌then◌else◌}
use Rattle.std.specs.Option.{option_map}
use Rattle.share_base.specs.declared.numbers.KeyId.{KeyId}
use Rattle.share_base.specs.declared.numbers.Mask.{Mask}
use Rattle.modifier_map.specs.declared.class.ModClass.{ModClass}
use Rattle.modifier_map.specs.declared.class.ModClass.TheVariants as class
use Rattle.modifier_map.specs.declared.map.ModMap.{ModMap}
use Rattle.modifier_map.specs.Table.{row, all_classes, class_of_left, class_of_right, class_of_code}
use Rattle.modifier_map.specs.Table.{class_of_value, bit_of}

-- the class to which a class is mapped, or none
abbrev pub target : ModMap → ModClass → Option ModClass
target m class.Shift = m.shift
target m class.Control = m.control
target m class.Alt = m.alt
target m class.Meta = m.meta
target m class.Super = m.super_key

-- each class is mapped to itself
abbrev pub identity : ModMap
identity =
    record {
      shift = Some class.Shift;
      control = Some class.Control;
      alt = Some class.Alt;
      meta = Some class.Meta;
      super_key = Some class.Super;
    }

-- ---- options

-- the target that a value names: none at 0, else the class of that value
abbrev pub named_target : ℕ → Option (Option ModClass)
named_target value =
    if nat_eq value 0 then Some None else option_map (λ c. Some c) (class_of_value value)

-- the map with another target of one class
abbrev pub with_target : ModMap → ModClass → Option ModClass → ModMap
with_target m class.Shift to = record m { shift = to }
with_target m class.Control to = record m { control = to }
with_target m class.Alt to = record m { alt = to }
with_target m class.Meta to = record m { meta = to }
with_target m class.Super to = record m { super_key = to }

-- one class changes where there is a class and a target, and else nothing
abbrev pub with_named : ModMap → Option ModClass → Option (Option ModClass) → ModMap
with_named m (Some c) (Some to) = with_target m c to
with_named m (Some c) None = m
with_named m None to = m

-- the map after an option of this code and value
abbrev pub changed : ModMap → ℕ → ℕ → ModMap
changed m code value = with_named m (class_of_code code) (named_target value)

-- ---- keys and masks

abbrev pub left_key : ModClass → KeyId
left_key c = record { 0 = (row c).left }

abbrev pub right_key : ModClass → KeyId
right_key c = record { 0 = (row c).right }

-- a left key becomes the left key of its class's target, a right key the right one, and another key
-- stays
abbrev pub meant_key : ModMap → KeyId → Option ModClass → Option ModClass → Option KeyId
meant_key m id (Some c) right = option_map left_key (target m c)
meant_key m id None (Some c) = option_map right_key (target m c)
meant_key m id None None = Some id

abbrev pub key_under : ModMap → KeyId → Option KeyId
key_under m id = meant_key m id (class_of_left id.0) (class_of_right id.0)

-- the bit of a class's target, where the class's own bit is set
abbrev pub moved_bit : ModMap → ℕ → ModClass → ℕ
moved_bit m mask c = if nat_eq (bit_and mask (row c).bit) 0 then 0 else bit_of (target m c)

-- the other bits, and for each class whose bit is set the bit of its target
abbrev pub mask_under : ModMap → Mask → Mask
mask_under m mask =
    record {
      0 = fold (λ bits c. bit_or bits (moved_bit m mask.0 c)) (bit_and mask.0 0xffe0)
          all_classes;
    }
