-- The modifiers are those of the classes of which a key is down.
use Rattle.std.proofs.Common.{◌≡◌, ◌≢◌, ℕ, zero, suc, ◌^◌, ◌<◌, List, Option, None, Some, refl, sym}
use Rattle.std.proofs.Common.{ap, subst, ◌∙◌, arith, inl, inr, ◌⊎◌}
use Rattle.std.specs.Prelude.{bit_and, bit_or, ◌↔◌}
use Rattle.std.proofs.lemmas.Nat.{or_lt, or_comm, and_or_self, and_or_apart}
use Rattle.std.proofs.lemmas.Bool.{cases_eq}
use Rattle.modifier_map.specs.declared.class.ModClass.{ModClass}
use Rattle.modifier_map.specs.declared.class.ModClass.TheVariants as class
use Rattle.modifier_map.specs.Table.{row, bit_of}
use Rattle.modifier_map.specs.Presses.{Call, down, class_down, bit_at, mods_below, mods_of, HasBit}
use Rattle.modifier_map.specs.Presses.{IsHeldBelow, IsHeld}
use Rattle.modifier_map.proofs.Tables.{below-zero, below-suc}

-- ---- one bit more

-- two classes are one, or their bits have nothing in common
same_or_apart : (d c : ModClass) → (d ≡ c) ⊎ (bit_and (row d).bit (row c).bit ≡ 0)
same_or_apart class.Shift class.Shift = inl refl
same_or_apart class.Shift other = inr refl
same_or_apart class.Control class.Control = inl refl
same_or_apart class.Control other = inr refl
same_or_apart class.Alt class.Alt = inl refl
same_or_apart class.Alt other = inr refl
same_or_apart class.Meta class.Meta = inl refl
same_or_apart class.Meta other = inr refl
same_or_apart class.Super class.Super = inl refl
same_or_apart class.Super other = inr refl

-- no class has the bit 0
bit_is_set : (c : ModClass) → (row c).bit ≢ 0
bit_is_set class.Shift e = omega (arith, e)
bit_is_set class.Control e = omega (arith, e)
bit_is_set class.Alt e = omega (arith, e)
bit_is_set class.Meta e = omega (arith, e)
bit_is_set class.Super e = omega (arith, e)

none_has : (c : ModClass) → HasBit c 0 → ⊥
none_has class.Shift has = has refl
none_has class.Control has = has refl
none_has class.Alt has = has refl
none_has class.Meta has = has refl
none_has class.Super has = has refl

own_bit : (c : ModClass) (mask : ℕ) → HasBit c (bit_or mask (row c).bit)
own_bit c mask e = bit_is_set c (sym (and_or_self (row c).bit mask) ∙ e)

other_bit : (c d : ModClass) (mask : ℕ) → bit_and (row d).bit (row c).bit ≡ 0
    → bit_and (bit_or mask (row d).bit) (row c).bit ≡ bit_and mask (row c).bit
other_bit c d mask apart = and_or_apart (row c).bit mask (row d).bit apart

or_none : (mask : ℕ) → bit_or mask 0 ≡ mask
or_none mask = or_comm mask 0

-- a joined mask has a bit where one of the two has it
has_one : (c : ModClass) (mask : ℕ) (more : Option ModClass) → HasBit c (bit_or mask (bit_of more))
    → (more ≡ Some c) ⊎ HasBit c mask
has_one c mask None has = inr (subst (HasBit c) (or_none mask) has)
has_one c mask (Some d) has =
    elim (same_or_apart d c) [
      | inl same ↦ inl (ap (λ (x : ModClass). Some x) same)
      | inr apart ↦ inr (λ e. has (other_bit c d mask apart ∙ e))
    ]

has_either : (c : ModClass) (mask : ℕ) (more : Option ModClass) → (more ≡ Some c) ⊎ HasBit c mask
    → HasBit c (bit_or mask (bit_of more))
has_either c mask more (inl same) =
    subst (λ (m : Option ModClass). HasBit c (bit_or mask (bit_of m))) (sym same) (own_bit c mask)
has_either c mask None (inr has) = subst (HasBit c) (sym (or_none mask)) has
has_either c mask (Some d) (inr has) =
    elim (same_or_apart d c) [
      | inl same ↦
          subst (λ (x : ModClass). HasBit c (bit_or mask (row x).bit)) (sym same) (own_bit c mask)
      | inr apart ↦ λ e. has (sym (other_bit c d mask apart) ∙ e)
    ]

-- ---- all buttons below a number

held_below : (calls : List Call) (c : ModClass) (n : ℕ) → HasBit c (mods_below calls n)
    → IsHeldBelow n calls c
held_below calls c zero has = absurd (none_has c (subst (HasBit c) (below-zero calls) has))
held_below calls c (suc n) has =
    elim
    (has_one c (mods_below calls n) (class_down (down calls n))
    (subst (HasBit c) (below-suc calls n) has)) [
      | inl here ↦ (n, omega arith, here)
      | inr has' ↦ let before =
          held_below calls c n has' in (before.0, omega (arith, before.1), before.2)
    ]

has_below : (calls : List Call) (c : ModClass) (n : ℕ) → IsHeldBelow n calls c
    → HasBit c (mods_below calls n)
has_below calls c zero held = absurd (omega (arith, held.1))
has_below calls c (suc n) held =
    subst (HasBit c) (sym (below-suc calls n))
    (has_either c (mods_below calls n) (class_down (down calls n))
    (elim (cases_eq held.0 n) [
      | inl same ↦ inl (ap (λ (b : ℕ). class_down (down calls b)) (sym same) ∙ held.2)
      | inr other ↦ inr (has_below calls c n (held.0, omega (arith, held.1), held.2))
    ]))

pub mods_are_held : (calls : List Call) (c : ModClass) → HasBit c (mods_of calls) ↔ IsHeld calls c
mods_are_held calls c = (held_below calls c 256, has_below calls c 256)

bit_small : (more : Option ModClass) → bit_of more < 2 ^ 5
bit_small None = omega arith
bit_small (Some class.Shift) = omega arith
bit_small (Some class.Control) = omega arith
bit_small (Some class.Alt) = omega arith
bit_small (Some class.Meta) = omega arith
bit_small (Some class.Super) = omega arith

small_below : (calls : List Call) (n : ℕ) → mods_below calls n < 2 ^ 5
small_below calls zero = omega (arith, below-zero calls)
small_below calls (suc n) =
    omega (
      arith,
      below-suc calls n,
      or_lt 5 (mods_below calls n) (bit_at calls n) (small_below calls n)
          (bit_small (class_down (down calls n))),
    )

pub mods_small : (calls : List Call) → mods_of calls < 32
mods_small calls = omega (arith, small_below calls 256)
