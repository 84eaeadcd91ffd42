-- Numbers that fit the fields of messages: masks, ids, points.
use Rattle.std.specs.Prelude.{ℕ, zero, suc, ◌*◌, ◌<◌, ◌≤◌, ◌^◌, ℤ, pos, negsuc, ◌+ℤ◌, ◌-ℤ◌, ◌≤ℤ◌, nat_abs, int_div, Bool, true, false, nat_eq, List, [], ◌∷◌, Option, Some, None, unwrap_or, if◌then◌else◌}
use Rattle.std.specs.Int.{int_min, int_max}
use Rattle.std.specs.List.{AllByRecursion}
use Rattle.std.proofs.Common.{arith, w16, FitsSigned}
use Rattle.std.proofs.lemmas.Int.{ints, int_max_is, int_min_is}
use Rattle.std.proofs.lemmas.Nat.{or_of_16, xor_of_16}
use Rattle.share_base.specs.declared.shape.Shape.{Shape}
use Rattle.share_base.specs.declared.shape.Side.{Side}
use Rattle.share_base.specs.declared.shape.Side.TheVariants.{Left, Right, Up, Down}
use Rattle.share_base.specs.Shapes.{IsScreenShape}
use Rattle.screen_links.specs.Places.{pixel_of}
use Rattle.modifier_map.specs.declared.class.ModClass.{ModClass}
use Rattle.modifier_map.specs.declared.class.ModClass.TheVariants as class
use Rattle.modifier_map.specs.Table.{row, bit_of, lock_bit}
use Rattle.modifier_map.specs.Presses.{Call, Press, Release, down, class_down, bit_at, mods_below, toggles_of}
use Rattle.machine.specs.States.{State, Point}
use Rattle.machine.specs.Screens.{middle, clamped}
use Rattle.machine.specs.Modifiers.{mask, toggles, mods}
use Rattle.machine.specs.Crossing.{entry_point}
use Rattle.machine.specs.Switching.{next_sequence}

-- ---- masks

class_bit : (c : ModClass) → (row c).bit < 2 ^ 16
class_bit class.Shift = omega arith
class_bit class.Control = omega arith
class_bit class.Alt = omega arith
class_bit class.Meta = omega arith
class_bit class.Super = omega arith

bit_small : (o : Option ModClass) → bit_of o < 2 ^ 16
bit_small None = omega arith
bit_small (Some c) = class_bit c

mods_small : (calls : List Call) (n : ℕ) → mods_below calls n < 2 ^ 16
unfolding mods_below
mods_small calls zero = omega arith
mods_small calls (suc n) = or_of_16 (mods_below calls n) (bit_at calls n) (mods_small calls n) (bit_small (class_down (down calls n)))

lock_small : (id : ℕ) → lock_bit id < 2 ^ 16
lock_small id = caps (nat_eq id 0xefe5) (nat_eq id 0xef7f) (nat_eq id 0xef14)
  where
    caps : (a b c : Bool) → (if a then 0x1000 else if b then 0x2000 else if c then 0x4000 else 0) < 2 ^ 16
    caps true b c = omega arith
    caps false true c = omega arith
    caps false false true = omega arith
    caps false false false = omega arith

toggles_small : (calls : List Call) → toggles_of calls < 2 ^ 16
toggles_small [] = omega arith
toggles_small (Press id at ∷ calls) = xor_of_16 (toggles_of calls) (lock_bit id) (toggles_small calls) (lock_small id)
toggles_small (Release at ∷ calls) = toggles_small calls

pub toggles-small : (s : State) → toggles s < 2 ^ 16
toggles-small s = toggles_small s.presses

pub mask-small : (s : State) → mask s < 2 ^ 16
mask-small s = or_of_16 (mods s) (toggles s) (mods_small s.presses 256) (toggles_small s.presses)

-- ---- ids

abbrev pub IsSmallPress : Call → Type 0
IsSmallPress (Press id at) = id < 2 ^ 16
IsSmallPress (Release at) = Unit {0}

pub id-small : (calls : List Call) (button : ℕ) → AllByRecursion IsSmallPress calls → unwrap_or (down calls button) 0 < 2 ^ 16
id-small [] button h = omega arith
id-small (Press id at ∷ calls) button h = by (nat_eq button at) (id-small calls button h.1)
  where
    by : (b : Bool) → unwrap_or (down calls button) 0 < 2 ^ 16 → unwrap_or (if b then Some id else down calls button) 0 < 2 ^ 16
    by true later = h.0
    by false later = later
id-small (Release at ∷ calls) button h = by (nat_eq button at) (id-small calls button h.1)
  where
    by : (b : Bool) → unwrap_or (down calls button) 0 < 2 ^ 16 → unwrap_or (if b then None else down calls button) 0 < 2 ^ 16
    by true later = omega arith
    by false later = later

-- ---- points

abbrev pub IsPixel : Point → Type 0
IsPixel p = FitsSigned w16 p.x × FitsSigned w16 p.y

fits : (z : ℤ) → negsuc 32767 ≤ℤ z → z ≤ℤ pos 32767 → FitsSigned w16 z
fits z low high = search (arith, ints)

half_low : (w : ℤ) → pos 1 ≤ℤ w → pos 0 ≤ℤ int_div w (pos 2)
half_low (pos n) h = omega (arith, ints)
half_low (negsuc n) h = absurd (omega (arith, ints))

half_high : (w : ℤ) → pos 1 ≤ℤ w → int_div w (pos 2) ≤ℤ (w -ℤ pos 1)
half_high (pos n) h = omega (arith, ints)
half_high (negsuc n) h = absurd (omega (arith, ints))

half_fits : (x w : ℤ) → negsuc 32767 ≤ℤ x → pos 1 ≤ℤ w → (x +ℤ w) ≤ℤ pos 32768 → FitsSigned w16 (x +ℤ int_div w (pos 2))
half_fits x w low some upto =
    let least : pos 0 ≤ℤ int_div w (pos 2) = half_low w some in
    let most : int_div w (pos 2) ≤ℤ (w -ℤ pos 1) = half_high w some in
    fits (x +ℤ int_div w (pos 2)) (omega (arith, ints)) (omega (arith, ints))

pub middle-pixel : (shape : Shape) → IsScreenShape shape → IsPixel (middle shape)
middle-pixel shape is = (half_fits shape.x shape.w is.first_column is.wide is.columns, half_fits shape.y shape.h is.first_row is.high is.rows)

nearest_fits : (x w p : ℤ) → negsuc 32767 ≤ℤ x → pos 1 ≤ℤ w → (x +ℤ w) ≤ℤ pos 32768 → FitsSigned w16 (int_max x (int_min p ((x +ℤ w) -ℤ pos 1)))
nearest_fits x w p low some upto =
    let last : ℤ = (x +ℤ w) -ℤ pos 1 in
    let near : ℤ = int_min p last in
    fits (int_max x near) (omega (arith, ints, int_max_is x near, int_min_is p last)) (omega (arith, ints, int_max_is x near, int_min_is p last))

pub clamped-pixel : (shape : Shape) (p : Point) → IsScreenShape shape → IsPixel (clamped shape p)
clamped-pixel shape p is = (nearest_fits shape.x shape.w p.x is.first_column is.wide is.columns, nearest_fits shape.y shape.h p.y is.first_row is.high is.rows)

first_fits : (x w : ℤ) → negsuc 32767 ≤ℤ x → pos 1 ≤ℤ w → (x +ℤ w) ≤ℤ pos 32768 → FitsSigned w16 x
first_fits x w low some upto = fits x low (omega (arith, ints))

last_fits : (x w : ℤ) → negsuc 32767 ≤ℤ x → pos 1 ≤ℤ w → (x +ℤ w) ≤ℤ pos 32768 → FitsSigned w16 ((x +ℤ w) -ℤ pos 1)
last_fits x w low some upto = fits ((x +ℤ w) -ℤ pos 1) (omega (arith, ints)) (omega (arith, ints))

product : (t n : ℕ) → t ≤ 999999 → t * n ≤ 999999 * n
product t n h = grind (arith, h)

pixel_below : (t n : ℕ) → t < 1000000 → 1 ≤ n → pixel_of t n < n
pixel_below t n h some = omega (arith, product t n (omega arith))

along_fits : (x w : ℤ) (t : ℕ) → t < 1000000 → negsuc 32767 ≤ℤ x → pos 1 ≤ℤ w → (x +ℤ w) ≤ℤ pos 32768 → FitsSigned w16 (x +ℤ pos (pixel_of t (nat_abs w)))
along_fits x (pos n) t h low some upto =
    let below : pixel_of t n < n = pixel_below t n h (omega (arith, ints)) in
    pixel_fits x n (pixel_of t n) below low upto
  where
    pixel_fits : (x : ℤ) (n p : ℕ) → p < n → negsuc 32767 ≤ℤ x → (x +ℤ pos n) ≤ℤ pos 32768 → FitsSigned w16 (x +ℤ pos p)
    pixel_fits x n p below low upto = fits (x +ℤ pos p) (omega (arith, ints)) (omega (arith, ints))
along_fits x (negsuc n) t h low some upto = absurd (omega (arith, ints))

pub entry-pixel : (side : Side) (shape : Shape) (t : ℕ) → IsScreenShape shape → t < 1000000 → IsPixel (entry_point side shape t)
entry-pixel Right shape t is h = (first_fits shape.x shape.w is.first_column is.wide is.columns, along_fits shape.y shape.h t h is.first_row is.high is.rows)
entry-pixel Left shape t is h = (last_fits shape.x shape.w is.first_column is.wide is.columns, along_fits shape.y shape.h t h is.first_row is.high is.rows)
entry-pixel Down shape t is h = (along_fits shape.x shape.w t h is.first_column is.wide is.columns, first_fits shape.y shape.h is.first_row is.high is.rows)
entry-pixel Up shape t is h = (along_fits shape.x shape.w t h is.first_column is.wide is.columns, last_fits shape.y shape.h is.first_row is.high is.rows)

pub sequence-small : (n : ℕ) → next_sequence n < 2 ^ 32
sequence-small n = omega arith
