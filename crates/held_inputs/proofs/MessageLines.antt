-- The lines of a message whose fields are in their ranges are in theirs.
use Rattle.std.proofs.Common.{◌≡◌, refl, ℕ, zero, suc, ◌^◌, ◌<◌, Bool, true, false, cond, List, []}
use Rattle.std.proofs.Common.{◌∷◌, ◌++◌, map, arith}
use Rattle.std.specs.Prelude.{Option, None, Some, IfSome, nat_eq, bit_and}
use Rattle.std.specs.Option.{option_map, option_or}
use Rattle.std.specs.List.{AllByRecursion}
use Rattle.std.proofs.lemmas.Bool.{eqb-true}
use Rattle.std.proofs.lemmas.List.{append-nil, map-append}
use Rattle.std.proofs.lemmas.Nat.{or_lt, and_le_l}
use Rattle.message_codec.specs.declared.messages.Msg.{Msg}
use Rattle.message_codec.specs.declared.messages.Msg.TheVariants as msg
use Rattle.message_codec.specs.Fields as field
use Rattle.message_codec.specs.Table.{fields}
use Rattle.modifier_map.specs.declared.class.ModClass.{ModClass}
use Rattle.modifier_map.specs.declared.class.ModClass.TheVariants as class
use Rattle.modifier_map.specs.declared.map.ModMap.{ModMap}
use Rattle.modifier_map.specs.Table.{row, bit_of, class_of_left, class_of_right}
use Rattle.modifier_map.specs.Map.{target, left_key, right_key, meant_key, moved_bit}
use Rattle.share_base.specs.declared.numbers.KeyId.{KeyId}
use Rattle.held_inputs.specs.declared.line.Line.{Line}
use Rattle.held_inputs.specs.declared.line.Line.TheVariants.{Leave, KeyDown, KeyRepeat, ButtonDown}
use Rattle.held_inputs.specs.declared.line.Line.TheVariants.{ButtonUp}
use Rattle.held_inputs.specs.Ranges.{Fits}
use Rattle.held_inputs.specs.Down.{last_where, leaves_down, id_in, names_key, names_button}
use Rattle.held_inputs.specs.Down.{presses_key, down, is_button_down, held_one, keys_below}
use Rattle.held_inputs.specs.Down.{buttons_below, held_keys, held_buttons, up_of, releases}
use Rattle.held_inputs.specs.Screen.{Screen, first_press, press, repeat, lift, applied, meant_id}
use Rattle.held_inputs.specs.Screen.{meant_mask}
use Rattle.held_inputs.proofs.LineRanges.{fit-append, fit-saver}

-- ---- what a map makes of ids and masks

left_small : (c : ModClass) → (row c).left < 2 ^ 16
left_small class.Shift = omega arith
left_small class.Control = omega arith
left_small class.Alt = omega arith
left_small class.Meta = omega arith
left_small class.Super = omega arith

right_small : (c : ModClass) → (row c).right < 2 ^ 16
right_small class.Shift = omega arith
right_small class.Control = omega arith
right_small class.Alt = omega arith
right_small class.Meta = omega arith
right_small class.Super = omega arith

bit_small : (o : Option ModClass) → bit_of o < 2 ^ 16
bit_small None = omega arith
bit_small (Some class.Shift) = omega arith
bit_small (Some class.Control) = omega arith
bit_small (Some class.Alt) = omega arith
bit_small (Some class.Meta) = omega arith
bit_small (Some class.Super) = omega arith

abbrev IsSmallId : Option ℕ → Type 0
IsSmallId o = IfSome o (λ id. id < 2 ^ 16)

mapped_small : (key : ModClass → KeyId) → ((c : ModClass) → (key c).0 < 2 ^ 16)
    → (o : Option ModClass) → IsSmallId (option_map (λ (k : KeyId). k.0) (option_map key o))
mapped_small key small None = tt
mapped_small key small (Some c) = small c

meant_small : (m : ModMap) (id : ℕ) → id < 2 ^ 16 → (l r : Option ModClass)
    → IsSmallId (option_map (λ (k : KeyId). k.0) (meant_key m (record { 0 = id }) l r))
meant_small m id lt (Some c) r = mapped_small left_key left_small (target m c)
meant_small m id lt None (Some c) = mapped_small right_key right_small (target m c)
meant_small m id lt None None = lt

id_small : (m : ModMap) (id : ℕ) → id < 2 ^ 16 → IsSmallId (meant_id m id)
unfolding meant_id
id_small m id lt = meant_small m id lt (class_of_left id) (class_of_right id)

moved_small : (m : ModMap) (mask : ℕ) (c : ModClass) → moved_bit m mask c < 2 ^ 16
moved_small m mask c = by (nat_eq (bit_and mask (row c).bit) 0)
  where
    by : (t : Bool) → cond t 0 (bit_of (target m c)) < 2 ^ 16
    by true = omega arith
    by false = bit_small (target m c)

mask_small : (m : ModMap) (mask : ℕ) → mask < 2 ^ 16 → meant_mask m mask < 2 ^ 16
unfolding meant_mask
mask_small m mask lt =
    let others : bit_and mask 0xffe0 < 2 ^ 16 = omega (arith, and_le_l mask 0xffe0) in
    let bit = moved_small m mask in
    or_lt 16 _ _
    (or_lt 16 _ _
    (or_lt 16 _ _ (or_lt 16 _ _ (or_lt 16 _ _ others (bit class.Shift)) (bit class.Control))
    (bit class.Alt))
    (bit class.Meta))
    (bit class.Super)

-- ---- what is down

-- a line that was found is in its ranges, and passes the test
Found : (Line → Bool) → Option Line → Type 0
Found test None = Unit {0}
Found test (Some l) = Fits l × (test l ≡ true)

found : (test : Line → Bool) (lines : List Line) → AllByRecursion Fits lines
    → Found test (last_where test lines)
unfolding last_where Found
found test [] all = tt
found test (l ∷ lines) all = by (test l) refl (last_where test lines) (found test lines all.1)
  where
    by : (t : Bool) → test l ≡ t → (o : Option Line) → Found test o
        → Found test (option_or o (cond t (Some l) None))
    by true e None f = (all.0, e)
    by false e None f = tt
    by t e (Some other) f = f

pressed : (b id : ℕ) (o : Option Line) → Found (presses_key b) o → id_in o ≡ Some id
    → (id < 2 ^ 16) × (b < 2 ^ 16)
unfolding Found
pressed b id (Some (KeyDown i button mask)) f e =
    let same : i ≡ id = cc in
    let at : button ≡ b = eqb-true button b f.1 in (omega (arith, f.0.0), omega (arith, f.0.1))
pressed b id (Some l) f e = absurd (let no : ⊥ = cc in no)
pressed b id None f e = absurd (let no : ⊥ = cc in no)

down_small : (lines : List Line) (b id : ℕ) → AllByRecursion Fits lines → down lines b ≡ Some id
    → (id < 2 ^ 16) × (b < 2 ^ 16)
unfolding down
down_small lines b id all e =
    by (leaves_down (last_where (names_key b) lines)) (last_where (presses_key b) lines)
    (found (presses_key b) lines all) e
  where
    by : (t : Bool) (o : Option Line) → Found (presses_key b) o → cond t (id_in o) None ≡ Some id
        → (id < 2 ^ 16) × (b < 2 ^ 16)
    by true o f h = pressed b id o f h
    by false o f h = absurd (let no : ⊥ = cc in no)

clicked : (b : ℕ) (o : Option Line) → Found (names_button b) o → leaves_down o ≡ true → b < 2 ^ 8
unfolding Found
clicked b (Some (ButtonDown button)) f e = omega (arith, f.0, eqb-true button b f.1)
clicked b (Some (KeyDown id button mask)) f e = absurd (let no : ⊥ = cc in no)
clicked b (Some (KeyRepeat id count button mask)) f e = absurd (let no : ⊥ = cc in no)
clicked b (Some l) f e = absurd (let no : ⊥ = cc in no)
clicked b None f e = absurd (let no : ⊥ = cc in no)

button_small : (lines : List Line) (b : ℕ) → AllByRecursion Fits lines
    → is_button_down lines b ≡ true → b < 2 ^ 8
unfolding is_button_down
button_small lines b all e =
    clicked b (last_where (names_button b) lines) (found (names_button b) lines all) e

-- ---- the releases

fit-keys : (lines : List Line) → AllByRecursion Fits lines → (n : ℕ)
    → AllByRecursion Fits (map up_of (keys_below lines n))
unfolding keys_below
fit-keys lines all zero = tt
fit-keys lines all (suc b) =
    rw map-append
    (fit-append (map up_of (keys_below lines b)) (map up_of (held_one b (down lines b)))
    (fit-keys lines all b) (by (down lines b) refl))
  where
    by : (o : Option ℕ) → down lines b ≡ o → AllByRecursion Fits (map up_of (held_one b o))
    by None e = tt
    by (Some id) e = let small = down_small lines b id all e in ((small.0, small.1), tt)

fit-buttons : (lines : List Line) → AllByRecursion Fits lines → (n : ℕ)
    → AllByRecursion Fits (map ButtonUp (buttons_below lines n))
unfolding buttons_below
fit-buttons lines all zero = tt
fit-buttons lines all (suc b) = by (is_button_down lines b) refl (fit-buttons lines all b)
  where
    by : (t : Bool) → is_button_down lines b ≡ t
        → AllByRecursion Fits (map ButtonUp (buttons_below lines b))
        → AllByRecursion Fits (map ButtonUp (buttons_below lines b ++ cond t (b ∷ []) []))
    by true e below =
        rw map-append
        (fit-append (map ButtonUp (buttons_below lines b)) (ButtonUp b ∷ []) below
        (button_small lines b all e, tt))
    by false e below = rw append-nil below

pub fit-releases : (lines : List Line) → AllByRecursion Fits lines
    → AllByRecursion Fits (releases lines)
unfolding releases held_keys held_buttons
fit-releases lines all = fit-append _ _ (fit-keys lines all _) (fit-buttons lines all _)

-- ---- a message

fit-press : (lines : List Line) → AllByRecursion Fits lines → (o id : Option ℕ) (button mask : ℕ)
    → down lines button ≡ o → IsSmallId id → button < 2 ^ 16 → mask < 2 ^ 16
    → AllByRecursion Fits (press lines o id button mask)
fit-press lines all (Some first) id button mask e ids b m =
    (((down_small lines button first all e).0, omega arith, b, m), tt)
fit-press lines all None id button mask e ids b m = by _ id ids
  where
    by : (t : Bool) (o : Option ℕ) → IsSmallId o → AllByRecursion Fits (first_press t o button mask)
    by true (Some i) small = ((small, b, m), tt)
    by true None small = tt
    by false o small = tt

fit-repeat : (lines : List Line) → AllByRecursion Fits lines
    → (o : Option ℕ) (count button mask : ℕ) → down lines button ≡ o → count < 2 ^ 16
    → button < 2 ^ 16 → mask < 2 ^ 16 → AllByRecursion Fits (repeat o count button mask)
fit-repeat lines all (Some first) count button mask e c b m =
    (((down_small lines button first all e).0, c, b, m), tt)
fit-repeat lines all None count button mask e c b m = tt

fit-lift : (lines : List Line) → AllByRecursion Fits lines → (o : Option ℕ) (button : ℕ)
    → down lines button ≡ o → AllByRecursion Fits (lift o button)
fit-lift lines all (Some first) button e =
    let small = down_small lines button first all e in ((small.0, small.1), tt)
fit-lift lines all None button e = tt

pub fit-applied : (s : Screen) (m : Msg) → AllByRecursion Fits s.lines
    → AllByRecursion field.Fits (fields m) → AllByRecursion Fits (applied s m)
fit-applied s (msg.Enter x y seq mask) all f =
    ((f.0, f.1.0, f.1.1.0, mask_small s.mods mask f.1.1.1.0), tt)
fit-applied s msg.Leave all f =
    fit-append (releases s.lines) (Leave ∷ []) (fit-releases s.lines all) (tt, tt)
fit-applied s (msg.KeyDown id mask button) all f =
    fit-press s.lines all (down s.lines button) (meant_id s.mods id) button (meant_mask s.mods mask)
    refl (id_small s.mods id f.0) f.1.1.0 (mask_small s.mods mask f.1.0)
fit-applied s (msg.KeyRepeat id mask count button) all f =
    fit-repeat s.lines all (down s.lines button) count button (meant_mask s.mods mask) refl f.1.1.0
    f.1.1.1.0 (mask_small s.mods mask f.1.0)
fit-applied s (msg.KeyUp id mask button) all f =
    fit-lift s.lines all (down s.lines button) button refl
fit-applied s (msg.ButtonDown b) all f = by (is_button_down s.lines b)
  where
    by : (t : Bool) → AllByRecursion Fits (cond t [] (ButtonDown b ∷ []))
    by true = tt
    by false = (f.0, tt)
fit-applied s (msg.ButtonUp b) all f = by (is_button_down s.lines b)
  where
    by : (t : Bool) → AllByRecursion Fits (cond t (ButtonUp b ∷ []) [])
    by true = (f.0, tt)
    by false = tt
fit-applied s (msg.MoveTo x y) all f = ((f.0, f.1.0), tt)
fit-applied s (msg.MoveBy dx dy) all f = ((f.0, f.1.0), tt)
fit-applied s (msg.Wheel dx dy) all f = ((f.0, f.1.0), tt)
fit-applied s (msg.Saver on) all f = (fit-saver on, tt)
fit-applied s m all f = tt
