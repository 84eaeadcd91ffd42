-- The table of bits at the buttons.
use Rattle.std.proofs.Common.{Bool, true, false, ◌≡◌, ℕ, zero, suc, ◌+◌, ◌<◌, ◌≢◌, List, [], ◌∷◌}
use Rattle.std.proofs.Common.{length, Option, None, Some, replicate, refl, sym, ap, ◌∙◌, cond}
use Rattle.std.proofs.Common.{add-zero, arith}
use Rattle.std.specs.Prelude.{fold, slice_get, slice_set, nat_eq, bit_or, bit_xor}
use Rattle.std.proofs.lemmas.List.{length-replicate, length-set}
use Rattle.std.proofs.lemmas.List.{get_or-set_same, get_or-set_other}
use Rattle.std.proofs.lemmas.Option.{slice_get-get_or}
use Rattle.std.proofs.lemmas.Bool.Decides.{nat_tests}
use Rattle.modifier_map.specs.Table.{bit_of, key_bit, lock_bit}
use Rattle.modifier_map.specs.Presses.{Call, Press, Release, down, class_down, bit_at, mods_below}
use Rattle.modifier_map.specs.Presses.{mods_of, toggles_of, Kept, StandsFor}

get-replicate : {A : Type 0} (n i : ℕ) (x : A) → i < n → slice_get (replicate n x) i ≡ Some x
get-replicate zero i x lt = absurd (omega arith)
get-replicate (suc n) zero x lt = refl
get-replicate (suc n) (suc i) x lt = get-replicate n i x (omega arith)

-- a table of no bits
pub fresh : (n : ℕ) → n ≡ 256 → StandsFor (record { bits = replicate n 0; toggles = 0 }) []
fresh n e =
    record {
      long = length-replicate n 0 ∙ e;
      each = λ b lt. get-replicate n b 0 (omega arith);
      toggles = refl;
    }

pub below-suc : (calls : List Call) (button : ℕ)
    → mods_below calls (suc button) ≡ bit_or (mods_below calls button) (bit_at calls button)
unfolding mods_below
below-suc calls button = refl

pub below-zero : (calls : List Call) → mods_below calls 0 ≡ 0
unfolding mods_below
below-zero calls = refl

moved : (from i : ℕ) → from + suc i ≡ suc from + i
moved from i = omega arith

-- joining the bits from a button on to those below it
joined_from : (calls : List Call) (bits : List ℕ) (from : ℕ)
    → ((i : ℕ) → i < length bits → slice_get bits i ≡ Some (bit_at calls (from + i)))
    → fold bit_or (mods_below calls from) bits ≡ mods_below calls (from + length bits)
joined_from calls [] from each = ap (mods_below calls) (omega arith)
joined_from calls (bit ∷ bits) from each =
    let first : Some bit ≡ Some (bit_at calls from) =
    each 0 (omega arith) ∙ ap (λ (n : ℕ). Some (bit_at calls n)) (add-zero from) in
    let here : bit ≡ bit_at calls from = cc in
    let next : bit_or (mods_below calls from) bit ≡ mods_below calls (suc from) =
    ap (bit_or (mods_below calls from)) here ∙ sym (below-suc calls from) in
    let others : (i : ℕ) → i < length bits → slice_get bits i ≡ Some (bit_at calls (suc from + i)) =
    λ i lt. each (suc i) (omega arith) ∙ ap (λ (n : ℕ). Some (bit_at calls n)) (moved from i) in
    ap (λ (all : ℕ). fold bit_or all bits) next ∙ joined_from calls bits (suc from) others
    ∙ ap (mods_below calls) (sym (moved from (length bits)))

-- the bits of the table, joined
pub joined : (calls : List Call) (kept : Kept) → StandsFor kept calls
    → fold bit_or 0 kept.bits ≡ mods_of calls
joined calls kept stands =
    ap (λ (all : ℕ). fold bit_or all kept.bits) (sym (below-zero calls))
    ∙ joined_from calls kept.bits 0
    (λ i lt. stands.each i (omega (arith, stands.long))
    ∙ ap (λ (n : ℕ). Some (bit_at calls n)) (omega arith))
    ∙ ap (mods_below calls) (omega (arith, stands.long))

-- what is at a button after a key went down at another, or at it
bit_cond : (test : Bool) (id : ℕ) (other : Option ℕ)
    → cond test (key_bit id) (bit_of (class_down other))
    ≡ bit_of (class_down (cond test (Some id) other))
bit_cond true id other = refl
bit_cond false id other = refl

-- what is at a button after the key at another went up, or at it
none_cond : (test : Bool) (other : Option ℕ)
    → cond test 0 (bit_of (class_down other)) ≡ bit_of (class_down (cond test None other))
none_cond true other = refl
none_cond false other = refl

-- one entry of the table was set
set_same : (bits : List ℕ) (button bit : ℕ) → button < length bits
    → slice_get (slice_set bits button bit) button ≡ Some bit
set_same bits button bit lt =
    slice_get-get_or (slice_set bits button bit) button 0
    (omega (arith, length-set bits button bit))
    ∙ ap (λ (n : ℕ). Some n) (get_or-set_same bits button bit 0 lt)

set_other : (bits : List ℕ) (button b bit : ℕ) → b < length bits → b ≢ button
    → slice_get (slice_set bits button bit) b ≡ slice_get bits b
set_other bits button b bit lt ne =
    slice_get-get_or (slice_set bits button bit) b 0 (omega (arith, length-set bits button bit))
    ∙ ap (λ (n : ℕ). Some n) (get_or-set_other bits button b bit 0 ne)
    ∙ sym (slice_get-get_or bits b 0 lt)

set_each : (at : ℕ → ℕ) (bits : List ℕ) (button bit b : ℕ) → button < length bits → b < length bits
    → slice_get bits b ≡ Some (at b)
    → slice_get (slice_set bits button bit) b ≡ Some (cond (nat_eq b button) bit (at b))
set_each at bits button bit b lt below here =
    let same : slice_get (slice_set bits button bit) button ≡ Some bit =
    set_same bits button bit lt in
    let other : b ≢ button → slice_get (slice_set bits button bit) b ≡ slice_get bits b =
    set_other bits button b bit below in
    grind (arith, nat_tests)

pub pressed : (calls : List Call) (bits : List ℕ) (toggles id button bit flip : ℕ) → button < 256
    → bit ≡ key_bit id → flip ≡ lock_bit id
    → StandsFor (record { bits = bits; toggles = toggles }) calls
    → StandsFor (record { bits = slice_set bits button bit; toggles = bit_xor toggles flip })
    (Press id button ∷ calls)
pressed calls bits toggles id button bit flip lt bit-is flip-is s = record {
  long = length-set bits button bit ∙ s.long;
  each =
      λ b below.
      set_each (bit_at calls) bits button bit b (omega (arith, s.long)) (omega (arith, s.long))
      (s.each b below)
      ∙ ap (λ (n : ℕ). Some (cond (nat_eq b button) n (bit_at calls b))) bit-is
      ∙ ap (λ (n : ℕ). Some n) (bit_cond (nat_eq b button) id (down calls b));
  toggles = ap (λ (n : ℕ). bit_xor n flip) s.toggles ∙ ap (bit_xor (toggles_of calls)) flip-is;
}

pub released : (calls : List Call) (bits : List ℕ) (toggles button : ℕ) → button < 256
    → StandsFor (record { bits = bits; toggles = toggles }) calls
    → StandsFor (record { bits = slice_set bits button 0; toggles = toggles })
    (Release button ∷ calls)
released calls bits toggles button lt s = record {
  long = length-set bits button 0 ∙ s.long;
  each =
      λ b below.
      set_each (bit_at calls) bits button 0 b (omega (arith, s.long)) (omega (arith, s.long))
      (s.each b below)
      ∙ ap (λ (n : ℕ). Some n) (none_cond (nat_eq b button) (down calls b));
  toggles = s.toggles;
}
