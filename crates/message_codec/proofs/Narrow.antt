-- How long the fields of a message are: none but the last has more than four bytes.
use Rattle.std.proofs.Common.{◌≡◌, ℕ, zero, suc, ◌*◌, ◌<◌, ◌≤◌, Bool, true, false, List, [], ◌∷◌}
use Rattle.std.proofs.Common.{length, take, refl, ap, arith}
use Rattle.std.specs.Prelude.{◌&&◌}
use Rattle.std.proofs.lemmas.List.{length-append}
use Rattle.std.proofs.lemmas.List.Concat.{flat_map-cons}
use Rattle.message_codec.specs.declared.messages.Msg.{Msg}
use Rattle.message_codec.specs.declared.messages.Msg.TheVariants as msg
use Rattle.message_codec.specs.Fields.{Field, Byte, Half, Signed, Word, Clip, Mark, Text, Words}
use Rattle.message_codec.specs.Fields.{spelled, spelled_all}
use Rattle.message_codec.specs.Table.{fields}

is_narrow : Field → Bool
is_narrow (Text bytes) = false
is_narrow (Words ns) = false
is_narrow f = true

narrow_front : List Field → Bool
narrow_front [] = true
narrow_front (f ∷ []) = true
narrow_front (f ∷ g ∷ fs) = is_narrow f && narrow_front (g ∷ fs)

narrow_fields : (m : Msg) → narrow_front (fields m) ≡ true
unfolding is_narrow narrow_front
narrow_fields msg.Bye = refl
narrow_fields m = refl

length-narrow : (f : Field) → is_narrow f ≡ true → length (spelled f) ≤ 4
unfolding is_narrow
length-narrow (Byte n) h = omega arith
length-narrow (Half n) h = omega arith
length-narrow (Signed z) h = omega arith
length-narrow (Word n) h = omega arith
length-narrow (Clip n) h = omega arith
length-narrow (Mark n) h = omega arith
length-narrow (Text bytes) h = absurd cc
length-narrow (Words ns) h = absurd cc

both_true : (a b : Bool) → (a && b) ≡ true → (a ≡ true) × (b ≡ true)
both_true true b h = (refl, h)
both_true false b h = absurd cc

length-front : (fs : List Field) (i : ℕ) → narrow_front fs ≡ true → i < length fs
    → length (spelled_all (take i fs)) ≤ 4 * i
unfolding narrow_front
length-front fs zero h lt = omega arith
length-front [] (suc i) h lt = absurd (omega arith)
length-front (f ∷ []) (suc i) h lt = absurd (omega arith)
length-front (f ∷ g ∷ fs) (suc i) h lt =
    let both = both_true (is_narrow f) (narrow_front (g ∷ fs)) h in
    omega (
      arith,
      ap length (flat_map-cons spelled f (take i (g ∷ fs))),
      length-append (spelled f) (spelled_all (take i (g ∷ fs))),
      length-narrow f both.0,
      length-front (g ∷ fs) i both.1 (omega arith),
    )

pub fields_before : (m : Msg) (i : ℕ) → i < length (fields m)
    → length (spelled_all (take i (fields m))) ≤ 4 * i
fields_before m i lt = length-front (fields m) i (narrow_fields m) lt
