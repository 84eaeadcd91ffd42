-- A mask with one class more, and the classes that a mask doesn't have.
use Rattle.std.proofs.Common.{◌≡◌, ◌≢◌, ℕ, suc, ◌+◌, ◌<◌, Bool, true, false, not, ◌||◌, ◌==◌, List}
use Rattle.std.proofs.Common.{[], ◌∷◌, refl, ap, sym, ◌∙◌}
use Rattle.std.specs.Prelude.{bit_and, bit_or, nat_lt}
use Rattle.std.specs.List.{list_all}
use Rattle.std.proofs.lemmas.Nat.{or_lt, and_or_apart}
use Rattle.std.proofs.lemmas.Bool.{agree_below, agree_below_at, both_ways, eqb-true, ltb-true}
use Rattle.std.proofs.lemmas.Bool.{not-true}
use Rattle.share_base.specs.declared.numbers.Mask.{Mask}
use Rattle.modifier_map.specs.declared.class.ModClass.{ModClass}
use Rattle.modifier_map.specs.declared.class.ModClass.TheVariants as class
use Rattle.modifier_map.specs.Table.{row, all_classes}
use Rattle.hotkey_text.specs.Chords.{mask, has_class}
use Rattle.hotkey_text.specs.SpellingWords.{IsNone}
use Rattle.hotkey_text.proofs.WordsFound.{each_class}

abbrev pub grown : Mask → ModClass → Mask
grown m c = mask (bit_or m.0 (row c).bit)

-- how many of these classes the mask doesn't have
abbrev pub one_free : Bool → ℕ → ℕ
one_free true n = n
one_free false n = suc n

abbrev pub free_of : List ModClass → Mask → ℕ
free_of [] m = 0
free_of (c ∷ cs) m = one_free (has_class m c) (free_of cs m)

abbrev pub free : Mask → ℕ
free m = free_of all_classes m

-- ---- one class more, in each mask

bit_small : (c : ModClass) → (row c).bit < 32
bit_small c = ltb-true (row c).bit 32 (each_class (λ c. nat_lt (row c).bit 32) refl c)

pub grown_small : (m : Mask) (c : ModClass) → m.0 < 32 → (grown m c).0 < 32
grown_small m c h = or_lt 5 m.0 (row c).bit h (bit_small c)

abbrev adds : ModClass → ℕ → Bool
adds c m = has_class (mask m) c || (bit_or m (row c).bit == m + (row c).bit)

abbrev takes_one : ModClass → ℕ → Bool
takes_one c m = has_class (mask m) c || (free (mask m) == suc (free (grown (mask m) c)))

abbrev is_kept : ModClass → ℕ → Bool
is_kept c m = has_class (grown (mask m) c) c

-- what a table of all classes and masks passes
each_pair : (p : ModClass → ℕ → Bool)
    → agree_below (λ m. list_all (λ c. p c m) all_classes) (λ m. true) 32 ≡ true
    → (c : ModClass) (m : ℕ) → m < 32 → p c m ≡ true
each_pair p table c m h =
    each_class (λ c. p c m)
    (agree_below_at (λ m. list_all (λ c. p c m) all_classes) (λ m. true) 32 m table h) c

-- of two tests the second passes, where the first doesn't
second : (t u : Bool) → t ≡ false → (t || u) ≡ true → u ≡ true
second true u e h = absurd cc
second false u e h = h

-- a new class adds its bit, and leaves one free class less
pub new_adds : (m : Mask) (c : ModClass) → m.0 < 32 → has_class m c ≡ false
    → (grown m c).0 ≡ m.0 + (row c).bit
new_adds m c h new = eqb-true _ _ (second (has_class m c) _ new (each_pair adds refl c m.0 h))

pub new_takes_one : (m : Mask) (c : ModClass) → m.0 < 32 → has_class m c ≡ false
    → free m ≡ suc (free (grown m c))
new_takes_one m c h new =
    eqb-true _ _ (second (has_class m c) _ new (each_pair takes_one refl c m.0 h))

pub new_there : (m : Mask) (c : ModClass) → m.0 < 32 → has_class (grown m c) c ≡ true
new_there m c h = each_pair is_kept refl c m.0 h

-- the bits of two classes have nothing in common
bits_apart : (c d : ModClass) → c ≢ d → bit_and (row c).bit (row d).bit ≡ 0
bits_apart class.Shift class.Shift h = absurd (h refl)
bits_apart class.Shift d h = refl
bits_apart class.Control class.Control h = absurd (h refl)
bits_apart class.Control d h = refl
bits_apart class.Alt class.Alt h = absurd (h refl)
bits_apart class.Alt d h = refl
bits_apart class.Meta class.Meta h = absurd (h refl)
bits_apart class.Meta d h = refl
bits_apart class.Super class.Super h = absurd (h refl)
bits_apart class.Super d h = refl

pub others_stay : (m : Mask) (c d : ModClass) → c ≢ d → has_class (grown m c) d ≡ has_class m d
others_stay m c d h =
    ap (λ (b : ℕ). not (b == 0)) (and_or_apart (row d).bit m.0 (row c).bit (bits_apart c d h))

-- ---- classes that a mask doesn't have

abbrev pub AreNew : Mask → List ModClass → Type 0
AreNew m [] = Unit {0}
AreNew m (c ∷ cs) = (has_class m c ≡ false) × AreNew m cs

pub new_before : (m : Mask) (c : ModClass) (cs : List ModClass) → m.0 < 32 → AreNew (grown m c) cs
    → IsNone c cs × AreNew m cs
new_before m c [] h new = (tt, tt)
new_before m c (d ∷ cs) h new =
    let others = new_before m c cs h new.1 in
    let apart : c ≢ d =
    λ e.
    both_ways _ new.0
    (ap (λ (x : ModClass). has_class (grown m c) x) (sym e) ∙ new_there m c h) in
    ((apart, others.0), (sym (others_stay m c d apart) ∙ new.0, others.1))

pub new_behind : (m : Mask) (c : ModClass) (cs : List ModClass) → IsNone c cs → AreNew m cs
    → AreNew (grown m c) cs
new_behind m c [] apart new = tt
new_behind m c (d ∷ cs) apart new =
    (others_stay m c d apart.0 ∙ new.0, new_behind m c cs apart.1 new.1)

-- each class is new where there is none
pub none_there : (c : ModClass) → has_class (mask 0) c ≡ false
none_there c = not-true _ (each_class (λ c. not (has_class (mask 0) c)) refl c)

pub all_new : (cs : List ModClass) → AreNew (mask 0) cs
all_new [] = tt
all_new (c ∷ cs) = (none_there c, all_new cs)
