-- The mask of the modifiers that were read stands for the words above: a word that names none of
-- its classes is a new modifier.
use Rattle.std.proofs.Common.{◌≡◌, ℕ, suc, ◌<◌, Bool, true, false, ◌||◌, List, [], ◌∷◌, ◌++◌}
use Rattle.std.proofs.Common.{Option, Some, None, Ok, Err, refl, ap, sym, ◌∙◌, ◌⊎◌, inl, inr, arith}
use Rattle.std.specs.Prelude.{map}
use Rattle.std.specs.Bool.{Decides, beq}
use Rattle.std.specs.Str.{bytes_eq}
use Rattle.std.specs.List.{list_all, list_any}
use Rattle.std.specs.Char.{to_ascii_lowercase}
use Rattle.std.proofs.lemmas.Bool.{agree_below_at}
use Rattle.std.proofs.lemmas.Slice.Eq.{bytes_eq-Decides}
use Rattle.std.proofs.lemmas.List.Folds.{list_any-append}
use Rattle.share_base.specs.Names.{same_name}
use Rattle.share_base.specs.declared.numbers.Mask.{Mask}
use Rattle.share_base.proofs.SameNames.{same_name_swapped}
use Rattle.modifier_map.specs.declared.class.ModClass.{ModClass}
use Rattle.modifier_map.specs.Table.{all_classes}
use Rattle.text_lines.specs.Reading.{Text}
use Rattle.hotkey_rules.proofs.FirstFound.{found_listed}
use Rattle.hotkey_text.specs.declared.faults.HotkeyKind.TheVariants as kind
use Rattle.hotkey_text.specs.Faults.{fault_at}
use Rattle.hotkey_text.specs.Chords.{mask, class_word, class_named, has_class, with_modifier}
use Rattle.hotkey_text.specs.FaultLists.{is_new_modifier}
use Rattle.hotkey_text.proofs.FreeClasses.{grown, free, grown_small, new_takes_one, none_there}
use Rattle.hotkey_text.proofs.WordsFound.{each_class}

-- ---- masks, one by one

same_bit : (a b : Bool) → beq a b ≡ true → a ≡ b
same_bit true true h = refl
same_bit true false h = absurd cc
same_bit false true h = absurd cc
same_bit false false h = refl

abbrev has_either : ModClass → ModClass → ℕ → Bool
has_either c d n =
    beq (has_class (grown (mask n) c) d)
    (has_class (mask n) d || same_name (class_word d) (class_word c))

all_either : (n : ℕ) → n < 32
    → list_all (λ c. list_all (λ d. has_either c d n) all_classes) all_classes ≡ true
unfolding same_name
all_either n h =
    agree_below_at (λ k. list_all (λ c. list_all (λ d. has_either c d k) all_classes) all_classes)
    (λ k. true) 32 n refl h

grown_has : (m : Mask) (c d : ModClass) → m.0 < 32
    → has_class (grown m c) d ≡ (has_class m d || same_name (class_word d) (class_word c))
grown_has m c d h =
    same_bit _ _
    (each_class (λ e. has_either c e m.0)
    (each_class (λ f. list_all (λ e. has_either f e m.0) all_classes) (all_either m.0 h) c) d)

-- ---- words

lower : List ℕ → List ℕ
lower word = map to_ascii_lowercase word

same-decides : (a b : List ℕ) → Decides (same_name a b) (lower a ≡ lower b)
unfolding same_name lower
same-decides a b = bytes_eq-Decides (lower a) (lower b)

-- names are told apart by their small letters alone
same_as : (a b word : List ℕ) → same_name a b ≡ true → same_name word a ≡ same_name word b
unfolding same_name lower
same_as a b word h =
    let e : lower a ≡ lower b = (same-decides a b).0 h in
    ap (λ (w : List ℕ). bytes_eq (lower word) w) e

-- the word is the name of the class
abbrev names : ModClass → Text → Bool
names c word = same_name (class_word c) word.text

-- the mask has the classes that the words name
pub record StandsFor (m : Mask) (above : List Text) : Type 0 where
  pub small : m.0 < 32
  pub classes : (c : ModClass) → has_class m c ≡ list_any (names c) above

pub stands_for_none : StandsFor (mask 0) []
stands_for_none = record { small = omega arith; classes = λ c. none_there c }

or_one : (a b : Bool) → (a || (b || false)) ≡ (a || b)
or_one true b = refl
or_one false true = refl
or_one false false = refl

stands_for_more : (m : Mask) (above : List Text) (word : Text) (c : ModClass) → StandsFor m above
    → names c word ≡ true → StandsFor (grown m c) (above ++ word ∷ [])
stands_for_more m above word c s n = record {
  small = grown_small m c s.small;
  classes =
      λ d. grown_has m c d s.small
      ∙ ap (λ b. b || same_name (class_word d) (class_word c)) (s.classes d)
      ∙ ap (λ b. list_any (names d) above || b) (same_as (class_word c) word.text (class_word d) n)
      ∙ sym (or_one (list_any (names d) above) (names d word))
      ∙ sym (list_any-append (names d) above (word ∷ []));
}

any_alike : (p q : Text → Bool) → ((v : Text) → p v ≡ q v) → (above : List Text)
    → list_any p above ≡ list_any q above
any_alike p q h [] = refl
any_alike p q h (v ∷ vs) = rw (h v, any_alike p q h vs) refl

-- where the word names a class, the words above that name it have that name
named_above : (c : ModClass) (word : Text) (above : List Text) → names c word ≡ true
    → list_any (names c) above ≡ list_any (λ (v : Text). same_name v.text word.text) above
named_above c word above n = any_alike (names c) (λ (v : Text). same_name v.text word.text)
    (λ v. same_name_swapped (class_word c) v.text ∙ same_as (class_word c) word.text v.text n) above

-- ---- the next word

pub record Refused (m : Mask) (above : List Text) (word : Text) : Type 0 where
  pub read : with_modifier m word ≡ Err (fault_at kind.BadValue word.left)
  pub judged : is_new_modifier above word ≡ false

pub record Taken (m : Mask) (above : List Text) (word : Text) : Type 0 where
  pub next : Mask
  pub read : with_modifier m word ≡ Ok next
  pub judged : is_new_modifier above word ≡ true
  pub stands : StandsFor next (above ++ word ∷ [])
  pub fewer : free m ≡ suc (free next)

class_judged : (t : Bool) (m : Mask) (above : List Text) (word : Text) (c : ModClass)
    → StandsFor m above → class_named word.text ≡ Some c → names c word ≡ true → has_class m c ≡ t
    → Refused m above word ⊎ Taken m above word
unfolding with_modifier
class_judged true m above word c s e n h =
    let there = sym (named_above c word above n) ∙ sym (s.classes c) ∙ h in
    inl (record { read = rw (e, h) refl; judged = rw (e, there) refl })
class_judged false m above word c s e n h =
    let there = sym (named_above c word above n) ∙ sym (s.classes c) ∙ h in
    inr
    (record {
      next = grown m c;
      read = rw (e, h) refl;
      judged = rw (e, there) refl;
      stands = stands_for_more m above word c s n;
      fewer = new_takes_one m c s.small h;
    })

judged_by : (o : Option ModClass) (m : Mask) (above : List Text) (word : Text) → StandsFor m above
    → class_named word.text ≡ o → Refused m above word ⊎ Taken m above word
unfolding with_modifier class_named
judged_by None m above word s e = inl (record { read = rw e refl; judged = rw e refl })
judged_by (Some c) m above word s e =
    class_judged (has_class m c) m above word c s e
    (found_listed (λ d. same_name (class_word d) word.text) all_classes c e).1 refl

pub judged : (m : Mask) (above : List Text) (word : Text) → StandsFor m above
    → Refused m above word ⊎ Taken m above word
judged m above word s = judged_by (class_named word.text) m above word s refl
