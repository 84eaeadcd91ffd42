-- A modifier that a mask takes is one of a new class.
use Rattle.std.proofs.Common.{◌≡◌, ℕ, zero, suc, ◌<◌, false, List, Option, Some, None, Result, Ok}
use Rattle.std.proofs.Common.{Err, refl, ap, subst, ◌∙◌, arith}
use Rattle.std.proofs.lemmas.Bool.{cond_both}
use Rattle.share_base.specs.declared.numbers.Mask.{Mask}
use Rattle.modifier_map.specs.declared.class.ModClass.{ModClass}
use Rattle.text_lines.specs.Reading.{Text}
use Rattle.hotkey_text.specs.declared.faults.HotkeyFault.{HotkeyFault}
use Rattle.hotkey_text.specs.Chords.{class_named, has_class, with_class, with_modifier}
use Rattle.hotkey_text.proofs.WordSteps.{there}
use Rattle.hotkey_text.proofs.FreeClasses.{grown, free, grown_small, new_takes_one}

-- the class of a word's name, which the mask doesn't have
pub record NewClass (m : Mask) (word : List ℕ) (next : Mask) : Type 0 where
  pub class : ModClass
  pub named : class_named word ≡ Some class
  pub new : has_class m class ≡ false
  pub with_it : grown m class ≡ next

class_of : (m : Mask) (word : List ℕ) (o : Option ModClass) (next : Mask) → class_named word ≡ o
    → with_class m o ≡ Some next → NewClass m word next
class_of m word None next e = λ h. absurd cc
class_of m word (Some c) next e =
    cond_both (has_class m c) None (Some (grown m c)) (λ r. r ≡ Some next → NewClass m word next)
    (λ t h. absurd cc) (λ t h. record { class = c; named = e; new = t; with_it = cc })

pub new_class : (m : Mask) (word : Text) (next : Mask) → with_modifier m word ≡ Ok next
    → NewClass m word.text next
unfolding with_modifier
new_class m word next h =
    class_of m word.text (class_named word.text) next refl (there _ _ _ next h)

-- one modifier more leaves one free class less
pub next_fewer : (m : Mask) (word : Text) (next : Mask) → m.0 < 32 → with_modifier m word ≡ Ok next
    → (next.0 < 32) × (free m ≡ suc (free next))
next_fewer m word next h e =
    let c = new_class m word next e in
    let small : next.0 < 32 = subst (λ (k : Mask). k.0 < 32) c.with_it (grown_small m c.class h) in
    (small, new_takes_one m c.class h c.new ∙ ap (λ (k : Mask). suc (free k)) c.with_it)
