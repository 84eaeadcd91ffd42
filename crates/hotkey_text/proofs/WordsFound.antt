-- The words of the tables are found again, so what each row passes holds of each word.
use Rattle.std.proofs.Common.{◌≡◌, Bool, true, List, [], ◌∷◌, Some, refl, ap, ◌∙◌}
use Rattle.std.specs.Prelude.{Contains}
use Rattle.std.specs.List.{find, list_all}
use Rattle.std.specs.Str.{bytes_eq}
use Rattle.std.proofs.lemmas.Option.{slice_get-get_or}
use Rattle.share_base.specs.Sides.{side_text, sides}
use Rattle.share_base.specs.Names.{same_name}
use Rattle.share_base.specs.declared.shape.Side.{Side}
use Rattle.share_base.proofs.ListTests.{all_at}
use Rattle.share_base.proofs.SideWords.{side_found}
use Rattle.modifier_map.specs.declared.class.ModClass.{ModClass}
use Rattle.modifier_map.specs.declared.class.ModClass.TheVariants as class
use Rattle.modifier_map.specs.Table.{all_classes}
use Rattle.hotkey_rules.specs.declared.action.LockMode.{LockMode}
use Rattle.hotkey_rules.specs.declared.action.LockMode.TheVariants as lock
use Rattle.hotkey_rules.proofs.FirstFound.{found_listed}
use Rattle.hotkey_text.specs.declared.names.TriggerKind.{TriggerKind}
use Rattle.hotkey_text.specs.declared.names.TriggerKind.TheVariants as trigger
use Rattle.hotkey_text.specs.declared.names.Deed.TheVariants as deed
use Rattle.hotkey_text.specs.declared.names.ActionName.{ActionName}
use Rattle.hotkey_text.specs.declared.names.ActionName.TheVariants as name
use Rattle.hotkey_text.specs.Names.{action_word, action_names, action_named, trigger_word}
use Rattle.hotkey_text.specs.Names.{trigger_named}
use Rattle.hotkey_text.specs.LockModes.{lock_word, lock_named}
use Rattle.hotkey_text.specs.Chords.{class_word, class_named}

pub action_found : (n : ActionName) → action_named (action_word n) ≡ Some n
action_found (name.Key deed.Stroke) = refl
action_found (name.Key deed.Press) = refl
action_found (name.Key deed.Release) = refl
action_found (name.Mouse deed.Stroke) = refl
action_found (name.Mouse deed.Press) = refl
action_found (name.Mouse deed.Release) = refl
action_found name.Lock = refl
action_found name.SwitchTo = refl
action_found name.SwitchToward = refl

pub lock_found : (m : LockMode) → lock_named (lock_word m) ≡ Some m
lock_found lock.On = refl
lock_found lock.Off = refl
lock_found lock.Toggle = refl

pub trigger_found : (k : TriggerKind) → trigger_named (trigger_word k) ≡ Some k
trigger_found trigger.Key = refl
trigger_found trigger.Mouse = refl

pub class_found : (c : ModClass) → class_named (class_word c) ≡ Some c
unfolding class_named same_name
class_found class.Shift = refl
class_found class.Control = refl
class_found class.Alt = refl
class_found class.Meta = refl
class_found class.Super = refl

-- ---- the rows of a table

pub listed_passes : {A : Type 0} (p : A → Bool) (xs : List A) (x : A) → list_all p xs ≡ true
    → Contains xs x → p x ≡ true
listed_passes p xs x all listed =
    all_at p xs listed.0 x all (slice_get-get_or xs listed.0 x listed.1 ∙ ap (λ y. Some y) listed.2)

found_passes : {A : Type 0} (p q : A → Bool) (xs : List A) (x : A) → find q xs ≡ Some x
    → list_all p xs ≡ true → p x ≡ true
found_passes p q xs x e all = listed_passes p xs x all (found_listed q xs x e).0

pub each_name : (p : ActionName → Bool) → list_all p action_names ≡ true → (n : ActionName)
    → p n ≡ true
each_name p h n =
    found_passes p (λ x. bytes_eq (action_word x) (action_word n)) action_names n (action_found n) h

pub each_mode : (p : LockMode → Bool) → list_all p (lock.On ∷ lock.Off ∷ lock.Toggle ∷ []) ≡ true
    → (m : LockMode) → p m ≡ true
each_mode p h m =
    found_passes p (λ x. bytes_eq (lock_word x) (lock_word m))
    (lock.On ∷ lock.Off ∷ lock.Toggle ∷ []) m (lock_found m) h

pub each_side : (p : Side → Bool) → list_all p sides ≡ true → (s : Side) → p s ≡ true
each_side p h s =
    found_passes p (λ x. bytes_eq (side_text x) (side_text s)) sides s (side_found s) h

pub each_class : (p : ModClass → Bool) → list_all p all_classes ≡ true → (c : ModClass) → p c ≡ true
unfolding class_named
each_class p h c =
    found_passes p (λ x. same_name (class_word x) (class_word c)) all_classes c (class_found c) h
