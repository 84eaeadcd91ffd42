-- Which rule a trigger finds.
use Rattle.std.proofs.Common.{◌≡◌, ◌≢◌, ℕ, ◌<◌, ◌≤◌, Bool, true, false, not, cond, nat_lt, List, []}
use Rattle.std.proofs.Common.{length, get_or, Option, Some, None, refl, ap, ◌∙◌, arith}
use Rattle.std.specs.Prelude.{All, position}
use Rattle.std.specs.List.{position_or_len}
use Rattle.std.specs.Bool.{Decides}
use Rattle.std.specs.Option.{option_map}
use Rattle.std.proofs.lemmas.Bool.{lt-ltb, le-ltb, ltb-false, not-true, false_from_ne_true}
use Rattle.std.proofs.lemmas.Bool.Decides.{Decides-eqb, Decides-and, Decides-like, not_from_Decides}
use Rattle.std.proofs.lemmas.List.Quantifiers.{position-Some}
use Rattle.std.proofs.lemmas.List.Sums.{position_or_len_is, prefix_len_passes}
use Rattle.std.proofs.lemmas.Option.{slice_get-get_or, slice_get_within, get_or_from_slice_get}
use Rattle.share_base.specs.declared.numbers.KeyId.{KeyId}
use Rattle.share_base.specs.declared.numbers.Mask.{Mask}
use Rattle.share_base.specs.declared.numbers.MouseButton.{MouseButton}
use Rattle.share_base.specs.declared.numbers.RuleNo.{RuleNo}
use Rattle.hotkey_rules.specs.declared.trigger.Trigger.{Trigger}
use Rattle.hotkey_rules.specs.declared.trigger.Trigger.TheVariants as trigger
use Rattle.hotkey_rules.specs.declared.rule.Rule.{Rule}
use Rattle.hotkey_rules.specs.Triggers.{same_trigger, rule_for, IsFirst}

-- ---- equal triggers

abbrev key_id : ℕ → KeyId
key_id n = record { 0 = n }

abbrev mask_of : ℕ → Mask
mask_of n = record { 0 = n }

abbrev mouse_button : ℕ → MouseButton
mouse_button n = record { 0 = n }

abbrev number_of : ℕ → RuleNo
number_of n = record { 0 = n }

pub same-decides : (s t : Trigger) → Decides (same_trigger s t) (s ≡ t)
same-decides (trigger.Key id mods) (trigger.Key other held) =
    Decides-like _
    (λ e. let keys : id ≡ other = ap key_id e.0 in let masks : mods ≡ held = ap mask_of e.1 in
    cc)
    (λ e. let keys : id ≡ other = cc in let masks : mods ≡ held = cc in
    (ap (λ (k : KeyId). k.0) keys, ap (λ (m : Mask). m.0) masks))
    (Decides-and _ _ (Decides-eqb id.0 other.0) (Decides-eqb mods.0 held.0))
same-decides (trigger.Mouse b mods) (trigger.Mouse other held) =
    Decides-like _
    (λ e. let buttons : b ≡ other = ap mouse_button e.0 in
    let masks : mods ≡ held = ap mask_of e.1 in cc)
    (λ e. let buttons : b ≡ other = cc in let masks : mods ≡ held = cc in
    (ap (λ (k : MouseButton). k.0) buttons, ap (λ (m : Mask). m.0) masks))
    (Decides-and _ _ (Decides-eqb b.0 other.0) (Decides-eqb mods.0 held.0))
same-decides (trigger.Key id mods) (trigger.Mouse other held) = ((λ e. absurd cc), λ e. absurd cc)
same-decides (trigger.Mouse b mods) (trigger.Key other held) = ((λ e. absurd cc), λ e. absurd cc)

-- ---- the first that passes a test

at_place : {X : Type 0} (p : X → Bool) (xs : List X) (n : ℕ) → position_or_len p xs ≡ n
    → n < length xs → position p xs ≡ Some n
at_place p xs n e lt = rw (e, lt-ltb n (length xs) lt) refl

past_place : (place len : ℕ) (within : Bool) → nat_lt place len ≡ within
    → cond within (Some place) None ≡ None → len ≤ place
past_place place len true e none = absurd cc
past_place place len false e none = ltb-false place len e

at_no_place : {X : Type 0} (p : X → Bool) (xs : List X) → position_or_len p xs ≡ length xs
    → position p xs ≡ None
at_no_place p xs e = rw (e, le-ltb (length xs) (length xs) (omega arith)) refl

no_place : {X : Type 0} (p : X → Bool) (xs : List X) → position p xs ≡ None
    → All (λ x. p x ≡ false) xs
no_place p xs none k d lt =
    let past =
    past_place (position_or_len p xs) (length xs) (nat_lt (position_or_len p xs) (length xs))
    refl none in
    not-true (p (get_or xs k d)) (prefix_len_passes (λ x. not (p x)) xs k d (omega arith))

-- ---- rules

abbrev has : Trigger → Rule → Bool
has t rule = same_trigger rule.trigger t

abbrev some_rule : Trigger → Rule
some_rule t = record { trigger = t; press = []; release = [] }

place_of : (place : Option ℕ) (number : RuleNo) → option_map number_of place ≡ Some number
    → place ≡ Some number.0
place_of None number e = absurd cc
place_of (Some n) number e =
    let same : number_of n ≡ number = cc in ap (λ (r : RuleNo). Some r.0) same

no_number : (place : Option ℕ) → option_map number_of place ≡ None → place ≡ None
no_number None e = refl
no_number (Some n) e = absurd cc

differs : (rule : Rule) (t : Trigger) → has t rule ≡ false → rule.trigger ≢ t
differs rule t e = not_from_Decides (has t rule) (same-decides rule.trigger t) e

has_not : (rule : Rule) (t : Trigger) → rule.trigger ≢ t → has t rule ≡ false
has_not rule t differ =
    false_from_ne_true (has t rule) (λ e. differ ((same-decides rule.trigger t).0 e))

pub found : (rules : List Rule) (t : Trigger) (number : RuleNo) → rule_for rules t ≡ Some number
    → IsFirst rules t number
unfolding rule_for
found rules t number e =
    let place : position (has t) rules ≡ Some number.0 =
    place_of (position (has t) rules) number e in
    let first = position-Some (has t) rules number.0 (some_rule t) place in
    record {
      rule = get_or rules number.0 (some_rule t);
      there = slice_get-get_or rules number.0 (some_rule t) first.0;
      equal = (same-decides (get_or rules number.0 (some_rule t)).trigger t).0 first.1;
      others =
          λ k d low lt.
          differs (get_or rules k d) t ((position-Some (has t) rules number.0 d place).2 k lt);
    }

pub finds : (rules : List Rule) (t : Trigger) (number : RuleNo) → IsFirst rules t number
    → rule_for rules t ≡ Some number
unfolding rule_for
finds rules t number first =
    let lt : number.0 < length rules = slice_get_within rules number.0 first.rule first.there in
    let here : get_or rules number.0 first.rule ≡ first.rule =
    get_or_from_slice_get rules number.0 first.rule first.rule first.there in
    let place : position_or_len (has t) rules ≡ number.0 =
    position_or_len_is (has t) rules number.0 first.rule (omega arith)
    (λ k before.
    has_not (get_or rules k first.rule) t (first.others k first.rule (omega arith) before))
    (λ within. (same-decides (get_or rules number.0 first.rule).trigger t).1
    (ap (λ (r : Rule). r.trigger) here ∙ first.equal))
    in
    ap (option_map number_of) (at_place (has t) rules number.0 place lt)

pub none_has : (rules : List Rule) (t : Trigger) → rule_for rules t ≡ None
    → All (λ rule. rule.trigger ≢ t) rules
unfolding rule_for
none_has rules t e k d lt =
    differs (get_or rules k d) t
    (no_place (has t) rules (no_number (position (has t) rules) e) k d lt)

pub finds_none : (rules : List Rule) (t : Trigger) → All (λ rule. rule.trigger ≢ t) rules
    → rule_for rules t ≡ None
unfolding rule_for
finds_none rules t others =
    let place : position_or_len (has t) rules ≡ length rules =
    position_or_len_is (has t) rules (length rules) (some_rule t) (omega arith)
    (λ k before. has_not (get_or rules k (some_rule t)) t (others k (some_rule t) before))
    (λ within. absurd (omega arith)) in
    ap (option_map number_of) (at_no_place (has t) rules place)
