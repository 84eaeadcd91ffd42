-- Triggers, and the rule that one of them finds.
use Rattle.std.specs.Prelude.{◌≡◌, ◌≢◌, Bool, false, ◌==◌, ◌&&◌, List, slice_get, position, Option}
use Rattle.std.specs.Prelude.{Some}
use Rattle.std.specs.List.{AllWithin}
use Rattle.std.specs.Option.{option_map}
use Rattle.share_base.specs.declared.numbers.RuleNo.{RuleNo}
use Rattle.hotkey_rules.specs.declared.trigger.Trigger.{Trigger}
use Rattle.hotkey_rules.specs.declared.trigger.Trigger.TheVariants as trigger
use Rattle.hotkey_rules.specs.declared.rule.Rule.{Rule}

-- the same key, or the same button of the mouse, with the same modifiers
abbrev pub same_trigger : Trigger → Trigger → Bool
same_trigger (trigger.Key id mods) (trigger.Key other held) =
    (id.0 == other.0) && (mods.0 == held.0)
same_trigger (trigger.Mouse b mods) (trigger.Mouse other held) =
    (b.0 == other.0) && (mods.0 == held.0)
same_trigger _ _ = false

-- the number of the first rule that has the trigger
unfoldable pub rule_for : List Rule → Trigger → Option RuleNo
rule_for rules t =
    option_map (λ n. record { 0 = n }) (position (λ rule. same_trigger rule.trigger t) rules)

-- the rule of that number has the trigger, and none of those before it has it
pub record IsFirst (rules : List Rule) (t : Trigger) (number : RuleNo) : Type 0 where
  pub rule : Rule
  pub there : slice_get rules number.0 ≡ Some rule
  pub equal : rule.trigger ≡ t
  pub others : AllWithin (λ other. other.trigger ≢ t) rules 0 number.0
