-- What adding a rule answers, and the lists of a rule.
use Rattle.std.specs.Prelude.{◌≡◌, ℕ, ◌<◌, List, [], ◌∷◌, ◌++◌, length, slice_get, Option, Result}
use Rattle.std.specs.Prelude.{Ok, Err}
use Rattle.std.specs.Option.{option_map}
use Rattle.share_base.specs.declared.numbers.RuleNo.{RuleNo}
use Rattle.hotkey_rules.specs.declared.action.Action.{Action}
use Rattle.hotkey_rules.specs.declared.trigger.Trigger.{Trigger}
use Rattle.hotkey_rules.specs.declared.rule.Rule.{Rule}
use Rattle.hotkey_rules.specs.declared.rules.TheConstants.{MOST_RULES}
use Rattle.hotkey_rules.specs.declared.rules.RulesFault.{RulesFault}
use Rattle.hotkey_rules.specs.declared.rules.RulesFault.TheVariants as fault

abbrev pub rule_of : Trigger → List Action → List Action → Rule
rule_of trigger press release = record { trigger = trigger; press = press; release = release }

-- the answer's cause, and the rules after it: with the new one at the end, or as they were
abbrev pub Adds : Result (Unit {0}) RulesFault → List Rule → Rule → List Rule → Type 0
Adds (Ok _) old rule new = (length old < MOST_RULES) × (new ≡ old ++ rule ∷ [])
Adds (Err fault.Full) old rule new = (length old ≡ MOST_RULES) × (new ≡ old)
Adds (Err fault.OutOfMemory) old rule new = (length old < MOST_RULES) × (new ≡ old)

-- the list of the rule of that number that is done when its trigger goes down
abbrev pub press_of : List Rule → RuleNo → Option (List Action)
press_of rules number = option_map (λ rule. rule.press) (slice_get rules number.0)

-- the one that is done when it goes up
abbrev pub release_of : List Rule → RuleNo → Option (List Action)
release_of rules number = option_map (λ rule. rule.release) (slice_get rules number.0)
