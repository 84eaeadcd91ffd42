use Rattle.std.specs.Prelude.{ℕ, List}
use Rattle.std.proofs.Common.{ap, ◌∙◌}
use Rattle.hotkey_rules.specs.declared.rule.Rule.{Rule}
use Rattle.hotkey_rules.specs.declared.trigger.Trigger.TheVariants as trigger
use Rattle.hotkey_rules.specs.Triggers.{rule_for}
use Rattle.screen_config.specs.Configurations.{Configuration}
use Rattle.pressed_inputs.specs.Inputs.{inputs_of}
use Rattle.server_core.proofs.server.ServerCore.key_rule.Goals as goal

pub returns : goal.returns
returns c = λ b s h.
    let rules = c.rules.ensures ∙ ap (λ (g : Configuration). g.hotkeys) h.config in
    c.find_key.ensures.finds ∙ (ap (λ (r : List Rule). rule_for r (trigger.Key c.args.id c.mods.result)) rules ∙ ap (λ (n : ℕ). rule_for s.config.hotkeys (trigger.Key c.args.id (record { 0 = n }))) (c.mods.ensures (inputs_of s) h.pressed))
