use Rattle.std.proofs.Common.{Result, ap, sym, ◌∙◌}
use Rattle.hotkey_rules.specs.declared.trigger.Trigger.{Trigger}
use Rattle.hotkey_text.specs.declared.faults.HotkeyFault.{HotkeyFault}
use Rattle.hotkey_text.specs.Views.{line_text}
use Rattle.config_text.specs.Hotkeys.{judged_words}
use Rattle.config_text.proofs.ActionRuns.{trigger_is_spelled}
use Rattle.config_text.proofs.hotkey_judging.new_hotkey.Goals as goal

pub add_hotkey-requires-clause-trigger : goal.add_hotkey-requires-clause-trigger
add_hotkey-requires-clause-trigger c =
    trigger_is_spelled (line_text c.args.line) c.in_ok-trigger.trigger
    (ap (λ (r : Result Trigger HotkeyFault). judged_words r) (sym c.trigger.ensures)
    ∙ c.in_ok-trigger.ensures)
