use Rattle.std.proofs.Common.{◌≡◌, length}
use Rattle.hotkey_text.specs.Views.{list_text}
use Rattle.config_text.specs.Hotkeys.{actions_of}
use Rattle.config_text.proofs.ActionRuns.{before}
use Rattle.config_text.proofs.hotkey_judging.actions_of.Given as goal

abbrev pub invariant-loop-form : goal.invariant-loop-form
invariant-loop-form l =
    actions_of l.config (list_text l.fn.list)
    ≡ before l.actions.items (actions_of l.config (list_text l.rest))

abbrev pub decreases-loop-form : goal.decreases-loop-form
decreases-loop-form l = length (list_text l.rest)
