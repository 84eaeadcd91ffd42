use Rattle.std.proofs.Common.{◌≡◌, length}
use Rattle.hotkey_text.specs.Shapes.{actions_at}
use Rattle.hotkey_text.specs.Lists.{behind_of}
use Rattle.hotkey_text.proofs.shapes.behind_actions.Given as goal

abbrev pub invariant-loop-behind : goal.invariant-loop-behind
invariant-loop-behind l = behind_of (actions_at l.bytes) ≡ behind_of (actions_at l.rest)

abbrev pub decreases-loop-behind : goal.decreases-loop-behind
decreases-loop-behind l = length l.rest
