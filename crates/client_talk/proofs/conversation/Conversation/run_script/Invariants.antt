use Rattle.std.proofs.Common.{◌≡◌, length}
use Rattle.client_talk.specs.Scripts.{run_script}
use Rattle.client_talk.proofs.conversation.Conversation.run_script.Given as goal

-- the lines that ran were to run
abbrev pub invariant-loop : goal.invariant-loop
invariant-loop l = run_script l.self ≡ run_script l.fn.self

abbrev pub decreases-loop : goal.decreases-loop
decreases-loop l = length l.self.lines
