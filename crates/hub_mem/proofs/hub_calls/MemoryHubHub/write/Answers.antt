use Rattle.hub_mem.proofs.PlayedCalls.{written_on}
use Rattle.std.proofs.Common.{subst, ◌≤◌}
use Rattle.std.specs.Prelude.{Contains}
use Rattle.hub_mem.specs.Answers.{Played, tally}
use Rattle.hub_mem.proofs.AddedActs.{hub-calls}
use Rattle.hub_mem.proofs.OpenSerials.{open-accepted}
use Rattle.hub_mem.proofs.hub_calls.MemoryHubHub.write.Goals as goal

pub play_write-requires-clause-there : goal.play_write-requires-clause-there
play_write-requires-clause-there c =
    subst (λ (p : Played). Contains (tally p).serials c.args.serial → c.args.serial ≤ (tally p).latest) c.self.view_is (open-accepted _ c.self.inside.ledger.acts c.args.serial c.self.invariant.joined) c.requires.is_open

pub returns-clause-calls : goal.returns-clause-calls
returns-clause-calls c = hub-calls _ _ _ c.play_write.ensures.plays.after

pub returns-clause-leads : goal.returns-clause-leads
returns-clause-leads c = written_on c.args.serial _ _ _ _ c.play_write.ensures.plays
