use Rattle.command_words.specs.declared.command.Command.{Command}
use Rattle.command_words.specs.Forms.{Check, Replay, Serve, Join, Generate, Names, form_of}
use Rattle.std.specs.Prelude.{◌≡◌, ℕ, List, String}
use Rattle.std.specs.Global.{Global}
use Rattle.std.proofs.Common.{subst}
use Rattle.share_commands.specs.Replaying.{ReplaysFiles, given_by}
use Rattle.share_commands.specs.OneOutput.{WritesOneOutput}
use Rattle.share_commands.specs.Headline.{SharesIfRun}
use Rattle.share_commands.specs.Serving.{ServesFiles, to_serve}
use Rattle.share_commands.specs.ServingHeadline.{SharesIfServed}
use Rattle.share_commands.specs.Joining.{JoinsFiles, to_join}
use Rattle.share_commands.specs.Generating.{GeneratesFrom}
use Rattle.share_commands.proofs.SameWords.{at_replay, at_serve, at_join, same_generate}
use Rattle.share_commands.proofs.top.run.Goals as goal

-- the words name the command that was read
named : (words : List (String Global)) (read command : Command) → read ≡ command → Names (form_of read) words → Names (form_of command) words
named words read command same h = subst (λ (x : Command). Names (form_of x) words) same h

-- ---- the words name no command

pub returns-in-None-clause-checks : goal.returns-in-None-clause-checks
returns-in-None-clause-checks g c config names = absurd (c.in-None.ensures.none (Check config) names)

pub returns-in-None-clause-reads_once : goal.returns-in-None-clause-reads_once
returns-in-None-clause-reads_once g c config names = absurd (c.in-None.ensures.none (Check config) names)

pub returns-in-None-clause-replays : goal.returns-in-None-clause-replays
returns-in-None-clause-replays g c config script trace names = absurd (c.in-None.ensures.none (Replay config script trace) names)

pub returns-in-None-clause-headline : goal.returns-in-None-clause-headline
returns-in-None-clause-headline g c config script trace names = absurd (c.in-None.ensures.none (Replay config script trace) names)

pub returns-in-None-clause-one_output : goal.returns-in-None-clause-one_output
returns-in-None-clause-one_output g c config script trace names = absurd (c.in-None.ensures.none (Replay config script trace) names)

pub returns-in-None-clause-replay_ends : goal.returns-in-None-clause-replay_ends
returns-in-None-clause-replay_ends g c config script trace names = absurd (c.in-None.ensures.none (Replay config script trace) names)

pub returns-in-None-clause-replay_overs : goal.returns-in-None-clause-replay_overs
returns-in-None-clause-replay_overs g c config script trace names = absurd (c.in-None.ensures.none (Replay config script trace) names)

pub returns-in-None-clause-serves : goal.returns-in-None-clause-serves
returns-in-None-clause-serves g c config script port turns names = absurd (c.in-None.ensures.none (Serve config script port turns) names)

pub returns-in-None-clause-serve_headline : goal.returns-in-None-clause-serve_headline
returns-in-None-clause-serve_headline g c config script port turns names = absurd (c.in-None.ensures.none (Serve config script port turns) names)

pub returns-in-None-clause-serve_overs : goal.returns-in-None-clause-serve_overs
returns-in-None-clause-serve_overs g c config script port turns names = absurd (c.in-None.ensures.none (Serve config script port turns) names)

pub returns-in-None-clause-hub_faults : goal.returns-in-None-clause-hub_faults
returns-in-None-clause-hub_faults g c config script port turns names = absurd (c.in-None.ensures.none (Serve config script port turns) names)

pub returns-in-None-clause-joins : goal.returns-in-None-clause-joins
returns-in-None-clause-joins g c name host port w h script turns names = absurd (c.in-None.ensures.none (Join name host port w h script turns) names)

pub returns-in-None-clause-join_released : goal.returns-in-None-clause-join_released
returns-in-None-clause-join_released g c name host port w h script turns names = absurd (c.in-None.ensures.none (Join name host port w h script turns) names)

pub returns-in-None-clause-join_overs : goal.returns-in-None-clause-join_overs
returns-in-None-clause-join_overs g c name host port w h script turns names = absurd (c.in-None.ensures.none (Join name host port w h script turns) names)

pub returns-in-None-clause-link_faults : goal.returns-in-None-clause-link_faults
returns-in-None-clause-link_faults g c name host port w h script turns names = absurd (c.in-None.ensures.none (Join name host port w h script turns) names)

pub returns-in-None-clause-generates : goal.returns-in-None-clause-generates
returns-in-None-clause-generates g c n names = absurd (c.in-None.ensures.none (Generate n) names)

-- ---- replay

pub returns-in-Some-Replay-clause-replays : goal.returns-in-Some-Replay-clause-replays
returns-in-Some-Replay-clause-replays g c =
    let r = c.in-Some-Replay in
    at_replay c.args.words.now (λ config script trace. ReplaysFiles _ (given_by (g.F.Files.told c.args.files.now) config script trace) _ _ _ _)
    r.config.now r.script.now r.trace.now (named c.args.words.now _ _ r.field-0-is r.ensures.named) c.run_replay.ensures.replays

pub returns-in-Some-Replay-clause-headline : goal.returns-in-Some-Replay-clause-headline
returns-in-Some-Replay-clause-headline g c =
    let r = c.in-Some-Replay in
    at_replay c.args.words.now (λ config script trace. SharesIfRun _ (given_by (g.F.Files.told c.args.files.now) config script trace) _ _)
    r.config.now r.script.now r.trace.now (named c.args.words.now _ _ r.field-0-is r.ensures.named) c.run_replay.ensures.headline

pub returns-in-Some-Replay-clause-one_output : goal.returns-in-Some-Replay-clause-one_output
returns-in-Some-Replay-clause-one_output g c =
    let r = c.in-Some-Replay in
    at_replay c.args.words.now (λ config script trace. WritesOneOutput _ (given_by (g.F.Files.told c.args.files.now) config script trace) _ _)
    r.config.now r.script.now r.trace.now (named c.args.words.now _ _ r.field-0-is r.ensures.named) c.run_replay.ensures.one_output

-- ---- serve

pub returns-in-Some-Serve-clause-serves : goal.returns-in-Some-Serve-clause-serves
returns-in-Some-Serve-clause-serves g c =
    let r = c.in-Some-Serve in
    at_serve c.args.words.now (λ config script port turns. ServesFiles _ _ _ (to_serve (g.F.Files.told c.args.files.now) config script port turns) _ _ _ _ _ _)
    r.config.now r.script.now r.port r.turns (named c.args.words.now _ _ r.field-0-is r.ensures.named) c.run_serve.ensures.serves

pub returns-in-Some-Serve-clause-serve_headline : goal.returns-in-Some-Serve-clause-serve_headline
returns-in-Some-Serve-clause-serve_headline g c =
    let r = c.in-Some-Serve in
    at_serve c.args.words.now (λ config script port turns. SharesIfServed _ _ (to_serve (g.F.Files.told c.args.files.now) config script port turns) _ _ _ _)
    r.config.now r.script.now r.port r.turns (named c.args.words.now _ _ r.field-0-is r.ensures.named) c.run_serve.ensures.headline

-- ---- join and generate

pub returns-in-Some-Join-clause-joins : goal.returns-in-Some-Join-clause-joins
returns-in-Some-Join-clause-joins g c =
    let r = c.in-Some-Join in
    at_join c.args.words.now (λ name host port w h script turns. JoinsFiles _ _ _ (to_join (g.F.Files.told c.args.files.now) name host port w h script turns) _ _ _ _ _ _)
    r.name r.host.now r.port r.w r.h r.script.now r.turns (named c.args.words.now _ _ r.field-0-is r.ensures.named) c.run_join.ensures.joins

pub returns-in-Some-Generate-clause-generates : goal.returns-in-Some-Generate-clause-generates
returns-in-Some-Generate-clause-generates g c n names =
    let r = c.in-Some-Generate in
    let same = same_generate c.args.words.now r.n n (named c.args.words.now _ _ r.field-0-is r.ensures.named) names in
    subst (λ (x : ℕ). GeneratesFrom c.run_generate.result x (g.K.Sink.state c.args.out.now) (g.K.Sink.state c.run_generate.new.out)) same c.run_generate.ensures.generates
