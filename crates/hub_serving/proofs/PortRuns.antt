-- What the counts of faults say of a run on a port.
use Rattle.std.proofs.Common.{◌≡◌, ℕ, List, [], Some, Ok, Err, refl, sym, ap, subst, ◌∙◌, arith}
use Rattle.share_base.specs.Writing.{SinkState}
use Rattle.hub_acts.specs.declared.act.Act.TheVariants as act
use Rattle.hub_acts.specs.declared.answers.CallFault.{CallFault}
use Rattle.hub_acts.specs.declared.answers.CallFault.TheVariants as fault
use Rattle.hub_acts.specs.Acts.{listen_act}
use Rattle.hub_acts.specs.Hubs.{HubState, HubCalls}
use Rattle.reached_states.specs.Reaching.{Origin}
use Rattle.engine_loop.specs.declared.serve_end.ServeEnd.{ServeEnd}
use Rattle.engine_loop.specs.declared.serve_end.ServeEnd.TheVariants as ends
use Rattle.engine_loop.specs.Serving.{IsNewHub, HubCounts, LogsTo}
use Rattle.hub_serving.specs.Serving.{end_without, RunsServer, not_begun, ran, ServesOn}
use Rattle.hub_serving.specs.Serving.{not_listening, listened, OutputCounts}

-- ---- the start

-- a hub that listens has accepted nothing
pub still_new : (port : ℕ) (old new : HubState) → HubCalls (Some (act.Listen port (Ok tt))) old new
    → IsNewHub old → IsNewHub new
still_new port old new calls is =
    record { latest = calls.latest ∙ is.latest; open_now = calls.open_now ∙ is.open_now }

-- ---- the hub

refused_counts : (cause : CallFault) (port : ℕ) (old new : HubState)
    → HubCalls (listen_act port (Err cause)) old new
    → HubCounts (end_without cause) old.faults new.faults
refused_counts fault.Failed port old new calls = calls.faults
refused_counts fault.OutOfMemory port old new calls = omega (arith, calls.faults)

same_counts : (a b : ℕ) → b ≡ a → HubCounts ends.OutOfMemory a b
same_counts a b same = omega (arith, same)

run_counts : {H : Type 0} (state : H → HubState) (leads : H → H → Type 0) (o : Origin) (turns : ℕ)
    (end : ServeEnd) (old new : H) (sink sink' : SinkState)
    → RunsServer state leads o turns end old new sink sink'
    → HubCounts end (state old).faults (state new).faults
run_counts {H = H} state leads o turns end old new sink sink' (not_begun is same kept) =
    subst (λ (e : ServeEnd). HubCounts e (state old).faults (state new).faults) (sym is)
    (same_counts (state old).faults (state new).faults (ap (λ (h : H). (state h).faults) same))
run_counts state leads o turns end old new sink sink' (ran core serves) = serves.faults

pub hub_counts : {H : Type 0} (state : H → HubState) (leads : H → H → Type 0) (o : Origin)
    (port turns : ℕ) (end : ServeEnd) (old new : H) (sink sink' : SinkState)
    → ServesOn state leads o port turns end old new sink sink'
    → HubCounts end (state old).faults (state new).faults
hub_counts state leads o port turns end old new sink sink' (not_listening cause is calls led kept) =
    subst (λ (e : ServeEnd). HubCounts e (state old).faults (state new).faults) (sym is)
    (refused_counts cause port (state old) (state new) calls)
hub_counts state leads o port turns end old new sink sink' (listened listening calls led runs) =
    subst (λ (n : ℕ). HubCounts end n (state new).faults) calls.faults
    (run_counts state leads o turns end listening new sink sink' runs)

-- ---- the output

log_counts : (end : ServeEnd) (log : List ℕ) (old new : SinkState) → LogsTo end log old new
    → OutputCounts end old.faults new.faults
log_counts ends.WriteFault log old new logs = logs.2.faults
log_counts ends.OutOfMemory log old new logs = logs.2.faults
log_counts end log old new logs = logs.faults

kept_counts : (end : ServeEnd) (cause : CallFault) (old new : SinkState) → end ≡ end_without cause
    → new ≡ old → OutputCounts end old.faults new.faults
kept_counts end fault.Failed old new is kept =
    subst (λ (e : ServeEnd). OutputCounts e old.faults new.faults) (sym is)
    (ap (λ (s : SinkState). s.faults) kept)
kept_counts end fault.OutOfMemory old new is kept =
    subst (λ (e : ServeEnd). OutputCounts e old.faults new.faults) (sym is)
    (ap (λ (s : SinkState). s.faults) kept)

run_output : {H : Type 0} (state : H → HubState) (leads : H → H → Type 0) (o : Origin) (turns : ℕ)
    (end : ServeEnd) (old new : H) (sink sink' : SinkState)
    → RunsServer state leads o turns end old new sink sink'
    → OutputCounts end sink.faults sink'.faults
run_output state leads o turns end old new sink sink' (not_begun is same kept) =
    kept_counts end fault.OutOfMemory sink sink' is kept
run_output state leads o turns end old new sink sink' (ran core serves) =
    log_counts end _ sink sink' serves.log

pub output_counts : {H : Type 0} (state : H → HubState) (leads : H → H → Type 0) (o : Origin)
    (port turns : ℕ) (end : ServeEnd) (old new : H) (sink sink' : SinkState)
    → ServesOn state leads o port turns end old new sink sink'
    → OutputCounts end sink.faults sink'.faults
output_counts state leads o port turns end old new sink sink' (not_listening cause is calls led kept) =
    kept_counts end cause sink sink' is kept
output_counts state leads o port turns end old new sink sink' (listened listening calls led runs) =
    run_output state leads o turns end listening new sink sink' runs
