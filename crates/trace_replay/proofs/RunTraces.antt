-- A run of the loop over the hub of a trace is a run of the server over that trace.
use Rattle.std.specs.Prelude.{◌≡◌, ℕ, List, [], ◌++◌, Option, Some}
use Rattle.std.proofs.Common.{refl, sym, subst, ◌∙◌}
use Rattle.share_base.specs.Writing.{SinkState}
use Rattle.share_base.proofs.ToldLists.{after-nil}
use Rattle.screen_config.specs.Configurations.{Configuration}
use Rattle.script_screen.specs.Scripts.{ScriptText}
use Rattle.script_screen.specs.declared.trace.TraceLine.{TraceLine}
use Rattle.hub_acts.specs.declared.act.Act.{Act}
use Rattle.hub_mem.specs.Answers.{Played, hub_state}
use Rattle.hub_mem.specs.Playing.{PlaysOn, AreGiven}
use Rattle.machine.specs.States.{State}
use Rattle.attentive_acts.specs.Judging.{leaving}
use Rattle.server_core.specs.declared.server.ServerCore.{ServerCore}
use Rattle.engine_loop.specs.declared.serve_end.ServeEnd.{ServeEnd}
use Rattle.engine_loop.specs.declared.serve_end.ServeEnd.TheVariants as ends
use Rattle.engine_loop.specs.Ends.{EndsBy}
use Rattle.engine_loop.specs.Stages.{known_with}
use Rattle.engine_loop.specs.Serving.{Serves, IsIn}
use Rattle.server_core.specs.LastReadings.{ReadsAtEnd}
use Rattle.server_core.specs.Driving.{departs_in}
use Rattle.trace_replay.specs.Replaying.{Replayed, origin_of, first_of, played, turns_of}
use Rattle.trace_replay.specs.Switches.{ReplayedWith, AreSwitches}

known_are : (xs ys : List Act) → (let o : Option (List Act) = Some xs in o) ≡ Some ys → xs ≡ ys
known_are xs ys e = cc

-- before any act memory ran out
pub not_begun : (config : Configuration) (script : ScriptText) (trace : List TraceLine) (old : SinkState) → Replayed config script trace ends.OutOfMemory old old
not_begun config script trace old = record {
  run = [];
  leaves = [];
  judge = first_of config script;
  last = leaving (first_of config script);
  given = tt;
  attentive = tt;
  judges = refl;
  leave = tt;
  left = refl;
  whole = tt;
  cause = tt;
  log = ([], refl, record { taken = sym (after-nil old.taken); faults = refl });
}

-- the loop ran over the hub of the trace
pub replayed : {E : Type 0} (departs : E → List ℕ → State → Type 0) (config : Configuration) (script : ScriptText) (trace : List TraceLine) (turns : ℕ) (end : ServeEnd) (core : E) (hub hub' : Played) (old new : SinkState)
    → hub ≡ played trace → turns ≡ turns_of trace → Serves departs hub_state PlaysOn (origin_of config script) turns end core hub hub' old new → Replayed config script trace end old new
replayed departs config script trace turns end core hub hub' old new is all s =
    let led : PlaysOn (played trace) hub' = subst (λ (p : Played). PlaysOn p hub') is s.led in
    let known : hub'.acts ≡ s.run ++ s.leaves = known_are hub'.acts (s.run ++ s.leaves) (subst (λ (p : Played). (hub_state hub').acts ≡ known_with (s.run ++ s.leaves) (hub_state p).acts) is s.known) in
    record {
      run = s.run;
      leaves = s.leaves;
      judge = s.judge;
      last = s.last;
      given = subst (λ (xs : List Act). AreGiven (played trace) xs) (sym led.acts ∙ known) led.given;
      attentive = s.attentive;
      judges = s.judges;
      leave = s.leave;
      left = s.left;
      whole = s.whole;
      cause = subst (λ (n : ℕ). EndsBy end n s.run s.judge) all s.cause;
      log = s.log;
    }

pub not_begun_with : (config : Configuration) (script : ScriptText) (trace : List TraceLine) (old : SinkState) → ReplayedWith config script trace ends.OutOfMemory 0 old old
not_begun_with config script trace old = record { run = not_begun config script trace old; are_switches = tt }

are_switches : (end : ServeEnd) (core : ServerCore) (switches : ℕ) (s : State) → ReadsAtEnd core switches (λ t. t.sequence) → IsIn departs_in end core s → AreSwitches end switches s
are_switches ends.OutOfMemory core switches s reads h = tt
are_switches end core switches s reads h = reads h.1.beside s h.1.leaves

-- and the core tells the switches
pub replayed_with : (config : Configuration) (script : ScriptText) (trace : List TraceLine) (turns : ℕ) (end : ServeEnd) (switches : ℕ) (core : ServerCore) (hub hub' : Played) (old new : SinkState)
    → hub ≡ played trace → turns ≡ turns_of trace → ReadsAtEnd core switches (λ s. s.sequence) → Serves departs_in hub_state PlaysOn (origin_of config script) turns end core hub hub' old new
    → ReplayedWith config script trace end switches old new
unfolding replayed
replayed_with config script trace turns end switches core hub hub' old new is all reads s = record {
  run = replayed departs_in config script trace turns end core hub hub' old new is all s;
  are_switches = are_switches end core switches s.last.state reads s.engine;
}
