-- From the end of the turns to the closings, and to the end of the run.
use Rattle.std.specs.Prelude.{◌≡◌, refl, ℕ, ◌≤◌, Bool, true, false, List, [], ◌++◌, Option, Some, None, Ok, Err}
use Rattle.std.proofs.Common.{arith, ap, sym, subst, ◌∙◌, append_assoc}
use Rattle.std.proofs.lemmas.List.{append-nil}
use Rattle.share_base.specs.Writing.{SinkState}
use Rattle.share_base.proofs.ToldLists.{after-nil}
use Rattle.hub_acts.specs.declared.act.Act.{Act}
use Rattle.hub_acts.specs.Counting.{Counts}
use Rattle.hub_acts.specs.Hubs.{HubState}
use Rattle.machine.specs.States.{State}
use Rattle.machine.specs.Logs.{log_text}
use Rattle.reached_states.specs.OpenSerials.{Rise}
use Rattle.reached_states.specs.Reaching.{Origin, start_of}
use Rattle.reached_states.proofs.Rising.{serials-rise}
use Rattle.attentive_acts.specs.Places.{Leaves}
use Rattle.attentive_acts.specs.Judging.{Judge, first_judge, leaving}
use Rattle.engine_loop.specs.declared.serve_end.ServeEnd.{ServeEnd}
use Rattle.engine_loop.specs.declared.serve_end.ServeEnd.TheVariants as ends
use Rattle.engine_loop.specs.declared.watch.Watch.{Watch}
use Rattle.engine_loop.specs.Watches.{serials_in}
use Rattle.engine_loop.specs.Stages.{Course, GoesWell, Stage, Made, waits_in, known_with}
use Rattle.engine_loop.specs.Turns.{Wrote, LogsOn, with_front}
use Rattle.engine_loop.specs.Ends.{Departing, LeftSoFar, EndsBy, AfterTurns, GoesOn, is_failure}
use Rattle.engine_loop.specs.Serving.{Serves, HubCounts, LogsTo, IsWhole, IsIn}
use Rattle.engine_loop.proofs.TurnSteps.{wrote_more, failed_more}

known-nil : (known : Option (List Act)) → known ≡ known_with [] known
known-nil None = refl
known-nil (Some acts) = ap (λ (xs : List Act). Some xs) (sym (append-nil acts))

known-both : (xs ys : List Act) (known : Option (List Act)) → known_with ys (known_with xs known) ≡ known_with (xs ++ ys) known
known-both xs ys None = refl
known-both xs ys (Some acts) = ap (λ (zs : List Act). Some zs) (append_assoc acts xs ys)

counted : (failed : Bool) (old new : ℕ) → Counts failed old new → old ≤ new
counted true old new h = h.0
counted false old new h = omega (arith, h)

-- no act was made
pub made-none : (first : Judge) (hub : HubState) → Made first hub hub [] first
made-none first hub = record { follows = tt; judges = refl; answered = refl; known = known-nil hub.acts }

-- ---- where the closings begin

pub goes-on : (end : ServeEnd) (holds : Type 0) → is_failure end ≡ false → GoesOn end holds → holds
goes-on ends.Quit holds goes h = h
goes-on ends.Over holds goes h = h
goes-on ends.HubFault holds goes h = h
goes-on ends.TurnsSpent holds goes h = h
goes-on ends.WriteFault holds goes h = absurd (let x : ⊥ = cc in x)
goes-on ends.OutOfMemory holds goes h = absurd (let x : ⊥ = cc in x)

pub record IsToLeave {E H : Type 0} (departs : E → List ℕ → State → Type 0) (state : H → HubState) (leads : H → H → Type 0) (r : Course H) (end : ServeEnd) (turns : ℕ) (core : E) (hub : H) (open_now : List ℕ) (old new : SinkState) : Type 0 where
  pub front : List ℕ
  pub waits : ℕ
  pub failed : Bool
  pub departing : Departing departs state leads (record r { front = front; waits = waits; failed = failed }) end turns core hub open_now
  pub wrote : Wrote old new front
  pub counts : (a b : ℕ) → Counts failed a b → HubCounts end a b

abbrev pub Departs : {E : Type 0} → (E → List ℕ → State → Type 0) → (E → List ℕ → State → Type 0) → Type 0
Departs {E = E} serves departs = (engine : E) (front : List ℕ) (s : State) → serves engine front s → departs engine front s

leave_from : {E H : Type 0} (serves departs : E → List ℕ → State → Type 0) (departing : Departs serves departs) (state : H → HubState) (leads : H → H → Type 0) (r : Course H) (ready : Bool) (end : ServeEnd) (turns : ℕ) (core : E) (hub : H) (watch : Watch) (P : List Act → Judge → Type 0)
    → (st : Stage serves state leads (record r { ready = ready }) core hub watch P) → waits_in st.acts ≤ turns → EndsBy end turns st.acts st.judge
    → Departing departs state leads r end turns core hub (serials_in watch)
leave_from serves departs departing state leads r ready end turns core hub watch P st few cause = record {
  so_far = record {
    run = st.acts;
    judge = st.judge;
    leaves = [];
    last = leaving st.judge;
    between = state hub;
    made = st.made;
    left = made-none (leaving st.judge) (state hub);
    waits = few;
    faults = st.faults;
    led = st.led;
    wrote = st.wrote;
  };
  open_now = sym st.watched;
  reached = st.reached;
  departed = departing core r.front st.judge.state st.served;
  place = ap (λ (ns : List ℕ). Leaves ns) (sym st.watched);
  cause = cause;
}

few_waits : (acts : List Act) (n turns : ℕ) → waits_in acts ≡ n → n ≤ turns → waits_in acts ≤ turns
few_waits acts n turns e le = omega (arith, e, le)

module _ {E H : Type 0} (serves departs : E → List ℕ → State → Type 0) (departing : Departs serves departs) (state : H → HubState) (leads : H → H → Type 0) (r : Course H) (turns : ℕ) (core : E) (hub : H) (watch : Watch) (old new : SinkState) (calm : GoesWell r) where
  abbrev ToLeave : ServeEnd → Type 0
  ToLeave end = IsToLeave departs state leads r end turns core hub (serials_in watch) old new

  stayed-counts : (a b : ℕ) → Counts r.failed a b → b ≡ a
  stayed-counts a b h = subst (λ (x : Bool). Counts x a b) calm.0 h

  pub to-leave : (end : ServeEnd) → is_failure end ≡ false → AfterTurns serves state leads r turns end core hub watch old new → ToLeave end
  to-leave ends.Quit goes h =
      let l = h.2 in
      record {
        front = l.front;
        waits = h.0;
        failed = r.failed;
        departing = leave_from serves departs departing state leads (with_front l.front (record r { waits = h.0 })) r.ready ends.Quit turns core hub watch _ l.stage (few_waits l.stage.acts h.0 turns l.stage.waits h.1) (l.stage.there.0, l.stage.there.1, l.stage.ready ∙ calm.1);
        wrote = l.wrote;
        counts = stayed-counts;
      }
  to-leave ends.Over goes h =
      let l = h.2 in
      record {
        front = l.front;
        waits = h.0;
        failed = r.failed;
        departing = leave_from serves departs departing state leads (with_front l.front (record r { waits = h.0 })) false ends.Over turns core hub watch _ l.stage (few_waits l.stage.acts h.0 turns l.stage.waits h.1) l.stage.there.0;
        wrote = l.wrote;
        counts = stayed-counts;
      }
  to-leave ends.HubFault goes h =
      let l = h.2 in
      record {
        front = l.front;
        waits = h.0;
        failed = true;
        departing = leave_from serves departs departing state leads (with_front l.front (record r { waits = h.0; failed = true })) false ends.HubFault turns core hub watch _ l.stage (few_waits l.stage.acts h.0 turns l.stage.waits h.1) l.stage.there.0;
        wrote = l.wrote;
        counts = λ a b k. k;
      }
  to-leave ends.TurnsSpent goes l = record {
    front = l.front;
    waits = turns;
    failed = r.failed;
    departing = leave_from serves departs departing state leads (with_front l.front (record r { waits = turns })) r.ready ends.TurnsSpent turns core hub watch _ l.stage (few_waits l.stage.acts turns turns l.stage.waits (omega arith)) (l.stage.waits, l.stage.there.0);
    wrote = l.wrote;
    counts = stayed-counts;
  }
  to-leave ends.WriteFault goes h = absurd (let x : ⊥ = cc in x)
  to-leave ends.OutOfMemory goes h = absurd (let x : ⊥ = cc in x)

  pub open-rise : (end : ServeEnd) → ToLeave end → Rise 0 (serials_in watch)
  open-rise end q = let d = q.departing in subst (Rise 0) d.open_now (serials-rise r.origin d.so_far.last.latest d.so_far.last.state d.reached).rise

-- ---- the end of a run

serves_by : {E H : Type 0} (departs : E → List ℕ → State → Type 0) (state : H → HubState) (leads : H → H → Type 0) (o : Origin) (turns : ℕ) (end : ServeEnd) (core : E) (old new : H) (sink sink' : SinkState) (run leaves : List Act) (judge last : Judge) (between : HubState)
    → Made (first_judge (start_of o)) (state old) between run judge → Made (leaving judge) between (state new) leaves last → waits_in run ≤ turns → leads old new
    → IsWhole end last → EndsBy end turns run judge → IsIn departs end core last.state → LogsTo end (log_text last.state) sink sink' → HubCounts end (state old).faults (state new).faults
    → Serves departs state leads o turns end core old new sink sink'
serves_by departs state leads o turns end core old new sink sink' run leaves judge last between made left few led whole cause engine log faults = record {
  run = run;
  leaves = leaves;
  judge = judge;
  last = last;
  known = left.known ∙ ap (known_with leaves) made.known ∙ known-both run leaves (state old).acts;
  attentive = made.follows;
  judges = made.judges;
  answered = made.answered;
  leave = left.follows;
  left = left.judges;
  whole = whole;
  few = few;
  cause = cause;
  engine = engine;
  log = log;
  faults = faults;
  led = led;
}

is_whole : (end : ServeEnd) (last : Judge) → last.place ≡ Leaves [] → IsWhole end last
is_whole ends.WriteFault last h = tt
is_whole ends.OutOfMemory last h = tt
is_whole ends.Quit last h = h
is_whole ends.Over last h = h
is_whole ends.HubFault last h = h
is_whole ends.TurnsSpent last h = h

is_in : {E : Type 0} (departs : E → List ℕ → State → Type 0) (end : ServeEnd) (core : E) (s : State) (front : List ℕ) → departs core front s → IsIn departs end core s
is_in departs ends.OutOfMemory core s front h = tt
is_in departs ends.WriteFault core s front h = (front, h)
is_in departs ends.Quit core s front h = (front, h)
is_in departs ends.Over core s front h = (front, h)
is_in departs ends.HubFault core s front h = (front, h)
is_in departs ends.TurnsSpent core s front h = (front, h)

logs_to : (end : ServeEnd) (log : List ℕ) (old new : SinkState) → is_failure end ≡ false → Wrote old new log → LogsTo end log old new
logs_to ends.Quit log old new goes h = h
logs_to ends.Over log old new goes h = h
logs_to ends.HubFault log old new goes h = h
logs_to ends.TurnsSpent log old new goes h = h
logs_to ends.WriteFault log old new goes h = absurd (let x : ⊥ = cc in x)
logs_to ends.OutOfMemory log old new goes h = absurd (let x : ⊥ = cc in x)

-- the closings were made, and the rest of the log written
module _ {E H : Type 0} (departs : E → List ℕ → State → Type 0) (state : H → HubState) (leads : H → H → Type 0) (r : Course H) (end : ServeEnd) (turns : ℕ) (core core1 core2 : E) (hub hub1 : H) (open_now : List ℕ) (old mid new : SinkState) (goes : is_failure end ≡ false) (q : IsToLeave departs state leads r end turns core hub open_now old mid) where
  abbrev then_of : Course H
  then_of = record r { front = q.front; waits = q.waits; failed = q.failed }

  pub all-left : Departing departs state leads then_of end turns core1 hub1 [] → LogsOn departs (Ok tt) core1 core2 mid new → Serves departs state leads r.origin turns end core2 r.hub hub1 old new
  all-left d logs =
      let a = logs r.origin d.so_far.last.latest q.front d.so_far.last.state d.reached d.departed in
      serves_by departs state leads r.origin turns end core2 r.hub hub1 old new d.so_far.run d.so_far.leaves d.so_far.judge d.so_far.last d.so_far.between d.so_far.made d.so_far.left d.so_far.waits d.so_far.led
      (is_whole end d.so_far.last d.place) d.cause (is_in departs end core2 d.so_far.last.state (log_text d.so_far.last.state) a.3)
      (logs_to end (log_text d.so_far.last.state) old new goes (subst (Wrote old new) a.1 (wrote_more old mid new q.front a.0 q.wrote a.2)))
      (q.counts (state r.hub).faults (state hub1).faults d.so_far.faults)

  pub log-broke : (fault : ServeEnd) → Departing departs state leads then_of end turns core1 hub1 [] → LogsOn departs (Err fault) core1 core2 mid new → Serves departs state leads r.origin turns fault core2 r.hub hub1 old new
  log-broke ends.WriteFault d logs =
      let a = logs r.origin d.so_far.last.latest q.front d.so_far.last.state d.reached d.departed in
      serves_by departs state leads r.origin turns ends.WriteFault core2 r.hub hub1 old new d.so_far.run d.so_far.leaves d.so_far.judge d.so_far.last d.so_far.between d.so_far.made d.so_far.left d.so_far.waits d.so_far.led
      tt tt (q.front, a.3) (q.front ++ a.0, a.1, failed_more old mid new q.front a.0 q.wrote a.2)
      (counted q.failed (state r.hub).faults (state hub1).faults d.so_far.faults)
  log-broke ends.Quit d logs = absurd (logs r.origin d.so_far.last.latest q.front d.so_far.last.state d.reached d.departed)
  log-broke ends.Over d logs = absurd (logs r.origin d.so_far.last.latest q.front d.so_far.last.state d.reached d.departed)
  log-broke ends.HubFault d logs = absurd (logs r.origin d.so_far.last.latest q.front d.so_far.last.state d.reached d.departed)
  log-broke ends.TurnsSpent d logs = absurd (logs r.origin d.so_far.last.latest q.front d.so_far.last.state d.reached d.departed)
  log-broke ends.OutOfMemory d logs = absurd (logs r.origin d.so_far.last.latest q.front d.so_far.last.state d.reached d.departed)

  pub left-short : LeftSoFar state leads then_of turns hub1 → Serves departs state leads r.origin turns ends.OutOfMemory core1 r.hub hub1 old mid
  left-short d =
      serves_by departs state leads r.origin turns ends.OutOfMemory core1 r.hub hub1 old mid d.run d.leaves d.judge d.last d.between d.made d.left d.waits d.led
      tt tt tt (q.front, d.wrote, q.wrote) (counted q.failed (state r.hub).faults (state hub1).faults d.faults)

-- the turns failed
pub turns-failed : {E H : Type 0} (serves departs : E → List ℕ → State → Type 0) (departing : Departs serves departs) (state : H → HubState) (leads : H → H → Type 0) (r : Course H) (end : ServeEnd) (turns : ℕ) (core : E) (hub : H) (watch : Watch) (old new : SinkState)
    → is_failure end ≡ true → AfterTurns serves state leads r turns end core hub watch old new → Serves departs state leads r.origin turns end core r.hub hub old new
turns-failed serves departs departing state leads r ends.WriteFault turns core hub watch old new fails h =
    let l = h.2 in
    let st = l.stage in
    serves_by departs state leads r.origin turns ends.WriteFault core r.hub hub old new st.acts [] st.judge (leaving st.judge) (state hub) st.made (made-none (leaving st.judge) (state hub)) (few_waits st.acts h.0 turns st.waits h.1) st.led
    tt tt (l.front, departing core l.front st.judge.state st.served) (l.text, l.begins, l.failed) (counted r.failed (state r.hub).faults (state hub).faults st.faults)
turns-failed serves departs departing state leads r ends.OutOfMemory turns core hub watch old new fails h =
    let l = h.2 in
    let cut = l.cut in
    let few : waits_in cut.acts ≤ turns = let a = cut.waits in let b = h.1 in omega (arith, a, b) in
    serves_by departs state leads r.origin turns ends.OutOfMemory core r.hub hub old new cut.acts [] cut.judge (leaving cut.judge) (state hub) cut.made (made-none (leaving cut.judge) (state hub)) few cut.led
    tt tt tt (l.front, cut.wrote, l.wrote) (counted r.failed (state r.hub).faults (state hub).faults cut.faults)
turns-failed serves departs departing state leads r ends.Quit turns core hub watch old new fails h = absurd (let x : ⊥ = cc in x)
turns-failed serves departs departing state leads r ends.Over turns core hub watch old new fails h = absurd (let x : ⊥ = cc in x)
turns-failed serves departs departing state leads r ends.HubFault turns core hub watch old new fails h = absurd (let x : ⊥ = cc in x)
turns-failed serves departs departing state leads r ends.TurnsSpent turns core hub watch old new fails h = absurd (let x : ⊥ = cc in x)

-- nothing was done
pub none-served : {E H : Type 0} (departs : E → List ℕ → State → Type 0) (state : H → HubState) (leads : H → H → Type 0) (stays : (h : H) → leads h h) (o : Origin) (turns : ℕ) (core : E) (hub : H) (sink : SinkState)
    → Serves departs state leads o turns ends.OutOfMemory core hub hub sink sink
none-served departs state leads stays o turns core hub sink =
    let first : Judge = first_judge (start_of o) in
    let wrote : Wrote sink sink [] = record { taken = sym (after-nil sink.taken); faults = refl } in
    serves_by departs state leads o turns ends.OutOfMemory core hub hub sink sink [] [] first (leaving first) (state hub) (made-none first (state hub)) (made-none (leaving first) (state hub)) (omega arith) (stays hub)
    tt tt tt ([], refl, wrote) (omega arith)
