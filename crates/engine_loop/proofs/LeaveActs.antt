-- The closings at the end of a run.
use Rattle.std.specs.Prelude.{◌≡◌, refl, ℕ, zero, suc, ◌<◌, ◌≤◌, Bool, true, false, not, ◌==◌, cond, List, [], ◌∷◌, ◌++◌, drop, filter, Contains, Some}
use Rattle.std.proofs.Common.{arith, ap, sym, subst, ◌∙◌}
use Rattle.std.proofs.lemmas.Bool.Decides.{nat_tests}
use Rattle.share_base.specs.Fronts.{IsFront}
use Rattle.hub_acts.specs.declared.act.Act.TheVariants as act
use Rattle.hub_acts.specs.Counting.{Counts}
use Rattle.hub_acts.specs.Hubs.{HubState, HubCalls}
use Rattle.machine.specs.Connections.{serials}
use Rattle.machine.specs.States.{State}
use Rattle.machine.specs.Logs.{log_text}
use Rattle.machine.specs.Happenings.{IsOpen}
use Rattle.machine.specs.Happenings as machine
use Rattle.machine.specs.Steps.{step}
use Rattle.reached_states.specs.OpenSerials.{Rise}
use Rattle.reached_states.proofs.Rising.{serials-rise}
use Rattle.attentive_acts.specs.Places.{Place, place_after}
use Rattle.attentive_acts.specs.Judging.{Judge, AllowsAt, judge_after, leaving}
use Rattle.engine_loop.specs.declared.serve_end.ServeEnd.{ServeEnd}
use Rattle.server_engine.specs.Engines.{Steps}
use Rattle.engine_loop.specs.Stages.{Course, Made}
use Rattle.engine_loop.specs.Ends.{Departing, LeftSoFar}
use Rattle.engine_loop.proofs.OpenOnes.{listed-open}
use Rattle.engine_loop.proofs.MoreActs.{IsTransitive, Moves, moves-by, made-more, front-on}

-- ---- the first one that is left

none_dropped : (c low : ℕ) (ns : List ℕ) → c ≤ low → Rise low ns → filter (λ n. not (n == c)) ns ≡ ns
none_dropped c low [] le rise = refl
none_dropped c low (n ∷ ns) le rise =
    let above : low < n = rise.0 in
    let keeps : not (n == c) ≡ true = grind (arith, nat_tests, le, above) in
    ap (λ (b : Bool). cond b (n ∷ filter (λ m. not (m == c)) ns) (filter (λ m. not (m == c)) ns)) keeps ∙ ap (λ (xs : List ℕ). n ∷ xs) (none_dropped c n ns (omega (arith, le, above)) rise.1)

pub rest-left : (low c : ℕ) (rest : List ℕ) → Rise low (c ∷ rest) → filter (λ n. not (n == c)) (c ∷ rest) ≡ rest
rest-left low c rest rise =
    let gone : not (c == c) ≡ false = grind (arith, nat_tests) in
    ap (λ (b : Bool). cond b (c ∷ filter (λ m. not (m == c)) rest) (filter (λ m. not (m == c)) rest)) gone ∙ none_dropped c c rest (omega arith) rise.1

pub first-open : (c : ℕ) (rest open_now : List ℕ) → open_now ≡ c ∷ rest → Contains open_now c
first-open c rest open_now e = let here : Contains (c ∷ rest) c = (0, omega arith, refl) in subst (λ (ns : List ℕ). Contains ns c) (sym e) here

-- ---- one closing

module _ {E H : Type 0} (departs : E → List ℕ → State → Type 0) (state : H → HubState) (leads : H → H → Type 0) (trans : IsTransitive leads) (r : Course H) (end : ServeEnd) (turns : ℕ) (core core' : E) (hub hub' : H) (serial : ℕ) (rest : List ℕ) (calls : HubCalls (Some (act.Close serial)) (state hub) (state hub')) (led : leads hub hub') (d : Departing departs state leads r end turns core hub (serial ∷ rest)) where
  open_is : IsOpen d.so_far.last.state serial
  open_is = listed-open serial d.so_far.last.state.connections (first-open serial rest (serials d.so_far.last.state.connections) d.open_now)

  moves_is : Moves r.origin d.so_far.last.latest d.so_far.last.state (act.Close serial)
  moves_is = moves-by r.origin d.so_far.last.latest d.so_far.last.state (act.Close serial) (machine.Closed serial) refl refl refl d.reached open_is

  pub left_is : Made (leaving d.so_far.judge) d.so_far.between (state hub') (d.so_far.leaves ++ act.Close serial ∷ []) (judge_after d.so_far.last (act.Close serial))
  left_is = made-more (leaving d.so_far.judge) d.so_far.between (state hub) (state hub') d.so_far.leaves d.so_far.last (act.Close serial) refl d.so_far.left (subst (λ (q : Place). AllowsAt q d.so_far.last (act.Close serial)) (sym d.place) refl) calls.acts

  pub faults_is : Counts r.failed (state r.hub).faults (state hub').faults
  faults_is = subst (Counts r.failed (state r.hub).faults) (sym calls.faults) d.so_far.faults

  pub wrote_is : IsFront r.front (log_text (step d.so_far.last.state (machine.Closed serial)))
  wrote_is = front-on r.front (log_text d.so_far.last.state) (log_text (step d.so_far.last.state (machine.Closed serial))) d.so_far.wrote moves_is.log

  abbrev pub leave-cut : LeftSoFar state leads r turns hub'
  leave-cut = record {
    run = d.so_far.run;
    judge = d.so_far.judge;
    leaves = d.so_far.leaves ++ act.Close serial ∷ [];
    last = judge_after d.so_far.last (act.Close serial);
    between = d.so_far.between;
    made = d.so_far.made;
    left = left_is;
    waits = d.so_far.waits;
    faults = faults_is;
    led = trans r.hub hub hub' d.so_far.led led;
    wrote = wrote_is;
  }

  pub leave-more : Steps departs core core' (machine.Closed serial) → Departing departs state leads r end turns core' hub' rest
  leave-more steps =
      let k : Judge = judge_after d.so_far.last (act.Close serial) in
      record {
        so_far = leave-cut;
        open_now = moves_is.open_now ∙ ap (filter (λ n. not (n == serial))) d.open_now ∙ rest-left 0 serial rest (subst (Rise 0) d.open_now (serials-rise r.origin d.so_far.last.latest d.so_far.last.state d.reached).rise);
        reached = moves_is.reached;
        departed = steps r.origin d.so_far.last.latest r.front d.so_far.last.state d.reached open_is d.departed;
        place = ap (λ (p : Place). place_after p (act.Close serial) k.flags k.state) d.place;
        cause = d.cause;
      }

-- those that are left rise too
pub rise-drop : (ns : List ℕ) (low i : ℕ) → Rise low ns → (l : ℕ) × Rise l (drop i ns)
rise-drop ns low zero rise = (low, rise)
rise-drop [] low (suc i) rise = (low, tt)
rise-drop (n ∷ ns) low (suc i) rise = rise-drop ns n i rise.1
