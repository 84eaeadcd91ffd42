-- The lines that a turn writes, and where turns lead.
use Rattle.std.specs.Prelude.{◌≡◌, refl, ℕ, ◌+◌, ◌≤◌, true, false, List, ◌++◌, length, take, drop, Option, Result, Ok, Err, IsErrAnd}
use Rattle.std.proofs.Common.{arith, ap, sym, subst, ◌∙◌, append_assoc, inl}
use Rattle.std.proofs.lemmas.List.{take_all, take-append-drop}
use Rattle.share_base.specs.Counts.{Rises}
use Rattle.share_base.specs.Fronts.{IsFront}
use Rattle.share_base.specs.Told.{after}
use Rattle.share_base.specs.Writing.{SinkState, WritesAll}
use Rattle.share_base.proofs.Fronts.{front_of_longer}
use Rattle.share_base.proofs.ToldLists.{after-after}
use Rattle.hub_acts.specs.Links.{LinkState}
use Rattle.client_core.specs.declared.client_end.ClientEnd.{ClientEnd}
use Rattle.client_core.specs.declared.client_end.ClientEnd.TheVariants as end
use Rattle.client_core.specs.Clients.{Client}
use Rattle.attentive_links.specs.Flags.{Flags}
use Rattle.attentive_links.specs.Places.{Place, Waits}
use Rattle.attentive_links.specs.Judging.{Judge}
use Rattle.client_loop.specs.declared.watch.Watch.{Watch}
use Rattle.client_loop.specs.Attendants.{Prints, Clears, text_of}
use Rattle.client_loop.specs.Stages.{Course, Stage, with_front}
use Rattle.client_loop.specs.Ends.{Halt, AfterStep, is_broken}
use Rattle.client_loop.specs.Turns.{Written, Broken, LinesOn, Logged, Halted, Ended, AfterTurn, turned, turned_once}
use Prim.{search}

-- ---- one text after another

pub written-more : (old mid new : SinkState) (front text : List ℕ) → Written old mid front → Written mid new text → Written old new (front ++ text)
written-more old mid new front text a b = record {
  taken = b.taken ∙ ap (λ (t : Option (List ℕ)). after t text) a.taken ∙ after-after old.taken front text;
  faults = b.faults ∙ a.faults;
}

pub broken-more : (old mid new : SinkState) (front text : List ℕ) → Written old mid front → Broken mid new text → Broken old new (front ++ text)
broken-more old mid new front text a b = record {
  taken = b.taken ∙ ap (λ (t : Option (List ℕ)). after t text) a.taken ∙ after-after old.taken front text;
  faults = subst (λ (n : ℕ). Rises n new.faults) a.faults b.faults;
}

-- ---- the lines are written

module _ {C : Type 0} (stands : C → List ℕ → Client → Type 0) (core core' : C) (text : List ℕ) (old new : SinkState) (prints : Prints stands core text) where
  pub all-written : WritesAll true text old new → Clears stands core core' text → LinesOn stands (Ok tt) core core' old new
  all-written w clears front c stood =
      let whole : front ++ text ≡ text_of c = prints front c stood in
      (text, whole, record { taken = w.taken; faults = w.counts }, subst (λ (t : List ℕ). stands core' t c) whole (clears front c stood))

  pub some-written : WritesAll false text old new → LinesOn stands (Err end.WriteFault) core core old new
  some-written w front c stood =
      let n : ℕ = w.taken.0 in
      let whole : front ++ text ≡ text_of c = prints front c stood in
      let split : text_of c ≡ (front ++ take n text) ++ drop n text = sym whole ∙ ap (λ (xs : List ℕ). front ++ xs) (sym (take-append-drop n text)) ∙ sym (append_assoc front (take n text) (drop n text)) in
      let begins : IsFront (front ++ take n text) (text_of c) = front_of_longer (front ++ take n text) (drop n text) (text_of c) (text_of c) split (take_all (length (text_of c)) (text_of c) (omega arith)) in
      (take n text, begins, record { taken = w.taken.2; faults = w.counts }, stood)

-- ---- in a turn

module _ {C L : Type 0} (stands : C → List ℕ → Client → Type 0) (state : L → LinkState) (leads : L → L → Type 0) where
  -- the numbers of waits and reads are no matter where the turns have ended
  abbrev pub halt-on : (r : Course L) (e : ClientEnd) (core : C) (link : L) (w n : ℕ) → Halt stands state leads r e core link → Halt stands state leads (record r { waits = w; reads = n }) e core link
  halt-on r e core link w n h = search

  pub ended-by : (r : Course L) (e : ClientEnd) (core : C) (link : L) (old new : SinkState) → is_broken e ≡ false → Halted stands state leads r e core link old new → Ended stands state leads r e core link old new
  ended-by r end.WriteFault core link old new whole h = absurd (let x : ⊥ = cc in x)
  ended-by r end.Bye core link old new whole h = h
  ended-by r (end.Refused which) core link old new whole h = h
  ended-by r (end.BadPeer place reason) core link old new whole h = h
  ended-by r (end.Lost cause) core link old new whole h = h
  ended-by r end.TurnsSpent core link old new whole h = h
  ended-by r end.LinkFault core link old new whole h = h
  ended-by r end.OutOfMemory core link old new whole h = h

  halted_on : (r : Course L) (e : ClientEnd) (core : C) (link : L) (w n : ℕ) (old new : SinkState) → Halted stands state leads r e core link old new → Halted stands state leads (record r { waits = w; reads = n }) e core link old new
  halted_on r e core link w n old new h = record { front = h.front; halt = halt-on (with_front h.front r) e core link w n h.halt; wrote = h.wrote }

  pub ended-on : (r : Course L) (e : ClientEnd) (core : C) (link : L) (w n : ℕ) (old new : SinkState) → Ended stands state leads r e core link old new → Ended stands state leads (record r { waits = w; reads = n }) e core link old new
  ended-on r end.WriteFault core link w n old new h = record { front = h.front; halt = halt-on (with_front h.front r) end.WriteFault core link w n h.halt; text = h.text; begins = h.begins; broke = h.broke }
  ended-on r end.Bye core link w n old new h = halted_on r end.Bye core link w n old new h
  ended-on r (end.Refused which) core link w n old new h = halted_on r (end.Refused which) core link w n old new h
  ended-on r (end.BadPeer place reason) core link w n old new h = halted_on r (end.BadPeer place reason) core link w n old new h
  ended-on r (end.Lost cause) core link w n old new h = halted_on r (end.Lost cause) core link w n old new h
  ended-on r end.TurnsSpent core link w n old new h = halted_on r end.TurnsSpent core link w n old new h
  ended-on r end.LinkFault core link w n old new h = halted_on r end.LinkFault core link w n old new h
  ended-on r end.OutOfMemory core link w n old new h = halted_on r end.OutOfMemory core link w n old new h

  -- a step ended the turns
  pub step-ends : (r : Course L) (e : ClientEnd) (core : C) (link : L) (front : List ℕ) (w n : ℕ) (old new : SinkState)
      → (is_broken e ≡ false) × Halt stands state leads (record r { front = front; waits = w; reads = n }) e core link → Written old new front → Ended stands state leads (turned_once r) e core link old new
  step-ends r e core link front w n old new h wrote =
      ended-by (turned_once r) e core link old new h.0 (record { front = front; halt = halt-on (record r { front = front; waits = w; reads = n }) e core link (r.waits + 1) (r.reads + 1) h.1; wrote = wrote })

  -- the last step of a turn
  pub last-step : (r : Course L) (result : Result (Unit {0}) ClientEnd) (core : C) (link : L) (watch : Watch) (front : List ℕ) (old new : SinkState)
      → AfterStep stands state leads (with_front front r) result core link watch (λ fs c. Waits) → Written old new front → AfterTurn stands state leads r result core link watch old new
  last-step r (Ok going) core link watch front old new h wrote = record { front = front; stage = h; wrote = wrote }
  last-step r (Err e) core link watch front old new h wrote = ended-by r e core link old new h.0 (record { front = front; halt = h.1; wrote = wrote })

  -- the lines after a step
  pub record Clear (r : Course L) (core : C) (link : L) (watch : Watch) (due : Flags → Client → Place) (old new : SinkState) : Type 0 where
    pub front : List ℕ
    pub stage : Stage stands state leads (with_front front r) core link watch due
    pub wrote : Written old new front

  pub cleared : (r : Course L) (front : List ℕ) (core core' : C) (link : L) (watch : Watch) (due : Flags → Client → Place)
      → (st : Stage stands state leads r core link watch due) → stands core' front st.judge.client → Stage stands state leads (with_front front r) core' link watch due
  cleared r front core core' link watch due st stood = search

  pub lines-clear : (r : Course L) (front : List ℕ) (core core' : C) (link : L) (watch : Watch) (due : Flags → Client → Place) (old mid new : SinkState)
      → Stage stands state leads (with_front front r) core link watch due → Written old mid front → LinesOn stands (Ok tt) core core' mid new
      → Clear r core' link watch due old new
  lines-clear r front core core' link watch due old mid new st wrote lines =
      let a = lines front st.judge.client st.stood in
      record {
        front = text_of st.judge.client;
        stage = cleared (with_front front r) (text_of st.judge.client) core core' link watch due st a.3;
        wrote = subst (Written old new) a.1 (written-more old mid new front a.0 wrote a.2);
      }

  -- the turns stop where they are
  abbrev pub stops-there : (r : Course L) (e : ClientEnd) (core core' : C) (link : L) (watch : Watch) (due : Flags → Client → Place) → r.waits ≤ r.turns
      → (st : Stage stands state leads r core link watch due) → stands core' r.front st.judge.client
      → Halt stands state leads r end.WriteFault core' link
  stops-there r e core core' link watch due le st stood = record {
    acts = st.acts;
    judge = st.judge;
    made = st.made;
    waits = (let k = st.waits in omega (arith, k, le));
    faults = (let k = st.faults in omega (arith, k));
    breaks = (let k = st.breaks in omega (arith, k));
    led = st.led;
    cause = tt;
    last = st.judge.client;
    came = inl (ap (λ (j : Judge). j.client) (sym st.made.judges));
    held = st.judge.client;
    stood = stood;
    shown = refl;
  }

  pub lines-break : (r : Course L) (e : ClientEnd) (front : List ℕ) (core core' : C) (link : L) (watch : Watch) (due : Flags → Client → Place) (old mid new : SinkState) → r.waits ≤ r.turns
      → Stage stands state leads (with_front front r) core link watch due → Written old mid front → LinesOn stands (Err e) core core' mid new
      → Ended stands state leads r e core' link old new
  lines-break r end.WriteFault front core core' link watch due old mid new le st wrote lines =
      let a = lines front st.judge.client st.stood in
      record {
        front = front;
        halt = stops-there (with_front front r) end.WriteFault core core' link watch due le st a.3;
        text = front ++ a.0;
        begins = a.1;
        broke = broken-more old mid new front a.0 wrote a.2;
      }
  lines-break r end.Bye front core core' link watch due old mid new le st wrote lines = absurd (lines front st.judge.client st.stood)
  lines-break r (end.Refused which) front core core' link watch due old mid new le st wrote lines = absurd (lines front st.judge.client st.stood)
  lines-break r (end.BadPeer place reason) front core core' link watch due old mid new le st wrote lines = absurd (lines front st.judge.client st.stood)
  lines-break r (end.Lost cause) front core core' link watch due old mid new le st wrote lines = absurd (lines front st.judge.client st.stood)
  lines-break r end.TurnsSpent front core core' link watch due old mid new le st wrote lines = absurd (lines front st.judge.client st.stood)
  lines-break r end.LinkFault front core core' link watch due old mid new le st wrote lines = absurd (lines front st.judge.client st.stood)
  lines-break r end.OutOfMemory front core core' link watch due old mid new le st wrote lines = absurd (lines front st.judge.client st.stood)

  -- the turn ends so
  pub turn-err : (r : Course L) (e : ClientEnd) (result : Result (Unit {0}) ClientEnd) (core : C) (link : L) (watch : Watch) (old new : SinkState) → IsErrAnd result (λ y. y ≡ e) → Ended stands state leads r e core link old new → AfterTurn stands state leads r result core link watch old new
  turn-err r e (Ok going) core link watch old new is h = absurd is
  turn-err r e (Err y) core link watch old new is h = subst (λ (z : ClientEnd). Ended stands state leads r z core link old new) (sym is) h

  -- all turns were made
  pub turns-spent : (r : Course L) (n : ℕ) (core : C) (link : L) (watch : Watch) (old new : SinkState) → n ≡ r.turns → Logged stands state leads (turned n r) core link watch old new
      → Ended stands state leads r end.TurnsSpent core link old new
  turns-spent r n core link watch old new e l =
      let st = l.stage in
      record {
        front = l.front;
        halt = record {
          acts = st.acts;
          judge = st.judge;
          made = st.made;
          waits = (let k = st.waits in omega (arith, k, e));
          faults = st.faults;
          breaks = st.breaks;
          led = st.led;
          cause = (st.waits ∙ e, st.there, st.goes);
          last = st.judge.client;
          came = ap (λ (j : Judge). j.client) (sym st.made.judges);
          held = st.judge.client;
          stood = st.stood;
          shown = refl;
        };
        wrote = l.wrote;
      }
