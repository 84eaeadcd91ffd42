-- The end of a run.
use Rattle.std.specs.Prelude.{◌≡◌, refl, ℕ, ◌≤◌, ◌⊎◌, Bool, true, false, List, [], ◌∷◌, ◌++◌, length, take, drop, Option, Some, None, Ok, Err}
use Rattle.std.specs.List.{flat_map}
use Rattle.std.proofs.Common.{arith, ap, sym, subst, ◌∙◌, append_assoc, append-nil, inl, inr}
use Rattle.std.proofs.lemmas.List.{take_all, take-append-drop, take-append-le, length-take}
use Rattle.std.proofs.lemmas.Grind.{flat_map-append}
use Rattle.share_base.specs.Fronts.{IsFront}
use Rattle.share_base.specs.Writing.{SinkState, WritesAll}
use Rattle.share_base.proofs.Fronts.{front_of_longer}
use Rattle.hub_acts.specs.declared.act.Act.{Act}
use Rattle.hub_acts.specs.declared.act.Act.TheVariants as act
use Rattle.hub_acts.specs.Acts.{known_after}
use Rattle.hub_acts.specs.Links.{LinkState, LinkCalls}
use Rattle.held_inputs.specs.Line.{line_of}
use Rattle.held_inputs.specs.Down.{releases}
use Rattle.message_codec.specs.declared.messages.Msg.{Msg}
use Rattle.client_core.specs.declared.client_end.ClientEnd.{ClientEnd}
use Rattle.client_core.specs.declared.client_end.ClientEnd.TheVariants as end
use Rattle.client_core.specs.declared.client_end.LostCause.TheVariants as lost
use Rattle.client_core.specs.Clients.{Client}
use Rattle.client_core.specs.Hearing.{all_lines}
use Rattle.client_core.specs.Happenings.{lines, sent}
use Rattle.client_core.specs.Kept.{Released}
use Rattle.attentive_links.specs.Judging.{Judge}
use Rattle.attentive_links.specs.InPart.{client_of, ComesTo}
use Rattle.attentive_links.specs.Laws.{taken_bytes}
use Rattle.attentive_links.proofs.ActByAct.{lead-by-happenings, taken-in-order}
use Rattle.client_loop.specs.Attendants.{Releases, text_of, whole_text_of}
use Rattle.client_loop.specs.Stages.{Course, known_with}
use Rattle.client_loop.specs.Ends.{EndsBy, CountsFaults, CountsBreaks, ComesBy, Halt, is_broken}
use Rattle.client_loop.specs.Turns.{Written, Broken, LinesOn, Halted, Ended}
use Rattle.client_loop.specs.Leaving.{AfterRelease, ReleasesAt, IsClosed, unclosed}
use Rattle.client_loop.specs.Attending.{Attends, IsNewClient, Closes, PrintsTo}
use Rattle.client_loop.proofs.TurnSteps.{written-more, broken-more}

-- ---- texts

front_on : (text more : List ℕ) (rest : List ℕ) → IsFront text more → IsFront text (more ++ rest)
front_on text more rest h =
    let fits : length text ≤ length more = omega (arith, ap length h, length-take (length text) more) in
    take-append-le (length text) more rest fits ∙ h

-- the lines are a front of them with the releases
whole_begins : (c : Client) (text : List ℕ) → IsFront text (text_of c) → IsFront text (whole_text_of c)
whole_begins c text h =
    subst (IsFront text) (sym (flat_map-append line_of (lines c) (releases (lines c)))) (front_on text (text_of c) (flat_map line_of (releases (lines c))) h)

-- ---- the releases

module _ {C : Type 0} (stands : C → List ℕ → Client → Type 0) (core : C) (printed bytes : List ℕ) (old new : SinkState) (e : ClientEnd) (none : printed ≡ []) (lets : Releases stands core printed bytes) (front : List ℕ) (c : Client) (stood : stands core front c) where
  whole : Released c.shown (front ++ bytes)
  whole = subst (λ (xs : List ℕ). Released c.shown (xs ++ bytes)) (ap (λ (xs : List ℕ). front ++ xs) none ∙ append-nil front) (lets front c stood)

  pub all-released : WritesAll true bytes old new → AfterRelease e e front c old new
  all-released w = inl (refl, record { text = bytes; released = whole; wrote = record { taken = w.taken; faults = w.counts } })

  pub some-released : WritesAll false bytes old new → AfterRelease e end.WriteFault front c old new
  some-released w =
      let n : ℕ = w.taken.0 in
      let split : whole_text_of c ≡ (front ++ take n bytes) ++ drop n bytes = sym whole.printed ∙ ap (λ (xs : List ℕ). front ++ xs) (sym (take-append-drop n bytes)) ∙ sym (append_assoc front (take n bytes) (drop n bytes)) in
      let begins : IsFront (front ++ take n bytes) (whole_text_of c) = front_of_longer (front ++ take n bytes) (drop n bytes) (whole_text_of c) (whole_text_of c) split (take_all (length (whole_text_of c)) (whole_text_of c) (omega arith)) in
      inr (refl, record { text = take n bytes; begins = begins; broke = record { taken = w.taken.2; faults = w.counts } })

-- after the lines
module _ {C : Type 0} (stands : C → List ℕ → Client → Type 0) (core core' : C) (old mid new : SinkState) (e result : ClientEnd) (front : List ℕ) (c : Client) (stood : stands core front c) where
  pub released-after : LinesOn stands (Ok tt) core core' old mid → ((text : List ℕ) (d : Client) → stands core' text d → AfterRelease e result text d mid new) → AfterRelease e result front c old new
  released-after lines lets =
      let a = lines front c stood in
      elim (lets (text_of c) c a.3) [
        | inl h ↦ inl (
          h.0,
          record {
            text = a.0 ++ h.1.text;
            released = subst (Released c.shown) (ap (λ (xs : List ℕ). xs ++ h.1.text) (sym a.1) ∙ append_assoc front a.0 h.1.text) h.1.released;
            wrote = written-more old mid new a.0 h.1.text a.2 h.1.wrote;
          },
        )
        | inr h ↦ inr (
          h.0,
          record {
            text = a.0 ++ h.1.text;
            begins = subst (λ (xs : List ℕ). IsFront xs (whole_text_of c)) (ap (λ (xs : List ℕ). xs ++ h.1.text) (sym a.1) ∙ append_assoc front a.0 h.1.text) h.1.begins;
            broke = broken-more old mid new a.0 h.1.text a.2 h.1.broke;
          },
        )
      ]

-- the lines could not be written
pub lines-failed : {C : Type 0} (stands : C → List ℕ → Client → Type 0) (core core' : C) (old new : SinkState) (e fault : ClientEnd) (front : List ℕ) (c : Client)
    → stands core front c → LinesOn stands (Err fault) core core' old new → AfterRelease e fault front c old new
lines-failed stands core core' old new e end.WriteFault front c stood lines =
    let a = lines front c stood in
    inr (refl, record { text = a.0; begins = whole_begins c (front ++ a.0) a.1; broke = a.2 })
lines-failed stands core core' old new e end.Bye front c stood lines = absurd (lines front c stood)
lines-failed stands core core' old new e (end.Refused which) front c stood lines = absurd (lines front c stood)
lines-failed stands core core' old new e (end.BadPeer place reason) front c stood lines = absurd (lines front c stood)
lines-failed stands core core' old new e (end.Lost cause) front c stood lines = absurd (lines front c stood)
lines-failed stands core core' old new e end.TurnsSpent front c stood lines = absurd (lines front c stood)
lines-failed stands core core' old new e end.LinkFault front c stood lines = absurd (lines front c stood)
lines-failed stands core core' old new e end.OutOfMemory front c stood lines = absurd (lines front c stood)

pub releases-at : (b : Bool) (e result : ClientEnd) (front : List ℕ) (c : Client) (old new : SinkState) → b ≡ false → AfterRelease e result front c old new → ReleasesAt b e result front c old new
releases-at b e result front c old new is h = subst (λ (t : Bool). ReleasesAt t e result front c old new) (sym is) h

pub releases-none : (b : Bool) (e : ClientEnd) (front : List ℕ) (c : Client) (sink : SinkState) → b ≡ true → ReleasesAt b e e front c sink sink
releases-none b e front c sink is = subst (λ (t : Bool). ReleasesAt t e e front c sink sink) (sym is) (refl, refl)

-- ---- the closing

closing_known : (known : Option (List Act)) → known_after (Some act.LinkClose) known ≡ known_with (act.LinkClose ∷ []) known
closing_known None = refl
closing_known (Some acts) = refl

unclosed_known : (known : Option (List Act)) → known_after None known ≡ known_with [] known
unclosed_known None = refl
unclosed_known (Some acts) = ap (λ (xs : List Act). Some xs) (sym (append-nil acts))

module _ {L : Type 0} (state : L → LinkState) (leads : L → L → Type 0) (e : ClientEnd) (old new : L) (led : leads old new) where
  pub is-closed : LinkCalls (Some act.LinkClose) (state old) (state new) → IsClosed state leads e e old new
  is-closed calls = record {
    closings = act.LinkClose ∷ [];
    known = calls.acts ∙ closing_known (state old).acts;
    faults = calls.faults;
    breaks = calls.breaks;
    led = led;
    ends = inl (refl, refl);
  }

  pub not-closed : (result : ClientEnd) → result ≡ unclosed e → LinkCalls None (state old) (state new) → IsClosed state leads e result old new
  not-closed result is calls = record {
    closings = [];
    known = calls.acts ∙ unclosed_known (state old).acts;
    faults = calls.faults;
    breaks = calls.breaks;
    led = led;
    ends = inr (is, refl);
  }

-- ---- from one end to another

faults_later : (e : ClientEnd) (old new : ℕ) → CountsFaults e old new → old ≤ new
faults_later end.LinkFault old new h = h.0
faults_later end.WriteFault old new h = h
faults_later end.OutOfMemory old new h = h
faults_later end.Bye old new h = omega (arith, h)
faults_later (end.Refused which) old new h = omega (arith, h)
faults_later (end.BadPeer place reason) old new h = omega (arith, h)
faults_later (end.Lost cause) old new h = omega (arith, h)
faults_later end.TurnsSpent old new h = omega (arith, h)

breaks_later : (e : ClientEnd) (old new : ℕ) → CountsBreaks e old new → old ≤ new
breaks_later (end.Lost lost.Failed) old new h = h.0
breaks_later (end.Lost lost.Ended) old new h = omega (arith, h)
breaks_later (end.Lost lost.Dead) old new h = omega (arith, h)
breaks_later (end.Lost lost.Slow) old new h = omega (arith, h)
breaks_later end.WriteFault old new h = h
breaks_later end.OutOfMemory old new h = h
breaks_later end.Bye old new h = omega (arith, h)
breaks_later (end.Refused which) old new h = omega (arith, h)
breaks_later (end.BadPeer place reason) old new h = omega (arith, h)
breaks_later end.LinkFault old new h = omega (arith, h)
breaks_later end.TurnsSpent old new h = omega (arith, h)

comes_to : (e : ClientEnd) (first : Client) (acts : List Act) (d : Client) → ComesBy e first acts d → ComesTo first acts d
comes_to end.WriteFault first acts d h = h
comes_to end.OutOfMemory first acts d h = h
comes_to end.Bye first acts d h = inl h
comes_to (end.Refused which) first acts d h = inl h
comes_to (end.BadPeer place reason) first acts d h = inl h
comes_to (end.Lost cause) first acts d h = inl h
comes_to end.TurnsSpent first acts d h = inl h
comes_to end.LinkFault first acts d h = inl h

-- what the one end tells, the other one does too
record Weakens (e f : ClientEnd) : Type 0 where
  faults : (old new : ℕ) → CountsFaults e old new → CountsFaults f old new
  breaks : (old new : ℕ) → CountsBreaks e old new → CountsBreaks f old new
  comes : (first : Client) (acts : List Act) (d : Client) → ComesBy e first acts d → ComesBy f first acts d
  cause : (turns : ℕ) (acts : List Act) (j : Judge) → EndsBy e turns acts j → EndsBy f turns acts j

weakens_same : (e : ClientEnd) → Weakens e e
weakens_same e = record { faults = λ old new h. h; breaks = λ old new h. h; comes = λ first acts d h. h; cause = λ turns acts j h. h }

weakens_memory : (e : ClientEnd) → Weakens e end.OutOfMemory
weakens_memory e = record { faults = λ old new h. faults_later e old new h; breaks = λ old new h. breaks_later e old new h; comes = λ first acts d h. comes_to e first acts d h; cause = λ turns acts j h. tt }

weakens_fault : (e : ClientEnd) → Weakens e end.WriteFault
weakens_fault e = record { faults = λ old new h. faults_later e old new h; breaks = λ old new h. breaks_later e old new h; comes = λ first acts d h. comes_to e first acts d h; cause = λ turns acts j h. tt }

-- ---- a run

known_both : (xs ys : List Act) (known : Option (List Act)) → known_with ys (known_with xs known) ≡ known_with (xs ++ ys) known
known_both xs ys None = refl
known_both xs ys (Some acts) = ap (λ (zs : List Act). Some zs) (append_assoc acts xs ys)

closes_once : (e : ClientEnd) → Closes e (act.LinkClose ∷ [])
closes_once end.WriteFault = inl refl
closes_once end.OutOfMemory = inl refl
closes_once end.Bye = refl
closes_once (end.Refused which) = refl
closes_once (end.BadPeer place reason) = refl
closes_once (end.Lost cause) = refl
closes_once end.TurnsSpent = refl
closes_once end.LinkFault = refl

prints_to : (e : ClientEnd) (c : Client) (old new : SinkState) (text : List ℕ) → is_broken e ≡ false → Released c.shown text → Written old new text → PrintsTo e c old new
prints_to end.WriteFault c old new text whole released wrote = absurd (let x : ⊥ = cc in x)
prints_to end.OutOfMemory c old new text whole released wrote = (text, released, wrote)
prints_to end.Bye c old new text whole released wrote = (text, released, wrote)
prints_to (end.Refused which) c old new text whole released wrote = (text, released, wrote)
prints_to (end.BadPeer place reason) c old new text whole released wrote = (text, released, wrote)
prints_to (end.Lost cause) c old new text whole released wrote = (text, released, wrote)
prints_to end.TurnsSpent c old new text whole released wrote = (text, released, wrote)
prints_to end.LinkFault c old new text whole released wrote = (text, released, wrote)

unclosed_is : (e : ClientEnd) → is_broken e ≡ false → unclosed e ≡ end.OutOfMemory
unclosed_is end.WriteFault whole = absurd (let x : ⊥ = cc in x)
unclosed_is end.OutOfMemory whole = refl
unclosed_is end.Bye whole = refl
unclosed_is (end.Refused which) whole = refl
unclosed_is (end.BadPeer place reason) whole = refl
unclosed_is (end.Lost cause) whole = refl
unclosed_is end.TurnsSpent whole = refl
unclosed_is end.LinkFault whole = refl

module _ {C L : Type 0} (stands : C → List ℕ → Client → Type 0) (state : L → LinkState) (leads : L → L → Type 0) (trans : (old middle new : L) → leads old middle → leads middle new → leads old new) (r : Course L) (is_new : IsNewClient r.first) (core : C) (link link' : L) (old new : SinkState) where
  attends_by : (e f result : ClientEnd) → (h : Halt stands state leads r e core link) → (k : IsClosed state leads f result link link') → Weakens e result → Closes result k.closings → PrintsTo result h.last old new
      → Attends state leads r.first r.turns result r.link link' old new
  attends_by e f result h k weak closes prints =
      let lead : client_of r.first h.acts ≡ h.judge.client = ap (λ (j : Judge). j.client) h.made.judges in
      record {
        acts = h.acts;
        closings = k.closings;
        judge = h.judge;
        known = k.known ∙ ap (known_with k.closings) h.made.known ∙ known_both h.acts k.closings (state r.link).acts;
        attentive = h.made.follows;
        judges = h.made.judges;
        told = sym lead ∙ lead-by-happenings r.first h.acts;
        in_order = subst (λ (c : Client). IsFront (taken_bytes h.acts) (sent c)) lead (taken-in-order r.first h.acts is_new.taken h.made.follows);
        closed = closes;
        few = h.waits;
        cause = weak.cause r.turns h.acts h.judge h.cause;
        last = h.last;
        came = weak.comes r.first h.acts h.last h.came;
        lines = prints;
        faults = subst (CountsFaults result (state r.link).faults) (sym k.faults) (weak.faults (state r.link).faults (state link).faults h.faults);
        breaks = subst (CountsBreaks result (state r.link).breaks) (sym k.breaks) (weak.breaks (state r.link).breaks (state link).breaks h.breaks);
        led = trans r.link link link' h.led k.led;
      }

  -- the sink failed
  pub broken-attends : (e f result : ClientEnd) (h : Halt stands state leads r e core link) → f ≡ end.WriteFault → IsClosed state leads f result link link' → PrintsTo end.WriteFault h.last old new
      → Attends state leads r.first r.turns result r.link link' old new
  broken-attends e f result h is k prints =
      elim k.ends [
        | inl a ↦ by (a.0 ∙ is) (inl a.1)
        | inr a ↦ by (a.0 ∙ ap unclosed is) (inr a.1)
      ]
    where
      by : result ≡ end.WriteFault → (k.closings ≡ act.LinkClose ∷ []) ⊎ (k.closings ≡ []) → Attends state leads r.first r.turns result r.link link' old new
      by e1 closes = attends_by e f result h k (subst (Weakens e) (sym e1) (weakens_fault e)) (subst (λ (x : ClientEnd). Closes x k.closings) (sym e1) closes) (subst (λ (x : ClientEnd). PrintsTo x h.last old new) (sym e1) prints)

  -- all was written
  pub whole-attends : (e f result : ClientEnd) (h : Halt stands state leads r e core link) → is_broken e ≡ false → f ≡ e → IsClosed state leads f result link link' → (text : List ℕ) → Released h.last.shown text → Written old new text
      → Attends state leads r.first r.turns result r.link link' old new
  whole-attends e f result h whole is k text released wrote =
      elim k.ends [
        | inl a ↦ closed (a.0 ∙ is) a.1
        | inr a ↦ open_still (a.0 ∙ ap unclosed is ∙ unclosed_is e whole) a.1
      ]
    where
      closed : result ≡ e → k.closings ≡ act.LinkClose ∷ [] → Attends state leads r.first r.turns result r.link link' old new
      closed e1 closes = attends_by e f result h k (subst (Weakens e) (sym e1) (weakens_same e)) (subst (Closes result) (sym closes) (closes_once result)) (subst (λ (x : ClientEnd). PrintsTo x h.last old new) (sym e1) (prints_to e h.last old new text whole released wrote))

      open_still : result ≡ end.OutOfMemory → k.closings ≡ [] → Attends state leads r.first r.turns result r.link link' old new
      open_still e1 closes = attends_by e f result h k (subst (Weakens e) (sym e1) (weakens_memory e)) (subst (λ (x : ClientEnd). Closes x k.closings) (sym e1) (inr closes)) (subst (λ (x : ClientEnd). PrintsTo x h.last old new) (sym e1) (text, released, wrote))

-- ---- at each end

module _ {C L : Type 0} (stands : C → List ℕ → Client → Type 0) (state : L → LinkState) (leads : L → L → Type 0) (trans : (old middle new : L) → leads old middle → leads middle new → leads old new) (r : Course L) (is_new : IsNewClient r.first) (core : C) (link link' : L) (old mid new : SinkState) (f result : ClientEnd) (k : IsClosed state leads f result link link') where
  ends_whole : (e : ClientEnd) → is_broken e ≡ false → Halted stands state leads r e core link old mid → ((front : List ℕ) (c : Client) → stands core front c → AfterRelease e f front c mid new) → Attends state leads r.first r.turns result r.link link' old new
  ends_whole e whole h lets =
      let q = h.halt in
      elim (lets h.front q.held q.stood) [
        | inl a ↦ whole-attends stands state leads trans (record r { front = h.front }) is_new core link link' old new e f result q whole a.0 k (h.front ++ a.1.text) (subst (λ (ms : List Msg). Released ms (h.front ++ a.1.text)) q.shown a.1.released) (written-more old mid new h.front a.1.text h.wrote a.1.wrote)
        | inr a ↦ broken-attends stands state leads trans (record r { front = h.front }) is_new core link link' old new e f result q a.0 k (h.front ++ a.1.text, subst (λ (ms : List Msg). IsFront (h.front ++ a.1.text) (flat_map line_of (all_lines ms))) q.shown a.1.begins, broken-more old mid new h.front a.1.text h.wrote a.1.broke)
      ]

  pub ends : (e : ClientEnd) → Ended stands state leads r e core link old mid → ((front : List ℕ) (c : Client) → stands core front c → ReleasesAt (is_broken e) e f front c mid new) → Attends state leads r.first r.turns result r.link link' old new
  ends end.WriteFault h lets =
      let q = h.halt in
      let a = lets h.front q.held q.stood in
      broken-attends stands state leads trans (record r { front = h.front }) is_new core link link' old new end.WriteFault f result q a.0 k
      (h.text, subst (λ (ms : List Msg). IsFront h.text (flat_map line_of (all_lines ms))) q.shown (whole_begins q.held h.text h.begins), subst (λ (s : SinkState). Broken old s h.text) (sym a.1) h.broke)
  ends end.OutOfMemory h lets = ends_whole end.OutOfMemory refl h lets
  ends end.Bye h lets = ends_whole end.Bye refl h lets
  ends (end.Refused which) h lets = ends_whole (end.Refused which) refl h lets
  ends (end.BadPeer place reason) h lets = ends_whole (end.BadPeer place reason) refl h lets
  ends (end.Lost cause) h lets = ends_whole (end.Lost cause) refl h lets
  ends end.TurnsSpent h lets = ends_whole end.TurnsSpent refl h lets
  ends end.LinkFault h lets = ends_whole end.LinkFault refl h lets
