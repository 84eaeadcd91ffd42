-- A write that was due, with each answer.
use Rattle.std.specs.Prelude.{◌≡◌, refl, ℕ, ◌≤◌, ◌<◌, min, Bool, true, false, ◌&&◌, ◌==◌, cond, List, ◌∷◌, length, take, Contains, Option, Some, None, is_some}
use Rattle.std.specs.Option.{option_map_or}
use Rattle.std.proofs.Common.{arith, ap, sym, subst, ◌∙◌, inl}
use Rattle.std.proofs.lemmas.Bool.Decides.{nat_tests}
use Rattle.std.proofs.lemmas.List.{length-take, length-drop}
use Rattle.hub_acts.specs.declared.act.Act.{Act}
use Rattle.hub_acts.specs.declared.act.Act.TheVariants as act
use Rattle.hub_acts.specs.declared.answers.WriteAnswer.{WriteAnswer}
use Rattle.hub_acts.specs.declared.answers.WriteAnswer.TheVariants as written
use Rattle.hub_acts.specs.Hubs.{HubState, HubCalls, FitsWrite}
use Rattle.machine.specs.Connections.{Connection}
use Rattle.machine.specs.States.{State}
use Rattle.machine.specs.Screens.{connection, has_untaken, taken_by}
use Rattle.machine.specs.Queues.{total, queue}
use Rattle.machine.specs.Happenings.{IsOpen}
use Rattle.machine.specs.Happenings as machine
use Rattle.attentive_acts.specs.Telling.{state_after}
use Rattle.attentive_acts.specs.Flags.{Flags, flags_with, has_flag, has_more, is_writable}
use Rattle.attentive_acts.specs.Places.{Place, Writes, at_writes, place_after}
use Rattle.attentive_acts.specs.Judging.{Judge, Allows, AllowsAt, IsPiece, judge_after, untaken}
use Rattle.engine_loop.specs.declared.watch.Watch.{Watch}
use Rattle.engine_loop.specs.declared.watch.Change.TheVariants.{WritesDrained}
use Rattle.server_engine.specs.Engines.{AreNext, Steps, Offers, Counts as Counting}
use Rattle.engine_loop.proofs.WatchFlags.{IsChanged, sets-write, changed-serials, changed-seen}
use Rattle.engine_loop.proofs.OpenOnes.{listed-open}
use Rattle.engine_loop.specs.Watches.{flags_of, serials_in, AreSeen}
use Rattle.engine_loop.specs.Stages.{Course, Stage, Cut, Is}
use Rattle.engine_loop.proofs.MoreActs.{Acted, IsTransitive, Moves, moves-by, moves-none, stage-more, cut-more, elsewhere}

-- ---- what is due

pub more-open : (s : State) (serial : ℕ) → has_more s serial ≡ true → IsOpen s serial
more-open s serial h = by (connection s serial) h
  where
    by : (o : Option Connection) → option_map_or (has_untaken s) o false ≡ true → is_some o ≡ true
    by None k = k
    by (Some c) k = refl

-- something is offered
pub next-more : (b : Bool) (s : State) (serial : ℕ) (bytes : List ℕ) → AreNext b s serial bytes → (length bytes == 0) ≡ false → (b ≡ true) × (bytes ≡ untaken s serial)
next-more true s serial bytes h k = (refl, h.0)
next-more false s serial bytes h k = absurd (let n : length bytes ≡ 0 = ap length h in grind (arith, nat_tests, n, k))

pub next-none : (b : Bool) (s : State) (serial : ℕ) (bytes : List ℕ) → AreNext b s serial bytes → (length bytes == 0) ≡ true → b ≡ false
next-none true s serial bytes h k = absurd (let n = h.1 in grind (arith, nat_tests, n, k))
next-none false s serial bytes h k = refl

pub writable : (j : Judge) (watch : Watch) (serial : ℕ) → j.flags ≡ flags_of (total j.state.routed) watch → has_flag (λ f. f.writes) serial (flags_of (total j.state.routed) watch) ≡ true → has_more j.state serial ≡ true → is_writable j.flags j.state serial ≡ true
writable j watch serial fs h k = ap (λ (f : Flags). has_flag (λ g. g.writes) serial f && has_more j.state serial) fs ∙ ap (λ (b : Bool). b && has_more j.state serial) h ∙ k

pub no-write-flag : (j : Judge) (watch : Watch) (serial : ℕ) → j.flags ≡ flags_of (total j.state.routed) watch → has_flag (λ f. f.writes) serial (flags_of (total j.state.routed) watch) ≡ false → is_writable j.flags j.state serial ≡ false
no-write-flag j watch serial fs h = ap (λ (f : Flags). has_flag (λ g. g.writes) serial f && has_more j.state serial) fs ∙ ap (λ (b : Bool). b && has_more j.state serial) h

and_false : (b : Bool) → (b && false) ≡ false
and_false true = refl
and_false false = refl

pub none-more : (j : Judge) (serial : ℕ) → has_more j.state serial ≡ false → is_writable j.flags j.state serial ≡ false
none-more j serial h = ap (λ (b : Bool). has_flag (λ g. g.writes) serial j.flags && b) h ∙ and_false (has_flag (λ g. g.writes) serial j.flags)

pub is-piece : (s : State) (serial : ℕ) (offered piece : List ℕ) → offered ≡ untaken s serial → (length offered == 0) ≡ false → piece ≡ take (min (length offered) 65536) offered → IsPiece s serial piece
is-piece s serial offered piece e some is =
    let n : ℕ = min (length offered) 65536 in
    let long : length piece ≡ n = let l = length-take n offered in let k = ap length is in omega (arith, l, k) in
    let size : length offered ≡ length (untaken s serial) = ap length e in
    record {
      front = is ∙ ap (take n) e ∙ ap (λ (m : ℕ). take m (untaken s serial)) (sym long);
      some = grind (arith, nat_tests, some, long);
      long = inl (omega (arith, long, size));
    }

pub pass-write : {E H : Type 0} (serves : E → List ℕ → State → Type 0) (state : H → HubState) (leads : H → H → Type 0) (r : Course H) (core : E) (hub : H) (watch : Watch) (serial : ℕ) (rest : List ℕ)
    → (st : Stage serves state leads r core hub watch (Is (λ fs s. at_writes fs s (serial ∷ rest)))) → is_writable st.judge.flags st.judge.state serial ≡ false
    → Stage serves state leads r core hub watch (Is (λ fs s. at_writes fs s rest))
pass-write serves state leads r core hub watch serial rest st e =
    elsewhere serves state leads r core hub watch (Is (λ fs s. at_writes fs s (serial ∷ rest))) (Is (λ fs s. at_writes fs s rest)) st
    (st.there ∙ ap (λ (b : Bool). cond b (Writes (serial ∷ rest)) (at_writes st.judge.flags st.judge.state rest)) e)

here : (j : Judge) (serial : ℕ) (rest : List ℕ) → j.place ≡ at_writes j.flags j.state (serial ∷ rest) → is_writable j.flags j.state serial ≡ true → j.place ≡ Writes (serial ∷ rest)
here j serial rest p e = p ∙ ap (λ (b : Bool). cond b (Writes (serial ∷ rest)) (at_writes j.flags j.state rest)) e

-- what was written suits the act
pub record IsWritten (j : Judge) (serial : ℕ) (answer : WriteAnswer) (bytes : List ℕ) : Type 0 where
  pub piece : IsPiece j.state serial bytes
  pub fits : FitsWrite answer (length bytes)
  pub writable : is_writable j.flags j.state serial ≡ true

allowed : (j : Judge) (serial : ℕ) (answer : WriteAnswer) (bytes rest : List ℕ) → j.place ≡ at_writes j.flags j.state (serial ∷ rest) → IsWritten j serial answer bytes → Allows j (act.Write serial bytes answer)
allowed j serial answer bytes rest p is = subst (λ (q : Place). AllowsAt q j (act.Write serial bytes answer)) (sym (here j serial rest p is.writable)) (refl, is.piece, is.fits, is.writable)

pub write-more : {E H : Type 0} (serves : E → List ℕ → State → Type 0) (state : H → HubState) (leads : H → H → Type 0) (r : Course H) (core core' : E) (hub hub' : H) (watch watch' : Watch) (serial : ℕ) (answer : WriteAnswer) (bytes rest : List ℕ)
    → IsTransitive leads → Acted state leads hub hub' (act.Write serial bytes answer)
    → (st : Stage serves state leads r core hub watch (Is (λ fs s. at_writes fs s (serial ∷ rest))))
    → IsWritten st.judge serial answer bytes
    → flags_with (act.Write serial bytes answer) (flags_of (total st.judge.state.routed) watch) ≡ flags_of (total st.judge.state.routed) watch' → AreSeen (total st.judge.state.routed) watch'.streams.items → serials_in watch' ≡ serials_in watch
    → Moves r.origin st.judge.latest st.judge.state (act.Write serial bytes answer) → serves core' r.front (state_after (act.Write serial bytes answer) st.judge.state)
    → Stage serves state leads r core' hub' watch' (Is (λ fs s. at_writes fs s rest))
write-more serves state leads r core core' hub hub' watch watch' serial answer bytes rest trans acted st is fs seen ws moves served =
    let a : Act = act.Write serial bytes answer in
    let j : Judge = st.judge in
    let after : Judge = judge_after j a in
    stage-more serves state leads r core core' hub hub' watch watch' (Is (λ f s. at_writes f s (serial ∷ rest))) (Is (λ f s. at_writes f s rest)) a trans acted st fs seen ws moves
    (allowed j serial answer bytes rest st.there is) served (ap (λ (p : Place). place_after p a after.flags after.state) (here j serial rest st.there is.writable))

pub write-cut : {E H : Type 0} (serves : E → List ℕ → State → Type 0) (state : H → HubState) (leads : H → H → Type 0) (r : Course H) (core : E) (hub hub' : H) (watch : Watch) (serial : ℕ) (answer : WriteAnswer) (bytes rest : List ℕ)
    → IsTransitive leads → Acted state leads hub hub' (act.Write serial bytes answer)
    → (st : Stage serves state leads r core hub watch (Is (λ fs s. at_writes fs s (serial ∷ rest))))
    → IsWritten st.judge serial answer bytes
    → Moves r.origin st.judge.latest st.judge.state (act.Write serial bytes answer)
    → Cut state leads r hub'
write-cut serves state leads r core hub hub' watch serial answer bytes rest trans acted st is moves =
    cut-more serves state leads r core hub hub' watch (Is (λ f s. at_writes f s (serial ∷ rest))) (act.Write serial bytes answer) trans acted st moves
    (allowed st.judge serial answer bytes rest st.there is)

-- ---- where the machine goes

pub took-allowed : (s : State) (serial n latest : ℕ) (bytes : List ℕ) → IsOpen s serial → IsPiece s serial bytes → 0 < n → n ≤ length bytes → machine.IsAllowed latest s (machine.Took serial n)
took-allowed s serial n latest bytes is piece some le =
    let size : length bytes ≤ length (untaken s serial) = let k = ap length piece.front in let l = length-take (length bytes) (untaken s serial) in omega (arith, k, l) in
    let rest = length-drop (taken_by s serial) (queue s.routed serial) in
    (is, omega (arith, size, rest))

-- ---- each answer

pub record CanWrite {E : Type 0} (serves : E → List ℕ → State → Type 0) (core : E) (watch : Watch) (serial seen : ℕ) (offered : List ℕ) : Type 0 where
  pub flag : (totals : ℕ → ℕ) → seen ≡ totals serial → has_flag (λ f. f.writes) serial (flags_of totals watch) ≡ true
  pub counts : Counting serves core serial seen
  pub offers : Offers serves core serial offered
  pub some : (length offered == 0) ≡ false

-- it is passed by
pub not-flagged : {E H : Type 0} (serves : E → List ℕ → State → Type 0) (state : H → HubState) (leads : H → H → Type 0) (r : Course H) (core : E) (hub : H) (watch : Watch) (serial seen : ℕ) (rest : List ℕ)
    → Contains (serials_in watch) serial → Counting serves core serial seen → ((totals : ℕ → ℕ) → seen ≡ totals serial → has_flag (λ f. f.writes) serial (flags_of totals watch) ≡ false)
    → Stage serves state leads r core hub watch (Is (λ fs s. at_writes fs s (serial ∷ rest))) → Stage serves state leads r core hub watch (Is (λ fs s. at_writes fs s rest))
not-flagged serves state leads r core hub watch serial seen rest listed counts flag st =
    let is : IsOpen st.judge.state serial = listed-open serial st.judge.state.connections (subst (λ (ns : List ℕ). Contains ns serial) st.watched listed) in
    let same : seen ≡ total st.judge.state.routed serial = counts r.origin st.judge.latest r.front st.judge.state st.reached is st.served in
    pass-write serves state leads r core hub watch serial rest st (no-write-flag st.judge watch serial st.flags (flag (total st.judge.state.routed) same))

pub none-offered : {E H : Type 0} (serves : E → List ℕ → State → Type 0) (state : H → HubState) (leads : H → H → Type 0) (r : Course H) (core : E) (hub : H) (watch : Watch) (serial : ℕ) (offered rest : List ℕ)
    → Offers serves core serial offered → (length offered == 0) ≡ true
    → Stage serves state leads r core hub watch (Is (λ fs s. at_writes fs s (serial ∷ rest))) → Stage serves state leads r core hub watch (Is (λ fs s. at_writes fs s rest))
none-offered serves state leads r core hub watch serial offered rest offers none st =
    pass-write serves state leads r core hub watch serial rest st
    (none-more st.judge serial (next-none (has_more st.judge.state serial) st.judge.state serial offered (offers r.origin st.judge.latest r.front st.judge.state st.reached st.served) none))

module _ {E H : Type 0} (serves : E → List ℕ → State → Type 0) (state : H → HubState) (leads : H → H → Type 0) (trans : IsTransitive leads) (r : Course H) (core core' : E) (hub hub' : H) (watch watch' : Watch) (serial seen : ℕ) (offered piece : List ℕ) (cut_off : piece ≡ take (min (length offered) 65536) offered) (rest : List ℕ) (can : CanWrite serves core watch serial seen offered) (led : leads hub hub') (st : Stage serves state leads r core hub watch (Is (λ fs s. at_writes fs s (serial ∷ rest)))) where
  more_is : (has_more st.judge.state serial ≡ true) × (offered ≡ untaken st.judge.state serial)
  more_is = next-more (has_more st.judge.state serial) st.judge.state serial offered (can.offers r.origin st.judge.latest r.front st.judge.state st.reached st.served) can.some

  open_is : IsOpen st.judge.state serial
  open_is = more-open st.judge.state serial more_is.0

  seen_is : seen ≡ total st.judge.state.routed serial
  seen_is = can.counts r.origin st.judge.latest r.front st.judge.state st.reached open_is st.served

  piece_is : IsPiece st.judge.state serial piece
  piece_is = is-piece st.judge.state serial offered piece more_is.1 can.some cut_off

  written_is : (answer : WriteAnswer) → FitsWrite answer (length piece) → IsWritten st.judge serial answer piece
  written_is answer fits = record { piece = piece_is; fits = fits; writable = writable st.judge watch serial st.flags (can.flag (total st.judge.state.routed) seen_is) more_is.0 }

  took_is : (n : ℕ) → FitsWrite (written.Took n) (length piece) → machine.IsAllowed st.judge.latest st.judge.state (machine.Took serial n)
  took_is n fits = took-allowed st.judge.state serial n st.judge.latest piece open_is piece_is fits.0 fits.1

  pub took-writes : (n : ℕ) → FitsWrite (written.Took n) (length piece) → HubCalls (Some (act.Write serial piece (written.Took n))) (state hub) (state hub') → Steps serves core core' (machine.Took serial n)
      → Stage serves state leads r core' hub' watch (Is (λ fs s. at_writes fs s rest))
  took-writes n fits calls steps = write-more serves state leads r core core' hub hub' watch watch serial (written.Took n) piece rest trans (record { calls = calls; led = led; calm = refl; goes = refl; answered = refl }) st (written_is (written.Took n) fits) refl st.seen refl
      (moves-by r.origin st.judge.latest st.judge.state (act.Write serial piece (written.Took n)) (machine.Took serial n) refl refl refl st.reached (took_is n fits))
      (steps r.origin st.judge.latest r.front st.judge.state st.reached (took_is n fits) st.served)

  pub failed-writes : IsChanged watch watch' serial (WritesDrained seen) → HubCalls (Some (act.Write serial piece written.Failed)) (state hub) (state hub') → Steps serves core core' (machine.Failed serial)
      → Stage serves state leads r core' hub' watch' (Is (λ fs s. at_writes fs s rest))
  failed-writes is calls steps = write-more serves state leads r core core' hub hub' watch watch' serial written.Failed piece rest trans (record { calls = calls; led = led; calm = refl; goes = refl; answered = refl }) st (written_is written.Failed tt)
      (sym (sets-write watch watch' serial seen (total st.judge.state.routed) seen_is is)) (changed-seen watch watch' serial (WritesDrained seen) (total st.judge.state.routed) seen_is is st.seen) (changed-serials watch watch' serial (WritesDrained seen) is)
      (moves-by r.origin st.judge.latest st.judge.state (act.Write serial piece written.Failed) (machine.Failed serial) refl refl refl st.reached open_is)
      (steps r.origin st.judge.latest r.front st.judge.state st.reached open_is st.served)

  pub failed-cuts : HubCalls (Some (act.Write serial piece written.Failed)) (state hub) (state hub') → Cut state leads r hub'
  failed-cuts calls = write-cut serves state leads r core hub hub' watch serial written.Failed piece rest trans (record { calls = calls; led = led; calm = refl; goes = refl; answered = refl }) st (written_is written.Failed tt)
      (moves-by r.origin st.judge.latest st.judge.state (act.Write serial piece written.Failed) (machine.Failed serial) refl refl refl st.reached open_is)

  pub none-writes : IsChanged watch watch' serial (WritesDrained seen) → HubCalls (Some (act.Write serial piece written.NotNow)) (state hub) (state hub')
      → Stage serves state leads r core hub' watch' (Is (λ fs s. at_writes fs s rest))
  none-writes is calls = write-more serves state leads r core core hub hub' watch watch' serial written.NotNow piece rest trans (record { calls = calls; led = led; calm = refl; goes = refl; answered = refl }) st (written_is written.NotNow tt)
      (sym (sets-write watch watch' serial seen (total st.judge.state.routed) seen_is is)) (changed-seen watch watch' serial (WritesDrained seen) (total st.judge.state.routed) seen_is is st.seen) (changed-serials watch watch' serial (WritesDrained seen) is)
      (moves-none r.origin st.judge.latest st.judge.state (act.Write serial piece written.NotNow) refl refl refl st.reached) st.served
