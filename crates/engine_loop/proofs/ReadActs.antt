-- A read that was due, with each answer.
use Rattle.std.specs.Prelude.{◌≡◌, refl, ℕ, Bool, true, false, ◌&&◌, cond, List, [], ◌∷◌, length, take, Option, Some, None, is_some}
use Rattle.std.specs.Option.{option_map_or}
use Rattle.std.proofs.Common.{arith, ap, sym, subst, ◌∙◌}
use Rattle.std.proofs.lemmas.List.{length-take}
use Rattle.hub_acts.specs.declared.act.Act.{Act}
use Rattle.hub_acts.specs.declared.act.Act.TheVariants as act
use Rattle.hub_acts.specs.declared.answers.ReadAnswer.{ReadAnswer}
use Rattle.hub_acts.specs.declared.answers.ReadAnswer.TheVariants as read
use Rattle.hub_acts.specs.Hubs.{HubState, HubCalls, FitsRead}
use Rattle.machine.specs.Connections.{Connection, is_live}
use Rattle.machine.specs.States.{State}
use Rattle.machine.specs.Screens.{connection, lives}
use Rattle.machine.specs.Queues.{total}
use Rattle.machine.specs.Readings.{reads}
use Rattle.machine.specs.Happenings.{IsOpen}
use Rattle.machine.specs.Happenings as machine
use Rattle.reached_states.specs.Reaching.{Reached}
use Rattle.attentive_acts.specs.Telling.{state_after}
use Rattle.attentive_acts.specs.Flags.{Flags, flags_with, has_flag, is_readable}
use Rattle.attentive_acts.specs.Places.{Place, Reads, at_reads, place_after}
use Rattle.attentive_acts.specs.Judging.{Judge, Allows, AllowsAt, HasBytes, judge_after, most_moved}
use Rattle.engine_loop.specs.declared.watch.Watch.{Watch}
use Rattle.engine_loop.specs.declared.watch.Change.TheVariants.{ReadsDrained}
use Rattle.server_engine.specs.Engines.{Steps, Reads as Reading}
use Rattle.engine_loop.proofs.WatchFlags.{IsChanged, sets-read, changed-seen}
use Rattle.engine_loop.specs.Watches.{flags_of, serials_in, AreSeen}
use Rattle.engine_loop.specs.Stages.{Course, Stage, Cut, Is}
use Rattle.engine_loop.proofs.MoreActs.{Acted, IsTransitive, Moves, moves-by, moves-none, stage-more, cut-more, elsewhere}

-- ---- what is due

pub lives-open : (s : State) (serial : ℕ) → lives s serial ≡ true → IsOpen s serial
lives-open s serial h = by (connection s serial) h
  where
    by : (o : Option Connection) → option_map_or is_live o false ≡ true → is_some o ≡ true
    by None k = k
    by (Some c) k = refl

pub readable : (j : Judge) (watch : Watch) (serial : ℕ) → j.flags ≡ flags_of (total j.state.routed) watch → has_flag (λ f. f.reads) serial (flags_of (total j.state.routed) watch) ≡ true → reads j.state serial ≡ true → is_readable j.flags j.state serial ≡ true
readable j watch serial fs h k = ap (λ (f : Flags). has_flag (λ g. g.reads) serial f && reads j.state serial) fs ∙ ap (λ (b : Bool). b && reads j.state serial) h ∙ k

pub no-flag : (j : Judge) (watch : Watch) (serial : ℕ) → j.flags ≡ flags_of (total j.state.routed) watch → has_flag (λ f. f.reads) serial (flags_of (total j.state.routed) watch) ≡ false → is_readable j.flags j.state serial ≡ false
no-flag j watch serial fs h = ap (λ (f : Flags). has_flag (λ g. g.reads) serial f && reads j.state serial) fs ∙ ap (λ (b : Bool). b && reads j.state serial) h

and_false : (b : Bool) → (b && false) ≡ false
and_false true = refl
and_false false = refl

pub not-read : (j : Judge) (serial : ℕ) → reads j.state serial ≡ false → is_readable j.flags j.state serial ≡ false
not-read j serial h = ap (λ (b : Bool). has_flag (λ g. g.reads) serial j.flags && b) h ∙ and_false (has_flag (λ g. g.reads) serial j.flags)

-- it is passed by
pub pass-read : {E H : Type 0} (serves : E → List ℕ → State → Type 0) (state : H → HubState) (leads : H → H → Type 0) (r : Course H) (core : E) (hub : H) (watch : Watch) (serial : ℕ) (rest : List ℕ)
    → (st : Stage serves state leads r core hub watch (Is (λ fs s. at_reads fs s (serial ∷ rest)))) → is_readable st.judge.flags st.judge.state serial ≡ false
    → Stage serves state leads r core hub watch (Is (λ fs s. at_reads fs s rest))
pass-read serves state leads r core hub watch serial rest st e =
    elsewhere serves state leads r core hub watch (Is (λ fs s. at_reads fs s (serial ∷ rest))) (Is (λ fs s. at_reads fs s rest)) st
    (st.there ∙ ap (λ (b : Bool). cond b (Reads (serial ∷ rest)) (at_reads st.judge.flags st.judge.state rest)) e)

here : (j : Judge) (serial : ℕ) (rest : List ℕ) → j.place ≡ at_reads j.flags j.state (serial ∷ rest) → is_readable j.flags j.state serial ≡ true → j.place ≡ Reads (serial ∷ rest)
here j serial rest p e = p ∙ ap (λ (b : Bool). cond b (Reads (serial ∷ rest)) (at_reads j.flags j.state rest)) e

-- what was read suits the act
pub record IsRead (j : Judge) (serial room : ℕ) (answer : ReadAnswer) (bytes : List ℕ) : Type 0 where
  pub room_is : room ≡ most_moved
  pub fits : FitsRead answer room
  pub bytes_are : HasBytes answer bytes
  pub readable : is_readable j.flags j.state serial ≡ true

allowed : (j : Judge) (serial room : ℕ) (answer : ReadAnswer) (bytes rest : List ℕ) → j.place ≡ at_reads j.flags j.state (serial ∷ rest) → IsRead j serial room answer bytes → Allows j (act.Read serial room answer bytes)
allowed j serial room answer bytes rest p is = subst (λ (q : Place). AllowsAt q j (act.Read serial room answer bytes)) (sym (here j serial rest p is.readable)) (refl, is.room_is, is.fits, is.bytes_are, is.readable)

pub read-more : {E H : Type 0} (serves : E → List ℕ → State → Type 0) (state : H → HubState) (leads : H → H → Type 0) (r : Course H) (core core' : E) (hub hub' : H) (watch watch' : Watch) (serial room : ℕ) (answer : ReadAnswer) (bytes rest : List ℕ)
    → IsTransitive leads → Acted state leads hub hub' (act.Read serial room answer bytes)
    → (st : Stage serves state leads r core hub watch (Is (λ fs s. at_reads fs s (serial ∷ rest))))
    → IsRead st.judge serial room answer bytes
    → flags_with (act.Read serial room answer bytes) (flags_of (total st.judge.state.routed) watch) ≡ flags_of (total st.judge.state.routed) watch' → AreSeen (total st.judge.state.routed) watch'.streams.items → serials_in watch' ≡ serials_in watch
    → Moves r.origin st.judge.latest st.judge.state (act.Read serial room answer bytes) → serves core' r.front (state_after (act.Read serial room answer bytes) st.judge.state)
    → Stage serves state leads r core' hub' watch' (Is (λ fs s. at_reads fs s rest))
read-more serves state leads r core core' hub hub' watch watch' serial room answer bytes rest trans acted st is fs seen ws moves served =
    let a : Act = act.Read serial room answer bytes in
    let j : Judge = st.judge in
    let after : Judge = judge_after j a in
    stage-more serves state leads r core core' hub hub' watch watch' (Is (λ f s. at_reads f s (serial ∷ rest))) (Is (λ f s. at_reads f s rest)) a trans acted st fs seen ws moves
    (allowed j serial room answer bytes rest st.there is) served (ap (λ (p : Place). place_after p a after.flags after.state) (here j serial rest st.there is.readable))

pub read-cut : {E H : Type 0} (serves : E → List ℕ → State → Type 0) (state : H → HubState) (leads : H → H → Type 0) (r : Course H) (core : E) (hub hub' : H) (watch : Watch) (serial room : ℕ) (answer : ReadAnswer) (bytes rest : List ℕ)
    → IsTransitive leads → Acted state leads hub hub' (act.Read serial room answer bytes)
    → (st : Stage serves state leads r core hub watch (Is (λ fs s. at_reads fs s (serial ∷ rest))))
    → IsRead st.judge serial room answer bytes
    → Moves r.origin st.judge.latest st.judge.state (act.Read serial room answer bytes)
    → Cut state leads r hub'
read-cut serves state leads r core hub hub' watch serial room answer bytes rest trans acted st is moves =
    cut-more serves state leads r core hub hub' watch (Is (λ f s. at_reads f s (serial ∷ rest))) (act.Read serial room answer bytes) trans acted st moves
    (allowed st.judge serial room answer bytes rest st.there is)

-- ---- where the machine goes

pub moves-got : {H : Type 0} (r : Course H) (j : Judge) (serial room n : ℕ) (bytes : List ℕ) → Reached r.origin j.latest j.state → IsOpen j.state serial → Moves r.origin j.latest j.state (act.Read serial room (read.Got n) bytes)
moves-got r j serial room n bytes reached is = moves-by r.origin j.latest j.state (act.Read serial room (read.Got n) bytes) (machine.Got serial bytes) refl refl refl reached is

pub moves-end : {H : Type 0} (r : Course H) (j : Judge) (serial room : ℕ) (bytes : List ℕ) → Reached r.origin j.latest j.state → IsOpen j.state serial → Moves r.origin j.latest j.state (act.Read serial room read.End bytes)
moves-end r j serial room bytes reached is = moves-by r.origin j.latest j.state (act.Read serial room read.End bytes) (machine.Ended serial) refl refl refl reached is

pub moves-failed : {H : Type 0} (r : Course H) (j : Judge) (serial room : ℕ) (bytes : List ℕ) → Reached r.origin j.latest j.state → IsOpen j.state serial → Moves r.origin j.latest j.state (act.Read serial room read.Failed bytes)
moves-failed r j serial room bytes reached is = moves-by r.origin j.latest j.state (act.Read serial room read.Failed bytes) (machine.Failed serial) refl refl refl reached is

pub moves-not_now : {H : Type 0} (r : Course H) (j : Judge) (serial room : ℕ) (bytes : List ℕ) → Reached r.origin j.latest j.state → Moves r.origin j.latest j.state (act.Read serial room read.NotNow bytes)
moves-not_now r j serial room bytes reached = moves-none r.origin j.latest j.state (act.Read serial room read.NotNow bytes) refl refl refl reached

-- ---- each answer

pub record CanRead {E : Type 0} (serves : E → List ℕ → State → Type 0) (core : E) (watch : Watch) (serial : ℕ) : Type 0 where
  pub flag : (totals : ℕ → ℕ) → has_flag (λ f. f.reads) serial (flags_of totals watch) ≡ true
  pub reads_it : Reading serves core true (λ s. reads s serial)

module _ {E H : Type 0} (serves : E → List ℕ → State → Type 0) (state : H → HubState) (leads : H → H → Type 0) (trans : IsTransitive leads) (r : Course H) (core core' : E) (hub hub' : H) (watch watch' : Watch) (serial : ℕ) (buf : List ℕ) (full : length buf ≡ most_moved) (rest : List ℕ) (can : CanRead serves core watch serial) (led : leads hub hub') (st : Stage serves state leads r core hub watch (Is (λ fs s. at_reads fs s (serial ∷ rest)))) where
  lives_now : reads st.judge.state serial ≡ true
  lives_now = sym (can.reads_it r.origin st.judge.latest r.front st.judge.state st.reached st.served)

  open_is : IsOpen st.judge.state serial
  open_is = lives-open st.judge.state serial lives_now

  is_now : is_readable st.judge.flags st.judge.state serial ≡ true
  is_now = readable st.judge watch serial st.flags (can.flag (total st.judge.state.routed)) lives_now

  got_is : (n : ℕ) → FitsRead (read.Got n) (length buf) → IsRead st.judge serial (length buf) (read.Got n) (take n buf)
  got_is n fits = record { room_is = full; fits = fits; bytes_are = (let l = length-take n buf in let k = fits.1 in omega (arith, l, k)); readable = is_now }

  pub got-reads : (n : ℕ) → FitsRead (read.Got n) (length buf) → HubCalls (Some (act.Read serial (length buf) (read.Got n) (take n buf))) (state hub) (state hub') → Steps serves core core' (machine.Got serial (take n buf))
      → Stage serves state leads r core' hub' watch (Is (λ fs s. at_reads fs s rest))
  got-reads n fits calls steps = read-more serves state leads r core core' hub hub' watch watch serial (length buf) (read.Got n) (take n buf) rest trans (record { calls = calls; led = led; calm = refl; goes = refl; answered = refl }) st (got_is n fits) refl st.seen refl
      (moves-got r st.judge serial (length buf) n (take n buf) st.reached open_is) (steps r.origin st.judge.latest r.front st.judge.state st.reached open_is st.served)

  pub got-cuts : (n : ℕ) → FitsRead (read.Got n) (length buf) → HubCalls (Some (act.Read serial (length buf) (read.Got n) (take n buf))) (state hub) (state hub') → Cut state leads r hub'
  got-cuts n fits calls = read-cut serves state leads r core hub hub' watch serial (length buf) (read.Got n) (take n buf) rest trans (record { calls = calls; led = led; calm = refl; goes = refl; answered = refl }) st (got_is n fits)
      (moves-got r st.judge serial (length buf) n (take n buf) st.reached open_is)

  end_is : IsRead st.judge serial (length buf) read.End []
  end_is = record { room_is = full; fits = tt; bytes_are = refl; readable = is_now }

  pub end-reads : IsChanged watch watch' serial ReadsDrained → HubCalls (Some (act.Read serial (length buf) read.End [])) (state hub) (state hub') → Steps serves core core' (machine.Ended serial)
      → Stage serves state leads r core' hub' watch' (Is (λ fs s. at_reads fs s rest))
  end-reads is calls steps =
      let sets = sets-read watch watch' serial is in
      read-more serves state leads r core core' hub hub' watch watch' serial (length buf) read.End [] rest trans (record { calls = calls; led = led; calm = refl; goes = refl; answered = refl }) st end_is (sym (sets.flags (total st.judge.state.routed))) (changed-seen watch watch' serial ReadsDrained (total st.judge.state.routed) tt is st.seen) sets.serials
      (moves-end r st.judge serial (length buf) [] st.reached open_is) (steps r.origin st.judge.latest r.front st.judge.state st.reached open_is st.served)

  pub end-cuts : HubCalls (Some (act.Read serial (length buf) read.End [])) (state hub) (state hub') → Cut state leads r hub'
  end-cuts calls = read-cut serves state leads r core hub hub' watch serial (length buf) read.End [] rest trans (record { calls = calls; led = led; calm = refl; goes = refl; answered = refl }) st end_is
      (moves-end r st.judge serial (length buf) [] st.reached open_is)

  failed_is : IsRead st.judge serial (length buf) read.Failed []
  failed_is = record { room_is = full; fits = tt; bytes_are = refl; readable = is_now }

  pub failed-reads : IsChanged watch watch' serial ReadsDrained → HubCalls (Some (act.Read serial (length buf) read.Failed [])) (state hub) (state hub') → Steps serves core core' (machine.Failed serial)
      → Stage serves state leads r core' hub' watch' (Is (λ fs s. at_reads fs s rest))
  failed-reads is calls steps =
      let sets = sets-read watch watch' serial is in
      read-more serves state leads r core core' hub hub' watch watch' serial (length buf) read.Failed [] rest trans (record { calls = calls; led = led; calm = refl; goes = refl; answered = refl }) st failed_is (sym (sets.flags (total st.judge.state.routed))) (changed-seen watch watch' serial ReadsDrained (total st.judge.state.routed) tt is st.seen) sets.serials
      (moves-failed r st.judge serial (length buf) [] st.reached open_is) (steps r.origin st.judge.latest r.front st.judge.state st.reached open_is st.served)

  pub failed-cuts : HubCalls (Some (act.Read serial (length buf) read.Failed [])) (state hub) (state hub') → Cut state leads r hub'
  failed-cuts calls = read-cut serves state leads r core hub hub' watch serial (length buf) read.Failed [] rest trans (record { calls = calls; led = led; calm = refl; goes = refl; answered = refl }) st failed_is
      (moves-failed r st.judge serial (length buf) [] st.reached open_is)

  pub none-reads : IsChanged watch watch' serial ReadsDrained → HubCalls (Some (act.Read serial (length buf) read.NotNow [])) (state hub) (state hub')
      → Stage serves state leads r core hub' watch' (Is (λ fs s. at_reads fs s rest))
  none-reads is calls =
      let sets = sets-read watch watch' serial is in
      read-more serves state leads r core core hub hub' watch watch' serial (length buf) read.NotNow [] rest trans (record { calls = calls; led = led; calm = refl; goes = refl; answered = refl }) st
      (record { room_is = full; fits = tt; bytes_are = refl; readable = is_now }) (sym (sets.flags (total st.judge.state.routed))) (changed-seen watch watch' serial ReadsDrained (total st.judge.state.routed) tt is st.seen) sets.serials
      (moves-not_now r st.judge serial (length buf) [] st.reached) st.served
