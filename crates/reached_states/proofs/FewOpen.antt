-- Few connections are open, but for those that part at once as there are too many.
use Rattle.std.specs.Prelude.{◌≡◌, refl, ℕ, ◌<◌, ◌≤◌, nat_le, Bool, true, false, not, ◌&&◌, ◌||◌, ◌==◌, cond, List, [], ◌∷◌, ◌++◌, length, filter, Option, Some, None}
use Rattle.std.specs.List.{list_all, list_any, find}
use Rattle.std.specs.Option.{option_map, option_and_then}
use Rattle.std.proofs.Common.{arith, ap, sym, subst, ◌∙◌}
use Rattle.std.proofs.lemmas.Bool.{and_parts}
use Rattle.std.proofs.lemmas.Bool.Decides.{nat_tests}
use Rattle.std.proofs.lemmas.List.{length-append, map-append}
use Rattle.share_base.proofs.ListTests.{all_append, none_of_find}
use Rattle.hello_states.specs.declared.part_cause.PartCause.{PartCause}
use Rattle.hello_states.specs.declared.part_cause.PartCause.TheVariants as cause
use Rattle.hello_states.specs.Causes.{drops_queue}
use Rattle.hello_states.specs.Phases.{Phase, Greeting, Asked, Joined, Parting, is_parting}
use Rattle.machine.specs.Connections.{Connection, fresh, has_serial, is_live, changed, changed_at, serials}
use Rattle.machine.specs.States.{State}
use Rattle.machine.specs.Combining.{when, for_some, unchanged}
use Rattle.machine.specs.Screens.{screen_in}
use Rattle.machine.specs.Partings.{lose, parted, marked, part}
use Rattle.machine.specs.Readings.{closing, is_to_close, is_to_close_in}
use Rattle.machine.specs.Acceptance.{most_open, opened, greet, accept}
use Rattle.machine.specs.Happenings.{Happening, IsAllowed}
use Rattle.machine.specs.Happenings as happening
use Rattle.machine.specs.Steps.{drops, takes, step}
use Rattle.machine.proofs.Rules.{choose-keeps}
use Rattle.machine.proofs.Live.{lives_as, IsTame, PartsNone, parted-tame, drops-tame}
use Rattle.machine.proofs.Invariant.{View, On, IsInvariant}
use Rattle.machine.proofs.AnyButton.{any, any_origin, of-connections}
use Rattle.machine.proofs.BelowLatest.{BelowLatest, connection_upto}
use Rattle.machine.proofs.KeepSteps.{takes-tame, got-keeps, breaks-keeps, close-keeps, moment-keeps}
use Rattle.machine.proofs.FirstEntries.{finds-new}
use Rattle.machine.proofs.OpenSerials.{changed-serials, removed-serials}
use Rattle.reached_states.specs.OpenSerials.{Rise}
use Rattle.reached_states.specs.FewOpen.{is_full_in, is_counted, FewAreOpen}
use Rattle.reached_states.proofs.ReachedAll.{reached-all-below}
use Rattle.reached_states.proofs.EachConnection.{or-true, each-kept, all-fewer}
use Rattle.reached_states.proofs.Rising.{above-same, above-none, rise-push, rise-filter}

-- ---- one connection

-- it is counted, or its bytes are dropped
abbrev full_drops : Connection → Bool
full_drops c = is_counted c || c.is_dropped

live_counted : (phase : Phase) → not (is_parting phase) ≡ true → is_full_in phase ≡ false
live_counted (Greeting a) on = refl
live_counted (Asked a) on = refl
live_counted (Joined a) on = refl
live_counted (Parting why moment) on = absurd cc

full_off : (phase : Phase) → is_full_in phase ≡ true → not (is_parting phase) ≡ false
full_off (Greeting a) h = absurd cc
full_off (Asked a) h = absurd cc
full_off (Joined a) h = absurd cc
full_off (Parting why moment) h = refl

not_not : (b : Bool) → not b ≡ false → b ≡ true
not_not true h = refl
not_not false h = absurd cc

counted_kept : (f : Connection → Connection) → PartsNone f → (c : Connection) → is_counted c ≡ false → is_counted (f c) ≡ false
counted_kept f none c h =
    let off : is_live c ≡ false = full_off c.phase (not_not (is_full_in c.phase) h) in
    ap (λ (phase : Phase). not (is_full_in phase)) ((none c).2 off) ∙ h

drops_kept : (f : Connection → Connection) → PartsNone f → (c : Connection) → full_drops c ≡ true → full_drops (f c) ≡ true
drops_kept f none c h = at (is_live c) refl
  where
    at : (b : Bool) → is_live c ≡ b → full_drops (f c) ≡ true
    at true e = ap (λ (b : Bool). not b || (f c).is_dropped) (live_counted (f c).phase ((none c).1 e))
    at false e = ap (λ (phase : Phase). not (is_full_in phase) || (f c).is_dropped) ((none c).2 e) ∙ ap (λ (b : Bool). is_counted c || b) (none c).0 ∙ h

cause_drops : (why : PartCause) (moment : ℕ) → (not (is_full_in (Parting why moment)) || drops_queue why) ≡ true
cause_drops cause.Full moment = refl
cause_drops why moment = refl

-- ---- how many are counted

counts : (c d : Connection) (cs ds : List Connection) → (is_counted c ≡ false → is_counted d ≡ false) → length (filter is_counted ds) ≤ length (filter is_counted cs) → length (filter is_counted (d ∷ ds)) ≤ length (filter is_counted (c ∷ cs))
counts c d cs ds k rest = at (is_counted d) refl (is_counted c) refl
  where
    at : (t : Bool) → is_counted d ≡ t → (b : Bool) → is_counted c ≡ b → length (cond t (d ∷ filter is_counted ds) (filter is_counted ds)) ≤ length (cond b (c ∷ filter is_counted cs) (filter is_counted cs))
    at true e true g = omega arith
    at true e false g = let no : is_counted d ≡ false = k g in absurd cc
    at false e true g = omega arith
    at false e false g = rest

count_mapped : (f : Connection → Connection) → ((c : Connection) → is_counted c ≡ false → is_counted (f c) ≡ false) → (serial : ℕ) (cs : List Connection) → length (filter is_counted (changed serial f cs)) ≤ length (filter is_counted cs)
count_mapped f kept serial [] = omega arith
count_mapped f kept serial (c ∷ cs) = counts c (changed_at serial f c) cs (changed serial f cs) (at (has_serial serial c)) (count_mapped f kept serial cs)
  where
    at : (b : Bool) → is_counted c ≡ false → is_counted (when b f c) ≡ false
    at true e = kept c e
    at false e = e

-- where the one that parts lived
count_parted : (low serial : ℕ) (why : PartCause) (now : ℕ) (cs : List Connection) → Rise low (serials cs) → list_any (lives_as serial) cs ≡ true → length (filter is_counted (changed serial (parted why now) cs)) ≤ length (filter is_counted cs)
count_parted low serial why now [] r h = omega arith
count_parted low serial why now (c ∷ cs) r h = at (has_serial serial c) refl h (count_parted c.serial serial why now cs r.1)
  where
    lived : (b t : Bool) → (b || t) ≡ true → t ≡ false → b ≡ true
    lived true t h k = refl
    lived false t h k = absurd cc

    at : (b : Bool) → has_serial serial c ≡ b → ((b && is_live c) || list_any (lives_as serial) cs) ≡ true
        → (list_any (lives_as serial) cs ≡ true → length (filter is_counted (changed serial (parted why now) cs)) ≤ length (filter is_counted cs))
        → length (filter is_counted (when b (parted why now) c ∷ changed serial (parted why now) cs)) ≤ length (filter is_counted (c ∷ cs))
    at true e k later =
        let is : c.serial ≡ serial = grind (arith, e) in
        let le : serial ≤ c.serial = omega arith in
        let on : is_live c ≡ true = lived (is_live c) (list_any (lives_as serial) cs) k (above-none c.serial serial cs le r.1) in
        let same : length (filter is_counted (changed serial (parted why now) cs)) ≡ length (filter is_counted cs) = ap (λ (ds : List Connection). length (filter is_counted ds)) (above-same c.serial serial (parted why now) cs le r.1) in
        counts c (parted why now c) cs (changed serial (parted why now) cs) (λ off. let no : is_counted c ≡ true = ap not (live_counted c.phase on) in absurd cc) (omega arith)
    at false e k later = counts c c cs (changed serial (parted why now) cs) (λ off. off) (later k)

count_fewer : (keep : Connection → Bool) (cs : List Connection) → length (filter is_counted (filter keep cs)) ≤ length (filter is_counted cs)
count_fewer keep [] = omega arith
count_fewer keep (c ∷ cs) = at (keep c) (count_fewer keep cs)
  where
    more : (b : Bool) → length (filter is_counted (filter keep cs)) ≤ length (filter is_counted cs) → length (filter is_counted (filter keep cs)) ≤ length (cond b (c ∷ filter is_counted cs) (filter is_counted cs))
    more true rest = omega arith
    more false rest = rest

    at : (b : Bool) → length (filter is_counted (filter keep cs)) ≤ length (filter is_counted cs) → length (filter is_counted (cond b (c ∷ filter keep cs) (filter keep cs))) ≤ length (filter is_counted (c ∷ cs))
    at true rest = counts c c cs (filter keep cs) (λ off. off) rest
    at false rest = more (is_counted c) rest

count_upto : (cs : List Connection) → length (filter is_counted cs) ≤ length cs
count_upto [] = omega arith
count_upto (c ∷ cs) = at (is_counted c) (count_upto cs)
  where
    at : (b : Bool) → length (filter is_counted cs) ≤ length cs → length (cond b (c ∷ filter is_counted cs) (filter is_counted cs)) ≤ length (c ∷ cs)
    at true rest = omega arith
    at false rest = omega arith

-- ---- the invariant

record AreFew (cs : List Connection) : Type 0 where
  rise : Rise 0 (serials cs)
  dropped : list_all full_drops cs ≡ true
  few : length (filter is_counted cs) ≤ most_open

abbrev Few : View → Type 0
Few v = AreFew v.connections

few_changed : (serial : ℕ) (f : Connection → Connection) → IsTame f → PartsNone f → (cs : List Connection) → AreFew cs → AreFew (changed serial f cs)
few_changed serial f tame none cs h =
    let less = count_mapped f (counted_kept f none) serial cs in
    let most = h.few in
    record {
      rise = subst (Rise 0) (sym (changed-serials serial f tame cs)) h.rise;
      dropped = each-kept full_drops f serial (drops_kept f none) cs h.dropped;
      few = omega arith;
    }

few_dropped : (serial : ℕ) (cs : List Connection) → AreFew cs → AreFew (changed serial drops cs)
few_dropped serial cs h =
    let less = count_mapped drops (λ c off. off) serial cs in
    let most = h.few in
    record {
      rise = subst (Rise 0) (sym (changed-serials serial drops drops-tame cs)) h.rise;
      dropped = each-kept full_drops drops serial (λ c e. or-true (is_counted c)) cs h.dropped;
      few = omega arith;
    }

few_parted : (serial : ℕ) (why : PartCause) (now : ℕ) (cs : List Connection) → list_any (lives_as serial) cs ≡ true → AreFew cs → AreFew (changed serial (parted why now) cs)
few_parted serial why now cs on h =
    let less = count_parted 0 serial why now cs h.rise on in
    let most = h.few in
    record {
      rise = subst (Rise 0) (sym (changed-serials serial (parted why now) (parted-tame why now) cs)) h.rise;
      dropped = each-kept full_drops (parted why now) serial (λ c e. cause_drops why _) cs h.dropped;
      few = omega arith;
    }

invariant : IsInvariant any any_origin Few
invariant = of-connections AreFew
    (λ serial f tame same none cs h. few_changed serial f tame none cs h)
    (λ why serial now cs on h. few_parted serial why now cs on h)
    (λ serial s off h. few_dropped serial s.connections h)

-- ---- a new connection

few_opened : (latest serial : ℕ) (s : State) → latest < serial → On (BelowLatest latest) s → length s.connections < most_open → On Few s → On Few (opened serial s)
few_opened latest serial s above below room h =
    let new : Connection = fresh serial s.at in
    let upto = count_upto (s.connections ++ new ∷ []) in
    let long = length-append s.connections (new ∷ []) in
    record {
      rise = subst (Rise 0) (sym (map-append (λ (c : Connection). c.serial) s.connections (new ∷ []))) (rise-push 0 latest serial s.connections (omega arith) above below.connections h.rise);
      dropped = all_append full_drops s.connections (new ∷ []) h.dropped refl;
      few = omega arith;
    }

other : (latest serial : ℕ) (c : Connection) → latest < serial → connection_upto latest c ≡ true → has_serial serial c ≡ false
other latest serial c above h = grind (arith, nat_tests, above, h)

count_full : (latest serial now : ℕ) (new : Connection) (cs : List Connection) → latest < serial → has_serial serial new ≡ true → list_all (connection_upto latest) cs ≡ true → length (filter is_counted (changed serial (parted cause.Full now) (cs ++ new ∷ []))) ≤ length (filter is_counted cs)
count_full latest serial now new [] above e h = at (has_serial serial new) e
  where
    at : (b : Bool) → b ≡ true → length (filter is_counted (when b (parted cause.Full now) new ∷ [])) ≤ length (filter is_counted [])
    at true k = omega arith
    at false k = absurd cc
count_full latest serial now new (c ∷ cs) above e h =
    let parts = and_parts (connection_upto latest c) (list_all (connection_upto latest) cs) h in
    at (has_serial serial c) (other latest serial c above parts.0) (count_full latest serial now new cs above e parts.1)
  where
    at : (b : Bool) → b ≡ false → length (filter is_counted (changed serial (parted cause.Full now) (cs ++ new ∷ []))) ≤ length (filter is_counted cs) → length (filter is_counted (when b (parted cause.Full now) c ∷ changed serial (parted cause.Full now) (cs ++ new ∷ []))) ≤ length (filter is_counted (c ∷ cs))
    at true k rest = absurd cc
    at false k rest = counts c c cs (changed serial (parted cause.Full now) (cs ++ new ∷ [])) (λ off. off) rest

few_full : (latest serial : ℕ) (s : State) → latest < serial → On (BelowLatest latest) s → On Few s → On Few (part cause.Full serial (opened serial s))
few_full latest serial s above below h =
    let there : State = opened serial s in
    let new : Connection = fresh serial s.at in
    let is_new : has_serial serial new ≡ true = grind arith in
    let rises : Rise 0 (serials there.connections) = subst (Rise 0) (sym (map-append (λ (c : Connection). c.serial) s.connections (new ∷ []))) (rise-push 0 latest serial s.connections (omega arith) above below.connections h.rise) in
    let less = count_full latest serial s.at new s.connections above is_new below.connections in
    let most = h.few in
    let done : On Few (marked cause.Full serial there) = record {
      rise = subst (Rise 0) (sym (changed-serials serial (parted cause.Full s.at) (parted-tame cause.Full s.at) there.connections)) rises;
      dropped = each-kept full_drops (parted cause.Full s.at) serial (λ c e. refl) there.connections (all_append full_drops s.connections (new ∷ []) h.dropped refl);
      few = omega arith;
    } in
    subst (λ (o : Option Connection). On Few (for_some (option_and_then screen_in o) (lose serial) unchanged (marked cause.Full serial there))) (sym (finds-new latest serial new s.connections above is_new below.connections)) done

few_accepted : (latest serial : ℕ) (s : State) → latest < serial → On (BelowLatest latest) s → On Few s → On Few (accept serial s)
few_accepted latest serial s above below h = choose-keeps (On Few) (nat_le most_open (length s.connections)) (part cause.Full serial) (greet serial) (opened serial s) (λ e. few_full latest serial s above below h) (λ e. few_opened latest serial s above below (grind (arith, nat_tests, e)) h)

few_step : (latest : ℕ) (s : State) (h : Happening) → IsAllowed latest s h → On (BelowLatest latest) s → On Few s → On Few (step s h)
few_step latest s (happening.Joined serial) a below k = few_accepted latest serial s a below k
few_step latest s (happening.Got serial piece) a below k = got-keeps invariant serial piece s k
few_step latest s (happening.Ended serial) a below k = breaks-keeps invariant cause.Ended serial s k
few_step latest s (happening.Failed serial) a below k = breaks-keeps invariant cause.Failed serial s k
few_step latest s (happening.Took serial count) a below k = few_changed serial (takes count) (takes-tame count) (λ c. (refl, λ on. on, λ off. refl)) s.connections k
few_step latest s (happening.Moment t) a below k = moment-keeps invariant (λ n. refl) (λ n. refl) t s k
few_step latest s (happening.Closed serial) a below k =
    let less = count_fewer (λ c. not (has_serial serial c)) s.connections in
    let most = k.few in
    close-keeps invariant serial s (record {
      rise = subst (Rise 0) (sym (removed-serials serial s.connections)) (rise-filter (λ n. not (n == serial)) 0 (serials s.connections) k.rise);
      dropped = all-fewer full_drops (λ c. not (has_serial serial c)) s.connections k.dropped;
      few = omega arith;
    })

-- ---- where none is to be closed

clash : (d t u : Bool) → d ≡ true → (not (not d && t) || u) ≡ false → ⊥
clash true t u h k = cc
clash false t u h k = cc

counted_unless : (s : State) (c : Connection) (phase : Phase) → (not (is_full_in phase) || c.is_dropped) ≡ true → is_to_close_in phase s c ≡ false → not (is_full_in phase) ≡ true
counted_unless s c (Greeting a) h k = refl
counted_unless s c (Asked a) h k = refl
counted_unless s c (Joined a) h k = refl
counted_unless s c (Parting cause.Full moment) h k = absurd (clash c.is_dropped _ _ h k)
counted_unless s c (Parting why moment) h k = refl

all_counted : (s : State) (cs : List Connection) → list_all full_drops cs ≡ true → list_all (λ c. not (is_to_close s c)) cs ≡ true → length (filter is_counted cs) ≡ length cs
all_counted s [] h k = refl
all_counted s (c ∷ cs) h k =
    let parts = and_parts (full_drops c) (list_all full_drops cs) h in
    let stays = and_parts (not (is_to_close s c)) (list_all (λ d. not (is_to_close s d)) cs) k in
    let none : is_to_close s c ≡ false = let e = stays.0 in grind (arith, e) in
    at (is_counted c) (counted_unless s c c.phase parts.0 none) (all_counted s cs parts.1 stays.1)
  where
    at : (b : Bool) → b ≡ true → length (filter is_counted cs) ≡ length cs → length (cond b (c ∷ filter is_counted cs) (filter is_counted cs)) ≡ length (c ∷ cs)
    at true e rest = omega arith
    at false e rest = absurd cc

none_closing : (s : State) → closing s ≡ None → list_all (λ c. not (is_to_close s c)) s.connections ≡ true
none_closing s h = at (find (is_to_close s) s.connections) refl h
  where
    at : (o : Option Connection) → find (is_to_close s) s.connections ≡ o → option_map (λ (c : Connection). c.serial) o ≡ None → list_all (λ c. not (is_to_close s c)) s.connections ≡ true
    at None e k = none_of_find (is_to_close s) s.connections e
    at (Some c) e k = absurd cc

pub few-are-open : FewAreOpen
few-are-open o latest s r =
    let few : On Few s = reached-all-below (λ n t. On Few t) few_step o latest s (record { rise = tt; dropped = refl; few = omega arith }) r in
    let most = few.few in
    record {
      counted = few.few;
      settled = λ e. let all = all_counted s s.connections few.dropped (none_closing s e) in omega arith;
    }
