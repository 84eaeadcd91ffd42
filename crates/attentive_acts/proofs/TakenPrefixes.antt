-- What a connection has taken is a front of its queue, over any attentive acts.
use Rattle.std.specs.Prelude.{◌≡◌, refl, ℕ, ◌+◌, ◌<◌, ◌≤◌, Bool, true, false, cond, ◌==◌, List, [], ◌∷◌, ◌++◌, length, take, drop, unwrap_or, Option, Some, None}
use Rattle.std.specs.List.{list_all}
use Rattle.std.specs.Option.{option_map, option_map_or}
use Rattle.std.proofs.Common.{arith, ap, sym, subst, ◌∙◌, append_assoc}
use Rattle.std.proofs.lemmas.Bool.{and_parts}
use Rattle.std.proofs.lemmas.Bool.Decides.{nat_tests}
use Rattle.std.proofs.lemmas.List.{append-nil, length-append, length-take}
use Rattle.std.proofs.lemmas.Grind.{flat_map-append}
use Rattle.share_base.specs.Fronts.{IsFront}
use Rattle.screen_config.specs.Configurations.{Configuration}
use Rattle.hello_states.specs.declared.part_cause.PartCause.TheVariants as cause
use Rattle.hub_acts.specs.declared.act.Act.{Act}
use Rattle.hub_acts.specs.declared.act.Act.TheVariants as act
use Rattle.hub_acts.specs.declared.answers.AcceptAnswer.TheVariants as accepted
use Rattle.hub_acts.specs.declared.answers.ReadAnswer.TheVariants as read
use Rattle.hub_acts.specs.declared.answers.WriteAnswer.TheVariants as written
use Rattle.hub_acts.specs.Counting.{latest_with}
use Rattle.machine.specs.Scripts.{Script}
use Rattle.machine.specs.Targets.{Entry}
use Rattle.machine.specs.Connections.{Connection, fresh, has_serial, with_serial}
use Rattle.machine.specs.States.{State}
use Rattle.machine.specs.Screens.{connection, taken_by, has_untaken}
use Rattle.machine.specs.Queues.{queue}
use Rattle.machine.specs.Acceptance.{start}
use Rattle.machine.specs.Happenings.{Joined, Got, Ended, Failed, Took, Moment, Closed}
use Rattle.machine.specs.Steps.{step, takes}
use Rattle.machine.proofs.Finding.{none_some}
use Rattle.machine.proofs.Invariant.{On}
use Rattle.machine.proofs.KeepSteps.{takes-tame, got-keeps, breaks-keeps, close-keeps, moment-keeps}
use Rattle.machine.proofs.BelowLatest.{BelowLatest, connection_upto}
use Rattle.machine.proofs.BelowLatest as below
use Rattle.machine.proofs.Growing.{Grows}
use Rattle.machine.proofs.Growing as growing
use Rattle.machine.proofs.GrowingQueues.{queue-grows}
use Rattle.machine.proofs.TakenStays.{HasTaken, TakenStays, took-stays, removed-stays, appended-stays}
use Rattle.machine.proofs.TakenStays as taken
use Rattle.machine.proofs.Runs.{accept-keeps, step-below, start-below}
use Rattle.attentive_acts.specs.Telling.{state_after}
use Rattle.attentive_acts.specs.Flags.{has_flag, has_more}
use Rattle.attentive_acts.specs.Places.{Place, Waits, Asks, Accepts, Reads, Writes, Closes, Leaves}
use Rattle.attentive_acts.specs.Judging.{Judge, AllowsAt, Follows, IsPiece, judge_after, judged, first_judge}
use Rattle.attentive_acts.specs.Laws.{taken_in, taken_bytes, AreAttentive, judge_of}
use Rattle.attentive_acts.proofs.GrowingQueues.{front-grows, front-more}

pub record Holds (latest : ℕ) (s : State) (acts : List Act) : Type 0 where
  pub known : On (BelowLatest latest) s
  pub later : (c : ℕ) → latest < c → taken_bytes c acts ≡ []
  pub front : (c : ℕ) → IsFront (taken_bytes c acts) (queue s.routed c)
  pub counted : (c : ℕ) → HasTaken c (length (taken_bytes c acts)) s.connections

pub taken-more : (c : ℕ) (acts : List Act) (a : Act) → taken_bytes c (acts ++ a ∷ []) ≡ taken_bytes c acts ++ taken_in c a
taken-more c acts a = flat_map-append (taken_in c) acts (a ∷ []) ∙ ap (λ (xs : List ℕ). taken_bytes c acts ++ xs) (append-nil (taken_in c a))

taken_none : (c : ℕ) (acts : List Act) (a : Act) → taken_in c a ≡ [] → taken_bytes c (acts ++ a ∷ []) ≡ taken_bytes c acts
taken_none c acts a none = taken-more c acts a ∙ ap (λ (xs : List ℕ). taken_bytes c acts ++ xs) none ∙ append-nil (taken_bytes c acts)

-- entries were only added
front_after : (c : ℕ) (s next : State) (bytes : List ℕ) → On (Grows s.routed) next → IsFront bytes (queue s.routed c) → IsFront bytes (queue next.routed c)
front_after c s next bytes grew h =
    let q = queue-grows c s.routed grew.0 in
    subst (IsFront bytes) (sym q.1 ∙ ap (λ (es : List Entry). queue es c) (sym grew.1)) (front-grows bytes (queue s.routed c) q.0 h)

-- ---- acts that take nothing

record Moves (latest : ℕ) (s next : State) : Type 0 where
  known : On (BelowLatest latest) s → On (BelowLatest latest) next
  grew : On (Grows s.routed) next
  stays : (n count : ℕ) → HasTaken n count s.connections → HasTaken n count next.connections

grown_none : (s : State) → On (Grows s.routed) s
grown_none s = ([], sym (append-nil s.routed))

stays_put : (latest : ℕ) (s : State) → Moves latest s s
stays_put latest s = record { known = λ h. h; grew = grown_none s; stays = λ n count h. h }

holds_moved : (latest : ℕ) (s next : State) (acts : List Act) (a : Act) → ((c : ℕ) → taken_in c a ≡ []) → Moves latest s next → Holds latest s acts → Holds latest next (acts ++ a ∷ [])
holds_moved latest s next acts a none moves h = record {
  known = moves.known h.known;
  later = λ c above. taken_none c acts a (none c) ∙ h.later c above;
  front = λ c. subst (λ (xs : List ℕ). IsFront xs (queue next.routed c)) (sym (taken_none c acts a (none c))) (front_after c s next (taken_bytes c acts) moves.grew (h.front c));
  counted = λ c. subst (λ (xs : List ℕ). HasTaken c (length xs) next.connections) (sym (taken_none c acts a (none c))) (moves.stays c (length (taken_bytes c acts)) (h.counted c));
}

got_moves : (latest serial : ℕ) (piece : List ℕ) (s : State) → Moves latest s (step s (Got serial piece))
got_moves latest serial piece s = record {
  known = got-keeps (below.invariant latest) serial piece s;
  grew = got-keeps (growing.invariant s.routed) serial piece s (grown_none s);
  stays = λ n count. got-keeps (taken.invariant n count) serial piece s;
}

ended_moves : (latest serial : ℕ) (s : State) → Moves latest s (step s (Ended serial))
ended_moves latest serial s = record {
  known = breaks-keeps (below.invariant latest) cause.Ended serial s;
  grew = breaks-keeps (growing.invariant s.routed) cause.Ended serial s (grown_none s);
  stays = λ n count. breaks-keeps (taken.invariant n count) cause.Ended serial s;
}

failed_moves : (latest serial : ℕ) (s : State) → Moves latest s (step s (Failed serial))
failed_moves latest serial s = record {
  known = breaks-keeps (below.invariant latest) cause.Failed serial s;
  grew = breaks-keeps (growing.invariant s.routed) cause.Failed serial s (grown_none s);
  stays = λ n count. breaks-keeps (taken.invariant n count) cause.Failed serial s;
}

moment_moves : (latest t : ℕ) (s : State) → Moves latest s (step s (Moment t))
moment_moves latest t s = record {
  known = moment-keeps (below.invariant latest) (λ n. refl) (λ n. refl) t s;
  grew = moment-keeps (growing.invariant s.routed) (λ n. refl) (λ n. refl) t s (grown_none s);
  stays = λ n count. moment-keeps (taken.invariant n count) (λ n. refl) (λ n. refl) t s;
}

closed_moves : (latest serial : ℕ) (s : State) → Moves latest s (step s (Closed serial))
closed_moves latest serial s = record {
  known = λ k. close-keeps (below.invariant latest) serial s (below.closed latest serial s k);
  grew = close-keeps (growing.invariant s.routed) serial s (grown_none s);
  stays = λ n count. removed-stays n count serial s.connections;
}

-- ---- a new connection

holds_joined : (latest serial : ℕ) (s : State) (acts : List Act) → latest < serial → Holds latest s acts → Holds serial (step s (Joined serial)) (acts ++ act.Accept (accepted.New serial) ∷ [])
holds_joined latest serial s acts new h = record {
  known = step-below latest s (Joined serial) new h.known;
  later = λ c above. taken_none c acts (act.Accept (accepted.New serial)) refl ∙ h.later c (omega arith);
  front = λ c. subst (λ (xs : List ℕ). IsFront xs (queue (step s (Joined serial)).routed c)) (sym (taken_none c acts (act.Accept (accepted.New serial)) refl)) (front_after c s (step s (Joined serial)) (taken_bytes c acts) (accept-keeps (growing.invariant s.routed) serial s (grown_none s)) (h.front c));
  counted = λ c. subst (λ (xs : List ℕ). HasTaken c (length xs) (step s (Joined serial)).connections) (sym (taken_none c acts (act.Accept (accepted.New serial)) refl)) (accept-keeps (taken.invariant c (length (taken_bytes c acts))) serial s (appended-stays c (length (taken_bytes c acts)) (fresh serial s.at) s.connections (first c) (h.counted c)));
}
  where
    first : (c : ℕ) → has_serial c (fresh serial s.at) ≡ true → 0 ≡ length (taken_bytes c acts)
    first c e = let is : serial ≡ c = grind (arith, nat_tests, e) in sym (ap length (h.later c (subst (λ (m : ℕ). latest < m) is new)))

-- ---- bytes that are taken

taken_here : (serial n : ℕ) (bytes : List ℕ) → (c : ℕ) → (b : Bool) → (serial == c) ≡ b → n ≤ length bytes → length (cond b (take n bytes) []) ≡ cond b n 0
taken_here serial n bytes c true e le = omega (arith, length-take n bytes)
taken_here serial n bytes c false e le = refl

-- a connection that has bytes to take is there
there : (s : State) (serial : ℕ) → has_more s serial ≡ true → (c : Connection) × (connection s serial ≡ Some c)
there s serial h = by (connection s serial) refl h
  where
    by : (o : Option Connection) → connection s serial ≡ o → option_map_or (has_untaken s) o false ≡ true → (c : Connection) × (connection s serial ≡ Some c)
    by None e k = absurd (let x : ⊥ = cc in x)
    by (Some c) e k = (c, e)

count_of_taken : (s : State) (serial count : ℕ) (c : Connection) → connection s serial ≡ Some c → c.taken ≡ count → taken_by s serial ≡ count
count_of_taken s serial count c e k = ap (λ (o : Option Connection). unwrap_or (option_map (λ (d : Connection). d.taken) o) 0) e ∙ k

found_upto : (latest serial : ℕ) (cs : List Connection) (c : Connection) → list_all (connection_upto latest) cs ≡ true → with_serial serial cs ≡ Some c → serial ≤ latest
found_upto latest serial [] c h e = none_some c e
found_upto latest serial (d ∷ cs) c h e =
    let b = and_parts (connection_upto latest d) (list_all (connection_upto latest) cs) h in
    by (has_serial serial d) refl e b.0 (found_upto latest serial cs c b.1)
  where
    by : (t : Bool) → has_serial serial d ≡ t → cond t (Some d) (with_serial serial cs) ≡ Some c → connection_upto latest d ≡ true → (with_serial serial cs ≡ Some c → serial ≤ latest) → serial ≤ latest
    by true is e upto later = grind (arith, nat_tests, is, upto)
    by false is e upto later = later e

pub upto-latest : (latest serial : ℕ) (s : State) (c : Connection) → connection s serial ≡ Some c → On (BelowLatest latest) s → serial ≤ latest
upto-latest latest serial s c e h = found_upto latest serial s.connections c h.connections e

holds_took : (latest serial n : ℕ) (bytes : List ℕ) (s : State) (acts : List Act) → has_more s serial ≡ true → IsPiece s serial bytes → n ≤ length bytes → Holds latest s acts
    → Holds latest (step s (Took serial n)) (acts ++ act.Write serial bytes (written.Took n) ∷ [])
holds_took latest serial n bytes s acts more piece le h = record {
  known = below.took latest serial (takes n) (takes-tame n) s h.known;
  later = λ c above. taken-more c acts (act.Write serial bytes (written.Took n)) ∙ nothing c (serial == c) refl above;
  front = λ c. subst (λ (xs : List ℕ). IsFront xs (queue s.routed c)) (sym (taken-more c acts (act.Write serial bytes (written.Took n)))) (longer c (serial == c) refl);
  counted = λ c. subst (λ (m : ℕ). HasTaken c m (step s (Took serial n)).connections) (sym (size c)) (took-stays c (length (taken_bytes c acts)) serial n s.connections (h.counted c));
}
  where
    here : (c : Connection) × (connection s serial ≡ Some c)
    here = there s serial more

    so_far : taken_by s serial ≡ length (taken_bytes serial acts)
    so_far = count_of_taken s serial (length (taken_bytes serial acts)) here.0 here.1 (h.counted serial here.0 here.1)

    known_serial : serial ≤ latest
    known_serial = upto-latest latest serial s here.0 here.1 h.known

    nothing : (c : ℕ) (b : Bool) → (serial == c) ≡ b → latest < c → taken_bytes c acts ++ cond b (take n bytes) [] ≡ []
    nothing c true e above = absurd (let is : serial ≡ c = grind (arith, nat_tests, e) in let le = known_serial in omega arith)
    nothing c false e above = append-nil (taken_bytes c acts) ∙ h.later c above

    longer : (c : ℕ) (b : Bool) → (serial == c) ≡ b → IsFront (taken_bytes c acts ++ cond b (take n bytes) []) (queue s.routed c)
    longer c true e =
        let is : serial ≡ c = grind (arith, nat_tests, e) in
        subst (λ (m : ℕ). IsFront (taken_bytes m acts ++ take n bytes) (queue s.routed m)) is
        (front-more (taken_bytes serial acts) (queue s.routed serial) bytes n (h.front serial) (piece.front ∙ ap (λ (m : ℕ). take (length bytes) (drop m (queue s.routed serial))) so_far) le)
    longer c false e = subst (λ (xs : List ℕ). IsFront xs (queue s.routed c)) (sym (append-nil (taken_bytes c acts))) (h.front c)

    size : (c : ℕ) → length (taken_bytes c (acts ++ act.Write serial bytes (written.Took n) ∷ [])) ≡ length (taken_bytes c acts) + cond (serial == c) n 0
    size c =
        ap length (taken-more c acts (act.Write serial bytes (written.Took n))) ∙ length-append (taken_bytes c acts) (cond (serial == c) (take n bytes) [])
        ∙ ap (λ (m : ℕ). length (taken_bytes c acts) + m) (taken_here serial n bytes c (serial == c) refl le)

-- ---- each act

next_serial : (place : Place) (j : Judge) (serial : ℕ) → AllowsAt place j (act.Accept (accepted.New serial)) → serial ≡ j.latest + 1
next_serial Waits j serial h = absurd h
next_serial Asks j serial h = absurd h
next_serial (Accepts left) j serial h = h.0
next_serial (Reads []) j serial h = absurd h
next_serial (Reads (c ∷ rest)) j serial h = absurd h
next_serial (Writes []) j serial h = absurd h
next_serial (Writes (c ∷ rest)) j serial h = absurd h
next_serial Closes j serial h = absurd h
next_serial (Leaves []) j serial h = absurd h
next_serial (Leaves (c ∷ rest)) j serial h = absurd h

record Offers (s : State) (serial n : ℕ) (bytes : List ℕ) : Type 0 where
  more : has_more s serial ≡ true
  piece : IsPiece s serial bytes
  within : n ≤ length bytes

offered : (place : Place) (j : Judge) (serial n : ℕ) (bytes : List ℕ) → AllowsAt place j (act.Write serial bytes (written.Took n)) → Offers j.state serial n bytes
offered Waits j serial n bytes h = absurd h
offered Asks j serial n bytes h = absurd h
offered (Accepts left) j serial n bytes h = absurd h
offered (Reads []) j serial n bytes h = absurd h
offered (Reads (c ∷ rest)) j serial n bytes h = absurd h
offered (Writes []) j serial n bytes h = absurd h
offered (Writes (c ∷ rest)) j serial n bytes h = record {
  more = subst (λ (m : ℕ). has_more j.state m ≡ true) (sym h.0) (and_parts (has_flag (λ f. f.writes) c j.flags) (has_more j.state c) h.3).1;
  piece = subst (λ (m : ℕ). IsPiece j.state m bytes) (sym h.0) h.1;
  within = (h.2).1;
}
offered Closes j serial n bytes h = absurd h
offered (Leaves []) j serial n bytes h = absurd h
offered (Leaves (c ∷ rest)) j serial n bytes h = absurd h

quiet : (latest : ℕ) (s : State) (acts : List Act) (a : Act) → ((c : ℕ) → taken_in c a ≡ []) → Holds latest s acts → Holds latest s (acts ++ a ∷ [])
quiet latest s acts a none h = holds_moved latest s s acts a none (stays_put latest s) h

act_holds : (j : Judge) (acts : List Act) (a : Act) → AllowsAt j.place j a → Holds j.latest j.state acts → Holds (latest_with a j.latest) (state_after a j.state) (acts ++ a ∷ [])
act_holds j acts (act.Listen port answer) w h = quiet j.latest j.state acts (act.Listen port answer) (λ c. refl) h
act_holds j acts (act.Wait ms answer marks) w h = quiet j.latest j.state acts (act.Wait ms answer marks) (λ c. refl) h
act_holds j acts (act.Now moment) w h = holds_moved j.latest j.state (step j.state (Moment moment)) acts (act.Now moment) (λ c. refl) (moment_moves j.latest moment j.state) h
act_holds j acts (act.Accept (accepted.New serial)) w h = holds_joined j.latest serial j.state acts (let is = next_serial j.place j serial w in omega arith) h
act_holds j acts (act.Accept accepted.NotNow) w h = quiet j.latest j.state acts (act.Accept accepted.NotNow) (λ c. refl) h
act_holds j acts (act.Accept accepted.Failed) w h = quiet j.latest j.state acts (act.Accept accepted.Failed) (λ c. refl) h
act_holds j acts (act.Accept accepted.OutOfMemory) w h = quiet j.latest j.state acts (act.Accept accepted.OutOfMemory) (λ c. refl) h
act_holds j acts (act.Read d room (read.Got n) bytes) w h = holds_moved j.latest j.state (step j.state (Got d bytes)) acts (act.Read d room (read.Got n) bytes) (λ c. refl) (got_moves j.latest d bytes j.state) h
act_holds j acts (act.Read d room read.End bytes) w h = holds_moved j.latest j.state (step j.state (Ended d)) acts (act.Read d room read.End bytes) (λ c. refl) (ended_moves j.latest d j.state) h
act_holds j acts (act.Read d room read.NotNow bytes) w h = quiet j.latest j.state acts (act.Read d room read.NotNow bytes) (λ c. refl) h
act_holds j acts (act.Read d room read.Failed bytes) w h = holds_moved j.latest j.state (step j.state (Failed d)) acts (act.Read d room read.Failed bytes) (λ c. refl) (failed_moves j.latest d j.state) h
act_holds j acts (act.Read d room read.OutOfMemory bytes) w h = quiet j.latest j.state acts (act.Read d room read.OutOfMemory bytes) (λ c. refl) h
act_holds j acts (act.Write d bytes (written.Took n)) w h = let o = offered j.place j d n bytes w in holds_took j.latest d n bytes j.state acts o.more o.piece o.within h
act_holds j acts (act.Write d bytes written.NotNow) w h = quiet j.latest j.state acts (act.Write d bytes written.NotNow) (λ c. refl) h
act_holds j acts (act.Write d bytes written.Failed) w h = holds_moved j.latest j.state (step j.state (Failed d)) acts (act.Write d bytes written.Failed) (λ c. refl) (failed_moves j.latest d j.state) h
act_holds j acts (act.Write d bytes written.OutOfMemory) w h = quiet j.latest j.state acts (act.Write d bytes written.OutOfMemory) (λ c. refl) h
act_holds j acts (act.Close d) w h = holds_moved j.latest j.state (step j.state (Closed d)) acts (act.Close d) (λ c. refl) (closed_moves j.latest d j.state) h
act_holds j acts (act.LinkConnect host port answer) w h = quiet j.latest j.state acts (act.LinkConnect host port answer) (λ c. refl) h
act_holds j acts (act.LinkWait ms answer) w h = quiet j.latest j.state acts (act.LinkWait ms answer) (λ c. refl) h
act_holds j acts (act.LinkNow moment) w h = quiet j.latest j.state acts (act.LinkNow moment) (λ c. refl) h
act_holds j acts (act.LinkRead room answer bytes) w h = quiet j.latest j.state acts (act.LinkRead room answer bytes) (λ c. refl) h
act_holds j acts (act.LinkWrite bytes answer) w h = quiet j.latest j.state acts (act.LinkWrite bytes answer) (λ c. refl) h
act_holds j acts act.LinkClose w h = quiet j.latest j.state acts act.LinkClose (λ c. refl) h

-- ---- all of them

follows_hold : (j : Judge) (before acts : List Act) → Follows j acts → Holds j.latest j.state before → Holds (judged j acts).latest (judged j acts).state (before ++ acts)
follows_hold j before [] w h = subst (λ (xs : List Act). Holds j.latest j.state xs) (sym (append-nil before)) h
follows_hold j before (a ∷ acts) w h =
    subst (λ (xs : List Act). Holds (judged (judge_after j a) acts).latest (judged (judge_after j a) acts).state xs) (append_assoc before (a ∷ []) acts)
    (follows_hold (judge_after j a) (before ++ a ∷ []) acts w.1 (act_holds j before a w.0 h))

pub holds-after : (config : Configuration) (script : Script) (now : ℕ) (acts : List Act) → AreAttentive config script now acts → Holds (judge_of config script now acts).latest (judge_of config script now acts).state acts
holds-after config script now acts w =
    let s : State = start config script now in
    follows_hold (first_judge s) [] acts w (record { known = start-below config script now; later = λ n above. refl; front = λ n. refl; counted = λ n k e. none_some k e })

pub taken-in-order : (config : Configuration) (script : Script) (now : ℕ) (acts : List Act) → AreAttentive config script now acts → (c : ℕ) → IsFront (taken_bytes c acts) (queue (judge_of config script now acts).state.routed c)
taken-in-order config script now acts w c = (holds-after config script now acts w).front c
