-- A client that is fed the frames of messages that may stand where they do.
use Rattle.std.specs.Prelude.{◌≡◌, refl, ℕ, Bool, true, false, List, [], ◌∷◌, ◌++◌, Option, Some, None, unwrap_or, if◌then◌else◌}
use Rattle.std.specs.List.{list_any}
use Rattle.std.specs.Option.{option_map}
use Rattle.std.proofs.Common.{ap, sym, subst, ◌∙◌, append_assoc}
use Rattle.std.proofs.lemmas.Bool.{or_parts}
use Rattle.std.proofs.lemmas.List.{append-nil}
use Rattle.share_base.specs.declared.reason.Reason.{Reason}
use Rattle.message_codec.specs.declared.messages.Msg.{Msg}
use Rattle.message_codec.specs.Streams.{AreBytes, frames_of, AllGood}
use Rattle.message_codec.specs.Inboxes.{Inbox, inbox}
use Rattle.message_reader.specs.declared.role.Role.{Role}
use Rattle.message_reader.specs.Roles.{reader_of}
use Rattle.message_reader.specs.Endings.{IsFront}
use Rattle.client_talk.specs.Talks.{Talk, is_dead, is_slow, told}
use Rattle.client_talk.specs.Scripts.{run_script}
use Rattle.client_core.specs.declared.client_end.ClientEnd.{ClientEnd}
use Rattle.client_core.specs.declared.client_end.ClientEnd.TheVariants as end
use Rattle.client_core.specs.declared.client_end.LostCause.TheVariants as lost
use Rattle.client_core.specs.declared.stop.Stop.{Stop}
use Rattle.client_core.specs.declared.stop.Stop.TheVariants as stop
use Rattle.client_core.specs.Ends.{stop_in, end_for}
use Rattle.client_core.specs.Clients.{Client, while_going, slow_end, listens, takes, hear_all, fed, inbox_with, bad_in, fails, reads, got}
use Rattle.client_core.specs.Happenings.{Happening, Got, Moment, Took, Ended, end_of_wait, tells, step, run}
use Rattle.client_core.proofs.Clients.{hear_is, over, left_of}
use Rattle.both_ends.specs.Feeding.{piece_of, fed_by, is_bad_peer, blames}
use Rattle.both_ends.specs.Understanding.{messages_read}
use Rattle.both_ends.proofs.ByteBodies.{bytes-before}
use Rattle.both_ends.proofs.Cutting.{fine-box, more-messages}

-- ---- ends

stop-fine : (by : Stop) → is_bad_peer (Some (end_for by)) ≡ false
stop-fine stop.Bye = refl
stop-fine (stop.Refused why) = refl

slow-fine : (t : Option Talk) → is_bad_peer (slow_end t) ≡ false
slow-fine None = refl
slow-fine (Some t) = by (is_slow t)
  where
    by : (b : Bool) → is_bad_peer (if b then Some (end.Lost lost.Slow) else None) ≡ false
    by true = refl
    by false = refl

wait-fine : (t : Talk) → is_bad_peer (end_of_wait t) ≡ false
wait-fine t = by (is_dead t)
  where
    by : (b : Bool) → is_bad_peer (if b then Some (end.Lost lost.Dead) else slow_end (Some (run_script t))) ≡ false
    by true = refl
    by false = slow-fine (Some (run_script t))

ended-fine : (done : Option ClientEnd) (why : ClientEnd) → is_bad_peer done ≡ false → is_bad_peer (Some why) ≡ false → is_bad_peer (Some (unwrap_or done why)) ≡ false
ended-fine None why h k = k
ended-fine (Some e) why h k = h

no_end : (e : ClientEnd) → Some e ≡ None → ⊥
no_end e h = absurd cc

-- ---- messages

-- of these messages it heard the first, all of them if it goes on
record Hears (c d : Client) (ms : List Msg) : Type 0 where
  role : d.role ≡ c.role
  received : d.received ≡ c.received
  fine : is_bad_peer c.done ≡ false → is_bad_peer d.done ≡ false
  front : List Msg
  left : List Msg
  all : ms ≡ front ++ left
  heard : d.heard ≡ c.heard ++ front
  none_left : d.done ≡ None → left ≡ []

hears-none : (c : Client) (e : ClientEnd) (ms : List Msg) → c.done ≡ Some e → Hears c c ms
hears-none c e ms is = record {
  role = refl;
  received = refl;
  fine = λ h. h;
  front = [];
  left = ms;
  all = refl;
  heard = sym (append-nil c.heard);
  none_left = λ none. absurd (no_end e (sym is ∙ none));
}

hears-stop : (c : Client) (by : Stop) (m : Msg) (ms : List Msg) → Hears c (takes (Some by) m c) (m ∷ ms)
hears-stop c by m ms = record {
  role = refl;
  received = refl;
  fine = λ h. stop-fine by;
  front = [];
  left = m ∷ ms;
  all = refl;
  heard = sym (append-nil c.heard);
  none_left = λ none. absurd (no_end (end_for by) none);
}

hears-more : (c d : Client) (m : Msg) (ms : List Msg) → Hears (listens m c) d ms → Hears c d (m ∷ ms)
hears-more c d m ms h = record {
  role = h.role;
  received = h.received;
  fine = λ k. h.fine (slow-fine (listens m c).talk);
  front = m ∷ h.front;
  left = h.left;
  all = ap (λ (t : List Msg). m ∷ t) h.all;
  heard = h.heard ∙ append_assoc c.heard (m ∷ []) h.front;
  none_left = h.none_left;
}

hears-all : (c : Client) (ms : List Msg) → Hears c (hear_all c ms) ms
hears-all c [] = record {
  role = refl;
  received = refl;
  fine = λ h. h;
  front = [];
  left = [];
  all = refl;
  heard = sym (append-nil c.heard);
  none_left = λ none. refl;
}
hears-all c (m ∷ ms) = by c.done refl (stop_in c.talk m) refl (hears-all (listens m c) ms)
  where
    by : (done : Option ClientEnd) → c.done ≡ done → (o : Option Stop) → stop_in c.talk m ≡ o → Hears (listens m c) (hear_all (listens m c) ms) ms → Hears c (hear_all c (m ∷ ms)) (m ∷ ms)
    by (Some e) is o stops later = subst (λ (d : Client). Hears c d (m ∷ ms)) (sym (over c e (m ∷ ms) is)) (hears-none c e (m ∷ ms) is)
    by None is (Some why) stops later =
        subst (λ (d : Client). Hears c (hear_all d ms) (m ∷ ms)) (sym (hear_is c m (Some why) is stops))
        (subst (λ (d : Client). Hears c d (m ∷ ms)) (sym (over (takes (Some why) m c) (end_for why) ms refl)) (hears-stop c why m ms))
    by None is None stops later = subst (λ (d : Client). Hears c (hear_all d ms) (m ∷ ms)) (sym (hear_is c m None is stops)) (hears-more c (hear_all (listens m c) ms) m ms later)

-- ---- a client that was fed these bytes

pub record IsFed (r : Role) (c : Client) (bytes : List ℕ) : Type 0 where
  pub role : c.role ≡ r
  pub fine : is_bad_peer c.done ≡ false
  pub heard : IsFront c.heard (messages_read r bytes)
  pub going : c.done ≡ None → (c.received ≡ bytes) × (c.heard ≡ messages_read r bytes)

-- nothing bad, so it is left as it is
unjudged : (done : Option ClientEnd) (d : Client) → while_going done (fails None) d ≡ d
unjudged None d = refl
unjudged (Some e) d = refl

-- one that goes on hears all that the piece adds
got-is : (piece : List ℕ) (c : Client) (tail : List Msg) → c.done ≡ None → (inbox_with piece c).messages ≡ c.heard ++ tail → (inbox_with piece c).bad ≡ None → got piece c ≡ hear_all (fed piece c) tail
got-is piece c tail none all good =
    let box : Inbox = inbox_with piece c in
    let d : Client = hear_all (fed piece c) tail in
    ap (λ (done : Option ClientEnd). while_going done (λ (x : Client). reads (inbox_with piece x) (fed piece x)) c) none
    ∙ ap (λ (ms : List Msg). (λ (x : Client). while_going x.done (fails (bad_in box)) x) (hear_all (fed piece c) ms)) (left_of box c.heard tail all)
    ∙ ap (λ (o : Option Reason). while_going d.done (fails (option_map (λ (why : Reason). record { place = box.place; reason = why }) o)) d) good
    ∙ unjudged d.done d

got-fed : (r : Role) (ms : List Msg) (more bytes piece : List ℕ) (c : Client) → AllGood (reader_of r) [] ms → frames_of ms ≡ (bytes ++ piece) ++ more → AreBytes (bytes ++ piece) → AreBytes bytes → IsFed r c bytes → IsFed r (got piece c) (bytes ++ piece)
got-fed r ms more bytes piece c good is all-small small h = by c.done refl
  where
    grown : (tail : List Msg) × (messages_read r (bytes ++ piece) ≡ messages_read r bytes ++ tail)
    grown = more-messages (reader_of r) ms bytes piece (piece ++ more) good (is ∙ append_assoc bytes piece more) all-small small

    by : (done : Option ClientEnd) → c.done ≡ done → IsFed r (got piece c) (bytes ++ piece)
    by (Some e) d =
        let same : got piece c ≡ c = ap (λ (done : Option ClientEnd). while_going done (λ (x : Client). reads (inbox_with piece x) (fed piece x)) c) d in
        subst (λ (x : Client). IsFed r x (bytes ++ piece)) (sym same) (record {
          role = h.role;
          fine = h.fine;
          heard = (h.heard.0 ++ grown.0, grown.1 ∙ ap (λ (t : List Msg). t ++ grown.0) h.heard.1 ∙ append_assoc c.heard h.heard.0 grown.0);
          going = λ none. absurd (no_end e (sym d ∙ none));
        })
    by None d =
        let was = h.going d in
        let box_is : inbox_with piece c ≡ inbox (reader_of r) (bytes ++ piece) = ap (λ (x : Role). inbox (reader_of x) (c.received ++ piece)) h.role ∙ ap (λ (t : List ℕ). inbox (reader_of r) (t ++ piece)) was.0 in
        let none : (inbox_with piece c).bad ≡ None = ap (λ (b : Inbox). b.bad) box_is ∙ (fine-box (reader_of r) ms (bytes ++ piece) more good is all-small).none in
        let all : messages_read r (bytes ++ piece) ≡ c.heard ++ grown.0 = grown.1 ∙ ap (λ (t : List Msg). t ++ grown.0) (sym was.1) in
        let there = hears-all (fed piece c) grown.0 in
        let e : got piece c ≡ hear_all (fed piece c) grown.0 = got-is piece c grown.0 d (ap (λ (b : Inbox). b.messages) box_is ∙ all) none in
        let split : messages_read r (bytes ++ piece) ≡ (c.heard ++ there.front) ++ there.left = all ∙ ap (λ (t : List Msg). c.heard ++ t) there.all ∙ sym (append_assoc c.heard there.front there.left) in
        let whole : messages_read r (bytes ++ piece) ≡ (hear_all (fed piece c) grown.0).heard ++ there.left = split ∙ ap (λ (t : List Msg). t ++ there.left) (sym there.heard) in
        subst (λ (x : Client). IsFed r x (bytes ++ piece)) (sym e) (record {
          role = there.role ∙ h.role;
          fine = there.fine h.fine;
          heard = (there.left, whole);
          going = λ goes. (there.received ∙ ap (λ (t : List ℕ). t ++ piece) was.0, sym (append-nil (hear_all (fed piece c) grown.0).heard) ∙ ap (λ (t : List Msg). (hear_all (fed piece c) grown.0).heard ++ t) (sym (there.none_left goes)) ∙ sym whole);
        })

-- ---- moments, takings and ends

tells-fed : (r : Role) (bytes : List ℕ) (talk : Option Talk) (moment : ℕ) (c : Client) → c.done ≡ None → IsFed r c bytes → IsFed r (tells talk moment c) bytes
tells-fed r bytes None moment c none h = h
tells-fed r bytes (Some t) moment c none h = record { role = h.role; fine = wait-fine (told moment t); heard = h.heard; going = λ goes. h.going none }

passes-fed : (r : Role) (bytes : List ℕ) (done : Option ClientEnd) (moment : ℕ) (c : Client) → c.done ≡ done → IsFed r c bytes → IsFed r (while_going done (tells c.talk moment) c) bytes
passes-fed r bytes (Some e) moment c is h = h
passes-fed r bytes None moment c is h = tells-fed r bytes c.talk moment c is h

-- a happening that brings no bytes
quiet-fed : (r : Role) (bytes : List ℕ) (c : Client) → IsFed r c bytes → IsFed r c (bytes ++ [])
quiet-fed r bytes c h = subst (IsFed r c) (sym (append-nil bytes)) h

step-fed : (r : Role) (ms : List Msg) (more bytes : List ℕ) (c : Client) (x : Happening) → AllGood (reader_of r) [] ms → frames_of ms ≡ (bytes ++ piece_of x) ++ more → AreBytes (bytes ++ piece_of x) → AreBytes bytes → blames x ≡ false → IsFed r c bytes → IsFed r (step c x) (bytes ++ piece_of x)
step-fed r ms more bytes c (Got piece) good is all-small small b h = got-fed r ms more bytes piece c good is all-small small h
step-fed r ms more bytes c (Moment moment) good is all-small small b h = quiet-fed r bytes (step c (Moment moment)) (passes-fed r bytes c.done moment c refl h)
step-fed r ms more bytes c (Took count) good is all-small small b h = quiet-fed r bytes (step c (Took count)) (record { role = h.role; fine = h.fine; heard = h.heard; going = h.going })
step-fed r ms more bytes c (Ended why) good is all-small small b h = quiet-fed r bytes (step c (Ended why)) (record { role = h.role; fine = ended-fine c.done why h.fine b; heard = h.heard; going = λ goes. absurd (no_end (unwrap_or c.done why) goes) })

-- ---- all happenings

pub run-fed : (r : Role) (ms : List Msg) (more bytes : List ℕ) (c : Client) (xs : List Happening) → AllGood (reader_of r) [] ms → frames_of ms ≡ (bytes ++ fed_by xs) ++ more → AreBytes (bytes ++ fed_by xs) → list_any blames xs ≡ false → IsFed r c bytes → IsFed r (run c xs) (bytes ++ fed_by xs)
run-fed r ms more bytes c [] good is small b h = quiet-fed r bytes c h
run-fed r ms more bytes c (x ∷ xs) good is small b h =
    let piece : List ℕ = piece_of x in
    let rest : List ℕ = fed_by xs in
    let order : bytes ++ (piece ++ rest) ≡ (bytes ++ piece) ++ rest = sym (append_assoc bytes piece rest) in
    let parts = or_parts (blames x) (list_any blames xs) b in
    let all-small : AreBytes ((bytes ++ piece) ++ rest) = subst AreBytes order small in
    let here-small : AreBytes (bytes ++ piece) = bytes-before (bytes ++ piece) rest all-small in
    let now : frames_of ms ≡ (bytes ++ piece) ++ (rest ++ more) = is ∙ ap (λ (t : List ℕ). t ++ more) order ∙ append_assoc (bytes ++ piece) rest more in
    let next : IsFed r (step c x) (bytes ++ piece) = step-fed r ms (rest ++ more) bytes c x good now here-small (bytes-before bytes piece here-small) parts.0 h in
    subst (IsFed r (run (step c x) xs)) (sym order) (run-fed r ms more (bytes ++ piece) (step c x) xs good (is ∙ ap (λ (t : List ℕ). t ++ more) order) all-small parts.1 next)
