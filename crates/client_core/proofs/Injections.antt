-- A client that injects, in terms of the verdict on its stream.
use Rattle.std.proofs.Common.{◌≡◌, ◌∙◌, ap, sym, subst, refl, inl, arith, ℕ, List, [], ◌∷◌, ◌++◌, length, Option, Some, None, Result, Ok, Err, append_assoc}
use Rattle.std.specs.Prelude.{is_some, if◌then◌else◌}
use Rattle.std.specs.Option.{option_map, option_or}
use Rattle.std.proofs.lemmas.List.{append-nil}
use Rattle.share_base.specs.declared.out_of_memory.OutOfMemory.{OutOfMemory}
use Rattle.share_base.specs.declared.reason.Reason.{Reason}
use Rattle.message_codec.specs.declared.messages.Msg.{Msg}
use Rattle.message_codec.specs.Streams.{AreBytes, frames_of, Reader}
use Rattle.message_codec.specs.Verdicts.{Verdict}
use Rattle.message_codec.specs.Inboxes.{Inbox, inbox, HasVerdict}
use Rattle.message_codec.proofs.InboxVerdicts.{inbox-verdict}
use Rattle.message_reader.specs.declared.reader.BadFrame.{BadFrame}
use Rattle.message_codec.specs.declared.messages.End.TheVariants as ends
use Rattle.message_reader.specs.declared.role.Role.{Role}
use Rattle.message_reader.specs.declared.role.Role.TheVariants as roles
use Rattle.message_reader.specs.ReaderParts.{ReaderParts}
use Rattle.message_reader.specs.Roles.{reader_of}
use Rattle.message_reader.specs.Representation.{Represents}
use Rattle.message_reader.specs.Steps.{bad_frame}
use Rattle.message_reader.specs.Endings.{before_end, ending, Outcome, Stopped, Failed, outcome}
use Rattle.message_reader.proofs.Endings.{ending-append, before_end-append, before_end-all}
use Rattle.message_reader.proofs.Completing.{Completes, unfed}
use Rattle.message_reader.proofs.Consuming as reading
use Rattle.message_reader.proofs.Stepping.{bytes-append}
use Rattle.client_core.specs.declared.client_end.ClientEnd.{ClientEnd}
use Rattle.client_core.specs.declared.client_end.ClientEnd.TheVariants as end
use Rattle.client_core.specs.declared.client.ClientCore.{ClientCore}
use Rattle.client_core.specs.declared.stop.Stop.{Stop}
use Rattle.client_core.specs.declared.stop.Stop.TheVariants as stop
use Rattle.client_core.specs.Ends.{stop_of, end_for, end_by, heard_of, end_of, IsHeard}
use Rattle.client_core.specs.Clients.{Client, while_going, hear_all, fed, inbox_with, bad_in, fails, got}
use Rattle.client_core.specs.Happenings.{injecting}
use Rattle.client_core.specs.Kept.{Kept, Stands, Gets, ClearsLines, lines_in, out_of_memory}
use Rattle.client_core.specs.Injecting.{injected, Injects, Grows}
use Rattle.client_core.proofs.Clients.{hear_is, over, left_of}

-- ---- messages

-- how a list of messages ends it
abbrev ended_by : List Msg → Option ClientEnd
ended_by ms = option_map end_for (ending stop_of ms)

-- it hears the messages before the first that ends it
heard_so : (role : Role) (stream : List ℕ) (heard ms : List Msg) → hear_all (injected role None stream heard) ms ≡ injected role (ended_by ms) stream (heard ++ before_end stop_of ms)
heard_so role stream heard [] = ap (λ (hs : List Msg). injected role None stream hs) (sym (append-nil heard))
heard_so role stream heard (m ∷ ms) = by (stop_of m) refl (heard_so role stream (heard ++ m ∷ []) ms)
  where
    c : Client
    c = injected role None stream heard

    Goal : Option Stop → Type 0
    Goal o = hear_all (injected role None stream heard) (m ∷ ms) ≡ injected role (option_map end_for (option_or o (ending stop_of ms))) stream (heard ++ (if is_some o then [] else m ∷ before_end stop_of ms))

    by : (o : Option Stop) → stop_of m ≡ o → hear_all (injected role None stream (heard ++ m ∷ [])) ms ≡ injected role (ended_by ms) stream ((heard ++ m ∷ []) ++ before_end stop_of ms) → hear_all c (m ∷ ms) ≡ injected role (ended_by (m ∷ ms)) stream (heard ++ before_end stop_of (m ∷ ms))
    by (Some s) is rest = subst Goal (sym is) (
        ap (λ (x : Client). hear_all x ms) (hear_is c m (Some s) refl is)
        ∙ over (record c { done = Some (end_for s) }) (end_for s) ms refl
        ∙ ap (λ (hs : List Msg). injected role (Some (end_for s)) stream hs) (sym (append-nil heard)))
    by None is rest = subst Goal (sym is) (
        ap (λ (x : Client). hear_all x ms) (hear_is c m None refl is)
        ∙ rest
        ∙ ap (λ (hs : List Msg). injected role (ended_by ms) stream hs) (append_assoc heard (m ∷ []) (before_end stop_of ms)))

-- ---- a piece

-- how the verdict on a stream with some messages ends it, where the first ones did not
abbrev end_from : (heard left : List Msg) → Option BadFrame → Option ClientEnd
end_from heard left bad = option_map end_by (option_or (option_map (Stopped (length (frames_of (heard ++ before_end stop_of left)))) (ending stop_of left)) (option_map Failed bad))

end_from_is : {reader : Reader} {stream : List ℕ} (v : Verdict reader stream) (heard left : List Msg) → v.messages ≡ heard ++ left → ending stop_of heard ≡ None → end_of v ≡ end_from heard left (bad_frame v)
end_from_is v heard left all none =
    ap (λ (ms : List Msg). option_map end_by (option_or (option_map (Stopped (length (frames_of (before_end stop_of ms)))) (ending stop_of ms)) (option_map Failed (bad_frame v)))) all
    ∙ ap (λ (ms : List Msg). option_map end_by (option_or (option_map (Stopped (length (frames_of ms))) (ending stop_of (heard ++ left))) (option_map Failed (bad_frame v)))) (before_end-append stop_of heard left none)
    ∙ ap (λ (o : Option Stop). option_map end_by (option_or (option_map (Stopped (length (frames_of (heard ++ before_end stop_of left)))) o) (option_map Failed (bad_frame v)))) (ending-append stop_of heard left none)

-- what judging by the bad frame leaves
judged_so : (role : Role) (stream : List ℕ) (place : ℕ) (ms : List Msg) (o : Option Stop) (bad : Option BadFrame) → (λ (d : Client). while_going d.done (fails bad) d) (injected role (option_map end_for o) stream ms) ≡ injected role (option_map end_by (option_or (option_map (Stopped place) o) (option_map Failed bad))) stream ms
judged_so role stream place ms (Some s) bad = refl
judged_so role stream place ms None None = refl
judged_so role stream place ms None (Some bad) = refl

got_so : (role : Role) (stream piece : List ℕ) (heard left : List Msg) → (v : Verdict (reader_of role) (stream ++ piece)) → HasVerdict v (inbox (reader_of role) (stream ++ piece)) → v.messages ≡ heard ++ left → ending stop_of heard ≡ None
    → got piece (injected role None stream heard) ≡ injected role (end_of v) (stream ++ piece) (heard ++ before_end stop_of left)
got_so role stream piece heard left v box all none =
    let c : Client = injected role None stream heard in
    let b : Inbox = inbox (reader_of role) (stream ++ piece) in
    let judge : Option BadFrame → Client → Client = λ bad d. while_going d.done (fails bad) d in
    let bad_same : bad_in b ≡ bad_frame v = ap (λ (n : ℕ). option_map (λ (why : Reason). record { place = n; reason = why }) b.bad) box.place_is ∙ ap (λ (o : Option Reason). option_map (λ (why : Reason). record { place = v.place; reason = why }) o) box.bad_is in
    ap (λ (ms : List Msg). judge (bad_in b) (hear_all (fed piece c) ms)) (left_of b heard left (box.messages_are ∙ all))
    ∙ ap (judge (bad_in b)) (heard_so role (stream ++ piece) heard left)
    ∙ judged_so role (stream ++ piece) (length (frames_of (heard ++ before_end stop_of left))) (heard ++ before_end stop_of left) (ending stop_of left) (bad_in b)
    ∙ ap (λ (bad : Option BadFrame). injected role (end_from heard left bad) (stream ++ piece) (heard ++ before_end stop_of left)) bad_same
    ∙ ap (λ (e : Option ClientEnd). injected role e (stream ++ piece) (heard ++ before_end stop_of left)) (sym (end_from_is v heard left all none))

-- ---- how it has ended

-- an end that a stream brings is no want of memory
by_outcome : {reader : Reader} {stream : List ℕ} (v : Verdict reader stream) (o : Option (Outcome Stop)) (messages : List Msg) → outcome stop_of v ≡ o → messages ≡ heard_of v → IsHeard (option_map end_by o) v messages
by_outcome v None messages is all = (ap (option_map end_by) (sym is), all)
by_outcome v (Some (Stopped place stop.Bye)) messages is all = (ap (option_map end_by) (sym is), all)
by_outcome v (Some (Stopped place (stop.Refused why))) messages is all = (ap (option_map end_by) (sym is), all)
by_outcome v (Some (Failed bad)) messages is all = (ap (option_map end_by) (sym is), all)

no_end : (o : Option (Outcome Stop)) → None ≡ option_map end_by o → o ≡ None
no_end None none = refl
no_end (Some x) none = absurd cc

-- ---- the whole client

-- a core whose reader has that role
makes : (new : ClientCore) (role : Role) (stream : List ℕ) (messages : List Msg) (front : List ℕ) → role ≡ new.reader.role → (v : Verdict (reader_of role) stream) → IsHeard new.done v messages → Stands new (injected role new.done stream messages) front → Injects new stream messages front
makes new role stream messages front same =
    subst (λ (x : Role). (v : Verdict (reader_of x) stream) → IsHeard new.done v messages → Stands new (injected x new.done stream messages) front → Injects new stream messages front) (sym same)
    (λ v heard stands. record { verdict = v; heard = heard; stands = stands })

pub injects_first : (core : ClientCore) → core.done ≡ None → core.reader.role ≡ roles.Observer ends.Server → Stands core injecting [] → Injects core [] [] []
injects_first core none is stands =
    makes core (roles.Observer ends.Server) [] [] [] (sym is) v
    (subst (λ (d : Option ClientEnd). IsHeard d v []) (sym none) (refl, refl))
    (subst (λ (d : Option ClientEnd). Stands core (injected (roles.Observer ends.Server) d [] []) []) (sym none) stands)
  where
    v : Verdict (reader_of (roles.Observer ends.Server)) []
    v = record { messages = []; rest = []; place = 0; bad = None; stream_is = refl; good = tt; place_is = refl; ends = inl (omega arith) }

pub clears : (core new : ClientCore) → new.reader ≡ core.reader → new.done ≡ core.done → ClearsLines core new → (stream : List ℕ) (messages : List Msg) (front : List ℕ) → Injects core stream messages front → Injects new stream messages (front ++ lines_in core)
clears core new same done cleared stream messages front k =
    makes new core.reader.role stream messages (front ++ lines_in core) (sym (ap (λ (r : ReaderParts). r.role) same)) k.verdict
    (subst (λ (d : Option ClientEnd). IsHeard d k.verdict messages) (sym done) k.heard)
    (subst (λ (d : Option ClientEnd). Stands new (injected core.reader.role d stream messages) (front ++ lines_in core)) (sym done) (cleared (injected core.reader.role core.done stream messages) front k.stands))

none_ends : (o : Option Stop) → option_map end_for o ≡ None → o ≡ None
none_ends None none = refl
none_ends (Some s) none = absurd cc

-- what a core that goes on knows of its stream with a piece after it
record Ahead (core : ClientCore) (stream piece : List ℕ) (messages : List Msg) (front : List ℕ) : Type 0 where
  verdict : Verdict (reader_of core.reader.role) (stream ++ piece)
  box : HasVerdict verdict (inbox (reader_of core.reader.role) (stream ++ piece))
  left : List Msg
  all : verdict.messages ≡ messages ++ left
  none : ending stop_of messages ≡ None
  stands : Stands core (injected core.reader.role None stream messages) front

ahead : (core : ClientCore) (stream piece : List ℕ) (messages : List Msg) (front : List ℕ) → AreBytes piece → core.done ≡ None → Injects core stream messages front → Ahead core stream piece messages front
ahead core stream piece messages front small none k = record {
  verdict = done.verdict;
  box = inbox-verdict (reader_of core.reader.role) (stream ++ piece) (bytes-append stream piece given.bytes small) done.verdict;
  left = done.tail;
  all = done.messages_are;
  none = subst (λ (ms : List Msg). ending stop_of ms ≡ None) (sym (heard.1 ∙ ended.1)) ended.0;
  stands = stands;
}
  where
    heard : (None ≡ end_of k.verdict) × (messages ≡ heard_of k.verdict)
    heard = subst (λ (d : Option ClientEnd). IsHeard d k.verdict messages) none k.heard

    ended : (ending stop_of k.verdict.messages ≡ None) × (before_end stop_of k.verdict.messages ≡ k.verdict.messages)
    ended = reading.none_ended stop_of (reader_of core.reader.role) stream k.verdict (no_end (outcome stop_of k.verdict) heard.0)

    stands : Stands core (injected core.reader.role None stream messages) front
    stands = subst (λ (d : Option ClientEnd). Stands core (injected core.reader.role d stream messages) front) none k.stands

    given : Represents core.reader stream messages
    given = (stands.reads refl).open_at.represents

    done : Completes (reader_of core.reader.role) (stream ++ piece) messages
    done = unfed core.reader stream piece messages small given

pub grows : {A : Type 0} (core new : ClientCore) (result : Result A OutOfMemory) (piece : List ℕ) → AreBytes piece → core.done ≡ None → new.reader.role ≡ core.reader.role → Gets core new result piece → Grows core new piece
grows {A = A} core new result piece small none role gets = record { role = role; hears = λ stream messages front k. more result gets stream messages front (ahead core stream piece messages front small none k) }
  where
    more : (result : Result A OutOfMemory) → Gets core new result piece → (stream : List ℕ) (messages : List Msg) (front : List ℕ) → Ahead core stream piece messages front → (ms : List Msg) × Injects new (stream ++ piece) (messages ++ ms) front
    more (Ok u) gets stream messages front a =
        let ms : List Msg = before_end stop_of a.left in
        let c : Client = injected core.reader.role None stream messages in
        let kept = subst (λ (x : Client). Kept new.reader new.hearer new.done x front) (got_so core.reader.role stream piece messages a.left a.verdict a.box a.all a.none) (gets c front a.stands) in
        let heard = by_outcome a.verdict (outcome stop_of a.verdict) (messages ++ ms) refl (sym (ap (before_end stop_of) a.all ∙ before_end-append stop_of messages a.left a.none)) in (
          ms,
          makes new core.reader.role (stream ++ piece) (messages ++ ms) front (sym role) a.verdict
              (subst (λ (d : Option ClientEnd). IsHeard d a.verdict (messages ++ ms)) (sym kept.done_is) heard)
              (subst (λ (d : Option ClientEnd). Kept new.reader new.hearer new.done (injected core.reader.role d (stream ++ piece) (messages ++ ms)) front) (sym kept.done_is) kept),
        )
    more (Err e) gets stream messages front a =
        let c : Client = injected core.reader.role None stream messages in
        let b = gets c front a.stands in
        let ms : List Msg = b.messages in
        let (rest, first) = b.first in
        let left_is : a.left ≡ ms ++ rest = sym (left_of (inbox_with piece c) messages a.left (a.box.messages_are ∙ a.all)) ∙ first in
        let so = heard_so core.reader.role (stream ++ piece) messages ms in
        let goes : ending stop_of ms ≡ None = none_ends (ending stop_of ms) (ap (λ (x : Client). x.done) (sym so) ∙ b.goes) in
        let same : out_of_memory (hear_all (fed piece c) ms) ≡ injected core.reader.role (Some end.OutOfMemory) (stream ++ piece) (messages ++ ms) =
        ap out_of_memory so ∙ ap (λ (hs : List Msg). injected core.reader.role (Some end.OutOfMemory) (stream ++ piece) (messages ++ hs)) (before_end-all stop_of ms goes) in
        let kept = subst (λ (x : Client). Kept new.reader new.hearer new.done x front) same b.kept in
        let front_is : heard_of a.verdict ≡ (messages ++ ms) ++ before_end stop_of rest =
        ap (before_end stop_of) a.all ∙ before_end-append stop_of messages a.left a.none ∙ ap (λ (xs : List Msg). messages ++ before_end stop_of xs) left_is
        ∙ ap (λ (xs : List Msg). messages ++ xs) (before_end-append stop_of ms rest goes) ∙ sym (append_assoc messages ms (before_end stop_of rest)) in
        let heard : IsHeard (Some end.OutOfMemory) a.verdict (messages ++ ms) = (before_end stop_of rest, front_is) in (
          ms,
          makes new core.reader.role (stream ++ piece) (messages ++ ms) front (sym role) a.verdict
              (subst (λ (d : Option ClientEnd). IsHeard d a.verdict (messages ++ ms)) (sym kept.done_is) heard)
              (subst (λ (d : Option ClientEnd). Kept new.reader new.hearer new.done (injected core.reader.role d (stream ++ piece) (messages ++ ms)) front) (sym kept.done_is) kept),
        )
