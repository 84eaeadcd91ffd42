-- A client between two messages of its stream, and how each step leaves it.
use Rattle.std.proofs.Common.{◌≡◌, ℕ, ◌≤◌, List, [], ◌∷◌, ◌++◌, length, drop, Option, Some, None, Result, Ok, Err, refl, sym, ap, subst, ◌∙◌, append_assoc, arith, inl}
use Rattle.std.specs.Prelude.{IsErr}
use Rattle.std.specs.Option.{option_map}
use Rattle.share_base.specs.declared.out_of_memory.OutOfMemory.{OutOfMemory}
use Rattle.share_base.specs.declared.reason.Reason.{Reason}
use Rattle.std.proofs.lemmas.List.{length-append, append-nil}
use Rattle.message_codec.specs.declared.messages.Msg.{Msg}
use Rattle.message_codec.specs.Streams.{AreBytes}
use Rattle.message_codec.specs.Verdicts.{Verdict}
use Rattle.message_codec.specs.Inboxes.{inbox, HasVerdict}
use Rattle.message_codec.proofs.InboxVerdicts.{inbox-verdict}
use Rattle.message_codec.proofs.OneVerdict.{one_verdict}
use Rattle.message_reader.specs.declared.reader.BadFrame.{BadFrame}
use Rattle.message_reader.specs.declared.role.Role.{Role}
use Rattle.message_reader.specs.Roles.{reader_of}
use Rattle.message_reader.specs.ReaderParts.{ReaderParts}
use Rattle.message_reader.specs.Representation.{Represents, IsOpen, IsPending}
use Rattle.message_reader.specs.Steps.{Extends, bad_frame, partial_at, Concludes, GivesMessage, GivesNone}
use Rattle.message_reader.proofs.Completing.{represented, partial_is}
use Rattle.client_core.specs.declared.client_end.ClientEnd.{ClientEnd}
use Rattle.client_core.specs.declared.client_end.ClientEnd.TheVariants as end
use Rattle.client_core.specs.declared.client.ClientCore.{ClientCore}
use Rattle.client_core.specs.declared.hearer.Hearer.{Hearer}
use Rattle.client_talk.specs.Talks.{Talk}
use Rattle.client_core.specs.Hearing.{display, fresh}
use Rattle.client_core.specs.Showing.{Shows, Clears}
use Rattle.client_core.specs.Clients.{Client, hear, hear_all, fed, inbox_with, bad_in, fails, got}
use Rattle.client_core.specs.Kept.{Reads, Hears, Kept, Heeds, out_of_memory, Breaks, Takes, Gets}
use Rattle.client_core.proofs.Clients.{hear-role, hear-received, hear-heard, one_more, got_end, got_stop, left_of}

-- ---- between two messages

-- these messages of the piece were heard, and none of them ended the client
pub record Going (r : ReaderParts) (h : Hearer) (c : Client) (piece : List ℕ) (more : List Msg) (d : Client) (front : List ℕ) : Type 0 where
  pub is : d ≡ hear_all (fed piece c) more
  pub role : r.role ≡ c.role
  pub same_role : d.role ≡ c.role
  pub received : d.received ≡ c.received ++ piece
  pub heard : d.heard ≡ c.heard ++ more
  pub went : c.done ≡ None
  pub goes : d.done ≡ None
  pub hears : Hears h d front
  pub represents : Represents r (c.received ++ piece) (c.heard ++ more)

-- some of them
pub record Some_heard (r : ReaderParts) (h : Hearer) (c : Client) (piece front : List ℕ) : Type 0 where
  pub more : List Msg
  pub after : Client
  pub going : Going r h c piece more after front

-- from every client that went on, some of the piece's messages were heard
abbrev pub Hearing : ReaderParts → ReaderParts → Hearer → Hearer → List ℕ → Type 0
Hearing r r' h h' piece = (c : Client) (front : List ℕ) → Kept r h None c front → Some_heard r' h' c piece front

pub hearing_fed : (r r' : ReaderParts) (h : Hearer) (piece : List ℕ) → Extends r r' piece → Hearing r r' h h piece
hearing_fed r r' h piece e c front k =
    let reads = k.reads (sym k.done_is) in
    let all = e.represents c.received c.heard reads.open_at.represents in record {
      more = [];
      after = fed piece c;
      going = record {
        is = refl;
        role = e.role ∙ k.role;
        same_role = refl;
        received = refl;
        heard = sym (append-nil c.heard);
        went = sym k.done_is;
        goes = sym k.done_is;
        hears = record { shows = k.hears.shows; talk = k.hears.talk };
        represents = subst (Represents r' (c.received ++ piece)) (sym (append-nil c.heard)) all;
      };
    }

pub hearing_one : (r r' next : ReaderParts) (h h' after : Hearer) (piece : List ℕ) (place : ℕ) (m : Msg) → Hearing r r' h h' piece → GivesMessage r' next place m → Heeds m h' after (Ok None) → Hearing r next h after piece
hearing_one r r' next h h' after piece place m w gives heeds c front k =
    let s = w c front k in
    let g = s.going in
    let d = s.after in
    let (hears, goes) = heeds d front g.goes g.hears in record {
      more = s.more ++ m ∷ [];
      after = hear d m;
      going = record {
        is = ap (λ (x : Client). hear x m) g.is ∙ sym (one_more (fed piece c) s.more m);
        role = gives.role ∙ g.role;
        same_role = hear-role d m ∙ g.same_role;
        received = hear-received d m ∙ g.received;
        heard = hear-heard d m (sym goes) ∙ ap (λ (ms : List Msg). ms ++ m ∷ []) g.heard ∙ append_assoc c.heard s.more (m ∷ []);
        went = g.went;
        goes = sym goes;
        hears = hears;
        represents = subst (Represents next (c.received ++ piece)) (append_assoc c.heard s.more (m ∷ [])) (gives.represents (c.received ++ piece) (c.heard ++ s.more) g.represents);
      };
    }

-- ---- what the stream comes to

box_has : (given role : Role) → given ≡ role → (stream : List ℕ) → AreBytes stream → (v : Verdict (reader_of given) stream) → HasVerdict v (inbox (reader_of role) stream)
box_has given role same stream small v = subst (λ (x : Role). HasVerdict v (inbox (reader_of x) stream)) same (inbox-verdict (reader_of given) stream small v)

-- of the messages that came, some were given, and more may stand after them
came : (r : ReaderParts) (c : Client) (piece : List ℕ) (given : List Msg) → r.role ≡ c.role → Represents r (c.received ++ piece) given → (tail : List Msg) × ((inbox_with piece c).messages ≡ given ++ tail)
came r c piece given same h =
    let done = represented r (c.received ++ piece) given h in
    (done.tail, (box_has r.role c.role same (c.received ++ piece) h.bytes done.verdict).messages_are ∙ done.messages_are)

-- ---- the exits

broken : (r : ReaderParts) (h : Hearer) (c d : Client) (piece front : List ℕ) (more rest : List Msg) → d ≡ hear_all (fed piece c) more → r.role ≡ d.role → d.done ≡ None → Hears h d front → r.total ≤ length d.received → (inbox_with piece c).messages ≡ c.heard ++ (more ++ rest) → Breaks r h (Some end.OutOfMemory) c piece front
broken r h c d piece front more rest is role goes hears total all = record {
  messages = more;
  first = (rest, left_of (inbox_with piece c) c.heard (more ++ rest) all);
  goes = ap (λ (x : Client). x.done) (sym is) ∙ goes;
  kept = subst (λ (x : Client). Kept r h (Some end.OutOfMemory) (out_of_memory x) front) is kept;
}
  where
    kept : Kept r h (Some end.OutOfMemory) (out_of_memory d) front
    kept = record { role = role; hears = record { shows = hears.shows; talk = hears.talk }; done_is = refl; reads = λ none. absurd cc; total = total }

-- an answer of that kind takes the piece
takes_err : (r r' : ReaderParts) (h h' : Hearer) (answer : Result (Option ClientEnd) OutOfMemory) (piece : List ℕ) → IsErr answer → ((c : Client) (front : List ℕ) → Kept r h None c front → Breaks r' h' (Some end.OutOfMemory) c piece front) → Takes r r' h h' answer piece
takes_err r r' h h' (Ok x) piece err breaks = absurd cc
takes_err r r' h h' (Err memory) piece err breaks = breaks

within : (r : ReaderParts) (c : Client) (piece stream : List ℕ) → stream ≡ c.received ++ piece → r.total ≤ length c.received → r.total ≤ length stream
within r c piece stream is total = omega (arith, total, ap (λ (s : List ℕ). length s) is, length-append c.received piece)

pub takes_unfed : (r : ReaderParts) (h : Hearer) (answer : Result (Option ClientEnd) OutOfMemory) (piece : List ℕ) → IsErr answer → Takes r r h h answer piece
takes_unfed r h answer piece err = takes_err r r h h answer piece err (λ c front k. record {
  messages = [];
  first = (drop (length c.heard) (inbox_with piece c).messages, refl);
  goes = sym k.done_is;
  kept = record { role = k.role; hears = record { shows = k.hears.shows; talk = k.hears.talk }; done_is = refl; reads = λ none. absurd cc; total = within r c piece (c.received ++ piece) refl k.total };
})

given_total : (r : ReaderParts) (stream received : List ℕ) (given : List Msg) → received ≡ stream → Represents r stream given → r.total ≤ length received
given_total r stream received given same h = omega (arith, h.total, ap (λ (s : List ℕ). length s) same)

pub takes_broken : (r r' : ReaderParts) (h h' : Hearer) (answer : Result (Option ClientEnd) OutOfMemory) (piece : List ℕ) → IsErr answer → Hearing r r' h h' piece → Takes r r' h h' answer piece
takes_broken r r' h h' answer piece err w = takes_err r r' h h' answer piece err (λ c front k.
    let s = w c front k in
    let g = s.going in
    let (tail, all) = came r' c piece (c.heard ++ s.more) g.role g.represents in
    broken r' h' c s.after piece front s.more tail g.is (g.role ∙ sym g.same_role) g.goes g.hears (given_total r' (c.received ++ piece) s.after.received (c.heard ++ s.more) g.received g.represents) (all ∙ append_assoc c.heard s.more tail))

pub takes_broken_at : (r r' next : ReaderParts) (h h' after : Hearer) (answer : Result (Option ClientEnd) OutOfMemory) (piece : List ℕ) (place : ℕ) (m : Msg) → IsErr answer → GivesMessage r' next place m → ((c : Client) (front : List ℕ) → Hears h' c front → Hears after c front) → Hearing r r' h h' piece → Takes r next h after answer piece
takes_broken_at r r' next h h' after answer piece place m err gives on w = takes_err r next h after answer piece err (λ c front k.
    let s = w c front k in
    let g = s.going in
    let given = gives.represents (c.received ++ piece) (c.heard ++ s.more) g.represents in
    let (tail, all) = came r' c piece (c.heard ++ s.more) g.role g.represents in
    broken next after c s.after piece front s.more tail g.is (gives.role ∙ g.role ∙ sym g.same_role) g.goes (on s.after front g.hears) (given_total next (c.received ++ piece) s.after.received ((c.heard ++ s.more) ++ m ∷ []) g.received given) (all ∙ append_assoc c.heard s.more tail))

-- a message ended the client
pub takes_stop : (r r' next : ReaderParts) (h h' after : Hearer) (e : ClientEnd) (piece : List ℕ) (place : ℕ) (m : Msg) → GivesMessage r' next place m → Heeds m h' after (Ok (Some e)) → Hearing r r' h h' piece → Takes r next h after (Ok (Some e)) piece
takes_stop r r' next h h' after e piece place m gives heeds w c front k =
    let s = w c front k in
    let g = s.going in
    let d = s.after in
    let (hears, ends) = heeds d front g.goes g.hears in
    let given = gives.represents (c.received ++ piece) (c.heard ++ s.more) g.represents in
    let (tail, all) = came next c piece ((c.heard ++ s.more) ++ m ∷ []) (gives.role ∙ g.role) given in
    let order : ((c.heard ++ s.more) ++ m ∷ []) ++ tail ≡ c.heard ++ (s.more ++ m ∷ tail) = append_assoc (c.heard ++ s.more) (m ∷ []) tail ∙ append_assoc c.heard s.more (m ∷ tail) in
    let same : got piece c ≡ hear d m = got_stop piece c d s.more tail m e g.went g.is (sym ends) (all ∙ order) in
    let kept : Kept next after (Some e) (hear d m) front = record {
      role = gives.role ∙ g.role ∙ sym g.same_role ∙ sym (hear-role d m);
      hears = hears;
      done_is = ends;
      reads = λ none. absurd (no_end e (ends ∙ none));
      total = given_total next (c.received ++ piece) (hear d m).received ((c.heard ++ s.more) ++ m ∷ []) (hear-received d m ∙ g.received) given;
    } in
    subst (λ (x : Client). Kept next after (Some e) x front) (sym same) kept
  where
    no_end : (x : ClientEnd) → Some x ≡ None → ⊥
    no_end x some = absurd cc

-- no message is left
abbrev pub end_here : Option BadFrame → Option ClientEnd
end_here bad = option_map (λ (b : BadFrame). end.BadPeer b.place b.reason) bad

pub takes_end : (r r' next : ReaderParts) (h h' : Hearer) (bad : Option BadFrame) (piece : List ℕ) → GivesNone r' next bad → Hearing r r' h h' piece → Takes r next h h' (Ok (end_here bad)) piece
takes_end r r' next h h' bad piece gives w c front k =
    subst (λ (x : Client). Kept next h' (end_here bad) x front) (sym same) (kept bad gives.bad_is said.bad_is)
  where
    s : Some_heard r' h' c piece front
    s = w c front k

    g : Going r' h' c piece s.more s.after front
    g = s.going

    stream : List ℕ
    stream = c.received ++ piece

    given : List Msg
    given = c.heard ++ s.more

    role : next.role ≡ c.role
    role = gives.role ∙ g.role

    said : Concludes (reader_of next.role) stream given bad
    said = gives.concludes stream given g.represents

    represents : Represents next stream given
    represents = gives.represents stream given g.represents

    box : HasVerdict said.verdict (inbox_with piece c)
    box = box_has next.role c.role role stream represents.bytes said.verdict

    bad_same : bad_in (inbox_with piece c) ≡ bad
    bad_same = ap (λ (n : ℕ). option_map (λ (why : Reason). record { place = n; reason = why }) (inbox_with piece c).bad) box.place_is
        ∙ ap (λ (o : Option Reason). option_map (λ (why : Reason). record { place = said.verdict.place; reason = why }) o) box.bad_is ∙ said.bad_is

    same : got piece c ≡ fails bad s.after
    same = got_end piece c s.after s.more bad g.went g.is g.goes (box.messages_are ∙ said.messages_are) bad_same

    total : next.total ≤ length s.after.received
    total = given_total next stream s.after.received given g.received represents

    reads_at : next.bad ≡ None → (role' : Role) → next.role ≡ role' → (received : List ℕ) → stream ≡ received → (heard : List Msg) → given ≡ heard → Reads next role' received heard
    reads_at fine role' same-role received same-stream heard same-heard =
        subst (λ (ms : List Msg). Reads next role' received ms) same-heard (subst (λ (xs : List ℕ). Reads next role' xs given) same-stream (subst (λ (x : Role). Reads next x stream given) same-role
        (record { verdict = said.verdict; all = said.messages_are; open_at = record { represents = represents; fine = fine } })))

    kept : (b : Option BadFrame) → next.bad ≡ b → bad_frame said.verdict ≡ b → Kept next h' (end_here b) (fails b s.after) front
    kept None fine is = record {
      role = role ∙ sym g.same_role;
      hears = g.hears;
      done_is = sym g.goes;
      reads = λ none. reads_at fine s.after.role (role ∙ sym g.same_role) s.after.received (sym g.received) s.after.heard (sym g.heard);
      total = total;
    }
    kept (Some b) fine is = record {
      role = role ∙ sym g.same_role;
      hears = record { shows = g.hears.shows; talk = g.hears.talk };
      done_is = refl;
      reads = λ none. absurd cc;
      total = total;
    }

-- ---- the whole client

-- what a call answers and keeps, by how the piece was heard
abbrev pub Answered : {A : Type 0} → Result (Option ClientEnd) OutOfMemory → Result A OutOfMemory → Option ClientEnd → Type 0
Answered (Ok done) (Ok u) kept = kept ≡ done
Answered (Err memory) (Err e) kept = kept ≡ Some end.OutOfMemory
Answered _ _ kept = ⊥

pub gets : {A : Type 0} (old new : ClientCore) (answer : Result (Option ClientEnd) OutOfMemory) (result : Result A OutOfMemory) (piece : List ℕ) → old.done ≡ None → Takes old.reader new.reader old.hearer new.hearer answer piece → Answered answer result new.done → Gets old new result piece
gets old new (Ok finish) (Ok u) piece none t is = λ c front k.
    subst (λ (x : Option ClientEnd). Kept new.reader new.hearer x (got piece c) front) (sym is) (t c front (subst (λ (x : Option ClientEnd). Kept old.reader old.hearer x c front) none k))
gets old new (Ok finish) (Err e) piece none t is = absurd is
gets old new (Err memory) (Ok u) piece none t is = absurd is
gets old new (Err memory) (Err e) piece none t is = λ c front k.
    subst (λ (x : Option ClientEnd). Breaks new.reader new.hearer x c piece front) (sym is) (t c front (subst (λ (x : Option ClientEnd). Kept old.reader old.hearer x c front) none k))

-- a client of which nothing came
pub first_client : (r : ReaderParts) (h : Hearer) (role : Role) (talk : Option Talk) → Represents r [] [] → r.bad ≡ None → r.role ≡ role → Shows h.printer fresh [] → h.talk ≡ talk
    → Kept r h None (record { role = role; received = []; heard = []; shown = []; talk = talk; taken = []; done = None }) []
first_client r h role talk represents fine same shows talk-is = record {
  role = same;
  hears = record { shows = shows; talk = talk-is };
  done_is = refl;
  reads = λ none. record {
    verdict = record { messages = []; rest = []; place = 0; bad = None; stream_is = refl; good = tt; place_is = refl; ends = inl (omega arith) };
    all = refl;
    open_at = record { represents = represents; fine = fine };
  };
  total = omega (arith, represents.total);
}

pub cleared : (r : ReaderParts) (h h' : Hearer) (done : Option ClientEnd) (c : Client) (front : List ℕ) → Clears h.printer h'.printer → h'.talk ≡ h.talk → Kept r h done c front → Kept r h' done c (front ++ h.printer.lines.items)
cleared r h h' finish c front clears talk k = record {
  role = k.role;
  hears = record { shows = clears (display c.shown) front k.hears.shows; talk = talk ∙ k.hears.talk };
  done_is = k.done_is;
  reads = k.reads;
  total = k.total;
}

pub pending_is : (core : ClientCore) (found : Option ℕ) → core.done ≡ None → IsPending core.reader found → (c : Client) (front : List ℕ) → Kept core.reader core.hearer core.done c front → (v : Verdict (reader_of c.role) c.received) → found ≡ partial_at v
pending_is core found none is c front k v =
    let reads = k.reads (sym k.done_is ∙ none) in
    let same : c.heard ≡ v.messages = sym reads.all ∙ (one_verdict (reader_of c.role) c.received reads.verdict v).0 in
    partial_is core.reader (reader_of c.role) c.received v (subst (λ (ms : List Msg). IsOpen core.reader c.received ms) same reads.open_at) found is
