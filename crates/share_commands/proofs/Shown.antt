-- The core of `show` between two messages of its stream, and how each step leaves it.
use Rattle.std.proofs.Common.{◌≡◌, ℕ, ◌≤◌, List, [], ◌∷◌, ◌++◌, length, Option, Some, None, Result, Ok, Err, refl, sym, ap, subst, ◌∙◌, append_assoc, arith, inl}
use Rattle.std.specs.Prelude.{IsErr}
use Rattle.std.specs.List.{flat_map}
use Rattle.std.specs.Option.{option_map}
use Rattle.std.proofs.lemmas.List.{length-append, append-nil}
use Rattle.std.proofs.lemmas.List.Concat.{flat_map-append}
use Rattle.share_base.specs.declared.out_of_memory.OutOfMemory.{OutOfMemory}
use Rattle.message_codec.specs.declared.messages.End.{End}
use Rattle.message_codec.specs.declared.messages.Msg.{Msg}
use Rattle.message_codec.specs.Streams.{AreBytes}
use Rattle.message_codec.specs.Verdicts.{Verdict}
use Rattle.message_reader.specs.declared.reader.BadFrame.{BadFrame}
use Rattle.message_reader.specs.declared.role.Role.TheVariants as role
use Rattle.message_reader.specs.Roles.{reader_of}
use Rattle.message_reader.specs.ReaderParts.{ReaderParts}
use Rattle.message_reader.specs.Representation.{Represents, IsPending}
use Rattle.message_reader.specs.Steps.{Extends, GivesMessage, GivesNone}
use Rattle.message_reader.specs.Endings.{Outcome, Failed, outcome}
use Rattle.message_reader.proofs.Completing.{partial_is}
use Rattle.message_reader.proofs.Consuming as reading
use Rattle.client_core.specs.declared.stop.Stop.{Stop}
use Rattle.share_commands.specs.declared.status.Status.{Status}
use Rattle.share_commands.specs.declared.status.Status.TheVariants as status
use Rattle.share_commands.specs.declared.show_core.ShowCore.{ShowCore}
use Rattle.share_commands.specs.Ways.{Way, showing, shown}
use Rattle.share_commands.specs.Endings.{status_by, printed_of, decided}
use Rattle.share_commands.specs.Cores.{IsDone, Feeds, Clears, EndsHere, EndsInput}
use Rattle.share_commands.specs.Shows.{Lists, Shown, end_after, TakesPiece}
use Rattle.share_commands.proofs.InputEnds.{end_for, ends_so}

-- every message is shown
abbrev goes_always : Msg → Option Stop
goes_always m = None

-- these messages were shown
pub record Going (r : ReaderParts) (lines : List ℕ) (stream : List ℕ) (messages : List Msg) (taken : List ℕ) : Type 0 where
  pub reads : reading.Going goes_always r stream messages
  pub lines_are : taken ++ lines ≡ flat_map shown messages

no_end : (o : Option (Outcome Stop)) → None ≡ option_map status_by o → o ≡ None
no_end None none = refl
no_end (Some x) none = absurd cc

pub going : (from : End) (r : ReaderParts) (lines stream : List ℕ) (messages : List Msg) (taken : List ℕ) → Lists from r lines None stream messages taken → Going r lines stream messages taken
going from r lines stream messages taken k =
    let v = k.prints.verdict in
    let none = reading.none_ended goes_always (reader_of r.role) stream v (no_end (outcome goes_always v) k.prints.ended.0) in
    let all : messages ≡ v.messages = k.prints.ended.1 ∙ none.1 in record {
      reads = subst (reading.Going goes_always r stream) (sym all) (record { represents = (k.open_at refl).represents; goes = none.0 });
      lines_are = k.prints.lines_are;
    }

-- ---- the exits

broken : (from : End) (r : ReaderParts) (lines stream : List ℕ) (messages : List Msg) (taken : List ℕ) → reading.Begins goes_always (reader_of r.role) stream messages → taken ++ lines ≡ flat_map shown messages → r.total ≤ length stream → Lists from r lines (Some status.OutOfMemory) stream messages taken
broken from r lines stream messages taken b lines-are total = record {
  prints = record { verdict = b.verdict; ended = b.front; lines_are = lines-are };
  open_at = λ none. absurd cc;
  total_is = total;
}

-- no message is left
pub ends_here : (from : End) (r r' : ReaderParts) (lines stream : List ℕ) (messages : List Msg) (taken : List ℕ) (bad : Option BadFrame) → GivesNone r r' bad → Going r lines stream messages taken → Lists from r' lines (end_after (Ok bad)) stream messages taken
ends_here from r r' lines stream messages taken bad gives g = cases bad (reading.comes_end goes_always r r' stream messages bad gives g.reads) gives.bad_is
  where
    h : Represents r' stream messages
    h = gives.represents stream messages g.reads.represents

    total : r'.total ≤ length stream
    total = let t = h.total in omega arith

    cases : (bad : Option BadFrame) → reading.Comes goes_always (reader_of r'.role) stream messages (option_map Failed bad) → r'.bad ≡ bad → Lists from r' lines (end_after (Ok bad)) stream messages taken
    cases (Some b) c is = record {
      prints = record { verdict = c.verdict; ended = (sym (ap (option_map status_by) c.outcome_is), sym c.messages_are); lines_are = g.lines_are };
      open_at = λ none. absurd cc;
      total_is = total;
    }
    cases None c is =
        let none = reading.none_ended goes_always (reader_of r'.role) stream c.verdict c.outcome_is in record {
          prints = record { verdict = c.verdict; ended = (sym (ap (option_map status_by) c.outcome_is), sym c.messages_are); lines_are = g.lines_are };
          open_at = λ same. record { represents = subst (Represents r' stream) (sym c.messages_are ∙ none.1) h; fine = is };
          total_is = total;
        }

-- ---- a piece

-- some of the piece's messages were shown
abbrev pub Listing : ReaderParts → ReaderParts → List ℕ → List ℕ → List ℕ → Type 0
Listing r r' lines lines' piece = (from : End) (stream : List ℕ) (messages : List Msg) (taken : List ℕ) → Lists from r lines None stream messages taken → (more : List Msg) × Going r' lines' (stream ++ piece) (messages ++ more) taken

pub listing_fed : (r r' : ReaderParts) (lines piece : List ℕ) → Extends r r' piece → Listing r r' lines lines piece
listing_fed r r' lines piece e from stream messages taken k =
    let g = going from r lines stream messages taken k in
    let fed : Going r' lines (stream ++ piece) messages taken = record { reads = reading.going_fed goes_always r r' stream piece messages e g.reads; lines_are = g.lines_are } in
    ([], subst (λ (ms : List Msg). Going r' lines (stream ++ piece) ms taken) (sym (append-nil messages)) fed)

flat_map-last : (ms : List Msg) (m : Msg) → flat_map shown (ms ++ m ∷ []) ≡ flat_map shown ms ++ shown m
flat_map-last ms m = flat_map-append shown ms (m ∷ []) ∙ ap (λ (t : List ℕ). flat_map shown ms ++ t) (append-nil (shown m))

pub listing_one : (r r' next : ReaderParts) (lines lines' after piece : List ℕ) (place : ℕ) (m : Msg) → Listing r r' lines lines' piece → GivesMessage r' next place m → after ≡ lines' ++ shown m → Listing r next lines after piece
listing_one r r' next lines lines' after piece place m w gives added from stream messages taken k =
    let (more, g) = w from stream messages taken k in
    let all : List Msg = messages ++ more in
    let one : Going next after (stream ++ piece) (all ++ m ∷ []) taken = record {
      reads = reading.going_one goes_always r' next (stream ++ piece) all place m gives refl g.reads;
      lines_are = ap (λ (t : List ℕ). taken ++ t) added ∙ sym (append_assoc taken lines' (shown m)) ∙ ap (λ (t : List ℕ). t ++ shown m) g.lines_are ∙ sym (flat_map-last all m);
    } in
    (more ++ m ∷ [], subst (λ (ms : List Msg). Going next after (stream ++ piece) ms taken) (append_assoc messages more (m ∷ [])) one)

takes_err : (r r' : ReaderParts) (lines lines' : List ℕ) (answer : Result (Option BadFrame) OutOfMemory) (piece : List ℕ) → IsErr answer → r'.role ≡ r.role → ((from : End) (stream : List ℕ) (messages : List Msg) (taken : List ℕ) → Lists from r lines None stream messages taken → (more : List Msg) × Lists from r' lines' (Some status.OutOfMemory) (stream ++ piece) (messages ++ more) taken) → TakesPiece r r' lines lines' answer piece
takes_err r r' lines lines' (Ok x) piece err role shows = absurd cc
takes_err r r' lines lines' (Err memory) piece err role shows = record { role_is = role; shows = shows }

pub takes_unfed : (r r' : ReaderParts) (lines : List ℕ) (answer : Result (Option BadFrame) OutOfMemory) (piece : List ℕ) → IsErr answer → r' ≡ r → AreBytes piece → TakesPiece r r' lines lines answer piece
takes_unfed r r' lines answer piece err same small = takes_err r r' lines lines answer piece err (ap (λ (x : ReaderParts). x.role) same) (λ from stream messages taken k.
    let g = going from r lines stream messages taken k in
    let t = g.reads.represents.total in
    let kept = broken from r lines (stream ++ piece) messages taken (reading.begins_unfed goes_always r stream piece messages small g.reads) g.lines_are (omega (arith, t, length-append stream piece)) in
    let P : List Msg → ReaderParts → Type 0 = λ ms x. Lists from x lines (Some status.OutOfMemory) (stream ++ piece) ms taken in
    ([], subst (λ (ms : List Msg). P ms r') (sym (append-nil messages)) (subst (P messages) (sym same) kept)))

pub takes_broken : (r r' next : ReaderParts) (lines lines' : List ℕ) (answer : Result (Option BadFrame) OutOfMemory) (piece : List ℕ) → IsErr answer → r'.role ≡ r.role → next ≡ r' → Listing r r' lines lines' piece → TakesPiece r next lines lines' answer piece
takes_broken r r' next lines lines' answer piece err role same w = takes_err r next lines lines' answer piece err (ap (λ (x : ReaderParts). x.role) same ∙ role) (λ from stream messages taken k.
    let (more, g) = w from stream messages taken k in
    let t = g.reads.represents.total in
    let kept = broken from r' lines' (stream ++ piece) (messages ++ more) taken (reading.begins_here goes_always r' (stream ++ piece) (messages ++ more) g.reads) g.lines_are (omega (arith, t)) in
    (more, subst (λ (x : ReaderParts). Lists from x lines' (Some status.OutOfMemory) (stream ++ piece) (messages ++ more) taken) (sym same) kept))

pub takes_broken_at : (r r' next : ReaderParts) (lines lines' after : List ℕ) (answer : Result (Option BadFrame) OutOfMemory) (piece : List ℕ) (place : ℕ) (m : Msg) → IsErr answer → r'.role ≡ r.role → GivesMessage r' next place m → after ≡ lines' → Listing r r' lines lines' piece → TakesPiece r next lines after answer piece
takes_broken_at r r' next lines lines' after answer piece place m err role gives same w = takes_err r next lines after answer piece err (gives.role ∙ role) (λ from stream messages taken k.
    let (more, g) = w from stream messages taken k in
    let t = (gives.represents (stream ++ piece) (messages ++ more) g.reads.represents).total in
    (more, broken from next after (stream ++ piece) (messages ++ more) taken (reading.begins_before goes_always r' next (stream ++ piece) (messages ++ more) place m gives g.reads) (ap (λ (x : List ℕ). taken ++ x) same ∙ g.lines_are) (omega (arith, t))))

pub takes_end : (r r' next : ReaderParts) (lines lines' : List ℕ) (bad : Option BadFrame) (piece : List ℕ) → r'.role ≡ r.role → GivesNone r' next bad → Listing r r' lines lines' piece → TakesPiece r next lines lines' (Ok bad) piece
takes_end r r' next lines lines' bad piece role gives w = record {
  role_is = gives.role ∙ role;
  shows = λ from stream messages taken k.
      let (more, g) = w from stream messages taken k in
      (more, ends_here from r' next lines' (stream ++ piece) (messages ++ more) taken bad gives g);
}

-- ---- the whole core

pub fresh_core : (core : ShowCore) → core.reader.role ≡ role.Observer core.from → Represents core.reader [] [] → core.reader.bad ≡ None → core.lines ≡ [] → core.done ≡ None → Shown core (showing core.from) [] [] []
fresh_core core role represents fine empty none =
    let v : Verdict (reader_of core.reader.role) [] = record { messages = []; rest = []; place = 0; bad = None; stream_is = refl; good = tt; place_is = refl; ends = inl (omega arith) } in record {
      role_is = role;
      way_is = refl;
      lists = record {
        prints = record { verdict = v; ended = subst (λ (d : Option Status). IsDone (showing core.from) d v []) (sym none) (refl, refl); lines_are = empty };
        open_at = λ same. record { represents = represents; fine = fine };
        total_is = omega (arith, represents.total);
      };
    }

pub feeds : (core new : ShowCore) (answer : Result (Option BadFrame) OutOfMemory) (piece : List ℕ) → core.done ≡ None → new.done ≡ end_after answer → new.from ≡ core.from → TakesPiece core.reader new.reader core.lines new.lines answer piece → Feeds Shown core new piece
feeds core new answer piece none done from t w stream messages taken k =
    let (more, kept) = t.shows core.from stream messages taken (subst (λ (d : Option Status). Lists core.from core.reader core.lines d stream messages taken) none k.lists) in
    let L : End → Option Status → Type 0 = λ f d. Lists f new.reader new.lines d (stream ++ piece) (messages ++ more) taken in (
      more,
      record {
        role_is = t.role_is ∙ k.role_is ∙ ap role.Observer (sym from);
        way_is = k.way_is ∙ ap showing (sym from);
        lists = subst (λ (f : End). L f new.done) (sym from) (subst (L core.from) (sym done) kept);
      },
    )

pub clears : (core : ShowCore) (lines : List ℕ) → lines ≡ [] → Clears Shown core (record core { lines = lines }) core.lines
clears core lines none w stream messages taken k =
    let p = k.lists.prints in
    let all : (taken ++ core.lines) ++ lines ≡ flat_map shown messages = ap (λ (t : List ℕ). (taken ++ core.lines) ++ t) none ∙ append-nil (taken ++ core.lines) ∙ p.lines_are in record {
      role_is = k.role_is;
      way_is = k.way_is;
      lists = record { prints = record { verdict = p.verdict; ended = p.ended; lines_are = all }; open_at = k.lists.open_at; total_is = k.lists.total_is };
    }

-- the stream ends
pub ends_input : (core : ShowCore) (found : Option ℕ) (end : Status) → core.done ≡ None → IsPending core.reader found → end ≡ end_for (showing core.from) found → EndsInput Shown core end
ends_input core found end none pending is w stream messages taken k =
    let p = k.lists.prints in
    let v = p.verdict in
    let so : (None ≡ decided (showing core.from) v) × (messages ≡ printed_of (showing core.from) v) = subst (λ (d : Option Status). IsDone (showing core.from) d v messages) none p.ended in
    let partial = partial_is core.reader (reader_of core.reader.role) stream v (k.lists.open_at none) found pending in
    subst (λ (x : Way). EndsHere x end stream messages) (sym k.way_is)
    (ends_so (showing core.from) (reader_of core.reader.role) stream messages found end (ap reader_of k.role_is) v (sym so.0) so.1 partial is)
