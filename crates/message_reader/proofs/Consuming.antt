-- Reading messages up to the first that ends the reading, with each step that a reader gives.
use Rattle.std.proofs.Common.{◌≡◌, ℕ, List, [], ◌∷◌, ◌++◌, length, Option, Some, None, refl, sym}
use Rattle.std.proofs.Common.{ap, ◌∙◌, append_assoc}
use Rattle.std.specs.Option.{option_map, option_or}
use Rattle.std.proofs.lemmas.List.{append-nil}
use Rattle.message_codec.specs.declared.messages.Msg.{Msg}
use Rattle.message_codec.specs.Streams.{AreBytes, frames_of, Reader}
use Rattle.message_codec.specs.Verdicts.{Verdict}
use Rattle.message_reader.specs.declared.reader.BadFrame.{BadFrame}
use Rattle.message_reader.specs.Roles.{reader_of}
use Rattle.message_reader.specs.ReaderParts.{ReaderParts}
use Rattle.message_reader.specs.Representation.{Represents}
use Rattle.message_reader.specs.Steps.{Extends, bad_frame, GivesMessage, GivesNone}
use Rattle.message_reader.specs.Endings.{before_end, ending, Outcome, Stopped, Failed, outcome}
use Rattle.message_reader.specs.Endings.{IsFront}
use Rattle.message_reader.proofs.Endings.{before_end-append, ending-at, before_end-at}
use Rattle.message_reader.proofs.Endings.{before_end-all, ending-last}
use Rattle.message_reader.proofs.Completing.{Completes, unfed, represented}

-- the reader gave these messages of the stream, and none of them ended the reading
pub record Going {A : Type 0} (ends : Msg → Option A) (r : ReaderParts) (stream : List ℕ)
    (messages : List Msg) : Type 0 where
  pub represents : Represents r stream messages
  pub goes : ending ends messages ≡ None

-- the stream has that outcome, after these messages
pub record Comes {A : Type 0} (ends : Msg → Option A) (reader : Reader) (stream : List ℕ)
    (messages : List Msg) (to : Option (Outcome A)) : Type 0 where
  pub verdict : Verdict reader stream
  pub outcome_is : outcome ends verdict ≡ to
  pub messages_are : before_end ends verdict.messages ≡ messages

-- these are the first messages of the stream
pub record Begins {A : Type 0} (ends : Msg → Option A) (reader : Reader) (stream : List ℕ)
    (messages : List Msg) : Type 0 where
  pub verdict : Verdict reader stream
  pub front : IsFront messages (before_end ends verdict.messages)

-- ---- going on

no_stop : {A B : Type 0} (f : A → B) (o : Option A) (p : Option B)
    → option_or (option_map f o) p ≡ None → o ≡ None
no_stop f None p none = refl
no_stop f (Some x) p none = absurd cc

-- where the stream has no outcome, no message ended the reading
pub none_ended : {A : Type 0} (ends : Msg → Option A) (reader : Reader) (stream : List ℕ)
    (v : Verdict reader stream)
    → outcome ends v ≡ None
    → (ending ends v.messages ≡ None) × (before_end ends v.messages ≡ v.messages)
none_ended ends reader stream v none =
    let goes : ending ends v.messages ≡ None =
    no_stop (Stopped (length (frames_of (before_end ends v.messages)))) (ending ends v.messages)
    (option_map Failed (bad_frame v)) none in
    (goes, before_end-all ends v.messages goes)

pub going_fed : {A : Type 0} (ends : Msg → Option A) (r r' : ReaderParts) (stream piece : List ℕ)
    (messages : List Msg)
    → Extends r r' piece → Going ends r stream messages → Going ends r' (stream ++ piece) messages
going_fed ends r r' stream piece messages e g =
    record { represents = e.represents stream messages g.represents; goes = g.goes }

pub going_one : {A : Type 0} (ends : Msg → Option A) (r r' : ReaderParts) (stream : List ℕ)
    (messages : List Msg) (place : ℕ) (m : Msg)
    → GivesMessage r r' place m → ends m ≡ None → Going ends r stream messages
    → Going ends r' stream (messages ++ m ∷ [])
going_one ends r r' stream messages place m gives goes g =
    record {
      represents = gives.represents stream messages g.represents;
      goes = ending-last ends messages m g.goes goes;
    }

-- ---- some of the messages

begins : {A : Type 0} (ends : Msg → Option A) (reader : Reader) (stream : List ℕ)
    (messages : List Msg)
    → ending ends messages ≡ None → Completes reader stream messages
    → Begins ends reader stream messages
begins ends reader stream messages goes c = record {
  verdict = c.verdict;
  front = (
    before_end ends c.tail,
    ap (before_end ends) c.messages_are ∙ before_end-append ends messages c.tail goes,
  );
}

pub begins_here : {A : Type 0} (ends : Msg → Option A) (r : ReaderParts) (stream : List ℕ)
    (messages : List Msg)
    → Going ends r stream messages → Begins ends (reader_of r.role) stream messages
begins_here ends r stream messages g =
    begins ends (reader_of r.role) stream messages g.goes
    (represented r stream messages g.represents)

-- a piece was not fed
pub begins_unfed : {A : Type 0} (ends : Msg → Option A) (r : ReaderParts) (stream piece : List ℕ)
    (messages : List Msg)
    → AreBytes piece → Going ends r stream messages
    → Begins ends (reader_of r.role) (stream ++ piece) messages
begins_unfed ends r stream piece messages small g =
    begins ends (reader_of r.role) (stream ++ piece) messages g.goes
    (unfed r stream piece messages small g.represents)

-- one more message was given and is left out
one_more : (r : ReaderParts) (stream : List ℕ) (messages : List Msg) (m : Msg)
    → (c : Completes (reader_of r.role) stream (messages ++ m ∷ []))
    → c.verdict.messages ≡ messages ++ m ∷ c.tail
one_more r stream messages m c = c.messages_are ∙ append_assoc messages (m ∷ []) c.tail

pub begins_before : {A : Type 0} (ends : Msg → Option A) (r r' : ReaderParts) (stream : List ℕ)
    (messages : List Msg) (place : ℕ) (m : Msg)
    → GivesMessage r r' place m → Going ends r stream messages
    → Begins ends (reader_of r'.role) stream messages
begins_before ends r r' stream messages place m gives g =
    let c =
    represented r' stream (messages ++ m ∷ []) (gives.represents stream messages g.represents)
    in
    begins ends (reader_of r'.role) stream messages g.goes
    (record {
      verdict = c.verdict;
      tail = m ∷ c.tail;
      messages_are = one_more r' stream messages m c;
    })

-- ---- the outcome

pub comes_stopped : {A : Type 0} (ends : Msg → Option A) (r r' : ReaderParts) (stream : List ℕ)
    (messages : List Msg) (place : ℕ) (m : Msg) (by : A)
    → GivesMessage r r' place m → ends m ≡ Some by → Going ends r stream messages
    → Comes ends (reader_of r'.role) stream messages (Some (Stopped place by))
comes_stopped ends r r' stream messages place m by gives stops g =
    let c =
    represented r' stream (messages ++ m ∷ []) (gives.represents stream messages g.represents)
    in
    let v = c.verdict in
    let all : v.messages ≡ messages ++ m ∷ c.tail = one_more r' stream messages m c in
    let heard : before_end ends v.messages ≡ messages =
    ap (before_end ends) all ∙ before_end-at ends messages m c.tail by g.goes stops
    ∙ append-nil messages in
    let ended : ending ends v.messages ≡ Some by =
    ap (ending ends) all ∙ ending-at ends messages m c.tail by g.goes stops in
    let at : length (frames_of (before_end ends v.messages)) ≡ place =
    ap (λ (ms : List Msg). length (frames_of ms)) heard
    ∙ sym (gives.place_is stream messages g.represents) in
    record {
      verdict = v;
      outcome_is =
          ap
          (λ o.
          option_or
          (option_map (Stopped (length (frames_of (before_end ends v.messages)))) o)
          (option_map Failed (bad_frame v)))
          ended
          ∙ ap (λ (n : ℕ). Some (Stopped n by)) at;
      messages_are = heard;
    }

-- no message is left
pub comes_end : {A : Type 0} (ends : Msg → Option A) (r r' : ReaderParts) (stream : List ℕ)
    (messages : List Msg) (bad : Option BadFrame)
    → GivesNone r r' bad → Going ends r stream messages
    → Comes ends (reader_of r'.role) stream messages (option_map Failed bad)
comes_end ends r r' stream messages bad gives g =
    let c = gives.concludes stream messages g.represents in
    let v = c.verdict in
    let none : ending ends v.messages ≡ None = ap (ending ends) c.messages_are ∙ g.goes in record {
      verdict = v;
      outcome_is =
          ap
          (λ o.
          option_or
          (option_map (Stopped (length (frames_of (before_end ends v.messages)))) o)
          (option_map Failed (bad_frame v)))
          none
          ∙ ap (option_map Failed) c.bad_is;
      messages_are = before_end-all ends v.messages none ∙ c.messages_are;
    }
