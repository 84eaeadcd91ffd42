-- The verdict on a whole stream, of which some messages were given.
use Rattle.std.proofs.Common.{◌≡◌, ℕ, suc, List, [], ◌++◌, ◌∷◌, length, drop, Option, None, refl}
use Rattle.std.proofs.Common.{sym, ap, subst, ◌∙◌, append_assoc, arith}
use Rattle.std.proofs.lemmas.List.{drop_at}
use Rattle.std.proofs.lemmas.List.Concat.{flat_map-append}
use Rattle.message_codec.specs.declared.messages.Msg.{Msg}
use Rattle.message_codec.specs.Streams.{AreBytes, frame_of, frames_of, Reader, AllGood}
use Rattle.message_codec.specs.Verdicts.{Verdict}
use Rattle.message_codec.proofs.Readers.{all-IsBytes}
use Rattle.message_codec.proofs.HasVerdict.{Follows, follows}
use Rattle.message_codec.proofs.OneVerdict.{all_good-append}
use Rattle.message_reader.specs.declared.reader.BadFrame.{BadFrame}
use Rattle.message_reader.specs.Roles.{reader_of}
use Rattle.message_reader.specs.ReaderParts.{ReaderParts}
use Rattle.message_reader.specs.Representation.{Represents, IsOpen, pending_at, IsPending}
use Rattle.message_reader.specs.Steps.{partial_at}
use Rattle.message_reader.proofs.Stepping.{bytes-append}

-- bytes at the end of bytes
pub bytes-after : (xs ys : List ℕ) → AreBytes (xs ++ ys) → AreBytes ys
bytes-after [] ys h = h
bytes-after (x ∷ xs) ys h = bytes-after xs ys h.1

-- a verdict that has these messages first
pub record Completes (r : Reader) (stream : List ℕ) (messages : List Msg) : Type 0 where
  pub verdict : Verdict r stream
  pub tail : List Msg
  pub messages_are : verdict.messages ≡ messages ++ tail

pub completes : (r : Reader) (messages : List Msg) (rest stream : List ℕ) → AllGood r [] messages
    → AreBytes rest → stream ≡ frames_of messages ++ rest → Completes r stream messages
completes r messages rest stream good bytes stream-is =
    let f : Follows r messages rest =
    follows (suc (length rest)) r messages rest (omega arith) (all-IsBytes rest bytes) in
    let all : List Msg = messages ++ f.messages in record {
      verdict = record {
        messages = all;
        rest = f.rest;
        place = length (frames_of all);
        bad = f.bad;
        stream_is = stream-is ∙ ap (λ (t : List ℕ). frames_of messages ++ t) f.bytes_are
            ∙ sym (append_assoc (frames_of messages) (frames_of f.messages) f.rest)
            ∙ ap (λ (t : List ℕ). t ++ f.rest)
            (sym (flat_map-append frame_of messages f.messages));
        good = all_good-append r [] messages f.messages good f.good;
        place_is = refl;
        ends = f.ends;
      };
      tail = f.messages;
      messages_are = refl;
    }

pub represented : (r : ReaderParts) (stream : List ℕ) (messages : List Msg)
    → Represents r stream messages → Completes (reader_of r.role) stream messages
represented r stream messages h =
    completes (reader_of r.role) messages h.rest stream h.good
    (bytes-after (frames_of messages) h.rest (subst AreBytes h.stream_is h.bytes)) h.stream_is

-- the rest after given messages is one
pub same_rest : (messages : List Msg) (stream x y : List ℕ) → stream ≡ frames_of messages ++ x
    → stream ≡ frames_of messages ++ y → x ≡ y
same_rest messages stream x y first second =
    sym (drop_at (frames_of messages) x (length (frames_of messages)) refl)
    ∙ ap (λ (t : List ℕ). drop (length (frames_of messages)) t) (sym first ∙ second)
    ∙ drop_at (frames_of messages) y (length (frames_of messages)) refl

-- the verdict on a stream with a piece after it, which the reader was not fed
pub unfed : (r : ReaderParts) (stream piece : List ℕ) (messages : List Msg) → AreBytes piece
    → Represents r stream messages → Completes (reader_of r.role) (stream ++ piece) messages
unfed r stream piece messages small h =
    let rest : AreBytes h.rest =
    bytes-after (frames_of messages) h.rest (subst AreBytes h.stream_is h.bytes) in
    completes (reader_of r.role) messages (h.rest ++ piece) (stream ++ piece) h.good
    (bytes-append h.rest piece rest small)
    (ap (λ (t : List ℕ). t ++ piece) h.stream_is
    ∙ append_assoc (frames_of messages) h.rest piece)

-- what is pending after the messages of a verdict is what is left of it
pub partial_is : (r : ReaderParts) (reader : Reader) (stream : List ℕ) (v : Verdict reader stream)
    → IsOpen r stream v.messages → (found : Option ℕ) → IsPending r found → found ≡ partial_at v
partial_is r reader stream v at found is =
    let h = at.represents in
    let n : ℕ = length (frames_of v.messages) in
    is stream v.messages h ∙ ap (λ (b : Option BadFrame). pending_at b n h.rest) at.fine
    ∙ ap (pending_at None n) (same_rest v.messages stream h.rest v.rest h.stream_is v.stream_is)
    ∙ ap (λ (m : ℕ). pending_at None m v.rest) (sym v.place_is)
