-- Streams that are made of messages, as a reader takes them.
use Rattle.std.specs.Prelude.{◌≡◌, ℕ, ◌<◌, ◌≤◌, ◌^◌, Bool, true, List, [], ◌∷◌, ◌++◌, length}
use Rattle.std.specs.List.{flat_map, AllByRecursion}
use Rattle.std.proofs.Common.{lit≤}
use Rattle.wire_frames.specs.Framing.{frame}
use Rattle.message_codec.specs.declared.messages.End.{End}
use Rattle.message_codec.specs.declared.messages.Msg.{Msg}
use Rattle.message_codec.specs.Spelling.{body_of, Spells}

abbrev pub body_limit : ℕ
body_limit = 4194304

-- numbers below 256
abbrev pub AreBytes : List ℕ → Type 0
AreBytes xs = AllByRecursion (λ b. b < 2 ^ 8) xs

-- the frame of a message
abbrev pub frame_of : Msg → List ℕ
frame_of m = frame (body_of m)

-- the frames of messages, one after another
abbrev pub frames_of : List Msg → List ℕ
frames_of messages = flat_map frame_of messages

-- who reads a stream: which end sends it, how long a body may be after these messages, and whether
-- a message may stand after them
pub record Reader : Type 0 where
  pub from : End
  pub limit : List Msg → ℕ
  pub limited : (before : List Msg) → limit before ≤ body_limit
  pub takes : List Msg → Msg → Bool

-- one for which every message of that end may stand anywhere
abbrev pub plain : End → Reader
plain from =
    record {
      from = from;
      limit = λ before. body_limit;
      limited = λ before. lit≤ tt;
      takes = λ before m. true;
    }

-- a message that may stand after those
pub record IsGood (reader : Reader) (before : List Msg) (m : Msg) : Type 0 where
  pub spelled : Spells reader.from m (body_of m)
  pub within : length (body_of m) ≤ reader.limit before
  pub taken : reader.takes before m ≡ true

-- each of the messages may stand after those and the ones before it
abbrev pub AllGood : Reader → List Msg → List Msg → Type 0
AllGood reader before [] = Unit {0}
AllGood reader before (m ∷ ms) = IsGood reader before m × AllGood reader (before ++ m ∷ []) ms
