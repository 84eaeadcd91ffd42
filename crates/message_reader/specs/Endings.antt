-- Messages up to the first that ends something, and how a stream ends it.
use Rattle.std.specs.Prelude.{◌≡◌, ℕ, List, [], ◌∷◌, ◌++◌, length, Option, None, is_some}
use Rattle.std.specs.Prelude.{if◌then◌else◌}
use Rattle.std.specs.Option.{option_map, option_or}
use Rattle.message_codec.specs.declared.messages.Msg.{Msg}
use Rattle.message_codec.specs.Streams.{frames_of, Reader}
use Rattle.message_codec.specs.Verdicts.{Verdict}
use Rattle.message_reader.specs.declared.reader.BadFrame.{BadFrame}
use Rattle.message_reader.specs.Steps.{bad_frame}

-- the messages before the first that ends it
abbrev pub before_end : {A : Type 0} → (Msg → Option A) → List Msg → List Msg
before_end ends [] = []
before_end ends (m ∷ messages) = if is_some (ends m) then [] else m ∷ before_end ends messages

-- how the first such message ends it
abbrev pub ending : {A : Type 0} → (Msg → Option A) → List Msg → Option A
ending ends [] = None
ending ends (m ∷ messages) = option_or (ends m) (ending ends messages)

-- a message ended it, whose frame begins at that place; or a bad frame did
pub data Outcome (A : Type 0) : Type 0 where
  Stopped : ℕ → A → Outcome A
  Failed : BadFrame → Outcome A

-- how the stream ends it: by the first message that does, else by the bad frame
abbrev pub outcome : {A : Type 0} {reader : Reader} {stream : List ℕ} → (Msg → Option A)
    → Verdict reader stream → Option (Outcome A)
outcome ends verdict =
    option_or
    (option_map (Stopped (length (frames_of (before_end ends verdict.messages))))
    (ending ends verdict.messages))
    (option_map Failed (bad_frame verdict))

-- the first messages of a list
abbrev pub IsFront : List Msg → List Msg → Type 0
IsFront front messages = (more : List Msg) × (messages ≡ front ++ more)
