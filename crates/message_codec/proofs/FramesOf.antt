-- The frames of messages, with one message more in front or behind.
use Rattle.std.proofs.Common.{◌≡◌, ℕ, ◌+◌, List, [], ◌∷◌, ◌++◌, length, ap, ◌∙◌, append_assoc}
use Rattle.std.proofs.lemmas.List.{length-append, append-nil}
use Rattle.std.proofs.lemmas.List.Concat.{flat_map-cons, flat_map-append}
use Rattle.message_codec.specs.declared.messages.Msg.{Msg}
use Rattle.message_codec.specs.Streams.{frame_of, frames_of}

pub frames-cons : (m : Msg) (ms : List Msg) (rest : List ℕ)
    → frames_of (m ∷ ms) ++ rest ≡ frame_of m ++ (frames_of ms ++ rest)
frames-cons m ms rest =
    ap (λ (t : List ℕ). t ++ rest) (flat_map-cons frame_of m ms)
    ∙ append_assoc (frame_of m) (frames_of ms) rest

pub frames-last : (ms : List Msg) (m : Msg) → frames_of (ms ++ m ∷ []) ≡ frames_of ms ++ frame_of m
frames-last ms m =
    flat_map-append frame_of ms (m ∷ [])
    ∙ ap (λ (t : List ℕ). frames_of ms ++ t) (append-nil (frame_of m))

pub length-frames_of : (ms : List Msg) (m : Msg)
    → length (frames_of (ms ++ m ∷ [])) ≡ length (frames_of ms) + length (frame_of m)
length-frames_of ms m = ap length (frames-last ms m) ∙ length-append (frames_of ms) (frame_of m)
