-- The bodies of messages are bytes, where their texts are.
use Rattle.std.specs.Prelude.{ℕ, ◌<◌, ◌^◌, List, [], ◌∷◌, ◌++◌, length}
use Rattle.std.specs.Int.{w16, w32, to_be_bytes, cast_unsigned}
use Rattle.std.specs.List.{flat_map, AllByRecursion}
use Rattle.std.proofs.Common.{arith}
use Rattle.message_codec.specs.declared.messages.Msg.{Msg}
use Rattle.message_codec.specs.declared.coding.Code.{Code}
use Rattle.message_codec.specs.declared.coding.Code.TheVariants as code
use Rattle.message_codec.specs.Fields.{Field, Byte, Half, Signed, Word, Clip, Mark, Text, Words, spelled, Fits, spelled_all}
use Rattle.message_codec.specs.Table.{text, code_of, fields}
use Rattle.message_codec.specs.Spelling.{body_of}
use Rattle.message_codec.specs.Streams.{AreBytes, frame_of, frames_of}
use Rattle.message_reader.proofs.Stepping.{bytes-append}
use Rattle.message_reader.proofs.Completing.{bytes-after}
use Rattle.both_ends.specs.Writing.{HasByteText, IsWritable}
use Rattle.both_ends.proofs.AllOfLists.{all-first}

pub bytes-before : (xs ys : List ℕ) → AreBytes (xs ++ ys) → AreBytes xs
bytes-before xs ys h = all-first (λ b. b < 2 ^ 8) xs ys h

-- ---- numbers

two_bytes : (n : ℕ) → AreBytes (to_be_bytes w16 n)
two_bytes n = omega arith

four_bytes : (n : ℕ) → AreBytes (to_be_bytes w32 n)
four_bytes n = omega arith

words_bytes : (ns : List ℕ) → AreBytes (flat_map (to_be_bytes w32) ns)
words_bytes [] = tt
words_bytes (n ∷ ns) = bytes-append (to_be_bytes w32 n) (flat_map (to_be_bytes w32) ns) (four_bytes n) (words_bytes ns)

-- ---- a message

field_bytes : (f : Field) → Fits f → HasByteText f → AreBytes (spelled f)
field_bytes (Byte n) h t = (h, tt)
field_bytes (Half n) h t = two_bytes n
field_bytes (Signed z) h t = two_bytes (cast_unsigned w16 z)
field_bytes (Word n) h t = four_bytes n
field_bytes (Clip n) h t = (h, tt)
field_bytes (Mark n) h t = (h, tt)
field_bytes (Text bytes) h t = bytes-append (to_be_bytes w32 (length bytes)) bytes (four_bytes (length bytes)) t
field_bytes (Words ns) h t = bytes-append (to_be_bytes w32 (length ns)) (flat_map (to_be_bytes w32) ns) (four_bytes (length ns)) (words_bytes ns)

fields_bytes : (fs : List Field) → AllByRecursion Fits fs → AllByRecursion HasByteText fs → AreBytes (spelled_all fs)
fields_bytes [] h t = tt
fields_bytes (f ∷ fs) h t = bytes-append (spelled f) (spelled_all fs) (field_bytes f h.0 t.0) (fields_bytes fs h.1 t.1)

code_bytes : (c : Code) → AreBytes (text c)
code_bytes code.Hello = omega arith
code_bytes c = omega arith

body_bytes : (m : Msg) → AllByRecursion Fits (fields m) → AllByRecursion HasByteText (fields m) → AreBytes (body_of m)
body_bytes m h t = bytes-append (text (code_of m)) (spelled_all (fields m)) (code_bytes (code_of m)) (fields_bytes (fields m) h t)

frame_bytes : (m : Msg) → AreBytes (body_of m) → AreBytes (frame_of m)
frame_bytes m h = bytes-append (to_be_bytes w32 (length (body_of m))) (body_of m) (four_bytes (length (body_of m))) h

pub frames-bytes : (ms : List Msg) → AllByRecursion IsWritable ms → AreBytes (frames_of ms)
frames-bytes [] w = tt
frames-bytes (m ∷ ms) w = bytes-append (frame_of m) (frames_of ms) (frame_bytes m (body_bytes m w.0.fits w.0.texts)) (frames-bytes ms w.1)

-- ---- and back

text_in : (f : Field) → AreBytes (spelled f) → HasByteText f
text_in (Byte n) h = tt
text_in (Half n) h = tt
text_in (Signed z) h = tt
text_in (Word n) h = tt
text_in (Clip n) h = tt
text_in (Mark n) h = tt
text_in (Text bytes) h = bytes-after (to_be_bytes w32 (length bytes)) bytes h
text_in (Words ns) h = tt

texts_in : (fs : List Field) → AreBytes (spelled_all fs) → AllByRecursion HasByteText fs
texts_in [] h = tt
texts_in (f ∷ fs) h = (text_in f (bytes-before (spelled f) (spelled_all fs) h), texts_in fs (bytes-after (spelled f) (spelled_all fs) h))

body_texts : (m : Msg) → AreBytes (body_of m) → AllByRecursion HasByteText (fields m)
body_texts m h = texts_in (fields m) (bytes-after (text (code_of m)) (spelled_all (fields m)) h)

pub frames-texts : (ms : List Msg) (rest : List ℕ) → AreBytes (frames_of ms ++ rest) → AllByRecursion (λ m. AllByRecursion HasByteText (fields m)) ms
frames-texts [] rest h = tt
frames-texts (m ∷ ms) rest h =
    let both : AreBytes (frame_of m ++ frames_of ms) = bytes-before (frame_of m ++ frames_of ms) rest h in
    (body_texts m (bytes-after (to_be_bytes w32 (length (body_of m))) (body_of m) (bytes-before (frame_of m) (frames_of ms) both)), frames-texts ms [] (bytes-append (frames_of ms) [] (bytes-after (frame_of m) (frames_of ms) both) tt))
