-- Messages that can be written, where their numbers fit.
use Rattle.std.specs.Prelude.{◌≡◌, ℕ, zero, suc, ◌<◌, ◌≤◌, ◌^◌, ℤ, FitsSigned, Bool, true, false, List, [], ◌∷◌, ◌++◌, map, length, take, drop, if◌then◌else◌}
use Rattle.std.specs.Int.{w16, w32, to_be_bytes}
use Rattle.std.specs.List.{list_all, AllByRecursion}
use Rattle.std.specs.Char.{is_ascii_digit}
use Rattle.std.specs.Fmt.{decimal}
use Rattle.std.proofs.Common.{arith, lit≤, ap, sym, subst}
use Rattle.std.proofs.lemmas.Bool.{and_parts}
use Rattle.std.proofs.lemmas.Bool.Decides.{nat_tests}
use Rattle.std.proofs.lemmas.Fmt.{length-decimal-le, digits_decimal}
use Rattle.std.proofs.lemmas.List.{length-append, length-take, take-append-drop, append-nil}
use Rattle.share_base.specs.declared.clip_id.ClipId.{ClipId}
use Rattle.share_base.specs.declared.clip_id.ClipId.TheVariants.{Clipboard, Selection}
use Rattle.share_base.specs.Clips.{clip_number}
use Rattle.message_codec.specs.declared.messages.Msg.{Msg}
use Rattle.message_codec.specs.declared.messages.Msg.TheVariants as msg
use Rattle.message_codec.specs.declared.clip_mark.ClipMark.{ClipMark}
use Rattle.message_codec.specs.declared.clip_mark.ClipMark.TheVariants as mark
use Rattle.message_codec.specs.declared.coding.Code.TheVariants as code
use Rattle.message_codec.specs.Fields.{Words, spelled}
use Rattle.message_codec.specs.Marks.{mark_number}
use Rattle.message_codec.specs.Table.{text}
use Rattle.message_codec.specs.Spelling.{body_of}
use Rattle.message_codec.specs.Streams.{AreBytes}
use Rattle.message_codec.proofs.Putting.{length-spelled_words}
use Rattle.clip_chunks.specs.Parts.{part, message_of}
use Rattle.clip_chunks.specs.Sending.{cut_into, full_chunk, parts_of}
use Rattle.message_reader.proofs.Completing.{bytes-after}
use Rattle.clip_chunks.proofs.Sizes.{digits}
use Rattle.both_ends.specs.Writing.{IsWritable}
use Rattle.both_ends.proofs.ByteBodies.{bytes-before}
use Rattle.both_ends.proofs.Telling.{is_bare}

-- ---- no numbers, or always the same

pub bare-writable : (m : Msg) → is_bare m ≡ true → IsWritable m
bare-writable msg.QueryInfo h = record { fits = tt; texts = tt; within = lit≤ tt }
bare-writable msg.InfoAck h = record { fits = tt; texts = tt; within = lit≤ tt }
bare-writable msg.ResetOptions h = record { fits = tt; texts = tt; within = lit≤ tt }
bare-writable msg.Bye h = record { fits = tt; texts = tt; within = lit≤ tt }
bare-writable msg.Leave h = record { fits = tt; texts = tt; within = lit≤ tt }
bare-writable msg.Busy h = record { fits = tt; texts = tt; within = lit≤ tt }
bare-writable msg.Unknown h = record { fits = tt; texts = tt; within = lit≤ tt }
bare-writable msg.Malformed h = record { fits = tt; texts = tt; within = lit≤ tt }
bare-writable msg.Alive h = record { fits = tt; texts = tt; within = lit≤ tt }
bare-writable m h = grind (arith, h)

pub hello-writable : IsWritable (msg.Hello 1 6)
hello-writable = record { fits = (omega arith, (omega arith, tt)); texts = (tt, (tt, tt)); within = lit≤ tt }

pub version-writable : IsWritable (msg.BadVersion 1 6)
version-writable = record { fits = (omega arith, (omega arith, tt)); texts = (tt, (tt, tt)); within = lit≤ tt }

clip_small : (id : ClipId) → clip_number id < 2 ^ 8
clip_small Clipboard = omega arith
clip_small Selection = omega arith

mark_small : (m : ClipMark) → mark_number m < 2 ^ 8
mark_small mark.Start = omega arith
mark_small mark.Chunk = omega arith
mark_small mark.End = omega arith

pub grab-writable : (id : ClipId) → IsWritable (msg.Grab id 0)
grab-writable id = record { fits = (clip_small id, (omega arith, tt)); texts = (tt, (tt, tt)); within = lit≤ tt }

pub saver-writable : (on : Bool) → IsWritable (msg.Saver (if on then 1 else 0))
saver-writable true = record { fits = (omega arith, tt); texts = (tt, tt); within = lit≤ tt }
saver-writable false = record { fits = (omega arith, tt); texts = (tt, tt); within = lit≤ tt }

-- ---- keys, buttons and motions

pub key_down-writable : (id mask button : ℕ) → id < 2 ^ 16 → mask < 2 ^ 16 → button < 2 ^ 16 → IsWritable (msg.KeyDown id mask button)
key_down-writable id mask button a b c = record { fits = (a, (b, (c, tt))); texts = (tt, (tt, (tt, tt))); within = lit≤ tt }

pub key_up-writable : (id mask button : ℕ) → id < 2 ^ 16 → mask < 2 ^ 16 → button < 2 ^ 16 → IsWritable (msg.KeyUp id mask button)
key_up-writable id mask button a b c = record { fits = (a, (b, (c, tt))); texts = (tt, (tt, (tt, tt))); within = lit≤ tt }

pub key_repeat-writable : (id mask count button : ℕ) → id < 2 ^ 16 → mask < 2 ^ 16 → count < 2 ^ 16 → button < 2 ^ 16 → IsWritable (msg.KeyRepeat id mask count button)
key_repeat-writable id mask count button a b c d = record { fits = (a, (b, (c, (d, tt)))); texts = (tt, (tt, (tt, (tt, tt)))); within = lit≤ tt }

pub button_down-writable : (b : ℕ) → b < 2 ^ 8 → IsWritable (msg.ButtonDown b)
button_down-writable b h = record { fits = (h, tt); texts = (tt, tt); within = lit≤ tt }

pub button_up-writable : (b : ℕ) → b < 2 ^ 8 → IsWritable (msg.ButtonUp b)
button_up-writable b h = record { fits = (h, tt); texts = (tt, tt); within = lit≤ tt }

pub enter-writable : (x y : ℤ) (seq mask : ℕ) → FitsSigned w16 x → FitsSigned w16 y → seq < 2 ^ 32 → mask < 2 ^ 16 → IsWritable (msg.Enter x y seq mask)
enter-writable x y seq mask a b c d = record { fits = (a, (b, (c, (d, tt)))); texts = (tt, (tt, (tt, (tt, tt)))); within = lit≤ tt }

pub move_to-writable : (x y : ℤ) → FitsSigned w16 x → FitsSigned w16 y → IsWritable (msg.MoveTo x y)
move_to-writable x y a b = record { fits = (a, (b, tt)); texts = (tt, (tt, tt)); within = lit≤ tt }

pub move_by-writable : (x y : ℤ) → FitsSigned w16 x → FitsSigned w16 y → IsWritable (msg.MoveBy x y)
move_by-writable x y a b = record { fits = (a, (b, tt)); texts = (tt, (tt, tt)); within = lit≤ tt }

pub wheel-writable : (x y : ℤ) → FitsSigned w16 x → FitsSigned w16 y → IsWritable (msg.Wheel x y)
wheel-writable x y a b = record { fits = (a, (b, tt)); texts = (tt, (tt, tt)); within = lit≤ tt }

-- ---- options

pub options-writable : (words : List ℕ) → AllByRecursion (λ n. n < 2 ^ 32) words → length words ≤ 52 → IsWritable (msg.SetOptions words)
options-writable words small few = record {
  fits = ((omega arith, small), tt);
  texts = (tt, tt);
  within = omega (arith, length-append (text code.SetOptions) (spelled (Words words) ++ []), length-append (spelled (Words words)) [], length-spelled_words words);
}

-- ---- clipboards

part-writable : (id : ClipId) (m : ClipMark) (bytes : List ℕ) → AreBytes bytes → length bytes ≤ 32768 → IsWritable (msg.ClipPart id 0 m bytes)
part-writable id m bytes are few = record {
  fits = (clip_small id, (omega arith, (mark_small m, (omega arith, tt))));
  texts = (tt, (tt, (tt, (are, tt))));
  within = omega (arith, ap (λ (t : List ℕ). length t) (body_is id m bytes));
}
  where
    body_is : (id : ClipId) (m : ClipMark) (bytes : List ℕ) → body_of (msg.ClipPart id 0 m bytes) ≡ text code.ClipPart ++ ((clip_number id ∷ []) ++ (to_be_bytes w32 0 ++ ((mark_number m ∷ []) ++ (to_be_bytes w32 (length bytes) ++ bytes))))
    body_is id m bytes = ap (λ (t : List ℕ). text code.ClipPart ++ ((clip_number id ∷ []) ++ (to_be_bytes w32 0 ++ ((mark_number m ∷ []) ++ (to_be_bytes w32 (length bytes) ++ t))))) (append-nil bytes)

take-bytes : (n : ℕ) (bytes : List ℕ) → AreBytes bytes → AreBytes (take n bytes)
take-bytes n bytes h = bytes-before (take n bytes) (drop n bytes) (subst AreBytes (sym (take-append-drop n bytes)) h)

drop-bytes : (n : ℕ) (bytes : List ℕ) → AreBytes bytes → AreBytes (drop n bytes)
drop-bytes n bytes h = bytes-after (take n bytes) (drop n bytes) (subst AreBytes (sym (take-append-drop n bytes)) h)

chunks-writable : (id : ClipId) (n : ℕ) (bytes : List ℕ) → AreBytes bytes → AllByRecursion IsWritable (map message_of (map (part mark.Chunk id 0) (cut_into full_chunk n bytes) ++ part mark.End id 0 [] ∷ []))
chunks-writable id zero bytes are = (part-writable id mark.End [] tt (omega arith), tt)
chunks-writable id (suc n) [] are = (part-writable id mark.End [] tt (omega arith), tt)
chunks-writable id (suc n) (b ∷ bytes) are = (part-writable id mark.Chunk (take full_chunk (b ∷ bytes)) (take-bytes full_chunk (b ∷ bytes) are) (omega (arith, length-take full_chunk (b ∷ bytes))), chunks-writable id n (drop full_chunk (b ∷ bytes)) (drop-bytes full_chunk (b ∷ bytes) are))

digit_small : (d : ℕ) → is_ascii_digit d ≡ true → d < 2 ^ 8
digit_small d h = grind (arith, nat_tests, h)

digits_bytes : (ds : List ℕ) → list_all is_ascii_digit ds ≡ true → AreBytes ds
digits_bytes [] h = tt
digits_bytes (d ∷ ds) h = let parts = and_parts (is_ascii_digit d) (list_all is_ascii_digit ds) h in (digit_small d parts.0, digits_bytes ds parts.1)

pub parts-writable : (id : ClipId) (bytes : List ℕ) → AreBytes bytes → length bytes ≤ 4194304 → AllByRecursion IsWritable (map message_of (parts_of id 0 bytes))
parts-writable id bytes are few =
    let short : length (decimal (length bytes)) ≤ 7 = length-decimal-le 7 (length bytes) (omega arith) (omega arith) (omega arith) in
    (part-writable id mark.Start (decimal (length bytes)) (digits_bytes (decimal (length bytes)) (digits_decimal digits (length bytes) (omega arith))) (omega arith), chunks-writable id (length bytes) bytes are)
