-- Reading fields from left to right. Where a part of one doesn't fit, the answer is how many bytes
-- were left there.
use Rattle.std.specs.Prelude.{◌≡◌, ℕ, ℤ, zero, suc, Bool, true, List, [], ◌∷◌, length, take, drop}
use Rattle.std.specs.Prelude.{Result, Ok, Err, nat_lt, if◌then◌else◌}
use Rattle.std.specs.Int.{Width, w16, w32, byte_len, from_be_bytes, cast_signed}
use Rattle.message_codec.specs.declared.reading.ReadError.{ReadError}
use Rattle.message_codec.specs.declared.reading.ReadError.TheVariants as errors
use Rattle.message_codec.specs.Kinds.{Kind}
use Rattle.message_codec.specs.Kinds as kind
use Rattle.message_codec.specs.Fields.{Field, Byte, Half, Signed, Word, Clip, Mark, Text, Words}

-- what was read and the bytes after it, or how many bytes were left
abbrev pub Read : Type 0 → Type 0
Read A = Result (A × List ℕ) ℕ

infixl 10 ◌>>=◌
abbrev pub ◌>>=◌ : {A B : Type 0} → Result A ℕ → (A → Result B ℕ) → Result B ℕ
(Ok x) >>= f = f x
(Err left) >>= f = Err left

-- why a function failed: reading fails with so many bytes left, or memory could not be had, where
-- it takes any
abbrev pub Fails : {Y : Type 0} → Bool → ReadError → Result Y ℕ → Type 0
Fails takes_memory (errors.Short left) read = read ≡ Err left
Fails takes_memory errors.Memory read = takes_memory ≡ true

-- what a function returned, seen by view, is what reading gives
abbrev pub Gives : {X Y : Type 0} → Bool → (X → Y) → Result X ReadError → Result Y ℕ → Type 0
Gives takes_memory view (Ok x) read = read ≡ Ok (view x)
Gives takes_memory view (Err e) read = Fails takes_memory e read

abbrev pub number_at : Width → List ℕ → Read ℕ
number_at w bytes =
    if nat_lt (length bytes) (byte_len w) then Err (length bytes)
    else Ok (from_be_bytes w (take (byte_len w) bytes), drop (byte_len w) bytes)

abbrev pub signed_at : List ℕ → Read ℤ
signed_at bytes = do
  n ← number_at w16 bytes
  Ok (cast_signed w16 n.0, n.1)

abbrev pub byte_at : List ℕ → Read ℕ
byte_at [] = Err 0
byte_at (n ∷ rest) = Ok (n, rest)

unfoldable pub text_at : List ℕ → Read (List ℕ)
text_at bytes = do
  n ← number_at w32 bytes
  if nat_lt (length n.1) n.0 then Err (length n.1) else Ok (take n.0 n.1, drop n.0 n.1)

unfoldable pub words_at : ℕ → List ℕ → Read (List ℕ)
words_at zero bytes = Ok ([], bytes)
words_at (suc k) bytes = do
  n ← number_at w32 bytes
  ns ← words_at k n.1
  Ok (n.0 ∷ ns.0, ns.1)

abbrev pub read_field : Kind → List ℕ → Read Field
read_field kind.byte bytes = byte_at bytes >>= λ x. Ok (Byte x.0, x.1)
read_field kind.half bytes = number_at w16 bytes >>= λ x. Ok (Half x.0, x.1)
read_field kind.signed bytes = signed_at bytes >>= λ x. Ok (Signed x.0, x.1)
read_field kind.word bytes = number_at w32 bytes >>= λ x. Ok (Word x.0, x.1)
read_field kind.clip bytes = byte_at bytes >>= λ x. Ok (Clip x.0, x.1)
read_field kind.mark bytes = byte_at bytes >>= λ x. Ok (Mark x.0, x.1)
read_field kind.text bytes = text_at bytes >>= λ x. Ok (Text x.0, x.1)
read_field kind.words bytes =
    number_at w32 bytes >>= λ n. words_at n.0 n.1 >>= λ x. Ok (Words x.0, x.1)

unfoldable pub read_fields : List Kind → List ℕ → Read (List Field)
read_fields [] bytes = Ok ([], bytes)
read_fields (k ∷ ks) bytes = do
  f ← read_field k bytes
  fs ← read_fields ks f.1
  Ok (f.0 ∷ fs.0, fs.1)
