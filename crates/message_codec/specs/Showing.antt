-- The line that a message is shown as.
use Rattle.std.specs.Prelude.{ℕ, List, ◌∷◌, ◌++◌, length}
use Rattle.std.specs.Fmt.{decimal, signed_decimal}
use Rattle.std.specs.List.{flat_map}
use Rattle.share_base.specs.Hex.{hex}
use Rattle.message_codec.specs.declared.messages.Msg.{Msg}
use Rattle.message_codec.specs.Fields.{Field, Byte, Half, Signed, Word, Clip, Mark, Text, Words}
use Rattle.message_codec.specs.Table.{text, code_of, fields}

-- a word after a blank
abbrev pub after_blank : List ℕ → List ℕ
after_blank word = 32 ∷ word

-- integers are decimal, a string is in hexadecimal digits, and a list has its count first
abbrev pub shown : Field → List ℕ
shown (Byte n) = decimal n
shown (Half n) = decimal n
shown (Signed z) = signed_decimal z
shown (Word n) = decimal n
shown (Clip n) = decimal n
shown (Mark n) = decimal n
shown (Text bytes) = hex bytes
shown (Words ns) = decimal (length ns) ++ flat_map (λ n. after_blank (decimal n)) ns

-- its code, then each field after a blank
abbrev pub show_line : Msg → List ℕ
show_line m = text (code_of m) ++ flat_map (λ f. after_blank (shown f)) (fields m)
