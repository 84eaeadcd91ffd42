-- Which body spells which message.
use Rattle.std.specs.Prelude.{◌≡◌, ℕ, List, ◌++◌}
use Rattle.std.specs.List.{AllByRecursion}
use Rattle.message_codec.specs.declared.messages.End.{End}
use Rattle.message_codec.specs.declared.messages.Msg.{Msg}
use Rattle.message_codec.specs.Fields.{Fits, spelled_all}
use Rattle.message_codec.specs.Table.{text, SentBy, code_of, fields}

-- its code, then its fields, then nothing
abbrev pub body_of : Msg → List ℕ
body_of m = text (code_of m) ++ spelled_all (fields m)

-- this body spells the message, sent by this end
pub record Spells (from : End) (m : Msg) (body : List ℕ) : Type 0 where
  pub sent : SentBy (code_of m) from
  pub fits : AllByRecursion Fits (fields m)
  pub body_is : body ≡ body_of m
