-- Messages whose clipboards and marks are still numbers, and what functions that read them return.
use Rattle.std.specs.Prelude.{◌≡◌, ℕ, List, [], ◌∷◌, Result, Ok, Err}
use Rattle.std.specs.Borrow.{Bor}
use Rattle.message_codec.specs.declared.messages.Msg.{Msg}
use Rattle.message_codec.specs.declared.coding.Code.{Code}
use Rattle.message_codec.specs.declared.coding.Code.TheVariants as code
use Rattle.message_codec.specs.declared.drafts.Draft.{Draft}
use Rattle.message_codec.specs.declared.drafts.Draft.TheVariants as draft
use Rattle.message_codec.specs.declared.reading.ReadError.{ReadError}
use Rattle.message_codec.specs.Fields.{Field, Word, Clip, Mark, Text}
use Rattle.message_codec.specs.Reading.{Read, Fails}
use Rattle.message_codec.specs.Table.{code_of, fields, has_list}

abbrev pub draft_code : Draft → Code
draft_code (draft.Grab clip seq) = code.Grab
draft_code (draft.ClipPart clip seq mark bytes) = code.ClipPart
draft_code (draft.Ready m) = code_of m

abbrev pub draft_fields : Draft → List Field
draft_fields (draft.Grab clip seq) = Clip clip ∷ Word seq ∷ []
draft_fields (draft.ClipPart clip seq mark bytes) =
    Clip clip ∷ Word seq ∷ Mark mark ∷ Text bytes ∷ []
draft_fields (draft.Ready m) = fields m

-- the message has the draft's code and fields
abbrev pub IsDraftOf : Msg → Draft → Type 0
IsDraftOf m d = (code_of m ≡ draft_code d) × (fields m ≡ draft_fields d)

-- the message that a function returned, and the bytes after it, are what reading gives; memory is
-- taken for a row with a string or a list alone
abbrev pub GivesMsg : Code → Result (Msg × Bor (List ℕ)) ReadError → Read (List Field) → Type 0
GivesMsg c (Ok x) read = (code_of x.0 ≡ c) × (read ≡ Ok (fields x.0, x.1.now))
GivesMsg c (Err e) read = Fails (has_list c) e read

-- the same of a draft
abbrev pub GivesDraft : Code → Result (Draft × Bor (List ℕ)) ReadError → Read (List Field) → Type 0
GivesDraft c (Ok x) read = (draft_code x.0 ≡ c) × (read ≡ Ok (draft_fields x.0, x.1.now))
GivesDraft c (Err e) read = Fails (has_list c) e read
