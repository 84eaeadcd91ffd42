-- What decoding comes to.
use Rattle.std.specs.Prelude.{◌≡◌, true, Result, Ok, Err}
use Rattle.message_codec.specs.declared.messages.Msg.{Msg}
use Rattle.message_codec.specs.declared.faults.DecodeFault.{DecodeFault}
use Rattle.message_codec.specs.declared.faults.DecodeFault.TheVariants as fault
use Rattle.message_codec.specs.Table.{code_of, has_list}

-- the answer is this message, or that memory could not be had for its string or list
abbrev pub IsDecoded : Msg → Result Msg DecodeFault → Type 0
IsDecoded m (Ok n) = n ≡ m
IsDecoded m (Err (fault.Bad why)) = ⊥
IsDecoded m (Err fault.OutOfMemory) = has_list (code_of m) ≡ true
