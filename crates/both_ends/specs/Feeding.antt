-- A client that is fed the bytes that a server queued for it, in any pieces.
use Rattle.std.specs.Prelude.{ℕ, Bool, true, false, List, [], Option, Some}
use Rattle.std.specs.List.{flat_map}
use Rattle.client_core.specs.declared.client_end.ClientEnd.{ClientEnd}
use Rattle.client_core.specs.declared.client_end.ClientEnd.TheVariants as end
use Rattle.client_core.specs.Happenings.{Happening, Got, Ended}

-- the bytes that came, in all pieces
abbrev pub piece_of : Happening → List ℕ
piece_of (Got piece) = piece
piece_of _ = []

abbrev pub fed_by : List Happening → List ℕ
fed_by happenings = flat_map piece_of happenings

-- the peer sent what it may not send
abbrev pub is_bad_peer : Option ClientEnd → Bool
is_bad_peer (Some (end.BadPeer place reason)) = true
is_bad_peer _ = false

-- the client is told from outside that it did
abbrev pub blames : Happening → Bool
blames (Ended why) = is_bad_peer (Some why)
blames _ = false
