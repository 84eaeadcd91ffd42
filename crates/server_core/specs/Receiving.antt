-- The bytes that are given on connections.
use Rattle.std.specs.Prelude.{ℕ, ◌==◌, Option, if◌then◌else◌}
use Rattle.std.specs.List.{find}
use Rattle.std.specs.Option.{option_map, option_map_or}
use Rattle.share_base.specs.declared.reason.Reason.{Reason}
use Rattle.message_codec.specs.Inboxes.{Inbox}
use Rattle.message_reader.specs.declared.reader.BadFrame.{BadFrame}
use Rattle.hello_states.specs.Phases.{is_parting}
use Rattle.connection_table.specs.declared.connection.Connection as kept
use Rattle.connection_table.specs.PhaseOf.{phase_of}
use Rattle.connection_table.specs.Tables.{is_of}
use Rattle.server_core.specs.declared.server.ServerCore.{ServerCore}

-- how many bytes were given on a connection; one that is parting is given none any more
abbrev pub given_to : kept.Connection → ℕ
given_to k = if is_parting (phase_of k.phase) then 0 else k.reader.total

abbrev pub given_by : ServerCore → ℕ → ℕ
given_by core serial = option_map_or given_to (find (is_of serial) core.table) 0

-- so many more, at that serial
abbrev pub more_at : ℕ → ℕ → ℕ → ℕ
more_at serial count n = if n == serial then count else 0

-- the bad frame of an inbox
abbrev pub bad_in : Inbox → Option BadFrame
bad_in box = option_map (λ (why : Reason). record { place = box.place; reason = why }) box.bad
