-- Faults of words, with how many bytes of the line were left where they stand.
use Rattle.std.specs.Prelude.{ℕ, Bool, true, false, Result, Ok, Err, Option, Some, None}
use Rattle.hotkey_text.specs.declared.faults.HotkeyKind.{HotkeyKind}
use Rattle.hotkey_text.specs.declared.faults.HotkeyFault.{HotkeyFault}

abbrev pub fault_at : HotkeyKind → ℕ → HotkeyFault
fault_at k left = record { kind = k; left = left }

abbrev pub unless : Bool → HotkeyKind → ℕ → Result (Unit {0}) HotkeyFault
unless true k left = Ok tt
unless false k left = Err (fault_at k left)

abbrev pub or_fault : {A : Type 0} → Option A → HotkeyKind → ℕ → Result A HotkeyFault
or_fault (Some a) k left = Ok a
or_fault None k left = Err (fault_at k left)
