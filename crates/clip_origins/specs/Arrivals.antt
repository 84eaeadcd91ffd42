-- The messages of clients as they arrive, each with the state that it arrives in.
use Rattle.std.specs.Prelude.{◌≡◌, ℕ, ◌==◌, List, [], ◌∷◌, ◌++◌, length, drop, Contains}
use Rattle.std.specs.Prelude.{if◌then◌else◌}
use Rattle.message_codec.specs.declared.messages.Msg.{Msg}
use Rattle.message_codec.specs.Inboxes.{Inbox}
use Rattle.machine.specs.States.{State}
use Rattle.machine.specs.Screens.{lives, change}
use Rattle.machine.specs.Hearing.{hear}
use Rattle.machine.specs.Happenings.{Happening, Got}
use Rattle.machine.specs.Steps.{inbox_of, received_by, receives, step}
use Rattle.reached_states.specs.Reaching.{Origin, start_of, ReachedBy}

-- the connection that sent it, and all that this one had sent before
pub record Arrival : Type 0 where
  pub serial : ℕ
  pub earlier : List Msg
  pub message : Msg
  pub state : State

-- one after another
abbrev pub each_arrival : ℕ → List Msg → List Msg → State → List Arrival
each_arrival serial earlier [] s = []
each_arrival serial earlier (m ∷ messages) s =
    (record { serial = serial; earlier = earlier; message = m; state = s })
    ∷ each_arrival serial (earlier ++ m ∷ []) messages (hear serial m s)

-- those that a piece adds to the messages before
abbrev pub added_arrivals : ℕ → Inbox → Inbox → State → List Arrival
added_arrivals serial old new s =
    each_arrival serial old.messages (drop (length old.messages) new.messages) s

abbrev pub piece_arrivals : ℕ → List ℕ → State → List Arrival
piece_arrivals serial piece s =
    added_arrivals serial (inbox_of (received_by s serial))
    (inbox_of (received_by s serial ++ piece))
    (change serial (receives piece) s)

-- nothing is read from a connection that is parting
abbrev pub arrivals_in : State → Happening → List Arrival
arrivals_in s (Got serial piece) = if lives s serial then piece_arrivals serial piece s else []
arrivals_in s _ = []

abbrev pub arrivals : List Happening → State → List Arrival
arrivals [] s = []
arrivals (h ∷ hs) s = arrivals_in s h ++ arrivals hs (step s h)

-- ---- where they come from

-- all bytes of a connection
abbrev pub piece_from : ℕ → Happening → List ℕ
piece_from serial (Got n piece) = if n == serial then piece else []
piece_from serial _ = []

abbrev pub bytes_from : ℕ → List Happening → List ℕ
bytes_from serial [] = []
bytes_from serial (h ∷ hs) = piece_from serial h ++ bytes_from serial hs

-- it arrived with a piece: all bytes of its connection up to that one come to the earlier messages,
-- then this one, and maybe later ones
pub record CameWith (hs : List Happening) (a : Arrival) : Type 0 where
  pub before : List Happening
  pub piece : List ℕ
  pub after : List Happening
  pub happened : hs ≡ before ++ Got a.serial piece ∷ after
  pub later : List Msg
  pub messages :
      (inbox_of (bytes_from a.serial (before ++ Got a.serial piece ∷ []))).messages
      ≡ a.earlier ++ a.message ∷ later

-- on the way to a reached state each message so arrives
abbrev pub ArrivalsCameWithPieces : Type 0
ArrivalsCameWithPieces =
    (o : Origin) (hs : List Happening) (latest : ℕ) (s : State) → ReachedBy o hs latest s
    → (a : Arrival) → Contains (arrivals hs (start_of o)) a → CameWith hs a
