-- The law on where the bytes of known clipboards come from.
use Rattle.std.specs.Prelude.{◌≡◌, ℕ, ◌≤◌, ◌⊎◌, true, ◌&&◌, List, [], ◌∷◌, ◌++◌, Some, Contains}
use Rattle.share_base.specs.declared.clip_id.ClipId.{ClipId}
use Rattle.clip_chunks.specs.OpenRuns.{wholes_among}
use Rattle.clip_chunks.specs.Rules.{copy_counts}
use Rattle.machine.specs.Scripts.{Copy}
use Rattle.machine.specs.States.{State}
use Rattle.machine.specs.Clipboards.{clip, is_sharing, clip_limit}
use Rattle.machine.specs.Partings.{screen_joined}
use Rattle.machine.specs.OneForOne.{RunLine, lines_run}
use Rattle.machine.specs.Happenings.{Happening}
use Rattle.reached_states.specs.Reaching.{Origin, start_of, ReachedBy}
use Rattle.clip_origins.specs.Arrivals.{Arrival, arrivals}

-- a line of the script that ran copied them, at that sequence of the machine; clipboards were
-- shared, and these bytes were within their limit
pub record WereCopied (ran : List RunLine) (id : ClipId) (seq : ℕ) (bytes : List ℕ) : Type 0 where
  pub run : RunLine
  pub among : Contains ran run
  pub line : run.line ≡ Copy id bytes
  pub sequence : run.state.sequence ≡ seq
  pub counts : (is_sharing run.state && copy_counts (clip_limit run.state) bytes) ≡ true

-- a message arrived from the connection that was joined as the owner by then, and with it all that
-- this connection had sent has one whole clipboard more: these bytes, with that sequence, which was
-- neither below the clipboard's nor above the machine's; and clipboards were shared
pub record WereSent (arrived : List Arrival) (id : ClipId) (seq : ℕ) (bytes : List ℕ)
    : Type 0 where
  pub last : Arrival
  pub among : Contains arrived last
  pub owner : screen_joined last.state last.serial ≡ Some (clip last.state id).owner
  pub whole :
      wholes_among (clip_limit last.state) (last.earlier ++ last.message ∷ [])
      ≡ wholes_among (clip_limit last.state) last.earlier
      ++ record { clip = id; seq = seq; bytes = bytes } ∷ []
  pub sequence : ((clip last.state id).seq ≤ seq) × (seq ≤ last.state.sequence)
  pub shared : is_sharing last.state ≡ true

abbrev pub HaveSource : Origin → List Happening → ClipId → ℕ → List ℕ → Type 0
HaveSource o hs id seq bytes =
    WereCopied (lines_run hs (start_of o)) id seq bytes
    ⊎ WereSent (arrivals hs (start_of o)) id seq bytes

-- bytes that are known have such a source, with the kept sequence
abbrev pub KnownHaveSources : Type 0
KnownHaveSources =
    (o : Origin) (hs : List Happening) (latest : ℕ) (s : State) → ReachedBy o hs latest s
    → (id : ClipId) (bytes : List ℕ) → (clip s id).bytes ≡ Some bytes
    → HaveSource o hs id (clip s id).seq bytes
