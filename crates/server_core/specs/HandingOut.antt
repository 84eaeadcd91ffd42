-- The bytes of a clipboard that the active screen is to be sent.
use Rattle.std.specs.Prelude.{◌≡◌, ℕ, List, Option, Some, None}
use Rattle.share_base.specs.declared.clip_id.ClipId.{ClipId}
use Rattle.clip_chunks.specs.Rules as rules
use Rattle.machine.specs.States.{State}
use Rattle.machine.specs.Screens.{screen_of}
use Rattle.machine.specs.Clipboards.{clip, set_clip}
use Rattle.server_core.specs.declared.server.ServerCore.{ServerCore}
use Rattle.server_core.specs.Standing.{Beside, Stands}

-- where there are some, it is clean
abbrev pub cleaned : ClipId → Option (List ℕ) → State → State
cleaned id None s = s
cleaned id (Some bytes) s =
    set_clip id (rules.entered (screen_of s s.active) (clip s id)) s

-- in each state that the server may be in
pub record HandsOut (id : ClipId) (old new : ServerCore) (answer : Option (List ℕ)) : Type 0 where
  pub given : (b : Beside) (s : State) → Stands b old s
      → answer ≡ rules.given (screen_of s s.active) (clip s id)
  pub leads : (b : Beside) (s : State) → Stands b old s → Stands b new (cleaned id answer s)
