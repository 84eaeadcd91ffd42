-- Which connections a message of each kind comes from.
use Rattle.std.specs.Prelude.{◌≡◌, ℕ, Option, Some, None}
use Rattle.message_codec.specs.declared.messages.Msg.{Msg}
use Rattle.message_codec.specs.declared.messages.Msg.TheVariants as msg
use Rattle.hello_states.specs.declared.info_fields.InfoFields.{InfoFields}
use Rattle.hello_states.specs.Phases.{Greeting, Asked, Joined, AskedScreen, JoinedScreen, after_hearing_in}
use Rattle.machine.specs.States.{State}
use Rattle.machine.specs.Screens.{phase_of}
use Rattle.server_core.specs.declared.server.ServerCore.{ServerCore}
use Rattle.server_core.specs.Leading.{LeadsWhere}

-- it is to answer the greeting
abbrev pub LeadsGreeting : ℕ → ServerCore → ServerCore → (ℕ → State → State) → Type 0
LeadsGreeting serial old new rule = (accepted : ℕ)
    → LeadsWhere (λ s. phase_of s serial ≡ Some (Greeting accepted)) old new (rule accepted)

-- it was asked as that screen
abbrev pub LeadsAsked : ℕ → ℕ → ServerCore → ServerCore → (AskedScreen → State → State) → Type 0
LeadsAsked serial screen old new rule = (asked : AskedScreen) → screen ≡ asked.screen
    → LeadsWhere (λ s. phase_of s serial ≡ Some (Asked asked)) old new (rule asked)

-- it is joined
abbrev pub LeadsJoined : ℕ → ServerCore → ServerCore → (JoinedScreen → State → State) → Type 0
LeadsJoined serial old new rule = (joined : JoinedScreen)
    → LeadsWhere (λ s. phase_of s serial ≡ Some (Joined joined)) old new (rule joined)

-- and the message was counted as heard
abbrev pub LeadsHeard : ℕ → ServerCore → ServerCore → (JoinedScreen → State → State) → Type 0
LeadsHeard serial old new rule = (joined : JoinedScreen)
    → LeadsWhere (λ s. phase_of s serial ≡ Some (after_hearing_in (Joined joined) s.at)) old new
    (rule joined)

-- the information that a message tells
abbrev pub info_of : Msg → Option InfoFields
info_of (msg.Info x y w h warp mx my) =
    Some (record { x = x; y = y; w = w; h = h; warp = warp; mx = mx; my = my })
info_of _ = None
