-- The end of a run: what is down goes up in the lines, and the link is closed.
use Rattle.std.specs.Prelude.{◌≡◌, ℕ, Bool, true, false, ◌⊎◌, List, [], ◌∷◌, ◌++◌}
use Rattle.share_base.specs.Fronts.{IsFront}
use Rattle.share_base.specs.Writing.{SinkState}
use Rattle.hub_acts.specs.declared.act.Act.{Act}
use Rattle.hub_acts.specs.declared.act.Act.TheVariants as act
use Rattle.hub_acts.specs.Links.{LinkState}
use Rattle.client_core.specs.declared.client_end.ClientEnd.{ClientEnd}
use Rattle.client_core.specs.declared.client_end.ClientEnd.TheVariants as end
use Rattle.client_core.specs.Clients.{Client}
use Rattle.client_core.specs.Kept.{Released}
use Rattle.client_loop.specs.Attendants.{whole_text_of}
use Rattle.client_loop.specs.Stages.{known_with}
use Rattle.client_loop.specs.Turns.{Written, Broken}

-- ---- lines

-- the rest of the lines was written, with the releases
pub record WroteAll (front : List ℕ) (c : Client) (old new : SinkState) : Type 0 where
  pub text : List ℕ
  pub released : Released c.shown (front ++ text)
  pub wrote : Written old new text

-- or a front of them, and then the sink failed
pub record WroteSome (front : List ℕ) (c : Client) (old new : SinkState) : Type 0 where
  pub text : List ℕ
  pub begins : IsFront (front ++ text) (whole_text_of c)
  pub broke : Broken old new text

abbrev pub AfterRelease : ClientEnd → ClientEnd → List ℕ → Client → SinkState → SinkState → Type 0
AfterRelease e result front c old new =
    ((result ≡ e) × WroteAll front c old new)
    ⊎ ((result ≡ end.WriteFault) × WroteSome front c old new)

-- once the sink has failed nothing more is written
abbrev pub ReleasesAt : Bool → ClientEnd → ClientEnd → List ℕ → Client → SinkState → SinkState
    → Type 0
ReleasesAt true e result front c old new = (result ≡ e) × (new ≡ old)
ReleasesAt false e result front c old new = AfterRelease e result front c old new

-- ---- the closing

-- how a run ends where the closing was out of memory: a failure of the sink counts more
abbrev pub unclosed : ClientEnd → ClientEnd
unclosed end.WriteFault = end.WriteFault
unclosed e = end.OutOfMemory

-- it was closed; or memory was out for that
abbrev pub AfterClosing : ClientEnd → ClientEnd → List Act → Type 0
AfterClosing e result closings =
    ((result ≡ e) × (closings ≡ act.LinkClose ∷ [])) ⊎ ((result ≡ unclosed e) × (closings ≡ []))

pub record IsClosed {L : Type 0} (state : L → LinkState) (leads : L → L → Type 0)
    (e result : ClientEnd) (old new : L) : Type 0 where
  pub closings : List Act
  pub known : (state new).acts ≡ known_with closings (state old).acts
  pub faults : (state new).faults ≡ (state old).faults
  pub breaks : (state new).breaks ≡ (state old).breaks
  pub led : leads old new
  pub ends : AfterClosing e result closings
