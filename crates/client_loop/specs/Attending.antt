-- What a run of the loop makes of its link and its sink.
use Rattle.std.specs.Prelude.{◌≡◌, ℕ, ◌≤◌, ◌⊎◌, List, [], ◌∷◌, ◌++◌, None}
use Rattle.share_base.specs.Fronts.{IsFront}
use Rattle.share_base.specs.Writing.{SinkState}
use Rattle.hub_acts.specs.declared.act.Act.{Act}
use Rattle.hub_acts.specs.declared.act.Act.TheVariants as act
use Rattle.hub_acts.specs.Links.{LinkState}
use Rattle.client_core.specs.declared.client_end.ClientEnd.{ClientEnd}
use Rattle.client_core.specs.declared.client_end.ClientEnd.TheVariants as end
use Rattle.client_core.specs.Clients.{Client}
use Rattle.client_core.specs.Happenings.{sent, run}
use Rattle.client_core.specs.Kept.{Released}
use Rattle.attentive_links.specs.Telling.{happenings}
use Rattle.attentive_links.specs.Judging.{Judge, Follows, judged, first_judge}
use Rattle.attentive_links.specs.Laws.{taken_bytes}
use Rattle.client_loop.specs.Attendants.{whole_text_of}
use Rattle.client_loop.specs.Stages.{Course, waits_in, known_with}
use Rattle.client_loop.specs.Ends.{EndsBy, CountsFaults, CountsBreaks, ComesBy}
use Rattle.client_loop.specs.Turns.{Written, Broken}

-- ---- before a run

-- nothing came yet, and its link took nothing
pub record IsNewClient (c : Client) : Type 0 where
  pub received : c.received ≡ []
  pub taken : c.taken ≡ []
  pub done : c.done ≡ None

-- before its first act
abbrev pub first_course : {L : Type 0} → Client → L → ℕ → Course L
first_course first link turns =
    record { first = first; link = link; turns = turns; front = []; waits = 0; reads = 0 }

-- ---- its end

-- the link was closed, once. Where the sink failed or memory ran out, memory may have been out for
-- that too
abbrev pub Closes : ClientEnd → List Act → Type 0
Closes end.WriteFault closings = (closings ≡ act.LinkClose ∷ []) ⊎ (closings ≡ [])
Closes end.OutOfMemory closings = (closings ≡ act.LinkClose ∷ []) ⊎ (closings ≡ [])
Closes e closings = closings ≡ act.LinkClose ∷ []

-- the sink got the client's lines with the releases: one up for each down, and nothing down where
-- the cursor left; or a front of them, and failed
abbrev pub PrintsTo : ClientEnd → Client → SinkState → SinkState → Type 0
PrintsTo end.WriteFault c old new =
    (text : List ℕ) × IsFront text (whole_text_of c) × Broken old new text
PrintsTo e c old new = (text : List ℕ) × Released c.shown text × Written old new text

-- ---- a run

-- the acts of the turns were due, and after them the link was closed. The client came as far as its
-- last: where memory did not run out, to the one that the acts lead to
pub record Attends {L : Type 0} (state : L → LinkState) (leads : L → L → Type 0) (first : Client)
    (turns : ℕ) (e : ClientEnd) (old new : L) (sink sink' : SinkState) : Type 0 where
  pub acts : List Act
  pub closings : List Act
  pub judge : Judge
  pub known : (state new).acts ≡ known_with (acts ++ closings) (state old).acts
  pub attentive : Follows (first_judge first) acts
  pub judges : judged (first_judge first) acts ≡ judge
  pub told : judge.client ≡ run first (happenings acts)
  pub in_order : IsFront (taken_bytes acts) (sent judge.client)
  pub closed : Closes e closings
  pub few : waits_in acts ≤ turns
  pub cause : EndsBy e turns acts judge
  pub last : Client
  pub came : ComesBy e first acts last
  pub lines : PrintsTo e last sink sink'
  pub faults : CountsFaults e (state old).faults (state new).faults
  pub breaks : CountsBreaks e (state old).breaks (state new).breaks
  pub led : leads old new
