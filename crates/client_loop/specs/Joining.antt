-- What joining a server over a link makes of the link and the sink.
use Rattle.std.specs.Prelude.{◌≡◌, ℕ, ◌⊎◌, List, [], ◌∷◌, Ok, Err}
use Rattle.share_base.specs.Writing.{SinkState}
use Rattle.hub_acts.specs.declared.act.Act.{Act}
use Rattle.hub_acts.specs.declared.act.Act.TheVariants as act
use Rattle.hub_acts.specs.declared.answers.CallFault.TheVariants as fault
use Rattle.hub_acts.specs.Links.{LinkState}
use Rattle.client_core.specs.declared.client_end.ClientEnd.{ClientEnd}
use Rattle.client_core.specs.declared.client_end.ClientEnd.TheVariants as end
use Rattle.client_core.specs.Clients.{Client}
use Rattle.client_loop.specs.Stages.{known_with}
use Rattle.client_loop.specs.Ends.{CountsFaults}
use Rattle.client_loop.specs.Attending.{Attends}

-- the link could not be connected; or memory was out for that, or for the first moment
abbrev pub EndsBefore : ClientEnd → List ℕ → ℕ → List Act → Type 0
EndsBefore end.LinkFault host port acts =
    acts ≡ act.LinkConnect host port (Err fault.Failed) ∷ []
EndsBefore end.OutOfMemory host port acts =
    (acts ≡ []) ⊎ (acts ≡ act.LinkConnect host port (Ok tt) ∷ [])
EndsBefore e host port acts = ⊥

-- it ended before the first turn: nothing was written
pub record NotBegun {L : Type 0} (state : L → LinkState) (leads : L → L → Type 0)
    (host : List ℕ) (port : ℕ) (e : ClientEnd) (old new : L) (sink sink' : SinkState)
    : Type 0 where
  pub acts : List Act
  pub known : (state new).acts ≡ known_with acts (state old).acts
  pub cause : EndsBefore e host port acts
  pub faults : CountsFaults e (state old).faults (state new).faults
  pub breaks : (state new).breaks ≡ (state old).breaks
  pub silent : sink' ≡ sink
  pub led : leads old new

-- the link was connected, and the client, made at its moment, ran over it
pub record Begun {L : Type 0} (state : L → LinkState) (leads : L → L → Type 0)
    (client_at : ℕ → Client) (host : List ℕ) (port turns : ℕ) (e : ClientEnd) (old new : L)
    (sink sink' : SinkState) : Type 0 where
  pub now : ℕ
  pub between : L
  pub known : (state between).acts
      ≡ known_with (act.LinkConnect host port (Ok tt) ∷ act.LinkNow now ∷ []) (state old).acts
  pub faults : (state between).faults ≡ (state old).faults
  pub breaks : (state between).breaks ≡ (state old).breaks
  pub led : leads old between
  pub run : Attends state leads (client_at now) turns e between new sink sink'

abbrev pub Joins : {L : Type 0} → (L → LinkState) → (L → L → Type 0) → (ℕ → Client) → List ℕ
    → (port turns : ℕ) → ClientEnd → L → L → SinkState → SinkState → Type 0
Joins state leads client_at host port turns e old new sink sink' =
    NotBegun state leads host port e old new sink sink'
    ⊎ Begun state leads client_at host port turns e old new sink sink'
