-- What a hub and a link over sockets tell, and how calls lead from one to another.
use Rattle.std.specs.Prelude.{◌≤◌, [], map, Option, None}
use Rattle.std.proofs.Math.Nat.{le_refl, le_trans}
use Rattle.hub_acts.specs.declared.act.Act.{Act}
use Rattle.hub_acts.specs.Hubs.{HubState, HubCalls}
use Rattle.hub_acts.specs.Links.{LinkState, LinkCalls}
use Rattle.mio_sockets.specs.declared.mio_hub.MioHub.{MioHub}
use Rattle.mio_sockets.specs.declared.mio_link.MioLink.{MioLink}

-- all but the acts
abbrev pub hub_state : {R : Type 0} → MioHub R → HubState
hub_state h = record {
  latest = h.latest;
  open_now = map (λ c. c.serial) h.connections.items;
  acts = None;
  faults = h.counts.faults;
  breaks = h.counts.breaks;
}

abbrev pub link_state : {R : Type 0} → MioLink R → LinkState
link_state l = record { acts = None; faults = l.counts.faults; breaks = l.counts.breaks }

-- before the first call
abbrev pub new_hub : HubState
new_hub = record { latest = 0; open_now = []; acts = None; faults = 0; breaks = 0 }

abbrev pub new_link : LinkState
new_link = record { acts = None; faults = 0; breaks = 0 }

-- no count fell, and no serial can be given again
pub record HubGoesOn (old new : HubState) : Type 0 where
  pub latest : old.latest ≤ new.latest
  pub faults : old.faults ≤ new.faults
  pub breaks : old.breaks ≤ new.breaks

-- no count fell
pub record LinkGoesOn (old new : LinkState) : Type 0 where
  pub faults : old.faults ≤ new.faults
  pub breaks : old.breaks ≤ new.breaks

-- ---- calls on a hub and a link over sockets

-- a call that made this act, or none, led from the one to the other
abbrev pub SocketHubCalls : {R : Type 0} → Option Act → MioHub R → MioHub R → Type 0
SocketHubCalls made old new = HubCalls made (hub_state old) (hub_state new)

abbrev pub SocketLinkCalls : {R : Type 0} → Option Act → MioLink R → MioLink R → Type 0
SocketLinkCalls made old new = LinkCalls made (link_state old) (link_state new)

abbrev pub SocketHubGoesOn : {R : Type 0} → MioHub R → MioHub R → Type 0
SocketHubGoesOn old new = HubGoesOn (hub_state old) (hub_state new)

abbrev pub SocketLinkGoesOn : {R : Type 0} → MioLink R → MioLink R → Type 0
SocketLinkGoesOn old new = LinkGoesOn (link_state old) (link_state new)

-- ---- no call, and calls after calls

pub hub_stays : (s : HubState) → HubGoesOn s s
hub_stays s = record {
  latest = le_refl s.latest;
  faults = le_refl s.faults;
  breaks = le_refl s.breaks;
}

pub hub_goes_on : (old middle new : HubState) → HubGoesOn old middle → HubGoesOn middle new
    → HubGoesOn old new
hub_goes_on old middle new first second = record {
  latest = le_trans {n = old.latest} {m = middle.latest} {k = new.latest} first.latest second.latest;
  faults = le_trans {n = old.faults} {m = middle.faults} {k = new.faults} first.faults second.faults;
  breaks = le_trans {n = old.breaks} {m = middle.breaks} {k = new.breaks} first.breaks second.breaks;
}

pub link_stays : (s : LinkState) → LinkGoesOn s s
link_stays s = record { faults = le_refl s.faults; breaks = le_refl s.breaks }

pub link_goes_on : (old middle new : LinkState) → LinkGoesOn old middle → LinkGoesOn middle new
    → LinkGoesOn old new
link_goes_on old middle new first second = record {
  faults = le_trans {n = old.faults} {m = middle.faults} {k = new.faults} first.faults second.faults;
  breaks = le_trans {n = old.breaks} {m = middle.breaks} {k = new.breaks} first.breaks second.breaks;
}
