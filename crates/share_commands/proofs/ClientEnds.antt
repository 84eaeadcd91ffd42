-- What a command comes to where its client ended.
use Rattle.std.proofs.Common.{◌≡◌, ℕ, List, [], Option, refl, sym, ap, subst, ◌∙◌, arith, inl, inr}
use Rattle.share_base.specs.Writing.{SinkState}
use Rattle.share_base.proofs.ToldLists.{after-nil}
use Rattle.hub_acts.specs.Links.{LinkState}
use Rattle.held_inputs.specs.Down.{releases, held_keys, held_buttons, reach, keys_below, buttons_below}
use Rattle.client_core.specs.declared.client_end.ClientEnd.{ClientEnd}
use Rattle.client_core.specs.declared.client_end.ClientEnd.TheVariants as end
use Rattle.client_core.specs.Clients.{Client}
use Rattle.client_core.proofs.Screens as screens
use Rattle.client_loop.specs.Ends.{CountsFaults}
use Rattle.client_loop.specs.Attending.{PrintsTo}
use Rattle.client_loop.specs.Joining.{Joins, EndsBefore}
use Rattle.share_commands.specs.declared.status.Status.{Status}
use Rattle.share_commands.specs.declared.status.Status.TheVariants as status
use Rattle.share_commands.specs.Causes.{SinkCounts, FileCauses}
use Rattle.share_commands.specs.Texts.{NoClientScript}
use Rattle.share_commands.specs.Endings.{status_of_client}
use Rattle.share_commands.specs.Joining.{WritesReleased, LetsGo, LinkFaults}

-- ---- nothing was written

pub none_written : (old new : SinkState) → new ≡ old → WritesReleased old new
unfolding releases held_keys held_buttons reach keys_below buttons_below
none_written old new same = record {
  shown = [];
  text = [];
  released = screens.released [] [] refl;
  written = ap (λ (s : SinkState). s.taken) same ∙ sym (after-nil old.taken);
}

lets_go : (e : Status) (old new : SinkState) → WritesReleased old new → LetsGo e old new
lets_go status.WriteFault old new w = tt
lets_go e old new w = w

pub silent_goes : (e : Status) (old new : SinkState) → new ≡ old → LetsGo e old new
silent_goes e old new same = lets_go e old new (none_written old new same)

-- ---- the link was not called

pub unlinked : (e : Status) (told : Option (List ℕ)) (faults : ℕ) → NoClientScript e told
    → LinkFaults e faults faults
unlinked status.LinkFault told faults none = absurd none
unlinked status.WriteFault told faults none = absurd none
unlinked status.OutOfMemory told faults none = omega arith
unlinked e told faults none = refl

-- ---- the link

linked : (e : ClientEnd) (old new : ℕ) → CountsFaults e old new
    → LinkFaults (status_of_client e) old new
linked end.Bye old new counts = counts
linked (end.Refused which) old new counts = counts
linked (end.BadPeer place why) old new counts = counts
linked (end.Lost cause) old new counts = counts
linked end.TurnsSpent old new counts = counts
linked end.LinkFault old new counts = counts
linked end.WriteFault old new counts = counts
linked end.OutOfMemory old new counts = counts

join_faults : {L : Type 0} (state : L → LinkState) (leads : L → L → Type 0) (client_at : ℕ → Client)
    (host : List ℕ) (port turns : ℕ) (e : ClientEnd) (old new : L) (sink sink' : SinkState)
    → Joins state leads client_at host port turns e old new sink sink'
    → CountsFaults e (state old).faults (state new).faults
join_faults state leads client_at host port turns e old new sink sink' (inl n) = n.faults
join_faults state leads client_at host port turns e old new sink sink' (inr b) =
    subst (λ (n : ℕ). CountsFaults e n (state new).faults) b.faults b.run.faults

pub link_of_end : {L : Type 0} (state : L → LinkState) (leads : L → L → Type 0)
    (client_at : ℕ → Client) (host : List ℕ) (port turns : ℕ) (ended : ClientEnd) (e : Status)
    (old new : L) (sink sink' : SinkState) → e ≡ status_of_client ended
    → Joins state leads client_at host port turns ended old new sink sink'
    → LinkFaults e (state old).faults (state new).faults
link_of_end state leads client_at host port turns ended e old new sink sink' is joins =
    subst (λ (s : Status). LinkFaults s (state old).faults (state new).faults) (sym is)
    (linked ended (state old).faults (state new).faults (join_faults state leads client_at host port turns ended old new sink sink' joins))

-- ---- the output

silent_counts : (e : ClientEnd) (host : List ℕ) (port : ℕ) (acts : List _) (old new : SinkState)
    → EndsBefore e host port acts → new ≡ old
    → SinkCounts (status_of_client e) old.faults new.faults
silent_counts end.LinkFault host port acts old new before same = ap (λ (s : SinkState). s.faults) same
silent_counts end.OutOfMemory host port acts old new before same = ap (λ (s : SinkState). s.faults) same
silent_counts e host port acts old new before same = absurd before

lines_counts : (e : ClientEnd) (c : Client) (old new : SinkState) → PrintsTo e c old new
    → SinkCounts (status_of_client e) old.faults new.faults
lines_counts end.Bye c old new prints = prints.2.faults
lines_counts (end.Refused which) c old new prints = prints.2.faults
lines_counts (end.BadPeer place why) c old new prints = prints.2.faults
lines_counts (end.Lost cause) c old new prints = prints.2.faults
lines_counts end.TurnsSpent c old new prints = prints.2.faults
lines_counts end.LinkFault c old new prints = prints.2.faults
lines_counts end.WriteFault c old new prints = prints.2.faults
lines_counts end.OutOfMemory c old new prints = prints.2.faults

join_counts : {L : Type 0} (state : L → LinkState) (leads : L → L → Type 0) (client_at : ℕ → Client)
    (host : List ℕ) (port turns : ℕ) (e : ClientEnd) (old new : L) (sink sink' : SinkState)
    → Joins state leads client_at host port turns e old new sink sink'
    → SinkCounts (status_of_client e) sink.faults sink'.faults
join_counts state leads client_at host port turns e old new sink sink' (inl n) =
    silent_counts e host port n.acts sink sink' n.cause n.silent
join_counts state leads client_at host port turns e old new sink sink' (inr b) =
    lines_counts e b.run.last sink sink' b.run.lines

file_causes : (ended : ClientEnd) (files files' : ℕ) (sink sink' : SinkState) → files' ≡ files
    → SinkCounts (status_of_client ended) sink.faults sink'.faults
    → FileCauses (status_of_client ended) files files' sink sink'
file_causes end.Bye files files' sink sink' same counts = (same, counts)
file_causes (end.Refused which) files files' sink sink' same counts = (same, counts)
file_causes (end.BadPeer place why) files files' sink sink' same counts = (same, counts)
file_causes (end.Lost cause) files files' sink sink' same counts = (same, counts)
file_causes end.TurnsSpent files files' sink sink' same counts = (same, counts)
file_causes end.LinkFault files files' sink sink' same counts = (same, counts)
file_causes end.WriteFault files files' sink sink' same counts = (same, counts)
file_causes end.OutOfMemory files files' sink sink' same counts = (same, counts)

pub causes_of_client : {L : Type 0} (state : L → LinkState) (leads : L → L → Type 0)
    (client_at : ℕ → Client) (host : List ℕ) (port turns : ℕ) (ended : ClientEnd) (e : Status)
    (files files' : ℕ) (old new : L) (sink sink' : SinkState) → e ≡ status_of_client ended
    → files' ≡ files → Joins state leads client_at host port turns ended old new sink sink'
    → FileCauses e files files' sink sink'
causes_of_client state leads client_at host port turns ended e files files' old new sink sink' is same joins =
    subst (λ (s : Status). FileCauses s files files' sink sink') (sym is)
    (file_causes ended files files' sink sink' same (join_counts state leads client_at host port turns ended old new sink sink' joins))

-- ---- what went down went up

lines_released : (e : ClientEnd) (c : Client) (old new : SinkState) → PrintsTo e c old new
    → LetsGo (status_of_client e) old new
lines_released end.WriteFault c old new prints = tt
lines_released end.Bye c old new prints = record { shown = c.shown; text = prints.0; released = prints.1; written = prints.2.taken }
lines_released (end.Refused which) c old new prints = record { shown = c.shown; text = prints.0; released = prints.1; written = prints.2.taken }
lines_released (end.BadPeer place why) c old new prints = record { shown = c.shown; text = prints.0; released = prints.1; written = prints.2.taken }
lines_released (end.Lost cause) c old new prints = record { shown = c.shown; text = prints.0; released = prints.1; written = prints.2.taken }
lines_released end.TurnsSpent c old new prints = record { shown = c.shown; text = prints.0; released = prints.1; written = prints.2.taken }
lines_released end.LinkFault c old new prints = record { shown = c.shown; text = prints.0; released = prints.1; written = prints.2.taken }
lines_released end.OutOfMemory c old new prints = record { shown = c.shown; text = prints.0; released = prints.1; written = prints.2.taken }

join_released : {L : Type 0} (state : L → LinkState) (leads : L → L → Type 0) (client_at : ℕ → Client)
    (host : List ℕ) (port turns : ℕ) (e : ClientEnd) (old new : L) (sink sink' : SinkState)
    → Joins state leads client_at host port turns e old new sink sink'
    → LetsGo (status_of_client e) sink sink'
join_released state leads client_at host port turns e old new sink sink' (inl n) =
    silent_goes (status_of_client e) sink sink' n.silent
join_released state leads client_at host port turns e old new sink sink' (inr b) =
    lines_released e b.run.last sink sink' b.run.lines

pub released_of_client : {L : Type 0} (state : L → LinkState) (leads : L → L → Type 0)
    (client_at : ℕ → Client) (host : List ℕ) (port turns : ℕ) (ended : ClientEnd) (e : Status)
    (old new : L) (sink sink' : SinkState) → e ≡ status_of_client ended
    → Joins state leads client_at host port turns ended old new sink sink' → LetsGo e sink sink'
released_of_client state leads client_at host port turns ended e old new sink sink' is joins =
    subst (λ (s : Status). LetsGo s sink sink') (sym is)
    (join_released state leads client_at host port turns ended old new sink sink' joins)
