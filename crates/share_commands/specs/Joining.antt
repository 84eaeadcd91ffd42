-- What `join` makes of the file with a client script, and of its link.
use Rattle.std.specs.Prelude.{◌≡◌, ℕ, ◌≤◌, List, Option}
use Rattle.share_base.specs.Counts.{one_more, Rises}
use Rattle.share_base.specs.Told.{after}
use Rattle.share_base.specs.Writing.{SinkState}
use Rattle.message_codec.specs.declared.messages.Msg.{Msg}
use Rattle.hub_acts.specs.Links.{LinkState}
use Rattle.hub_acts.specs.declared.link.Link as link
use Rattle.script_screen.specs.declared.client_script.ClientLine.{ClientLine}
use Rattle.client_core.specs.declared.client_end.ClientEnd.{ClientEnd}
use Rattle.client_core.specs.Happenings.{joining}
use Rattle.client_core.specs.Kept.{Released}
use Rattle.client_loop.specs.Joining.{Joins}
use Rattle.share_commands.specs.declared.status.Status.{Status}
use Rattle.share_commands.specs.declared.status.Status.TheVariants as status
use Rattle.share_commands.specs.Endings.{status_of_client}
use Rattle.share_commands.specs.Texts.{HasClientScript, NoClientScript}

-- the server's host and port, the client's name and size, what the file of its script holds, where
-- it is told, and the number of turns
pub record ToJoin : Type 0 where
  pub host : List ℕ
  pub port : ℕ
  pub name : List ℕ
  pub w : ℕ
  pub h : ℕ
  pub script : Option (List ℕ)
  pub turns : ℕ

-- what the file of that name holds
abbrev pub to_join : (List ℕ → Option (List ℕ)) → (name host : List ℕ) → (port w h : ℕ) → List ℕ
    → (turns : ℕ) → ToJoin
to_join told name host port w h script turns =
    record {
      host = host;
      port = port;
      name = name;
      w = w;
      h = h;
      script = told script;
      turns = turns;
    }

-- each end with its cause: there is no script, and nothing was written and the link not called; or
-- a client with that script joined the server over the link, and ended so
pub data JoinsFiles {L : Type 0} (state : L → LinkState) (leads : L → L → Type 0) (end : Status)
    (given : ToJoin) (calls calls' : ℕ) (link link' : L) (old new : SinkState) : Type 0
  where
    no_script : NoClientScript end given.script → link' ≡ link → new ≡ old
        → calls' ≡ one_more calls
        → JoinsFiles state leads end given calls calls' link link' old new
    joined : (script : List ClientLine) (ended : ClientEnd) → HasClientScript given.script script
        → Joins state leads (joining given.name given.w given.h script) given.host given.port
        given.turns ended link link' old new
        → end ≡ status_of_client ended → calls' ≡ one_more calls
        → JoinsFiles state leads end given calls calls' link link' old new

-- what was written are lines in which each key and each button that went down went up, and nothing
-- was down where the cursor left
pub record WritesReleased (old new : SinkState) : Type 0 where
  pub shown : List Msg
  pub text : List ℕ
  pub released : Released shown text
  pub written : new.taken ≡ after old.taken text

-- so it is at every end, but where the sink failed
abbrev pub LetsGo : Status → SinkState → SinkState → Type 0
LetsGo status.WriteFault old new = Unit {0}
LetsGo end old new = WritesReleased old new

-- the count of the link's faults rose at a link fault, and stayed at every other status; where the
-- output failed or memory ran out, it may have risen before that
abbrev pub LinkFaults : Status → ℕ → ℕ → Type 0
LinkFaults status.LinkFault old new = Rises old new
LinkFaults status.WriteFault old new = old ≤ new
LinkFaults status.OutOfMemory old new = old ≤ new
LinkFaults _ old new = new ≡ old

abbrev pub CountsLinkFaults : {L : Type 0} → Status → link.Ghosts L → L → L → Type 0
CountsLinkFaults end on old new = LinkFaults end (on.state old).faults (on.state new).faults
