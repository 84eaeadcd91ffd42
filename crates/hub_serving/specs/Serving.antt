-- A server on a port: the hub listens, and then the loop runs over it.
use Rattle.std.specs.Prelude.{◌≡◌, ℕ, Some, Ok, Err}
use Rattle.share_base.specs.Counts.{Rises}
use Rattle.share_base.specs.Writing.{SinkState}
use Rattle.share_base.specs.declared.sink.Sink as sink
use Rattle.screen_config.specs.Configurations.{Configuration}
use Rattle.script_screen.specs.Scripts.{ScriptText}
use Rattle.hub_acts.specs.declared.act.Act.TheVariants as act
use Rattle.hub_acts.specs.declared.answers.CallFault.{CallFault}
use Rattle.hub_acts.specs.declared.answers.CallFault.TheVariants as fault
use Rattle.hub_acts.specs.Acts.{listen_act}
use Rattle.hub_acts.specs.Hubs.{HubState, HubCalls}
use Rattle.hub_acts.specs.declared.hub.Hub as hub
use Rattle.reached_states.specs.Reaching.{Origin}
use Rattle.server_core.specs.declared.server.ServerCore.{ServerCore}
use Rattle.server_core.specs.Promises.{origin}
use Rattle.server_core.specs.Driving.{departs_in}
use Rattle.engine_loop.specs.declared.serve_end.ServeEnd.{ServeEnd}
use Rattle.engine_loop.specs.declared.serve_end.ServeEnd.TheVariants as ends
use Rattle.engine_loop.specs.Serving.{Serves}

-- how a server ends that can't listen
abbrev pub end_without : CallFault → ServeEnd
end_without fault.Failed = ends.HubFault
end_without fault.OutOfMemory = ends.OutOfMemory

-- a server with that origin ran over the hub, or memory ran out before it began
pub data RunsServer {H : Type 0} (state : H → HubState) (leads : H → H → Type 0) (o : Origin)
    (turns : ℕ) (end : ServeEnd) (old new : H) (sink sink' : SinkState) : Type 0
  where
    not_begun : end ≡ ends.OutOfMemory → new ≡ old → sink' ≡ sink
        → RunsServer state leads o turns end old new sink sink'
    ran : (core : ServerCore)
        → Serves departs_in state leads o turns end core old new sink sink'
        → RunsServer state leads o turns end old new sink sink'

-- each end with its cause: the hub could not listen, and nothing else was done; or it listened, and
-- then the server ran over it
pub data ServesOn {H : Type 0} (state : H → HubState) (leads : H → H → Type 0) (o : Origin)
    (port turns : ℕ) (end : ServeEnd) (old new : H) (sink sink' : SinkState) : Type 0
  where
    not_listening : (cause : CallFault) → end ≡ end_without cause
        → HubCalls (listen_act port (Err cause)) (state old) (state new) → leads old new
        → sink' ≡ sink
        → ServesOn state leads o port turns end old new sink sink'
    listened : (listening : H)
        → HubCalls (Some (act.Listen port (Ok tt))) (state old) (state listening)
        → leads old listening
        → RunsServer state leads o turns end listening new sink sink'
        → ServesOn state leads o port turns end old new sink sink'

-- so it was with a server of that configuration and script, from moment 0
abbrev pub Runs : {H K : Type 0} → Configuration → ScriptText → (port turns : ℕ) → ServeEnd
    → hub.Ghosts H → H → H → sink.Ghosts K → K → K → Type 0
Runs config script port turns end on old new to out out' =
    ServesOn on.state on.leads (origin config script 0) port turns end old new (to.state out)
    (to.state out')

-- the sink's count of faults rose at a write fault, and stayed at every other end
abbrev pub OutputCounts : ServeEnd → ℕ → ℕ → Type 0
OutputCounts ends.WriteFault old new = Rises old new
OutputCounts end old new = new ≡ old
