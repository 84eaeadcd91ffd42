-- That a trace has one output: each run of the server over it that ends well writes the same.
use Rattle.std.specs.Prelude.{◌≡◌, ℕ, List, [], ◌++◌}
use Rattle.share_base.specs.Told.{after}
use Rattle.share_base.specs.Writing.{SinkState}
use Rattle.screen_config.specs.Configurations.{Configuration}
use Rattle.script_screen.specs.Scripts.{ScriptText}
use Rattle.script_screen.specs.declared.trace.TraceLine.{TraceLine}
use Rattle.hub_acts.specs.declared.act.Act.{Act}
use Rattle.attentive_acts.specs.Borders.{borders}
use Rattle.attentive_acts.specs.Judging.{Judge, judged}
use Rattle.engine_loop.specs.declared.serve_end.ServeEnd.{ServeEnd}
use Rattle.engine_loop.specs.declared.serve_end.ServeEnd.TheVariants as ends
use Rattle.trace_replay.specs.Replaying.{Replayed, first_of}

-- in no state to which a front of the acts leads has a queue a full chunk of a clipboard
abbrev pub QueuesNoFullChunk : Judge → List Act → Type 0
QueuesNoFullChunk first acts =
    (before after : List Act) (c : ℕ)
    → acts ≡ before ++ after → borders (judged first before).state.routed c ≡ []

-- the script has quit, or the trace is over
abbrev pub EndsWell : ServeEnd → Type 0
EndsWell ends.Quit = Unit {0}
EndsWell ends.Over = Unit {0}
EndsWell end = ⊥

-- no run over the trace that ends well queues a full chunk
abbrev pub NeverQueuesFullChunk : Configuration → ScriptText → List TraceLine → Type 0
NeverQueuesFullChunk config script trace =
    (end : ServeEnd) (old new : SinkState) → EndsWell end
    → (r : Replayed config script trace end old new)
    → QueuesNoFullChunk (first_of config script) (r.run ++ r.leaves)

-- an output was written, and each run over the trace that ends well writes that output
pub record OneOutput (config : Configuration) (script : ScriptText) (trace : List TraceLine)
    (old new : SinkState) : Type 0 where
  pub output : List ℕ
  pub written : new.taken ≡ after old.taken output
  pub alone : (end : ServeEnd) (old' new' : SinkState) → EndsWell end
      → Replayed config script trace end old' new' → new'.taken ≡ after old'.taken output

-- what one run that ends well and queues no full chunk writes is the one output
abbrev pub WriteAlike : Type 0
WriteAlike =
    (config : Configuration) (script : ScriptText) (trace : List TraceLine) (end : ServeEnd)
    (old new : SinkState) → EndsWell end → (r : Replayed config script trace end old new)
    → QueuesNoFullChunk (first_of config script) (r.run ++ r.leaves)
    → OneOutput config script trace old new

-- if one run that ends well queues no full chunk, none does
abbrev pub QueueAlike : Type 0
QueueAlike =
    (config : Configuration) (script : ScriptText) (trace : List TraceLine) (end : ServeEnd)
    (old new : SinkState) → EndsWell end → (r : Replayed config script trace end old new)
    → QueuesNoFullChunk (first_of config script) (r.run ++ r.leaves)
    → NeverQueuesFullChunk config script trace
