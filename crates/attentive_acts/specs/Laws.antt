-- Laws over attentive acts.
use Rattle.std.specs.Prelude.{◌≡◌, ℕ, ◌==◌, true, if◌then◌else◌, List, [], ◌∷◌, ◌++◌, take}
use Rattle.std.specs.List.{flat_map}
use Rattle.share_base.specs.Fronts.{IsFront}
use Rattle.screen_config.specs.Configurations.{Configuration}
use Rattle.hub_acts.specs.declared.act.Act.{Act}
use Rattle.hub_acts.specs.declared.act.Act.TheVariants as act
use Rattle.hub_acts.specs.declared.answers.ReadAnswer.{ReadAnswer}
use Rattle.hub_acts.specs.declared.answers.WriteAnswer.{WriteAnswer}
use Rattle.hub_acts.specs.declared.answers.WriteAnswer.TheVariants as written
use Rattle.machine.specs.Scripts.{Script}
use Rattle.machine.specs.Queues.{queue}
use Rattle.machine.specs.Readings.{reads}
use Rattle.machine.specs.Acceptance.{start}
use Rattle.attentive_acts.specs.Flags.{has_more}
use Rattle.attentive_acts.specs.Judging.{Judge, Follows, judged, first_judge}

-- ---- single acts

-- a connection that is read is open, and isn't parting
abbrev pub ReadsTheLiving : Type 0
ReadsTheLiving =
    (j : Judge) (before after : List Act) (serial room : ℕ) (answer : ReadAnswer) (bytes : List ℕ)
    → Follows j (before ++ act.Read serial room answer bytes ∷ after)
    → reads (judged j before).state serial ≡ true

-- a connection that is written to is open, and has bytes that it may still take
abbrev pub WritesWhatIsQueued : Type 0
WritesWhatIsQueued =
    (j : Judge) (before after : List Act) (serial : ℕ) (bytes : List ℕ) (answer : WriteAnswer)
    → Follows j (before ++ act.Write serial bytes answer ∷ after)
    → has_more (judged j before).state serial ≡ true

-- ---- prefixes

-- the bytes that the connection's writes took, one after another
abbrev pub taken_in : ℕ → Act → List ℕ
taken_in c (act.Write d bytes (written.Took n)) = if d == c then take n bytes else []
taken_in c a = []

abbrev pub taken_bytes : ℕ → List Act → List ℕ
taken_bytes c acts = flat_map (taken_in c) acts

abbrev pub judge_of : Configuration → Script → ℕ → List Act → Judge
judge_of config script now acts = judged (first_judge (start config script now)) acts

abbrev pub AreAttentive : Configuration → Script → ℕ → List Act → Type 0
AreAttentive config script now acts = Follows (first_judge (start config script now)) acts

-- what a connection has taken is a front of what the machine queued for it
abbrev pub TakenInOrder : Type 0
TakenInOrder =
    (config : Configuration) (script : Script) (now : ℕ) (acts : List Act)
    → AreAttentive config script now acts
    → (c : ℕ) → IsFront (taken_bytes c acts)
    (queue (judge_of config script now acts).state.routed c)
