-- Laws on which the statement of the commands rests.
use Rattle.std.specs.Prelude.{◌≡◌, ◌<◌, ◌≤◌, ℕ, List, Some, length}
use Rattle.share_base.specs.Told.{after}
use Rattle.share_base.specs.Reading.{SourceState}
use Rattle.share_base.specs.Writing.{SinkState}
use Rattle.config_text.specs.declared.faults.ConfigRefusal.{ConfigRefusal}
use Rattle.config_text.specs.Accepting.{Accepts, Refuses}
use Rattle.config_text.specs.Normal.{normal}
use Rattle.screen_config.specs.Configurations.{Configuration}
use Rattle.share_commands.specs.declared.status.Status.{Status}
use Rattle.share_commands.specs.declared.status.Status.TheVariants as status
use Rattle.share_commands.specs.Ways.{Way}
use Rattle.share_commands.specs.Endings.{printed_of}
use Rattle.share_commands.specs.Commands.{VerdictOn, EndsAt, IsDecided}
use Rattle.share_commands.specs.Checking.{Checks, bad_config, config_limit, too_big}

-- the same bytes print the same messages and end the same, unless one end is a fault or out of
-- memory
abbrev pub HaveOneEnd : Type 0
HaveOneEnd =
    (w : Way) (read : List ℕ) (v u : VerdictOn w read) (input other : SourceState) (x y : Status)
    → EndsAt w x read v input → EndsAt w y read u other → IsDecided x → IsDecided y
    → (printed_of w v ≡ printed_of w u) × (x ≡ y)

-- unless the end is a fault or out of memory, `check` of a file that is told prints an accepted one
abbrev pub AcceptedIsPrinted : Type 0
AcceptedIsPrinted =
    (file : List ℕ) (config : Configuration) (end : Status) (old new : SinkState)
    → length file ≤ config_limit → Accepts file config
    → Checks end (Some file) old new → IsDecided end
    → (end ≡ status.Ok) × (new.taken ≡ after old.taken (normal config))

-- says so at a refused one
abbrev pub RefusedIsSaid : Type 0
RefusedIsSaid =
    (file : List ℕ) (refusal : ConfigRefusal) (end : Status) (old new : SinkState)
    → length file ≤ config_limit → Refuses file refusal
    → Checks end (Some file) old new → IsDecided end
    → (end ≡ bad_config refusal) × (new.taken ≡ old.taken)

-- and at one that is too big
abbrev pub TooBigIsSaid : Type 0
TooBigIsSaid =
    (file : List ℕ) (end : Status) (old new : SinkState)
    → config_limit < length file
    → Checks end (Some file) old new → IsDecided end
    → (end ≡ bad_config too_big) × (new.taken ≡ old.taken)
