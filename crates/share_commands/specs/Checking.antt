-- What becomes of a file with a configuration, and what `check` writes of it.
use Rattle.std.specs.Prelude.{◌≡◌, ℕ, List, Option, Some, None, Result}
use Rattle.share_base.specs.Told.{after}
use Rattle.share_base.specs.Writing.{SinkState, TakesFront}
use Rattle.config_text.specs.declared.faults.ConfigKind.TheVariants as kinds
use Rattle.config_text.specs.declared.faults.ConfigRefusal.{ConfigRefusal}
use Rattle.screen_config.specs.Configurations.{Configuration}
use Rattle.config_text.specs.Accepting.{Accepts, Refuses}
use Rattle.config_text.specs.Lines.{refused}
use Rattle.config_text.specs.Normal.{normal}
use Rattle.share_commands.specs.declared.status.Status.{Status}
use Rattle.share_commands.specs.declared.status.Status.TheVariants as status
use Rattle.share_commands.specs.Reading.{Kind, Has, Lacks, Gives}

abbrev pub config_limit : ℕ
config_limit = 1048576

-- the refusal of a file that is too big names no line
abbrev pub too_big : ConfigRefusal
too_big = refused 0 0 kinds.TooMany

abbrev pub bad_config : ConfigRefusal → Status
bad_config r = status.BadConfig r.line r.column r.kind

-- the refusal of a configuration that a status says
abbrev pub config_refusal : Status → Option ConfigRefusal
config_refusal (status.BadConfig line column kind) = Some (refused line column kind)
config_refusal _ = None

abbrev pub configs : Kind Configuration ConfigRefusal
configs =
    record {
      limit = config_limit;
      too_big = too_big;
      spells = Accepts;
      refuses = Refuses;
      said = config_refusal;
    }

-- the file spells that configuration
abbrev pub HasConfig : Option (List ℕ) → Configuration → Type 0
HasConfig = Has configs

-- why a command ends so without a configuration
abbrev pub NoConfig : Status → Option (List ℕ) → Type 0
NoConfig = Lacks configs

-- what a text gives: the configuration that it spells, or how the command ends without one
abbrev pub SpellsConfig : Result Configuration Status → List ℕ → Type 0
SpellsConfig = Gives configs

-- how a configuration's normal form is written: all of it, a front of it where the sink failed, or
-- nothing for want of memory
abbrev pub Prints : Status → Configuration → SinkState → SinkState → Type 0
Prints status.Ok config old new = new.taken ≡ after old.taken (normal config)
Prints status.WriteFault config old new = TakesFront (normal config) old.taken new.taken
Prints status.OutOfMemory config old new = new.taken ≡ old.taken
Prints _ config old new = ⊥

-- each end of `check` with its cause and with what was written
abbrev pub Checks : Status → Option (List ℕ) → SinkState → SinkState → Type 0
Checks status.Ok told old new =
    (config : Configuration) × HasConfig told config × Prints status.Ok config old new
Checks status.WriteFault told old new =
    (config : Configuration) × HasConfig told config × Prints status.WriteFault config old new
Checks end told old new = NoConfig end told × (new.taken ≡ old.taken)
