-- The verdict on a text: the configuration as which it is accepted, or the refusal.
use Rattle.std.specs.Prelude.{ℕ, List}
use Rattle.config_text.specs.declared.faults.ConfigRefusal.{ConfigRefusal}
use Rattle.screen_config.specs.Configurations.{Configuration}
use Rattle.config_text.specs.Accepting.{Accepts, Refuses}

pub data Verdict : Type 0 where
  Accepted : Configuration → Verdict
  Refused : ConfigRefusal → Verdict

-- the text has that verdict
abbrev pub HasVerdict : List ℕ → Verdict → Type 0
HasVerdict text (Accepted config) = Accepts text config
HasVerdict text (Refused refusal) = Refuses text refusal
