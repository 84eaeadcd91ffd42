-- The three texts of a number are read, and are short.
use Rattle.std.specs.Prelude.{ℕ}
use Rattle.std.proofs.Common.{◌≡◌, length, refl, arith}
use Rattle.std.specs.Fmt.{digits}
use Rattle.generated_texts.specs.Screens.{config_text}
use Rattle.generated_texts.specs.Traces.{trace_text}
use Rattle.made_accepted.specs.Accepted.{TextsSpell, TextsFitFiles}
use Rattle.made_accepted.specs.Spoken.{made_config, made_script, made_trace}
use Rattle.made_accepted.proofs.MadeConfig.{config_accepted}
use Rattle.made_accepted.proofs.MadeScript.{script_accepted, script_short}
use Rattle.made_accepted.proofs.MadeTrace.{trace_accepted}

pub texts_spell : (n : ℕ) → TextsSpell n made_config (made_script n) made_trace
texts_spell n =
    record { config_is = config_accepted; script_is = script_accepted n; trace_is = trace_accepted }

config_length : length config_text ≡ 203
unfolding config_text
config_length = refl

trace_length : length trace_text ≡ 493
unfolding trace_text digits
trace_length = refl

pub texts_fit_files : (n : ℕ) → TextsFitFiles n
texts_fit_files n = record {
  config = omega (arith, config_length);
  script = script_short n;
  trace = omega (arith, trace_length);
}
