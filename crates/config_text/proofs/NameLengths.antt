-- Names of screens are short.
use Rattle.std.proofs.Common.{ℕ, ◌≤◌, length, Option, ap, inl, inr}
use Rattle.std.proofs.Common.{arith}
use Rattle.std.proofs.lemmas.Bool.{cases_lt}
use Rattle.std.proofs.lemmas.Option.{slice_get_past}
use Rattle.share_base.proofs.NameBytes.{is_name_short}
use Rattle.screen_config.specs.declared.screens.Screen.{Screen}
use Rattle.screen_config.specs.Configurations.{Configuration}
use Rattle.screen_config.specs.Sound.{IsSound}
use Rattle.screen_config.specs.Values.{name_in, name_of}
use Rattle.config_text.proofs.KnownAgain.{sound_names, is_name_again}

pub name_short : (c : Configuration) (n : ℕ) → IsSound c → length (name_of c n) ≤ 255
name_short c n s = elim (cases_lt n (length c.screens)) [
  | inl h ↦ is_name_short (name_of c n) (is_name_again c n (sound_names c s) h)
  | inr h ↦
      omega (arith, ap (λ (o : Option Screen). length (name_in o)) (slice_get_past c.screens n h))
]
