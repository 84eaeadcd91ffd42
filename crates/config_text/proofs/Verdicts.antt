-- Each text has one verdict: that of reading it.
use Rattle.std.proofs.Common.{◌≡◌, ℕ, List, Result, Ok, Err, refl, ap, sym, ◌∙◌}
use Rattle.config_text.specs.declared.faults.ConfigRefusal.{ConfigRefusal}
use Rattle.screen_config.specs.Configurations.{Configuration}
use Rattle.config_text.specs.Lines.{reading}
use Rattle.config_text.specs.Verdicts.{Verdict, Accepted, Refused, HasVerdict}
use Rattle.config_text.proofs.Acceptance.{accepts, accepted, refuses, refused_so}

abbrev verdict_of : Result Configuration ConfigRefusal → Verdict
verdict_of (Ok config) = Accepted config
verdict_of (Err refusal) = Refused refusal

has_by : (text : List ℕ) (r : Result Configuration ConfigRefusal) → reading text ≡ r
    → HasVerdict text (verdict_of r)
has_by text (Ok config) e = accepts text config e
has_by text (Err refusal) e = refuses text refusal e

pub some_verdict : (text : List ℕ) → (v : Verdict) × HasVerdict text v
some_verdict text = (verdict_of (reading text), has_by text (reading text) refl)

-- a verdict is that of reading the text
read_so : (text : List ℕ) (v : Verdict) → HasVerdict text v → v ≡ verdict_of (reading text)
read_so text (Accepted config) h = ap verdict_of (sym (accepted text config h))
read_so text (Refused refusal) h = ap verdict_of (sym (refused_so text refusal h))

pub one_verdict : (text : List ℕ) (v w : Verdict) → HasVerdict text v → HasVerdict text w → v ≡ w
one_verdict text v w h k = read_so text v h ∙ sym (read_so text w k)
