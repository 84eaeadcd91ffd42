-- Reading goes on behind a good line, and stops at the first that offends.
use Rattle.std.proofs.Common.{◌≡◌, ℕ, ◌+◌, List, [], ◌∷◌, Result, Ok, Err, ap, ◌∙◌}
use Rattle.std.specs.Str.Lines.{lines}
use Rattle.text_lines.specs.LineByLine.{all_lines}
use Rattle.config_text.specs.declared.faults.ConfigRefusal.{ConfigRefusal}
use Rattle.config_text.specs.declared.faults.ConfigFault.{ConfigFault}
use Rattle.config_text.specs.declared.faults.ConfigFault.TheVariants as fault
use Rattle.text_lines.specs.Reading.{◌>>=◌}
use Rattle.config_text.specs.Drafts.{Draft}
use Rattle.config_text.specs.Lines.{judged}
use Rattle.config_text.specs.Answering.{Fails}

pub goes_on : (text l rest : List ℕ) (n : ℕ) (d e : Draft) → lines text ≡ l ∷ lines rest
    → judged n d l ≡ Ok e
    → all_lines judged n d (lines text) ≡ all_lines judged (n + 1) e (lines rest)
unfolding all_lines
goes_on text l rest n d e h j =
    ap (all_lines judged n d) h
    ∙ ap (λ (r : Result Draft ConfigRefusal). r >>= λ m. all_lines judged (n + 1) m (lines rest)) j

stops_at : (text l rest : List ℕ) (n : ℕ) (d : Draft) (r : ConfigRefusal)
    → lines text ≡ l ∷ lines rest → judged n d l ≡ Err r → all_lines judged n d (lines text) ≡ Err r
unfolding all_lines
stops_at text l rest n d r h j =
    ap (all_lines judged n d) h
    ∙ ap (λ (a : Result Draft ConfigRefusal). a >>= λ m. all_lines judged (n + 1) m (lines rest)) j

pub stops : (f : ConfigFault) (text l rest : List ℕ) (n : ℕ) (d : Draft)
    (whole : Result Draft ConfigRefusal)
    → lines text ≡ l ∷ lines rest
    → whole ≡ all_lines judged n d (lines text) → Fails f (judged n d l) → Fails f whole
stops (fault.Refused r) text l rest n d whole h w j = w ∙ stops_at text l rest n d r h j
stops fault.OutOfMemory text l rest n d whole h w j = tt

pub at_end : (n : ℕ) (d : Draft) (text : List ℕ) → text ≡ []
    → all_lines judged n d (lines text) ≡ Ok d
unfolding all_lines
at_end n d text h = ap (λ (t : List ℕ). all_lines judged n d (lines t)) h
