-- The answer to the greeting, by the screens that are used.
use Rattle.std.specs.Prelude.{◌≡◌, refl, ℕ, Bool, false, ◌||◌, ◌==◌, List, Option, Some, None, if◌then◌else◌}
use Rattle.std.specs.List.{list_any}
use Rattle.std.specs.Option.{option_map_or}
use Rattle.std.proofs.Common.{ap, ◌∙◌}
use Rattle.share_base.specs.Screens.{has}
use Rattle.screen_config.specs.Configurations.{Configuration, screen_of}
use Rattle.hello_states.specs.declared.part_cause.PartCause.TheVariants as cause
use Rattle.hello_states.specs.Phases.{used_screen}
use Rattle.hello_states.specs.Handshake.{HelloAnswer, Refused, Admitted, is_admitted, answer_by_name, hello_answer}
use Rattle.hello_states.specs.Answers.{answer_under}
use Rattle.machine.specs.States.{State}
use Rattle.machine.specs.Screens.{is_number}
use Rattle.machine.specs.Hello.{uses, is_used}
use Rattle.connection_table.specs.Standing.{StandsFor}
use Rattle.server_core.specs.declared.server.ServerCore.{ServerCore}
use Rattle.server_core.specs.Leading.{Reads}
use Rattle.server_core.specs.Using.{is_using}
use Rattle.server_core.specs.Standing.{Beside, around, Stands}
use Rattle.server_core.proofs.JoinedScreens.{pairs-any}

same_answer : (major minor : ℕ) (o : Option ℕ) (f g : ℕ → Bool) → ((k : ℕ) → f k ≡ g k) → hello_answer major minor o f ≡ hello_answer major minor o g
same_answer major minor o f g e = ap (λ (a : HelloAnswer). if is_admitted major minor then a else Refused cause.Version) (by o)
  where
    by : (o : Option ℕ) → answer_by_name o f ≡ answer_by_name o g
    by None = refl
    by (Some n) = ap (λ (t : Bool). if t then Refused cause.Busy else Admitted n) (e n)

-- by the set of the used screens
pub answer-is : (b : Beside) (core : ServerCore) (s : State) (used major minor : ℕ) (name : List ℕ) → ((k : ℕ) → Reads core (has used k) (λ t. is_used t k)) → Stands b core s → answer_under core.config used major minor name ≡ hello_answer major minor (screen_of s.config name) (is_used s)
answer-is b core s used major minor name reads h = ap (λ (g : Configuration). hello_answer major minor (screen_of g name) (has used)) h.config ∙ same_answer major minor (screen_of s.config name) (has used) (is_used s) (λ k. reads k b s h)

pub set-used : (b : Beside) (core : ServerCore) (s : State) (n primary : ℕ) → primary ≡ s.primary → Stands b core s → ((n == primary) || list_any (is_using n) core.table) ≡ is_used s n
set-used b core s n primary is h =
    ap (λ m. (n == m) || list_any (is_using n) core.table) is
    ∙ ap (λ x. (n == s.primary) || x) (pairs-any (StandsFor (around b s)) (is_using n) (uses n) (λ k c r. ap (λ p. option_map_or (is_number n) (used_screen p) false) r.phase) 0 core.table s.connections h.connections)
