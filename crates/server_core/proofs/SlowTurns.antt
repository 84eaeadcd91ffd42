-- Slow connections that part one after another.
use Rattle.std.specs.Prelude.{◌≡◌, ℕ, ◌+◌, ◌≤◌, length, Option}
use Rattle.std.proofs.Common.{sym, ap, ◌∙◌, subst}
use Rattle.hello_states.specs.declared.part_cause.PartCause.TheVariants as cause
use Rattle.machine.specs.Connections.{Connection}
use Rattle.machine.specs.States.{State}
use Rattle.machine.specs.Combining.{for_some, times, unchanged}
use Rattle.machine.specs.Partings.{part}
use Rattle.machine.specs.Slow.{part_first_slow, part_slow}
use Rattle.connection_table.specs.Standing.{StandsFor}
use Rattle.connection_table.proofs.Pairs.{pairs-length}
use Rattle.server_core.specs.declared.server.ServerCore.{ServerCore}
use Rattle.server_core.specs.Leading.{Leads}
use Rattle.server_core.specs.SlowOnes.{NoneIsSlow}
use Rattle.server_core.specs.Standing.{Beside, around, Stands}
use Rattle.server_core.proofs.Loops.{times-more, times-over}

pub turns-more : (old now new : ServerCore) (n : ℕ) → Leads old now (times n part_first_slow) → Leads now new part_first_slow → Leads old new (times (n + 1) part_first_slow)
turns-more old now new n so_far leads = λ b s h. subst (λ t. Stands b new t) (sym (times-more n part_first_slow s)) (leads b (times n part_first_slow s) (so_far b s h))

as-many : (b : Beside) (core : ServerCore) (s : State) (most : ℕ) → most ≡ length core.table → Stands b core s → most ≡ length s.connections
as-many b core s most e h = e ∙ pairs-length (StandsFor (around b s)) 0 core.table s.connections h.connections

-- all turns
pub turns-all : (old now : ServerCore) (n most : ℕ) → n ≡ most → most ≡ length old.table → Leads old now (times n part_first_slow) → Leads old now part_slow
turns-all old now n most end e so_far = λ b s h. subst (λ m. Stands b now (times m part_first_slow s)) (end ∙ as-many b old s most e h) (so_far b s h)

-- as many turns as there were slow ones
pub turns-over : (old now new : ServerCore) (n most : ℕ) → n ≤ most → most ≡ length old.table → Leads old now (times n part_first_slow) → Leads now new part_first_slow → NoneIsSlow now → Leads old new part_slow
turns-over old now new n most le e so_far leads none = λ b s h.
    let t : State = times n part_first_slow s in
    let at : Stands b now t = so_far b s h in
    let still : part_first_slow t ≡ t = ap (λ (o : Option Connection). for_some o (λ (c : Connection). part cause.Slow c.serial) unchanged t) (none b t at) in
    subst (λ u. Stands b new u) (still ∙ (times-over n most part_first_slow s le still ∙ ap (λ m. times m part_first_slow s) (as-many b old s most e h))) (leads b t at)
