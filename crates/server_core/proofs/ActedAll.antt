-- Actions that are done one after another.
use Rattle.std.specs.Prelude.{◌≡◌, ℕ, ◌+◌, ◌<◌, ◌≤◌, List, length, take}
use Rattle.std.proofs.Common.{sym, subst, get_or}
use Rattle.std.proofs.lemmas.List.{take_all}
use Rattle.hotkey_rules.specs.declared.action.Action.{Action}
use Rattle.machine.specs.Targets.{Origin}
use Rattle.machine.specs.Actions.{act, act_all}
use Rattle.server_core.specs.declared.server.ServerCore.{ServerCore}
use Rattle.server_core.specs.Standing.{Stands}
use Rattle.server_core.specs.Leading.{Leads}
use Rattle.server_core.proofs.Loops.{for_each-more}

pub acts-more : (old now new : ServerCore) (list : List Action) (i : ℕ) (x : Action) → i < length list → x ≡ get_or list i x → ((o : Origin) → Leads old now (act_all o (take i list))) → ((o : Origin) → Leads now new (act o x)) → (o : Origin) → Leads old new (act_all o (take (i + 1) list))
acts-more old now new list i x lt is so_far leads = λ o b s h. subst (λ t. Stands b new t) (sym (for_each-more list i x (act o) s lt is)) (leads o b (act_all o (take i list) s) (so_far o b s h))

pub acts-all : (old now : ServerCore) (list : List Action) (i : ℕ) → length list ≤ i → ((o : Origin) → Leads old now (act_all o (take i list))) → (o : Origin) → Leads old now (act_all o list)
acts-all old now list i le so_far = λ o b s h. subst (λ xs. Stands b now (act_all o xs s)) (take_all i list le) (so_far o b s h)
