-- A sleep that holds the script.
use Rattle.std.specs.Prelude.{◌≡◌, refl, ℕ, Bool, true, false, not, ◌||◌, nat_le, List, [], ◌∷◌, ◌++◌, Option, Some, None}
use Rattle.std.specs.List.{flat_map}
use Rattle.std.specs.Option.{option_to_list}
use Rattle.std.proofs.Common.{sym, ap, ◌∙◌}
use Rattle.machine.specs.Running.{awake_at, is_awake}
use Rattle.machine.specs.Readings.{only_if, sleep_due}
use Rattle.server_core.specs.declared.server.ServerCore.{ServerCore}
use Rattle.server_core.specs.Leading.{Reads}

abbrev pub ends : Bool → ℕ → Option ℕ → List ℕ
ends quit at sleep = only_if (not quit) (flat_map (λ end. only_if (not (nat_le end at)) (end ∷ [])) (option_to_list sleep))

over : (quit : Bool) (at : ℕ) (sleep : Option ℕ) → (quit || awake_at at sleep) ≡ true → [] ≡ ends quit at sleep
over true at sleep e = refl
over false at None e = refl
over false at (Some end) e = ap (λ (t : Bool). only_if (not t) (end ∷ []) ++ []) (sym e)

on : (quit : Bool) (at : ℕ) (sleep : Option ℕ) → (quit || awake_at at sleep) ≡ false → option_to_list sleep ≡ ends quit at sleep
on true at sleep e = absurd (let x : ⊥ = cc in x)
on false at None e = refl
on false at (Some end) e = ap (λ (t : Bool). only_if (not t) (end ∷ []) ++ []) (sym e)

pub sleep-over : (core : ServerCore) (awake : Bool) → Reads core awake is_awake → (core.has_quit || awake) ≡ true → Reads core [] sleep_due
sleep-over core awake reads e = λ b s h. over s.has_quit s.at s.sleeps_until (ap (λ (t : Bool). t || is_awake s) (sym h.has_quit) ∙ (ap (λ (t : Bool). core.has_quit || t) (sym (reads b s h)) ∙ e))

pub sleep-on : (core : ServerCore) (awake : Bool) → Reads core awake is_awake → (core.has_quit || awake) ≡ false → Reads core (option_to_list core.sleeps_until) sleep_due
sleep-on core awake reads e = λ b s h. ap (λ (o : Option ℕ). option_to_list o) h.sleeps_until ∙ on s.has_quit s.at s.sleeps_until (ap (λ (t : Bool). t || is_awake s) (sym h.has_quit) ∙ (ap (λ (t : Bool). core.has_quit || t) (sym (reads b s h)) ∙ e))
