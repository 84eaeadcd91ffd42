-- The texts of printed actions.
use Rattle.std.proofs.Common.{◌≡◌, ℕ, ◌-◌, ◌≤◌, List, [], ◌∷◌, ◌++◌, length, take, take_all, drop}
use Rattle.std.proofs.Common.{get_or, map, Result, refl, ap, sym, ◌∙◌, append_assoc, arith}
use Rattle.std.specs.Prelude.{codes, OnOk}
use Rattle.std.specs.List.{flat_map}
use Rattle.std.proofs.lemmas.List.Folds.{flat_map-map}
use Rattle.std.proofs.lemmas.Result.{on_ok_weaker}
use Rattle.hotkey_rules.specs.declared.action.Action.{Action}
use Rattle.hotkey_text.specs.Printed.{and_further, with_commas}
use Rattle.hotkey_text.specs.Shapes.{has_some}
use Rattle.screen_config.specs.Configurations.{Configuration}
use Rattle.config_text.specs.Normal.{action_of, further_action}

pub further_texts : (c : Configuration) (actions : List Action)
    → and_further (map (action_of c) actions) ≡ flat_map (further_action c) actions
further_texts c actions = flat_map-map (λ (t : List ℕ). codes ", " ++ t) (action_of c) actions

-- the first is added, and then the others
pub list_added : {E : Type 0} (r : Result (Unit {0}) E) (c : Configuration) (actions : List Action)
    (d : Action) (old first new : List ℕ)
    → 1 ≤ length actions
    → first ≡ old ++ action_of c (get_or actions 0 d)
    → OnOk r
    (new
    ≡ first ++ flat_map (further_action c) (take (length actions - 1) (drop 1 actions)))
    → OnOk r (new ≡ old ++ with_commas (map (action_of c) actions))
list_added r c [] d old first new h e ok = absurd (omega arith)
list_added r c (a ∷ actions) d old first new h e ok =
    let rest : take (length (a ∷ actions) - 1) actions ≡ actions =
    take_all (length (a ∷ actions) - 1) actions (omega arith) in
    on_ok_weaker r
    (λ
    (k : new
    ≡ first ++ flat_map (further_action c) (take (length (a ∷ actions) - 1) actions)).
    k ∙ ap (λ (xs : List Action). first ++ flat_map (further_action c) xs) rest
    ∙ ap (λ (t : List ℕ). t ++ flat_map (further_action c) actions) e
    ∙ append_assoc old (action_of c a) (flat_map (further_action c) actions)
    ∙ ap (λ (t : List ℕ). old ++ (action_of c a ++ t)) (sym (further_texts c actions))) ok

pub some_texts : (c : Configuration) (actions : List Action)
    → has_some (map (action_of c) actions) ≡ has_some actions
some_texts c [] = refl
some_texts c (a ∷ actions) = refl
