use Rattle.held_inputs.proofs.ReleaseTexts.{all_up-nothing_down}
use Rattle.held_inputs.proofs.injector.Injector.is_clear.Goals as goal

pub returns : goal.returns
returns c =
    λ s h. let up = all_up-nothing_down c.args.self.now s h in
    (λ t. up.0 (c.is_clear.ensures.0 t), λ d. c.is_clear.ensures.1 (up.1 d))
