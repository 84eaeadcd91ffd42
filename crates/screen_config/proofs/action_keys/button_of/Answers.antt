use Rattle.std.proofs.Common.{ℕ, ◌+◌, length, Option, ap, ◌∙◌}
use Rattle.std.specs.Prelude.{unwrap_or}
use Rattle.share_base.specs.declared.numbers.Button.{Button}
use Rattle.screen_config.proofs.KeyPlaces.{place_found}
use Rattle.screen_config.proofs.action_keys.button_of.Goals as goal

pub returns : goal.returns
returns c =
    ap (λ (n : ℕ). let b : Button = record { 0 = 0xf000 + n } in b)
    (c.unwrap_or-place.ensures
    ∙ ap (λ (o : Option ℕ). unwrap_or o (length c.args.keys.now)) c.place_of.ensures.place
    ∙ place_found c.args.keys.now c.args.id)
