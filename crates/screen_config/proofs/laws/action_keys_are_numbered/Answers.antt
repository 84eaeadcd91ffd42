use Rattle.screen_config.proofs.KeyNumbers.{few_numbers, keys_in_order, own_number}
use Rattle.screen_config.proofs.laws.action_keys_are_numbered.Goals as goal

pub returns : goal.returns
returns c =
    record {
      apart = own_number;
      in_order = keys_in_order;
      below = λ count hotkeys a s h. few_numbers hotkeys a s.few_keys h;
    }
