use Rattle.std.proofs.Common.{false}
use Rattle.std.proofs.lemmas.List.{get_or-replicate}
use Rattle.script_screen.proofs.held.Held.new.Goals as goal

pub returns : goal.returns
returns c =
    record {
      keys = λ b h. get_or-replicate 256 b false false h;
      buttons = λ b h. get_or-replicate 256 b false false h;
    }
