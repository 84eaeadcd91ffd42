use Rattle.std.specs.Prelude.{ℕ, List}
use Rattle.std.proofs.Common.{subst}
use Rattle.share_commands.specs.Checking.{configs}
use Rattle.share_commands.specs.Reading.{Gives}
use Rattle.share_commands.proofs.ReadTexts.{read}
use Rattle.share_commands.proofs.TextLines.{config_named}
use Rattle.share_commands.proofs.checking.read_config.Goals as goal

pub returns : goal.returns
returns g c =
    let text = c.in_ok-text.text in
    let result = c.parse_config.result in
    let given : Gives configs result text = subst (λ (xs : List ℕ). Gives configs result xs) c.as_slice.ensures c.parse_config.ensures in
    read configs _ result text g.F.Files c.args.files.now c.read_file.new.files c.args.name.now c.in_ok-text.ensures given (config_named result text given)
