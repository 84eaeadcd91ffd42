use Rattle.std.proofs.Common.{map, length, ap, sym, ◌∙◌}
use Rattle.std.proofs.lemmas.List.{take_rest, drop-map}
use Rattle.script_screen.proofs.rows.Row.arguments.Goals as goal

pub returns-clause-rest : goal.returns-clause-rest
returns-clause-rest c =
    ap (map (λ w. w.now)) (take_rest c.args.words.now (length c.args.self.now.words.now))
    ∙ sym (drop-map (λ w. w.now) (length c.args.self.now.words.now) c.args.words.now)
