use Rattle.std.proofs.Common.{ap, sym, ◌∙◌}
use Rattle.std.specs.List.{position}
use Rattle.share_base.specs.Names.{same_name}
use Rattle.screen_config.proofs.Keyed.{key_index, too_long}
use Rattle.screen_config.proofs.by_name.ByName.index_of.Goals as goal

pub
    returns-then-name-gt-LONGEST_NAME-clause-index : goal.returns-then-name-gt-LONGEST_NAME-clause-index
returns-then-name-gt-LONGEST_NAME-clause-index g c =
    sym
    (too_long g.T.Named.name_of c.self.inside.values.entries c.args.name.now
    c.if-name-gt-LONGEST_NAME.true c.self.invariant)
    ∙ ap (position (λ v. same_name (g.T.Named.name_of v) c.args.name.now)) c.self.view_is

pub returns-clause-index : goal.returns-clause-index
returns-clause-index g c =
    c.get_index_of.ensures.index
    ∙ key_index g.T.Named.name_of c.self.inside.values.entries c.args.name.now _
    c.in_small_letters-key.ensures c.self.invariant
    ∙ ap (position (λ v. same_name (g.T.Named.name_of v) c.args.name.now)) c.self.view_is
