use Rattle.std.proofs.Common.{ℕ, List, Option, Some, get_or, ap, sym, ◌∙◌}
use Rattle.screen_config.specs.declared.screens.Alias.{Alias}
use Rattle.screen_config.proofs.NamesApart.{alias_at, no_alias}
use Rattle.screen_config.proofs.config.screen_of_alias.Goals as goal

pub returns-in-Some : goal.returns-in-Some
returns-in-Some c =
    let there = sym c.index_of.ensures.index ∙ c.in-Some.is in
    ap
    (λ (xs : List Alias).
    let o : Option ℕ =
    Some (get_or xs c.in-Some.index c.index-as_slice-index.result).screen in
    o)
    c.as_slice.ensures
    ∙ sym
    (alias_at c.args.aliases.now c.args.name.now c.in-Some.index c.index-as_slice-index.result
    there)

pub returns-in-None : goal.returns-in-None
returns-in-None c =
    sym (no_alias c.args.aliases.now c.args.name.now (sym c.index_of.ensures.index ∙ c.in-None.is))
