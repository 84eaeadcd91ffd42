use Rattle.std.proofs.Common.{◌≡◌, Bool, true, false, not, ap, sym, ◌∙◌}
use Rattle.hotkey_text.proofs.ActionLists.{some_where_some}
use Rattle.hotkey_text.proofs.lists.ActionList.is_empty.Goals as goal

negated : (a b : Bool) → not a ≡ b → a ≡ not b
negated true b e = ap not e
negated false b e = ap not e

pub returns : goal.returns
returns c =
    negated c.is_none.result _
    (sym c.is_none.ensures ∙ some_where_some c.args.self.now.rest c.args.self.now.formed)
