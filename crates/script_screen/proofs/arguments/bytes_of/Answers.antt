use Rattle.std.proofs.Common.{◌≡◌, ℕ, ◌<◌, List, length, Option, false, sym, ◌∙◌, ap}
use Rattle.std.proofs.Common.{arith, subst, inl, inr}
use Rattle.std.specs.Prelude.{codes}
use Rattle.std.specs.Str.{bytes_eq}
use Rattle.script_screen.specs.declared.kinds.TextKind.TheVariants as kind
use Rattle.script_screen.specs.Answers.{LineGives}
use Rattle.script_screen.specs.Grammar.{or_kind}
use Rattle.script_screen.proofs.WordSteps.{some_left}
use Rattle.script_screen.proofs.PairSteps.{within_sizes, outside_sizes, sizes_hold}
use Rattle.script_screen.proofs.arguments.bytes_of.Goals as goal
use Rattle.script_screen.proofs.arguments.bytes_of.Goals.{then-count-sizes-via-then-count-sizes}
use Rattle.script_screen.proofs.arguments.bytes_of.Goals.{then-count-sizes-via-else-count-sizes+then-count-sizes-2}

pub returns-then-count-sizes-clause-gives : goal.returns-then-count-sizes-clause-gives
returns-then-count-sizes-clause-gives c =
    let some : 0 < length c.args.word.now =
    some_left c.args.word.now (sym c.if-is_empty.false ∙ c.is_empty.ensures) in
    let plain : bytes_eq c.args.word.now (codes "-") ≡ false =
    sym c.is_dash.ensures ∙ c.if-is_dash.false in
    ap (λ (o : Option (List ℕ)). or_kind o kind.BadHex)
    (outside_sizes c.args.sizes.least c.args.sizes.most c.args.word.now plain some
    (elim c.then-count-sizes.branch [
      | then-count-sizes-via-then-count-sizes w ↦ inl (omega arith)
      | then-count-sizes-via-else-count-sizes+then-count-sizes-2 w ↦ inr (omega arith)
    ]))

pub returns-clause-gives : goal.returns-clause-gives
returns-clause-gives c =
    let some : 0 < length c.args.word.now =
    some_left c.args.word.now (sym c.if-is_empty.false ∙ c.is_empty.ensures) in
    let plain : bytes_eq c.args.word.now (codes "-") ≡ false =
    sym c.is_dash.ensures ∙ c.if-is_dash.false in
    subst (λ (o : Option (List ℕ)). LineGives (λ b. b) c.pairs.result (or_kind o kind.BadHex))
    (sym
    (within_sizes c.args.sizes.least c.args.sizes.most c.args.word.now plain some
    (omega arith) (omega arith)))
    c.pairs.ensures

pub returns-clause-least : goal.returns-clause-least
returns-clause-least c =
    (sizes_hold c.args.word.now c.args.sizes.least c.args.sizes.most c.pairs.result c.pairs.ensures
    (omega arith) (omega arith)).0

pub returns-clause-most : goal.returns-clause-most
returns-clause-most c =
    (sizes_hold c.args.word.now c.args.sizes.least c.args.sizes.most c.pairs.result c.pairs.ensures
    (omega arith) (omega arith)).1
