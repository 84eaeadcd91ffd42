use Rattle.std.proofs.Common.{arith, rules}
use Rattle.std.proofs.lemmas.Int.{ints}
use Rattle.share_base.specs.declared.shape.Side.TheVariants.{Right, Down}
use Rattle.edge_cross.proofs.Edges.{passed, inside_columns, inside_rows}
use Rattle.edge_cross.proofs.Pixels.{along_stored}
use Rattle.edge_cross.proofs.edge.leaves.Goals as goal

pub returns-then-x-shape-2-clause-leaves : goal.returns-then-x-shape-2-clause-leaves
returns-then-x-shape-2-clause-leaves c =
    passed c.args.across Right c.along-p.result c.args.shape.now c.args.x c.args.y
    c.in-Horizontal.is (omega (arith, ints))
    (along_stored c.args.y c.args.shape.now.y c.args.shape.now.h c.along-p.result (search rules)
    (search rules) (search rules) c.along-p.ensures.value)

pub returns-else-x-shape-2-clause-leaves : goal.returns-else-x-shape-2-clause-leaves
returns-else-x-shape-2-clause-leaves c =
    inside_columns c.args.across c.args.shape.now c.args.x c.args.y c.in-Horizontal.is
    (λ h. omega (arith, ints)) (λ h. omega (arith, ints))

pub returns-then-y-shape-2-clause-leaves : goal.returns-then-y-shape-2-clause-leaves
returns-then-y-shape-2-clause-leaves c =
    passed c.args.across Down c.along-p-in-Vertical.result c.args.shape.now c.args.x c.args.y
    c.in-Vertical.is (omega (arith, ints))
    (along_stored c.args.x c.args.shape.now.x c.args.shape.now.w c.along-p-in-Vertical.result
    (search rules) (search rules) (search rules) c.along-p-in-Vertical.ensures.value)

pub returns-else-y-shape-2-clause-leaves : goal.returns-else-y-shape-2-clause-leaves
returns-else-y-shape-2-clause-leaves c =
    inside_rows c.args.across c.args.shape.now c.args.x c.args.y c.in-Vertical.is
    (λ h. omega (arith, ints)) (λ h. omega (arith, ints))
