use Rattle.std.proofs.Common.{ℕ, List, Option, sym, ◌∙◌, ap, arith}
use Rattle.script_screen.specs.declared.kinds.TextKind.TheVariants as kind
use Rattle.script_screen.specs.Grammar.{or_kind}
use Rattle.script_screen.specs.Hex.{pairs_of}
use Rattle.script_screen.proofs.PairSteps.{pair_taken, pair_refused, pairs_done, digit_left}
use Rattle.script_screen.proofs.arguments.pairs.Goals as goal

pub returns-in_default-after : goal.returns-in_default-after
returns-in_default-after c =
    ap (λ (o : Option (List ℕ)). or_kind o kind.BadHex)
    (digit_left (pairs_of c.args.digits.now) c.loop-rest.bytes c.loop-rest.rest.now
    c.loop-rest.invariant (omega arith) (omega arith))

pub returns-in_default-pair : goal.returns-in_default-pair
returns-in_default-pair c =
    ap (λ (o : Option (List ℕ)). or_kind o kind.BadHex)
    (pair_refused (pairs_of c.args.digits.now) c.loop-rest.bytes c.loop-rest.rest.now
    c.loop-rest.invariant (omega arith) (omega arith)
    (sym c.pair.ensures ∙ c.in_default-pair.is))

pub loop-rest-preserved : goal.loop-rest-preserved
loop-rest-preserved c =
    pair_taken (pairs_of c.args.digits.now) c.loop-rest.bytes c.push.new.self c.loop-rest.rest.now
    c.in-Some.byte c.loop-rest.invariant (omega arith) (omega arith)
    (sym c.pair.ensures ∙ c.in-Some.is) c.in_ok-push.ensures.ok

pub returns : goal.returns
returns c =
    ap (λ (o : Option (List ℕ)). or_kind o kind.BadHex)
    (pairs_done (pairs_of c.args.digits.now) c.loop-rest.bytes c.loop-rest.rest.now
    c.loop-rest.invariant (omega arith))
