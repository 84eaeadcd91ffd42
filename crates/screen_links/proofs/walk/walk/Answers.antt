use Rattle.std.proofs.Common.{rules, ◌≡◌, ◌∙◌, ◌||◌, ◌↔◌, Bool, Some, eqb, ap, sym, subst}
use Rattle.screen_links.specs.declared.link.Landing.{Landing}
use Rattle.screen_links.specs.Walks.{Across}
use Rattle.screen_links.proofs.Onward.{Left, left_none, left_more, ends_stuck, ends_seen}
use Rattle.screen_links.proofs.Onward.{ends_there}
use Rattle.screen_links.proofs.Seen.{unseen_lt}
use Rattle.screen_links.proofs.walk.walk.Goals as goal

pub loop-link-init : goal.loop-link-init
loop-link-init c =
    left_none c.args.links.now c.args.joined.now c.args.side c.args.from c.insert.new.self
    (λ k. c.insert.ensures k
    ∙ ap (λ (b : Bool). b || eqb k c.args.from.screen.0) (c.new-seen.ensures k))

pub returns-then-has-clause-walks : goal.returns-then-has-clause-walks
returns-then-has-clause-walks c =
    ends_seen c.args.links.now c.args.joined.now c.args.side c.args.from c.loop-link.seen
    c.loop-link.at c.in-Some.link c.requires.sound.apart c.in-Some.ensures.found.0
    c.in-Some.ensures.found.1 (sym c.has.ensures ∙ c.if-has.true) c.loop-link.invariant

pub returns-then-has-2-clause-walks : goal.returns-then-has-2-clause-walks
returns-then-has-2-clause-walks c =
    subst
    (λ (l : Landing). (landing : Landing)
    → (Some l ≡ Some landing)
    ↔ Across c.args.links.now c.args.joined.now c.args.side c.args.from landing)
    (sym c.landing-at.ensures.lands)
    (ends_there c.args.links.now c.args.joined.now c.args.side c.args.from c.loop-link.seen
    c.loop-link.at c.in-Some.link c.requires.sound.apart c.in-Some.ensures.found.0
    c.in-Some.ensures.found.1 (sym c.has.ensures ∙ c.if-has.false)
    (sym c.has-in-Some.ensures ∙ c.if-has-2.true) c.loop-link.invariant)

pub loop-link-smaller : goal.loop-link-smaller
loop-link-smaller c =
    unseen_lt c.loop-link.seen c.insert-in-Some.new.self c.in-Some.link.to.0 64
    c.insert-in-Some.ensures (sym c.has.ensures ∙ c.if-has.false) (search rules)

pub loop-link-preserved : goal.loop-link-preserved
loop-link-preserved c =
    subst
    (λ (l : Landing).
    Left c.args.links.now c.args.joined.now c.args.side c.args.from
    c.insert-in-Some.new.self l)
    (sym c.landing-at.ensures.lands)
    (left_more c.args.links.now c.args.joined.now c.args.side c.args.from c.loop-link.seen
    c.insert-in-Some.new.self c.loop-link.at c.in-Some.link c.requires.sound.apart
    c.in-Some.ensures.found.0 c.in-Some.ensures.found.1 (sym c.has.ensures ∙ c.if-has.false)
    (sym c.has-in-Some.ensures ∙ c.if-has-2.false) c.insert-in-Some.ensures
    c.loop-link.invariant)

pub returns-clause-walks : goal.returns-clause-walks
returns-clause-walks c =
    ends_stuck c.args.links.now c.args.joined.now c.args.side c.args.from c.loop-link.seen
    c.loop-link.at c.in_default.ensures.none c.loop-link.invariant
