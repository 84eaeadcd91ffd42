use Rattle.std.proofs.Common.{◌∙◌, arith}
use Rattle.std.proofs.lemmas.Int.{ints}
use Rattle.generated_texts.proofs.DrawSteps.{two_draws, three_draws, motion_drawn, wheel_drawn, key_drawn, button_drawn, copy_drawn, as_stored}
use Rattle.generated_texts.proofs.draws.Draws.event.Goals as goal

pub returns-in-0-to-3-clause-event : goal.returns-in-0-to-3-clause-event
returns-in-0-to-3-clause-event c =
    motion_drawn c.args.self.now.state c.draw.result c.draw.new.self.state
    c.distance-dx.new.self.state _ _
    c.draw.ensures.drawn (omega arith) c.draw.ensures.state
    (as_stored c.distance-dx.result c.distance-dx.ensures.in_range.0
    c.distance-dx.ensures.in_range.1 ∙ c.distance-dx.ensures.drawn)
    c.distance-dx.ensures.state
    (as_stored c.distance-dy.result (omega (arith, ints)) (omega (arith, ints))
    ∙ c.distance-dy.ensures.drawn)

pub returns-in-0-to-3-clause-state : goal.returns-in-0-to-3-clause-state
returns-in-0-to-3-clause-state c =
    three_draws c.args.self.now.state _ _ _ c.draw.ensures.state c.distance-dx.ensures.state
    c.distance-dy.ensures.state

pub returns-in-4-clause-event : goal.returns-in-4-clause-event
returns-in-4-clause-event c =
    wheel_drawn c.args.self.now.state c.draw.result c.draw.ensures.drawn c.in-4.is

pub returns-in-5-clause-event : goal.returns-in-5-clause-event
returns-in-5-clause-event c =
    key_drawn c.args.self.now.state c.draw.result c.draw.new.self.state c.draw-in-5.result
    c.draw.ensures.drawn c.in-5.is c.draw.ensures.state c.draw-in-5.ensures.drawn

pub returns-in-5-clause-state : goal.returns-in-5-clause-state
returns-in-5-clause-state c =
    two_draws c.args.self.now.state _ _ c.draw.ensures.state c.draw-in-5.ensures.state

pub returns-in-6-clause-event : goal.returns-in-6-clause-event
returns-in-6-clause-event c =
    button_drawn c.args.self.now.state c.draw.result c.draw.new.self.state c.draw-in-6.result
    c.draw.ensures.drawn c.in-6.is c.draw.ensures.state c.draw-in-6.ensures.drawn

pub returns-in-6-clause-state : goal.returns-in-6-clause-state
returns-in-6-clause-state c =
    two_draws c.args.self.now.state _ _ c.draw.ensures.state c.draw-in-6.ensures.state

pub returns-in_default-clause-event : goal.returns-in_default-clause-event
returns-in_default-clause-event c =
    copy_drawn c.args.self.now.state c.draw.result c.draw.new.self.state c.draw-in_default.result
    c.draw.ensures.drawn (omega arith) c.draw.ensures.state c.draw-in_default.ensures.drawn

pub returns-in_default-clause-state : goal.returns-in_default-clause-state
returns-in_default-clause-state c =
    two_draws c.args.self.now.state _ _ c.draw.ensures.state c.draw-in_default.ensures.state
