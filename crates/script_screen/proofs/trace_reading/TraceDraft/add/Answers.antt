use Rattle.std.proofs.Common.{◌≡◌, List, [], ◌∷◌, ◌++◌, ap, sym, ◌∙◌, subst}
use Rattle.std.specs.Prelude.{None}
use Rattle.script_screen.specs.declared.trace.TraceLine.{TraceLine}
use Rattle.script_screen.specs.Traces.{trace_fault, BeginsWithTurn}
use Rattle.script_screen.specs.Tracking.{IsTracedBy}
use Rattle.script_screen.proofs.TraceSteps.{traced_more}
use Rattle.script_screen.proofs.trace_reading.TraceDraft.add.Goals as goal

pub invariant_of-self-2 : goal.invariant_of-self-2
invariant_of-self-2 c =
    let lines = c.self.inside.lines.items in
    let items : c.push_reserved.new.self.items ≡ lines ++ c.args.line ∷ [] =
    c.push_reserved.ensures.items
    ∙ ap (λ (xs : List TraceLine). xs ++ c.args.line ∷ []) c.reserve.ensures.items in
    let good : trace_fault lines c.args.line ≡ None =
    sym (c.fault.ensures lines c.self.invariant.track_is) ∙ c.in_default.is in
    subst (IsTracedBy c.follow.new.self) (sym items)
    (traced_more c.self.inside.track c.follow.new.self lines c.args.line c.self.invariant
    c.requires.sound good
    (subst (λ (xs : List TraceLine). BeginsWithTurn (xs ++ c.args.line ∷ [])) (sym c.self.view_is)
    c.requires.placed)
    (c.in_ok-follow.ensures.ok lines c.self.invariant.track_is good))
