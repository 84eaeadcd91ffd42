use Rattle.std.proofs.Common.{ℕ, List, ◌++◌, refl, ap, ◌∙◌}
use Rattle.held_inputs.specs.Line.{line_of}
use Rattle.held_inputs.specs.declared.line.Line.TheVariants as line
use Rattle.clip_chunks.specs.Parts.{part}
use Rattle.client_core.proofs.Screens.{shows-part-some}
use Rattle.client_core.proofs.printer.Printer.hear_part.Goals as goal

pub returns-in-Some-clause-ok : goal.returns-in-Some-clause-ok
returns-in-Some-clause-ok c =
    shows-part-some c.args.self.now (record { injector = c.args.self.now.injector; clips = c.take.new.self; lines = c.put_line.new.lines }) (part c.args.mark c.args.clip c.args.seq c.args.bytes.now) c.in_ok-bytes.field-0 c.in-Some.bytes c.in-Some.is refl c.in_ok-bytes.ensures.brings
    (c.put_line.ensures.printed ∙ ap (λ (t : List ℕ). t ++ line_of (line.Clip c.args.clip c.in-Some.bytes)) c.reserve.ensures.items)
