use Rattle.std.specs.Prelude.{refl, Some, None}
use Rattle.connection_table.proofs.Readings.{brings}
use Rattle.connection_table.proofs.reading.read_piece.Goals as goal

pub returns-in-More : goal.returns-in-More
returns-in-More c =
    let l = c.loop-messages in
    brings c.args.piece.now (record { messages = l.messages; bad = None }) c.args.reader.now l.reader c.next.new.self None refl l.invariant.role l.invariant.gives (rw c.in-More.is at c.in_ok-next.ensures.gives)

pub returns-in-Bad : goal.returns-in-Bad
returns-in-Bad c =
    let l = c.loop-messages in
    brings c.args.piece.now (record { messages = l.messages; bad = Some c.in-Bad.bad }) c.args.reader.now l.reader c.next.new.self (Some c.in-Bad.bad) refl l.invariant.role l.invariant.gives (rw c.in-Bad.is at c.in_ok-next.ensures.gives)
