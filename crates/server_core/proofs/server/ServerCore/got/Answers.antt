use Rattle.std.specs.Prelude.{◌^◌, length}
use Rattle.std.proofs.Common.{arith, sym, ◌∙◌, subst}
use Rattle.machine.specs.Combining.{for_each}
use Rattle.machine.specs.Hearing.{hear}
use Rattle.machine.specs.Steps as steps
use Rattle.server_core.specs.Leading.{Leads}
use Rattle.server_core.proofs.Besides.{only_live}
use Rattle.server_core.proofs.Taken.{found_serial}
use Rattle.server_core.proofs.Received.{may-read, came, none-off, parting-off, serves-still, serves-came, told-less, grows-came}
use Rattle.server_core.proofs.server.ServerCore.got.Goals as goal

pub returns-in_default-clause-serves : goal.returns-in_default-clause-serves
returns-in_default-clause-serves c = λ front s h. serves-still front c.args.self.now s c.args.serial c.args.piece.now (none-off h.beside c.args.self.now s c.args.serial c.in_default.ensures h.stands) h

pub returns-in_default-clause-grows : goal.returns-in_default-clause-grows
returns-in_default-clause-grows c = λ front s h n. omega arith

pub returns-then-not-is_live-clause-serves : goal.returns-then-not-is_live-clause-serves
returns-then-not-is_live-clause-serves c = λ front s h. serves-still front c.args.self.now s c.args.serial c.args.piece.now (parting-off h.beside c.args.self.now s c.args.serial c.in-Some.connection.now c.in-Some.ensures (sym c.is_live.ensures ∙ c.if-not-is_live.true) h.stands) h

pub returns-then-not-is_live-clause-grows : goal.returns-then-not-is_live-clause-grows
returns-then-not-is_live-clause-grows c = λ front s h n. omega arith

pub read-requires : goal.read-requires
read-requires c = may-read c.args.self.now c.args.serial (length c.args.piece.now) (2 ^ 63) c.in-Some.connection.now c.in-Some.ensures (sym c.is_live.ensures ∙ c.if-not-is_live.false) c.requires

pub returns-clause-serves : goal.returns-clause-serves
returns-clause-serves c = λ front s h.
    let k = c.in-Some.connection.now in
    let hears = subst (λ ms. Leads (record c.args.self.now { table = c.read.new.self }) c.hear_all.new.self (for_each ms (hear c.args.serial))) c.as_slice.ensures.value c.in_ok-hear_all.ensures in
    serves-came front h.beside c.judge.new.self (steps.got c.args.serial c.args.piece.now s) c.args.serial c.args.piece.now h.front_is
    (came h.beside c.args.self.now c.hear_all.new.self c.judge.new.self s c.args.serial c.args.piece.now c.in_ok-reading.reading k c.read.new.self c.in-Some.ensures
    (found_serial c.args.serial c.args.self.now.table k (sym c.in-Some.ensures)) (sym c.is_live.ensures ∙ c.if-not-is_live.false) c.in_ok-reading.ensures hears c.in_ok-judge.ensures h.rests h.stands)

pub returns-clause-grows : goal.returns-clause-grows
returns-clause-grows c = λ front s h n.
    let k = c.in-Some.connection.now in
    let hears = subst (λ ms. Leads (record c.args.self.now { table = c.read.new.self }) c.hear_all.new.self (for_each ms (hear c.args.serial))) c.as_slice.ensures.value c.in_ok-hear_all.ensures in
    let less = told-less front c.args.self.now s h in
    grows-came h.beside c.args.self.now c.judge.new.self s (steps.got c.args.serial c.args.piece.now s) c.args.serial c.args.piece.now h.stands
    (came (only_live s h.beside) c.args.self.now c.hear_all.new.self c.judge.new.self s c.args.serial c.args.piece.now c.in_ok-reading.reading k c.read.new.self c.in-Some.ensures
    (found_serial c.args.serial c.args.self.now.table k (sym c.in-Some.ensures)) (sym c.is_live.ensures ∙ c.if-not-is_live.false) c.in_ok-reading.ensures hears c.in_ok-judge.ensures less.0 less.1) n
