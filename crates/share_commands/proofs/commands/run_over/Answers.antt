use Rattle.std.proofs.Common.{◌≡◌, ℕ, List, refl, sym, subst, ◌∙◌, arith}
use Rattle.share_base.specs.Told.{NotSet}
use Rattle.share_base.specs.Writing.{TakesFront}
use Rattle.share_commands.specs.declared.status.Status.TheVariants as status
use Rattle.share_commands.specs.Commands.{read_fault, too_long}
use Rattle.share_commands.proofs.Runs.{at_first, at_fed, at_next, feed_fits, stops_here, reads_write_fault, finished_open, finished_end, finished_stop, causes_end, causes_stop}
use Rattle.share_commands.proofs.commands.run_over.Goals as goal

no_fault : status.ReadFault ≡ status.WriteFault → ⊥
no_fault same = cc

no_limit : status.InputTooLong ≡ status.WriteFault → ⊥
no_limit same = cc

pub loop-total-init : goal.loop-total-init
loop-total-init g c = record {
  at = at_first (g.C.LineCore.kept c.args.core (g.C.LineCore.way c.args.core)) (g.S.Source.state c.args.input.now) (g.K.Sink.state c.args.out.now) c.requires.kept;
  empty = c.requires.empty;
  goes = c.requires.goes;
  not_ended = c.requires.ended;
  stops = λ some. absurd (omega (arith, some));
  read_faults = refl;
  write_faults = refl;
}

pub returns-in-Failed-clause-reads : goal.returns-in-Failed-clause-reads
returns-in-Failed-clause-reads g c =
    let l = c.loop-total in
    let w = g.C.LineCore.way c.args.core in
    let keeps = g.met.C.LineCore.keeps l.core w in
    finished_open l.invariant.at keeps l.invariant.empty l.invariant.goes c.in-Failed.ensures.reads.gives
    (λ v none. read_fault none refl) (λ messages all same. same) (λ same. no_fault same) (c.finish.ensures w)

pub returns-in-Failed-clause-stops : goal.returns-in-Failed-clause-stops
returns-in-Failed-clause-stops g c =
    let l = c.loop-total in
    let w = g.C.LineCore.way c.args.core in
    let keeps = g.met.C.LineCore.keeps l.core w in
    stops_here l.invariant.at keeps l.invariant.goes l.invariant.not_ended c.loop-total-test.true c.read.ensures.reads.left_before c.read.ensures.reads.ended_before

pub returns-in-End-clause-reads : goal.returns-in-End-clause-reads
returns-in-End-clause-reads g c =
    let l = c.loop-total in
    let w = g.C.LineCore.way c.args.core in
    let keeps = g.met.C.LineCore.keeps l.core w in
    finished_end l.invariant.at keeps l.invariant.empty c.loop-total-test.true c.in-End.ensures.reads
    (c.status_at_end-end.ensures w) (c.finish-in-End.ensures w)

pub returns-in-End-clause-stops : goal.returns-in-End-clause-stops
returns-in-End-clause-stops g c =
    let l = c.loop-total in
    let w = g.C.LineCore.way c.args.core in
    let keeps = g.met.C.LineCore.keeps l.core w in
    stops_here l.invariant.at keeps l.invariant.goes l.invariant.not_ended c.loop-total-test.true c.read.ensures.reads.left_before c.read.ensures.reads.ended_before

pub returns-in-End-clause-causes : goal.returns-in-End-clause-causes
returns-in-End-clause-causes g c =
    let l = c.loop-total in
    let w = g.C.LineCore.way c.args.core in
    causes_end (g.S.Source.state c.read.new.input) l.invariant.at (c.status_at_end-end.ensures w) (c.in-End.ensures.reads.counts ∙ l.invariant.read_faults) l.invariant.write_faults (c.finish-in-End.ensures w)

pub feed-requires-clause-fits : goal.feed-requires-clause-fits
feed-requires-clause-fits g c =
    let l = c.loop-total in
    let w = g.C.LineCore.way c.args.core in
    let keeps = g.met.C.LineCore.keeps l.core w in
    feed_fits _ _ l.invariant.at keeps c.loop-total-test.true (omega (arith, c.min-counted.ensures))

pub returns-then-not-write_all-clause-reads : goal.returns-then-not-write_all-clause-reads
returns-then-not-write_all-clause-reads g c =
    let l = c.loop-total in
    let w = g.C.LineCore.way c.args.core in
    let fed = at_fed l.invariant.at c.in-Got.ensures.reads (omega (arith, c.in-Got.ensures.fits, c.read.auto.buf)) c.loop-total-test.true c.min-counted.ensures c.read.ensures.bytes (c.feed.ensures w) in
    let keeps = g.met.C.LineCore.keeps c.feed.new.self w in
    reads_write_fault fed keeps
    (subst (λ (t : List ℕ). TakesFront t (g.K.Sink.state l.out).taken (g.K.Sink.state c.write_all.new.out).taken) c.printed.ensures c.if-not-write_all.ensures.taken)

pub returns-then-not-write_all-clause-stops : goal.returns-then-not-write_all-clause-stops
returns-then-not-write_all-clause-stops g c =
    let l = c.loop-total in
    let w = g.C.LineCore.way c.args.core in
    let keeps = g.met.C.LineCore.keeps l.core w in
    stops_here l.invariant.at keeps l.invariant.goes l.invariant.not_ended c.loop-total-test.true c.read.ensures.reads.left_before c.read.ensures.reads.ended_before

pub returns-in-Some-clause-reads : goal.returns-in-Some-clause-reads
returns-in-Some-clause-reads g c =
    let l = c.loop-total in
    let w = g.C.LineCore.way c.args.core in
    let next = at_next l.invariant.at c.in-Got.ensures.reads (omega (arith, c.in-Got.ensures.fits, c.read.auto.buf)) c.loop-total-test.true c.min-counted.ensures c.read.ensures.bytes (c.feed.ensures w) c.if-not-write_all.ensures.taken c.printed.ensures (c.clear_printed.ensures.clears w) in
    let keeps = g.met.C.LineCore.keeps c.clear_printed.new.self w in
    finished_stop next keeps c.clear_printed.ensures.empty c.in-Some.ensures (c.finish-in-Some.ensures w)

pub returns-in-Some-clause-stops : goal.returns-in-Some-clause-stops
returns-in-Some-clause-stops g c =
    let l = c.loop-total in
    let w = g.C.LineCore.way c.args.core in
    let keeps = g.met.C.LineCore.keeps l.core w in
    stops_here l.invariant.at keeps l.invariant.goes l.invariant.not_ended c.loop-total-test.true c.read.ensures.reads.left_before c.read.ensures.reads.ended_before

pub returns-in-Some-clause-causes : goal.returns-in-Some-clause-causes
returns-in-Some-clause-causes g c =
    let l = c.loop-total in
    let w = g.C.LineCore.way c.args.core in
    let next = at_next l.invariant.at c.in-Got.ensures.reads (omega (arith, c.in-Got.ensures.fits, c.read.auto.buf)) c.loop-total-test.true c.min-counted.ensures c.read.ensures.bytes (c.feed.ensures w) c.if-not-write_all.ensures.taken c.printed.ensures (c.clear_printed.ensures.clears w) in
    let keeps = g.met.C.LineCore.keeps c.clear_printed.new.self w in
    causes_stop next keeps c.in-Some.ensures
    (c.in-Got.ensures.reads.counts ∙ l.invariant.read_faults) (c.if-not-write_all.ensures.counts ∙ l.invariant.write_faults) (c.finish-in-Some.ensures w)

pub loop-total-preserved : goal.loop-total-preserved
loop-total-preserved g c =
    let l = c.loop-total in
    let w = g.C.LineCore.way c.args.core in
    let next = at_next l.invariant.at c.in-Got.ensures.reads (omega (arith, c.in-Got.ensures.fits, c.read.auto.buf)) c.loop-total-test.true c.min-counted.ensures c.read.ensures.bytes (c.feed.ensures w) c.if-not-write_all.ensures.taken c.printed.ensures (c.clear_printed.ensures.clears w) in
    let keeps = g.met.C.LineCore.keeps l.core w in
    record {
      at = next;
      empty = c.clear_printed.ensures.empty;
      goes = sym c.in-None.ensures;
      not_ended = subst NotSet (sym c.in-Got.ensures.reads.ends) l.invariant.not_ended;
      stops = λ some. stops_here l.invariant.at keeps l.invariant.goes l.invariant.not_ended c.loop-total-test.true c.read.ensures.reads.left_before c.read.ensures.reads.ended_before;
      read_faults = c.in-Got.ensures.reads.counts ∙ l.invariant.read_faults;
      write_faults = c.if-not-write_all.ensures.counts ∙ l.invariant.write_faults;
    }

pub returns-clause-reads : goal.returns-clause-reads
returns-clause-reads g c =
    let l = c.loop-total in
    let w = g.C.LineCore.way c.args.core in
    let keeps = g.met.C.LineCore.keeps l.core w in
    finished_open l.invariant.at keeps l.invariant.empty l.invariant.goes refl
    (λ v none. too_long none refl (omega (arith, c.loop-total-test.false, l.invariant.at.total_is))) (λ messages all same. same) (λ same. no_limit same) (c.finish-2.ensures w)
