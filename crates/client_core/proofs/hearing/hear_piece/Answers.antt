use Rattle.std.proofs.Common.{Some, None, arith, ◌∙◌}
use Rattle.client_core.proofs.Streams.{hearing_fed, hearing_one, takes_unfed, takes_broken, takes_broken_at, takes_end, takes_stop}
use Rattle.client_core.proofs.hearing.hear_piece.Goals as goal

pub returns-in_err-feed-clause-takes : goal.returns-in_err-feed-clause-takes
returns-in_err-feed-clause-takes c = rw c.in_err-feed.ensures.err (takes_unfed c.args.reader.now c.args.hearer.now c.from_residual.result c.args.piece.now c.from_residual.ensures.0)

pub loop-place-init : goal.loop-place-init
loop-place-init c = record {
  role = c.in_ok-feed.ensures.ok.role;
  hears = hearing_fed c.args.reader.now c.feed.new.self c.args.hearer.now c.args.piece.now c.in_ok-feed.ensures.ok;
  total = let t = c.in_ok-feed.ensures.ok.total in omega arith;
}

pub returns-in_err-next-clause-takes : goal.returns-in_err-next-clause-takes
returns-in_err-next-clause-takes c =
    let l = c.loop-place in
    rw c.in_err-next.ensures.err (takes_broken c.args.reader.now l.reader c.args.hearer.now l.hearer c.from_residual-in_err-next.result c.args.piece.now c.from_residual-in_err-next.ensures.0 l.invariant.hears)

pub returns-in-More-clause-takes : goal.returns-in-More-clause-takes
returns-in-More-clause-takes c =
    let l = c.loop-place in
    takes_end c.args.reader.now l.reader c.next.new.self c.args.hearer.now l.hearer None c.args.piece.now (rw c.in-More.is at c.in_ok-next.ensures.gives) l.invariant.hears

pub returns-in-Bad-clause-takes : goal.returns-in-Bad-clause-takes
returns-in-Bad-clause-takes c =
    let l = c.loop-place in
    takes_end c.args.reader.now l.reader c.next.new.self c.args.hearer.now l.hearer (Some c.in-Bad.field-0) c.args.piece.now (rw c.in-Bad.is at c.in_ok-next.ensures.gives) l.invariant.hears

pub returns-in_err-end-in-Message-clause-takes : goal.returns-in_err-end-in-Message-clause-takes
returns-in_err-end-in-Message-clause-takes c =
    let l = c.loop-place in
    takes_broken_at c.args.reader.now l.reader c.next.new.self c.args.hearer.now l.hearer c.heed.new.hearer c.from_residual-in_err-end-in-Message.result c.args.piece.now _ c.in-Message.msg c.from_residual-in_err-end-in-Message.ensures.0
    (rw c.in-Message.is at c.in_ok-next.ensures.gives) c.in_err-end-in-Message.ensures.heeds l.invariant.hears

pub returns-in-Some-clause-takes : goal.returns-in-Some-clause-takes
returns-in-Some-clause-takes c =
    let l = c.loop-place in
    takes_stop c.args.reader.now l.reader c.next.new.self c.args.hearer.now l.hearer c.heed.new.hearer c.in-Some.end c.args.piece.now _ c.in-Message.msg
    (rw c.in-Message.is at c.in_ok-next.ensures.gives) (rw c.in-Some.is at c.in_ok-end-in-Message.ensures.heeds) l.invariant.hears

pub loop-place-preserved : goal.loop-place-preserved
loop-place-preserved c =
    let l = c.loop-place in
    let gives = rw c.in-Message.is at c.in_ok-next.ensures.gives in record {
      role = gives.role ∙ l.invariant.role;
      hears = hearing_one c.args.reader.now l.reader c.next.new.self c.args.hearer.now l.hearer c.heed.new.hearer c.args.piece.now _ c.in-Message.msg l.invariant.hears gives (rw c.in_default.is at c.in_ok-end-in-Message.ensures.heeds);
      total = let t = l.invariant.total in omega (arith, c.in_ok-next.ensures.total);
    }
