use Rattle.std.proofs.Common.{Some, None, arith, ◌∙◌}
use Rattle.message_reader.proofs.Stepping.{all_bytes}
use Rattle.share_commands.proofs.Shown.{listing_fed, listing_one, takes_unfed, takes_broken, takes_broken_at, takes_end}
use Rattle.share_commands.proofs.show_core.show_piece.Goals as goal

pub returns-in_err-feed : goal.returns-in_err-feed
returns-in_err-feed c = takes_unfed c.args.reader.now c.feed.new.self c.args.lines.now c.from_residual.result c.args.piece.now c.from_residual.ensures.0 c.in_err-feed.ensures.err (all_bytes c.args.piece.now (λ i. omega (arith, c.type_inv.piece i)))

pub loop-bad-init : goal.loop-bad-init
loop-bad-init c = record {
  role = c.in_ok-feed.ensures.ok.role;
  shows = listing_fed c.args.reader.now c.feed.new.self c.args.lines.now c.args.piece.now c.in_ok-feed.ensures.ok;
}

pub returns-in_err-next : goal.returns-in_err-next
returns-in_err-next c =
    let l = c.loop-bad in
    takes_broken c.args.reader.now l.reader c.next.new.self c.args.lines.now l.lines c.from_residual-in_err-next.result c.args.piece.now c.from_residual-in_err-next.ensures.0 l.invariant.role c.in_err-next.ensures.err l.invariant.shows

pub returns-in-More : goal.returns-in-More
returns-in-More c =
    let l = c.loop-bad in
    takes_end c.args.reader.now l.reader c.next.new.self c.args.lines.now l.lines None c.args.piece.now l.invariant.role (rw c.in-More.is at c.in_ok-next.ensures.gives) l.invariant.shows

pub returns-in-Bad : goal.returns-in-Bad
returns-in-Bad c =
    let l = c.loop-bad in
    takes_end c.args.reader.now l.reader c.next.new.self c.args.lines.now l.lines (Some c.in-Bad.bad) c.args.piece.now l.invariant.role (rw c.in-Bad.is at c.in_ok-next.ensures.gives) l.invariant.shows

pub loop-bad-preserved : goal.loop-bad-preserved
loop-bad-preserved c =
    let l = c.loop-bad in
    let gives = rw c.in-Message.is at c.in_ok-next.ensures.gives in record {
      role = gives.role ∙ l.invariant.role;
      shows = listing_one c.args.reader.now l.reader c.next.new.self c.args.lines.now l.lines c.put_shown.new.lines c.args.piece.now c.in-Message.place c.in-Message.msg l.invariant.shows gives c.in_ok-put_shown-in-Message.ensures.ok;
    }

pub returns-in_err-put_shown-in-Message : goal.returns-in_err-put_shown-in-Message
returns-in_err-put_shown-in-Message c =
    let l = c.loop-bad in
    takes_broken_at c.args.reader.now l.reader c.next.new.self c.args.lines.now l.lines c.put_shown.new.lines c.from_residual-in_err-put_shown-in-Message.result c.args.piece.now c.in-Message.place c.in-Message.msg c.from_residual-in_err-put_shown-in-Message.ensures.0 l.invariant.role
    (rw c.in-Message.is at c.in_ok-next.ensures.gives) c.in_err-put_shown-in-Message.ensures.err l.invariant.shows
