use Rattle.client_core.specs.Happenings.{joining}
use Rattle.client_loop.proofs.Joinings.{is-new, stands-new}
use Rattle.client_loop.proofs.joining.attend_new.Goals as goal

pub attend-requires-clause-starts : goal.attend-requires-clause-starts
attend-requires-clause-starts g c = (
  joining c.args.name c.args.w c.args.h c.args.script c.args.now,
  is-new c.args.name c.args.w c.args.h c.args.script c.args.now,
  stands-new c.new-core.result c.args.name c.args.w c.args.h c.args.script c.args.now c.new-core.ensures.stands,
)

pub returns : goal.returns
returns g c = c.attend.ensures (joining c.args.name c.args.w c.args.h c.args.script c.args.now) (is-new c.args.name c.args.w c.args.h c.args.script c.args.now) (stands-new c.new-core.result c.args.name c.args.w c.args.h c.args.script c.args.now c.new-core.ensures.stands)
