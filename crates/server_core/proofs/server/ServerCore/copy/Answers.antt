use Rattle.std.proofs.Common.{ap, ◌∙◌}
use Rattle.option_table.specs.declared.rows.OptionName.TheVariants as option
use Rattle.screen_config.specs.declared.globals.Globals.{Globals}
use Rattle.screen_config.specs.Configurations.{Configuration}
use Rattle.screen_config.specs.Globals.{flag}
use Rattle.machine.specs.Clipboards.{is_sharing}
use Rattle.server_core.specs.Leading.{Reads}
use Rattle.server_core.proofs.Copies.{sure, copy-kept, copy-published}
use Rattle.server_core.proofs.server.ServerCore.copy.Goals as goal

pub returns : goal.returns
returns c =
    let reads : Reads c.args.self.now c.globals.result.clipboard_sharing is_sharing = λ b s h. ap (λ (g : Globals). g.clipboard_sharing) c.globals.ensures.values ∙ ap (λ (f : Configuration). flag f.settings option.ClipboardSharing) h.config in
    let counts = c.in_ok-counts.ensures.counts in
    let keeps = copy-kept c.args.self.now c.args.clip c.args.bytes.now c.joined_screens-joined.result c.copied.new.self c.in_ok-counts.counts counts c.if-not-counts.false c.joined_screens-joined.ensures c.in_ok-counts.ensures.follows in
    copy-published c.args.self.now (record c.args.self.now { clips = c.copied.new.self }) c.tell_joined.new.self c.refresh.new.self c.args.clip c.args.bytes.now c.globals.result.clipboard_sharing c.in_ok-counts.counts reads (sure c.globals.result.clipboard_sharing c.if-not-globals.false) counts c.if-not-counts.false keeps c.in_ok-tell_joined.ensures c.in_ok-refresh.ensures
