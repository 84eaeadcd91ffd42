use Rattle.std.proofs.Common.{◌∙◌, add-one}
use Rattle.std.proofs.Math.Seq.{take-suc}
use Rattle.share_base.specs.declared.shape.Side.TheVariants as side
use Rattle.screen_links.specs.declared.link.Link.{Link}
use Rattle.config_text.proofs.link_table.link_table.Goals as goal

pub loop-link-preserved : goal.loop-link-preserved
loop-link-preserved c =
    let past : Link =
    record {
      from = record { 0 = 0 };
      side = side.Left;
      range = record { a = 0; b = 0 };
      to = record { 0 = 0 };
      onto = record { a = 0; b = 0 };
    }
    in
    record {
      table =
          rw (add-one, take-suc c.args.links.now c.loop-link.link-index past c.loop-link-test.true)
          (c.put_link.ensures.added _ c.loop-link.invariant.table);
      cells = c.put_link.ensures.same_length ∙ c.loop-link.invariant.cells;
    }
