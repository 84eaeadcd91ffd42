use Rattle.std.proofs.Common.{◌∙◌, ap, ◌++◌}
use Rattle.server_log.specs.LocalText.{local_text}
use Rattle.server_log.proofs.Telling.{tells-applied, tells-grab}
use Rattle.server_log.proofs.primary.Primary.told.Goals as goal

pub returns-in-Grab-clause-ok : goal.returns-in-Grab-clause-ok
returns-in-Grab-clause-ok c = tells-grab _ _ _ _ _ _ _ c.in-Grab.is c.local_grab.ensures.ok

pub returns : goal.returns
returns c = record {
  ok = tells-applied _ _ _ _ _ _ _ c.in_default.not-Grab c.apply_to.ensures.prints (c.reserve.ensures.items ∙ c.clear.ensures.items)
      (c.put_local_lines.ensures ∙ (ap (λ xs. xs ++ local_text c.as_slice.result.now) (c.reserve-2.ensures.items ∙ c.log.view_is) ∙ ap (λ xs. c.args.log.now ++ local_text xs) c.as_slice.ensures.value));
  err = tt;
  log_err = tt;
}
