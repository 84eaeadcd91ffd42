use Rattle.std.proofs.Common.{ap, ◌∙◌, sym, arith}
use Rattle.std.proofs.lemmas.Result.{err_from_is_err_and}
use Rattle.hotkey_text.specs.Shapes.{actions_at}
use Rattle.hotkey_text.specs.Lists.{behind_of}
use Rattle.hotkey_text.specs.Views.{form_text}
use Rattle.hotkey_text.proofs.ActionLists.{no_action, one_action, behind_more, maybe_sign_shorter}
use Rattle.hotkey_text.proofs.SpelledBrackets.{action_shorter}
use Rattle.hotkey_text.proofs.shapes.behind_actions.Goals as goal

pub returns-in_err-behind : goal.returns-in_err-behind
returns-in_err-behind c =
    let p = err_from_is_err_and c.from_residual.result c.from_residual.ensures.1 in
    rw (p.1, p.2)
    (c.loop-behind.invariant
    ∙ ap behind_of (no_action c.loop-behind.rest.now _ c.in_err-behind.ensures))

pub returns-in-None : goal.returns-in-None
returns-in-None c =
    c.loop-behind.invariant
    ∙ ap behind_of
    (one_action c.loop-behind.rest.now
    (form_text c.in_ok-behind.field-0-0, c.in_ok-behind.behind.now) _ c.in_ok-behind.ensures
    c.in-None.ensures)

pub loop-behind-smaller : goal.loop-behind-smaller
loop-behind-smaller c =
    omega (
      arith,
      action_shorter c.loop-behind.rest.now
          (form_text c.in_ok-behind.field-0-0, c.in_ok-behind.behind.now) c.in_ok-behind.ensures,
      maybe_sign_shorter 44 c.in_ok-behind.behind.now c.in-Some.next.now (sym c.in-Some.ensures),
    )

pub loop-behind-preserved : goal.loop-behind-preserved
loop-behind-preserved c =
    c.loop-behind.invariant
    ∙ ap behind_of
    (one_action c.loop-behind.rest.now
    (form_text c.in_ok-behind.field-0-0, c.in_ok-behind.behind.now) _ c.in_ok-behind.ensures
    c.in-Some.ensures)
    ∙ behind_more (form_text c.in_ok-behind.field-0-0) (actions_at c.in-Some.next.now)
