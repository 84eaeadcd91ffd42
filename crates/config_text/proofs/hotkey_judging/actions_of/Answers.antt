use Rattle.std.proofs.Common.{Vec, Global, List, sym, ◌∙◌, ap}
use Rattle.std.proofs.lemmas.Result.{err_from_is_err_and}
use Rattle.hotkey_rules.specs.declared.action.Action.{Action}
use Rattle.hotkey_text.specs.Views.{form_text, list_text}
use Rattle.config_text.specs.Hotkeys.{action_of, actions_of}
use Rattle.config_text.proofs.ActionRuns.{before, one_more, one_refused, none_left, none_read}
use Rattle.config_text.proofs.ActionRuns.{actions_spelled, has_screens, fault_kept}
use Rattle.config_text.proofs.hotkey_judging.actions_of.Goals as goal

pub loop-form-init : goal.loop-form-init
loop-form-init c =
    none_read c.args.config.now (list_text c.args.list)
    ∙ ap
    (λ (front : List Action).
    before front (actions_of c.args.config.now (list_text c.args.list)))
    (sym c.new-actions.ensures.items)

pub loop-form-preserved : goal.loop-form-preserved
loop-form-preserved c =
    c.loop-form.invariant
    ∙ one_more c.args.config.now c.loop-form.actions.items c.push.new.actions.items
    (form_text c.in-Some.form) (list_text c.in-Some.after) (list_text c.loop-form.rest)
    c.in_ok-action.action
    c.in-Some.ensures c.in_ok-action.ensures c.in_ok-push.ensures

pub returns-in_err-action : goal.returns-in_err-action
returns-in_err-action c =
    let p = err_from_is_err_and c.from_residual.result c.from_residual.ensures.1 in
    rw (p.1, p.2) (record {
      judged =
          fault_kept c.in_err-action.field-0.0 (λ (x : Action). x)
          (λ (v : Vec Action Global). v.items)
          (action_of c.args.config.now (form_text c.in-Some.form))
          (actions_of c.args.config.now (list_text c.args.list))
          (λ f refused. c.loop-form.invariant
          ∙ one_refused c.args.config.now c.loop-form.actions.items (form_text c.in-Some.form)
          (list_text c.in-Some.after) (list_text c.loop-form.rest) f c.in-Some.ensures
          refused)
          c.in_err-action.ensures;
      spelled = tt;
    })

pub returns : goal.returns
returns c =
    let all =
    c.loop-form.invariant
    ∙ none_left c.args.config.now c.loop-form.actions.items (list_text c.loop-form.rest)
    c.in_default.ensures in
    record {
      judged = all;
      spelled =
          actions_spelled c.args.config.now (list_text c.args.list) c.loop-form.actions.items
          (has_screens c.args.config.now c.assure_sound.ensures) all;
    }
