use Rattle.hotkey_text.specs.Views.{form_text}
use Rattle.hotkey_text.proofs.ActionLists.{rest_formed, first_read, none_read}
use Rattle.hotkey_text.proofs.lists.ActionList.split_first.Goals as goal

pub invariant_of-result : goal.invariant_of-result
invariant_of-result c = record {
  formed =
      rest_formed c.args.self.now.rest c.maybe_sign-rest.result c.in-Some.line
      (form_text c.in-Ok.first, c.in-Ok.behind.now) c.args.self.now.formed c.in-Some.is
      c.in-Ok.ensures c.maybe_sign-rest.ensures;
}

pub returns-in-Err : goal.returns-in-Err
returns-in-Err c = none_read c.args.self.now.rest c.in-Some.line _ c.in-Some.is c.in-Err.ensures

pub returns-in-Ok : goal.returns-in-Ok
returns-in-Ok c =
    first_read c.args.self.now.rest c.maybe_sign-rest.result c.in-Some.line
    (form_text c.in-Ok.first, c.in-Ok.behind.now) c.args.self.now.formed c.in-Some.is
    c.in-Ok.ensures c.maybe_sign-rest.ensures
