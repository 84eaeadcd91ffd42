use Rattle.std.proofs.Common.{◌≡◌, ◌+◌, true, None, length, drop, refl, sym, ap, subst, ◌∙◌}
use Rattle.share_base.specs.declared.reason.Reason.TheVariants as reason
use Rattle.message_codec.specs.declared.messages.End.{End}
use Rattle.message_codec.specs.Spelling.{Spells}
use Rattle.message_codec.specs.Refusals.{Refuses}
use Rattle.wire_frames.specs.Framers.{FramerParts, moved, raised}
use Rattle.message_reader.specs.ReaderParts.{ReaderParts}
use Rattle.message_reader.specs.Steps.{GivesMessage, GivesNone}
use Rattle.message_reader.proofs.FrontFrames.{same_answer}
use Rattle.message_reader.proofs.Stepping.{IsBadHere, gives_more, gives_again, too_long, refused}
use Rattle.message_reader.proofs.Stepping.{misplaced, refuses, gives_message}
use Rattle.message_reader.proofs.reader.MessageReader.next.Goals as goal

pub returns-in-Some-clause-gives : goal.returns-in-Some-clause-gives
returns-in-Some-clause-gives c =
    gives_again c.args.self.now c.in-Some.bad
    (ap (λ (r : ReaderParts). r.bad) (sym c.self.view_is) ∙ c.in-Some.is)

pub returns-in-More-clause-gives : goal.returns-in-More-clause-gives
returns-in-More-clause-gives c =
    let i = c.self.inside in
    let from : ReaderParts =
    record { role = i.role; total = i.total; begun = i.begun; framer = i.framer; bad = i.bad }
    in
    subst (λ (r : ReaderParts). GivesNone r r None) c.self.view_is
    (gives_more from c.in_default.is c.self.invariant.limited c.in-More.ensures.answers.1)

pub returns-in-TooLong-clause-gives : goal.returns-in-TooLong-clause-gives
returns-in-TooLong-clause-gives c =
    let i = c.self.inside in
    let from : ReaderParts =
    record { role = i.role; total = i.total; begun = i.begun; framer = i.framer; bad = i.bad }
    in
    refuses from c.args.self.now c.refuse.new.self c.refuse.result c.in-TooLong.place reason.TooLong
    c.self.view_is c.in_default.is c.in-TooLong.ensures.answers.0
    (too_long from c.self.invariant.limited c.in-TooLong.ensures.answers.1) c.refuse.ensures.bad
    c.refuse.ensures.step

pub returns-in-Err-Bad-clause-gives : goal.returns-in-Err-Bad-clause-gives
returns-in-Err-Bad-clause-gives c =
    let i = c.self.inside in
    let from : ReaderParts =
    record { role = i.role; total = i.total; begun = i.begun; framer = i.framer; bad = i.bad }
    in
    let frame = c.in-Frame.ensures.answers in
    let wrong : Refuses c.in-Err-Bad.bad c.sender.result c.in-Frame.body.now =
    rw c.in-Err-Bad.field-0-is at c.in-Err-Bad.ensures.bad in
    let fault =
    subst (λ (end : End). Refuses c.in-Err-Bad.bad end c.in-Frame.body.now) c.sender.ensures
    wrong in
    refuses from c.args.self.now c.refuse-in-Err-Bad.new.self c.refuse-in-Err-Bad.result
    c.in-Frame.place c.reason.result c.self.view_is c.in_default.is frame.0
    (subst (IsBadHere from) (sym c.reason.ensures)
    (refused from c.in-Frame.body.now c.in-Err-Bad.bad c.self.invariant.limited frame.2
    fault))
    c.refuse-in-Err-Bad.ensures.bad c.refuse-in-Err-Bad.ensures.step

pub returns-then-not-takes-clause-gives : goal.returns-then-not-takes-clause-gives
returns-then-not-takes-clause-gives c =
    let i = c.self.inside in
    let from : ReaderParts =
    record { role = i.role; total = i.total; begun = i.begun; framer = i.framer; bad = i.bad }
    in
    let frame = c.in-Frame.ensures.answers in
    let spelled =
    subst (λ (end : End). Spells end c.in-Ok.msg c.in-Frame.body.now) c.sender.ensures
    c.in-Ok.ensures.found in
    refuses from c.args.self.now c.refuse-then-not-takes.new.self c.refuse-then-not-takes.result
    c.in-Frame.place reason.State c.self.view_is c.in_default.is frame.0
    (misplaced from c.in-Frame.body.now c.in-Ok.msg c.self.invariant.limited frame.2 spelled
    c.if-not-takes.ensures)
    c.refuse-then-not-takes.ensures.bad c.refuse-then-not-takes.ensures.step

pub returns-else-not-takes-clause-gives : goal.returns-else-not-takes-clause-gives
returns-else-not-takes-clause-gives c =
    let i = c.self.inside in
    let body = c.in-Frame.body.now in
    let from : ReaderParts =
    record { role = i.role; total = i.total; begun = i.begun; framer = i.framer; bad = i.bad }
    in
    let to : ReaderParts =
    record {
      role = i.role;
      total = i.total;
      begun = true;
      framer = c.raise_limit.new.self;
      bad = i.bad;
    }
    in
    let frame = c.in-Frame.ensures.answers in
    let left : c.raise_limit.new.self
    ≡ raised (moved i.framer (4 + length body) (drop (4 + length body) i.framer.rest)) 4194304 =
    c.raise_limit.ensures.raised
    ∙ ap (λ (f : FramerParts). raised f 4194304)
    (c.next.follows.holds-at-none
    ∙ same_answer i.framer c.next.result body c.self.invariant.within frame.2
    c.next.ensures.answers)
    in
    subst (λ (r : ReaderParts). GivesMessage r to c.in-Frame.place c.in-Ok.msg) c.self.view_is
    (gives_message from to c.in-Frame.place c.in-Ok.msg body frame.0 (record {
      none = c.in_default.is;
      limited = c.self.invariant.limited;
      first = frame.2;
      spelled =
          subst (λ (end : End). Spells end c.in-Ok.msg body) c.sender.ensures c.in-Ok.ensures.found;
      taken = λ before begun. sym (c.if-not-takes.ensures before begun);
      role = refl;
      total = refl;
      begun = refl;
      given = ap (λ (f : FramerParts). f.given) left;
      left = ap (λ (f : FramerParts). f.rest) left;
      bad = c.in_default.is;
    }))
