use Rattle.std.proofs.Common.{refl, ap, ◌∙◌, inl, inr}
use Rattle.script_screen.proofs.TrackSteps.{joins}
use Rattle.script_screen.proofs.track.Track.join.Goals as goal
use Rattle.script_screen.proofs.track.Track.join.Goals.{then-connection-gt1+in_ok-push}
use Rattle.script_screen.proofs.track.Track.join.Goals.{else-connection-gt1}

pub returns-clause-ok : goal.returns-clause-ok
returns-clause-ok c lines h f =
    joins c.args.self.now _ lines c.args.connection h f
    (elim c.if-connection-gt1.branch [
      | then-connection-gt1+in_ok-push w ↦ ap (λ t. t.moment) w.self-is
      | else-connection-gt1 w ↦ ap (λ t. t.moment) w.self-is
    ])
    refl
    (elim c.if-connection-gt1.branch [
      | then-connection-gt1+in_ok-push w ↦
          inl (
            w.if-connection-gt1.true,
            ap (λ t. t.over.items) w.self-is ∙ w.in_ok-push.ensures.items,
          )
      | else-connection-gt1 w ↦
          inr (w.if-connection-gt1.false, ap (λ t. t.over.items) w.self-is)
    ])
