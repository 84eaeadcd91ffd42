use Rattle.std.proofs.Common.{◌∙◌, ap, ◌+◌, ◌≡◌, Bool, true, false}
use Rattle.send_queue.specs.declared.queue.SendQueue.TheInside.{Inside}
use Rattle.send_queue.proofs.Standing.{push-refused, push-queued}
use Rattle.send_queue.proofs.queue.SendQueue.push.Goals as goal
use Rattle.send_queue.proofs.queue.SendQueue.push.Goals.{then-not-self+in_ok-append_frame, else-not-self}

not_both : (b : Bool) → b ≡ true → b ≡ false → ⊥
not_both b h k = cc

pub returns-then-not-has_room-clause-ok : goal.returns-then-not-has_room-clause-ok
returns-then-not-has_room-clause-ok c = push-refused _ _ _ _ _ c.self.view_is c.body_len-size.ensures c.has_room.ensures.is c.if-not-has_room.true

pub returns-clause-ok : goal.returns-clause-ok
returns-clause-ok c = elim c.if-not-self.branch [
  | then-not-self+in_ok-append_frame w ↦ push-queued _ _ _ _ _ _ c.self.view_is c.body_len-size.ensures c.has_room.ensures.is c.if-not-has_room.false c.self.invariant
      (λ d. ap (λ (i : Inside). i.untaken.items) w.self-inside-is ∙ w.in_ok-append_frame.ensures.ok)
      (λ d. absurd (not_both c.self.inside.is_discarded d w.if-not-self.true))
      (ap (λ (i : Inside). i.total + (4 + c.body_len-size.result)) w.self-inside-is)
      (ap (λ (i : Inside). i.taken) w.self-inside-is)
      (ap (λ (i : Inside). i.is_slow) w.self-inside-is)
      (ap (λ (i : Inside). i.is_discarded) w.self-inside-is)
  | else-not-self w ↦ push-queued _ _ _ _ _ _ c.self.view_is c.body_len-size.ensures c.has_room.ensures.is c.if-not-has_room.false c.self.invariant
      (λ d. absurd (not_both c.self.inside.is_discarded w.if-not-self.false d))
      (λ d. ap (λ (i : Inside). i.untaken.items) w.self-inside-is)
      (ap (λ (i : Inside). i.total + (4 + c.body_len-size.result)) w.self-inside-is)
      (ap (λ (i : Inside). i.taken) w.self-inside-is)
      (ap (λ (i : Inside). i.is_slow) w.self-inside-is)
      (ap (λ (i : Inside). i.is_discarded) w.self-inside-is)
]
