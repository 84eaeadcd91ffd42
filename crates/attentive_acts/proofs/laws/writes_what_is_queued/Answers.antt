use Rattle.attentive_acts.specs.Judging.{judged}
use Rattle.attentive_acts.proofs.SingleActs.{follows-at, write-queued}
use Rattle.hub_acts.specs.declared.act.Act.TheVariants as act
use Rattle.attentive_acts.proofs.laws.writes_what_is_queued.Goals as goal

pub returns : goal.returns
returns c = λ j before after serial bytes answer h.
    write-queued (judged j before).place (judged j before) serial bytes answer (follows-at j before after (act.Write serial bytes answer) h)
