use Rattle.attentive_acts.specs.Judging.{judged}
use Rattle.attentive_acts.proofs.SingleActs.{follows-at, read-lives}
use Rattle.hub_acts.specs.declared.act.Act.TheVariants as act
use Rattle.attentive_acts.proofs.laws.reads_the_living.Goals as goal

pub returns : goal.returns
returns c = λ j before after serial room answer bytes h.
    read-lives (judged j before).place (judged j before) serial room answer bytes (follows-at j before after (act.Read serial room answer bytes) h)
