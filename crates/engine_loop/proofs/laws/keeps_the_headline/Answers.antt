use Rattle.engine_loop.proofs.Headline.{keeps-headline}
use Rattle.engine_loop.proofs.laws.keeps_the_headline.Goals as goal

pub returns : goal.returns
returns g c = λ o turns end core hub hub_after sink sink_after r sound buttons.
    keeps-headline o end turns r.run r.leaves r.judge sound buttons r.answered r.attentive r.judges r.leave r.cause
