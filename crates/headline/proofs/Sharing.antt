-- The headline: over attentive acts all of it holds.
use Rattle.reached_states.proofs.Promises.{held-where-reached}
use Rattle.headline.specs.Moments.{state_over}
use Rattle.headline.specs.Sharing.{SharedByAttention}
use Rattle.headline.proofs.Moments.{Moment, moments, moment-reached}
use Rattle.headline.proofs.Taking.{takes-in-order, takes-all}
use Rattle.headline.proofs.OneTarget.{each-goes-one-way}

pub shared-by-attention : SharedByAttention
shared-by-attention o turns closings sound buttons w = record {
  prefix = takes-in-order o turns closings w;
  all_taken = takes-all o turns closings w;
  one_target = each-goes-one-way o turns closings w;
  others_hold_nothing = λ before after e.
      let m : Moment o before = moments o turns closings w before after e in
      held-where-reached o _ (state_over o before) (moment-reached o before m) sound buttons;
}
