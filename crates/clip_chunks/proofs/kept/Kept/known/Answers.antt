use Rattle.std.proofs.Common.{refl}
use Rattle.clip_chunks.proofs.Screens.{taken_out}
use Rattle.clip_chunks.proofs.kept.Kept.known.Goals as goal

pub returns : goal.returns
returns c = λ screens is. record {
  owner = refl;
  seq = refl;
  bytes = refl;
  dirty = taken_out c.args.joined.now c.remove.new.self c.args.owner.0 screens is c.remove.ensures;
}
