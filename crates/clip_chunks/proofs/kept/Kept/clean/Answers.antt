use Rattle.clip_chunks.proofs.Screens.{taken_out}
use Rattle.clip_chunks.proofs.kept.Kept.clean.Goals as goal

pub returns-clause-changes : goal.returns-clause-changes
returns-clause-changes c = λ clip is. record {
  owner = is.owner;
  seq = is.seq;
  bytes = is.bytes;
  dirty =
      taken_out c.args.self.now.dirty c.remove.new.self c.args.no.0 clip.dirty is.dirty
      c.remove.ensures;
}
