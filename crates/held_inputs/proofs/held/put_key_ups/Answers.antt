use Rattle.std.proofs.Common.{◌≡◌, ap, arith, add-one}
use Rattle.std.proofs.lemmas.Grind.{common_steps}
use Rattle.held_inputs.specs.Line.{room_of}
use Rattle.held_inputs.proofs.LineRanges.{fit-take}
use Rattle.held_inputs.proofs.held.put_key_ups.Goals as goal

pub loop-key-preserved : goal.loop-key-preserved
loop-key-preserved g c = record {
  printed = grind (arith, common_steps);
  fits =
      rw add-one
      (fit-take _ _ _ c.loop-key-test.true c.loop-key.invariant.fits
      (rw c.up_of.ensures.is at c.up_of.ensures.fits));
  capacity = omega arith;
  bound = let room : room_of c.up_of.result ≡ 19 = ap room_of c.up_of.ensures.is in omega arith;
}
