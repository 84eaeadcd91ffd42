use Rattle.std.proofs.Common.{◌≡◌, ℕ, min, ◌∙◌, sym, arith, true, false, get_or, length, ◌-◌, ◌≤◌}
use Rattle.std.proofs.lemmas.List.{length-take}
use Rattle.text_lines.specs.Bytes as bytes
use Rattle.text_lines.proofs.Trims.{trimmed_cut, trimmed_none, trimmed_whole}
use Rattle.text_lines.proofs.lines.trimmed.Goals as goal

pub returns-then-not-is_blank-clause-gives : goal.returns-then-not-is_blank-clause-gives
returns-then-not-is_blank-clause-gives c =
    let solid : bytes.is_blank (get_or c.loop-rest.rest.now (length c.loop-rest.rest.now - 1) 0)
    ≡ false =
    cc in
    sym (trimmed_whole c.loop-rest.rest.now (omega arith) solid) ∙ c.loop-rest.invariant.same

fewer : {a b c : ℕ} → a ≡ min (b - 1) b → b ≤ c → a ≤ c
fewer e h = omega arith

pub loop-rest-preserved : goal.loop-rest-preserved
loop-rest-preserved c =
    let blank : bytes.is_blank (get_or c.loop-rest.rest.now (length c.loop-rest.rest.now - 1) 0)
    ≡ true =
    cc in
    record {
      same = trimmed_cut c.loop-rest.rest.now (omega arith) blank ∙ c.loop-rest.invariant.same;
      below =
          fewer (length-take (length c.loop-rest.rest.now - 1) c.loop-rest.rest.now)
          c.loop-rest.invariant.below;
    }

pub returns-clause-gives : goal.returns-clause-gives
returns-clause-gives c =
    sym (trimmed_none c.loop-rest.rest.now (omega arith)) ∙ c.loop-rest.invariant.same
