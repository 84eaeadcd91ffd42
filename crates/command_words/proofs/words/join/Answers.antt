use Rattle.std.specs.Prelude.{List, ℕ, ◌∷◌, codes}
use Rattle.std.proofs.Common.{sym, subst, arith}
use Rattle.command_words.specs.Forms.{ReadsAll}
use Rattle.command_words.proofs.Counted.{seven}
use Rattle.command_words.proofs.words.join.Goals as goal

pub returns : goal.returns
returns c =
    let is = seven c.args.rest.now c.name-item.result c.host-item.result c.port-item.result c.w-item.result c.h-item.result c.script-item.result c.turns-item.result (omega (arith, c.in-len7.len_at_least, c.in-len7.len_below)) c.name-item.is c.host-item.is c.port-item.is c.w-item.is c.h-item.is c.script-item.is c.turns-item.is in
    subst (λ (ws : List (List ℕ)). ReadsAll (codes "join" ∷ ws) c.join_by.result) (sym is) c.join_by.ensures
