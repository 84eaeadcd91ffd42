use Rattle.std.proofs.Common.{◌≡◌, length, [], ◌∷◌, sym, ap, arith}
use Rattle.std.proofs.lemmas.List.{take_at}
use Rattle.log_tally.proofs.open_line.OpenLine.push_first.Goals as goal

pub returns-else-as_slice-lt-FRONT : goal.returns-else-as_slice-lt-FRONT
returns-else-as_slice-lt-FRONT c =
    let first = c.args.self.now.first in
    let full : length first ≡ 7 =
    omega (arith, ap length c.as_slice.ensures.value, c.as_slice.ensures.bound, c.if-as_slice-lt-FRONT.false) in
    ap (λ (t : _). record c.args.self.now { first = t }) (sym (take_at first (c.args.byte ∷ []) 7 full))
