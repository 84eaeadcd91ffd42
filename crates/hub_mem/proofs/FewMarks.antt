-- A turn has at most one mark for each open connection, and one that a connection waits.
use Rattle.std.proofs.Common.{◌≡◌, ap, ℕ, ◌<◌, ◌≤◌, Bool, true, false, List, [], ◌∷◌, ◌++◌, length, take, arith}
use Rattle.std.specs.List.{list_any, flat_map}
use Rattle.std.proofs.lemmas.List.{length-append, length-take}
use Rattle.script_screen.specs.declared.trace.TraceLine.{TraceLine}
use Rattle.script_screen.specs.Traces.{is_join}
use Rattle.hub_acts.specs.declared.marks.Mark.{Mark}
use Rattle.hub_mem.specs.Answers.{accept_mark, stream_mark, marks_for, makes_readable, makes_writable}

one_mark : (c : ℕ) (r w : Bool) → length (stream_mark c r w) ≤ 1
one_mark c true w = omega arith
one_mark c false true = omega arith
one_mark c false false = omega arith

one_accept : (b : Bool) → length (accept_mark b) ≤ 1
one_accept true = omega arith
one_accept false = omega arith

few : (turn : List TraceLine) (serials : List ℕ) → length (flat_map (marks_for turn) serials) ≤ length serials
few turn [] = omega arith
few turn (c ∷ serials) =
    let here = one_mark c (list_any (makes_readable c) turn) (list_any (makes_writable c) turn) in
    let rest = few turn serials in
    let both = length-append (marks_for turn c) (flat_map (marks_for turn) serials) in
    omega arith

pub few-marks : (turn : List TraceLine) (serials : List ℕ) (i : ℕ) (ready : List Mark) → ready ≡ accept_mark (list_any is_join turn) ++ flat_map (marks_for turn) (take i serials) → i < length serials → length serials < 128 → length ready < 128
few-marks turn serials i ready is at most =
    let first = one_accept (list_any is_join turn) in
    let rest = few turn (take i serials) in
    let size = length-take i serials in
    let both = length-append (accept_mark (list_any is_join turn)) (flat_map (marks_for turn) (take i serials)) in
    let whole = ap (λ (xs : List Mark). length xs) is in
    omega arith
