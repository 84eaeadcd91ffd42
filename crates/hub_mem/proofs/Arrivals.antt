-- Bytes of a stream that come, as many as there are.
use Rattle.std.proofs.Common.{◌≡◌, ◌∙◌, ap, sym, refl, ℕ, ◌+◌, ◌-◌, ◌≤◌, min, Bool, true, false, List, ◌++◌, length, take, drop, arith}
use Rattle.std.specs.Prelude.{Option, nat_le}
use Rattle.std.proofs.lemmas.Bool.Decides.{nat_tests}
use Rattle.std.proofs.lemmas.List.{take_min, drop_all, drop-drop, drop-append-le, length-take-le, length-drop}
use Rattle.std.proofs.Math.Seq.{take-add}
use Rattle.hub_mem.specs.Feeds.{Feed, with_arrived}

drop_min : (n : ℕ) (xs : List ℕ) → drop (min n (length xs)) xs ≡ drop n xs
drop_min n xs = by (nat_le n (length xs)) refl
  where
    by : (b : Bool) → nat_le n (length xs) ≡ b → drop (min n (length xs)) xs ≡ drop n xs
    by true e = let le : n ≤ length xs = grind (arith, nat_tests, e) in let is : min n (length xs) ≡ n = omega arith in ap (λ (k : ℕ). drop k xs) is
    by false e =
        let le : length xs ≤ n = grind (arith, nat_tests, e) in
        let is : min n (length xs) ≡ length xs = omega arith in
        ap (λ (k : ℕ). drop k xs) is ∙ drop_all (length xs) xs (omega arith) ∙ sym (drop_all n xs le)

pub arrives : (bytes : List ℕ) (read arrived count m : ℕ) (ended failed : Bool) (room : Option ℕ) → read ≤ arrived → arrived ≤ length bytes → m ≡ min count (length bytes - arrived)
    → let now : Feed = record { stream = record { unread = drop read (take (arrived + m) bytes); has_ended = ended; has_failed = failed; room = room }; coming = drop (arrived + m) bytes } in
    now ≡ with_arrived count (record { stream = record { unread = drop read (take arrived bytes); has_ended = ended; has_failed = failed; room = room }; coming = drop arrived bytes })
arrives bytes read arrived count m ended failed room low high is =
    let rest = drop arrived bytes in
    let most : m ≡ min count (length rest) = omega (arith, length-drop arrived bytes) in
    let fits : read ≤ length (take arrived bytes) = omega (arith, length-take-le arrived bytes high) in
    let front : drop read (take (arrived + m) bytes) ≡ drop read (take arrived bytes) ++ take count rest =
    ap (drop read) (take-add arrived m bytes) ∙ drop-append-le read (take arrived bytes) (take m rest) fits
    ∙ ap (λ (xs : List ℕ). drop read (take arrived bytes) ++ xs) (ap (λ (k : ℕ). take k rest) most ∙ take_min count rest) in
    let left : drop (arrived + m) bytes ≡ drop count rest = sym (drop-drop m arrived bytes) ∙ ap (λ (k : ℕ). drop k rest) most ∙ drop_min count rest in
    ap (λ (xs : List ℕ). record { stream = record { unread = xs; has_ended = ended; has_failed = failed; room = room }; coming = drop (arrived + m) bytes }) front
    ∙ ap (λ (xs : List ℕ). record { stream = record { unread = drop read (take arrived bytes) ++ take count rest; has_ended = ended; has_failed = failed; room = room }; coming = xs }) left
