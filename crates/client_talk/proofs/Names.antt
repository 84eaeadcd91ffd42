-- Names are short.
use Rattle.std.proofs.Common.{◌≡◌, ℕ, ◌≤◌, Bool, true, false, List, length, ◌&&◌, ◌++◌, [], suc, arith, refl, length-append, ap}
use Rattle.std.specs.Prelude.{nat_le}
use Rattle.std.proofs.lemmas.Bool.{leb-true}
use Rattle.wire_frames.specs.declared.limits.TheConstants.{BODY_LIMIT}
use Rattle.share_base.specs.Names.{is_name}

first-of : (a b : Bool) → (a && b) ≡ true → a ≡ true
first-of true b is = refl
first-of false b is = absurd cc

short-name : (xs : List ℕ) → is_name xs ≡ true → length xs ≤ 255
unfolding is_name
short-name xs is = leb-true (length xs) 255 (first-of (nat_le (length xs) 255) _ is)

-- the answer to a hello is no longer than a frame may be
-- the answer to a hello is no longer than a frame may be
pub short-answer : (name bytes : List ℕ) → is_name name ≡ true → bytes ≡ name → suc (suc (suc (suc (suc (suc (suc (suc (suc (suc (suc (suc (suc (suc (suc (length (bytes ++ [])))))))))))))))) ≤ BODY_LIMIT
short-answer name bytes is same = omega (arith, short-name name is, ap (λ (xs : List ℕ). length xs) same, length-append bytes [])
