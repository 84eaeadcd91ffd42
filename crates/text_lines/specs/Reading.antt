-- Words, signs and numbers, from left to right. A form that can't go on answers how many bytes were
-- left there.
use Rattle.std.specs.Prelude.{◌≡◌, ℕ, ◌+◌, ◌*◌, ◌-◌, Bool, true, false, ◌==◌, if◌then◌else◌, List}
use Rattle.std.specs.Prelude.{[], ◌∷◌, length, Result, Ok, Err, Option, Some, None}
use Rattle.std.specs.Char.{is_ascii_digit}
use Rattle.text_lines.specs.Bytes.{front, behind, unblanked}

-- what was read, with the bytes that follow; or how many bytes were left where it stopped
abbrev pub Read : Type 0 → Type 0
Read A = Result (A × List ℕ) ℕ

infixl 10 ◌>>=◌
abbrev pub ◌>>=◌ : {A B E : Type 0} → Result A E → (A → Result B E) → Result B E
(Ok x) >>= f = f x
(Err e) >>= f = Err e

-- what a function returned, seen by view, is what reading gives
abbrev pub Gives : {X Y E : Type 0} → (X → Y) → Result X E → Result Y E → Type 0
Gives view (Ok x) read = read ≡ Ok (view x)
Gives view (Err e) read = read ≡ Err e

-- a word, with how many bytes were left where it begins
pub record Text : Type 0 where
  pub text : List ℕ
  pub left : ℕ

abbrev pub is_empty : List ℕ → Bool
is_empty [] = true
is_empty (b ∷ bs) = false

-- the longest run of such bytes, maybe empty, and the blanks behind it
abbrev pub run_at : (ℕ → Bool) → List ℕ → Text × List ℕ
run_at p xs = (record { text = front p xs; left = length xs }, unblanked (behind p xs))

-- the same, and not empty
unfoldable pub word_at : (ℕ → Bool) → List ℕ → Read Text
word_at p xs = if is_empty (front p xs) then Err (length xs) else Ok (run_at p xs)

-- one sign, and the blanks behind it
unfoldable pub sign_at : ℕ → List ℕ → Result (List ℕ) ℕ
sign_at c [] = Err 0
sign_at c (b ∷ bs) = if b == c then Ok (unblanked bs) else Err (length (b ∷ bs))

-- what follows one sign and the blanks behind it, where the sign stands there
unfoldable pub maybe_sign_at : ℕ → List ℕ → Option (List ℕ)
maybe_sign_at c [] = None
maybe_sign_at c (b ∷ bs) = if b == c then Some (unblanked bs) else None

-- these bytes, one by one
unfoldable pub literal_at : List ℕ → List ℕ → Result (List ℕ) ℕ
literal_at [] xs = Ok xs
literal_at (c ∷ cs) [] = Err 0
literal_at (c ∷ cs) (b ∷ bs) = if b == c then literal_at cs bs else Err (length (b ∷ bs))

-- nothing more
abbrev pub end_at : List ℕ → Result (Unit {0}) ℕ
end_at [] = Ok tt
end_at (b ∷ bs) = Err (length (b ∷ bs))

abbrev pub begins : ℕ → List ℕ → Bool
begins c [] = false
begins c (b ∷ bs) = b == c

-- what is there, or a stop
abbrev pub or_left : {A : Type 0} → Option A → ℕ → Result A ℕ
or_left None left = Err left
or_left (Some a) left = Ok a

-- one more digit behind a number, where there is one
abbrev pub further : ℕ × List ℕ → ℕ × List ℕ
further (n, []) = (n, [])
further (n, b ∷ bs) = if is_ascii_digit b then (10 * n + (b - 48), bs) else (n, b ∷ bs)

-- one to three digits, with no 0 in front of another digit, and the blanks behind them
unfoldable pub number_at : List ℕ → Read ℕ
number_at [] = Err 0
number_at (b ∷ bs) =
    if b == 48 then Ok (0, unblanked bs)
    else (if is_ascii_digit b
    then (let n = further (further (b - 48, bs)) in Ok (n.0, unblanked n.1))
    else Err (length (b ∷ bs)))
