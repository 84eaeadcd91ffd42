-- Pairs of digits that are taken one after another.
use Rattle.std.proofs.Common.{◌≡◌, ℕ, ◌*◌, ◌-◌, ◌/◌, ◌<◌, ◌≤◌, ◌⊎◌, inl, inr, false}
use Rattle.std.proofs.Common.{List, [], ◌∷◌, ◌++◌, length, take, drop, get_or, Option, Some, None}
use Rattle.std.proofs.Common.{refl, ap, sym, ◌∙◌, append_assoc, arith}
use Rattle.std.specs.Prelude.{codes, Result, Ok, Err, IfOk}
use Rattle.std.specs.Str.{bytes_eq}
use Rattle.std.proofs.lemmas.Bool.Decides.{nat_tests}
use Rattle.std.proofs.lemmas.List.{append-nil, take_rest}
use Rattle.script_screen.specs.declared.kinds.TextKind.TheVariants as kind
use Rattle.script_screen.specs.declared.kinds.LineFault.{LineFault}
use Rattle.script_screen.specs.Answers.{LineGives}
use Rattle.script_screen.specs.Grammar.{or_kind}
use Rattle.script_screen.specs.Hex.{pair_value, byte_before, pairs_of, hex_of, if_within}
use Rattle.script_screen.specs.Hex.{bytes_within}

-- these bytes, and those of the rest, where it has some
abbrev pub bytes_before : List ℕ → Option (List ℕ) → Option (List ℕ)
bytes_before bytes None = None
bytes_before bytes (Some more) = Some (bytes ++ more)

pub none_before : (rest : Option (List ℕ)) → rest ≡ bytes_before [] rest
none_before None = refl
none_before (Some more) = refl

one_before : (bytes : List ℕ) (byte : ℕ) (rest : Option (List ℕ))
    → bytes_before bytes (byte_before (Some byte) rest) ≡ bytes_before (bytes ++ byte ∷ []) rest
one_before bytes byte None = refl
one_before bytes byte (Some more) =
    ap (λ (xs : List ℕ). let o : Option (List ℕ) = Some xs in o)
    (sym (append_assoc bytes (byte ∷ []) more))

-- what follows the first byte of a slice
abbrev pub after_first : List ℕ → List ℕ
after_first xs = take (length xs - 1) (drop 1 xs)

-- a good pair is taken
pub pair_taken : (all : Option (List ℕ)) (bytes next : List ℕ) (rest : List ℕ) (byte : ℕ)
    → all ≡ bytes_before bytes (pairs_of rest) → 0 < length rest → 0 < length (after_first rest)
    → pair_value (get_or rest 0 0) (get_or (after_first rest) 0 0) ≡ Some byte
    → next ≡ bytes ++ byte ∷ []
    → all ≡ bytes_before next (pairs_of (after_first (after_first rest)))
unfolding pairs_of
pair_taken all bytes next [] byte h s t p n = absurd (omega arith)
pair_taken all bytes next (a ∷ []) byte h s t p n = absurd (omega arith)
pair_taken all bytes next (a ∷ b ∷ rest) byte h s t p n =
    let one : after_first (a ∷ b ∷ rest) ≡ b ∷ rest = take_rest (a ∷ b ∷ rest) 1 in
    let two : after_first (after_first (a ∷ b ∷ rest)) ≡ rest =
    ap after_first one ∙ take_rest (b ∷ rest) 1 in
    let value : pair_value a b ≡ Some byte =
    ap (λ (xs : List ℕ). pair_value a (get_or xs 0 0)) (sym one) ∙ p in
    h ∙ ap (λ (o : Option ℕ). bytes_before bytes (byte_before o (pairs_of rest))) value
    ∙ one_before bytes byte (pairs_of rest)
    ∙ ap (λ (xs : List ℕ). bytes_before xs (pairs_of rest)) (sym n)
    ∙ ap (λ (xs : List ℕ). bytes_before next (pairs_of xs)) (sym two)

-- a bad one ends it
pub pair_refused : (all : Option (List ℕ)) (bytes rest : List ℕ)
    → all ≡ bytes_before bytes (pairs_of rest) → 0 < length rest → 0 < length (after_first rest)
    → pair_value (get_or rest 0 0) (get_or (after_first rest) 0 0) ≡ None → all ≡ None
unfolding pairs_of
pair_refused all bytes [] h s t p = absurd (omega arith)
pair_refused all bytes (a ∷ []) h s t p = absurd (omega arith)
pair_refused all bytes (a ∷ b ∷ rest) h s t p =
    let one : after_first (a ∷ b ∷ rest) ≡ b ∷ rest = take_rest (a ∷ b ∷ rest) 1 in
    let value : pair_value a b ≡ None =
    ap (λ (xs : List ℕ). pair_value a (get_or xs 0 0)) (sym one) ∙ p in
    h ∙ ap (λ (o : Option ℕ). bytes_before bytes (byte_before o (pairs_of rest))) value

-- nothing is left
pub pairs_done : (all : Option (List ℕ)) (bytes rest : List ℕ)
    → all ≡ bytes_before bytes (pairs_of rest) → length rest < 1 → all ≡ Some bytes
unfolding pairs_of
pairs_done all bytes [] h s =
    h ∙ ap (λ (xs : List ℕ). let o : Option (List ℕ) = Some xs in o) (append-nil bytes)
pairs_done all bytes (a ∷ rest) h s = absurd (omega arith)

-- one digit is left
pub digit_left : (all : Option (List ℕ)) (bytes rest : List ℕ)
    → all ≡ bytes_before bytes (pairs_of rest) → 0 < length rest → length (after_first rest) < 1
    → all ≡ None
unfolding pairs_of
digit_left all bytes [] h s t = absurd (omega arith)
digit_left all bytes (a ∷ []) h s t = h
digit_left all bytes (a ∷ b ∷ rest) h s t =
    let one : after_first (a ∷ b ∷ rest) ≡ b ∷ rest = take_rest (a ∷ b ∷ rest) 1 in
    absurd (omega (arith, ap length one))

some_more : (o : Option ℕ) (rest : Option (List ℕ)) (bytes : List ℕ)
    → byte_before o rest ≡ Some bytes
    → (byte : ℕ) × (more : List ℕ) × (rest ≡ Some more) × (bytes ≡ byte ∷ more)
some_more None rest bytes h = absurd cc
some_more (Some byte) None bytes h = absurd cc
some_more (Some byte) (Some more) bytes h = (byte, more, refl, cc)

-- pairs of digits spell half as many bytes
pub pairs_length : (digits bytes : List ℕ) → pairs_of digits ≡ Some bytes
    → length digits ≡ 2 * length bytes
unfolding pairs_of
pairs_length [] bytes h = let e : bytes ≡ [] = cc in omega (arith, ap length e)
pairs_length (a ∷ []) bytes h = absurd cc
pairs_length (a ∷ b ∷ rest) bytes h =
    let s = some_more (pair_value a b) (pairs_of rest) bytes h in
    omega (arith, pairs_length rest s.1 s.2, ap length s.3)

inside : (least most : ℕ) (bytes : List ℕ) → least ≤ length bytes → length bytes ≤ most
    → if_within least most (Some bytes) ≡ Some bytes
inside least most bytes l m = grind (arith, nat_tests)

too_few : (least most : ℕ) (bytes : List ℕ) → length bytes < least
    → if_within least most (Some bytes) ≡ None
too_few least most bytes l = grind (arith, nat_tests)

too_many : (least most : ℕ) (bytes : List ℕ) → most < length bytes
    → if_within least most (Some bytes) ≡ None
too_many least most bytes l = grind (arith, nat_tests)

within_by : (least most : ℕ) (o : Option (List ℕ)) (n : ℕ)
    → ((bytes : List ℕ) → o ≡ Some bytes → length bytes ≡ n) → least ≤ n → n ≤ most
    → if_within least most o ≡ o
within_by least most None n e l m = refl
within_by least most (Some bytes) n e l m =
    let same : length bytes ≡ n = e bytes refl in
    inside least most bytes (omega arith) (omega arith)

outside_by : (least most : ℕ) (o : Option (List ℕ)) (n : ℕ)
    → ((bytes : List ℕ) → o ≡ Some bytes → length bytes ≡ n) → (n < least) ⊎ (most < n)
    → if_within least most o ≡ None
outside_by least most None n e h = refl
outside_by least most (Some bytes) n e (inl h) =
    let same : length bytes ≡ n = e bytes refl in too_few least most bytes (omega arith)
outside_by least most (Some bytes) n e (inr h) =
    let same : length bytes ≡ n = e bytes refl in too_many least most bytes (omega arith)

of_pairs : (word : List ℕ) → bytes_eq word (codes "-") ≡ false → 0 < length word
    → hex_of word ≡ pairs_of word
of_pairs [] e h = absurd (omega arith)
of_pairs (a ∷ rest) e h = rw e refl

half : (word bytes : List ℕ) → pairs_of word ≡ Some bytes → length bytes ≡ length word / 2
half word bytes h = omega (arith, pairs_length word bytes h)

-- a word of as many digits as bytes may have
pub within_sizes : (least most : ℕ) (word : List ℕ) → bytes_eq word (codes "-") ≡ false
    → 0 < length word → least ≤ length word / 2 → length word / 2 ≤ most
    → bytes_within least most word ≡ pairs_of word
unfolding bytes_within
within_sizes least most word e h l m =
    ap (if_within least most) (of_pairs word e h)
    ∙ within_by least most (pairs_of word) (length word / 2) (half word) l m

-- a word of too few or too many
pub outside_sizes : (least most : ℕ) (word : List ℕ) → bytes_eq word (codes "-") ≡ false
    → 0 < length word → (length word / 2 < least) ⊎ (most < length word / 2)
    → bytes_within least most word ≡ None
unfolding bytes_within
outside_sizes least most word e h o =
    ap (if_within least most) (of_pairs word e h)
    ∙ outside_by least most (pairs_of word) (length word / 2) (half word) o

ok_of : (o : Option (List ℕ)) (bytes : List ℕ) → or_kind o kind.BadHex ≡ Ok bytes → o ≡ Some bytes
ok_of None bytes h = absurd cc
ok_of (Some xs) bytes h =
    let same : xs ≡ bytes = cc in ap (λ (k : List ℕ). let a : Option (List ℕ) = Some k in a) same

-- the bytes that were read of it are from the least to the most in number
pub sizes_hold : (word : List ℕ) (least most : ℕ) (r : Result (List ℕ) LineFault)
    → LineGives {Y = List ℕ} (λ b. b) r (or_kind (pairs_of word) kind.BadHex)
    → least ≤ length word / 2 → length word / 2 ≤ most
    → IfOk r (λ b. least ≤ length b) × IfOk r (λ b. length b ≤ most)
sizes_hold word least most (Err e) h l m = (tt, tt)
sizes_hold word least most (Ok bytes) h l m =
    let same : length bytes ≡ length word / 2 = half word bytes (ok_of (pairs_of word) bytes h) in
    (omega arith, omega arith)
