-- The words of a text are found again, since each byte of them is above the blank.
use Rattle.std.proofs.Common.{◌≡◌, ◌∙◌, ap, sym, refl, ℕ, suc, ◌+◌, ◌<◌, ◌≤◌, ◌^◌, ◌/◌, ◌%◌, List}
use Rattle.std.proofs.Common.{[], ◌∷◌, ◌++◌, append_assoc, arith}
use Rattle.std.specs.Prelude.{ℤ, pos, negsuc, Bool, true, ltb, ◌&&◌, FitsSigned}
use Rattle.std.specs.Int.{w16}
use Rattle.std.specs.Int.Signed.{mag}
use Rattle.std.specs.Fmt.{decimal, signed_decimal}
use Rattle.std.specs.List.{flat_map, AllByRecursion}
use Rattle.std.proofs.lemmas.Fmt.{decimal_by_steps}
use Rattle.std.proofs.lemmas.Bool.{and_parts, ltb-true}
use Rattle.std.proofs.lemmas.Bool.Decides.{nat_tests}
use Rattle.std.proofs.lemmas.List.{append-nil}
use Rattle.held_inputs.specs.Line.{text}
use Rattle.share_base.specs.Hex.{hex, hex_pair, hex_digit}
use Rattle.message_codec.specs.Showing.{after_blank}

-- every byte is above the blank
abbrev pub Dark : List ℕ → Type 0
Dark [] = Unit {0}
Dark (b ∷ bs) = (32 < b) × Dark bs

abbrev pub AllDark : List (List ℕ) → Type 0
AllDark [] = Unit {0}
AllDark (w ∷ ws) = Dark w × AllDark ws

dark-append : (a b : List ℕ) → Dark a → Dark b → Dark (a ++ b)
dark-append [] b h k = k
dark-append (x ∷ a) b h k = (h.0, dark-append a b h.1 k)

pub dark-decimal : (n : ℕ) → n < 2 ^ 64 → Dark (decimal n)
dark-decimal n lt =
    decimal_by_steps (λ m ds. Dark ds) (λ m small. (omega arith, tt))
    (λ m ds big h. dark-append ds ((48 + m % 10) ∷ []) h (omega arith, tt)) n lt

-- how large a number of two bytes with a sign is
pub mag_of_two : (z : ℤ) → FitsSigned w16 z → mag z < 2 ^ 15
mag_of_two (pos n) h = omega arith
mag_of_two (negsuc n) h = omega arith

pub dark-signed : (z : ℤ) → mag z < 2 ^ 15 → Dark (signed_decimal z)
dark-signed (pos n) h = dark-decimal n (omega arith)
dark-signed (negsuc n) h = (omega arith, dark-decimal (suc n) (omega arith))

dark-digit : (d : ℕ) → 32 < hex_digit d
dark-digit d = grind (arith, nat_tests)

dark-pairs : (bytes : List ℕ) → Dark (flat_map hex_pair bytes)
dark-pairs [] = tt
dark-pairs (b ∷ bs) = (dark-digit (b / 16), (dark-digit (b % 16), dark-pairs bs))

pub dark-hex : (bytes : List ℕ) → Dark (hex bytes)
dark-hex [] = (omega arith, tt)
dark-hex (b ∷ bs) = dark-pairs (b ∷ bs)

abbrev pub is_dark : List ℕ → Bool
is_dark [] = true
is_dark (b ∷ bs) = ltb 32 b && is_dark bs

pub dark-tested : (w : List ℕ) → is_dark w ≡ true → Dark w
dark-tested [] e = tt
dark-tested (b ∷ bs) e =
    let p = and_parts (ltb 32 b) (is_dark bs) e in (ltb-true 32 b p.0, dark-tested bs p.1)

-- two words before signs that are not above the blank
word-apart : (a b x y : List ℕ) (s t : ℕ) → s ≤ 32 → t ≤ 32 → Dark a → Dark b
    → a ++ s ∷ x ≡ b ++ t ∷ y → (a ≡ b) × (s ≡ t) × (x ≡ y)
word-apart [] [] x y s t hs ht da db e = (refl, cc, cc)
word-apart [] (c ∷ b) x y s t hs ht da db e =
    absurd (let q : s ≡ c = cc in let r : 32 < c = db.0 in omega arith)
word-apart (c ∷ a) [] x y s t hs ht da db e =
    absurd (let q : c ≡ t = cc in let r : 32 < c = da.0 in omega arith)
word-apart (c ∷ a) (d ∷ b) x y s t hs ht da db e =
    let q : c ≡ d = cc in
    let r : a ++ s ∷ x ≡ b ++ t ∷ y = cc in
    let w = word-apart a b x y s t hs ht da.1 db.1 r in
    (rw (q, w.0) refl, w.1, w.2)

-- a text with no further word goes on with a newline, and one with a further word with a blank
text-last : (w x : List ℕ) → text w [] ++ x ≡ w ++ 10 ∷ x
text-last w x = ap (λ (t : List ℕ). (t ++ 10 ∷ []) ++ x) (append-nil w) ∙ append_assoc w (10 ∷ []) x

text-more : (w u : List ℕ) (us : List (List ℕ)) (x : List ℕ)
    → text w (u ∷ us) ++ x ≡ w ++ 32 ∷ (text u us ++ x)
text-more w u us x =
    ap (λ (t : List ℕ). t ++ x) (append_assoc w (32 ∷ (u ++ flat_map after_blank us)) (10 ∷ []))
    ∙ append_assoc w (32 ∷ text u us) x

-- the words of two equal texts are equal, and so is what follows them
pub words-apart : (v w : List ℕ) (vs ws : List (List ℕ)) (x y : List ℕ) → Dark v → Dark w
    → AllDark vs → AllDark ws → text v vs ++ x ≡ text w ws ++ y → (v ≡ w) × (vs ≡ ws) × (x ≡ y)
words-apart v w [] [] x y dv dw dvs dws e =
    let p =
    word-apart v w x y 10 10 (omega arith) (omega arith) dv dw
    (sym (text-last v x) ∙ e ∙ text-last w y) in
    (p.0, refl, p.2)
words-apart v w [] (u ∷ ws) x y dv dw dvs dws e =
    absurd
    (let p = word-apart v w x (text u ws ++ y) 10 32 (omega arith) (omega arith) dv dw
    (sym (text-last v x) ∙ e ∙ text-more w u ws y) in
    let q : 10 ≡ 32 = p.1 in omega arith)
words-apart v w (u ∷ vs) [] x y dv dw dvs dws e =
    absurd
    (let p = word-apart v w (text u vs ++ x) y 32 10 (omega arith) (omega arith) dv dw
    (sym (text-more v u vs x) ∙ e ∙ text-last w y) in
    let q : 32 ≡ 10 = p.1 in omega arith)
words-apart v w (u ∷ vs) (t ∷ ws) x y dv dw dvs dws e =
    let p =
    word-apart v w (text u vs ++ x) (text t ws ++ y) 32 32 (omega arith) (omega arith) dv dw
    (sym (text-more v u vs x) ∙ e ∙ text-more w t ws y) in
    let r = words-apart u t vs ws x y dvs.0 dws.0 dvs.1 dws.1 p.2 in
    (p.0, rw (r.0, r.1) refl, r.2)

-- Bytes are found again in their digits

digit-injective : (a b : ℕ) → hex_digit a ≡ hex_digit b → a < 16 → b < 16 → a ≡ b
digit-injective a b e p q = grind (arith, nat_tests)

pairs-injective : (a b : List ℕ) → AllByRecursion (λ byte. byte < 2 ^ 8) a
    → AllByRecursion (λ byte. byte < 2 ^ 8) b → flat_map hex_pair a ≡ flat_map hex_pair b → a ≡ b
pairs-injective [] [] p q e = refl
pairs-injective [] (y ∷ b) p q e = absurd (let f : ⊥ = cc in f)
pairs-injective (x ∷ a) [] p q e = absurd (let f : ⊥ = cc in f)
pairs-injective (x ∷ a) (y ∷ b) p q e =
    let low : x < 2 ^ 8 = p.0 in
    let low' : y < 2 ^ 8 = q.0 in
    let h : hex_digit (x / 16) ≡ hex_digit (y / 16) = cc in
    let l : hex_digit (x % 16) ≡ hex_digit (y % 16) = cc in
    let r : flat_map hex_pair a ≡ flat_map hex_pair b = cc in
    let u : x / 16 ≡ y / 16 = digit-injective (x / 16) (y / 16) h (omega arith) (omega arith) in
    let v : x % 16 ≡ y % 16 = digit-injective (x % 16) (y % 16) l (omega arith) (omega arith) in
    let s : x ≡ y = omega arith in
    rw (s, pairs-injective a b p.1 q.1 r) refl

no_dash : (d : ℕ) → hex_digit d ≡ 45 → ⊥
no_dash d e = grind (arith, nat_tests)

pub hex-injective : (a b : List ℕ) → AllByRecursion (λ byte. byte < 2 ^ 8) a
    → AllByRecursion (λ byte. byte < 2 ^ 8) b → hex a ≡ hex b → a ≡ b
hex-injective [] [] p q e = refl
hex-injective [] (y ∷ b) p q e =
    absurd (no_dash (y / 16) (let f : hex_digit (y / 16) ≡ 45 = cc in f))
hex-injective (x ∷ a) [] p q e =
    absurd (no_dash (x / 16) (let f : hex_digit (x / 16) ≡ 45 = cc in f))
hex-injective (x ∷ a) (y ∷ b) p q e = pairs-injective (x ∷ a) (y ∷ b) p q e
