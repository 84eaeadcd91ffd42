-- Lists of so many words, word by word.
use Rattle.std.proofs.Common.{◌≡◌, refl, ℕ, List, [], ◌∷◌, length, map, get_or, sym, ap, arith}
use Rattle.std.specs.Prelude.{String, string_bytes}
use Rattle.std.specs.Global.{Global}

abbrev Word : Type 0
Word = String Global

abbrev text : Word → List ℕ
text word = string_bytes word

heads : (x y : List ℕ) (xs ys : List (List ℕ)) → x ≡ y → xs ≡ ys → x ∷ xs ≡ y ∷ ys
heads x y xs ys e k = cc

pub one : (ws : List Word) (a : Word) → length ws ≡ 1 → a ≡ get_or ws 0 a → map string_bytes ws ≡ text a ∷ []
one [] a count is0 = absurd (omega (arith, count))
one (v0 ∷ []) a count is0 =
    heads (text v0) (text a) ([]) ([]) (ap text (sym is0)) (refl)
one (v0 ∷ w ∷ ws) a count is0 = absurd (omega (arith, count))

pub seven : (ws : List Word) (a b c d e f g : Word) → length ws ≡ 7
    → a ≡ get_or ws 0 a
    → b ≡ get_or ws 1 b
    → c ≡ get_or ws 2 c
    → d ≡ get_or ws 3 d
    → e ≡ get_or ws 4 e
    → f ≡ get_or ws 5 f
    → g ≡ get_or ws 6 g
    → map string_bytes ws ≡ text a ∷ text b ∷ text c ∷ text d ∷ text e ∷ text f ∷ text g ∷ []
seven [] a b c d e f g count i0 i1 i2 i3 i4 i5 i6 = absurd (omega (arith, count))
seven (v0 ∷ []) a b c d e f g count i0 i1 i2 i3 i4 i5 i6 = absurd (omega (arith, count))
seven (v0 ∷ v1 ∷ []) a b c d e f g count i0 i1 i2 i3 i4 i5 i6 = absurd (omega (arith, count))
seven (v0 ∷ v1 ∷ v2 ∷ []) a b c d e f g count i0 i1 i2 i3 i4 i5 i6 = absurd (omega (arith, count))
seven (v0 ∷ v1 ∷ v2 ∷ v3 ∷ []) a b c d e f g count i0 i1 i2 i3 i4 i5 i6 = absurd (omega (arith, count))
seven (v0 ∷ v1 ∷ v2 ∷ v3 ∷ v4 ∷ []) a b c d e f g count i0 i1 i2 i3 i4 i5 i6 = absurd (omega (arith, count))
seven (v0 ∷ v1 ∷ v2 ∷ v3 ∷ v4 ∷ v5 ∷ []) a b c d e f g count i0 i1 i2 i3 i4 i5 i6 = absurd (omega (arith, count))
seven (v0 ∷ v1 ∷ v2 ∷ v3 ∷ v4 ∷ v5 ∷ v6 ∷ []) a b c d e f g count i0 i1 i2 i3 i4 i5 i6 =
    heads _ _ _ _ (ap text (sym i0)) (heads _ _ _ _ (ap text (sym i1)) (heads _ _ _ _ (ap text (sym i2)) (heads _ _ _ _ (ap text (sym i3)) (heads _ _ _ _ (ap text (sym i4)) (heads _ _ _ _ (ap text (sym i5)) (heads _ _ _ _ (ap text (sym i6)) refl))))))
seven (v0 ∷ v1 ∷ v2 ∷ v3 ∷ v4 ∷ v5 ∷ v6 ∷ w ∷ ws) a b c d e f g count i0 i1 i2 i3 i4 i5 i6 = absurd (omega (arith, count))
