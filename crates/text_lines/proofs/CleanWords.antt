-- Words that a line keeps as they are.
use Rattle.std.proofs.Common.{◌≡◌, ℕ, suc, ◌+◌, ◌-◌, ◌<◌, Bool, true, false, not, ◌&&◌, ◌==◌, List}
use Rattle.std.proofs.Common.{[], ◌∷◌, ◌++◌, length, get_or, refl, ap, ◌∙◌, length-append, arith}
use Rattle.std.specs.List.{list_all}
use Rattle.std.proofs.lemmas.Bool.{and_parts, and_from, both_ways, not-true, true_from_ne_false}
use Rattle.std.proofs.lemmas.List.Folds.{list_all-append, list_all_at}
use Rattle.text_lines.specs.Bytes.{is_blank, is_allowed, is_tight}

-- it may stand in a line, and begins no comment
abbrev pub is_plain : ℕ → Bool
is_plain b = is_allowed b && not (b == 35)

-- words of a line, with blanks at neither end
pub record IsClean (xs : List ℕ) : Type 0 where
  pub plain : list_all is_plain xs ≡ true
  pub some : 0 < length xs
  pub tight : is_tight xs ≡ true
  pub ends : is_blank (get_or xs (length xs - 1) 0) ≡ false

abbrev pub is_solid : ℕ → Bool
is_solid b = not (is_blank b)

solid_at : (xs : List ℕ) (n : ℕ) → list_all is_solid xs ≡ true → n < length xs
    → is_blank (get_or xs n 0) ≡ false
solid_at xs n all h =
    not-true _
    (true_from_ne_false (is_solid (get_or xs n 0))
    (λ e. both_ways (list_all is_solid xs) (list_all_at is_solid xs n 0 h e) all))

solid_tight : (xs : List ℕ) → list_all is_solid xs ≡ true → is_tight xs ≡ true
solid_tight [] all = refl
solid_tight (x ∷ xs) all = (and_parts (is_solid x) (list_all is_solid xs) all).0

-- plain bytes, none of which is a blank
pub clean_solid : (xs : List ℕ) → list_all is_plain xs ≡ true → list_all is_solid xs ≡ true
    → 0 < length xs → IsClean xs
clean_solid xs plain solid some = record {
  plain = plain;
  some = some;
  tight = solid_tight xs solid;
  ends = solid_at xs (length xs - 1) solid (omega arith);
}

pub tight_front : (xs ys : List ℕ) → 0 < length xs → is_tight xs ≡ true → is_tight (xs ++ ys) ≡ true
tight_front [] ys h t = absurd (omega arith)
tight_front (x ∷ xs) ys h t = t

last_of : (xs ys : List ℕ) → 0 < length ys
    → get_or (xs ++ ys) (length (xs ++ ys) - 1) 0 ≡ get_or ys (length ys - 1) 0
last_of [] ys h = refl
last_of (x ∷ xs) ys h =
    let both : length (xs ++ ys) ≡ length xs + length ys = length-append xs ys in
    let next : length (x ∷ (xs ++ ys)) - 1 ≡ suc (length (xs ++ ys) - 1) = omega arith in
    ap (λ (n : ℕ). get_or (x ∷ (xs ++ ys)) n 0) next ∙ last_of xs ys h

-- clean words, plain bytes and clean words again
pub clean_around : (xs between ys : List ℕ) → IsClean xs → list_all is_plain between ≡ true
    → IsClean ys → IsClean ((xs ++ between) ++ ys)
clean_around xs between ys front plain back = record {
  plain =
      list_all-append is_plain (xs ++ between) ys
      ∙ and_from _ _ (list_all-append is_plain xs between ∙ and_from _ _ front.plain plain)
      back.plain;
  some = omega (arith, front.some, length-append (xs ++ between) ys, length-append xs between);
  tight =
      tight_front (xs ++ between) ys (omega (arith, front.some, length-append xs between))
      (tight_front xs between front.some front.tight);
  ends = ap is_blank (last_of (xs ++ between) ys back.some) ∙ back.ends;
}
