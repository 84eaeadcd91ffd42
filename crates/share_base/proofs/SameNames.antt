-- Names that are the same but for capital and small letters.
use Rattle.std.proofs.Common.{◌≡◌, ℕ, true, List, map, refl, sym}
use Rattle.std.specs.Str.{bytes_eq}
use Rattle.std.specs.Char.{to_ascii_lowercase}
use Rattle.std.proofs.lemmas.Bool.Decides.{same_from_decides}
use Rattle.std.proofs.lemmas.Slice.Eq.{bytes_eq-Decides}
use Rattle.share_base.specs.Names.{same_name}

pub bytes_eq_refl : (xs : List ℕ) → bytes_eq xs xs ≡ true
bytes_eq_refl xs = (bytes_eq-Decides xs xs).1 refl

bytes_eq_swapped : (xs ys : List ℕ) → bytes_eq xs ys ≡ bytes_eq ys xs
bytes_eq_swapped xs ys =
    let turned = bytes_eq-Decides ys xs in
    same_from_decides (bytes_eq xs ys) (bytes_eq ys xs) (bytes_eq-Decides xs ys)
    (λ e. sym (turned.0 e), λ e. turned.1 (sym e))

pub same_name_refl : (name : List ℕ) → same_name name name ≡ true
unfolding same_name
same_name_refl name = bytes_eq_refl (map to_ascii_lowercase name)

pub same_name_swapped : (one other : List ℕ) → same_name one other ≡ same_name other one
unfolding same_name
same_name_swapped one other =
    bytes_eq_swapped (map to_ascii_lowercase one) (map to_ascii_lowercase other)
