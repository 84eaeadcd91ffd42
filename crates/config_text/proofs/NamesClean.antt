-- Names and headers are words that a line keeps.
use Rattle.std.proofs.Common.{◌≡◌, ℕ, ◌<◌, true, List, [], ◌∷◌, ◌++◌, length, refl, length-append}
use Rattle.std.proofs.Common.{arith}
use Rattle.std.proofs.lemmas.Bool.{both_ways}
use Rattle.share_base.specs.Names.{is_name}
use Rattle.share_base.proofs.ListTests.{all_append}
use Rattle.share_base.proofs.NameBytes.{no_name}
use Rattle.text_lines.proofs.CleanWords.{is_plain, is_solid, IsClean, clean_solid}
use Rattle.config_text.proofs.NamesAgain.{name_passes}

name_long : (name : List ℕ) → is_name name ≡ true → 0 < length name
name_long [] h = absurd (both_ways (is_name []) no_name h)
name_long (b ∷ bs) h = omega arith

pub clean_name : (name : List ℕ) → is_name name ≡ true → IsClean name
clean_name name h =
    clean_solid name (name_passes is_plain refl name h) (name_passes is_solid refl name h)
    (name_long name h)

-- NAME:
pub clean_header : (name : List ℕ) → is_name name ≡ true → IsClean (name ++ 58 ∷ [])
clean_header name h =
    clean_solid (name ++ 58 ∷ [])
    (all_append is_plain name (58 ∷ []) (name_passes is_plain refl name h) refl)
    (all_append is_solid name (58 ∷ []) (name_passes is_solid refl name h) refl)
    (omega (arith, length-append name (58 ∷ [])))
