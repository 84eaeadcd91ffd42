-- Names that are printed are read again.
use Rattle.std.proofs.Common.{◌≡◌, ℕ, ◌<◌, Bool, ◌||◌, true, not, ◌==◌, List, [], ◌∷◌, ◌++◌, length}
use Rattle.std.proofs.Common.{Ok, refl, arith}
use Rattle.std.specs.List.{list_all}
use Rattle.std.proofs.lemmas.Bool.{agree_below}
use Rattle.std.proofs.lemmas.Bool.Decides.{nat_tests}
use Rattle.std.proofs.lemmas.List.Folds.{list_any-append}
use Rattle.share_base.specs.Names.{is_name}
use Rattle.share_base.proofs.NameBytes.{is_name_byte, name_bytes}
use Rattle.share_base.proofs.ListTests.{all_weaker, any_none}
use Rattle.share_base.proofs.Ends.{last_is}
use Rattle.text_lines.specs.declared.bytes.WordKind.TheVariants as kind
use Rattle.text_lines.specs.Bytes.{takes}
use Rattle.text_lines.proofs.SpelledWords.{text_of}
use Rattle.hotkey_text.proofs.ArgumentBytes.{each_byte}
use Rattle.config_text.specs.Shapes.{header_at}
use Rattle.config_text.specs.Sections.{is_header}
use Rattle.config_text.proofs.Spelled.{header_again as spelled_again}

-- ---- the bytes of a name

name_below : (b : ℕ) → is_name_byte b ≡ true → b < 127
name_below b h = grind (arith, nat_tests)

-- what each of them passes
pub name_passes : (q : ℕ → Bool)
    → agree_below (λ b. not (is_name_byte b) || q b) (λ b. true) 127 ≡ true → (name : List ℕ)
    → is_name name ≡ true → list_all q name ≡ true
name_passes q table name h =
    all_weaker is_name_byte q (each_byte is_name_byte q name_below table) name (name_bytes name h)

pub name_takes : (name : List ℕ) → is_name name ≡ true → list_all (takes kind.Name) name ≡ true
name_takes = name_passes (takes kind.Name) refl

-- ---- a header

pub header_again : (name : List ℕ) → is_name name ≡ true
    → header_at (name ++ 58 ∷ []) ≡ Ok (text_of name (length (name ++ 58 ∷ [])))
header_again name h =
    spelled_again (name ++ 58 ∷ []) (text_of name (length (name ++ 58 ∷ [])))
    (record {
      behind_name = [];
      behind_sign = [];
      text = refl;
      run = name_takes name h;
      gaps = (refl, refl);
      place = refl;
    })

pub is_header_again : (name : List ℕ) → is_name name ≡ true → is_header (name ++ 58 ∷ []) ≡ true
unfolding is_header
is_header_again name h =
    let none = name_passes (λ b. not (b == 61)) refl name h in
    rw (
      last_is name 58,
      list_any-append (λ b. b == 61) name (58 ∷ []),
      any_none (λ b. b == 61) name none,
    )
    refl
