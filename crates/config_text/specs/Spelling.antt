-- Lines in their own words: which texts are lines of a form, with gaps as one likes behind its
-- words and signs.
use Rattle.std.specs.Prelude.{◌≡◌, ℕ, true, List, ◌∷◌, ◌++◌, length, codes}
use Rattle.text_lines.specs.declared.bytes.WordKind.TheVariants as kind
use Rattle.text_lines.specs.Bytes.{takes, is_tight}
use Rattle.text_lines.specs.Reading.{Text}
use Rattle.text_lines.specs.Spelling.{IsRun, IsGap, IsWord}
use Rattle.config_text.specs.Shapes.{SettingText}

-- section: NAME
pub record SpellsSection (xs : List ℕ) (name : Text) : Type 0 where
  pub behind_section : List ℕ
  pub behind_sign : List ℕ
  pub behind_name : List ℕ
  pub text : xs
      ≡ codes "section" ++ (behind_section ++ 58 ∷ (behind_sign ++ (name.text ++ behind_name)))
  pub word : IsWord (takes kind.Solid) name.text
  pub gaps : IsGap behind_section × IsGap behind_sign × IsGap behind_name
  pub place : name.left ≡ length (name.text ++ behind_name)

-- NAME: where the name may be empty
pub record SpellsHeader (xs : List ℕ) (name : Text) : Type 0 where
  pub behind_name : List ℕ
  pub behind_sign : List ℕ
  pub text : xs ≡ name.text ++ (behind_name ++ 58 ∷ behind_sign)
  pub run : IsRun (takes kind.Name) name.text
  pub gaps : IsGap behind_name × IsGap behind_sign
  pub place : name.left ≡ length xs

-- NAME
pub record SpellsAlias (xs : List ℕ) (name : Text) : Type 0 where
  pub behind_name : List ℕ
  pub text : xs ≡ name.text ++ behind_name
  pub word : IsWord (takes kind.Name) name.text
  pub gap : IsGap behind_name
  pub place : name.left ≡ length xs

-- KEY = VALUE, where the value is the rest of the line, and begins with no blank
pub record SpellsSetting (xs : List ℕ) (s : SettingText) : Type 0 where
  pub behind_key : List ℕ
  pub behind_sign : List ℕ
  pub text : xs ≡ s.key.text ++ (behind_key ++ 61 ∷ (behind_sign ++ s.value.text))
  pub word : IsWord (takes kind.Key) s.key.text
  pub gaps : IsGap behind_key × IsGap behind_sign
  pub tight : is_tight s.value.text ≡ true
  pub places : (s.key.left ≡ length xs) × (s.value.left ≡ length s.value.text)

-- ---- the lines of a form

abbrev pub IsSection : List ℕ → Type 0
IsSection xs = (name : Text) × SpellsSection xs name

abbrev pub IsHeader : List ℕ → Type 0
IsHeader xs = (name : Text) × SpellsHeader xs name

abbrev pub IsAlias : List ℕ → Type 0
IsAlias xs = (name : Text) × SpellsAlias xs name

abbrev pub IsSetting : List ℕ → Type 0
IsSetting xs = (s : SettingText) × SpellsSetting xs s
