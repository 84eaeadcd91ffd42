-- Links in their own words.
use Rattle.std.specs.Prelude.{◌≡◌, ℕ, List, [], ◌∷◌, ◌++◌, length, Option, Some, None}
use Rattle.share_base.specs.declared.shape.Side.{Side}
use Rattle.text_lines.specs.declared.bytes.WordKind.TheVariants as kind
use Rattle.text_lines.specs.Bytes.{takes, front}
use Rattle.text_lines.specs.Reading.{Text}
use Rattle.text_lines.specs.Spelling.{IsGap, IsWord, SpellsNumber}
use Rattle.config_text.specs.Shapes.{RangeText, LinkText}
use Rattle.share_base.specs.Sides.{side_text, side_named}

-- (a,b)
pub record SpellsRange (xs : List ℕ) (r : RangeText) : Type 0 where
  pub first : List ℕ
  pub second : List ℕ
  pub behind_open : List ℕ
  pub behind_first : List ℕ
  pub behind_comma : List ℕ
  pub behind_second : List ℕ
  pub text : xs
      ≡ 40
      ∷ (behind_open
      ++ (first
      ++ (behind_first
      ++ 44 ∷ (behind_comma ++ (second ++ (behind_second ++ 41 ∷ []))))))
  pub numbers : SpellsNumber first r.a × SpellsNumber second r.b
  pub gaps : IsGap behind_open × IsGap behind_first × IsGap behind_comma × IsGap behind_second

-- a range at that place, or none and no text
abbrev pub SpellsMaybe : List ℕ → Option RangeText → ℕ → Type 0
SpellsMaybe xs None left = xs ≡ []
SpellsMaybe xs (Some r) left = SpellsRange xs r × (r.left ≡ left)

-- NAME[(c,d)]
pub record SpellsTarget (xs : List ℕ) (name : Text) (target : Option RangeText) : Type 0 where
  pub behind_name : List ℕ
  pub range : List ℕ
  pub behind_range : List ℕ
  pub text : xs ≡ name.text ++ (behind_name ++ (range ++ behind_range))
  pub word : IsWord (takes kind.Name) name.text
  pub spelled : SpellsMaybe range target (length (range ++ behind_range))
  pub gaps : IsGap behind_name × IsGap behind_range
  pub place : name.left ≡ length xs

-- SIDE[(a,b)] = NAME[(c,d)]
pub record SpellsLink (xs : List ℕ) (l : LinkText) : Type 0 where
  pub behind_side : List ℕ
  pub range : List ℕ
  pub behind_range : List ℕ
  pub behind_sign : List ℕ
  pub ends : List ℕ
  pub text : xs
      ≡ side_text l.side ++ (behind_side ++ (range ++ (behind_range ++ 61 ∷ (behind_sign ++ ends))))
  pub source : SpellsMaybe range l.source
      (length (range ++ (behind_range ++ 61 ∷ (behind_sign ++ ends))))
  pub target : SpellsTarget ends l.name l.target
  pub gaps : IsGap behind_side × IsGap behind_range × IsGap behind_sign
  pub place : l.left ≡ length xs

abbrev pub IsLink : List ℕ → Type 0
IsLink xs = (l : LinkText) × SpellsLink xs l

-- the side that the first word of a line names
abbrev pub side_first : List ℕ → Option Side
side_first xs = side_named (front (takes kind.Side) xs)
