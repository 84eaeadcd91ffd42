-- A hotkey's line in its own words: which texts are such lines, with gaps as one likes behind words
-- and signs. What an argument or a list is made of goes to some place of the line, so each part
-- here names the rest of the line behind it.
use Rattle.std.specs.Prelude.{◌≡◌, ℕ, Bool, true, false, List, [], ◌∷◌, ◌++◌, length, ◌⊎◌}
use Rattle.text_lines.specs.declared.bytes.WordKind.TheVariants as kind
use Rattle.text_lines.specs.Bytes.{takes, is_tight}
use Rattle.text_lines.specs.Reading.{begins}
use Rattle.text_lines.specs.Spelling.{IsRun, IsGap, IsWord}
use Rattle.hotkey_text.specs.declared.names.TriggerKind.{TriggerKind}
use Rattle.hotkey_text.specs.Names.{trigger_word}
use Rattle.hotkey_text.specs.Shapes.{ActionForm, HotkeyForm}

-- keystroke or mousebutton, and a ( behind it
pub record BeginsHotkey (xs : List ℕ) : Type 0 where
  pub of : TriggerKind
  pub behind_word : List ℕ
  pub rest : List ℕ
  pub text : xs ≡ trigger_word of ++ (behind_word ++ 40 ∷ rest)
  pub gap : IsGap behind_word

-- (ARGUMENT), which the first ) closes; the argument begins with no blank, and here is the line
-- from it on
pub record SpellsBrackets (xs argument rest : List ℕ) : Type 0 where
  pub behind_open : List ℕ
  pub inside : List ℕ
  pub behind_close : List ℕ
  pub text : xs ≡ 40 ∷ (behind_open ++ argument)
  pub closes : argument ≡ inside ++ 41 ∷ (behind_close ++ rest)
  pub run : IsRun (takes kind.Argument) inside
  pub tight : is_tight inside ≡ true
  pub gaps : IsGap behind_open × IsGap behind_close

-- ---- actions

-- WORD(ARGUMENT)
pub record SpellsAction (xs : List ℕ) (a : ActionForm) (rest : List ℕ) : Type 0 where
  pub behind_word : List ℕ
  pub brackets : List ℕ
  pub text : xs ≡ a.word.text ++ (behind_word ++ brackets)
  pub argument : SpellsBrackets brackets a.argument rest
  pub word : IsWord (takes kind.Action) a.word.text
  pub gap : IsGap behind_word
  pub place : a.word.left ≡ length xs

-- a comma, one action more, and the others behind it
pub record SpellsNext (xs : List ℕ) (a : ActionForm) (Others : List ℕ → Type 0) : Type 0 where
  pub behind_comma : List ℕ
  pub here : List ℕ
  pub rest : List ℕ
  pub text : xs ≡ 44 ∷ (behind_comma ++ here)
  pub gap : IsGap behind_comma
  pub action : SpellsAction here a rest
  pub others : Others rest

abbrev pub SpellsFurther : List ℕ → List ActionForm → List ℕ → Type 0
SpellsFurther xs [] rest = xs ≡ rest
SpellsFurther xs (a ∷ actions) rest = SpellsNext xs a (λ behind. SpellsFurther behind actions rest)

-- actions with commas between, or nothing
abbrev pub SpellsList : List ℕ → List ActionForm → List ℕ → Type 0
SpellsList xs [] rest = xs ≡ rest
SpellsList xs (a ∷ actions) rest =
    (behind : List ℕ) × SpellsAction xs a behind × SpellsFurther behind actions rest

-- ---- the line

-- nothing, or a ; and a list
abbrev pub SpellsRelease : List ℕ → Bool → List ActionForm → Type 0
SpellsRelease xs false actions = (xs ≡ []) × (actions ≡ [])
SpellsRelease xs true actions =
    (behind_sign : List ℕ) × (list : List ℕ) × (xs ≡ 59 ∷ (behind_sign ++ list)) × IsGap behind_sign
    × SpellsList list actions []

-- keystroke(ARGUMENT) = LIST, or mousebutton, and maybe ; LIST. A ; right behind the = is no word
-- of an action.
pub record SpellsHotkey (xs : List ℕ) (line : HotkeyForm) : Type 0 where
  pub behind_word : List ℕ
  pub brackets : List ℕ
  pub behind_sign : List ℕ
  pub lists : List ℕ
  pub second : List ℕ
  pub text : xs ≡ trigger_word line.kind ++ (behind_word ++ brackets)
  pub argument : SpellsBrackets brackets line.argument (61 ∷ (behind_sign ++ lists))
  pub press : SpellsList lists line.press second
  pub release : SpellsRelease second line.released line.release
  pub first : (line.press ≡ []) ⊎ (begins 59 lists ≡ false)
  pub gaps : IsGap behind_word × IsGap behind_sign

abbrev pub IsHotkey : List ℕ → Type 0
IsHotkey xs = (line : HotkeyForm) × SpellsHotkey xs line
