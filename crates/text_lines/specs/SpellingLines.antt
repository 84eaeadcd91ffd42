-- A line in its own words: what counts of it, with gaps around, and maybe a comment behind.
use Rattle.std.specs.Prelude.{◌≡◌, ℕ, ◌<◌, Bool, false, true, not, ◌==◌, ◌&&◌, List, [], ◌∷◌, ◌++◌}
use Rattle.std.specs.Prelude.{length}
use Rattle.text_lines.specs.Bytes.{is_blank, is_allowed, is_tight}
use Rattle.text_lines.specs.Spelling.{IsRun, IsGap}

-- it may stand outside a comment, and begins none
abbrev pub is_content : ℕ → Bool
is_content b = is_allowed b && not (b == 35)

-- nothing, or a # and whatever follows it
abbrev pub IsComment : List ℕ → Type 0
IsComment [] = Unit {0}
IsComment (b ∷ bs) = b ≡ 35

-- no blank stands at its end
abbrev pub EndsTight : List ℕ → Type 0
EndsTight xs = (front : List ℕ) (b : ℕ) → xs ≡ front ++ b ∷ [] → is_blank b ≡ false

-- blanks alone, and maybe a comment
pub record SpellsEmpty (raw : List ℕ) : Type 0 where
  pub gap : List ℕ
  pub comment : List ℕ
  pub text : raw ≡ gap ++ comment
  pub blank : IsGap gap
  pub ends : IsComment comment

-- words with a blank at neither end, which end so many bytes from the line's begin
pub record SpellsContent (raw words : List ℕ) (end : ℕ) : Type 0 where
  pub before : List ℕ
  pub behind : List ℕ
  pub comment : List ℕ
  pub text : raw ≡ before ++ (words ++ (behind ++ comment))
  pub some : 0 < length words
  pub run : IsRun is_content words
  pub tight : is_tight words ≡ true
  pub ends_tight : EndsTight words
  pub gaps : IsGap before × IsGap behind
  pub ends : IsComment comment
  pub place : end ≡ length (before ++ words)

-- a byte that may not stand in a line, so many bytes from the line's begin, and none such before it
pub record SpellsForbidden (raw : List ℕ) (place : ℕ) : Type 0 where
  pub good : List ℕ
  pub bad : ℕ
  pub rest : List ℕ
  pub text : raw ≡ good ++ bad ∷ rest
  pub run : IsRun is_content good
  pub forbidden : is_allowed bad ≡ false
  pub stands : place ≡ length good
