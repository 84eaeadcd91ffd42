-- How texts spell gaps, words and numbers, and where a line stops to be one of its form.
use Rattle.std.specs.Prelude.{◌≡◌, ℕ, ◌<◌, Bool, true, List, [], ◌∷◌, ◌++◌, length}
use Rattle.std.specs.List.{list_all}
use Rattle.std.specs.Fmt.{decimal}
use Rattle.text_lines.specs.Bytes.{is_blank}

-- bytes of one kind, or nothing
abbrev pub IsRun : (ℕ → Bool) → List ℕ → Type 0
IsRun p w = list_all p w ≡ true

-- blanks, or nothing
abbrev pub IsGap : List ℕ → Type 0
IsGap gap = IsRun is_blank gap

-- bytes of one kind, one at least
abbrev pub IsWord : (ℕ → Bool) → List ℕ → Type 0
IsWord p w = (0 < length w) × IsRun p w

-- the decimal digits of a number, one to three
abbrev pub SpellsNumber : List ℕ → ℕ → Type 0
SpellsNumber w n = (w ≡ decimal n) × (n < 1000)

-- a line of that form begins so
abbrev pub CanGoOn : (List ℕ → Type 0) → List ℕ → Type 0
CanGoOn Form xs = (more : List ℕ) × Form (xs ++ more)

-- a line of that form can go on up to the place where so many bytes are left, and not over the byte
-- there
pub record StopsAt (Form : List ℕ → Type 0) (xs : List ℕ) (left : ℕ) : Type 0 where
  pub good : List ℕ
  pub bad : List ℕ
  pub parts : xs ≡ good ++ bad
  pub place : length bad ≡ left
  pub goes_on : CanGoOn Form good
  pub no_more : (b : ℕ) (rest : List ℕ) → bad ≡ b ∷ rest → CanGoOn Form (good ++ b ∷ []) → ⊥
