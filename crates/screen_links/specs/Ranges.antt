-- Parts of a side, in hundredths.
use Rattle.std.specs.Prelude.{ℕ, ◌<◌, ◌≤◌}
use Rattle.screen_links.specs.declared.range.Range.{Range}

-- it lies within the side, and isn't empty
pub record IsGood (range : Range) : Type 0 where
  pub some : range.a < range.b
  pub within : range.b ≤ 100

-- the hundredth lies in it
abbrev pub Within : Range → ℕ → Type 0
Within range p = (range.a ≤ p) × (p < range.b)

-- some hundredth lies in both
abbrev pub Meet : Range → Range → Type 0
Meet one other = (p : ℕ) × Within one p × Within other p
