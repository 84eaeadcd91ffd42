-- What holds of all links that were added: their ranges are good and, on one side of a screen,
-- apart.
use Rattle.std.specs.Prelude.{◌≡◌, ◌<◌, ◌≤◌, List, length, All, AllPairs}
use Rattle.share_base.specs.declared.screen_set.TheConstants.{MOST_SCREENS}
use Rattle.screen_links.specs.declared.link.Link.{Link}
use Rattle.screen_links.specs.Ranges.{Meet}
use Rattle.screen_links.specs.Adding.{HasGoodRanges}
use Rattle.screen_links.specs.declared.links.TheConstants.{MOST_LINKS}

-- they stand on different sides, or have no hundredth in common
abbrev pub Apart : Link → Link → Type 0
Apart one other = one.from ≡ other.from → one.side ≡ other.side → Meet one.range other.range → ⊥

abbrev pub AreApart : List Link → Type 0
AreApart links = AllPairs Apart links

-- both ends are screens
abbrev pub JoinsScreens : Link → Type 0
JoinsScreens link = (link.from.0 < MOST_SCREENS) × (link.to.0 < MOST_SCREENS)

pub record AreSound (links : List Link) : Type 0 where
  pub apart : AreApart links
  pub ranges : All HasGoodRanges links
  pub screens : All JoinsScreens links
  pub few : length links ≤ MOST_LINKS
