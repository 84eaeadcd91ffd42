-- A walk over links, from a place on a side of a screen to the next screen that is there.
use Rattle.std.specs.Prelude.{◌≡◌, ◌≢◌, ◌↔◌, Option, Some, ℕ, ◌+◌, ◌-◌, ◌*◌, ◌/◌, ◌<◌, ◌≤◌, true}
use Rattle.std.specs.Prelude.{false, List, [], ◌∷◌, ◌++◌, map, All, AllPairs, Contains}
use Rattle.share_base.specs.declared.shape.Side.{Side}
use Rattle.share_base.specs.declared.screen_set.TheConstants.{MOST_SCREENS}
use Rattle.share_base.specs.Screens.{has}
use Rattle.screen_links.specs.declared.link.Link.{Link}
use Rattle.screen_links.specs.declared.link.Landing.{Landing}

-- the place, in millionths of the side, lies in the link's range, which is in hundredths
pub record Holds (link : Link) (t : ℕ) : Type 0 where
  pub from_its_start : 10000 * link.range.a ≤ t
  pub before_its_end : t < 10000 * link.range.b

-- the place as far along the one range as t is along the other
abbrev pub place_after : Link → ℕ → ℕ
place_after link t =
    10000 * link.onto.a
    + (t - 10000 * link.range.a) * (link.onto.b - link.onto.a) / (link.range.b - link.range.a)

abbrev pub landing_of : Link → ℕ → Landing
landing_of link t = record { screen = link.to; t = place_after link t }

-- the link is one of that side of that screen, and holds for that place
pub record Leaves (link : Link) (side : Side) (at : Landing) : Type 0 where
  pub same_screen : link.from ≡ at.screen
  pub same_side : link.side ≡ side
  pub holds : Holds link at.t

-- the links lead from one place to the other: each leaves where the one before lands
abbrev pub Leads : List Link → Side → Landing → Landing → Type 0
Leads [] side at end = at ≡ end
Leads (link ∷ chain) side at end = Leaves link side at × Leads chain side (landing_of link at.t) end

-- the screens that a chain names
abbrev pub named : List Link → List ℕ
named chain = map (λ link. link.to.0) chain

abbrev pub AreDistinct : List ℕ → Type 0
AreDistinct screens = AllPairs (λ one other. one ≢ other) screens

-- some chain of these links, all of that side, leads from the place to the landing. It names each
-- screen once, and not the first one. The last screen is joined, and no screen before it is
pub record Across (links : List Link) (joined : ℕ) (side : Side) (at landing : Landing)
    : Type 0 where
  pub middle : List Link
  pub last : Link
  pub among : All (Contains links) (middle ++ last ∷ [])
  pub leads : Leads (middle ++ last ∷ []) side at landing
  pub distinct : AreDistinct (at.screen.0 ∷ named (middle ++ last ∷ []))
  pub passes : All (λ link. has joined link.to.0 ≡ false) middle
  pub joins : has joined last.to.0 ≡ true

-- the answer is the one landing of a walk, and none where no walk has a landing
abbrev pub Lands : List Link → ℕ → Side → Landing → Option Landing → Type 0
Lands links joined side at answer =
    (landing : Landing) → (answer ≡ Some landing) ↔ Across links joined side at landing

-- the landing is on a screen, and on its side
abbrev pub IsPlace : Landing → Type 0
IsPlace landing = (landing.screen.0 < MOST_SCREENS) × (landing.t < 1000000)
