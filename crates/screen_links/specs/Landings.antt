-- The landing of a walk over links, as an answer.
use Rattle.std.specs.Prelude.{ℕ, zero, suc, ◌*◌, Bool, true, false, ◌&&◌, ◌==◌, nat_le, nat_lt}
use Rattle.std.specs.Prelude.{List, [], ◌∷◌, Option, Some, None}
use Rattle.std.specs.List.{find, list_any}
use Rattle.std.specs.Option.{option_map}
use Rattle.share_base.specs.declared.shape.Side.{Side}
use Rattle.share_base.specs.Shapes.{same_side}
use Rattle.screen_links.specs.declared.link.Link.{Link}
use Rattle.screen_links.specs.declared.link.Landing.{Landing}
use Rattle.screen_links.specs.Walks.{landing_of}

-- the link is one of that side of that screen, and holds for that place
abbrev pub leaves : Side → Landing → Link → Bool
leaves side at link =
    (link.from.0 == at.screen.0) && same_side link.side side && nat_le (10000 * link.range.a) at.t
    && nat_lt at.t (10000 * link.range.b)

-- where the first link of that side leads
abbrev pub next_landing : List Link → Side → Landing → Option Landing
next_landing links side at = option_map (λ link. landing_of link at.t) (find (leaves side at) links)

abbrev pub was_seen : List ℕ → Landing → Bool
was_seen seen at = list_any (λ screen. screen == at.screen.0) seen

-- a walk ends without a landing where it comes to a screen again, and with one where the screen is
-- joined; else it goes on
abbrev pub landed : Bool → Bool → Landing → Option Landing → Option Landing
landed true joined at onward = None
landed false true at onward = Some at
landed false false at onward = onward

-- the landing of a walk that comes to this place, if any, and was at these screens, in at most so
-- many steps
abbrev pub landing_after : ℕ → List Link → (ℕ → Bool) → Side → List ℕ → Option Landing
    → Option Landing
landing_after steps links joined side seen None = None
landing_after zero links joined side seen (Some at) = None
landing_after (suc n) links joined side seen (Some at) =
    landed (was_seen seen at) (joined at.screen.0) at
    (landing_after n links joined side (at.screen.0 ∷ seen) (next_landing links side at))

-- there are no more screens than that
abbrev pub most_steps : ℕ
most_steps = 64

-- the landing of the walk that leaves a screen on a side at a place, where screens are joined by a
-- test
abbrev pub landing_across : List Link → (ℕ → Bool) → Side → Landing → Option Landing
landing_across links joined side at =
    landing_after most_steps links joined side (at.screen.0 ∷ []) (next_landing links side at)
