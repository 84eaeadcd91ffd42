-- The edges of the active screen: which one a point has passed, what blocks it, and where it leads.
use Rattle.std.specs.Prelude.{ℕ, Bool, not, ◌||◌, ◌&&◌, ◌==◌, nat_abs, length, Option, None, if◌then◌else◌}
use Rattle.std.specs.Option.{option_map, option_and_then, option_or}
use Rattle.share_base.specs.declared.shape.Shape.{Shape}
use Rattle.share_base.specs.declared.shape.Side.{Side}
use Rattle.screen_links.specs.declared.link.Landing.{Landing}
use Rattle.screen_links.specs.Places.{place_of}
use Rattle.screen_links.specs.Landings.{landing_across}
use Rattle.modifier_map.specs.declared.class.ModClass.{ModClass}
use Rattle.modifier_map.specs.declared.class.ModClass.TheVariants as class
use Rattle.option_table.specs.declared.rows.OptionName.{OptionName}
use Rattle.option_table.specs.declared.rows.OptionName.TheVariants as option
use Rattle.edge_cross.specs.declared.edge.Axis.{Axis}
use Rattle.edge_cross.specs.declared.edge.Axis.TheVariants.{Horizontal, Vertical}
use Rattle.edge_cross.specs.declared.edge.Edge.{Edge}
use Rattle.edge_cross.specs.Edges.{axis_of, side_length}
use Rattle.edge_cross.specs.PassedEdges.{edge_at, edge_passed}
use Rattle.edge_cross.specs.CornerTests.{is_in_corner}
use Rattle.screen_config.specs.Globals.{flag, corners_of}
use Rattle.machine.specs.States.{State, Point}
use Rattle.machine.specs.Screens.{screen_of, shape_of, is_screen_joined}
use Rattle.machine.specs.Modifiers.{has_mod}

-- no edge is crossed at this sequence, so that it never has to rise
abbrev pub last_sequence : ℕ
last_sequence = 4294967295

abbrev pub active_shape : State → Shape
active_shape s = shape_of s s.active

-- ---- which edge

abbrev pub passed_edge : State → Point → Axis → Option Edge
passed_edge s p axis = edge_passed axis (active_shape s) p.x p.y

-- the edge of that side at the cursor's place
abbrev pub edge_at_cursor : State → Side → Edge
edge_at_cursor s side = edge_at (axis_of side) (active_shape s) s.cursor.x s.cursor.y side

-- how many pixels it has
abbrev pub edge_length : State → Side → ℕ
edge_length s side = nat_abs (side_length (axis_of side) (active_shape s))

-- ---- what blocks it

-- a modifier that the option asks for isn't held
abbrev pub lacks : State → OptionName → ModClass → Bool
lacks s option c = flag s.config.settings option && not (has_mod s c)

abbrev pub lacks_modifier : State → Bool
lacks_modifier s = lacks s option.SwitchNeedsShift class.Shift
    || lacks s option.SwitchNeedsControl class.Control || lacks s option.SwitchNeedsAlt class.Alt

abbrev pub is_at_corner : State → Edge → Bool
is_at_corner s e =
    is_in_corner (corners_of s.config (screen_of s s.active)) e.side e.p (edge_length s e.side)

abbrev pub is_blocked : State → Edge → Bool
is_blocked s e = s.is_locked || (s.sequence == last_sequence) || not (length s.buttons == 0)
    || is_at_corner s e || lacks_modifier s

-- ---- where it leads

abbrev pub place_on : State → Edge → Landing
place_on s e =
    record { screen = record { 0 = screen_of s s.active }; t = place_of e.p (edge_length s e.side) }

abbrev pub landing : State → Edge → Option Landing
landing s e = landing_across s.config.links (is_screen_joined s) e.side (place_on s e)

-- a side that may be crossed, and where it leads
pub record Way : Type 0 where
  pub side : Side
  pub landing : Landing

abbrev pub way : State → Edge → Option Way
way s e =
    option_map (λ l. record { side = e.side; landing = l })
    (if is_blocked s e then None else landing s e)

abbrev pub way_on : State → Point → Axis → Option Way
way_on s p axis = option_and_then (way s) (passed_edge s p axis)

-- the horizontal edge is tried before the vertical one
abbrev pub first_way : State → Point → Option Way
first_way s p = option_or (way_on s p Horizontal) (way_on s p Vertical)
