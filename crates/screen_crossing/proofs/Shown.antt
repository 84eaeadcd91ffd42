-- What the surroundings answer is what the machine's definitions answer of a state that they show.
use Rattle.std.proofs.Common.{◌≡◌, ℕ, Bool, not, ◌&&◌, Option, None, Some, refl, sym, ap, ◌∙◌, ◌↔◌}
use Rattle.std.proofs.Math.Path.{fun_ext}
use Rattle.std.specs.Prelude.{◌==◌, nat_abs, bit_and}
use Rattle.share_base.specs.declared.shape.Shape.{Shape}
use Rattle.share_base.specs.declared.shape.Side.{Side}
use Rattle.share_base.specs.Screens.{has}
use Rattle.modifier_map.specs.declared.class.ModClass.{ModClass}
use Rattle.modifier_map.specs.Table.{row}
use Rattle.screen_links.specs.Places.{place_of}
use Rattle.screen_links.specs.Landings.{landing_across}
use Rattle.option_table.specs.declared.rows.OptionName.{OptionName}
use Rattle.edge_cross.specs.declared.edge.Axis.{Axis}
use Rattle.edge_cross.specs.declared.edge.Edge.{Edge}
use Rattle.edge_cross.specs.Edges.{axis_of, side_length}
use Rattle.edge_cross.specs.PassedEdges.{edge_at, edge_passed}
use Rattle.edge_cross.specs.CornerTests.{is_in_corner}
use Rattle.screen_config.specs.Configurations.{Configuration}
use Rattle.screen_config.specs.Globals.{flag, corners_of}
use Rattle.machine.specs.States as machine
use Rattle.machine.specs.States.{State}
use Rattle.machine.specs.Screens.{screen_of, is_screen_joined}
use Rattle.machine.specs.Edges.{active_shape, passed_edge, edge_at_cursor, lacks, is_at_corner, landing}
use Rattle.screen_crossing.specs.declared.surroundings.Surroundings.{Surroundings}
use Rattle.screen_crossing.specs.Showing.{Shows}

pub same_option : {A : Type 0} (one other : Option A) → ((a : A) → (one ≡ Some a) ↔ (other ≡ Some a)) → one ≡ other
same_option None None same = refl
same_option None (Some a) same = (same a).1 refl
same_option (Some a) other same = sym ((same a).0 refl)

module _ (r : Surroundings) (config : Configuration) (s : State) (shows : Shows r config s) where
  pub lacks_shown : (option : OptionName) (class : ModClass) → (flag config.settings option && not (not (bit_and r.mods.0 (row class).bit == 0))) ≡ lacks s option class
  lacks_shown option class =
      ap (λ (c : Configuration). flag c.settings option && not (not (bit_and r.mods.0 (row class).bit == 0))) shows.config_is
      ∙ ap (λ (mods : ℕ). flag s.config.settings option && not (not (bit_and mods (row class).bit == 0))) shows.mods_are

  pub corner_shown : (e : Edge) → is_in_corner (corners_of config r.screen.0) e.side e.p (nat_abs (side_length (axis_of e.side) r.shape)) ≡ is_at_corner s e
  corner_shown e =
      ap (λ (c : Configuration). is_in_corner (corners_of c r.screen.0) e.side e.p (nat_abs (side_length (axis_of e.side) r.shape))) shows.config_is
      ∙ ap (λ (n : ℕ). is_in_corner (corners_of s.config n) e.side e.p (nat_abs (side_length (axis_of e.side) r.shape))) shows.screen
      ∙ ap (λ (shape : Shape). is_in_corner (corners_of s.config (screen_of s s.active)) e.side e.p (nat_abs (side_length (axis_of e.side) shape))) shows.shape

  pub landing_shown : (e : Edge) → landing_across config.links (has r.joined) e.side (record { screen = r.screen; t = place_of e.p (nat_abs (side_length (axis_of e.side) r.shape)) }) ≡ landing s e
  landing_shown e =
      ap (λ (c : Configuration). landing_across c.links (has r.joined) e.side (record { screen = r.screen; t = place_of e.p (nat_abs (side_length (axis_of e.side) r.shape)) })) shows.config_is
      ∙ ap (λ (joined : ℕ → Bool). landing_across s.config.links joined e.side (record { screen = r.screen; t = place_of e.p (nat_abs (side_length (axis_of e.side) r.shape)) })) (fun_ext shows.joined)
      ∙ ap (λ (n : ℕ). landing_across s.config.links (is_screen_joined s) e.side (record { screen = record { 0 = n }; t = place_of e.p (nat_abs (side_length (axis_of e.side) r.shape)) })) shows.screen
      ∙ ap (λ (shape : Shape). landing_across s.config.links (is_screen_joined s) e.side (record { screen = record { 0 = screen_of s s.active }; t = place_of e.p (nat_abs (side_length (axis_of e.side) shape)) })) shows.shape

  pub passed_shown : (p : machine.Point) (axis : Axis) → edge_passed axis r.shape p.x p.y ≡ passed_edge s p axis
  passed_shown p axis = ap (λ (shape : Shape). edge_passed axis shape p.x p.y) shows.shape

  pub cursor_shown : (side : Side) → edge_at (axis_of side) r.shape r.cursor.x r.cursor.y side ≡ edge_at_cursor s side
  cursor_shown side =
      ap (λ (shape : Shape). edge_at (axis_of side) shape r.cursor.x r.cursor.y side) shows.shape
      ∙ ap (λ (p : machine.Point). edge_at (axis_of side) (active_shape s) p.x p.y side) shows.cursor
