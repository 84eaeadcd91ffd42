-- The surroundings of the cursor, and the states of the machine that they show.
use Rattle.std.specs.Prelude.{◌≡◌, ℕ, ◌<◌, not, ◌==◌, length}
use Rattle.share_base.specs.declared.screen_set.TheConstants.{MOST_SCREENS}
use Rattle.share_base.specs.Screens.{has}
use Rattle.share_base.specs.Shapes.{IsScreenShape}
use Rattle.screen_config.specs.Configurations.{Configuration}
use Rattle.machine.specs.States.{State}
use Rattle.machine.specs.Screens.{screen_of, is_screen_joined}
use Rattle.machine.specs.Modifiers.{mods}
use Rattle.machine.specs.Edges.{active_shape}
use Rattle.screen_crossing.specs.declared.surroundings.Surroundings.{Surroundings}
use Rattle.screen_crossing.specs.Points.{point_of, IsPixel}

-- they are those of a state with that configuration
pub record Shows (r : Surroundings) (config : Configuration) (s : State) : Type 0 where
  pub config_is : config ≡ s.config
  pub screen : r.screen.0 ≡ screen_of s s.active
  pub shape : r.shape ≡ active_shape s
  pub cursor : point_of r.cursor ≡ s.cursor
  pub joined : (screen : ℕ) → has r.joined screen ≡ is_screen_joined s screen
  pub is_locked : r.is_locked ≡ s.is_locked
  pub sequence : r.sequence ≡ s.sequence
  pub has_mouse_down : r.has_mouse_down ≡ not (length s.buttons == 0)
  pub mods_are : r.mods.0 ≡ mods s

-- the screen has a number that screens have, its shape is one that screens have, and the cursor is
-- at a pixel
pub record IsPlaced (r : Surroundings) : Type 0 where
  pub screen : r.screen.0 < MOST_SCREENS
  pub shape : IsScreenShape r.shape
  pub cursor : IsPixel r.cursor
