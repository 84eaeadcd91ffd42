-- What the tables of buttons represent.
use Rattle.std.specs.Prelude.{◌≡◌, ℕ, ◌<◌, false, List, get_or}
use Rattle.generated_texts.specs.declared.down.Down.{Down}
use Rattle.generated_texts.specs.declared.event.Event.{Event}
use Rattle.generated_texts.specs.Lines.{is_key_down, is_button_down}

-- each button is down where these events leave it down
pub record IsDownAfter (down : Down) (events : List Event) : Type 0 where
  pub keys : (b : ℕ) → b < 41 → get_or down.keys b false ≡ is_key_down events b
  pub buttons : (b : ℕ) → b < 4 → get_or down.buttons b false ≡ is_button_down events b
