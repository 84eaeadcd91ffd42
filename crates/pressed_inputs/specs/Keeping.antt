-- What a table of pressed inputs keeps of what the script holds down.
use Rattle.std.specs.Prelude.{ℕ, ◌<◌, Bool, Option, All}
use Rattle.share_base.specs.declared.numbers.RuleNo.{RuleNo}
use Rattle.modifier_map.specs.Presses.{StandsFor}
use Rattle.machine.specs.Routes.{taking}
use Rattle.pressed_inputs.specs.declared.pressed.Pressed.{Pressed}
use Rattle.pressed_inputs.specs.Tables.{Tabulates}
use Rattle.pressed_inputs.specs.Inputs.{Inputs, id_down, is_among}

pub record Keeps (p : Pressed) (i : Inputs) : Type 0 where
  pub ids : Tabulates ℕ p.ids (id_down i.presses)
  pub mods : StandsFor p.mods i.presses
  pub taken_keys : Tabulates (Option RuleNo) p.taken_keys (taking i.taken_keys)
  pub buttons : Tabulates Bool p.buttons (is_among i.buttons)
  pub each_button : All (λ b. b < 256) i.buttons
  pub taken_buttons : Tabulates (Option RuleNo) p.taken_buttons (taking i.taken_buttons)

-- from all inputs that it kept, this step leads to what it keeps now
abbrev pub Leads : Pressed → Pressed → (Inputs → Inputs) → Type 0
Leads old new step = (i : Inputs) → Keeps old i → Keeps new (step i)
