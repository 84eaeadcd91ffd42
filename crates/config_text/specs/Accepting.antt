-- A text is accepted where each line, in what the lines above it gave, is good, and no section is
-- left open. It is refused at the first line that offends, or at the line that opened the section
-- which is left open.
use Rattle.std.specs.Prelude.{◌≡◌, ℕ, List, Some, None, ◌⊎◌}
use Rattle.std.specs.Str.Lines.{lines}
use Rattle.text_lines.specs.LineByLine.{LeadsOver, OffendsIn}
use Rattle.config_text.specs.declared.faults.ConfigKind.TheVariants as kind
use Rattle.config_text.specs.declared.faults.ConfigRefusal.{ConfigRefusal}
use Rattle.config_text.specs.declared.sections.Opened.{Opened}
use Rattle.config_text.specs.Drafts.{Draft}
use Rattle.screen_config.specs.Configurations.{Configuration}
use Rattle.config_text.specs.Lines.{judged, start, refused}

pub record Accepts (text : List ℕ) (config : Configuration) : Type 0 where
  pub draft : Draft
  pub good : LeadsOver judged 1 start (lines text) draft
  pub closed : draft.opened ≡ None
  pub given : draft.config ≡ config

-- a line offends, and those above it are good
abbrev pub Offends : List ℕ → ConfigRefusal → Type 0
Offends text r = OffendsIn judged start (lines text) r

pub record LeavesOpen (text : List ℕ) (r : ConfigRefusal) : Type 0 where
  pub draft : Draft
  pub opened : Opened
  pub good : LeadsOver judged 1 start (lines text) draft
  pub open_there : draft.opened ≡ Some opened
  pub place : r ≡ refused opened.line opened.column kind.UnclosedSection

abbrev pub Refuses : List ℕ → ConfigRefusal → Type 0
Refuses text r = Offends text r ⊎ LeavesOpen text r
