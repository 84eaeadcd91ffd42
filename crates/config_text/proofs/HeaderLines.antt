-- Lines that need a header and have none above them.
use Rattle.std.proofs.Common.{◌≡◌, ◌≢◌, ℕ, ◌+◌, ◌-◌, false, List, length, Err, Some, None, Option}
use Rattle.std.proofs.Common.{refl, ap, ◌∙◌}
use Rattle.text_lines.specs.Lines.{Words, line_text}
use Rattle.config_text.specs.declared.faults.ConfigKind.TheVariants as kind
use Rattle.config_text.specs.declared.sections.Opened.{Opened}
use Rattle.config_text.specs.declared.sections.Section.{Section}
use Rattle.config_text.specs.declared.sections.Section.TheVariants as section
use Rattle.config_text.specs.Drafts.{Draft}
use Rattle.config_text.specs.Judging.{fault_at}
use Rattle.config_text.specs.Lines.{judged, judged_as, placed, refused}
use Rattle.config_text.specs.Sections.{alias_line, in_section, inside, is_header, link_line}
use Rattle.config_text.specs.Sections.{screen_line, words_in}
use Rattle.screen_config.specs.Sound.{is_end}

below_none : (s : Section) (d : Draft) (xs : List ℕ) → s ≢ section.Options → d.header ≡ None
    → is_header xs ≡ false → in_section s d xs ≡ Err (fault_at kind.BadLine (length xs))
unfolding in_section screen_line alias_line link_line
below_none section.Screens d xs o h e = rw (e, h) refl
below_none section.Aliases d xs o h e = rw (e, h) refl
below_none section.Links d xs o h e = rw (e, h) refl
below_none section.Options d xs o h e = absurd (o refl)

pub no_header : (line : ℕ) (d : Draft) (o : Opened) (raw xs : List ℕ) (end : ℕ) → d.opened ≡ Some o
    → o.section ≢ section.Options → d.header ≡ None → line_text raw ≡ Words xs end
    → is_end xs ≡ false → is_header xs ≡ false
    → judged line d raw ≡ Err (refused line (end - length xs + 1) kind.BadLine)
unfolding judged words_in
no_header line d o raw xs end opened needs none words goes_on e =
    let column = end - length xs + 1 in
    ap (λ t. judged_as t line d) words
    ∙ ap (λ (k : Option Opened). placed line end (inside k line column d xs)) opened
    ∙ rw (goes_on) (ap (placed line end) (below_none o.section d xs needs none e))
