-- The made configuration is read.
use Rattle.std.proofs.Common.{◌≡◌, Ok, refl}
use Rattle.share_base.specs.Names.{is_name, same_name}
use Rattle.text_lines.specs.Lines.{line_text, trimmed}
use Rattle.text_lines.specs.LineByLine.{all_lines}
use Rattle.text_lines.specs.Reading.{literal_at, sign_at, word_at}
use Rattle.screen_config.specs.Configurations.{screen_of}
use Rattle.config_text.specs.Accepting.{Accepts}
use Rattle.config_text.specs.Judging.{known_screen, new_screen, good_range, overlaps, one_link_more}
use Rattle.config_text.specs.Judging.{new_link}
use Rattle.config_text.specs.Lines.{judged, reading}
use Rattle.config_text.specs.Sections.{section_named, outside, is_header, screen_header}
use Rattle.config_text.specs.Sections.{known_header, link_line, in_section, words_in}
use Rattle.config_text.specs.Shapes.{section_at, header_at, maybe_range_at, link_at}
use Rattle.config_text.proofs.Acceptance.{accepts}
use Rattle.generated_texts.specs.Screens.{config_text}
use Rattle.made_accepted.specs.Spoken.{made_config}

config_read : reading config_text ≡ Ok made_config
unfolding made_config config_text reading all_lines judged line_text trimmed words_in outside
    section_at literal_at sign_at word_at section_named in_section is_header screen_header header_at
    known_header link_line link_at maybe_range_at new_screen known_screen new_link good_range
    one_link_more overlaps screen_of is_name same_name
config_read = refl

pub config_accepted : Accepts config_text made_config
config_accepted = accepts config_text made_config config_read
