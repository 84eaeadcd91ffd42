-- What the code's borrowed values stand for.
use Rattle.std.specs.Prelude.{Option, Some, None}
use Rattle.text_lines.specs.Views.{word_text}
use Rattle.config_text.specs.declared.shapes.RangeText as code_range
use Rattle.config_text.specs.declared.shapes.LinkText as code_link
use Rattle.config_text.specs.declared.shapes.SettingText as code_setting
use Rattle.config_text.specs.Shapes.{RangeText, LinkText, SettingText}

abbrev pub range_text : code_range.RangeText → RangeText
range_text r = record { a = r.a; b = r.b; left = r.left }

abbrev pub maybe_range_text : Option code_range.RangeText → Option RangeText
maybe_range_text None = None
maybe_range_text (Some r) = Some (range_text r)

abbrev pub link_text : code_link.LinkText → LinkText
link_text l =
    record {
      side = l.side;
      left = l.left;
      source = maybe_range_text l.source;
      name = word_text l.name;
      target = maybe_range_text l.target;
    }

abbrev pub setting_text : code_setting.SettingText → SettingText
setting_text s = record { key = word_text s.key; value = word_text s.value }
