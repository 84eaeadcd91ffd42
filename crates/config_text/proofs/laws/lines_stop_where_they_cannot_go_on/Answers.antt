use Rattle.config_text.proofs.Stops.{header_stops, alias_stops, setting_stops}
use Rattle.config_text.proofs.StopsSections.{section_stops}
use Rattle.config_text.proofs.laws.lines_stop_where_they_cannot_go_on.Goals as goal

pub returns : goal.returns
returns c =
    record {
      section = section_stops;
      header = header_stops;
      alias = alias_stops;
      setting = setting_stops;
    }
