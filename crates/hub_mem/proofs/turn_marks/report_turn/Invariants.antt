use Rattle.std.proofs.Common.{◌≡◌, ◌++◌, take}
use Rattle.std.specs.List.{list_any, flat_map}
use Rattle.script_screen.specs.Traces.{is_join}
use Rattle.hub_mem.specs.Answers.{accept_mark, marks_for}
use Rattle.hub_mem.proofs.turn_marks.report_turn.Given as goal

abbrev pub invariant-loop-serial : goal.invariant-loop-serial
invariant-loop-serial l = l.ready ≡ accept_mark (list_any is_join l.turn) ++ flat_map (marks_for l.turn) (take l.serial-index l.serials)
