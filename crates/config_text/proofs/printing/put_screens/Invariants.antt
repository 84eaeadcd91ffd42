use Rattle.std.proofs.Common.{◌≡◌, ◌++◌, drop}
use Rattle.std.specs.List.{flat_map}
use Rattle.config_text.specs.Normal.{screen_text}
use Rattle.config_text.proofs.printing.put_screens.Given as goal

abbrev pub invariant-loop-screen : goal.invariant-loop-screen
invariant-loop-screen l =
    l.out ++ flat_map screen_text (drop l.screen-index l.screens)
    ≡ l.fn.out ++ flat_map screen_text l.screens
