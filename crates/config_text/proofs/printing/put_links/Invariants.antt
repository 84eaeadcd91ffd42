use Rattle.std.proofs.Common.{◌≡◌, ◌++◌, drop}
use Rattle.std.specs.List.{flat_map}
use Rattle.config_text.specs.Normal.{links_of, links_text}
use Rattle.screen_config.specs.Values.{numbers_of}
use Rattle.config_text.proofs.printing.put_links.Given as goal

abbrev pub invariant-loop-screen : goal.invariant-loop-screen
invariant-loop-screen l =
    l.out ++ flat_map (links_of l.config) (drop l.screen (numbers_of l.config))
    ≡ l.fn.out ++ links_text l.config
