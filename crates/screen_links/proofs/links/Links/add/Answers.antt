use Rattle.std.proofs.Common.{rules, is_ok, arith}
use Rattle.screen_links.proofs.SoundLinks.{sound_after}
use Rattle.screen_links.proofs.links.Links.add.Goals as goal

pub invariant_of-self : goal.invariant_of-self
invariant_of-self c =
    sound_after (is_ok c.push.result) c.self.inside.links.items _ c.push.new.self.items
    c.push.ensures.items c.self.invariant (search rules) (search rules)
    (c.requires.leaves_a_screen, c.requires.enters_a_screen) (omega arith)
