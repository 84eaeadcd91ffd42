-- The normal form of a sound configuration is read again, with the same value.
use Rattle.std.proofs.Common.{◌≡◌, [], ◌++◌, Ok}
use Rattle.std.specs.Prelude.{codes}
use Rattle.std.specs.List.{flat_map}
use Rattle.config_text.specs.declared.sections.Section.TheVariants as section
use Rattle.screen_config.specs.Configurations.{Configuration, nothing}
use Rattle.config_text.specs.Lines.{reading}
use Rattle.config_text.specs.Normal.{normal, section_of, screens_text, aliases_text, links_text}
use Rattle.config_text.specs.Normal.{options_text}
use Rattle.screen_config.specs.Sound.{IsSound}
use Rattle.config_text.specs.RoundTrip.{SpellsAgain}
use Rattle.screen_config.specs.Values.{aliases_in, links_in, numbers_of}
use Rattle.config_text.proofs.Acceptance.{accepts}
use Rattle.config_text.proofs.AliasesAgain.{aliases_again}
use Rattle.config_text.proofs.HotkeysAgain.{options_again}
use Rattle.config_text.proofs.KnownAgain.{sound_names}
use Rattle.config_text.proofs.LinksAgain.{links_again}
use Rattle.config_text.proofs.ScreensAgain.{of_screens, screens_again}
use Rattle.config_text.proofs.SectionsAgain.{ReadsWhole, section_again, whole_both, whole_read}
use Rattle.config_text.proofs.ValuesAgain.{in_order, value_same}

-- the sections, one after another
screens_read : (c : Configuration) → IsSound c
    → ReadsWhole nothing (section_of (codes "screens") (screens_text c)) (of_screens c.screens)
screens_read c s =
    let names = sound_names c s in
    section_again section.Screens nothing (of_screens c.screens) (screens_text c)
    (screens_again [] c.screens names.named names.others s.own s.screens)

pub text_again : (c : Configuration) → IsSound c → reading (normal c) ≡ Ok (in_order c)
unfolding normal
text_again c s =
    let one = of_screens c.screens in
    let two : Configuration = record one { aliases = flat_map (aliases_in c) (numbers_of c) } in
    let three : Configuration = record two { links = flat_map (links_in c) (numbers_of c) } in
    let screens = section_of (codes "screens") (screens_text c) in
    let aliases = section_of (codes "aliases") (aliases_text c) in
    let links = section_of (codes "links") (links_text c) in
    let options = section_of (codes "options") (options_text c) in
    let to_aliases =
    whole_both nothing one two screens aliases (screens_read c s)
    (section_again section.Aliases one two (aliases_text c) (aliases_again c s)) in
    let to_links =
    whole_both nothing two three (screens ++ aliases) links to_aliases
    (section_again section.Links two three (links_text c) (links_again c two.aliases s)) in
    let to_options =
    whole_both nothing three (in_order c) ((screens ++ aliases) ++ links) options to_links
    (section_again section.Options three (in_order c) (options_text c)
    (options_again c two.aliases three.links s))
    in
    whole_read (((screens ++ aliases) ++ links) ++ options) (in_order c) to_options

pub spelled_again : (c : Configuration) → IsSound c → SpellsAgain (normal c) c
spelled_again c s = (in_order c, accepts (normal c) (in_order c) (text_again c s), value_same c)
