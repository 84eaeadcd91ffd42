-- Hotkeys that are printed are read again.
use Rattle.std.proofs.Common.{◌≡◌, ℕ, ◌<◌, true, List, [], ◌∷◌, ◌++◌, length, map, Ok, refl, ap}
use Rattle.std.proofs.Common.{sym, subst, ◌∙◌, append_assoc, append-nil}
use Rattle.std.specs.List.{list_all, flat_map}
use Rattle.std.proofs.lemmas.Bool.{and_parts, and_from, not_from_false, ltb-true}
use Rattle.share_base.proofs.ListTests.{all_weaker, all_parts}
use Rattle.text_lines.proofs.SpelledWords.{filled_some}
use Rattle.hotkey_rules.specs.declared.action.Action.{Action}
use Rattle.hotkey_rules.specs.declared.action.Action.TheVariants as action
use Rattle.hotkey_rules.specs.declared.rule.Rule.{Rule}
use Rattle.hotkey_text.specs.RoundTrip.{is_argument_byte, is_screen_word, has_screen_word}
use Rattle.hotkey_text.specs.RoundTrip.{is_spelled}
use Rattle.hotkey_text.specs.RoundTrip.{words_of, HasWordsOf, HaveWordsOf, texts_of}
use Rattle.hotkey_text.specs.Printed.{trigger_text, hotkey_text}
use Rattle.hotkey_text.specs.Shapes.{ActionForm}
use Rattle.hotkey_rules.specs.WellFormed.{is_trigger, is_action}
use Rattle.hotkey_text.proofs.LineBytes.{line_clean, line_equals}
use Rattle.hotkey_text.proofs.LinesAgain.{line_again}
use Rattle.screen_links.specs.declared.link.Link.{Link}
use Rattle.option_table.specs.Printed.{option_lines}
use Rattle.option_table.specs.Settings.{Values, none_set}
use Rattle.screen_config.specs.declared.screens.Alias.{Alias}
use Rattle.config_text.specs.declared.sections.Section.TheVariants as section
use Rattle.screen_config.specs.ActionKeys.{actions_in}
use Rattle.screen_config.specs.Configurations.{Configuration, screen_of}
use Rattle.config_text.specs.Hotkeys.{screen_named, meant, action_of, actions_of, new_hotkey}
use Rattle.config_text.specs.Normal.{one_tab, screen_in, action_of as action_printed, hotkey_of}
use Rattle.config_text.specs.Normal.{hotkeys_text, options_text}
use Rattle.config_text.specs.Sections.{in_section, hotkey_line}
use Rattle.screen_config.specs.SoundHotkeys.{action_below, is_action_among, AreHotkeys}
use Rattle.screen_config.specs.Sound.{IsSound}
use Rattle.screen_config.specs.Values.{name_of}
use Rattle.config_text.proofs.CleanLines.{equals_no_end, equals_no_header}
use Rattle.config_text.proofs.KeysAgain.{bare, actions_are, room_again, rule_again}
use Rattle.config_text.proofs.KnownAgain.{AreNamed, is_name_again, place_again, sound_names}
use Rattle.config_text.proofs.NamesAgain.{name_passes}
use Rattle.config_text.proofs.NamesClean.{clean_name}
use Rattle.config_text.proofs.OptionsAgain.{for_all_again}
use Rattle.config_text.proofs.Runs.{ReadsText, no_text, text_both, line_of_text}

-- ---- the names of screens

screen_word : (c : Configuration) (n : ℕ) → AreNamed c.screens → n < length c.screens
    → is_screen_word (name_of c n) ≡ true
screen_word c n a lt =
    let name = is_name_again c n a lt in
    and_from _ _ (not_from_false _ (filled_some (name_of c n) (clean_name (name_of c n) name).some))
    (name_passes is_argument_byte refl (name_of c n) name)

-- ---- actions

-- a text can spell the actions of a configuration
has_word : (c : Configuration) (a : Action) → AreNamed c.screens
    → action_below (length c.screens) a ≡ true → has_screen_word a (screen_in c a) ≡ true
has_word c (action.SwitchTo screen) n h =
    screen_word c screen.0 n (ltb-true screen.0 (length c.screens) h)
has_word c a n h = refl

spelled : (c : Configuration) → AreNamed c.screens → (a : Action)
    → is_action_among (length c.screens) a ≡ true → is_spelled a (screen_in c a) ≡ true
spelled c n a h =
    let parts = and_parts (is_action a) (action_below (length c.screens) a) h in
    and_from (is_action a) (has_screen_word a (screen_in c a)) parts.0 (has_word c a n parts.1)

-- its words mean it, but for its key's button
meant_again : (c : Configuration) (a : Action) (left : ℕ) → AreNamed c.screens
    → action_below (length c.screens) a ≡ true
    → meant c (words_of a (screen_in c a) left) ≡ Ok (bare a)
unfolding screen_named screen_of
meant_again c (action.SwitchTo screen) left n h =
    rw (place_again c.screens screen.0 n.others (ltb-true screen.0 (length c.screens) h)) refl
meant_again c a left n h = refl

action_again : (c : Configuration) (a : Action) (form : ActionForm) → AreNamed c.screens
    → is_action_among (length c.screens) a ≡ true → HasWordsOf a (screen_in c a) form
    → action_of c form ≡ Ok (bare a)
unfolding action_of
action_again c a form n h w =
    rw (w.read)
    (meant_again c a w.left n (and_parts (is_action a) (action_below (length c.screens) a) h).1)

actions_again : (c : Configuration) (actions : List Action) (forms : List ActionForm)
    → AreNamed c.screens → list_all (is_action_among (length c.screens)) actions ≡ true
    → HaveWordsOf (screen_in c) actions forms → actions_of c forms ≡ Ok (map bare actions)
unfolding actions_of
actions_again c [] [] n h w = refl
actions_again c (a ∷ actions) (form ∷ forms) n h w =
    let parts =
    and_parts (is_action_among (length c.screens) a)
    (list_all (is_action_among (length c.screens)) actions) h in
    rw (action_again c a form n parts.0 w.0, actions_again c actions forms n parts.1 w.1) refl
actions_again c actions forms n h w = absurd w

-- ---- one hotkey behind those before it

abbrev with_hotkeys : Configuration → List Rule → Configuration
with_hotkeys c hotkeys = record c { hotkeys = hotkeys }

-- the screens of a configuration, and these parts
abbrev with_parts : Configuration → List Alias → List Link → Values → List Rule → Configuration
with_parts c aliases links settings hotkeys =
    record {
      screens = c.screens;
      aliases = aliases;
      links = links;
      settings = settings;
      hotkeys = hotkeys;
    }

hotkey_again : (c : Configuration) (front : List Rule) (rule : Rule) (more : List Rule)
    → AreNamed c.screens → AreHotkeys (length c.screens) (front ++ rule ∷ more)
    → ReadsText section.Options (with_hotkeys c front) (hotkey_of c rule)
    (with_hotkeys c (front ++ rule ∷ []))
unfolding hotkey_of action_printed in_section hotkey_line new_hotkey
hotkey_again c front rule more n s =
    let sorts = is_action_among (length c.screens) in
    let triggers = all_parts (λ (r : Rule). is_trigger r.trigger) front (rule ∷ more) s.triggers in
    let trigger =
    (and_parts (is_trigger rule.trigger) (list_all (λ (r : Rule). is_trigger r.trigger) more)
    triggers.1).0
    in
    let actions : list_all sorts
    (actions_in front ++ ((rule.press ++ rule.release) ++ actions_in more))
    ≡ true =
    sym (ap (list_all sorts) (actions_are front rule more)) ∙ s.actions in
    let behind =
    all_parts sorts (actions_in front) ((rule.press ++ rule.release) ++ actions_in more) actions
    in
    let own = all_parts sorts (rule.press ++ rule.release) (actions_in more) behind.1 in
    let both = all_parts sorts rule.press rule.release own.0 in
    let press =
    all_weaker sorts (λ a. is_spelled a (screen_in c a)) (spelled c n) rule.press both.0 in
    let release =
    all_weaker sorts (λ a. is_spelled a (screen_in c a)) (spelled c n) rule.release both.1 in
    let words =
    hotkey_text (trigger_text rule.trigger) (texts_of (screen_in c) rule.press)
    (texts_of (screen_in c) rule.release) in
    let equals =
    line_equals (trigger_text rule.trigger) (texts_of (screen_in c) rule.press)
    (texts_of (screen_in c) rule.release) in
    let r = line_again rule.trigger (screen_in c) rule.press rule.release trigger press release in
    let from = with_hotkeys c front in
    line_of_text section.Options from (with_hotkeys c (front ++ rule ∷ [])) one_tab words refl
    (line_clean rule.trigger (screen_in c) rule.press rule.release trigger press release)
    (equals_no_end words equals)
    (λ opened header. rw (
      equals_no_header words equals,
      r.hotkey,
      r.read,
      r.trigger,
      actions_again from rule.press r.line.press n both.0 r.press,
      actions_again from rule.release r.line.release n both.1 r.release,
      room_again (length c.screens) front rule more s,
      rule_again (length c.screens) front rule more s,
    ) refl)

-- ---- all of them

hotkeys_from : (c : Configuration) (front rules : List Rule) → AreNamed c.screens
    → AreHotkeys (length c.screens) (front ++ rules)
    → ReadsText section.Options (with_hotkeys c front) (flat_map (hotkey_of c) rules)
    (with_hotkeys c (front ++ rules))
hotkeys_from c front [] n s =
    subst
    (λ (rules : List Rule).
    ReadsText section.Options (with_hotkeys c front) [] (with_hotkeys c rules))
    (sym (append-nil front)) (no_text section.Options (with_hotkeys c front))
hotkeys_from c front (rule ∷ rules) n s =
    let moved : (front ++ rule ∷ []) ++ rules ≡ front ++ rule ∷ rules =
    append_assoc front (rule ∷ []) rules in
    let first = hotkey_again c front rule rules n s in
    let rest =
    hotkeys_from c (front ++ rule ∷ []) rules n
    (subst (AreHotkeys (length c.screens)) (sym moved) s) in
    text_both section.Options (with_hotkeys c front) (with_hotkeys c (front ++ rule ∷ []))
    (with_hotkeys c (front ++ rule ∷ rules)) (hotkey_of c rule) (flat_map (hotkey_of c) rules)
    first
    (subst
    (λ (all : List Rule).
    ReadsText section.Options (with_hotkeys c (front ++ rule ∷ []))
    (flat_map (hotkey_of c) rules) (with_hotkeys c all))
    moved rest)

-- the options for all screens, and the hotkeys behind them
pub options_again : (c : Configuration) (aliases : List Alias) (links : List Link) → IsSound c
    → ReadsText section.Options (with_parts c aliases links none_set []) (options_text c)
    (with_parts c aliases links c.settings c.hotkeys)
unfolding hotkey_of action_printed
options_again c aliases links s =
    text_both section.Options (with_parts c aliases links none_set [])
    (with_parts c aliases links c.settings []) (with_parts c aliases links c.settings c.hotkeys)
    (option_lines one_tab c.settings) (hotkeys_text c)
    (for_all_again (with_parts c aliases links none_set []) c.settings s.for_all refl)
    (hotkeys_from (with_parts c aliases links c.settings []) [] c.hotkeys (sound_names c s)
    s.hotkeys)
