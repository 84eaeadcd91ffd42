-- Options that are printed are read again.
use Rattle.std.proofs.Common.{◌≡◌, ℕ, Bool, true, false, ◌==◌, List, [], ◌∷◌, ◌++◌, length, Some}
use Rattle.std.proofs.Common.{Ok, refl, ap, sym, subst, ◌∙◌, append_assoc}
use Rattle.std.specs.Prelude.{codes, slice_get}
use Rattle.std.specs.List.{list_any}
use Rattle.std.proofs.Math.Bool.{or-true}
use Rattle.std.proofs.lemmas.Bool.{and_parts, and_right}
use Rattle.std.proofs.lemmas.List.Folds.{list_any-append}
use Rattle.std.proofs.Math.Seq.{set-append_seam}
use Rattle.text_lines.specs.declared.bytes.WordKind.TheVariants as kind
use Rattle.text_lines.specs.Bytes.{takes, unblanked}
use Rattle.text_lines.specs.Reading.{begins}
use Rattle.text_lines.proofs.CleanWords.{IsClean, clean_around}
use Rattle.text_lines.proofs.SpelledWords.{text_of, behind_again}
use Rattle.option_table.specs.declared.rows.OptionName.{OptionName}
use Rattle.option_table.specs.declared.rows.Scope.{Scope}
use Rattle.option_table.specs.Table.{row_of}
use Rattle.option_table.specs.Values.{suits}
use Rattle.option_table.specs.Settings.{Values, none_set, with_setting}
use Rattle.option_table.specs.Scopes.{may_be, are_settings, stands_below_screen, stands_for_all}
use Rattle.option_table.specs.Printed.{value_text, option_text, option_lines}
use Rattle.option_table.proofs.PrintedAgain.{key_again, row_value_again}
use Rattle.option_table.proofs.PrintedBytes.{key_bytes, key_some, key_clean, row_value_clean}
use Rattle.option_table.proofs.SettingsAgain.{settings_again}
use Rattle.hotkey_text.specs.Shapes.{is_hotkey}
use Rattle.config_text.specs.declared.sections.Section.TheVariants as section
use Rattle.screen_config.specs.declared.screens.Screen.{Screen}
use Rattle.screen_config.specs.Configurations.{Configuration, with_screen, with_own}
use Rattle.config_text.specs.Shapes.{SettingText, setting_at}
use Rattle.config_text.specs.Judging.{new_setting}
use Rattle.config_text.specs.Sections.{in_section, screen_line, global_line as global_in}
use Rattle.config_text.specs.Normal.{one_tab, two_tabs}
use Rattle.config_text.proofs.CleanLines.{equals_no_end, equals_no_header}
use Rattle.config_text.proofs.Spelled.{setting_again}
use Rattle.config_text.proofs.Runs.{ReadsText, ReadsTextBelow, no_text, no_text_below, text_both}
use Rattle.config_text.proofs.Runs.{text_below_both, line_below, line_of_text}

-- ---- a line KEY = VALUE

abbrev setting_read : OptionName → ℕ → SettingText
setting_read o v =
    record {
      key = text_of (row_of o).key (length (option_text o v));
      value = text_of (value_text (row_of o).form v) (length (value_text (row_of o).form v));
    }

setting_at_again : (o : OptionName) (v : ℕ) → suits (row_of o).form v ≡ true
    → setting_at (option_text o v) ≡ Ok (setting_read o v)
setting_at_again o v e =
    setting_again (option_text o v) (setting_read o v) (record {
      behind_key = 32 ∷ [];
      behind_sign = 32 ∷ [];
      text = append_assoc (row_of o).key (codes " = ") (value_text (row_of o).form v);
      word = (key_some o, key_bytes o);
      gaps = (refl, refl);
      tight = (row_value_clean o v e).tight;
      places = (refl, refl);
    })

new_setting_again : (stands : Scope → Bool) (o : OptionName) (v : ℕ)
    → stands (row_of o).scope ≡ true → suits (row_of o).form v ≡ true
    → new_setting stands (setting_read o v) ≡ Ok (record { option = o; value = v })
unfolding new_setting
new_setting_again stands o v stand e = rw (key_again o, stand, row_value_again o v e) refl

-- ---- it has a sign, and a line keeps it

has_equals : (o : OptionName) (v : ℕ) → list_any (λ b. b == 61) (option_text o v) ≡ true
has_equals o v = simp (list_any-append, or-true)

option_clean : (o : OptionName) (v : ℕ) → suits (row_of o).form v ≡ true → IsClean (option_text o v)
option_clean o v e =
    clean_around (row_of o).key (codes " = ") (value_text (row_of o).form v) (key_clean o) refl
    (row_value_clean o v e)

-- ---- below a screen's header

-- the configuration with one screen more, of these options
abbrev with_own_settings : Configuration → List ℕ → Values → Configuration
with_own_settings c name values =
    record c { screens = c.screens ++ (record { name = name; settings = values }) ∷ [] }

get_last : (screens : List Screen) (s : Screen)
    → slice_get (screens ++ s ∷ []) (length screens) ≡ Some s
get_last [] s = refl
get_last (x ∷ screens) s = get_last screens s

own_set : (c : Configuration) (name : List ℕ) (values : Values) (o : OptionName) (v : ℕ)
    → with_own (with_own_settings c name values) (length c.screens) o v
    ≡ with_own_settings c name (with_setting values o v)
unfolding with_own
own_set c name values o v =
    rw (
      get_last c.screens (record { name = name; settings = values }),
      set-append_seam c.screens (record { name = name; settings = values }) []
          (record { name = name; settings = with_setting values o v }),
    )
    refl

own_line : (c : Configuration) (name : List ℕ) (values : Values) (o : OptionName) (v : ℕ)
    → may_be stands_below_screen o (Some v) ≡ true
    → ReadsTextBelow section.Screens (length c.screens) (with_own_settings c name values)
    ((two_tabs ++ option_text o v) ++ 10 ∷ [])
    (with_own_settings c name (with_setting values o v))
unfolding in_section screen_line
own_line c name values o v m =
    let may = and_parts (stands_below_screen (row_of o).scope) (suits (row_of o).form v) m in
    let from = with_own_settings c name values in
    let text = option_text o v in
    subst (ReadsTextBelow section.Screens (length c.screens) from ((two_tabs ++ text) ++ 10 ∷ []))
    (own_set c name values o v)
    (line_below section.Screens (length c.screens) from (with_own from (length c.screens) o v)
    two_tabs text refl (option_clean o v may.1) (equals_no_end text (has_equals o v))
    (λ opened.
    rw (
      equals_no_header text (has_equals o v),
      setting_at_again o v may.1,
      new_setting_again stands_below_screen o v may.0 may.1,
    )
    refl))

-- the options of a new screen
pub own_again : (c : Configuration) (name : List ℕ) (values : Values)
    → are_settings stands_below_screen values ≡ true
    → ReadsTextBelow section.Screens (length c.screens) (with_screen c name)
    (option_lines two_tabs values) (with_own_settings c name values)
own_again c name values h =
    settings_again stands_below_screen two_tabs
    (λ a text b.
    ReadsTextBelow section.Screens (length c.screens) (with_own_settings c name a) text
    (with_own_settings c name b))
    (record {
      none = λ a. no_text_below section.Screens (length c.screens) (with_own_settings c name a);
      both =
          λ a b d text more.
          text_below_both section.Screens (length c.screens) (with_own_settings c name a)
          (with_own_settings c name b) (with_own_settings c name d) text more;
      one = own_line c name;
    }) values h

-- ---- in the section of the options for all

-- and it is none of a hotkey
no_hotkey : (o : OptionName) (v : ℕ) → is_hotkey (option_text o v) ≡ false
no_hotkey o v =
    let value = 32 ∷ 61 ∷ 32 ∷ value_text (row_of o).form v in
    let no_bracket =
    ap (λ (t : List ℕ). begins 40 (unblanked t))
    (behind_again (takes kind.Key) (row_of o).key value (key_bytes o) refl) in
    ap is_hotkey (append_assoc (row_of o).key (codes " = ") (value_text (row_of o).form v))
    ∙ and_right _ _ no_bracket

abbrev with_settings : Configuration → Values → Configuration
with_settings c values = record c { settings = values }

global_line : (c : Configuration) (values : Values) (o : OptionName) (v : ℕ)
    → may_be stands_for_all o (Some v) ≡ true
    → ReadsText section.Options (with_settings c values) ((one_tab ++ option_text o v) ++ 10 ∷ [])
    (with_settings c (with_setting values o v))
unfolding in_section global_in
global_line c values o v m =
    let may = and_parts (stands_for_all (row_of o).scope) (suits (row_of o).form v) m in
    let text = option_text o v in
    line_of_text section.Options (with_settings c values)
    (with_settings c (with_setting values o v)) one_tab text refl (option_clean o v may.1)
    (equals_no_end text (has_equals o v))
    (λ opened header.
    rw (
      equals_no_header text (has_equals o v),
      no_hotkey o v,
      setting_at_again o v may.1,
      new_setting_again stands_for_all o v may.0 may.1,
    )
    refl)

-- the options for all screens
pub for_all_again : (c : Configuration) (values : Values)
    → are_settings stands_for_all values ≡ true → c.settings ≡ none_set
    → ReadsText section.Options c (option_lines one_tab values) (with_settings c values)
for_all_again c values h none =
    subst
    (λ (v : Values).
    ReadsText section.Options (with_settings c v) (option_lines one_tab values)
    (with_settings c values))
    (sym none)
    (settings_again stands_for_all one_tab
    (λ a text b. ReadsText section.Options (with_settings c a) text (with_settings c b))
    (record {
      none = λ a. no_text section.Options (with_settings c a);
      both =
          λ a b d text more.
          text_both section.Options (with_settings c a) (with_settings c b) (with_settings c d) text
          more;
      one = global_line c;
    }) values h)
