-- The screens section is read again.
use Rattle.std.proofs.Common.{◌≡◌, ℕ, ◌<◌, ◌≤◌, true, List, [], ◌∷◌, ◌++◌, length, length-append}
use Rattle.std.proofs.Common.{Ok, Option, Some, refl, ap, sym, subst, ◌∙◌, append_assoc, append-nil}
use Rattle.std.proofs.Common.{arith}
use Rattle.std.specs.List.{flat_map, list_all}
use Rattle.std.proofs.lemmas.Bool.{and_parts, lt-ltb}
use Rattle.std.proofs.lemmas.List.{map-append}
use Rattle.share_base.specs.Names.{is_name}
use Rattle.screen_config.specs.declared.screens.Screen.{Screen}
use Rattle.config_text.specs.declared.sections.Opened.{Opened}
use Rattle.config_text.specs.declared.sections.Section.TheVariants as section
use Rattle.screen_config.specs.Configurations.{Configuration, nothing, with_screen}
use Rattle.config_text.specs.Judging.{new_screen}
use Rattle.config_text.specs.Normal.{screen_text}
use Rattle.config_text.specs.Sections.{in_section, screen_header}
use Rattle.screen_config.specs.Sound.{apart, has_own_settings}
use Rattle.config_text.proofs.KnownAgain.{names_of}
use Rattle.config_text.proofs.NamesAgain.{header_again, is_header_again}
use Rattle.config_text.proofs.NamesClean.{clean_header}
use Rattle.screen_config.proofs.NamesApart.{are_others, others_before, unknown_if_others}
use Rattle.config_text.proofs.Runs.{draft_in, ReadsText, no_text, text_both, block_of_text}
use Rattle.config_text.proofs.OptionsAgain.{own_again}

-- the configuration that has these screens alone
abbrev pub of_screens : List Screen → Configuration
of_screens screens = record nothing { screens = screens }

header_taken : (screens : List Screen) (name : List ℕ) (o : Opened) (h : Option ℕ)
    → is_name name ≡ true → are_others name (names_of screens) ≡ true → length screens < 64
    → in_section section.Screens (draft_in o h (of_screens screens)) (name ++ 58 ∷ [])
    ≡ Ok (draft_in o (Some (length screens)) (with_screen (of_screens screens) name))
unfolding in_section screen_header new_screen
header_taken screens name o h named others room =
    rw (
      is_header_again name named,
      header_again name named,
      named,
      unknown_if_others (of_screens screens) name others refl,
      lt-ltb (length screens) 64 room,
    )
    refl

-- one screen, behind others
screen_again : (screens : List Screen) (s : Screen) → is_name s.name ≡ true
    → are_others s.name (names_of screens) ≡ true → has_own_settings s ≡ true → length screens < 64
    → ReadsText section.Screens (of_screens screens) (screen_text s)
    (of_screens (screens ++ s ∷ []))
unfolding screen_text
screen_again screens s named others own room =
    block_of_text section.Screens (length screens) (of_screens screens)
    (with_screen (of_screens screens) s.name) (of_screens (screens ++ s ∷ [])) s.name _
    (clean_header s.name named)
    (λ o h. header_taken screens s.name o h named others room)
    (own_again (of_screens screens) s.name s.settings own)

pub screens_again : (screens more : List Screen) → list_all is_name (names_of more) ≡ true
    → apart (names_of (screens ++ more)) ≡ true → list_all has_own_settings more ≡ true
    → length (screens ++ more) ≤ 64
    → ReadsText section.Screens (of_screens screens) (flat_map screen_text more)
    (of_screens (screens ++ more))
screens_again screens [] named others own room =
    subst (λ (t : List Screen). ReadsText section.Screens (of_screens screens) [] (of_screens t))
    (sym (append-nil screens)) (no_text section.Screens (of_screens screens))
screens_again screens (s ∷ ss) named others own room =
    let n = and_parts (is_name s.name) (list_all is_name (names_of ss)) named in
    let w = and_parts (has_own_settings s) (list_all has_own_settings ss) own in
    let first : apart (names_of screens ++ s.name ∷ names_of ss) ≡ true =
    ap apart (sym (map-append (λ (k : Screen). k.name) screens (s ∷ ss))) ∙ others in
    let joined : (screens ++ s ∷ []) ++ ss ≡ screens ++ s ∷ ss = append_assoc screens (s ∷ []) ss in
    let rest : ReadsText section.Screens (of_screens (screens ++ s ∷ [])) (flat_map screen_text ss)
    (of_screens (screens ++ s ∷ ss)) =
    subst
    (λ (t : List Screen).
    ReadsText section.Screens (of_screens (screens ++ s ∷ [])) (flat_map screen_text ss)
    (of_screens t))
    joined
    (screens_again (screens ++ s ∷ []) ss n.1
    (ap (λ (t : List Screen). apart (names_of t)) joined ∙ others) w.1
    (subst (λ (t : List Screen). length t ≤ 64) (sym joined) room))
    in
    text_both section.Screens (of_screens screens) (of_screens (screens ++ s ∷ []))
    (of_screens (screens ++ s ∷ ss)) (screen_text s) (flat_map screen_text ss)
    (screen_again screens s n.0 (others_before (names_of screens) s.name (names_of ss) first) w.0
    (omega (arith, length-append screens (s ∷ ss), room)))
    rest
