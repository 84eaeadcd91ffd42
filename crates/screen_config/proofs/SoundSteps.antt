-- What every configuration keeps, with something more in it.
use Rattle.std.proofs.Common.{◌≡◌, ℕ, zero, suc, ◌+◌, ◌<◌, ◌≤◌, Bool, true, false, not, List, []}
use Rattle.std.proofs.Common.{◌∷◌, ◌++◌, length, map, set, get_or, Option, Some, None, refl, ap}
use Rattle.std.proofs.Common.{sym, subst, ◌∙◌, append_assoc, append-nil, length-append, arith}
use Rattle.std.specs.Prelude.{slice_get}
use Rattle.std.specs.List.{list_all}
use Rattle.std.proofs.lemmas.Bool.{and_parts, and_from, lt-ltb, not_from_false}
use Rattle.std.proofs.lemmas.List.{length-set, map-append}
use Rattle.std.proofs.lemmas.Option.{slice_get-get_or}
use Rattle.share_base.specs.Names.{is_name}
use Rattle.share_base.proofs.ListTests.{all_weaker, all_append, all_parts, all_at}
use Rattle.screen_links.specs.declared.link.Link.{Link}
use Rattle.screen_links.specs.Apart.{AreSound}
use Rattle.option_table.specs.declared.rows.OptionName.{OptionName}
use Rattle.option_table.specs.Table.{row_of}
use Rattle.option_table.specs.Values.{suits}
use Rattle.option_table.specs.Settings.{Values, none_set, with_setting}
use Rattle.option_table.specs.Scopes.{are_settings, stands_below_screen, stands_for_all}
use Rattle.option_table.proofs.Standing.{none_are_settings, settings_with}
use Rattle.screen_config.specs.declared.screens.Screen.{Screen}
use Rattle.screen_config.specs.declared.screens.Alias.{Alias}
use Rattle.screen_config.specs.Configurations.{Configuration, screen_of, screens_with, with_screen}
use Rattle.screen_config.specs.Configurations.{with_alias, with_link, with_global}
use Rattle.screen_config.specs.SoundHotkeys.{AreHotkeys}
use Rattle.screen_config.specs.Sound.{IsSound, all_names, apart, is_end, alias_below, link_below}
use Rattle.screen_config.specs.Sound.{has_own_settings}
use Rattle.screen_config.proofs.Bounds.{alias_more, link_more}
use Rattle.screen_config.proofs.NamesApart.{apart_with, others_if_unknown}
use Rattle.screen_config.proofs.SoundHotkeys.{hotkeys_among_more}

abbrev names_of_screens : List Screen → List (List ℕ)
names_of_screens screens = map (λ s. s.name) screens

abbrev names_of_aliases : List Alias → List (List ℕ)
names_of_aliases aliases = map (λ a. a.name) aliases

-- ---- one screen more

names_with_screen : (c : Configuration) (name : List ℕ)
    → all_names (with_screen c name)
    ≡ names_of_screens c.screens ++ name ∷ names_of_aliases c.aliases
names_with_screen c name =
    ap (λ (ns : List (List ℕ)). ns ++ names_of_aliases c.aliases)
    (map-append (λ (s : Screen). s.name) c.screens
    ((record { name = name; settings = none_set }) ∷ []))
    ∙ append_assoc (names_of_screens c.screens) (name ∷ []) (names_of_aliases c.aliases)

pub sound_screen : (c : Configuration) (name : List ℕ) → IsSound c → length c.screens < 64
    → is_name name ≡ true → screen_of c name ≡ None → IsSound (with_screen c name)
sound_screen c name s room named new =
    let others = others_if_unknown c name new in
    let parts =
    all_parts is_name (names_of_screens c.screens) (names_of_aliases c.aliases) s.named in
    let count : length (with_screen c name).screens ≡ length c.screens + 1 =
    length-append c.screens ((record { name = name; settings = none_set }) ∷ []) in
    let more : length c.screens ≤ length (with_screen c name).screens = omega arith in
    record {
      screens = omega arith;
      aliases = s.aliases;
      of_screens =
          all_weaker (alias_below (length c.screens))
          (alias_below (length (with_screen c name).screens))
          (alias_more (length c.screens) (length (with_screen c name).screens) more) c.aliases
          s.of_screens;
      between_screens =
          all_weaker (link_below (length c.screens))
          (link_below (length (with_screen c name).screens))
          (link_more (length c.screens) (length (with_screen c name).screens) more) c.links
          s.between_screens;
      named =
          ap (list_all is_name) (names_with_screen c name)
          ∙ all_append is_name (names_of_screens c.screens) (name ∷ names_of_aliases c.aliases)
          parts.0 (and_from (is_name name) _ named parts.1);
      names_apart =
          ap apart (names_with_screen c name)
          ∙ apart_with (names_of_screens c.screens) name (names_of_aliases c.aliases) s.names_apart
          others.0 others.1;
      no_end = s.no_end;
      own =
          all_append has_own_settings c.screens ((record { name = name; settings = none_set }) ∷ [])
          s.own (and_from _ true (none_are_settings stands_below_screen) refl);
      for_all = s.for_all;
      links = s.links;
      hotkeys =
          hotkeys_among_more (length c.screens) (length (with_screen c name).screens) c.hotkeys more
          s.hotkeys;
    }

-- ---- one alias more

names_with_alias : (c : Configuration) (name : List ℕ) (n : ℕ)
    → all_names (with_alias c name n) ≡ all_names c ++ name ∷ []
names_with_alias c name n =
    ap (λ (ns : List (List ℕ)). names_of_screens c.screens ++ ns)
    (map-append (λ (a : Alias). a.name) c.aliases ((record { name = name; screen = n }) ∷ []))
    ∙ sym (append_assoc (names_of_screens c.screens) (names_of_aliases c.aliases) (name ∷ []))

pub sound_alias : (c : Configuration) (name : List ℕ) (n : ℕ) → IsSound c → length c.aliases < 256
    → n < length c.screens → is_name name ≡ true → is_end name ≡ false → screen_of c name ≡ None
    → IsSound (with_alias c name n)
sound_alias c name n s room known named solid new =
    let others = others_if_unknown c name new in
    let count : length (with_alias c name n).aliases ≡ length c.aliases + 1 =
    length-append c.aliases ((record { name = name; screen = n }) ∷ []) in
    record {
      screens = s.screens;
      aliases = omega arith;
      of_screens =
          all_append (alias_below (length c.screens)) c.aliases
          ((record { name = name; screen = n }) ∷ []) s.of_screens
          (and_from _ true (lt-ltb n (length c.screens) known) refl);
      between_screens = s.between_screens;
      named =
          ap (list_all is_name) (names_with_alias c name n)
          ∙ all_append is_name (all_names c) (name ∷ []) s.named
          (and_from (is_name name) true named refl);
      names_apart = ap apart (names_with_alias c name n)
          ∙ apart_with (all_names c) name [] (ap apart (append-nil (all_names c)) ∙ s.names_apart)
          (all_append _ (names_of_screens c.screens) (names_of_aliases c.aliases) others.0 others.1)
          refl;
      no_end =
          all_append (λ a. not (is_end a.name)) c.aliases
          ((record { name = name; screen = n }) ∷ []) s.no_end
          (and_from _ true (not_from_false (is_end name) solid) refl);
      own = s.own;
      for_all = s.for_all;
      links = s.links;
      hotkeys = s.hotkeys;
    }

-- ---- one link more

pub sound_link : (c : Configuration) (link : Link) → IsSound c → link.from.0 < length c.screens
    → link.to.0 < length c.screens → AreSound (c.links ++ link ∷ []) → IsSound (with_link c link)
sound_link c link s leaves enters sound = record {
  screens = s.screens;
  aliases = s.aliases;
  of_screens = s.of_screens;
  between_screens = all_append (link_below (length c.screens)) c.links (link ∷ []) s.between_screens
      (and_from _ true
      (and_from _ _ (lt-ltb link.from.0 (length c.screens) leaves)
      (lt-ltb link.to.0 (length c.screens) enters))
      refl);
  named = s.named;
  names_apart = s.names_apart;
  no_end = s.no_end;
  own = s.own;
  for_all = s.for_all;
  links = sound;
  hotkeys = s.hotkeys;
}

-- ---- one option set

pub sound_global : (c : Configuration) (option : OptionName) (value : ℕ) → IsSound c
    → stands_for_all (row_of option).scope ≡ true → suits (row_of option).form value ≡ true
    → IsSound (with_global c option value)
sound_global c option value s stands suit = record {
  screens = s.screens;
  aliases = s.aliases;
  of_screens = s.of_screens;
  between_screens = s.between_screens;
  named = s.named;
  names_apart = s.names_apart;
  no_end = s.no_end;
  own = s.own;
  for_all = settings_with stands_for_all c.settings option value stands suit s.for_all;
  links = s.links;
  hotkeys = s.hotkeys;
}

all_set : {A : Type 0} (p : A → Bool) (xs : List A) (n : ℕ) (x : A) → list_all p xs ≡ true
    → p x ≡ true → list_all p (set xs n x) ≡ true
all_set p [] n x h e = refl
all_set p (y ∷ ys) zero x h e =
    and_from (p x) (list_all p ys) e (and_parts (p y) (list_all p ys) h).1
all_set p (y ∷ ys) (suc n) x h e =
    let both = and_parts (p y) (list_all p ys) h in
    and_from (p y) (list_all p (set ys n x)) both.0 (all_set p ys n x both.1 e)

same_names : (screens : List Screen) (n : ℕ) (own new : Screen) → slice_get screens n ≡ Some own
    → new.name ≡ own.name → names_of_screens (set screens n new) ≡ names_of_screens screens
same_names [] n own new e same = refl
same_names (s ∷ rest) zero own new e same =
    let there : s ≡ own = cc in
    ap (λ (name : List ℕ). name ∷ names_of_screens rest)
    (same ∙ ap (λ (k : Screen). k.name) (sym there))
same_names (s ∷ rest) (suc n) own new e same =
    ap (λ (names : List (List ℕ)). s.name ∷ names) (same_names rest n own new e same)

-- another screen in the place of one of that name
sound_set : (c : Configuration) (n : ℕ) (own new : Screen) → IsSound c
    → slice_get c.screens n ≡ Some own → new.name ≡ own.name → has_own_settings new ≡ true
    → IsSound (record c { screens = set c.screens n new })
sound_set c n own new s there same settings =
    let names : all_names (record c { screens = set c.screens n new }) ≡ all_names c =
    ap (λ (ns : List (List ℕ)). ns ++ names_of_aliases c.aliases)
    (same_names c.screens n own new there same) in
    let count : length (set c.screens n new) ≡ length c.screens = length-set c.screens n new in
    record {
      screens = omega (arith, s.screens);
      aliases = s.aliases;
      of_screens = ap (λ k. list_all (alias_below k) c.aliases) count ∙ s.of_screens;
      between_screens = ap (λ k. list_all (link_below k) c.links) count ∙ s.between_screens;
      named = ap (list_all is_name) names ∙ s.named;
      names_apart = ap apart names ∙ s.names_apart;
      no_end = s.no_end;
      own = all_set has_own_settings c.screens n new s.own settings;
      for_all = s.for_all;
      links = s.links;
      hotkeys = subst (λ (n : ℕ). AreHotkeys n c.hotkeys) (sym count) s.hotkeys;
    }

own_settings_with : (c : Configuration) (n : ℕ) (own : Screen) (option : OptionName) (value : ℕ)
    → IsSound c → slice_get c.screens n ≡ Some own
    → stands_below_screen (row_of option).scope ≡ true → suits (row_of option).form value ≡ true
    → are_settings stands_below_screen (with_setting own.settings option value) ≡ true
own_settings_with c n own option value s there stands suit =
    settings_with stands_below_screen own.settings option value stands suit
    (all_at has_own_settings c.screens n own s.own there)

nobody : Screen
nobody = record { name = []; settings = none_set }

pub sound_own : (c : Configuration) (n : ℕ) (option : OptionName) (value : ℕ) (new : List Screen)
    → IsSound c → n < length c.screens → stands_below_screen (row_of option).scope ≡ true
    → suits (row_of option).form value ≡ true
    → new ≡ screens_with (slice_get c.screens n) c.screens n option value
    → IsSound (record c { screens = new })
sound_own c n option value new s known stands suit e =
    let own = get_or c.screens n nobody in
    let there : slice_get c.screens n ≡ Some own = slice_get-get_or c.screens n nobody known in
    let set_one : Screen = record own { settings = with_setting own.settings option value } in
    subst (λ (screens : List Screen). IsSound (record c { screens = screens })) (sym e)
    (subst
    (λ (o : Option Screen).
    IsSound (record c { screens = screens_with o c.screens n option value }))
    (sym there)
    (sound_set c n own set_one s there refl
    (own_settings_with c n own option value s there stands suit)))
