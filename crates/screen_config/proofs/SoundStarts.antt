-- What every configuration keeps, where it holds nothing, and where a link was to be added.
use Rattle.std.proofs.Common.{◌≡◌, ℕ, true, ◌<◌, List, [], ◌∷◌, ◌++◌, length, Result, Ok, Err, refl}
use Rattle.std.proofs.Common.{sym, subst, arith}
use Rattle.std.specs.Prelude.{OnOk, OnErr}
use Rattle.std.specs.List.{list_all}
use Rattle.share_base.specs.declared.out_of_memory.OutOfMemory.{OutOfMemory}
use Rattle.std.proofs.lemmas.List.Elements.{All-nil}
use Rattle.screen_links.specs.declared.link.Link.{Link}
use Rattle.screen_links.specs.declared.links.LinkFault.{LinkFault}
use Rattle.screen_links.specs.declared.links.LinkFault.TheVariants as fault
use Rattle.screen_links.specs.Adding.{HasGoodRanges, Adds}
use Rattle.screen_links.specs.Apart.{JoinsScreens, AreSound}
use Rattle.screen_links.proofs.SoundLinks.{sound_push}
use Rattle.option_table.specs.Settings.{Values, none_set}
use Rattle.option_table.specs.Scopes.{stands_for_all}
use Rattle.option_table.proofs.Standing.{none_are_settings}
use Rattle.hotkey_rules.specs.declared.action.Action.{Action}
use Rattle.hotkey_rules.specs.declared.trigger.Trigger.{Trigger}
use Rattle.hotkey_rules.specs.declared.rule.Rule.{Rule}
use Rattle.hotkey_rules.specs.WellFormed.{is_trigger}
use Rattle.screen_config.specs.declared.hotkeys.HotkeysFault.{HotkeysFault}
use Rattle.screen_config.specs.declared.hotkeys.HotkeysFault.TheVariants as hotkeys_fault
use Rattle.screen_config.specs.declared.screens.Screen.{Screen}
use Rattle.screen_config.specs.declared.screens.Alias.{Alias}
use Rattle.screen_config.specs.Configurations.{Configuration, nothing, with_screen, with_alias}
use Rattle.screen_config.specs.AddingHotkeys.{AddsHotkey}
use Rattle.screen_config.specs.SoundHotkeys.{is_action_among, AreHotkeys}
use Rattle.screen_config.specs.Sound.{IsSound}
use Rattle.screen_config.proofs.SoundHotkeys.{no_hotkeys, hotkeys_with}
use Rattle.screen_config.proofs.SoundSteps.{sound_link}

no_links : AreSound []
no_links =
    record {
      apart = λ i j d lt within. absurd (omega arith);
      ranges = All-nil HasGoodRanges;
      screens = All-nil JoinsScreens;
      few = omega arith;
    }

sound_nothing : IsSound nothing
sound_nothing = record {
  screens = omega arith;
  aliases = omega arith;
  of_screens = refl;
  between_screens = refl;
  named = refl;
  names_apart = refl;
  no_end = refl;
  own = refl;
  for_all = none_are_settings stands_for_all;
  links = no_links;
  hotkeys = no_hotkeys 0;
}

abbrev made_of : List Screen → List Alias → List Link → Values → List Rule → Configuration
made_of screens aliases links settings hotkeys =
    record {
      screens = screens;
      aliases = aliases;
      links = links;
      settings = settings;
      hotkeys = hotkeys;
    }

pub sound_empty : (screens : List Screen) (aliases : List Alias) (links : List Link)
    (settings : Values) (hotkeys : List Rule)
    → screens ≡ [] → aliases ≡ [] → links ≡ [] → settings ≡ none_set
    → hotkeys ≡ []
    → IsSound
    (record {
      screens = screens;
      aliases = aliases;
      links = links;
      settings = settings;
      hotkeys = hotkeys;
    })
sound_empty screens aliases links settings hotkeys s a l v h =
    subst (λ (x : List Screen). IsSound (made_of x aliases links settings hotkeys)) (sym s)
    (subst (λ (x : List Alias). IsSound (made_of [] x links settings hotkeys)) (sym a)
    (subst (λ (x : List Link). IsSound (made_of [] [] x settings hotkeys)) (sym l)
    (subst (λ (x : Values). IsSound (made_of [] [] [] x hotkeys)) (sym v)
    (subst (λ (x : List Rule). IsSound (made_of [] [] [] none_set x)) (sym h) sound_nothing))))

sound_unchanged : (c : Configuration) (new : List Link) → new ≡ c.links → IsSound c
    → IsSound (record c { links = new })
sound_unchanged c new e s =
    subst (λ (links : List Link). IsSound (record c { links = links })) (sym e) s

pub sound_added : (r : Result (Unit {0}) LinkFault) (c : Configuration) (link : Link)
    (new : List Link)
    → Adds r c.links link new → IsSound c → link.from.0 < length c.screens
    → link.to.0 < length c.screens
    → IsSound (record c { links = new })
sound_added (Ok u) c link new a s leaves enters =
    let joins : JoinsScreens link = (omega (arith, s.screens), omega (arith, s.screens)) in
    subst (λ (links : List Link). IsSound (record c { links = links })) (sym a.3)
    (sound_link c link s leaves enters (sound_push c.links link s.links a.0 a.1 joins a.2))
sound_added (Err fault.BadRange) c link new a s leaves enters = sound_unchanged c new a.1 s
sound_added (Err fault.Overlap) c link new a s leaves enters = sound_unchanged c new a.2 s
sound_added (Err fault.Full) c link new a s leaves enters = sound_unchanged c new a.3 s
sound_added (Err fault.OutOfMemory) c link new a s leaves enters = sound_unchanged c new a.3 s

-- ---- a screen or an alias, where there is memory for it

pub sound_screens : (r : Result (Unit {0}) OutOfMemory) (c : Configuration) (name : List ℕ)
    (new : List Screen)
    → OnOk r (new ≡ c.screens ++ (record { name = name; settings = none_set }) ∷ [])
    → OnErr r (new ≡ c.screens)
    → IsSound c → IsSound (with_screen c name) → IsSound (record c { screens = new })
sound_screens (Ok u) c name new added same old more =
    subst (λ (screens : List Screen). IsSound (record c { screens = screens })) (sym added) more
sound_screens (Err e) c name new added same old more =
    subst (λ (screens : List Screen). IsSound (record c { screens = screens })) (sym same) old

pub sound_aliases : (r : Result (Unit {0}) OutOfMemory) (c : Configuration) (name : List ℕ)
    (screen : ℕ) (new : List Alias)
    → OnOk r (new ≡ c.aliases ++ (record { name = name; screen = screen }) ∷ [])
    → OnErr r (new ≡ c.aliases)
    → IsSound c → IsSound (with_alias c name screen) → IsSound (record c { aliases = new })
sound_aliases (Ok u) c name screen new added same old more =
    subst (λ (aliases : List Alias). IsSound (record c { aliases = aliases })) (sym added) more
sound_aliases (Err e) c name screen new added same old more =
    subst (λ (aliases : List Alias). IsSound (record c { aliases = aliases })) (sym same) old

-- ---- hotkeys

with_hotkeys_sound : (c : Configuration) (new : List Rule) → AreHotkeys (length c.screens) new
    → IsSound c → IsSound (record c { hotkeys = new })
with_hotkeys_sound c new h s = record {
  screens = s.screens;
  aliases = s.aliases;
  of_screens = s.of_screens;
  between_screens = s.between_screens;
  named = s.named;
  names_apart = s.names_apart;
  no_end = s.no_end;
  own = s.own;
  for_all = s.for_all;
  links = s.links;
  hotkeys = h;
}

pub sound_hotkey : (r : Result (Unit {0}) HotkeysFault) (c : Configuration) (t : Trigger)
    (press release : List Action) (new : List Rule)
    → AddsHotkey r c.hotkeys t press release new
    → IsSound c → is_trigger t ≡ true → list_all (is_action_among (length c.screens)) press ≡ true
    → list_all (is_action_among (length c.screens)) release ≡ true
    → IsSound (record c { hotkeys = new })
sound_hotkey (Ok u) c t press release new a s trigger p r =
    with_hotkeys_sound c new
    (subst (λ (h : List Rule). AreHotkeys (length c.screens) h) (sym a.1)
    (hotkeys_with (length c.screens) c.hotkeys t press release s.hotkeys trigger p r a.0))
    s
sound_hotkey (Err hotkeys_fault.Full) c t press release new a s trigger p r =
    with_hotkeys_sound c new
    (subst (λ (h : List Rule). AreHotkeys (length c.screens) h) (sym a.1) s.hotkeys) s
sound_hotkey (Err hotkeys_fault.OutOfMemory) c t press release new a s trigger p r =
    with_hotkeys_sound c new
    (subst (λ (h : List Rule). AreHotkeys (length c.screens) h) (sym a) s.hotkeys) s
