-- The numbers of a configuration that was read: those of its actions, its options on the wire, its links, and its limit of
-- clipboards.
use Rattle.std.specs.Prelude.{◌≡◌, refl, ℕ, zero, suc, ◌+◌, ◌*◌, ◌<◌, ◌≤◌, ◌^◌, Bool, true, false, not, ◌&&◌, ◌==◌, cond, nat_lt, List, [], ◌∷◌, ◌++◌, length, All, Option, Some, None, unwrap_or, slice_get}
use Rattle.std.specs.List.{flat_map, list_all, find, AllByRecursion}
use Rattle.std.specs.Option.{option_map}
use Rattle.std.proofs.Common.{arith, ap, subst, ltb-true, leb-true}
use Rattle.std.proofs.lemmas.Bool.{and_parts}
use Rattle.std.proofs.lemmas.Bool.Decides.{nat_tests}
use Rattle.std.proofs.lemmas.List.{length-append}
use Rattle.std.proofs.lemmas.List.Elements.{All-head, All-tail}
use Rattle.share_base.specs.declared.shape.Side.{Side}
use Rattle.share_base.specs.declared.numbers.RuleNo.{RuleNo}
use Rattle.screen_links.specs.declared.link.Link.{Link}
use Rattle.screen_links.specs.declared.link.Landing.{Landing}
use Rattle.screen_links.specs.Adding.{HasGoodRanges}
use Rattle.screen_links.specs.Walks.{landing_of}
use Rattle.screen_links.specs.Landings.{leaves, next_landing, was_seen, landed, landing_after, landing_across}
use Rattle.screen_links.proofs.Along.{landing_lt}
use Rattle.option_table.specs.declared.rows.OptionName.{OptionName}
use Rattle.option_table.specs.declared.rows.OptionName.TheVariants as option
use Rattle.option_table.specs.declared.rows.Scope.{Scope}
use Rattle.option_table.specs.Table.{row_of, options}
use Rattle.option_table.specs.Values.{suits}
use Rattle.option_table.specs.Settings.{Values, none_set, setting, standing, own_or_all}
use Rattle.option_table.specs.Scopes.{stands_below_screen, stands_for_all, may_be, are_settings}
use Rattle.option_table.specs.Wire.{pair, sent_of}
use Rattle.option_table.proofs.PrintedAgain.{row_value_fits}
use Rattle.hotkey_rules.specs.declared.action.Action.{Action}
use Rattle.hotkey_rules.specs.declared.action.Action.TheVariants as action
use Rattle.hotkey_rules.specs.declared.rule.Rule.{Rule}
use Rattle.hotkey_rules.specs.Rules.{press_of, release_of}
use Rattle.hotkey_rules.specs.WellFormed.{is_action}
use Rattle.screen_config.specs.declared.screens.Screen.{Screen}
use Rattle.screen_config.specs.Configurations.{Configuration}
use Rattle.screen_config.specs.ActionKeys.{actions_in, action_keys, place_of, button_of, with_button}
use Rattle.screen_config.specs.SoundHotkeys.{action_below, is_action_among, HasItsButton, AreHotkeys}
use Rattle.screen_config.specs.Sound.{has_own_settings, IsSound}
use Rattle.screen_config.specs.Globals.{own_in, own_of, wire_options_of}
use Rattle.machine.proofs.Finding.{none_some, some_is}
use Rattle.both_ends.proofs.AllOfLists.{all-first, all-last, all-join}

-- ---- actions

abbrev pub IsSmallAction : Action → Type 0
IsSmallAction (action.KeyStroke id mods button) = (id.0 < 2 ^ 16) × (mods.0 < 2 ^ 16) × (button.0 < 2 ^ 16)
IsSmallAction (action.KeyPress id mods button) = (id.0 < 2 ^ 16) × (mods.0 < 2 ^ 16) × (button.0 < 2 ^ 16)
IsSmallAction (action.KeyRelease id mods button) = (id.0 < 2 ^ 16) × (mods.0 < 2 ^ 16) × (button.0 < 2 ^ 16)
IsSmallAction (action.MouseClick mods b) = b.0 < 2 ^ 8
IsSmallAction (action.MousePress mods b) = b.0 < 2 ^ 8
IsSmallAction (action.MouseRelease mods b) = b.0 < 2 ^ 8
IsSmallAction _ = Unit {0}

place_upto : (keys : List ℕ) (id : ℕ) → place_of keys id ≤ length keys
place_upto [] id = omega arith
place_upto (k ∷ keys) id = by (k == id) (place_upto keys id)
  where
    by : (b : Bool) → place_of keys id ≤ length keys → cond (not b) (1 + place_of keys id) 0 ≤ length (k ∷ keys)
    by true h = omega arith
    by false h = omega arith

button_small : (keys : List ℕ) (id : ℕ) → length keys ≤ 256 → (button_of keys id).0 < 2 ^ 16
button_small keys id few = omega (arith, place_upto keys id)

abbrev button_in : Action → ℕ
button_in (action.KeyStroke id mods button) = button.0
button_in (action.KeyPress id mods button) = button.0
button_in (action.KeyRelease id mods button) = button.0
button_in _ = 0

chord_small : (id mods : ℕ) → ((nat_lt 0 id && nat_lt id 65536) && nat_lt mods 32) ≡ true → (id < 2 ^ 16) × (mods < 2 ^ 16)
chord_small id mods h =
    let parts = and_parts (nat_lt 0 id && nat_lt id 65536) (nat_lt mods 32) h in
    let ids = and_parts (nat_lt 0 id) (nat_lt id 65536) parts.0 in
    let a : id < 65536 = ltb-true id 65536 ids.1 in
    let b : mods < 32 = ltb-true mods 32 parts.1 in
    (omega arith, omega arith)

mouse_small : (b mods : ℕ) → ((nat_lt 0 b && nat_lt b 256) && nat_lt mods 32) ≡ true → b < 2 ^ 8
mouse_small b mods h =
    let parts = and_parts (nat_lt 0 b && nat_lt b 256) (nat_lt mods 32) h in
    let c : b < 256 = ltb-true b 256 (and_parts (nat_lt 0 b) (nat_lt b 256) parts.0).1 in
    omega arith

small_action : (keys : List ℕ) (a : Action) → length keys ≤ 256 → is_action a ≡ true → with_button keys a ≡ a → IsSmallAction a
unfolding with_button
small_action keys (action.KeyStroke id mods button) few h e = let c = chord_small id.0 mods.0 h in (c.0, c.1, subst (λ (n : ℕ). n < 2 ^ 16) (ap button_in e) (button_small keys id.0 few))
small_action keys (action.KeyPress id mods button) few h e = let c = chord_small id.0 mods.0 h in (c.0, c.1, subst (λ (n : ℕ). n < 2 ^ 16) (ap button_in e) (button_small keys id.0 few))
small_action keys (action.KeyRelease id mods button) few h e = let c = chord_small id.0 mods.0 h in (c.0, c.1, subst (λ (n : ℕ). n < 2 ^ 16) (ap button_in e) (button_small keys id.0 few))
small_action keys (action.MouseClick mods b) few h e = mouse_small b.0 mods.0 h
small_action keys (action.MousePress mods b) few h e = mouse_small b.0 mods.0 h
small_action keys (action.MouseRelease mods b) few h e = mouse_small b.0 mods.0 h
small_action keys (action.Lock mode) few h e = tt
small_action keys (action.SwitchTo screen) few h e = tt
small_action keys (action.SwitchToward side) few h e = tt

small_actions : (count : ℕ) (keys : List ℕ) (actions : List Action) → length keys ≤ 256 → list_all (is_action_among count) actions ≡ true → All (HasItsButton keys) actions → AllByRecursion IsSmallAction actions
small_actions count keys [] few h b = tt
small_actions count keys (a ∷ actions) few h b =
    let parts = and_parts (is_action_among count a) (list_all (is_action_among count) actions) h in
    (small_action keys a few (and_parts (is_action a) (action_below count a) parts.0).0 (All-head (HasItsButton keys) a actions b), small_actions count keys actions few parts.1 (All-tail (HasItsButton keys) a actions b))

-- of a rule
rule_actions : (rules : List Rule) (n : ℕ) (rule : Rule) → AllByRecursion IsSmallAction (actions_in rules) → slice_get rules n ≡ Some rule → AllByRecursion IsSmallAction rule.press × AllByRecursion IsSmallAction rule.release
rule_actions [] n rule h e = grind (arith, e)
rule_actions (r ∷ rules) zero rule h e =
    let is : r ≡ rule = grind (arith, e) in
    let both : AllByRecursion IsSmallAction (r.press ++ r.release) = all-first IsSmallAction (r.press ++ r.release) (actions_in rules) h in
    subst (λ (x : Rule). AllByRecursion IsSmallAction x.press × AllByRecursion IsSmallAction x.release) is (all-first IsSmallAction r.press r.release both, all-last IsSmallAction r.press r.release both)
rule_actions (r ∷ rules) (suc n) rule h e = rule_actions rules n rule (all-last IsSmallAction (r.press ++ r.release) (actions_in rules) h) e

sound_actions : (count : ℕ) (rules : List Rule) → AreHotkeys count rules → AllByRecursion IsSmallAction (actions_in rules)
sound_actions count rules h = small_actions count (action_keys rules) (actions_in rules) h.few_keys h.actions h.buttons

pub press-small : (count : ℕ) (rules : List Rule) (r : RuleNo) → AreHotkeys count rules → AllByRecursion IsSmallAction (unwrap_or (press_of rules r) [])
press-small count rules r h = by (slice_get rules r.0) refl
  where
    by : (o : Option Rule) → slice_get rules r.0 ≡ o → AllByRecursion IsSmallAction (unwrap_or (option_map (λ (rule : Rule). rule.press) o) [])
    by None e = tt
    by (Some rule) e = (rule_actions rules r.0 rule (sound_actions count rules h) e).0

pub release-small : (count : ℕ) (rules : List Rule) (r : RuleNo) → AreHotkeys count rules → AllByRecursion IsSmallAction (unwrap_or (release_of rules r) [])
release-small count rules r h = by (slice_get rules r.0) refl
  where
    by : (o : Option Rule) → slice_get rules r.0 ≡ o → AllByRecursion IsSmallAction (unwrap_or (option_map (λ (rule : Rule). rule.release) o) [])
    by None e = tt
    by (Some rule) e = (rule_actions rules r.0 rule (sound_actions count rules h) e).1

-- ---- options

abbrev IsSmall : ℕ → Type 0
IsSmall n = n < 2 ^ 32

abbrev HasSmall : Option ℕ → Type 0
HasSmall None = Unit {0}
HasSmall (Some v) = v < 2 ^ 32

setting_small : (stands : Scope → Bool) (o : OptionName) (v : Option ℕ) → may_be stands o v ≡ true → HasSmall v
setting_small stands o None h = tt
setting_small stands o (Some v) h = row_value_fits o v (and_parts (stands (row_of o).scope) (suits (row_of o).form v) h).1

either_small : (own all : Option ℕ) → HasSmall own → HasSmall all → HasSmall (own_or_all own all)
either_small None all h k = k
either_small (Some v) all h k = h

code_small : (o : OptionName) → HasSmall (row_of o).code
unfolding row_of
code_small option.XtestIsXineramaUnaware = tt
code_small option.PreserveFocus = tt
code_small option.ClipboardSharingSize = tt
code_small option.ScreenSaverSync = tt
code_small option.SwitchNeedsShift = tt
code_small option.SwitchNeedsControl = tt
code_small option.SwitchNeedsAlt = tt
code_small option.Win32KeepForeground = tt
code_small option.DisableLockToScreen = tt
code_small option.DefaultLockToScreenState = tt
code_small option.Protocol = tt
code_small o = omega arith

pair_small : (code value : Option ℕ) → HasSmall code → HasSmall value → AllByRecursion IsSmall (pair code value) × (length (pair code value) ≤ 2)
pair_small None value h k = (tt, omega arith)
pair_small (Some code) None h k = (tt, omega arith)
pair_small (Some code) (Some value) h k = ((h, (k, tt)), omega arith)

words_small : (own all : Values) (os : List OptionName) → list_all (λ (o : OptionName). may_be stands_below_screen o (setting own o)) os ≡ true → list_all (λ (o : OptionName). may_be stands_for_all o (setting all o)) os ≡ true
    → AllByRecursion IsSmall (flat_map (sent_of own all) os) × (length (flat_map (sent_of own all) os) ≤ 2 * length os)
unfolding sent_of
words_small own all [] h k = (tt, omega arith)
words_small own all (o ∷ os) h k =
    let a = and_parts (may_be stands_below_screen o (setting own o)) (list_all (λ (x : OptionName). may_be stands_below_screen x (setting own x)) os) h in
    let b = and_parts (may_be stands_for_all o (setting all o)) (list_all (λ (x : OptionName). may_be stands_for_all x (setting all x)) os) k in
    let value : HasSmall (own_or_all (setting own o) (setting all o)) = either_small (setting own o) (setting all o) (setting_small stands_below_screen o (setting own o) a.0) (setting_small stands_for_all o (setting all o) b.0) in
    let here = pair_small (row_of o).code (own_or_all (setting own o) (setting all o)) (code_small o) value in
    let rest = words_small own all os a.1 b.1 in (
      all-join IsSmall (pair (row_of o).code (own_or_all (setting own o) (setting all o))) (flat_map (sent_of own all) os) here.0 rest.0,
      omega (arith, here.1, rest.1, length-append (pair (row_of o).code (own_or_all (setting own o) (setting all o))) (flat_map (sent_of own all) os)),
    )

each_setting : (stands : Scope → Bool) (values : Values) → are_settings stands values ≡ true → list_all (λ (o : OptionName). may_be stands o (setting values o)) options ≡ true
unfolding are_settings
each_setting stands values h = (and_parts (length values == 26) (list_all (λ (o : OptionName). may_be stands o (setting values o)) options) h).1

none_each : list_all (λ (o : OptionName). may_be stands_below_screen o (setting none_set o)) options ≡ true
none_each = refl

own_each : (screens : List Screen) (n : ℕ) → list_all has_own_settings screens ≡ true → list_all (λ (o : OptionName). may_be stands_below_screen o (setting (own_in (slice_get screens n)) o)) options ≡ true
own_each [] n h = none_each
own_each (s ∷ screens) zero h = each_setting stands_below_screen s.settings (and_parts (has_own_settings s) (list_all has_own_settings screens) h).0
own_each (s ∷ screens) (suc n) h = own_each screens n (and_parts (has_own_settings s) (list_all has_own_settings screens) h).1

pub record AreFewAndSmall (words : List ℕ) : Type 0 where
  pub small : AllByRecursion (λ n. n < 2 ^ 32) words
  pub few : length words ≤ 52

pub wire-small : (c : Configuration) (n : ℕ) → IsSound c → AreFewAndSmall (wire_options_of c n)
wire-small c n sound =
    let w = words_small (own_of c n) c.settings options (own_each c.screens n sound.own) (each_setting stands_for_all c.settings sound.for_all) in
    record { small = w.0; few = w.1 }

-- the limit of clipboards, in kibibytes
sharing_upto : (v : Option ℕ) → may_be stands_for_all option.ClipboardSharingSize v ≡ true → unwrap_or v (row_of option.ClipboardSharingSize).default ≤ 4096
unfolding row_of
sharing_upto None h = omega arith
sharing_upto (Some v) h = leb-true v 4096 h

there : (test : OptionName → Bool) (os : List OptionName) (n : ℕ) (o : OptionName) → list_all test os ≡ true → slice_get os n ≡ Some o → test o ≡ true
there test [] n o h e = grind (arith, e)
there test (x ∷ os) zero o h e = subst (λ (y : OptionName). test y ≡ true) (some_is x o e) (and_parts (test x) (list_all test os) h).0
there test (x ∷ os) (suc n) o h e = there test os n o (and_parts (test x) (list_all test os) h).1 e

find_setting : (values : Values) → list_all (λ (o : OptionName). may_be stands_for_all o (setting values o)) options ≡ true → may_be stands_for_all option.ClipboardSharingSize (setting values option.ClipboardSharingSize) ≡ true
find_setting values h = there (λ (o : OptionName). may_be stands_for_all o (setting values o)) options 17 option.ClipboardSharingSize h refl

pub sharing-small : (c : Configuration) → IsSound c → standing c.settings option.ClipboardSharingSize ≤ 4096
sharing-small c sound = sharing_upto (setting c.settings option.ClipboardSharingSize) (find_setting c.settings (each_setting stands_for_all c.settings sound.for_all))

-- ---- links

good_found : (test : Link → Bool) (links : List Link) (link : Link) → All HasGoodRanges links → find test links ≡ Some link → HasGoodRanges link × (test link ≡ true)
good_found test [] link h e = none_some link e
good_found test (l ∷ links) link h e = by (test l) refl e (good_found test links link (All-tail HasGoodRanges l links h))
  where
    by : (b : Bool) → test l ≡ b → cond b (Some l) (find test links) ≡ Some link → (find test links ≡ Some link → HasGoodRanges link × (test link ≡ true)) → HasGoodRanges link × (test link ≡ true)
    by true t e later = subst (λ (x : Link). HasGoodRanges x × (test x ≡ true)) (some_is l link e) (All-head HasGoodRanges l links h, t)
    by false t e later = later e

abbrev IsOnSide : Option Landing → Type 0
IsOnSide None = Unit {0}
IsOnSide (Some l) = l.t < 1000000

next_on_side : (links : List Link) (side : Side) (at : Landing) → All HasGoodRanges links → IsOnSide (next_landing links side at)
next_on_side links side at h = by (find (leaves side at) links) refl
  where
    by : (o : Option Link) → find (leaves side at) links ≡ o → IsOnSide (option_map (λ (link : Link). landing_of link at.t) o)
    by None e = tt
    by (Some link) e =
        let found = good_found (leaves side at) links link h e in
        let a : 10000 * link.range.a ≤ at.t = grind (arith, nat_tests, found.1) in
        let b : at.t < 10000 * link.range.b = grind (arith, nat_tests, found.1) in
        landing_lt link.range.a link.range.b link.onto.a link.onto.b at.t found.0.0.some found.0.1.some found.0.1.within a b

after_on_side : (n : ℕ) (links : List Link) (joined : ℕ → Bool) (side : Side) (seen : List ℕ) (o : Option Landing) → All HasGoodRanges links → IsOnSide o → IsOnSide (landing_after n links joined side seen o)
after_on_side n links joined side seen None h k = tt
after_on_side zero links joined side seen (Some at) h k = tt
after_on_side (suc n) links joined side seen (Some at) h k =
    by (was_seen seen at) (joined at.screen.0) (after_on_side n links joined side (at.screen.0 ∷ seen) (next_landing links side at) h (next_on_side links side at h))
  where
    by : (a b : Bool) → IsOnSide (landing_after n links joined side (at.screen.0 ∷ seen) (next_landing links side at)) → IsOnSide (landed a b at (landing_after n links joined side (at.screen.0 ∷ seen) (next_landing links side at)))
    by true b later = tt
    by false true later = k
    by false false later = later

pub landing-on_side : (links : List Link) (joined : ℕ → Bool) (side : Side) (at l : Landing) → All HasGoodRanges links → landing_across links joined side at ≡ Some l → l.t < 1000000
landing-on_side links joined side at l h e = subst IsOnSide e (after_on_side 64 links joined side (at.screen.0 ∷ []) (next_landing links side at) h (next_on_side links side at h))
