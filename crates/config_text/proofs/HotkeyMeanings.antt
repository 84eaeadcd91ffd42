-- A hotkey's line is taken exactly where its words mean a rule that is within the limits.
use Rattle.std.proofs.Common.{◌≡◌, ℕ, Bool, true, false, List, [], ◌∷◌, ◌++◌, Ok, Option, Some}
use Rattle.std.proofs.Common.{None, refl, ap, subst}
use Rattle.std.specs.List.{AllZip}
use Rattle.hotkey_rules.specs.declared.action.Action.{Action}
use Rattle.text_lines.specs.Reading.{◌>>=◌}
use Rattle.hotkey_text.specs.Shapes.{ActionForm, HotkeyForm}
use Rattle.hotkey_text.specs.Arguments as words
use Rattle.hotkey_text.proofs.SpelledActions.{action_takes, action_read}
use Rattle.hotkey_text.proofs.SpelledTriggers.{trigger_takes, trigger_read}
use Rattle.hotkey_text.proofs.WordSteps.{went}
use Rattle.config_text.proofs.ActionRuns.{words_judged}
use Rattle.config_text.specs.declared.faults.ConfigKind.{ConfigKind}
use Rattle.config_text.specs.declared.faults.ConfigKind.TheVariants as kind
use Rattle.screen_config.specs.Configurations.{Configuration, screen_of}
use Rattle.config_text.specs.Judging.{or_fault, unless}
use Rattle.config_text.specs.Hotkeys.{judged_words, nothing_further, screen_named, meant, action_of}
use Rattle.config_text.specs.Hotkeys.{actions_of, new_hotkey}
use Rattle.screen_config.specs.AddingHotkeys.{has_room}
use Rattle.config_text.specs.HotkeyMeanings.{MeansWords, MeansAction, MeansHotkey}

-- ---- steps that went well

there : {A : Type 0} (o : Option A) (k : ConfigKind) (left : ℕ) (x : A) → or_fault o k left ≡ Ok x
    → o ≡ Some x
there None k left x e = absurd cc
there (Some y) k left x e = let same : y ≡ x = cc in ap (λ z. Some z) same

none_further : (o : Option ℕ) (u : Unit {0}) → nothing_further o ≡ Ok u → o ≡ None
none_further None u e = refl
none_further (Some left) u e = absurd cc

holds : (b : Bool) (k : ConfigKind) (left : ℕ) (u : Unit {0}) → unless b k left ≡ Ok u → b ≡ true
holds true k left u e = refl
holds false k left u e = absurd cc

-- ---- words

meant_means : (c : Configuration) (text : words.ActionText) (a : Action) → meant c text ≡ Ok a
    → MeansWords c text a
unfolding screen_named
meant_means c (words.Key deed id mods) a e = cc
meant_means c (words.Mouse deed b mods) a e = cc
meant_means c (words.Lock mode) a e = cc
meant_means c (words.SwitchTo s) a e =
    let screen = went (or_fault (screen_of c s.word.text) kind.UnknownScreen s.word.left) _ a e in
    let further = went (nothing_further s.further) _ a screen.2 in (
      screen.0,
      there (screen_of c s.word.text) kind.UnknownScreen s.word.left screen.0 screen.1,
      none_further s.further further.0 further.1,
      cc,
    )
meant_means c (words.SwitchToward side) a e = cc

means_meant : (c : Configuration) (text : words.ActionText) (a : Action) → MeansWords c text a
    → meant c text ≡ Ok a
unfolding screen_named
means_meant c (words.Key deed id mods) a m = cc
means_meant c (words.Mouse deed b mods) a m = cc
means_meant c (words.Lock mode) a m = cc
means_meant c (words.SwitchTo s) a m = rw (m.1, m.2, m.3) refl
means_meant c (words.SwitchToward side) a m = cc

-- ---- actions and the line

action_means : (c : Configuration) (form : ActionForm) (a : Action) → action_of c form ≡ Ok a
    → MeansAction c form a
unfolding action_of
action_means c form a e =
    let text = went (judged_words (words.action_of form)) (λ text. meant c text) a e in (
      text.0,
      action_takes form text.0 (words_judged (words.action_of form) text.0 text.1),
      meant_means c text.0 a text.2,
    )

means_action : (c : Configuration) (form : ActionForm) (a : Action) → MeansAction c form a
    → action_of c form ≡ Ok a
unfolding action_of
means_action c form a m = rw (action_read form m.0 m.1) (means_meant c m.0 a m.2)

actions_mean : (c : Configuration) (forms : List ActionForm) (actions : List Action)
    → actions_of c forms ≡ Ok actions → AllZip (λ form a. MeansAction c form a) forms actions
unfolding actions_of
actions_mean c [] [] e = tt
actions_mean c [] (a ∷ actions) e = absurd cc
actions_mean c (form ∷ forms) actions e =
    let one =
    went (action_of c form) (λ x. actions_of c forms >>= λ rest. Ok (x ∷ rest)) actions e in
    let others = went (actions_of c forms) (λ rest. Ok (one.0 ∷ rest)) actions one.2 in
    let same : one.0 ∷ others.0 ≡ actions = cc in
    subst (λ (l : List Action). AllZip (λ form a. MeansAction c form a) (form ∷ forms) l) same
    (action_means c form one.0 one.1, actions_mean c forms others.0 others.1)

mean_actions : (c : Configuration) (forms : List ActionForm) (actions : List Action)
    → AllZip (λ form a. MeansAction c form a) forms actions → actions_of c forms ≡ Ok actions
unfolding actions_of
mean_actions c [] [] m = refl
mean_actions c [] (a ∷ actions) m = absurd m
mean_actions c (form ∷ forms) [] m = absurd m
mean_actions c (form ∷ forms) (a ∷ actions) m =
    rw (means_action c form a m.0, mean_actions c forms actions m.1) refl

pub hotkey_means : (whole : ℕ) (c more : Configuration) (line : HotkeyForm)
    → new_hotkey whole c line ≡ Ok more → MeansHotkey c line more
unfolding new_hotkey
hotkey_means whole c more line e =
    let t = went (judged_words (words.trigger_of line)) _ more e in
    let press = went (actions_of c line.press) _ more t.2 in
    let release = went (actions_of c line.release) _ more press.2 in
    let room =
    went (unless (has_room c.hotkeys (press.0 ++ release.0)) kind.TooMany whole) _ more
    release.2 in
    record {
      trigger = t.0;
      press = press.0;
      release = release.0;
      spelled = trigger_takes line t.0 (words_judged (words.trigger_of line) t.0 t.1);
      pressed = actions_mean c line.press press.0 press.1;
      released = actions_mean c line.release release.0 release.1;
      room = holds (has_room c.hotkeys (press.0 ++ release.0)) kind.TooMany whole room.0 room.1;
      rule = cc;
    }

pub means_hotkey : (whole : ℕ) (c more : Configuration) (line : HotkeyForm)
    → MeansHotkey c line more → new_hotkey whole c line ≡ Ok more
unfolding new_hotkey
means_hotkey whole c more line m =
    rw (
      trigger_read line m.trigger m.spelled,
      mean_actions c line.press m.press m.pressed,
      mean_actions c line.release m.release m.released,
      m.room,
      m.rule,
    )
    refl
