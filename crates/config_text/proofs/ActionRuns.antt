-- The actions of a list, read one by one, and that a text can spell them among the screens that are
-- there.
use Rattle.std.proofs.Common.{◌≡◌, ℕ, ◌<◌, true, List, [], ◌∷◌, ◌++◌, length, Option, Some, None}
use Rattle.std.proofs.Common.{Result, Ok, Err, refl, ap, sym, ◌∙◌, subst, append_assoc, append-nil}
use Rattle.std.specs.Option.{option_or}
use Rattle.std.specs.List.{list_all}
use Rattle.std.proofs.lemmas.Bool.{and_from, lt-ltb}
use Rattle.std.proofs.lemmas.List.Quantifiers.{position-Some}
use Rattle.share_base.specs.Names.{same_name}
use Rattle.option_table.specs.Settings.{none_set}
use Rattle.text_lines.specs.Reading.{◌>>=◌}
use Rattle.hotkey_rules.specs.declared.action.Action.{Action}
use Rattle.hotkey_rules.specs.declared.action.Action.TheVariants as action
use Rattle.hotkey_rules.specs.declared.trigger.Trigger.{Trigger}
use Rattle.hotkey_text.specs.declared.faults.HotkeyFault.{HotkeyFault}
use Rattle.hotkey_text.specs.declared.names.Deed.TheVariants as deed
use Rattle.hotkey_text.specs.Shapes.{ActionForm, HotkeyForm}
use Rattle.hotkey_text.specs.Arguments as words
use Rattle.hotkey_rules.specs.WellFormed.{is_trigger}
use Rattle.hotkey_text.proofs.SpelledWords.{are_words, trigger_spelled, words_spelled}
use Rattle.hotkey_text.proofs.WordSteps.{went}
use Rattle.config_text.specs.declared.faults.Fault.{Fault}
use Rattle.config_text.specs.declared.faults.ConfigKind.TheVariants as kind
use Rattle.config_text.specs.declared.faults.LineFault.{LineFault}
use Rattle.config_text.specs.declared.faults.LineFault.TheVariants as line_fault
use Rattle.screen_config.specs.declared.screens.Screen.{Screen}
use Rattle.config_text.specs.Answering.{Judges}
use Rattle.screen_config.specs.Configurations.{Configuration, screen_of, screen_place, alias_place}
use Rattle.config_text.specs.Judging.{or_fault}
use Rattle.config_text.specs.Hotkeys.{judged_words, nothing_further, screen_named, meant, action_of}
use Rattle.config_text.specs.Hotkeys.{actions_of}
use Rattle.screen_config.specs.SoundHotkeys.{is_action_among}
use Rattle.screen_config.specs.Sound.{IsSound}
use Rattle.screen_config.proofs.Bounds.{alias_known}

-- ---- one by one

-- these actions, and then those of a list
abbrev pub before : List Action → Result (List Action) Fault → Result (List Action) Fault
before front r = r >>= λ rest. Ok (front ++ rest)

before_by : (front : List Action) (first : Action) (r : Result (List Action) Fault)
    → before front (r >>= λ rest. Ok (first ∷ rest)) ≡ before (front ++ first ∷ []) r
before_by front first (Ok rest) =
    ap (λ (xs : List Action). let r : Result (List Action) Fault = Ok xs in r)
    (sym (append_assoc front (first ∷ []) rest))
before_by front first (Err f) = refl

-- one action more was read
pub one_more : (c : Configuration) (front now : List Action) (form : ActionForm)
    (rest forms : List ActionForm) (first : Action)
    → forms ≡ form ∷ rest → action_of c form ≡ Ok first
    → now ≡ front ++ first ∷ [] → before front (actions_of c forms) ≡ before now (actions_of c rest)
unfolding actions_of
one_more c front now form rest forms first e h n =
    ap (λ (fs : List ActionForm). before front (actions_of c fs)) e
    ∙ ap
    (λ (r : Result Action Fault).
    before front (r >>= λ x. actions_of c rest >>= λ xs. Ok (x ∷ xs)))
    h
    ∙ before_by front first (actions_of c rest)
    ∙ ap (λ (xs : List Action). before xs (actions_of c rest)) (sym n)

-- one has a fault
pub one_refused : (c : Configuration) (front : List Action) (form : ActionForm)
    (rest forms : List ActionForm) (f : Fault)
    → forms ≡ form ∷ rest → action_of c form ≡ Err f
    → before front (actions_of c forms) ≡ Err f
unfolding actions_of
one_refused c front form rest forms f e h =
    ap (λ (fs : List ActionForm). before front (actions_of c fs)) e
    ∙ ap
    (λ (r : Result Action Fault).
    before front (r >>= λ x. actions_of c rest >>= λ xs. Ok (x ∷ xs)))
    h

-- none is left
pub none_left : (c : Configuration) (front : List Action) (forms : List ActionForm) → forms ≡ []
    → before front (actions_of c forms) ≡ Ok front
unfolding actions_of
none_left c front forms e =
    ap (λ (fs : List ActionForm). before front (actions_of c fs)) e
    ∙ ap (λ (xs : List Action). let r : Result (List Action) Fault = Ok xs in r)
    (append-nil front)

pub none_read : (c : Configuration) (forms : List ActionForm)
    → actions_of c forms ≡ before [] (actions_of c forms)
none_read c forms = none_before (actions_of c forms) where
  none_before : (r : Result (List Action) Fault) → r ≡ before [] r
  none_before (Ok xs) = refl
  none_before (Err f) = refl

-- ---- what a text spells

pub words_judged : {A : Type 0} (r : Result A HotkeyFault) (a : A) → judged_words r ≡ Ok a
    → r ≡ Ok a
words_judged (Ok x) a e = let same : x ≡ a = cc in ap (λ y. Ok y) same
words_judged (Err f) a e = absurd cc

pub trigger_is_spelled : (line : HotkeyForm) (t : Trigger)
    → judged_words (words.trigger_of line) ≡ Ok t → is_trigger t ≡ true
trigger_is_spelled line t e = trigger_spelled line t (words_judged (words.trigger_of line) t e)

screen_known : (o : Option ℕ) (left n : ℕ) → or_fault o kind.UnknownScreen left ≡ Ok n → o ≡ Some n
screen_known (Some m) left n e = let same : m ≡ n = cc in ap (λ k. Some k) same
screen_known None left n e = absurd cc

-- each screen that a name has is one of those that are there
abbrev pub HasScreens : Configuration → Type 0
HasScreens c = (name : List ℕ) (n : ℕ) → screen_of c name ≡ Some n → n < length c.screens

meant_spelled : (c : Configuration) (text : words.ActionText) (a : Action) → HasScreens c
    → are_words text ≡ true → meant c text ≡ Ok a → is_action_among (length c.screens) a ≡ true
unfolding screen_named
meant_spelled c (words.Key deed.Stroke id mods) a known h e =
    let same : action.KeyStroke id mods (record { 0 = 0 }) ≡ a = cc in
    subst (λ (x : Action). is_action_among (length c.screens) x ≡ true) same
    (and_from _ true h refl)
meant_spelled c (words.Key deed.Press id mods) a known h e =
    let same : action.KeyPress id mods (record { 0 = 0 }) ≡ a = cc in
    subst (λ (x : Action). is_action_among (length c.screens) x ≡ true) same
    (and_from _ true h refl)
meant_spelled c (words.Key deed.Release id mods) a known h e =
    let same : action.KeyRelease id mods (record { 0 = 0 }) ≡ a = cc in
    subst (λ (x : Action). is_action_among (length c.screens) x ≡ true) same
    (and_from _ true h refl)
meant_spelled c (words.Mouse deed.Stroke b mods) a known h e =
    let same : action.MouseClick mods b ≡ a = cc in
    subst (λ (x : Action). is_action_among (length c.screens) x ≡ true) same
    (and_from _ true h refl)
meant_spelled c (words.Mouse deed.Press b mods) a known h e =
    let same : action.MousePress mods b ≡ a = cc in
    subst (λ (x : Action). is_action_among (length c.screens) x ≡ true) same
    (and_from _ true h refl)
meant_spelled c (words.Mouse deed.Release b mods) a known h e =
    let same : action.MouseRelease mods b ≡ a = cc in
    subst (λ (x : Action). is_action_among (length c.screens) x ≡ true) same
    (and_from _ true h refl)
meant_spelled c (words.Lock mode) a known h e =
    let same : action.Lock mode ≡ a = cc in
    subst (λ (x : Action). is_action_among (length c.screens) x ≡ true) same refl
meant_spelled c (words.SwitchTo s) a known h e =
    let first = went (or_fault (screen_of c s.word.text) kind.UnknownScreen s.word.left) _ a e in
    let second = went (nothing_further s.further) _ a first.2 in
    let below =
    known s.word.text first.0
    (screen_known (screen_of c s.word.text) s.word.left first.0 first.1) in
    let same : action.SwitchTo (record { 0 = first.0 }) ≡ a = cc in
    subst (λ (x : Action). is_action_among (length c.screens) x ≡ true) same
    (lt-ltb first.0 (length c.screens) below)
meant_spelled c (words.SwitchToward side) a known h e =
    let same : action.SwitchToward side ≡ a = cc in
    subst (λ (x : Action). is_action_among (length c.screens) x ≡ true) same refl

action_spelled : (c : Configuration) (form : ActionForm) (a : Action) → HasScreens c
    → action_of c form ≡ Ok a → is_action_among (length c.screens) a ≡ true
unfolding action_of
action_spelled c form a known e =
    let text = went (judged_words (words.action_of form)) _ a e in
    meant_spelled c text.0 a known
    (words_spelled form text.0 (words_judged (words.action_of form) text.0 text.1)) text.2

pub actions_spelled : (c : Configuration) (forms : List ActionForm) (actions : List Action)
    → HasScreens c → actions_of c forms ≡ Ok actions
    → list_all (is_action_among (length c.screens)) actions ≡ true
unfolding actions_of
actions_spelled c [] actions known e =
    let same : [] ≡ actions = cc in ap (list_all (is_action_among (length c.screens))) (sym same)
actions_spelled c (form ∷ forms) actions known e =
    let first = went (action_of c form) _ actions e in
    let rest = went (actions_of c forms) _ actions first.2 in
    let same : first.0 ∷ rest.0 ≡ actions = cc in
    ap (list_all (is_action_among (length c.screens))) (sym same)
    ∙ and_from _ _ (action_spelled c form first.0 known first.1)
    (actions_spelled c forms rest.0 known rest.1)

known_by : (o : Option ℕ) (c : Configuration) (name : List ℕ) (n : ℕ) → IsSound c
    → screen_place c.screens name ≡ o → option_or o (alias_place c.aliases name) ≡ Some n
    → n < length c.screens
known_by None c name n s e h = alias_known (length c.screens) c.aliases name n s.of_screens (sym h)
known_by (Some m) c name n s e h =
    let same : m ≡ n = cc in
    subst (λ k. k < length c.screens) same
    (position-Some (λ (s : Screen). same_name s.name name) c.screens m
    (record { name = []; settings = none_set }) e).0

pub has_screens : (c : Configuration) → IsSound c → HasScreens c
unfolding screen_of
has_screens c s name n e = known_by (screen_place c.screens name) c name n s refl e

-- ---- a fault of one action is that of the list

pub fault_kept : {A B C D : Type 0} (f : LineFault) (one : A → B) (all : C → D) (r : Result B Fault)
    (rs : Result D Fault)
    → ((x : Fault) → r ≡ Err x → rs ≡ Err x) → Judges one (Err f) r → Judges all (Err f) rs
fault_kept (line_fault.Refused x) one all r rs k h = k x h
fault_kept line_fault.OutOfMemory one all r rs k h = tt
