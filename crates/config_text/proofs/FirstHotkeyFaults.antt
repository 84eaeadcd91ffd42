-- A hotkey's line is refused for the first of all its faults.
use Rattle.std.proofs.Common.{◌≡◌, ℕ, Bool, true, false, List, [], ◌∷◌, ◌++◌, map, Result, Ok, Err}
use Rattle.std.proofs.Common.{Option, Some, None, refl, ap, sym, ◌∙◌, append_assoc}
use Rattle.std.specs.Prelude.{is_some}
use Rattle.std.specs.List.{flat_map}
use Rattle.std.proofs.lemmas.List.{map-append}
use Rattle.hotkey_rules.specs.declared.action.Action.{Action}
use Rattle.hotkey_rules.specs.declared.action.Action.TheVariants as action
use Rattle.text_lines.specs.Reading.{◌>>=◌}
use Rattle.hotkey_text.specs.declared.faults.HotkeyFault.{HotkeyFault}
use Rattle.hotkey_text.specs.declared.faults.HotkeyKind.TheVariants as word_kind
use Rattle.hotkey_text.specs.Shapes.{ActionForm, HotkeyForm}
use Rattle.hotkey_text.specs.Arguments as words
use Rattle.hotkey_text.specs.FaultLists as all
use Rattle.hotkey_text.proofs.FirstFaults.{first_of_trigger, first_of_action}
use Rattle.config_text.specs.declared.faults.ConfigKind.TheVariants as kind
use Rattle.config_text.specs.declared.faults.Fault.{Fault}
use Rattle.screen_config.specs.Configurations.{Configuration, screen_of, with_hotkey}
use Rattle.config_text.specs.Judging.{or_fault, unless}
use Rattle.config_text.specs.Hotkeys.{judged_words, nothing_further, screen_named, meant, action_of}
use Rattle.config_text.specs.Hotkeys.{actions_of, new_hotkey}
use Rattle.screen_config.specs.AddingHotkeys.{has_room, next_rule}
use Rattle.config_text.specs.FaultLists.{fault_unless, first, refusal_of}
use Rattle.config_text.specs.HotkeyFaults.{line_fault, limit_faults, hotkey_faults}

-- ---- one part behind another

none_first : (fs : List Fault) → None ≡ first fs → fs ≡ []
none_first [] e = refl
none_first (f ∷ fs) e = absurd cc

some_first : (fs gs : List Fault) (f : Fault) → Some f ≡ first fs → Some f ≡ first (fs ++ gs)
some_first [] gs f e = absurd cc
some_first (g ∷ fs) gs f e = e

-- a part that is refused for its first fault, and what follows it likewise
both_parts : {A B : Type 0} (r : Result A Fault) (next : A → Result B Fault) (fs gs : List Fault)
    → refusal_of r ≡ first fs → ((x : A) → r ≡ Ok x → refusal_of (next x) ≡ first gs)
    → refusal_of (r >>= next) ≡ first (fs ++ gs)
both_parts (Ok x) next fs gs e go =
    go x refl ∙ ap (λ (l : List Fault). first (l ++ gs)) (sym (none_first fs e))
both_parts (Err f) next fs gs e go = some_first fs gs f e

then_ok : {A B : Type 0} (r : Result A Fault) (f : A → B)
    → refusal_of (r >>= λ x. let a : Result B Fault = Ok (f x) in a) ≡ refusal_of r
then_ok (Ok x) f = refl
then_ok (Err e) f = refl

-- ---- words

abbrev known_among : Configuration → List ℕ → Bool
known_among c word = is_some (screen_of c word)

first_mapped : (fs gs : List HotkeyFault) → all.first fs ≡ all.first gs
    → first (map line_fault fs) ≡ first (map line_fault gs)
first_mapped [] [] e = refl
first_mapped [] (g ∷ gs) e = absurd cc
first_mapped (f ∷ fs) [] e = absurd cc
first_mapped (f ∷ fs) (g ∷ gs) e =
    let same : f ≡ g = cc in ap (λ (x : HotkeyFault). Some (line_fault x)) same

refused_first : (f : HotkeyFault) (fs : List HotkeyFault) → Some f ≡ all.first fs
    → Some (line_fault f) ≡ first (map line_fault fs)
refused_first f [] e = absurd cc
refused_first f (g ∷ fs) e =
    let same : f ≡ g = cc in ap (λ (x : HotkeyFault). Some (line_fault x)) same

judged_first : {A : Type 0} (r : Result A HotkeyFault) (fs : List HotkeyFault)
    → all.refusal_of r ≡ all.first fs → refusal_of (judged_words r) ≡ first (map line_fault fs)
judged_first (Ok x) fs e = first_mapped [] fs e
judged_first (Err f) fs e = refused_first f fs e

screen_first : (o : Option ℕ) (further : Option ℕ) (left : ℕ)
    → refusal_of
    (or_fault o kind.UnknownScreen left >>= λ screen. nothing_further further
    >>= λ _. let a : Result Action Fault =
    Ok (action.SwitchTo (record { 0 = screen })) in
    a)
    ≡ first
    (map line_fault
    (all.fault_unless (is_some o) word_kind.UnknownScreen left ++ all.place_faults further))
screen_first None further left = refl
screen_first (Some n) None left = refl
screen_first (Some n) (Some place) left = refl

meant_first : (c : Configuration) (text : words.ActionText)
    → refusal_of (meant c text) ≡ first (map line_fault (all.faults_left (known_among c) text))
unfolding screen_named
meant_first c (words.Key deed id mods) = refl
meant_first c (words.Mouse deed b mods) = refl
meant_first c (words.Lock mode) = refl
meant_first c (words.SwitchTo s) = screen_first (screen_of c s.word.text) s.further s.word.left
meant_first c (words.SwitchToward side) = refl

-- ---- actions and the line

words_first : (c : Configuration) (r : Result words.ActionText HotkeyFault) (fs : List HotkeyFault)
    → all.refusal_among (known_among c) r ≡ all.first fs
    → refusal_of (judged_words r >>= λ text. meant c text) ≡ first (map line_fault fs)
words_first c (Ok text) fs e =
    meant_first c text ∙ first_mapped (all.faults_left (known_among c) text) fs e
words_first c (Err f) fs e = refused_first f fs e

action_first : (c : Configuration) (form : ActionForm)
    → refusal_of (action_of c form)
    ≡ first (map line_fault (all.action_faults (known_among c) form))
unfolding action_of
action_first c form =
    words_first c (words.action_of form) (all.action_faults (known_among c) form)
    (first_of_action (known_among c) form)

actions_first : (c : Configuration) (forms : List ActionForm)
    → refusal_of (actions_of c forms)
    ≡ first (map line_fault (flat_map (all.action_faults (known_among c)) forms))
unfolding actions_of
actions_first c [] = refl
actions_first c (form ∷ forms) =
    let here = all.action_faults (known_among c) form in
    let others = flat_map (all.action_faults (known_among c)) forms in
    both_parts (action_of c form) _ (map line_fault here) (map line_fault others)
    (action_first c form)
    (λ a e. then_ok (actions_of c forms) (λ (rest : List Action). a ∷ rest) ∙ actions_first c forms)
    ∙ ap first (sym (map-append line_fault here others))

room_first : (b : Bool) (whole : ℕ) (more : Configuration)
    → refusal_of
    (unless b kind.TooMany whole >>= λ _. let a : Result Configuration Fault = Ok more in a)
    ≡ first (fault_unless b kind.TooMany whole)
room_first true whole more = refl
room_first false whole more = refl

parts_mapped : (a b c : List HotkeyFault) (d : List Fault)
    → map line_fault (a ++ (b ++ c)) ++ d
    ≡ map line_fault a ++ (map line_fault b ++ (map line_fault c ++ d))
parts_mapped a b c d =
    ap (λ (l : List Fault). l ++ d)
    (map-append line_fault a (b ++ c)
    ∙ ap (λ (l : List Fault). map line_fault a ++ l) (map-append line_fault b c))
    ∙ append_assoc (map line_fault a) (map line_fault b ++ map line_fault c) d
    ∙ ap (λ (l : List Fault). map line_fault a ++ l)
    (append_assoc (map line_fault b) (map line_fault c) d)

pub first_of_hotkey : (whole : ℕ) (c : Configuration) (line : HotkeyForm)
    → refusal_of (new_hotkey whole c line) ≡ first (hotkey_faults whole c line)
unfolding new_hotkey hotkey_faults all.line_faults
first_of_hotkey whole c line =
    let known = all.action_faults (known_among c) in
    let limit = limit_faults whole c (actions_of c line.press) (actions_of c line.release) in
    both_parts (judged_words (words.trigger_of line)) _ (map line_fault (all.trigger_faults line))
    (map line_fault (flat_map known line.press)
    ++ (map line_fault (flat_map known line.release) ++ limit))
    (judged_first (words.trigger_of line) (all.trigger_faults line) (first_of_trigger line))
    (λ t _.
    both_parts (actions_of c line.press) _ (map line_fault (flat_map known line.press))
    (map line_fault (flat_map known line.release) ++ limit) (actions_first c line.press)
    (λ press p.
    both_parts (actions_of c line.release) _ (map line_fault (flat_map known line.release))
    limit (actions_first c line.release)
    (λ release r.
    room_first (has_room c.hotkeys (press ++ release)) whole
    (with_hotkey c (next_rule c.hotkeys t press release))
    ∙ ap first
    (sym
    (ap
    (λ (x : Result (List Action) Fault).
    limit_faults whole c x (actions_of c line.release))
    p
    ∙ ap (λ (x : Result (List Action) Fault). limit_faults whole c (Ok press) x) r)))))
    ∙ ap first
    (sym
    (parts_mapped (all.trigger_faults line) (flat_map known line.press)
    (flat_map known line.release) limit))
