-- The normal form depends on the value alone.
use Rattle.std.proofs.Common.{◌≡◌, ℕ, ◌+◌, Bool, true, false, cond, List, [], ◌∷◌, ◌++◌, length}
use Rattle.std.proofs.Common.{map, get_or, Option, Some, None, refl, ap, sym, ◌∙◌, append_assoc}
use Rattle.std.proofs.Common.{length-append, inl, inr, arith}
use Rattle.std.specs.Prelude.{codes, filter, slice_get}
use Rattle.std.specs.List.{flat_map, range_with_len}
use Rattle.std.proofs.lemmas.Bool.{cases_lt}
use Rattle.std.proofs.lemmas.List.Folds.{flat_map-map}
use Rattle.std.proofs.lemmas.List.FromFn.{length-map-range_with_len, get_or-map-range_with_len}
use Rattle.std.proofs.lemmas.Option.{slice_get-get_or, slice_get_past}
use Rattle.screen_links.specs.declared.link.Link.{Link}
use Rattle.option_table.specs.Printed.{option_lines}
use Rattle.hotkey_rules.specs.declared.action.Action.{Action}
use Rattle.hotkey_rules.specs.declared.action.Action.TheVariants as action
use Rattle.hotkey_rules.specs.declared.rule.Rule.{Rule}
use Rattle.hotkey_text.specs.Printed.{trigger_text, action_text, hotkey_text}
use Rattle.screen_config.specs.declared.screens.Alias.{Alias}
use Rattle.screen_config.specs.declared.screens.Screen.{Screen}
use Rattle.screen_config.specs.Configurations.{Configuration}
use Rattle.screen_config.specs.Globals.{own_in}
use Rattle.config_text.specs.Normal.{one_tab, two_tabs, header_text, block_text, section_of}
use Rattle.config_text.specs.Normal.{screen_text, alias_text, aliases_of, range_text, link_text}
use Rattle.config_text.specs.Normal.{side_links, links_of, screen_in, action_of, hotkey_of, normal}
use Rattle.share_base.specs.Sides.{side_text, sides}
use Rattle.screen_config.specs.Values.{numbers_of, name_in, name_of, names_screen, links_on}
use Rattle.screen_config.specs.Values.{ScreenValue, screen_value, ConfigValue, value_of}
use Rattle.config_text.proofs.LinksAgain.{side_text_is}

-- ---- the normal form, from a value

abbrev own_text : ScreenValue → List ℕ
own_text v = header_text v.name ++ option_lines two_tabs v.settings

abbrev alias_line : List ℕ → List ℕ
alias_line name = (two_tabs ++ name) ++ 10 ∷ []

abbrev aliases_below : ScreenValue → List ℕ
aliases_below v = block_text v.name (flat_map alias_line v.aliases)

abbrev value_name : Option ScreenValue → List ℕ
value_name None = []
value_name (Some v) = v.name

abbrev link_line : List ScreenValue → Link → List ℕ
link_line screens l =
    (((((two_tabs ++ side_text l.side) ++ range_text l.range) ++ codes " = ")
    ++ value_name (slice_get screens l.to.0))
    ++ range_text l.onto)
    ++ 10 ∷ []

abbrev links_below : List ScreenValue → ScreenValue → List ℕ
links_below screens v = block_text v.name (flat_map (flat_map (link_line screens)) v.links)

abbrev screen_among : List ScreenValue → Action → List ℕ
screen_among screens (action.SwitchTo screen) = value_name (slice_get screens screen.0)
screen_among screens (action.SwitchToward side) = []
screen_among screens (action.Lock mode) = []
screen_among screens (action.KeyStroke id mods button) = []
screen_among screens (action.KeyPress id mods button) = []
screen_among screens (action.KeyRelease id mods button) = []
screen_among screens (action.MouseClick mods b) = []
screen_among screens (action.MousePress mods b) = []
screen_among screens (action.MouseRelease mods b) = []

abbrev action_among : List ScreenValue → Action → List ℕ
action_among screens a = action_text a (screen_among screens a)

abbrev hotkey_line : List ScreenValue → Rule → List ℕ
hotkey_line screens rule =
    (one_tab
    ++ hotkey_text (trigger_text rule.trigger) (map (action_among screens) rule.press)
    (map (action_among screens) rule.release))
    ++ 10 ∷ []

abbrev normal_of : ConfigValue → List ℕ
normal_of v =
    ((section_of (codes "screens") (flat_map own_text v.screens)
    ++ section_of (codes "aliases") (flat_map aliases_below v.screens))
    ++ section_of (codes "links") (flat_map (links_below v.screens) v.screens))
    ++ section_of (codes "options")
    (option_lines one_tab v.settings ++ flat_map (hotkey_line v.screens) v.hotkeys)

-- ---- it is that of each configuration of the value

each_same : {A : Type 0} (f h : A → List ℕ) → ((x : A) → h x ≡ f x) → (xs : List A)
    → flat_map h xs ≡ flat_map f xs
each_same f h e [] = refl
each_same f h e (x ∷ xs) =
    ap (λ (t : List ℕ). t ++ flat_map h xs) (e x)
    ∙ ap (λ (t : List ℕ). f x ++ t) (each_same f h e xs)

over_map : {A B : Type 0} (f : B → List ℕ) (g : A → B) (h : A → List ℕ) → ((x : A) → h x ≡ f (g x))
    → (xs : List A) → flat_map h xs ≡ flat_map f (map g xs)
over_map f g h e xs = each_same (λ x. f (g x)) h e xs ∙ sym (flat_map-map f g xs)

abbrev text_at : Option Screen → List ℕ
text_at o = header_text (name_in o) ++ option_lines two_tabs (own_in o)

next_there : (front : List Screen) (s : Screen) (back : List Screen)
    → slice_get (front ++ s ∷ back) (length front) ≡ Some s
next_there [] s back = refl
next_there (x ∷ xs) s back = next_there xs s back

by_number : (front screens : List Screen)
    → flat_map screen_text screens
    ≡ flat_map (λ n. text_at (slice_get (front ++ screens) n))
    (range_with_len (length front) (length screens))
unfolding screen_text
by_number front [] = refl
by_number front (s ∷ ss) =
    let place : length (front ++ s ∷ []) ≡ length front + 1 = length-append front (s ∷ []) in
    let whole : (front ++ s ∷ []) ++ ss ≡ front ++ s ∷ ss = append_assoc front (s ∷ []) ss in
    let rest : flat_map screen_text ss
    ≡ flat_map (λ n. text_at (slice_get (front ++ s ∷ ss) n))
    (range_with_len (length front + 1) (length ss)) =
    by_number (front ++ s ∷ []) ss
    ∙ ap
    (λ (xs : List Screen).
    flat_map (λ n. text_at (slice_get xs n))
    (range_with_len (length (front ++ s ∷ [])) (length ss)))
    whole
    ∙ ap
    (λ (k : ℕ).
    flat_map (λ n. text_at (slice_get (front ++ s ∷ ss) n)) (range_with_len k (length ss)))
    place in
    ap (λ (t : List ℕ). screen_text s ++ t) rest
    ∙ ap
    (λ (o : Option Screen). text_at o
    ++ flat_map (λ n. text_at (slice_get (front ++ s ∷ ss) n))
    (range_with_len (length front + 1) (length ss)))
    (sym (next_there front s ss))

screens_by : (c : Configuration)
    → flat_map screen_text c.screens ≡ flat_map own_text (map (screen_value c) (numbers_of c))
unfolding numbers_of
screens_by c =
    by_number [] c.screens
    ∙ over_map own_text (screen_value c) (λ n. text_at (slice_get c.screens n)) (λ n. refl)
    (range_with_len 0 (length c.screens))

alias_by : (t : Bool) (n : ℕ) (a : Alias) (more : List Alias) → names_screen n a ≡ t
    → flat_map (alias_text n) more
    ≡ flat_map alias_line (map (λ x. x.name) (filter (names_screen n) more))
    → cond t (alias_line a.name) [] ++ flat_map (alias_text n) more
    ≡ flat_map alias_line
    (map (λ x. x.name)
    (cond t (a ∷ filter (names_screen n) more) (filter (names_screen n) more)))
alias_by true n a more e rest = ap (λ (t : List ℕ). alias_line a.name ++ t) rest
alias_by false n a more e rest = rest

alias_lines : (n : ℕ) (aliases : List Alias)
    → flat_map (alias_text n) aliases
    ≡ flat_map alias_line (map (λ x. x.name) (filter (names_screen n) aliases))
unfolding alias_text
alias_lines n [] = refl
alias_lines n (a ∷ more) = alias_by (names_screen n a) n a more refl (alias_lines n more)

-- the name of a screen stands in the value
name_by : (c : Configuration) (n : ℕ)
    → name_of c n ≡ value_name (slice_get (map (screen_value c) (numbers_of c)) n)
unfolding numbers_of
name_by c n =
    let values = map (screen_value c) (range_with_len 0 (length c.screens)) in
    let count : length values ≡ length c.screens =
    length-map-range_with_len (screen_value c) 0 (length c.screens) in
    elim (cases_lt n (length c.screens)) [
      | inl h ↦
          let there : get_or values n (screen_value c n) ≡ screen_value c n =
          get_or-map-range_with_len (screen_value c) 0 (length c.screens) n n (screen_value c n)
          h (omega arith) in
          ap value_name
          (sym
          (slice_get-get_or values n (screen_value c n) (omega arith)
          ∙ ap (λ (v : ScreenValue). let o : Option ScreenValue = Some v in o) there))
      | inr h ↦
          ap name_in (slice_get_past c.screens n h)
          ∙ sym (ap value_name (slice_get_past values n (omega arith)))
    ]

link_by : (c : Configuration) (l : Link)
    → link_text c l ≡ link_line (map (screen_value c) (numbers_of c)) l
unfolding link_text
link_by c l =
    ap
    (λ (name : List ℕ).
    (((((two_tabs ++ side_text l.side) ++ range_text l.range) ++ codes " = ") ++ name)
    ++ range_text l.onto)
    ++ 10 ∷ [])
    (name_by c l.to.0)

each_link : (c : Configuration) (links : List Link)
    → flat_map (link_text c) links
    ≡ flat_map (link_line (map (screen_value c) (numbers_of c))) links
each_link c links =
    each_same (link_line (map (screen_value c) (numbers_of c))) (link_text c) (link_by c) links

links_by : (c : Configuration) (n : ℕ)
    → flat_map (side_links c n) sides
    ≡ flat_map (flat_map (link_line (map (screen_value c) (numbers_of c))))
    (map (links_on c n) sides)
links_by c n =
    over_map (flat_map (link_line (map (screen_value c) (numbers_of c)))) (links_on c n)
    (side_links c n) (λ side. side_text_is c n side ∙ each_link c (links_on c n side)) sides

screen_by : (c : Configuration) (a : Action)
    → screen_in c a ≡ screen_among (map (screen_value c) (numbers_of c)) a
screen_by c (action.SwitchTo screen) = name_by c screen.0
screen_by c (action.SwitchToward side) = refl
screen_by c (action.Lock mode) = refl
screen_by c (action.KeyStroke id mods button) = refl
screen_by c (action.KeyPress id mods button) = refl
screen_by c (action.KeyRelease id mods button) = refl
screen_by c (action.MouseClick mods b) = refl
screen_by c (action.MousePress mods b) = refl
screen_by c (action.MouseRelease mods b) = refl

actions_by : (c : Configuration) (actions : List Action)
    → map (action_of c) actions ≡ map (action_among (map (screen_value c) (numbers_of c))) actions
unfolding action_of
actions_by c [] = refl
actions_by c (a ∷ actions) =
    ap (λ (t : List ℕ). action_text a t ∷ map (action_of c) actions) (screen_by c a)
    ∙ ap (λ (ts : List (List ℕ)). action_among (map (screen_value c) (numbers_of c)) a ∷ ts)
    (actions_by c actions)

hotkey_by : (c : Configuration) (rule : Rule)
    → hotkey_of c rule ≡ hotkey_line (map (screen_value c) (numbers_of c)) rule
unfolding hotkey_of
hotkey_by c rule =
    ap
    (λ (press : List (List ℕ)).
    (one_tab
    ++ hotkey_text (trigger_text rule.trigger) press
    (map (action_of c) rule.release))
    ++ 10 ∷ [])
    (actions_by c rule.press)
    ∙ ap
    (λ (release : List (List ℕ)).
    (one_tab
    ++ hotkey_text (trigger_text rule.trigger)
    (map (action_among (map (screen_value c) (numbers_of c))) rule.press)
    release)
    ++ 10 ∷ [])
    (actions_by c rule.release)

normal_is : (c : Configuration) → normal c ≡ normal_of (value_of c)
unfolding normal value_of aliases_of links_of
normal_is c =
    let screens : flat_map screen_text c.screens
    ≡ flat_map own_text (map (screen_value c) (numbers_of c)) =
    screens_by c in
    let aliases : flat_map (aliases_of c) (numbers_of c)
    ≡ flat_map aliases_below (map (screen_value c) (numbers_of c)) =
    over_map aliases_below (screen_value c) (aliases_of c)
    (λ n. ap (block_text (name_of c n)) (alias_lines n c.aliases)) (numbers_of c) in
    let links : flat_map (links_of c) (numbers_of c)
    ≡ flat_map (links_below (map (screen_value c) (numbers_of c)))
    (map (screen_value c) (numbers_of c)) =
    over_map (links_below (map (screen_value c) (numbers_of c))) (screen_value c) (links_of c)
    (λ n. ap (block_text (name_of c n)) (links_by c n)) (numbers_of c) in
    rw (
      screens,
      aliases,
      links,
      each_same (hotkey_line (map (screen_value c) (numbers_of c))) (hotkey_of c)
          (hotkey_by c) c.hotkeys,
    )
    refl

pub normal_by_value : (c d : Configuration) → value_of c ≡ value_of d → normal c ≡ normal d
normal_by_value c d e = normal_is c ∙ ap normal_of e ∙ sym (normal_is d)
