-- Names of which no two are the same, and one more among them.
use Rattle.std.proofs.Common.{◌≡◌, ℕ, Bool, true, false, not, List, [], ◌∷◌, ◌++◌, map, get_or}
use Rattle.std.proofs.Common.{Option, Some, None, refl, ap, sym, ◌∙◌, arith}
use Rattle.std.specs.Prelude.{slice_get}
use Rattle.std.specs.List.{list_all, list_any, find, position, position_or_len}
use Rattle.std.specs.Option.{option_map, option_or}
use Rattle.std.proofs.lemmas.Bool.{and_parts, and_from, not-true, not_from_false}
use Rattle.std.proofs.lemmas.List.Folds.{find_at, list_all-map}
use Rattle.std.proofs.lemmas.List.Quantifiers.{position-Some}
use Rattle.std.proofs.lemmas.List.Sums.{position_or_len_is}
use Rattle.std.proofs.lemmas.Option.{slice_get-get_or}
use Rattle.share_base.specs.Names.{same_name}
use Rattle.share_base.proofs.SameNames.{same_name_swapped}
use Rattle.share_base.proofs.ListTests.{all_weaker, all_append, all_parts, any_none, none_of_any}
use Rattle.share_base.proofs.ListTests.{none_of_find, none_of_position, find_none, position_none}
use Rattle.screen_config.specs.declared.screens.Screen.{Screen}
use Rattle.screen_config.specs.declared.screens.Alias.{Alias}
use Rattle.screen_config.specs.Configurations.{Configuration, screen_of, screen_place, alias_place}
use Rattle.screen_config.specs.Sound.{apart}

-- none of these names is the same as that one
abbrev pub are_others : List ℕ → List (List ℕ) → Bool
are_others name names = list_all (λ other. not (same_name other name)) names

swapped : (name : List ℕ) (names : List (List ℕ)) → are_others name names ≡ true
    → list_any (same_name name) names ≡ false
swapped name names h =
    any_none (same_name name) names
    (all_weaker (λ other. not (same_name other name)) (λ other. not (same_name name other))
    (λ other k. ap not (same_name_swapped name other) ∙ k) names h)

-- one more stands between them
pub apart_with : (front : List (List ℕ)) (name : List ℕ) (back : List (List ℕ))
    → apart (front ++ back) ≡ true → are_others name front ≡ true → are_others name back ≡ true
    → apart (front ++ name ∷ back) ≡ true
apart_with [] name back h f b =
    and_from (not (list_any (same_name name) back)) (apart back)
    (not_from_false _ (swapped name back b)) h
apart_with (x ∷ xs) name back h f b =
    let whole = and_parts (not (list_any (same_name x) (xs ++ back))) (apart (xs ++ back)) h in
    let first = and_parts (not (same_name x name)) (are_others name xs) f in
    let parts =
    all_parts (λ other. not (same_name x other)) xs back
    (none_of_any (same_name x) (xs ++ back) (not-true _ whole.0)) in
    let none : list_any (same_name x) (xs ++ name ∷ back) ≡ false =
    any_none (same_name x) (xs ++ name ∷ back)
    (all_append (λ other. not (same_name x other)) xs (name ∷ back) parts.0
    (and_from _ _ first.0 parts.1))
    in
    and_from (not (list_any (same_name x) (xs ++ name ∷ back))) (apart (xs ++ name ∷ back))
    (not_from_false _ none) (apart_with xs name back whole.1 first.1 b)

-- each name before that one is another
pub others_before : (front : List (List ℕ)) (name : List ℕ) (back : List (List ℕ))
    → apart (front ++ name ∷ back) ≡ true → are_others name front ≡ true
others_before [] name back h = refl
others_before (x ∷ xs) name back h =
    let whole =
    and_parts (not (list_any (same_name x) (xs ++ name ∷ back))) (apart (xs ++ name ∷ back)) h
    in
    let parts =
    all_parts (λ other. not (same_name x other)) xs (name ∷ back)
    (none_of_any (same_name x) (xs ++ name ∷ back) (not-true _ whole.0)) in
    let here =
    and_parts (not (same_name x name)) (list_all (λ other. not (same_name x other)) back)
    parts.1 in
    and_from (not (same_name x name)) (are_others name xs) here.0
    (others_before xs name back whole.1)

-- and each behind it
pub others_behind : (front : List (List ℕ)) (name : List ℕ) (back : List (List ℕ))
    → apart (front ++ name ∷ back) ≡ true → are_others name back ≡ true
others_behind [] name back h =
    let whole = and_parts (not (list_any (same_name name) back)) (apart back) h in
    all_weaker (λ other. not (same_name name other)) (λ other. not (same_name other name))
    (λ other k. ap not (same_name_swapped other name) ∙ k) back
    (none_of_any (same_name name) back (not-true _ whole.0))
others_behind (x ∷ xs) name back h =
    let whole =
    and_parts (not (list_any (same_name x) (xs ++ name ∷ back))) (apart (xs ++ name ∷ back)) h
    in
    others_behind xs name back whole.1

-- ---- a name that no screen and no alias has

neither : (place other : Option ℕ) → option_or place other ≡ None → (place ≡ None) × (other ≡ None)
neither None other h = (refl, h)
neither (Some n) other h = absurd cc

none_mapped : (found : Option Alias) → option_map (λ a. a.screen) found ≡ None → found ≡ None
none_mapped None h = refl
none_mapped (Some a) h = absurd cc

pub others_if_unknown : (c : Configuration) (name : List ℕ) → screen_of c name ≡ None
    → (are_others name (map (λ s. s.name) c.screens) ≡ true)
    × (are_others name (map (λ a. a.name) c.aliases) ≡ true)
unfolding screen_of
others_if_unknown c name h =
    let both = neither (screen_place c.screens name) (alias_place c.aliases name) h in
    let of_screens = none_of_position (λ (s : Screen). same_name s.name name) c.screens both.0 in
    let of_aliases =
    none_of_find (λ (a : Alias). same_name a.name name) c.aliases (none_mapped _ both.1) in (
      list_all-map (λ other. not (same_name other name)) (λ (s : Screen). s.name) c.screens
          ∙ of_screens,
      list_all-map (λ other. not (same_name other name)) (λ (a : Alias). a.name) c.aliases
          ∙ of_aliases,
    )

pub unknown_if_others : (c : Configuration) (name : List ℕ)
    → are_others name (map (λ s. s.name) c.screens) ≡ true
    → are_others name (map (λ a. a.name) c.aliases) ≡ true → screen_of c name ≡ None
unfolding screen_of
unknown_if_others c name h k =
    let of_screens =
    position_none (λ (s : Screen). same_name s.name name) c.screens
    (sym
    (list_all-map (λ other. not (same_name other name)) (λ (s : Screen). s.name)
    c.screens)
    ∙ h)
    in
    let of_aliases =
    find_none (λ (a : Alias). same_name a.name name) c.aliases
    (sym
    (list_all-map (λ other. not (same_name other name)) (λ (a : Alias). a.name)
    c.aliases)
    ∙ k)
    in
    rw (of_screens, of_aliases) refl

-- ---- found by a test

pub unknown_screen : (c : Configuration) (name : List ℕ) → screen_of c name ≡ None
    → screen_place c.screens name ≡ None
unfolding screen_of
unknown_screen c name h = (neither (screen_place c.screens name) (alias_place c.aliases name) h).0

abbrev is_called : List ℕ → Alias → Bool
is_called name a = same_name a.name name

pub unknown_alias : (c : Configuration) (name : List ℕ) → screen_of c name ≡ None
    → position (λ a. same_name a.name name) c.aliases ≡ None
unfolding screen_of
unknown_alias c name h =
    let none =
    none_mapped (find (is_called name) c.aliases)
    (neither (screen_place c.screens name) (alias_place c.aliases name) h).1 in
    position_none (is_called name) c.aliases (none_of_find (is_called name) c.aliases none)

pub no_alias : (aliases : List Alias) (name : List ℕ)
    → position (λ a. same_name a.name name) aliases ≡ None → alias_place aliases name ≡ None
no_alias aliases name h =
    ap (option_map (λ (a : Alias). a.screen))
    (find_none (is_called name) aliases (none_of_position (is_called name) aliases h))

pub alias_at : (aliases : List Alias) (name : List ℕ) (i : ℕ) (d : Alias)
    → position (λ a. same_name a.name name) aliases ≡ Some i
    → alias_place aliases name ≡ Some (get_or aliases i d).screen
alias_at aliases name i d h =
    let found = position-Some (is_called name) aliases i d h in
    let first : position_or_len (is_called name) aliases ≡ i =
    position_or_len_is (is_called name) aliases i d (omega (arith, found.0)) found.2
    (λ _. found.1) in
    ap (option_map (λ (a : Alias). a.screen))
    (find_at (is_called name) aliases ∙ ap (slice_get aliases) first
    ∙ slice_get-get_or aliases i d found.0)
