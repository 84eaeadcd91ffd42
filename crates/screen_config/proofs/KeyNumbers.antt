-- The numbers of keys: different keys have different ones, and they follow the first appearances in
-- the text.
use Rattle.std.proofs.Common.{◌≡◌, ℕ, suc, ◌+◌, ◌<◌, ◌≤◌, Bool, true, false, List, [], ◌∷◌, ◌++◌}
use Rattle.std.proofs.Common.{length, get_or, refl, ap, subst, sym, ◌∙◌, append_assoc, append-nil}
use Rattle.std.proofs.Common.{arith}
use Rattle.std.specs.Prelude.{◌==◌, if◌then◌else◌}
use Rattle.std.specs.List.{list_all}
use Rattle.std.proofs.lemmas.Bool.{and_parts, eqb-true, both_ways}
use Rattle.share_base.specs.declared.numbers.Button.{Button}
use Rattle.hotkey_rules.specs.declared.rule.Rule.{Rule}
use Rattle.screen_config.specs.ActionKeys.{has_key, with_key, with_keys, place_of, button_of}
use Rattle.screen_config.specs.ActionKeys.{keys_of_rules, action_keys}
use Rattle.screen_config.proofs.KeyPlaces.{all_there, front_place}

-- ---- where a key stands in a list

below_by : (t : Bool) (x k : ℕ) (xs : List ℕ) → (x == k) ≡ t → has_key (x ∷ xs) k ≡ true
    → (has_key xs k ≡ true → place_of xs k < length xs) → place_of (x ∷ xs) k < length (x ∷ xs)
below_by true x k xs e h rest = rw e (omega arith)
below_by false x k xs e h rest = rw e (omega (arith, rest (rw e at h)))

-- within the list, if it is there
pub place_below : (keys : List ℕ) (k : ℕ) → has_key keys k ≡ true → place_of keys k < length keys
place_below [] k h = absurd cc
place_below (x ∷ xs) k h = below_by (x == k) x k xs refl h (place_below xs k)

at_by : (t : Bool) (x k : ℕ) (xs : List ℕ) → (x == k) ≡ t → has_key (x ∷ xs) k ≡ true
    → (has_key xs k ≡ true → get_or xs (place_of xs k) 0 ≡ k)
    → get_or (x ∷ xs) (place_of (x ∷ xs) k) 0 ≡ k
at_by true x k xs e h rest = rw e (eqb-true x k e)
at_by false x k xs e h rest =
    let next : 1 + place_of xs k ≡ suc (place_of xs k) = omega arith in
    rw e (ap (λ (n : ℕ). get_or (x ∷ xs) n 0) next ∙ rest (rw e at h))

stands_there : (keys : List ℕ) (k : ℕ) → has_key keys k ≡ true → get_or keys (place_of keys k) 0 ≡ k
stands_there [] k h = absurd cc
stands_there (x ∷ xs) k h = at_by (x == k) x k xs refl h (stands_there xs k)

past_by : (t : Bool) (x k : ℕ) (xs more : List ℕ) → (x == k) ≡ t → has_key (x ∷ xs) k ≡ false
    → (has_key xs k ≡ false → place_of (xs ++ more) k ≡ length xs + place_of more k)
    → place_of (x ∷ (xs ++ more)) k ≡ length (x ∷ xs) + place_of more k
past_by true x k xs more e h rest = absurd (both_ways (has_key (x ∷ xs) k) h (rw e refl))
past_by false x k xs more e h rest = rw e (omega (arith, rest (rw e at h)))

-- behind the list, if it isn't
place_past : (keys more : List ℕ) (k : ℕ) → has_key keys k ≡ false
    → place_of (keys ++ more) k ≡ length keys + place_of more k
place_past [] more k h = omega arith
place_past (x ∷ xs) more k h = past_by (x == k) x k xs more refl h (place_past xs more k)

-- ---- one that is there already changes no order

other_key : (keys : List ℕ) (i k : ℕ) → has_key keys i ≡ true → has_key keys k ≡ false
    → (i == k) ≡ false
other_key keys i k h n = by (i == k) refl where
  by : (t : Bool) → (i == k) ≡ t → t ≡ false
  by true e = absurd (both_ways (has_key keys k) n (ap (has_key keys) (sym (eqb-true i k e)) ∙ h))
  by false e = refl

next_past : (keys ids : List ℕ) (i k : ℕ) → has_key keys i ≡ true → has_key keys k ≡ false
    → place_of (keys ++ i ∷ ids) k ≡ length keys + (1 + place_of ids k)
next_past keys ids i k h n = place_past keys (i ∷ ids) k n ∙ rw (other_key keys i k h n) refl

skipped_by : (s t : Bool) (keys ids : List ℕ) (i a b : ℕ) → has_key keys i ≡ true
    → has_key keys a ≡ s → has_key keys b ≡ t
    → place_of (keys ++ i ∷ ids) a < place_of (keys ++ i ∷ ids) b
    → place_of (keys ++ ids) a < place_of (keys ++ ids) b
skipped_by true true keys ids i a b h x y lt =
    omega (
      arith,
      lt,
      front_place keys (i ∷ ids) a x,
      front_place keys (i ∷ ids) b y,
      front_place keys ids a x,
      front_place keys ids b y,
    )
skipped_by true false keys ids i a b h x y lt =
    omega (arith, front_place keys ids a x, place_past keys ids b y, place_below keys a x)
skipped_by false true keys ids i a b h x y lt =
    omega
    (arith, lt, next_past keys ids i a h x, front_place keys (i ∷ ids) b y, place_below keys b y)
skipped_by false false keys ids i a b h x y lt =
    omega (
      arith,
      lt,
      next_past keys ids i a h x,
      next_past keys ids i b h y,
      place_past keys ids a x,
      place_past keys ids b y,
    )

order_by : (t : Bool) (keys ids : List ℕ) (i a b : ℕ) → has_key keys i ≡ t
    → ((front : List ℕ) → place_of (front ++ ids) a < place_of (front ++ ids) b
    → place_of (with_keys front ids) a < place_of (with_keys front ids) b)
    → place_of (keys ++ i ∷ ids) a < place_of (keys ++ i ∷ ids) b
    → place_of (with_keys (if t then keys else keys ++ i ∷ []) ids) a
    < place_of (with_keys (if t then keys else keys ++ i ∷ []) ids) b
order_by true keys ids i a b e rest lt =
    rest keys (skipped_by (has_key keys a) (has_key keys b) keys ids i a b e refl refl lt)
order_by false keys ids i a b e rest lt =
    rest (keys ++ i ∷ [])
    (subst (λ (xs : List ℕ). place_of xs a < place_of xs b)
    (sym (append_assoc keys (i ∷ []) ids)) lt)

-- keys stand in the order in which they first come
in_order : (ids keys : List ℕ) (a b : ℕ) → place_of (keys ++ ids) a < place_of (keys ++ ids) b
    → place_of (with_keys keys ids) a < place_of (with_keys keys ids) b
in_order [] keys a b lt =
    subst (λ (xs : List ℕ). place_of xs a < place_of xs b) (append-nil keys) lt
in_order (i ∷ ids) keys a b lt =
    order_by (has_key keys i) keys ids i a b refl (λ front. in_order ids front a b) lt

-- ---- of rules

pub keys_in_order : (hotkeys : List Rule) (a b : ℕ)
    → place_of (keys_of_rules hotkeys) a < place_of (keys_of_rules hotkeys) b
    → place_of (action_keys hotkeys) a < place_of (action_keys hotkeys) b
unfolding action_keys
keys_in_order hotkeys a b lt = in_order (keys_of_rules hotkeys) [] a b lt

passes_by : (t : Bool) (p : ℕ → Bool) (x a : ℕ) (xs : List ℕ) → (x == a) ≡ t → p x ≡ true
    → has_key (x ∷ xs) a ≡ true → (has_key xs a ≡ true → p a ≡ true) → p a ≡ true
passes_by true p x a xs e here h rest = ap p (sym (eqb-true x a e)) ∙ here
passes_by false p x a xs e here h rest = rest (rw e at h)

-- one of those that all pass passes
passes : (p : ℕ → Bool) (ids : List ℕ) (a : ℕ) → list_all p ids ≡ true → has_key ids a ≡ true
    → p a ≡ true
passes p [] a all h = absurd cc
passes p (x ∷ xs) a all h =
    let parts = and_parts (p x) (list_all p xs) all in
    passes_by (x == a) p x a xs refl parts.0 h (passes p xs a parts.1)

among : (hotkeys : List Rule) (a : ℕ) → has_key (keys_of_rules hotkeys) a ≡ true
    → has_key (action_keys hotkeys) a ≡ true
unfolding action_keys
among hotkeys a h =
    passes (has_key (with_keys [] (keys_of_rules hotkeys))) (keys_of_rules hotkeys) a
    (all_there [] (keys_of_rules hotkeys)) h

pub own_number : (hotkeys : List Rule) (a b : ℕ) → has_key (keys_of_rules hotkeys) a ≡ true
    → has_key (keys_of_rules hotkeys) b ≡ true
    → button_of (action_keys hotkeys) a ≡ button_of (action_keys hotkeys) b → a ≡ b
own_number hotkeys a b x y e =
    let keys = action_keys hotkeys in
    let same : 0xf000 + place_of keys a ≡ 0xf000 + place_of keys b =
    ap (λ (button : Button). button.0) e in
    let place : place_of keys a ≡ place_of keys b = omega (arith, same) in
    sym (stands_there keys a (among hotkeys a x)) ∙ ap (λ (n : ℕ). get_or keys n 0) place
    ∙ stands_there keys b (among hotkeys b y)

pub few_numbers : (hotkeys : List Rule) (a : ℕ) → length (action_keys hotkeys) ≤ 256
    → has_key (keys_of_rules hotkeys) a ≡ true → place_of (action_keys hotkeys) a < 256
few_numbers hotkeys a few h =
    let below = place_below (action_keys hotkeys) a (among hotkeys a h) in omega (arith, few)
