-- Which keys are among those of actions, and where: a key keeps its place when others follow.
use Rattle.std.proofs.Common.{◌≡◌, ℕ, ◌+◌, ◌≤◌, Bool, true, false, not, cond, List, [], Some, None}
use Rattle.std.proofs.Common.{◌∷◌, ◌++◌, length, map, refl, ap, ◌∙◌, length-append, arith}
use Rattle.std.specs.Prelude.{◌==◌, unwrap_or}
use Rattle.std.specs.List.{list_all, position, All}
use Rattle.std.proofs.lemmas.Bool.{and_parts, and_from, or_left, or_right, eq-eqb, ltb-false}
use Rattle.std.proofs.Math.Dec.{ltb}
use Rattle.std.proofs.lemmas.List.Folds.{list_any-append}
use Rattle.std.proofs.lemmas.List.Sums.{prefix_len-le-length}
use Rattle.std.proofs.lemmas.List.Concat.{flat_map-append}
use Rattle.std.proofs.lemmas.List.Elements.{All-nil, All-cons, All-head, All-tail, All-map}
use Rattle.share_base.proofs.ListTests.{all_parts}
use Rattle.hotkey_rules.specs.declared.action.Action.{Action}
use Rattle.hotkey_rules.specs.declared.action.Action.TheVariants as action
use Rattle.screen_config.specs.ActionKeys.{has_key, with_key, with_keys, key_in, keys_in, place_of}
use Rattle.screen_config.specs.ActionKeys.{with_button}
use Rattle.screen_config.specs.SoundHotkeys.{HasItsButton}

-- ---- the place as the code finds it

place_by : (t : Bool) (n m : ℕ) → ltb n m ≡ t → n ≤ m → unwrap_or (cond t (Some n) None) m ≡ n
place_by true n m e h = refl
place_by false n m e h = omega (arith, ltb-false n m e)

pub place_found : (keys : List ℕ) (id : ℕ)
    → unwrap_or (position (λ k. k == id) keys) (length keys) ≡ place_of keys id
place_found keys id =
    place_by (ltb (place_of keys id) (length keys)) (place_of keys id) (length keys) refl
    (prefix_len-le-length (λ k. not (k == id)) keys)

-- ---- keys more

pub with_keys_append : (keys ids more : List ℕ)
    → with_keys keys (ids ++ more) ≡ with_keys (with_keys keys ids) more
with_keys_append keys [] more = refl
with_keys_append keys (id ∷ ids) more = with_keys_append (with_key keys id) ids more

longer_by : (t : Bool) (keys : List ℕ) (id : ℕ)
    → length keys ≤ length (cond t keys (keys ++ id ∷ []))
longer_by true keys id = omega arith
longer_by false keys id = omega (arith, length-append keys (id ∷ []))

pub longer : (keys ids : List ℕ) → length keys ≤ length (with_keys keys ids)
longer keys [] = omega arith
longer keys (id ∷ ids) =
    omega (arith, longer (with_key keys id) ids, longer_by (has_key keys id) keys id)

has_front : (keys more : List ℕ) (k : ℕ) → has_key keys k ≡ true → has_key (keys ++ more) k ≡ true
has_front keys more k h =
    list_any-append (λ j. j == k) keys more ∙ or_left (has_key keys k) (has_key more k) h

stays_by : (t : Bool) (keys : List ℕ) (id k : ℕ) → has_key keys k ≡ true
    → has_key (cond t keys (keys ++ id ∷ [])) k ≡ true
stays_by true keys id k h = h
stays_by false keys id k h = has_front keys (id ∷ []) k h

stays : (keys ids : List ℕ) (k : ℕ) → has_key keys k ≡ true → has_key (with_keys keys ids) k ≡ true
stays keys [] k h = h
stays keys (id ∷ ids) k h = stays (with_key keys id) ids k (stays_by (has_key keys id) keys id k h)

comes_by : (t : Bool) (keys : List ℕ) (id : ℕ) → has_key keys id ≡ t
    → has_key (cond t keys (keys ++ id ∷ [])) id ≡ true
comes_by true keys id e = e
comes_by false keys id e =
    list_any-append (λ j. j == id) keys (id ∷ [])
    ∙ or_right (has_key keys id) (has_key (id ∷ []) id)
    (or_left (id == id) false (eq-eqb id id refl))

-- all of them are there then
pub all_there : (keys ids : List ℕ) → list_all (has_key (with_keys keys ids)) ids ≡ true
all_there keys [] = refl
all_there keys (id ∷ ids) =
    and_from _ _ (stays (with_key keys id) ids id (comes_by (has_key keys id) keys id refl))
    (all_there (with_key keys id) ids)

-- ---- and each that was there has the place that it had

front_place_by : (t : Bool) (x k : ℕ) (xs more : List ℕ) → (x == k) ≡ t → has_key (x ∷ xs) k ≡ true
    → (has_key xs k ≡ true → place_of (xs ++ more) k ≡ place_of xs k)
    → place_of (x ∷ (xs ++ more)) k ≡ place_of (x ∷ xs) k
front_place_by true x k xs more e h rest = rw e refl
front_place_by false x k xs more e h rest = rw e (ap (λ n. 1 + n) (rest (rw e at h)))

pub front_place : (keys more : List ℕ) (k : ℕ) → has_key keys k ≡ true
    → place_of (keys ++ more) k ≡ place_of keys k
front_place [] more k h = absurd cc
front_place (x ∷ xs) more k h = front_place_by (x == k) x k xs more refl h (front_place xs more k)

same_place_by : (t : Bool) (keys : List ℕ) (id k : ℕ) → has_key keys k ≡ true
    → place_of (cond t keys (keys ++ id ∷ [])) k ≡ place_of keys k
same_place_by true keys id k h = refl
same_place_by false keys id k h = front_place keys (id ∷ []) k h

pub same_place : (keys ids : List ℕ) (k : ℕ) → has_key keys k ≡ true
    → place_of (with_keys keys ids) k ≡ place_of keys k
same_place keys [] k h = refl
same_place keys (id ∷ ids) k h =
    same_place (with_key keys id) ids k (stays_by (has_key keys id) keys id k h)
    ∙ same_place_by (has_key keys id) keys id k h

-- ---- so the buttons of actions stay, too

pub same_button : (keys ids : List ℕ) (a : Action) → list_all (has_key keys) (key_in a) ≡ true
    → with_button (with_keys keys ids) a ≡ with_button keys a
unfolding with_button
same_button keys ids (action.KeyStroke id mods button) h =
    ap (λ n. action.KeyStroke id mods (record { 0 = 0xf000 + n }))
    (same_place keys ids id.0 (and_parts (has_key keys id.0) true h).0)
same_button keys ids (action.KeyPress id mods button) h =
    ap (λ n. action.KeyPress id mods (record { 0 = 0xf000 + n }))
    (same_place keys ids id.0 (and_parts (has_key keys id.0) true h).0)
same_button keys ids (action.KeyRelease id mods button) h =
    ap (λ n. action.KeyRelease id mods (record { 0 = 0xf000 + n }))
    (same_place keys ids id.0 (and_parts (has_key keys id.0) true h).0)
same_button keys ids (action.MouseClick mods b) h = refl
same_button keys ids (action.MousePress mods b) h = refl
same_button keys ids (action.MouseRelease mods b) h = refl
same_button keys ids (action.Lock mode) h = refl
same_button keys ids (action.SwitchTo screen) h = refl
same_button keys ids (action.SwitchToward side) h = refl

pub same_buttons : (keys ids : List ℕ) (actions : List Action)
    → list_all (has_key keys) (keys_in actions) ≡ true → All (HasItsButton keys) actions
    → All (HasItsButton (with_keys keys ids)) actions
same_buttons keys ids [] h all = All-nil (HasItsButton (with_keys keys ids))
same_buttons keys ids (a ∷ actions) h all =
    let parts = all_parts (has_key keys) (key_in a) (keys_in actions) h in
    All-cons (HasItsButton (with_keys keys ids)) a actions
    (same_button keys ids a parts.0 ∙ All-head (HasItsButton keys) a actions all)
    (same_buttons keys ids actions parts.1 (All-tail (HasItsButton keys) a actions all))

-- ---- actions that were given their buttons

given_once : (keys : List ℕ) (a : Action)
    → with_button keys (with_button keys a) ≡ with_button keys a
unfolding with_button
given_once keys (action.KeyStroke id mods button) = refl
given_once keys (action.KeyPress id mods button) = refl
given_once keys (action.KeyRelease id mods button) = refl
given_once keys (action.MouseClick mods b) = refl
given_once keys (action.MousePress mods b) = refl
given_once keys (action.MouseRelease mods b) = refl
given_once keys (action.Lock mode) = refl
given_once keys (action.SwitchTo screen) = refl
given_once keys (action.SwitchToward side) = refl

pub given_buttons : (keys : List ℕ) (actions : List Action)
    → All (HasItsButton keys) (map (with_button keys) actions)
given_buttons keys actions =
    All-map (HasItsButton keys) (with_button keys) actions (λ n d h. given_once keys _)

same_key : (keys : List ℕ) (a : Action) → key_in (with_button keys a) ≡ key_in a
unfolding with_button
same_key keys (action.KeyStroke id mods button) = refl
same_key keys (action.KeyPress id mods button) = refl
same_key keys (action.KeyRelease id mods button) = refl
same_key keys (action.MouseClick mods b) = refl
same_key keys (action.MousePress mods b) = refl
same_key keys (action.MouseRelease mods b) = refl
same_key keys (action.Lock mode) = refl
same_key keys (action.SwitchTo screen) = refl
same_key keys (action.SwitchToward side) = refl

pub same_keys : (keys : List ℕ) (actions : List Action)
    → keys_in (map (with_button keys) actions) ≡ keys_in actions
same_keys keys [] = refl
same_keys keys (a ∷ actions) =
    ap (λ (ids : List ℕ). ids ++ keys_in (map (with_button keys) actions)) (same_key keys a)
    ∙ ap (λ (ids : List ℕ). key_in a ++ ids) (same_keys keys actions)

pub keys_in_append : (actions more : List Action)
    → keys_in (actions ++ more) ≡ keys_in actions ++ keys_in more
keys_in_append actions more = flat_map-append key_in actions more
