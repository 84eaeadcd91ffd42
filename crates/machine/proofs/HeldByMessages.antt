-- Where each key goes down at a key button, a screen holds what its messages left down.
use Rattle.std.specs.Prelude.{◌≡◌, refl, ℕ, ◌<◌, length, Bool, true, false, ◌||◌, ◌==◌, cond, is_some, List, [], ◌∷◌, ◌++◌, map, Option, Some, None}
use Rattle.std.specs.List.{list_all}
use Rattle.std.specs.Option.{option_map}
use Rattle.std.proofs.Common.{arith, sym, ap, ◌∙◌, subst, append_assoc, ltb-true}
use Rattle.std.proofs.lemmas.Bool.{and_parts}
use Rattle.std.proofs.lemmas.List.{append-nil, map-append}
use Rattle.share_base.specs.declared.numbers.KeyId.{KeyId}
use Rattle.message_codec.specs.declared.messages.Msg.{Msg}
use Rattle.message_codec.specs.declared.messages.Msg.TheVariants as msg
use Rattle.modifier_map.specs.declared.class.ModClass.{ModClass}
use Rattle.modifier_map.specs.declared.class.ModClass.TheVariants as class
use Rattle.modifier_map.specs.Map.{identity, meant_key, target}
use Rattle.modifier_map.specs.Table.{class_of_left, class_of_right}
use Rattle.held_inputs.specs.Down.{down, is_button_down, last_where, held_keys}
use Rattle.held_inputs.specs.Screen.{Screen, Call, Applies, screen, screen_from, after, applied, meant_id}
use Rattle.machine.specs.Routing.{screen_after}
use Rattle.machine.specs.KeyButtons.{is_key_button, pressed_by_message}
use Rattle.machine.specs.Holding.{Input, Key, Mouse, holds, names, is_leaving, is_down, left_down}
use Rattle.machine.proofs.LeftDown.{left-more}
use Rattle.machine.proofs.HeldLines.{MeansAll, key-more, mouse-more}
use Rattle.machine.proofs.Room.{AtKeyButtons, has-room}

-- a screen after one message more
from_more : (s : Screen) (cs : List Call) (c : Call) → screen_from s (cs ++ c ∷ []) ≡ after (screen_from s cs) c
from_more s [] c = refl
from_more s (d ∷ cs) c = from_more (after s d) cs c

screen_more : (ms : List Msg) (m : Msg) → screen_after (ms ++ m ∷ []) ≡ after (screen_after ms) (Applies m)
screen_more ms m = ap (λ cs. screen identity cs) (map-append Applies ms (m ∷ [])) ∙ from_more (record { lines = []; mods = identity }) (map Applies ms) (Applies m)

lines_more : (ms : List Msg) (m : Msg) → (screen_after (ms ++ m ∷ [])).lines ≡ (screen_after ms).lines ++ applied (screen_after ms) m
lines_more ms m = ap (λ (s : Screen). s.lines) (screen_more ms m)

-- messages leave the map as it is
from_mods : (s : Screen) (ms : List Msg) → (screen_from s (map Applies ms)).mods ≡ s.mods
from_mods s [] = refl
from_mods s (m ∷ ms) = from_mods (after s (Applies m)) ms

same_class : (c : ModClass) → is_some (target identity c) ≡ true
same_class class.Shift = refl
same_class class.Control = refl
same_class class.Alt = refl
same_class class.Meta = refl
same_class class.Super = refl

mapped : {A B : Type 0} (f : A → B) (o : Option A) → is_some o ≡ true → is_some (option_map f o) ≡ true
mapped f (Some x) h = refl
mapped f None h = h

means : (id : KeyId) (l r : Option ModClass) → is_some (meant_key identity id l r) ≡ true
means id (Some c) r = mapped _ (target identity c) (same_class c)
means id None (Some c) = mapped _ (target identity c) (same_class c)
means id None None = refl

means_all : MeansAll identity
unfolding meant_id
means_all id = mapped _ _ (means (record { 0 = id }) (class_of_left id) (class_of_right id))

-- ---- one after another

record IsLinked (ms : List Msg) : Type 0 where
  keys : (b : ℕ) → holds ms (Key b) ≡ left_down ms (Key b)
  small : (b : ℕ) → left_down ms (Key b) ≡ true → is_key_button b ≡ true
  mouse : (b : ℕ) → holds ms (Mouse b) ≡ left_down ms (Mouse b)

linked_none : IsLinked []
unfolding last_where down is_button_down
linked_none = record { keys = λ b. refl; small = λ b h. grind (arith, h); mouse = λ b. refl }

small_more : (m : Msg) (b : ℕ) (old : Bool) → pressed_by_message is_key_button m ≡ true → (old ≡ true → is_key_button b ≡ true) → cond (names (Key b) m || is_leaving m) (is_down (Some m)) old ≡ true → is_key_button b ≡ true
small_more (msg.KeyDown id mask button) b old s h k = by (button == b) refl k
  where
    by : (t : Bool) → (button == b) ≡ t → cond (t || false) true old ≡ true → is_key_button b ≡ true
    by true e k = let is : button ≡ b = grind (arith, e) in subst (λ n. is_key_button n ≡ true) is s
    by false e k = h k
small_more (msg.KeyUp id mask button) b old s h k = by (button == b) k
  where
    by : (t : Bool) → cond (t || false) false old ≡ true → is_key_button b ≡ true
    by true k = grind (arith, k)
    by false k = h k
small_more msg.Leave b old s h k = grind (arith, k)
small_more m b old s h k = h k

at_keys : (ms : List Msg) → IsLinked ms → AtKeyButtons (screen_after ms).lines
at_keys ms h b k = h.small b (sym (h.keys b) ∙ k)

linked_more : (ms : List Msg) (m : Msg) → pressed_by_message is_key_button m ≡ true → IsLinked ms → IsLinked (ms ++ m ∷ [])
linked_more ms m s h = record {
  keys = λ b. ap (λ xs. is_some (down xs b)) (lines_more ms m) ∙ (key-more (screen_after ms) m b (has-room (screen_after ms).lines (at_keys ms h)) (subst MeansAll (sym (from_mods (record { lines = []; mods = identity }) ms)) means_all) ∙ (ap (λ old. cond (names (Key b) m || is_leaving m) (is_down (Some m)) old) (h.keys b) ∙ sym (left-more ms m (Key b))));
  small = λ b k. small_more m b (left_down ms (Key b)) s (h.small b) (sym (left-more ms m (Key b)) ∙ k);
  mouse = λ b. ap (λ xs. is_button_down xs b) (lines_more ms m) ∙ (mouse-more (screen_after ms) m b ∙ (ap (λ old. cond (names (Mouse b) m || is_leaving m) (is_down (Some m)) old) (h.mouse b) ∙ sym (left-more ms m (Mouse b))));
}

linked_all : (ms more : List Msg) → list_all (pressed_by_message is_key_button) more ≡ true → IsLinked ms → IsLinked (ms ++ more)
linked_all ms [] s h = subst IsLinked (sym (append-nil ms)) h
linked_all ms (m ∷ more) s h = let b = and_parts (pressed_by_message is_key_button m) (list_all (pressed_by_message is_key_button) more) s in subst IsLinked (append_assoc ms (m ∷ []) more) (linked_all (ms ++ m ∷ []) more b.1 (linked_more ms m b.0 h))

linked : (ms : List Msg) → list_all (pressed_by_message is_key_button) ms ≡ true → IsLinked ms
linked ms s = linked_all [] ms s linked_none

pub holds-left : (ms : List Msg) → list_all (pressed_by_message is_key_button) ms ≡ true → (i : Input) → holds ms i ≡ left_down ms i
holds-left ms s (Key b) = (linked ms s).keys b
holds-left ms s (Mouse b) = (linked ms s).mouse b

-- each key that is held is at a key button
pub holds-button : (ms : List Msg) → list_all (pressed_by_message is_key_button) ms ≡ true → (b : ℕ) → holds ms (Key b) ≡ true → is_key_button b ≡ true
holds-button ms s b h = at_keys ms (linked ms s) b h

-- and there is room for one more
pub holds-room : (ms : List Msg) → list_all (pressed_by_message is_key_button) ms ≡ true → length (held_keys (screen_after ms).lines) < 512
holds-room ms s = ltb-true (length (held_keys (screen_after ms).lines)) 512 (has-room (screen_after ms).lines (at_keys ms (linked ms s)))
