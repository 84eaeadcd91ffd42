-- What is down after some lines is what the lines of keys and buttons among them leave down.
use Rattle.std.specs.Prelude.{◌≡◌, refl, ℕ, zero, suc, max, Bool, true, false, cond, ltb, List, [], ◌∷◌, ◌++◌, map, length, Option, Some, None}
use Rattle.std.specs.Option.{option_or}
use Rattle.std.proofs.Common.{arith, ap, sym, ◌∙◌}
use Rattle.message_codec.specs.declared.messages.Msg.{Msg}
use Rattle.message_codec.specs.declared.messages.Msg.TheVariants as msg
use Rattle.modifier_map.specs.declared.map.ModMap.{ModMap}
use Rattle.held_inputs.specs.declared.keys.HeldKey.{HeldKey}
use Rattle.held_inputs.specs.declared.line.Line.{Line}
use Rattle.held_inputs.specs.declared.line.Line.TheVariants as line
use Rattle.held_inputs.specs.Down.{last_where, names_key, presses_key, names_button, leaves_down, id_in, down, is_button_down, above, reach, held_one, keys_below, buttons_below, held_keys, held_buttons, up_of, releases}
use Rattle.held_inputs.specs.Screen.{Screen, first_press, press, repeat, lift, meant_id, meant_mask, applied}
use Rattle.both_ends.specs.Inputs.{is_input, inputs}

-- ---- the last line that passes a test

or_none : {X : Type 0} (o : Option X) → option_or o None ≡ o
or_none None = refl
or_none (Some x) = refl

last-inputs : (test : Line → Bool) → ((l : Line) → is_input l ≡ false → test l ≡ false) → (lines : List Line) → last_where test (inputs lines) ≡ last_where test lines
unfolding last_where
last-inputs test none [] = refl
last-inputs test none (l ∷ lines) = by (is_input l) refl (last-inputs test none lines)
  where
    by : (b : Bool) → is_input l ≡ b → last_where test (inputs lines) ≡ last_where test lines → last_where test (cond b (l ∷ inputs lines) (inputs lines)) ≡ option_or (last_where test lines) (cond (test l) (Some l) None)
    by true e later = ap (λ (o : Option Line). option_or o (cond (test l) (Some l) None)) later
    by false e later = later ∙ sym (or_none (last_where test lines)) ∙ ap (λ (b : Bool). option_or (last_where test lines) (cond b (Some l) None)) (sym (none l e))

no_key : (b : ℕ) (l : Line) → is_input l ≡ false → names_key b l ≡ false
no_key b (line.KeyDown id button mask) e = absurd cc
no_key b (line.KeyRepeat id count button mask) e = absurd cc
no_key b (line.KeyUp id button) e = absurd cc
no_key b l e = refl

no_press : (b : ℕ) (l : Line) → is_input l ≡ false → presses_key b l ≡ false
no_press b (line.KeyDown id button mask) e = absurd cc
no_press b l e = refl

no_button : (b : ℕ) (l : Line) → is_input l ≡ false → names_button b l ≡ false
no_button b (line.ButtonDown n) e = absurd cc
no_button b (line.ButtonUp n) e = absurd cc
no_button b l e = refl

-- ---- what is down

down-inputs : (lines : List Line) (b : ℕ) → down (inputs lines) b ≡ down lines b
unfolding down
down-inputs lines b =
    ap (λ (o : Option Line). cond (leaves_down o) (id_in (last_where (presses_key b) (inputs lines))) None) (last-inputs (names_key b) (no_key b) lines)
    ∙ ap (λ (o : Option Line). cond (leaves_down (last_where (names_key b) lines)) (id_in o) None) (last-inputs (presses_key b) (no_press b) lines)

is_button-inputs : (lines : List Line) (b : ℕ) → is_button_down (inputs lines) b ≡ is_button_down lines b
unfolding is_button_down
is_button-inputs lines b = ap leaves_down (last-inputs (names_button b) (no_button b) lines)

not_above : (l : Line) → is_input l ≡ false → above l ≡ 0
not_above (line.KeyDown id button mask) e = absurd cc
not_above (line.KeyRepeat id count button mask) e = absurd cc
not_above (line.KeyUp id button) e = absurd cc
not_above (line.ButtonDown n) e = absurd cc
not_above (line.ButtonUp n) e = absurd cc
not_above l e = refl

reach-inputs : (lines : List Line) → reach (inputs lines) ≡ reach lines
unfolding reach
reach-inputs [] = refl
reach-inputs (l ∷ lines) = by (is_input l) refl (reach-inputs lines)
  where
    by : (b : Bool) → is_input l ≡ b → reach (inputs lines) ≡ reach lines → reach (cond b (l ∷ inputs lines) (inputs lines)) ≡ max (above l) (reach lines)
    by true e later = ap (max (above l)) later
    by false e later = let zero_above : above l ≡ 0 = not_above l e in omega (arith, later, zero_above)

keys_below-inputs : (lines : List Line) (n : ℕ) → keys_below (inputs lines) n ≡ keys_below lines n
unfolding keys_below
keys_below-inputs lines zero = refl
keys_below-inputs lines (suc b) =
    ap (λ (ks : List HeldKey). ks ++ held_one b (down (inputs lines) b)) (keys_below-inputs lines b)
    ∙ ap (λ (o : Option ℕ). keys_below lines b ++ held_one b o) (down-inputs lines b)

buttons_below-inputs : (lines : List Line) (n : ℕ) → buttons_below (inputs lines) n ≡ buttons_below lines n
unfolding buttons_below
buttons_below-inputs lines zero = refl
buttons_below-inputs lines (suc b) =
    ap (λ (bs : List ℕ). bs ++ cond (is_button_down (inputs lines) b) (b ∷ []) []) (buttons_below-inputs lines b)
    ∙ ap (λ (is : Bool). buttons_below lines b ++ cond is (b ∷ []) []) (is_button-inputs lines b)

held_keys-inputs : (lines : List Line) → held_keys (inputs lines) ≡ held_keys lines
unfolding held_keys
held_keys-inputs lines = keys_below-inputs lines (reach (inputs lines)) ∙ ap (keys_below lines) (reach-inputs lines)

held_buttons-inputs : (lines : List Line) → held_buttons (inputs lines) ≡ held_buttons lines
unfolding held_buttons
held_buttons-inputs lines = buttons_below-inputs lines (reach (inputs lines)) ∙ ap (buttons_below lines) (reach-inputs lines)

releases-inputs : (lines : List Line) → releases (inputs lines) ≡ releases lines
unfolding releases
releases-inputs lines =
    ap (λ (ks : List HeldKey). map up_of ks ++ map line.ButtonUp (held_buttons (inputs lines))) (held_keys-inputs lines)
    ∙ ap (λ (bs : List ℕ). map up_of (held_keys lines) ++ map line.ButtonUp bs) (held_buttons-inputs lines)

-- ---- the lines of one message

press-inputs : (lines : List Line) (o id : Option ℕ) (button mask : ℕ) → press (inputs lines) o id button mask ≡ press lines o id button mask
press-inputs lines (Some first) id button mask = refl
press-inputs lines None id button mask = ap (λ (ks : List HeldKey). first_press (ltb (length ks) 512) id button mask) (held_keys-inputs lines)

abbrev with_map : List Line → ModMap → Screen
with_map lines mods = record { lines = lines; mods = mods }

applied-inputs : (lines : List Line) (mods : ModMap) (m : Msg) → applied (with_map (inputs lines) mods) m ≡ applied (with_map lines mods) m
applied-inputs lines mods msg.Leave = ap (λ (ls : List Line). ls ++ line.Leave ∷ []) (releases-inputs lines)
applied-inputs lines mods (msg.KeyDown id mask button) =
    ap (λ (o : Option ℕ). press (inputs lines) o (meant_id mods id) button (meant_mask mods mask)) (down-inputs lines button)
    ∙ press-inputs lines (down lines button) (meant_id mods id) button (meant_mask mods mask)
applied-inputs lines mods (msg.KeyRepeat id mask count button) = ap (λ (o : Option ℕ). repeat o count button (meant_mask mods mask)) (down-inputs lines button)
applied-inputs lines mods (msg.KeyUp id mask button) = ap (λ (o : Option ℕ). lift o button) (down-inputs lines button)
applied-inputs lines mods (msg.ButtonDown b) = ap (λ (is : Bool). cond is [] (line.ButtonDown b ∷ [])) (is_button-inputs lines b)
applied-inputs lines mods (msg.ButtonUp b) = ap (λ (is : Bool). cond is (line.ButtonUp b ∷ []) []) (is_button-inputs lines b)
applied-inputs lines mods m = refl

-- two screens of one map whose lines of keys and buttons are the same print the same
pub same-applied : (s t : Screen) (m : Msg) → s.mods ≡ t.mods → inputs s.lines ≡ inputs t.lines → applied s m ≡ applied t m
same-applied s t m mods lines =
    sym (applied-inputs s.lines s.mods m)
    ∙ ap (λ (ls : List Line). applied (with_map ls s.mods) m) lines
    ∙ ap (λ (k : ModMap). applied (with_map (inputs t.lines) k) m) mods
    ∙ applied-inputs t.lines t.mods m
