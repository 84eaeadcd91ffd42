-- What a screen prints may stand where it is printed, so the lines of any calls are good.
use Rattle.std.proofs.Common.{◌≡◌, sym, subst, refl, ℕ, Bool, true, false, cond, List, [], ◌∷◌}
use Rattle.std.proofs.Common.{◌++◌, append_assoc}
use Rattle.std.specs.Prelude.{Option, None, Some, ◌==◌}
use Rattle.std.specs.List.{filter}
use Rattle.std.proofs.lemmas.List.{append-nil}
use Rattle.message_codec.specs.declared.messages.Msg.{Msg}
use Rattle.message_codec.specs.declared.messages.Msg.TheVariants as msg
use Rattle.modifier_map.specs.declared.map.ModMap.{ModMap}
use Rattle.held_inputs.specs.declared.line.Line.{Line}
use Rattle.held_inputs.specs.declared.line.Line.TheVariants.{Enter, Leave, KeyDown, KeyRepeat}
use Rattle.held_inputs.specs.declared.line.Line.TheVariants.{KeyUp, ButtonDown, ButtonUp, MoveTo}
use Rattle.held_inputs.specs.declared.line.Line.TheVariants.{MoveBy, Wheel, SaverOn, SaverOff}
use Rattle.held_inputs.specs.Down.{last_where, names_key, names_button, down, is_button_down}
use Rattle.held_inputs.specs.Down.{releases}
use Rattle.held_inputs.specs.Screen.{Screen, Call, Applies, SetsOption, ResetsOptions, ReleasesAll}
use Rattle.held_inputs.specs.Screen.{first_press, press, repeat, lift, applied, after, screen_from}
use Rattle.held_inputs.specs.Screen.{screen, meant_id, meant_mask}
use Rattle.held_inputs.specs.Balanced.{Balanced, NothingDown}
use Rattle.held_inputs.proofs.Good.{Good, Open, Half, good-step}
use Rattle.held_inputs.proofs.Clearing.{cleared, good-releases}

good-press : (lines : List Line) → Good lines → (o : Option ℕ) (id : Option ℕ) (button mask : ℕ)
    → down lines button ≡ o → Good (lines ++ press lines o id button mask)
good-press lines h (Some first) id button mask e =
    good-step lines (KeyRepeat first 1 button mask) h e
good-press lines h None id button mask e = fits _ id
  where
    fits : (t : Bool) (id : Option ℕ) → Good (lines ++ first_press t id button mask)
    fits true (Some i) = good-step lines (KeyDown i button mask) h e
    fits true None = rw (append-nil lines) h
    fits false i = rw (append-nil lines) h

good-repeat : (lines : List Line) → Good lines → (o : Option ℕ) (count button mask : ℕ)
    → down lines button ≡ o → Good (lines ++ repeat o count button mask)
good-repeat lines h (Some first) count button mask e =
    good-step lines (KeyRepeat first count button mask) h e
good-repeat lines h None count button mask e = rw (append-nil lines) h

good-lift : (lines : List Line) → Good lines → (o : Option ℕ) (button : ℕ) → down lines button ≡ o
    → Good (lines ++ lift o button)
good-lift lines h (Some first) button e = good-step lines (KeyUp first button) h e
good-lift lines h None button e = rw (append-nil lines) h

good-applied : (s : Screen) → Good s.lines → (m : Msg) → Good (s.lines ++ applied s m)
good-applied s h (msg.Enter x y seq mask) =
    good-step s.lines (Enter x y seq (meant_mask s.mods mask)) h tt
good-applied s h msg.Leave =
    rw (← append_assoc s.lines (releases s.lines) (Leave ∷ []))
    (good-step (s.lines ++ releases s.lines) Leave (good-releases s.lines h) (cleared s.lines))
good-applied s h (msg.KeyDown id mask button) =
    good-press s.lines h (down s.lines button) (meant_id s.mods id) button (meant_mask s.mods mask)
    refl
good-applied s h (msg.KeyRepeat id mask count button) =
    good-repeat s.lines h (down s.lines button) count button (meant_mask s.mods mask) refl
good-applied s h (msg.KeyUp id mask button) = good-lift s.lines h (down s.lines button) button refl
good-applied s h (msg.ButtonDown b) = by (is_button_down s.lines b) refl
  where
    by : (t : Bool) → is_button_down s.lines b ≡ t → Good (s.lines ++ cond t [] (ButtonDown b ∷ []))
    by true e = rw (append-nil s.lines) h
    by false e = good-step s.lines (ButtonDown b) h e
good-applied s h (msg.ButtonUp b) = by (is_button_down s.lines b) refl
  where
    by : (t : Bool) → is_button_down s.lines b ≡ t → Good (s.lines ++ cond t (ButtonUp b ∷ []) [])
    by true e = good-step s.lines (ButtonUp b) h e
    by false e = rw (append-nil s.lines) h
good-applied s h (msg.MoveTo x y) = good-step s.lines (MoveTo x y) h tt
good-applied s h (msg.MoveBy dx dy) = good-step s.lines (MoveBy dx dy) h tt
good-applied s h (msg.Wheel dx dy) = good-step s.lines (Wheel dx dy) h tt
good-applied s h (msg.Saver on) = by (on == 0)
  where
    by : (t : Bool) → Good (s.lines ++ cond t SaverOff SaverOn ∷ [])
    by true = good-step s.lines SaverOff h tt
    by false = good-step s.lines SaverOn h tt
good-applied s h m = rw (append-nil s.lines) h

pub good-call : (s : Screen) → Good s.lines → (c : Call) → Good (after s c).lines
good-call s h (Applies m) = good-applied s h m
good-call s h (SetsOption code value) = rw (append-nil s.lines) h
good-call s h ResetsOptions = rw (append-nil s.lines) h
good-call s h ReleasesAll = good-releases s.lines h

good-from : (s : Screen) → Good s.lines → (calls : List Call) → Good (screen_from s calls).lines
good-from s h [] = h
good-from s h (c ∷ cs) = good-from (after s c) (good-call s h c) cs

pub good-nil : Good []
unfolding down is_button_down last_where
good-nil =
    record {
      keys = λ b. ([], refl);
      buttons = λ b. (0, refl);
      leaves = λ n e. absurd (let f : ⊥ = cc in f);
    }

pub good-screen : (m : ModMap) (calls : List Call) → Good (screen m calls).lines
good-screen m calls = good-from (record { lines = []; mods = m }) good-nil calls

pub screen_from-grows : (s : Screen) (calls : List Call) (c : Call)
    → screen_from s (calls ++ c ∷ []) ≡ after (screen_from s calls) c
screen_from-grows s [] c = refl
screen_from-grows s (x ∷ xs) c = screen_from-grows (after s x) xs c

pub balanced-from : (lines : List Line) → Good lines → NothingDown lines → Balanced lines
balanced-from lines h none = record {
  keys =
      λ b. let k : Open b None (filter (names_key b) lines) = rw (none.keys b) at (h.keys b) in k;
  buttons =
      λ b. let k : Half b false (filter (names_button b) lines) =
      rw (none.buttons b) at (h.buttons b) in
      k;
}

pub screen-grows : (m : ModMap) (calls : List Call) (c : Call)
    → screen m (calls ++ c ∷ []) ≡ after (screen m calls) c
screen-grows m calls c = screen_from-grows (record { lines = []; mods = m }) calls c

pub balanced : (m : ModMap) (calls : List Call)
    → Balanced (screen m (calls ++ ReleasesAll ∷ [])).lines
balanced m calls =
    subst (λ (s : Screen). Balanced s.lines) (sym (screen-grows m calls ReleasesAll))
    (balanced-from _ (good-releases (screen m calls).lines (good-screen m calls))
    (cleared (screen m calls).lines))

pub nothing_left : (m : ModMap) (calls : List Call)
    → NothingDown (screen m (calls ++ ReleasesAll ∷ [])).lines
nothing_left m calls =
    subst (λ (s : Screen). NothingDown s.lines) (sym (screen-grows m calls ReleasesAll))
    (cleared (screen m calls).lines)
