-- How an injector stands after each way that a call can go.
use Rattle.std.proofs.Common.{◌≡◌, ◌∙◌, ap, sym, subst, refl, inl, inr, ℕ, ◌<◌, ◌≤◌, Bool, true}
use Rattle.std.proofs.Common.{false, cond, List, [], ◌∷◌, ◌++◌, length, get_or}
use Rattle.std.specs.Prelude.{ℤ, Option, None, Some, ◌==◌, slice_set}
use Rattle.std.proofs.lemmas.Bool.{lt-ltb, le-ltb}
use Rattle.std.proofs.lemmas.Bool.Decides.{eqb_tells}
use Rattle.std.proofs.lemmas.List.{append-nil, get_or-set_same, get_or-set_other}
use Rattle.held_inputs.specs.declared.line.Line.{Line}
use Rattle.held_inputs.specs.declared.line.Line.TheVariants.{Enter, KeyDown, KeyRepeat, KeyUp}
use Rattle.held_inputs.specs.declared.line.Line.TheVariants.{ButtonDown, ButtonUp, MoveTo, MoveBy}
use Rattle.held_inputs.specs.declared.line.Line.TheVariants.{Wheel, SaverOn, SaverOff}
use Rattle.message_codec.specs.declared.messages.Msg.{Msg}
use Rattle.message_codec.specs.declared.messages.Msg.TheVariants as msg
use Rattle.held_inputs.specs.declared.keys.HeldKey.{HeldKey}
use Rattle.held_inputs.specs.declared.injector.Injector.{Injector}
use Rattle.held_inputs.specs.Down.{names_key, names_button, down, is_button_down}
use Rattle.held_inputs.specs.Screen.{Screen, Applies, first_press, applied, saver_line, meant_id}
use Rattle.held_inputs.specs.Screen.{meant_mask}
use Rattle.held_inputs.specs.Table.{found, inserted, removed}
use Rattle.held_inputs.specs.Stands.{Stands, Tells}
use Rattle.held_inputs.proofs.Looking.{down-other, down-rep, button-other, button-press}
use Rattle.held_inputs.proofs.Looking.{button-lift}
use Rattle.held_inputs.proofs.Tables.{found-held_keys, held_keys-along, held_keys-press}
use Rattle.held_inputs.proofs.Tables.{held_keys-lift}

-- what the table says is down, is
is-down : (i : Injector) (s : Screen) (b : ℕ) (o : Option ℕ) → Stands i s → o ≡ found i.held.keys b
    → down s.lines b ≡ o
is-down i s b o h e =
    sym (e ∙ ap (λ (t : List HeldKey). found t b) h.keys ∙ found-held_keys s.lines b)

abbrev pub with_line : Screen → Line → Screen
with_line s l = record { lines = s.lines ++ l ∷ []; mods = s.mods }

-- a message with one line, or with none
tells-line : (i new : Injector) (m : Msg) (l : Line)
    → ((s : Screen) → Stands i s → l ∷ [] ≡ applied s m)
    → ((s : Screen) → Stands i s → Stands new (with_line s l)) → Tells i new (Applies m) (l ∷ [])
tells-line i new m l gives stands = record {
  stands =
      λ s h.
      subst (λ (t : List Line). Stands new (record { lines = s.lines ++ t; mods = s.mods }))
      (gives s h) (stands s h);
  gives = gives;
}

tells-none : (i : Injector) (m : Msg) → ((s : Screen) → Stands i s → [] ≡ applied s m)
    → Tells i i (Applies m) []
tells-none i m gives = record {
  stands =
      λ s h.
      subst (λ (t : List Line). Stands i (record { lines = s.lines ++ t; mods = s.mods }))
      (gives s h) (rw (append-nil s.lines) h);
  gives = gives;
}

stands-rep : (i : Injector) (s : Screen) (id count b mask : ℕ) → Stands i s
    → down s.lines b ≡ Some id → Stands i (with_line s (KeyRepeat id count b mask))
stands-rep i s id count b mask h e = record {
  keys =
      h.keys
      ∙ sym
      (held_keys-along s.lines (s.lines ++ KeyRepeat id count b mask ∷ [])
      (λ k. elim (eqb_tells b k) [
        | inl w ↦
            subst
            (λ (n : ℕ). down (s.lines ++ KeyRepeat id count b mask ∷ []) n ≡ down s.lines n) w.1
            (down-rep b id count mask s.lines e ∙ sym e)
        | inr w ↦ down-other k s.lines (KeyRepeat id count b mask) w.0
      ]));
  buttons = λ k. h.buttons k ∙ sym (button-other k s.lines (KeyRepeat id count b mask) refl);
  mods = h.mods;
}

stands-press : (i new : Injector) (s : Screen) (id b mask : ℕ) → Stands i s → down s.lines b ≡ None
    → new.held.keys ≡ inserted i.held.keys b id → new.held.buttons ≡ i.held.buttons
    → new.mods ≡ i.mods → Stands new (with_line s (KeyDown id b mask))
stands-press i new s id b mask h e k t m = record {
  keys =
      k ∙ ap (λ (ks : List HeldKey). inserted ks b id) h.keys
      ∙ sym (held_keys-press s.lines b id mask e);
  buttons =
      λ n. ap (λ (bs : List Bool). get_or bs n false) t ∙ h.buttons n
      ∙ sym (button-other n s.lines (KeyDown id b mask) refl);
  mods = m ∙ h.mods;
}

stands-lift : (i new : Injector) (s : Screen) (id b : ℕ) → Stands i s
    → new.held.keys ≡ removed i.held.keys b → new.held.buttons ≡ i.held.buttons → new.mods ≡ i.mods
    → Stands new (with_line s (KeyUp id b))
stands-lift i new s id b h k t m = record {
  keys = k ∙ ap (λ (ks : List HeldKey). removed ks b) h.keys ∙ sym (held_keys-lift s.lines b id);
  buttons =
      λ n. ap (λ (bs : List Bool). get_or bs n false) t ∙ h.buttons n
      ∙ sym (button-other n s.lines (KeyUp id b) refl);
  mods = m ∙ h.mods;
}

stands-push : (i new : Injector) (s : Screen) (b : ℕ) → Stands i s → b < length i.held.buttons
    → new.held.keys ≡ i.held.keys → new.held.buttons ≡ slice_set i.held.buttons b true
    → new.mods ≡ i.mods → Stands new (with_line s (ButtonDown b))
stands-push i new s b h lt k t m = record {
  keys =
      k ∙ h.keys
      ∙ sym
      (held_keys-along s.lines (s.lines ++ ButtonDown b ∷ [])
      (λ n. down-other n s.lines (ButtonDown b) refl));
  buttons = λ n. ap (λ (bs : List Bool). get_or bs n false) t ∙ (elim (eqb_tells b n) [
    | inl w ↦
        subst
        (λ (j : ℕ). get_or (slice_set i.held.buttons b true) j false
        ≡ is_button_down (s.lines ++ ButtonDown b ∷ []) j)
        w.1 (get_or-set_same i.held.buttons b true false lt ∙ sym (button-press b s.lines))
    | inr w ↦
        get_or-set_other i.held.buttons b n true false (λ e. w.1 (sym e)) ∙ h.buttons n
        ∙ sym (button-other n s.lines (ButtonDown b) w.0)
  ]);
  mods = m ∙ h.mods;
}

stands-let_go : (i new : Injector) (s : Screen) (b : ℕ) → Stands i s → b < length i.held.buttons
    → new.held.keys ≡ i.held.keys → new.held.buttons ≡ slice_set i.held.buttons b false
    → new.mods ≡ i.mods → Stands new (with_line s (ButtonUp b))
stands-let_go i new s b h lt k t m = record {
  keys =
      k ∙ h.keys
      ∙ sym
      (held_keys-along s.lines (s.lines ++ ButtonUp b ∷ [])
      (λ n. down-other n s.lines (ButtonUp b) refl));
  buttons = λ n. ap (λ (bs : List Bool). get_or bs n false) t ∙ (elim (eqb_tells b n) [
    | inl w ↦
        subst
        (λ (j : ℕ). get_or (slice_set i.held.buttons b false) j false
        ≡ is_button_down (s.lines ++ ButtonUp b ∷ []) j)
        w.1 (get_or-set_same i.held.buttons b false false lt ∙ sym (button-lift b s.lines))
    | inr w ↦
        get_or-set_other i.held.buttons b n false false (λ e. w.1 (sym e)) ∙ h.buttons n
        ∙ sym (button-other n s.lines (ButtonUp b) w.0)
  ]);
  mods = m ∙ h.mods;
}

pub stands-plain : (i : Injector) (s : Screen) (l : Line) → ((b : ℕ) → names_key b l ≡ false)
    → ((b : ℕ) → names_button b l ≡ false) → Stands i s → Stands i (with_line s l)
stands-plain i s l key button h = record {
  keys =
      h.keys
      ∙ sym (held_keys-along s.lines (s.lines ++ l ∷ []) (λ n. down-other n s.lines l (key n)));
  buttons = λ n. h.buttons n ∙ sym (button-other n s.lines l (button n));
  mods = h.mods;
}

-- One lemma for each exit of the rules

pub press-held : (i : Injector) (id mask b first shown : ℕ) → Some first ≡ found i.held.keys b
    → shown ≡ meant_mask i.mods mask
    → Tells i i (Applies (msg.KeyDown id mask b)) (KeyRepeat first 1 b shown ∷ [])
press-held i id mask b first shown e m =
    tells-line i i (msg.KeyDown id mask b) (KeyRepeat first 1 b shown)
    (λ s h. rw (is-down i s b (Some first) h e, m, h.mods) refl)
    (λ s h. stands-rep i s first 1 b shown h (is-down i s b (Some first) h e))

pub press-full : (i : Injector) (id mask b : ℕ) → None ≡ found i.held.keys b
    → 512 ≤ length i.held.keys → Tells i i (Applies (msg.KeyDown id mask b)) []
press-full i id mask b e full =
    tells-none i (msg.KeyDown id mask b)
    (λ s h. rw (is-down i s b None h e, ← h.keys, le-ltb (length i.held.keys) 512 full) refl)

pub press-none : (i : Injector) (id mask b : ℕ) → None ≡ found i.held.keys b
    → None ≡ meant_id i.mods id → Tells i i (Applies (msg.KeyDown id mask b)) []
press-none i id mask b e none =
    tells-none i (msg.KeyDown id mask b)
    (λ s h. rw (is-down i s b None h e, ← h.mods, ← none) (sym (quiet _)))
  where
    quiet : (t : Bool) → first_press t None b (meant_mask i.mods mask) ≡ []
    quiet true = refl
    quiet false = refl

pub press-new : (i new : Injector) (id mask b meant shown : ℕ) → None ≡ found i.held.keys b
    → length i.held.keys < 512 → Some meant ≡ meant_id i.mods id → shown ≡ meant_mask i.mods mask
    → new.held.keys ≡ inserted i.held.keys b meant → new.held.buttons ≡ i.held.buttons
    → new.mods ≡ i.mods → Tells i new (Applies (msg.KeyDown id mask b)) (KeyDown meant b shown ∷ [])
press-new i new id mask b meant shown e room is m k t o =
    tells-line i new (msg.KeyDown id mask b) (KeyDown meant b shown)
    (λ s h.
    rw (
      is-down i s b None h e,
      ← h.keys,
      lt-ltb (length i.held.keys) 512 room,
      ← h.mods,
      ← is,
      m,
    )
    refl)
    (λ s h. stands-press i new s meant b shown h (is-down i s b None h e) k t o)

pub repeat-none : (i : Injector) (mask count b : ℕ) → None ≡ found i.held.keys b → (id : ℕ)
    → Tells i i (Applies (msg.KeyRepeat id mask count b)) []
repeat-none i mask count b e id =
    tells-none i (msg.KeyRepeat id mask count b) (λ s h. rw (is-down i s b None h e) refl)

pub repeat-held : (i : Injector) (mask count b first shown : ℕ) → Some first ≡ found i.held.keys b
    → shown ≡ meant_mask i.mods mask → (id : ℕ)
    → Tells i i (Applies (msg.KeyRepeat id mask count b)) (KeyRepeat first count b shown ∷ [])
repeat-held i mask count b first shown e m id =
    tells-line i i (msg.KeyRepeat id mask count b) (KeyRepeat first count b shown)
    (λ s h. rw (is-down i s b (Some first) h e, m, h.mods) refl)
    (λ s h. stands-rep i s first count b shown h (is-down i s b (Some first) h e))

pub lift-none : (i : Injector) (b : ℕ) → None ≡ found i.held.keys b → (id mask : ℕ)
    → Tells i i (Applies (msg.KeyUp id mask b)) []
lift-none i b e id mask =
    tells-none i (msg.KeyUp id mask b) (λ s h. rw (is-down i s b None h e) refl)

pub lift-held : (i new : Injector) (b first : ℕ) → Some first ≡ found i.held.keys b
    → new.held.keys ≡ removed i.held.keys b → new.held.buttons ≡ i.held.buttons → new.mods ≡ i.mods
    → (id mask : ℕ) → Tells i new (Applies (msg.KeyUp id mask b)) (KeyUp first b ∷ [])
lift-held i new b first e k t m id mask = tells-line i new (msg.KeyUp id mask b) (KeyUp first b)
    (λ s h. rw (is-down i s b (Some first) h e) refl)
    (λ s h. stands-lift i new s first b h k t m)

pub push-held : (i : Injector) (b : ℕ) → get_or i.held.buttons b false ≡ true
    → Tells i i (Applies (msg.ButtonDown b)) []
push-held i b e = tells-none i (msg.ButtonDown b) (λ s h. rw (sym (h.buttons b) ∙ e) refl)

pub push-new : (i new : Injector) (b : ℕ) → get_or i.held.buttons b false ≡ false
    → b < length i.held.buttons → new.held.keys ≡ i.held.keys
    → new.held.buttons ≡ slice_set i.held.buttons b true → new.mods ≡ i.mods
    → Tells i new (Applies (msg.ButtonDown b)) (ButtonDown b ∷ [])
push-new i new b e lt k t m = tells-line i new (msg.ButtonDown b) (ButtonDown b)
    (λ s h. rw (sym (h.buttons b) ∙ e) refl)
    (λ s h. stands-push i new s b h lt k t m)

pub let_go-none : (i : Injector) (b : ℕ) → get_or i.held.buttons b false ≡ false
    → Tells i i (Applies (msg.ButtonUp b)) []
let_go-none i b e = tells-none i (msg.ButtonUp b) (λ s h. rw (sym (h.buttons b) ∙ e) refl)

pub let_go-held : (i new : Injector) (b : ℕ) → get_or i.held.buttons b false ≡ true
    → b < length i.held.buttons → new.held.keys ≡ i.held.keys
    → new.held.buttons ≡ slice_set i.held.buttons b false → new.mods ≡ i.mods
    → Tells i new (Applies (msg.ButtonUp b)) (ButtonUp b ∷ [])
let_go-held i new b e lt k t m = tells-line i new (msg.ButtonUp b) (ButtonUp b)
    (λ s h. rw (sym (h.buttons b) ∙ e) refl)
    (λ s h. stands-let_go i new s b h lt k t m)

pub entered : (i : Injector) (x y : ℤ) (seq mask shown : ℕ) → shown ≡ meant_mask i.mods mask
    → Tells i i (Applies (msg.Enter x y seq mask)) (Enter x y seq shown ∷ [])
entered i x y seq mask shown m = tells-line i i (msg.Enter x y seq mask) (Enter x y seq shown)
    (λ s h. rw (m, h.mods) refl)
    (λ s h. stands-plain i s (Enter x y seq shown) (λ b. refl) (λ b. refl) h)

pub moved_to : (i : Injector) (x y : ℤ) → Tells i i (Applies (msg.MoveTo x y)) (MoveTo x y ∷ [])
moved_to i x y =
    tells-line i i (msg.MoveTo x y) (MoveTo x y) (λ s h. refl)
    (λ s h. stands-plain i s (MoveTo x y) (λ b. refl) (λ b. refl) h)

pub moved_by : (i : Injector) (dx dy : ℤ)
    → Tells i i (Applies (msg.MoveBy dx dy)) (MoveBy dx dy ∷ [])
moved_by i dx dy =
    tells-line i i (msg.MoveBy dx dy) (MoveBy dx dy) (λ s h. refl)
    (λ s h. stands-plain i s (MoveBy dx dy) (λ b. refl) (λ b. refl) h)

pub turned : (i : Injector) (dx dy : ℤ) → Tells i i (Applies (msg.Wheel dx dy)) (Wheel dx dy ∷ [])
turned i dx dy =
    tells-line i i (msg.Wheel dx dy) (Wheel dx dy) (λ s h. refl)
    (λ s h. stands-plain i s (Wheel dx dy) (λ b. refl) (λ b. refl) h)

pub saved : (i : Injector) (on : ℕ) → Tells i i (Applies (msg.Saver on)) (saver_line on ∷ [])
saved i on =
    tells-line i i (msg.Saver on) (saver_line on) (λ s h. refl)
    (λ s h. stands-plain i s (saver_line on) (λ b. key b (on == 0)) (λ b. button b (on == 0)) h)
  where
    key : (b : ℕ) (t : Bool) → names_key b (cond t SaverOff SaverOn) ≡ false
    key b true = refl
    key b false = refl

    button : (b : ℕ) (t : Bool) → names_button b (cond t SaverOff SaverOn) ≡ false
    button b true = refl
    button b false = refl
