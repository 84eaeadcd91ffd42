-- The releases of a table, and of what is down.
use Rattle.std.proofs.Common.{◌≡◌, ◌∙◌, ap, sym, subst, refl, inl, inr, ℕ, zero, suc, ◌<◌, ◌≤◌}
use Rattle.std.proofs.Common.{Bool, true, false, List, [], ◌∷◌, ◌++◌, length, get_or, arith, map}
use Rattle.std.proofs.Common.{replicate, append_assoc}
use Rattle.std.specs.Prelude.{None, IsTrue, ◌==◌, Option, IfSome}
use Rattle.std.specs.List.{flat_map, AllByRecursion}
use Rattle.std.specs.Option.{option_to_list}
use Rattle.std.proofs.lemmas.Bool.{cases_lt, eqb-true}
use Rattle.std.proofs.lemmas.List.{append-nil}
use Rattle.std.proofs.lemmas.List.Concat.{flat_map-append}
use Rattle.held_inputs.specs.declared.line.Line.{Line}
use Rattle.held_inputs.specs.declared.line.Line.TheVariants.{Leave, ButtonUp}
use Rattle.held_inputs.specs.declared.keys.HeldKey.{HeldKey}
use Rattle.held_inputs.specs.declared.held.Held.{Held}
use Rattle.held_inputs.specs.declared.injector.Injector.{Injector}
use Rattle.message_codec.specs.declared.messages.Msg.TheVariants as msg
use Rattle.modifier_map.specs.declared.map.ModMap.{ModMap}
use Rattle.held_inputs.specs.Line.{line_of}
use Rattle.held_inputs.specs.Ranges.{Fits}
use Rattle.held_inputs.specs.Down.{last_where, down, is_button_down, reach, keys_below}
use Rattle.held_inputs.specs.Down.{buttons_below, held_keys, held_buttons, up_of, releases}
use Rattle.held_inputs.specs.Screen.{Screen, Call, Applies, ReleasesAll}
use Rattle.held_inputs.specs.Table.{found, places}
use Rattle.held_inputs.specs.Balanced.{NothingDown}
use Rattle.held_inputs.specs.Stands.{AllUp, Stands, StandsFor, Tells, Prints}
use Rattle.held_inputs.proofs.Looking.{button_past}
use Rattle.held_inputs.proofs.Clearing.{cleared}
use Rattle.held_inputs.proofs.LineRanges.{fit-append, fit-one, fit-places}
use Rattle.held_inputs.proofs.Tables.{found-held_keys}
use Rattle.held_inputs.proofs.Standing.{stands-plain}

places-below : (table : List Bool) (lines : List Line)
    → ((b : ℕ) → get_or table b false ≡ is_button_down lines b) → (n : ℕ)
    → places table n ≡ buttons_below lines n
unfolding places buttons_below
places-below table lines h zero = refl
places-below table lines h (suc n) = rw (places-below table lines h n, h n) refl

buttons-same : (lines : List Line) (n m : ℕ) → ((b : ℕ) → n ≤ b → is_button_down lines b ≡ false)
    → n ≤ m → buttons_below lines m ≡ buttons_below lines n
unfolding buttons_below
buttons-same lines n zero none le = let e : 0 ≡ n = omega arith in ap (buttons_below lines) e
buttons-same lines n (suc m) none le = elim (cases_lt m n) [
  | inl w ↦ let e : suc m ≡ n = omega arith in ap (buttons_below lines) e
  | inr w ↦ rw (none m w, append-nil (buttons_below lines m)) (buttons-same lines n m none w)
]

past : (table : List Bool) (b : ℕ) → length table ≤ b → get_or table b false ≡ false
past [] b h = refl
past (x ∷ xs) zero h = absurd (let g : suc (length xs) ≤ 0 = h in omega arith)
past (x ∷ xs) (suc b) h = past xs b (let g : suc (length xs) ≤ suc b = h in omega arith)

pub places-are : (table : List Bool) (lines : List Line)
    → ((b : ℕ) → get_or table b false ≡ is_button_down lines b)
    → places table (length table) ≡ held_buttons lines
unfolding held_buttons
places-are table lines h =
    places-below table lines h (length table) ∙ (elim (cases_lt (length table) (reach lines)) [
      | inl w ↦
          sym
          (buttons-same lines (length table) (reach lines) (λ b le. sym (h b) ∙ past table b le)
          (omega arith))
      | inr w ↦ buttons-same lines (reach lines) (length table) (λ b le. button_past b lines le) w
    ])

none-below : (lines : List Line) → ((b : ℕ) → down lines b ≡ None) → (n : ℕ)
    → keys_below lines n ≡ []
unfolding keys_below
none-below lines none zero = refl
none-below lines none (suc n) = rw (none-below lines none n, none n) refl

pub none-held : (lines : List Line) → ((b : ℕ) → down lines b ≡ None) → held_keys lines ≡ []
unfolding held_keys
none-held lines none = none-below lines none (reach lines)

pub unset : (n b : ℕ) → get_or (replicate n false) b false ≡ false
unset zero b = refl
unset (suc n) zero = refl
unset (suc n) (suc b) = unset n b

pub fresh : (m : ModMap) (h : Held) → h.keys ≡ [] → h.buttons ≡ replicate 256 false
    → StandsFor m (record { held = h; mods = m }) []
unfolding held_keys keys_below reach is_button_down last_where
fresh m h k e = record {
  keys = k;
  buttons = λ b. ap (λ (t : List Bool). get_or t b false) e ∙ unset 256 b;
  mods = refl;
}

pub released-prints : (i new : Injector) (before bytes : List ℕ)
    → bytes
    ≡ before
    ++ (flat_map line_of (map up_of i.held.keys)
    ++ flat_map line_of (map ButtonUp (places i.held.buttons (length i.held.buttons))))
    → AllByRecursion Fits (map up_of i.held.keys) → length i.held.buttons ≤ 256 → new.held.keys ≡ []
    → new.held.buttons ≡ replicate 256 false → new.mods ≡ i.mods
    → Prints i new ReleasesAll before bytes
unfolding releases
released-prints i new before bytes e f few k t m = record {
  stands = λ s h.
      let none : NothingDown (s.lines ++ releases s.lines) = cleared s.lines in record {
        keys = k ∙ sym (none-held (s.lines ++ releases s.lines) none.keys);
        buttons =
            λ b. ap (λ (bs : List Bool). get_or bs b false) t ∙ unset 256 b ∙ sym (none.buttons b);
        mods = m ∙ h.mods;
      };
  gives =
      λ s h.
      rw (e, h.keys, places-are i.held.buttons s.lines h.buttons)
      (ap (λ (text : List ℕ). before ++ text)
      (sym
      (flat_map-append line_of (map up_of (held_keys s.lines))
      (map ButtonUp (held_buttons s.lines)))));
  fits =
      λ s h.
      fit-append (map up_of (held_keys s.lines)) (map ButtonUp (held_buttons s.lines))
      (rw h.keys at f)
      (rw (places-are i.held.buttons s.lines h.buttons) at
      (fit-places i.held.buttons (length i.held.buttons) few));
}

pub leave-prints : (i new : Injector) (before mid bytes : List ℕ)
    → Prints i new ReleasesAll before mid → bytes ≡ mid ++ line_of Leave
    → Prints i new (Applies msg.Leave) before bytes
leave-prints i new before mid bytes p e = record {
  stands =
      λ s h.
      subst (λ (t : List Line). Stands new (record { lines = t; mods = s.mods }))
      (append_assoc s.lines (releases s.lines) (Leave ∷ []))
      (stands-plain new (record { lines = s.lines ++ releases s.lines; mods = s.mods }) Leave
      (λ b. refl) (λ b. refl) (p.stands s h));
  gives = λ s h.
      e ∙ ap (λ (t : List ℕ). t ++ line_of Leave) (p.gives s h)
      ∙ append_assoc before (flat_map line_of (releases s.lines)) (line_of Leave)
      ∙ ap (λ (t : List ℕ). before ++ t)
      (sym (flat_map-append line_of (releases s.lines) (Leave ∷ [])));
  fits = λ s h. fit-append (releases s.lines) (Leave ∷ []) (p.fits s h) (tt, tt);
}

pub tells-prints : (i new : Injector) (call : Call) (o : Option Line) (before bytes : List ℕ)
    → Tells i new call (option_to_list o) → IfSome o Fits
    → bytes ≡ before ++ flat_map line_of (option_to_list o) → Prints i new call before bytes
tells-prints i new call o before bytes t f e = record {
  stands = t.stands;
  gives = λ s h. e ∙ ap (λ (ls : List Line). before ++ flat_map line_of ls) (t.gives s h);
  fits = λ s h. subst (AllByRecursion Fits) (t.gives s h) (fit-one o f);
}

-- the tables are clear exactly where nothing is down
pub all_up-nothing_down : (i : Injector) (s : Screen) → Stands i s
    → (AllUp i.held → NothingDown s.lines) × (NothingDown s.lines → AllUp i.held)
all_up-nothing_down i s h = (
  λ u. record {
    keys =
        λ b. sym (found-held_keys s.lines b)
        ∙ ap (λ (t : List HeldKey). found t b) (sym h.keys ∙ u.keys);
    buttons = λ b. sym (h.buttons b) ∙ u.buttons b;
  },
  λ d.
      record { keys = h.keys ∙ none-held s.lines d.keys; buttons = λ b. h.buttons b ∙ d.buttons b },
)

-- no place below the table's end is set, so all is up exactly where there is no key
pub no_key-all_up : (h : Held) (n : ℕ) (keys : List HeldKey) (r : Bool) → length h.buttons ≤ n
    → ((k : ℕ) → k < n → get_or h.buttons k false ≡ false) → keys ≡ h.keys → r ≡ (length keys == 0)
    → (IsTrue r → AllUp h) × (AllUp h → IsTrue r)
no_key-all_up h n keys r long none same e = (
  λ t. record {
    keys = sym same ∙ empty keys (eqb-true (length keys) 0 (sym e ∙ t));
    buttons =
        λ b. elim (cases_lt b n) [ inl w ↦ none b w | inr w ↦ past h.buttons b (omega arith) ];
  },
  λ u. e ∙ ap (λ (ks : List HeldKey). length ks == 0) (same ∙ u.keys),
)
  where
    empty : (ks : List HeldKey) → length ks ≡ 0 → ks ≡ []
    empty [] z = refl
    empty (k ∷ ks) z = absurd (let q : suc (length ks) ≡ 0 = z in omega arith)

-- a place that is set says that not all is up
pub set-not_all_up : (h : Held) (k : ℕ) → get_or h.buttons k false ≡ true
    → (IsTrue false → AllUp h) × (AllUp h → IsTrue false)
set-not_all_up h k e = (λ t. absurd (let f : ⊥ = cc in f), λ u. sym (u.buttons k) ∙ e)
