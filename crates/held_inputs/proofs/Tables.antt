-- The table by places, as the code has it, and against what is down.
use Rattle.std.proofs.Common.{◌≡◌, ◌∙◌, ap, sym, subst, refl, inl, inr, ℕ, zero, suc, ◌<◌, ◌≤◌, ◌≢◌}
use Rattle.std.proofs.Common.{List, [], ◌∷◌, ◌++◌, length, get_or, max, arith}
use Rattle.std.specs.Prelude.{Option, None, Some, ltb, insert, remove}
use Rattle.std.proofs.lemmas.Bool.{eq-eqb, ne_eqb, lt-ltb, le-ltb, cases_Bool, cases_lt}
use Rattle.std.proofs.lemmas.Bool.Decides.{eqb_tells}
use Rattle.std.proofs.lemmas.List.{append-nil}
use Rattle.held_inputs.specs.declared.keys.HeldKey.{HeldKey}
use Rattle.held_inputs.specs.declared.line.Line.{Line}
use Rattle.held_inputs.specs.declared.line.Line.TheVariants.{KeyDown, KeyUp}
use Rattle.held_inputs.specs.Down.{down, reach, held_one, keys_below, held_keys}
use Rattle.held_inputs.specs.Table.{place, found, inserted, removed}
use Rattle.held_inputs.proofs.Looking.{down-other, down-press, down-up, down_past}

pub found-past : (ks : List HeldKey) (b : ℕ) → length ks ≤ place ks b → found ks b ≡ None
found-past [] b h = refl
found-past (k ∷ ks) b h = elim (cases_Bool (ltb k.button b)) [
  | inl e ↦
      rw e (found-past ks b (let g : suc (length ks) ≤ suc (place ks b) = rw e at h in omega arith))
  | inr e ↦ absurd (let g : suc (length ks) ≤ 0 = rw e at h in omega arith)
]

pub found-here : (ks : List HeldKey) (b : ℕ) (d : HeldKey) → place ks b < length ks
    → (get_or ks (place ks b) d).button ≡ b → found ks b ≡ Some (get_or ks (place ks b) d).id
found-here [] b d lt h = absurd (omega arith)
found-here (k ∷ ks) b d lt h = elim (cases_Bool (ltb k.button b)) [
  | inl e ↦
      rw e
      (found-here ks b d
      (let g : suc (place ks b) < suc (length ks) = rw e at lt in omega arith) (rw e at h))
  | inr e ↦ let q : k.button ≡ b = rw e at h in rw (e, eq-eqb k.button b q) refl
]

pub found-other : (ks : List HeldKey) (b : ℕ) (d : HeldKey) → place ks b < length ks
    → (get_or ks (place ks b) d).button ≢ b → found ks b ≡ None
found-other [] b d lt h = refl
found-other (k ∷ ks) b d lt h = elim (cases_Bool (ltb k.button b)) [
  | inl e ↦
      rw e
      (found-other ks b d
      (let g : suc (place ks b) < suc (length ks) = rw e at lt in omega arith) (rw e at h))
  | inr e ↦ let q : k.button ≢ b = rw e at h in rw (e, ne_eqb k.button b q) refl
]

pub inserted-is : (ks : List HeldKey) (b id : ℕ)
    → insert ks (place ks b) (record { button = b; id = id }) ≡ inserted ks b id
inserted-is [] b id = refl
inserted-is (k ∷ ks) b id = elim (cases_Bool (ltb k.button b)) [
  | inl e ↦ rw e (ap (λ (t : List HeldKey). k ∷ t) (inserted-is ks b id))
  | inr e ↦ rw e refl
]

pub removed-past : (ks : List HeldKey) (b : ℕ) → length ks ≤ place ks b → ks ≡ removed ks b
removed-past [] b h = refl
removed-past (k ∷ ks) b h = elim (cases_Bool (ltb k.button b)) [
  | inl e ↦
      rw e
      (ap (λ (t : List HeldKey). k ∷ t)
      (removed-past ks b
      (let g : suc (length ks) ≤ suc (place ks b) = rw e at h in omega arith)))
  | inr e ↦ absurd (let g : suc (length ks) ≤ 0 = rw e at h in omega arith)
]

pub removed-here : (ks : List HeldKey) (b : ℕ) (d : HeldKey) → place ks b < length ks
    → (get_or ks (place ks b) d).button ≡ b → remove ks (place ks b) ≡ removed ks b
removed-here [] b d lt h = absurd (omega arith)
removed-here (k ∷ ks) b d lt h = elim (cases_Bool (ltb k.button b)) [
  | inl e ↦
      rw e
      (ap (λ (t : List HeldKey). k ∷ t)
      (removed-here ks b d
      (let g : suc (place ks b) < suc (length ks) = rw e at lt in omega arith)
      (rw e at h)))
  | inr e ↦ let q : k.button ≡ b = rw e at h in rw (e, eq-eqb k.button b q) refl
]

pub removed-other : (ks : List HeldKey) (b : ℕ) (d : HeldKey) → place ks b < length ks
    → (get_or ks (place ks b) d).button ≢ b → ks ≡ removed ks b
removed-other [] b d lt h = refl
removed-other (k ∷ ks) b d lt h = elim (cases_Bool (ltb k.button b)) [
  | inl e ↦
      rw e
      (ap (λ (t : List HeldKey). k ∷ t)
      (removed-other ks b d
      (let g : suc (place ks b) < suc (length ks) = rw e at lt in omega arith)
      (rw e at h)))
  | inr e ↦ let q : k.button ≢ b = rw e at h in rw (e, ne_eqb k.button b q) refl
]

-- Against what is down: one more button at the end

found-before : (ks : List HeldKey) (b n : ℕ) (o : Option ℕ) → b < n
    → found (ks ++ held_one n o) b ≡ found ks b
found-before [] b n None lt = refl
found-before [] b n (Some id) lt = rw (le-ltb n b (omega arith), ne_eqb n b (λ e. omega arith)) refl
found-before (k ∷ ks) b n o lt = rw (found-before ks b n o lt) refl

AllBelow : ℕ → List HeldKey → Type 0
AllBelow n [] = Unit {0}
AllBelow n (k ∷ ks) = (k.button < n) × AllBelow n ks

below-append : (n m : ℕ) (ks : List HeldKey) (o : Option ℕ) → n < m → AllBelow n ks
    → AllBelow m (ks ++ held_one n o)
unfolding AllBelow
below-append n m [] None lt h = tt
below-append n m [] (Some id) lt h = (lt, tt)
below-append n m (k ∷ ks) o lt h = (omega (arith, h.0), below-append n m ks o lt h.1)

held_keys-below : (lines : List Line) (n : ℕ) → AllBelow n (keys_below lines n)
unfolding keys_below AllBelow
held_keys-below lines zero = tt
held_keys-below lines (suc n) =
    below-append n (suc n) (keys_below lines n) (down lines n) (omega arith)
    (held_keys-below lines n)

found-last : (ks : List HeldKey) (n : ℕ) (o : Option ℕ) → AllBelow n ks
    → found (ks ++ held_one n o) n ≡ o
unfolding AllBelow
found-last [] n None h = refl
found-last [] n (Some id) h = rw (le-ltb n n (omega arith), eq-eqb n n refl) refl
found-last (k ∷ ks) n o h = rw (lt-ltb k.button n h.0) (found-last ks n o h.1)

found-below : (lines : List Line) (n b : ℕ) → b < n → found (keys_below lines n) b ≡ down lines b
unfolding keys_below
found-below lines zero b lt = absurd (omega arith)
found-below lines (suc n) b lt = elim (cases_lt b n) [
  | inl w ↦ found-before (keys_below lines n) b n (down lines n) w ∙ found-below lines n b w
  | inr w ↦ let same : n ≡ b =
      omega arith in
      subst (λ (k : ℕ). found (keys_below lines n ++ held_one n (down lines n)) k ≡ down lines k)
      same (found-last (keys_below lines n) n (down lines n) (held_keys-below lines n))
]

-- no more than `reach` is needed
pub held_keys-at : (lines : List Line) (n : ℕ) → reach lines ≤ n
    → keys_below lines n ≡ held_keys lines
unfolding held_keys keys_below
held_keys-at lines zero h = let e : 0 ≡ reach lines = omega arith in ap (keys_below lines) e
held_keys-at lines (suc n) h = elim (cases_lt n (reach lines)) [
  | inl w ↦ let e : suc n ≡ reach lines = omega arith in ap (keys_below lines) e
  | inr w ↦ rw (down_past n lines w, append-nil (keys_below lines n)) (held_keys-at lines n w)
]

pub found-held_keys : (lines : List Line) (b : ℕ) → found (held_keys lines) b ≡ down lines b
found-held_keys lines b =
    rw (← held_keys-at lines (max (reach lines) (suc b)) (omega arith))
    (found-below lines (max (reach lines) (suc b)) b (omega arith))

pub held_keys-agree : (lines more : List Line) (n : ℕ)
    → ((b : ℕ) → b < n → down more b ≡ down lines b) → keys_below more n ≡ keys_below lines n
unfolding keys_below
held_keys-agree lines more zero h = refl
held_keys-agree lines more (suc n) h =
    rw (held_keys-agree lines more n (λ b lt. h b (omega arith)), h n (omega arith)) refl

-- both ends are long enough
pub held_keys-along : (lines more : List Line) → ((b : ℕ) → down more b ≡ down lines b)
    → held_keys more ≡ held_keys lines
held_keys-along lines more h =
    let n = max (reach lines) (reach more) in
    sym (held_keys-at more n (omega arith)) ∙ held_keys-agree lines more n (λ b lt. h b)
    ∙ held_keys-at lines n (omega arith)

inserted-before : (ks : List HeldKey) (b id n : ℕ) (o : Option ℕ) → b < n
    → inserted (ks ++ held_one n o) b id ≡ inserted ks b id ++ held_one n o
inserted-before [] b id n None lt = refl
inserted-before [] b id n (Some other) lt = rw (le-ltb n b (omega arith)) refl
inserted-before (k ∷ ks) b id n o lt = elim (cases_Bool (ltb k.button b)) [
  | inl e ↦ rw e (ap (λ (t : List HeldKey). k ∷ t) (inserted-before ks b id n o lt))
  | inr e ↦ rw e refl
]

inserted-last : (ks : List HeldKey) (n id : ℕ) → AllBelow n ks
    → inserted ks n id ≡ ks ++ held_one n (Some id)
unfolding AllBelow
inserted-last [] n id h = refl
inserted-last (k ∷ ks) n id h =
    rw (lt-ltb k.button n h.0) (ap (λ (t : List HeldKey). k ∷ t) (inserted-last ks n id h.1))

held_keys-press-below : (lines : List Line) (b id mask n : ℕ) → down lines b ≡ None → b < n
    → keys_below (lines ++ KeyDown id b mask ∷ []) n ≡ inserted (keys_below lines n) b id
unfolding keys_below
held_keys-press-below lines b id mask zero none lt = absurd (omega arith)
held_keys-press-below lines b id mask (suc n) none lt = elim (cases_lt b n) [
  | inl w ↦
      rw (
        held_keys-press-below lines b id mask n none w,
        down-other n lines (KeyDown id b mask) (ne_eqb b n (λ e. omega arith)),
      )
      (sym (inserted-before (keys_below lines n) b id n (down lines n) w))
  | inr w ↦ let same : b ≡ n = omega arith in
      let agree : keys_below (lines ++ KeyDown id b mask ∷ []) n ≡ keys_below lines n =
      held_keys-agree lines (lines ++ KeyDown id b mask ∷ []) n
      (λ k l. down-other k lines (KeyDown id b mask) (ne_eqb b k (λ e. omega arith))) in
      let now : down (lines ++ KeyDown id b mask ∷ []) n ≡ Some id =
      subst (λ (k : ℕ). down (lines ++ KeyDown id b mask ∷ []) k ≡ Some id) same
      (down-press b id mask lines) in
      let was : down lines n ≡ None = subst (λ (k : ℕ). down lines k ≡ None) same none in
      rw (agree, now, was, append-nil (keys_below lines n), same)
      (sym (inserted-last (keys_below lines n) n id (held_keys-below lines n)))
]

pub held_keys-press : (lines : List Line) (b id mask : ℕ) → down lines b ≡ None
    → held_keys (lines ++ KeyDown id b mask ∷ []) ≡ inserted (held_keys lines) b id
held_keys-press lines b id mask none =
    let n = max (suc b) (max (reach lines) (reach (lines ++ KeyDown id b mask ∷ []))) in
    sym (held_keys-at (lines ++ KeyDown id b mask ∷ []) n (omega arith))
    ∙ held_keys-press-below lines b id mask n none (omega arith)
    ∙ ap (λ (t : List HeldKey). inserted t b id) (held_keys-at lines n (omega arith))

removed-before : (ks : List HeldKey) (b n : ℕ) (o : Option ℕ) → b < n
    → removed (ks ++ held_one n o) b ≡ removed ks b ++ held_one n o
removed-before [] b n None lt = refl
removed-before [] b n (Some other) lt =
    rw (le-ltb n b (omega arith), ne_eqb n b (λ e. omega arith)) refl
removed-before (k ∷ ks) b n o lt = elim (cases_Bool (ltb k.button b)) [
  | inl e ↦ rw e (ap (λ (t : List HeldKey). k ∷ t) (removed-before ks b n o lt))
  | inr e ↦ elim (eqb_tells k.button b) [ inl q ↦ rw (e, q.0) refl | inr q ↦ rw (e, q.0) refl ]
]

removed-last : (ks : List HeldKey) (n : ℕ) (o : Option ℕ) → AllBelow n ks
    → removed (ks ++ held_one n o) n ≡ ks
unfolding AllBelow
removed-last [] n None h = refl
removed-last [] n (Some id) h = rw (le-ltb n n (omega arith), eq-eqb n n refl) refl
removed-last (k ∷ ks) n o h =
    rw (lt-ltb k.button n h.0) (ap (λ (t : List HeldKey). k ∷ t) (removed-last ks n o h.1))

held_keys-lift-below : (lines : List Line) (b id n : ℕ) → b < n
    → keys_below (lines ++ KeyUp id b ∷ []) n ≡ removed (keys_below lines n) b
unfolding keys_below
held_keys-lift-below lines b id zero lt = absurd (omega arith)
held_keys-lift-below lines b id (suc n) lt = elim (cases_lt b n) [
  | inl w ↦
      rw (
        held_keys-lift-below lines b id n w,
        down-other n lines (KeyUp id b) (ne_eqb b n (λ e. omega arith)),
      )
      (sym (removed-before (keys_below lines n) b n (down lines n) w))
  | inr w ↦ let same : b ≡ n = omega arith in
      let agree : keys_below (lines ++ KeyUp id b ∷ []) n ≡ keys_below lines n =
      held_keys-agree lines (lines ++ KeyUp id b ∷ []) n
      (λ k l. down-other k lines (KeyUp id b) (ne_eqb b k (λ e. omega arith))) in
      let now : down (lines ++ KeyUp id b ∷ []) n ≡ None =
      subst (λ (k : ℕ). down (lines ++ KeyUp id b ∷ []) k ≡ None) same (down-up b id lines) in
      rw (agree, now, append-nil (keys_below lines n), same)
      (sym (removed-last (keys_below lines n) n (down lines n) (held_keys-below lines n)))
]

pub held_keys-lift : (lines : List Line) (b id : ℕ)
    → held_keys (lines ++ KeyUp id b ∷ []) ≡ removed (held_keys lines) b
held_keys-lift lines b id =
    let n = max (suc b) (max (reach lines) (reach (lines ++ KeyUp id b ∷ []))) in
    sym (held_keys-at (lines ++ KeyUp id b ∷ []) n (omega arith))
    ∙ held_keys-lift-below lines b id n (omega arith)
    ∙ ap (λ (t : List HeldKey). removed t b) (held_keys-at lines n (omega arith))

-- The same over the code's variables: the slice, and the place in it

pub id-past : (ks keys : List HeldKey) (b at : ℕ) → keys ≡ ks → at ≡ place keys b → length keys ≤ at
    → None ≡ found ks b
id-past ks keys b at e p h = rw (← e) (sym (found-past keys b (omega arith)))

pub id-here : (ks keys : List HeldKey) (b at : ℕ) (d : HeldKey) → keys ≡ ks → at ≡ place keys b
    → at < length keys → (get_or keys at d).button ≡ b → Some (get_or keys at d).id ≡ found ks b
id-here ks keys b at d e p lt h = rw (← e, p) (sym (found-here keys b d (omega arith) (rw p at h)))

pub id-other : (ks keys : List HeldKey) (b at : ℕ) (d : HeldKey) → keys ≡ ks → at ≡ place keys b
    → at < length keys → (get_or keys at d).button ≢ b → None ≡ found ks b
id-other ks keys b at d e p lt h = rw (← e) (sym (found-other keys b d (omega arith) (rw p at h)))

pub insert-at : (ks keys new : List HeldKey) (b id at : ℕ) → keys ≡ ks → at ≡ place keys b
    → new ≡ insert ks at (record { button = b; id = id }) → new ≡ inserted ks b id
insert-at ks keys new b id at e p h =
    h
    ∙ ap (λ (i : ℕ). insert ks i (record { button = b; id = id }))
    (p ∙ ap (λ (t : List HeldKey). place t b) e)
    ∙ inserted-is ks b id

pub remove-past : (ks keys : List HeldKey) (b at : ℕ) → keys ≡ ks → at ≡ place keys b
    → length keys ≤ at → ks ≡ removed ks b
remove-past ks keys b at e p h =
    removed-past ks b
    (let q : at ≡ place ks b = p ∙ ap (λ (t : List HeldKey). place t b) e in
    let l : length keys ≡ length ks = ap length e in omega arith)

pub remove-here : (ks keys new : List HeldKey) (b at : ℕ) (d : HeldKey) → keys ≡ ks
    → at ≡ place keys b → at < length keys → (get_or keys at d).button ≡ b → new ≡ remove ks at
    → new ≡ removed ks b
remove-here ks keys new b at d e p lt h n =
    n
    ∙ subst (λ (t : List HeldKey). remove t at ≡ removed t b) e
    (rw p (removed-here keys b d (omega arith) (rw p at h)))

pub remove-other : (ks keys : List HeldKey) (b at : ℕ) (d : HeldKey) → keys ≡ ks → at ≡ place keys b
    → at < length keys → (get_or keys at d).button ≢ b → ks ≡ removed ks b
remove-other ks keys b at d e p lt h =
    subst (λ (t : List HeldKey). t ≡ removed t b) e
    (removed-other keys b d (omega arith) (rw p at h))
