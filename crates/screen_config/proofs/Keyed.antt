-- What the keys of values say is what their names say.
use Rattle.std.proofs.Common.{◌≡◌, ℕ, zero, suc, ◌<◌, ◌≤◌, Bool, true, false, not, List, [], ◌∷◌}
use Rattle.std.proofs.Common.{◌++◌, length, map, Vec, Option, Some, None, refl, ap, subst, sym, ◌∙◌}
use Rattle.std.proofs.Common.{arith, nat_eq}
use Rattle.std.specs.Prelude.{All, slice_get, slice_set}
use Rattle.std.specs.Global.{Global}
use Rattle.std.specs.List.{list_all, position}
use Rattle.std.specs.Char.{to_ascii_lowercase}
use Rattle.std.specs.Cmp.Lexicographic.{pointwise}
use Rattle.std.specs.Str.{bytes_eq}
use Rattle.std.specs.Map.{keys_of, values_of, lookup}
use Rattle.std.proofs.lemmas.Bool.{and_from, false_from_ne_true, not_from_false}
use Rattle.std.proofs.lemmas.Bool.Decides.{same_from_decides}
use Rattle.std.proofs.lemmas.List.{length-map, map-append}
use Rattle.std.proofs.lemmas.List.Elements.{All-head, All-nil, All-push, All-tail}
use Rattle.std.proofs.lemmas.Slice.Eq.{bytes_eq-Decides}
use Rattle.indexmap.specs.IndexMap.{insert_entry, set_value_at}
use Rattle.indexmap.proofs.MapLemmas.{Missing-position, insert_entry-absent}
use Rattle.share_base.specs.Names.{same_name}
use Rattle.share_base.proofs.ListTests.{position_none}
use Rattle.share_base.proofs.SameNames.{same_name_swapped}
use Rattle.option_table.proofs.WordPlaces.{position_map}
use Rattle.screen_config.specs.Keyed.{small, names_in, AreKeyed}

abbrev Entry : Type 0 → Type 0
Entry T = Vec ℕ Global × T

-- the key is that of a name, whatever its letters
same_key : (name own : List ℕ) → pointwise nat_eq (small name) (small own) ≡ same_name own name
unfolding same_name
same_key name own = same_name_swapped name own

pub key_index : {T : Type 0} (name_of : T → List ℕ) (es : List (Entry T)) (name q : List ℕ)
    → q ≡ small name → AreKeyed name_of es
    → position (λ k. pointwise nat_eq q k.items) (keys_of es)
    ≡ position (λ v. same_name (name_of v) name) (values_of es)
key_index {T} name_of es name q e keyed =
    let test : List ℕ → Bool = pointwise nat_eq q in
    position_map (λ (k : Vec ℕ Global). test k.items) (λ (x : Entry T). x.0) es
    ∙ sym (position_map test (λ (x : Entry T). x.0.items) es)
    ∙ ap (position test) keyed.keys
    ∙ position_map test small (names_in name_of es)
    ∙ ap
    (λ (w : List ℕ).
    position (λ (own : List ℕ). pointwise nat_eq w (small own)) (names_in name_of es))
    e
    ∙ (λ i. position (λ (own : List ℕ). same_key name own i) (names_in name_of es))
    ∙ position_map (λ (own : List ℕ). same_name own name) (λ (x : Entry T). name_of x.1) es
    ∙ sym (position_map (λ (v : T). same_name (name_of v) name) (λ (x : Entry T). x.1) es)

same_length : (own name : List ℕ) → same_name own name ≡ true → length own ≡ length name
unfolding same_name
same_length own name e =
    sym (length-map own to_ascii_lowercase)
    ∙ ap length ((bytes_eq-Decides (small own) (small name)).0 e)
    ∙ length-map name to_ascii_lowercase

none_so_long : (names : List (List ℕ)) (name : List ℕ) → 255 < length name
    → All (λ n. length n ≤ 255) names → list_all (λ own. not (same_name own name)) names ≡ true
none_so_long [] name long h = refl
none_so_long (own ∷ names) name long h =
    let fits : length own ≤ 255 = All-head (λ (n : List ℕ). length n ≤ 255) own names h in
    and_from (not (same_name own name)) _
    (not_from_false _
    (false_from_ne_true _
    (λ same. let equal : length own ≡ length name = same_length own name same in
    absurd (omega arith))))
    (none_so_long names name long (All-tail (λ (n : List ℕ). length n ≤ 255) own names h))

-- a name that is too long is no value's
pub too_long : {T : Type 0} (name_of : T → List ℕ) (es : List (Entry T)) (name : List ℕ)
    → 255 < length name → AreKeyed name_of es
    → position (λ v. same_name (name_of v) name) (values_of es) ≡ None
too_long {T} name_of es name long keyed =
    position_map (λ (v : T). same_name (name_of v) name) (λ (x : Entry T). x.1) es
    ∙ sym (position_map (λ (own : List ℕ). same_name own name) (λ (x : Entry T). name_of x.1) es)
    ∙ position_none (λ own. same_name own name) (names_in name_of es)
    (none_so_long (names_in name_of es) name long keyed.short)

-- ---- one value more

-- a value whose name none has goes last
pub put_last : {T : Type 0} (name_of : T → List ℕ) (es : List (Entry T)) (k : Vec ℕ Global) (v : T)
    → k.items ≡ small (name_of v) → AreKeyed name_of es
    → position (λ x. same_name (name_of x) (name_of v)) (values_of es) ≡ None
    → insert_entry (λ (a b : Vec ℕ Global). pointwise nat_eq a.items b.items) es k v
    ≡ es ++ (k, v) ∷ []
put_last name_of es k v e keyed none =
    let test : Vec ℕ Global → Bool = λ b. pointwise nat_eq k.items b.items in
    insert_entry-absent (λ (a b : Vec ℕ Global). pointwise nat_eq a.items b.items) k v es
    (Missing-position test es (key_index name_of es (name_of v) k.items e keyed ∙ none)).absent

names_last : {T : Type 0} (name_of : T → List ℕ) (es : List (Entry T)) (k : Vec ℕ Global) (v : T)
    → names_in name_of (es ++ (k, v) ∷ []) ≡ names_in name_of es ++ name_of v ∷ []
names_last {T} name_of es k v = map-append (λ (x : Entry T). name_of x.1) es ((k, v) ∷ [])

pub keyed_last : {T : Type 0} (name_of : T → List ℕ) (es : List (Entry T)) (k : Vec ℕ Global)
    (v : T)
    → k.items ≡ small (name_of v) → length (name_of v) ≤ 255 → AreKeyed name_of es
    → AreKeyed name_of (es ++ (k, v) ∷ [])
keyed_last {T} name_of es k v e fits keyed = record {
  keys = map-append (λ (x : Entry T). x.0.items) es ((k, v) ∷ [])
      ∙ ap (λ (xs : List (List ℕ)). xs ++ k.items ∷ []) keyed.keys
      ∙ ap (λ (x : List ℕ). map small (names_in name_of es) ++ x ∷ []) e
      ∙ sym (map-append small (names_in name_of es) (name_of v ∷ []))
      ∙ ap (map small) (sym (names_last name_of es k v));
  short =
      subst (All (λ (n : List ℕ). length n ≤ 255)) (sym (names_last name_of es k v))
      (All-push (λ (n : List ℕ). length n ≤ 255) (names_in name_of es) (name_of v) keyed.short
      fits);
}

-- ---- a value in place of one of the same name

pub values_set : {T : Type 0} (es : List (Entry T)) (i : ℕ) (w : T)
    → values_of (set_value_at es i w) ≡ slice_set (values_of es) i w
values_set [] i w = refl
values_set (e ∷ es) zero w = refl
values_set (e ∷ es) (suc i) w = ap (λ vs. e.1 ∷ vs) (values_set es i w)

keys_set : {T : Type 0} (es : List (Entry T)) (i : ℕ) (w : T)
    → map (λ e. e.0.items) (set_value_at es i w) ≡ map (λ e. e.0.items) es
keys_set [] i w = refl
keys_set (e ∷ es) zero w = refl
keys_set (e ∷ es) (suc i) w = ap (λ ks. e.0.items ∷ ks) (keys_set es i w)

names_set : {T : Type 0} (name_of : T → List ℕ) (es : List (Entry T)) (i : ℕ) (v w : T)
    → slice_get (values_of es) i ≡ Some v → name_of w ≡ name_of v
    → names_in name_of (set_value_at es i w) ≡ names_in name_of es
names_set name_of [] i v w there same = refl
names_set {T} name_of (e ∷ es) zero v w there same =
    let own : e.1 ≡ v = cc in ap (λ n. n ∷ names_in name_of es) (same ∙ ap name_of (sym own))
names_set name_of (e ∷ es) (suc i) v w there same =
    ap (λ ns. name_of e.1 ∷ ns) (names_set name_of es i v w there same)

pub keyed_set : {T : Type 0} (name_of : T → List ℕ) (es : List (Entry T)) (i : ℕ) (v w : T)
    → slice_get (values_of es) i ≡ Some v → name_of w ≡ name_of v → AreKeyed name_of es
    → AreKeyed name_of (set_value_at es i w)
keyed_set name_of es i v w there same keyed =
    let names = names_set name_of es i v w there same in
    record {
      keys = keys_set es i w ∙ keyed.keys ∙ ap (map small) (sym names);
      short = subst (All (λ (n : List ℕ). length n ≤ 255)) (sym names) keyed.short;
    }
