-- The rows of the table of named keys.
use Rattle.std.proofs.Common.{◌≡◌, ℕ, Bool, true, false, not, ◌&&◌, ◌==◌, List, Option, Some, None}
use Rattle.std.proofs.Common.{refl, ap, sym, ◌∙◌, subst}
use Rattle.std.specs.Prelude.{AllPairs, Contains, IsSomeAnd, map}
use Rattle.std.specs.List.{find}
use Rattle.std.specs.Bool.{Decides}
use Rattle.std.specs.Char.{to_ascii_lowercase}
use Rattle.std.specs.Option.{option_map}
use Rattle.std.proofs.lemmas.Bool.Decides.{Decides-eqb}
use Rattle.std.proofs.lemmas.Slice.Eq.{bytes_eq-Decides}
use Rattle.share_base.specs.Names.{same_name}
use Rattle.share_base.specs.declared.numbers.KeyId.{KeyId}
use Rattle.hotkey_rules.specs.KeyNames.{NamedKey, row, named_keys, key_of_name, name_of_key}
use Rattle.hotkey_rules.specs.KeyNames.{AreApart, IsNamed}
use Rattle.hotkey_rules.proofs.FirstFound.{found_listed, found_alone, pairs_pass, apart_by_test}

-- ---- names and ids

same-decides : (a b : List ℕ)
    → Decides (same_name a b) (map to_ascii_lowercase a ≡ map to_ascii_lowercase b)
unfolding same_name
same-decides a b = bytes_eq-Decides (map to_ascii_lowercase a) (map to_ascii_lowercase b)

alike : (a b name : List ℕ) → same_name a name ≡ true → same_name b name ≡ true
    → same_name a b ≡ true
alike a b name e f =
    (same-decides a b).1 ((same-decides a name).0 e ∙ sym ((same-decides b name).0 f))

abbrev key_id : ℕ → KeyId
key_id n = record { 0 = n }

one_id : (a b : KeyId) → (a.0 == b.0) ≡ true → a ≡ b
one_id a b e = ap key_id ((Decides-eqb a.0 b.0).0 e)

-- ---- no two rows are alike

abbrev apart : NamedKey → NamedKey → Bool
apart one other = not (one.id.0 == other.id.0) && not (same_name one.name other.name)

apart_tells : (one other : NamedKey) (ids names : Bool) → (one.id.0 == other.id.0) ≡ ids
    → same_name one.name other.name ≡ names → (not ids && not names) ≡ true → AreApart one other
apart_tells one other true names i n e = absurd cc
apart_tells one other false true i n e = absurd cc
apart_tells one other false false i n e = (
  (λ same. let contrary : false ≡ true = sym i
      ∙ (Decides-eqb one.id.0 other.id.0).1 (ap (λ (id : KeyId). id.0) same) in
      cc),
  n,
)

all_apart : pairs_pass apart named_keys ≡ true
unfolding named_keys same_name
all_apart = refl

pub rows_apart : AllPairs AreApart named_keys
rows_apart =
    apart_by_test AreApart apart (λ one other e. apart_tells one other _ _ refl refl e) named_keys
    all_apart

-- ---- the row of a name, and the row of an id

abbrev is_called : List ℕ → NamedKey → Bool
is_called name key = same_name key.name name

abbrev has_id : KeyId → NamedKey → Bool
has_id id key = key.id.0 == id.0

row_named : (name : List ℕ) (id : KeyId) (key : Option NamedKey)
    → find (is_called name) named_keys ≡ key → option_map (λ k. k.id) key ≡ Some id
    → IsNamed name id
row_named name id None f e = absurd cc
row_named name id (Some key) f e =
    let same : key.id ≡ id = cc in
    let found = found_listed (is_called name) named_keys key f in
    record {
      own = key.name;
      listed = subst (λ (i : KeyId). Contains named_keys (row key.name i.0)) same found.0;
      same = found.1;
    }

pub named : (name : List ℕ) (id : KeyId) → key_of_name name ≡ Some id → IsNamed name id
unfolding key_of_name
named name id e = row_named name id (find (is_called name) named_keys) refl e

pub names : (name : List ℕ) (id : KeyId) → IsNamed name id → key_of_name name ≡ Some id
unfolding key_of_name
names name id n =
    ap (option_map (λ (k : NamedKey). k.id))
    (found_alone (is_called name) named_keys (row n.own id.0)
    (λ i j d before within e f. let contrary : false ≡ true = sym (rows_apart i j d before within).1
    ∙ alike _ _ name e f in
    cc)
    n.listed n.same)

row_with : (id : KeyId) (name : List ℕ) (key : Option NamedKey) → find (has_id id) named_keys ≡ key
    → option_map (λ k. k.name) key ≡ Some name → Contains named_keys (row name id.0)
row_with id name None f e = absurd cc
row_with id name (Some key) f e =
    let same : key.name ≡ name = cc in
    let found = found_listed (has_id id) named_keys key f in
    subst (λ (i : KeyId). Contains named_keys (row name i.0)) (one_id key.id id found.1)
    (subst (λ (n : List ℕ). Contains named_keys (row n key.id.0)) same found.0)

pub has_name : (id : KeyId) (name : List ℕ) → name_of_key id ≡ Some name
    → Contains named_keys (row name id.0)
unfolding name_of_key
has_name id name e = row_with id name (find (has_id id) named_keys) refl e

pub gives_name : (id : KeyId) (name : List ℕ) → Contains named_keys (row name id.0)
    → name_of_key id ≡ Some name
unfolding name_of_key
gives_name id name listed =
    ap (option_map (λ (k : NamedKey). k.name)) (found_alone (has_id id) named_keys (row name id.0)
    (λ i j d before within e f. (rows_apart i j d before within).0
    (one_id _ id e ∙ sym (one_id _ id f)))
    listed ((Decides-eqb id.0 id.0).1 refl))

-- ---- there and back

pub name_back : (name : List ℕ) (id : KeyId) → key_of_name name ≡ Some id
    → IsSomeAnd (name_of_key id) (λ own. same_name own name ≡ true)
name_back name id e =
    let n = named name id e in
    subst (λ (o : Option (List ℕ)). IsSomeAnd o (λ own. same_name own name ≡ true))
    (sym (gives_name id n.own n.listed)) n.same

pub id_back : (id : KeyId) (name : List ℕ) → name_of_key id ≡ Some name → key_of_name name ≡ Some id
id_back id name e =
    names name id
    (record { own = name; listed = has_name id name e; same = (same-decides name name).1 refl })
