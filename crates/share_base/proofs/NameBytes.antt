-- The bytes of a name.
use Rattle.std.proofs.Common.{◌≡◌, ℕ, ◌-◌, ◌≤◌, Bool, true, false, cond, ◌&&◌, ◌||◌, ◌==◌, nat_le}
use Rattle.std.proofs.Common.{List, [], ◌∷◌, length, take, get_or, refl, sym, subst, arith}
use Rattle.std.specs.Prelude.{slice_index}
use Rattle.std.specs.List.{list_all, slice_split, onto_first}
use Rattle.std.proofs.lemmas.Bool.{and_parts, and_from, leb-true, or_left, or_right}
use Rattle.share_base.specs.Names.{is_name, is_part, is_part_byte, is_edge_byte, undotted}
use Rattle.share_base.proofs.Ends.{front_and_last}
use Rattle.share_base.proofs.ListTests.{all_weaker, all_append}

-- one that a part may have, or a dot
abbrev pub is_name_byte : ℕ → Bool
is_name_byte b = is_part_byte b || (b == 46)

abbrev is_dot : ℕ → Bool
is_dot b = b == 46

abbrev have_part_bytes : List (List ℕ) → Bool
have_part_bytes parts = list_all (list_all is_part_byte) parts

parts_of_first : (b : ℕ) (parts : List (List ℕ)) → have_part_bytes (onto_first b parts) ≡ true
    → (is_part_byte b ≡ true) × (have_part_bytes parts ≡ true)
parts_of_first b [] h =
    ((and_parts (is_part_byte b) true (and_parts (is_part_byte b && true) true h).0).0, refl)
parts_of_first b (part ∷ parts) h =
    let e = and_parts (is_part_byte b && list_all is_part_byte part) (have_part_bytes parts) h in
    let f = and_parts (is_part_byte b) (list_all is_part_byte part) e.0 in
    (f.0, and_from (list_all is_part_byte part) (have_part_bytes parts) f.1 e.1)

joined_by : (t : Bool) (b : ℕ) (bs : List ℕ) → is_dot b ≡ t
    → (have_part_bytes (slice_split is_dot bs) ≡ true → list_all is_name_byte bs ≡ true)
    → have_part_bytes (cond t ([] ∷ slice_split is_dot bs) (onto_first b (slice_split is_dot bs)))
    ≡ true
    → list_all is_name_byte (b ∷ bs) ≡ true
joined_by true b bs e rest h =
    and_from (is_name_byte b) (list_all is_name_byte bs) (or_right (is_part_byte b) (b == 46) e)
    (rest h)
joined_by false b bs e rest h =
    let p = parts_of_first b (slice_split is_dot bs) h in
    and_from (is_name_byte b) (list_all is_name_byte bs) (or_left (is_part_byte b) (b == 46) p.0)
    (rest p.1)

joined : (xs : List ℕ) → have_part_bytes (slice_split is_dot xs) ≡ true
    → list_all is_name_byte xs ≡ true
joined [] h = refl
joined (b ∷ bs) h = joined_by (is_dot b) b bs refl (joined bs) h

part_bytes : (xs : List ℕ) → is_part xs ≡ true → list_all is_part_byte xs ≡ true
part_bytes xs h =
    (and_parts (is_edge_byte (slice_index xs 0) && is_edge_byte (slice_index xs (length xs - 1)))
    (list_all is_part_byte xs) h).1

dotted : (t : Bool) (xs : List ℕ) → (slice_index xs (length xs - 1) == 46) ≡ t
    → list_all is_name_byte (cond t (take (length xs - 1) xs) xs) ≡ true
    → list_all is_name_byte xs ≡ true
dotted false xs e h = h
dotted true [] e h = refl
dotted true (b ∷ bs) e h =
    let last : is_name_byte (get_or (b ∷ bs) (length (b ∷ bs) - 1) 0) ≡ true =
    or_right (is_part_byte (get_or (b ∷ bs) (length (b ∷ bs) - 1) 0)) _ e in
    subst (λ (k : List ℕ). list_all is_name_byte k ≡ true)
    (sym (front_and_last (b ∷ bs) (omega arith)))
    (all_append is_name_byte (take (length (b ∷ bs) - 1) (b ∷ bs))
    (get_or (b ∷ bs) (length (b ∷ bs) - 1) 0 ∷ []) h (and_from _ true last refl))

-- each byte of a name is one of a part's or a dot
pub name_bytes : (name : List ℕ) → is_name name ≡ true → list_all is_name_byte name ≡ true
unfolding is_name
name_bytes name h =
    let parts =
    (and_parts (nat_le (length name) 255)
    (list_all is_part (slice_split is_dot (undotted name))) h).1
    in
    dotted (slice_index name (length name - 1) == 46) name refl
    (joined (undotted name)
    (all_weaker is_part (list_all is_part_byte) part_bytes (slice_split is_dot (undotted name))
    parts))

-- and it has one at least
pub no_name : is_name [] ≡ false
unfolding is_name
no_name = refl

-- a name has 255 bytes at most
pub is_name_short : (name : List ℕ) → is_name name ≡ true → length name ≤ 255
unfolding is_name
is_name_short name h =
    leb-true (length name) 255
    (and_parts (nat_le (length name) 255)
    (list_all is_part (slice_split (λ b. b == 46) (undotted name))) h).0
