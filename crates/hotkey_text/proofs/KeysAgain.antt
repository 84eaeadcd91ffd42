-- Printed keys are read again.
use Rattle.std.proofs.Common.{◌≡◌, ℕ, ◌+◌, ◌*◌, ◌/◌, ◌%◌, ◌<◌, true, not, ◌==◌, List, [], ◌∷◌}
use Rattle.std.proofs.Common.{length, map, Option, Some, None, refl, ap, ◌∙◌, arith}
use Rattle.std.specs.Prelude.{slice_index}
use Rattle.std.specs.List.{list_all}
use Rattle.std.specs.Option.{option_map}
use Rattle.std.specs.Char.{to_ascii_lowercase, is_ascii_hexdigit, digit_value}
use Rattle.std.proofs.lemmas.Bool.{agree_below_at, cond_both, eq-eqb, eqb-true, ne_eqb, both_ways}
use Rattle.std.proofs.lemmas.Bool.{not-true, not_from_false, false_from_ne_true}
use Rattle.std.proofs.lemmas.Slice.Eq.{bytes_eq-Decides}
use Rattle.share_base.specs.Names.{same_name}
use Rattle.share_base.specs.declared.numbers.KeyId.{KeyId}
use Rattle.share_base.proofs.ListTests.{all_weaker, find_none}
use Rattle.hotkey_rules.specs.KeyNames.{NamedKey, named_keys, key_of_name, name_of_key}
use Rattle.hotkey_rules.proofs.KeyRows.{id_back}
use Rattle.hotkey_text.specs.Keys.{key_id, is_plain, unless_zero, number_of_digits, coded_key}
use Rattle.hotkey_text.specs.Keys.{key_named}
use Rattle.hotkey_text.specs.Printed.{digit_text, coded_text, name_or_number, key_text}

-- ---- a word that differs from each name of the table by its length, say, or by its first letter

abbrev lower : List ℕ → List ℕ
lower word = map to_ascii_lowercase word

differs_by : (f : List ℕ → ℕ) (name word : List ℕ) → not (f (lower name) == f (lower word)) ≡ true
    → not (same_name name word) ≡ true
unfolding same_name
differs_by f name word h = not_from_false _ (false_from_ne_true _ (λ e.
    both_ways _ (not-true _ h)
    (eq-eqb _ _ (ap f ((bytes_eq-Decides (lower name) (lower word)).0 e)))))

no_name : (f : List ℕ → ℕ) (word : List ℕ)
    → list_all (λ (k : NamedKey). not (f (lower k.name) == f (lower word))) named_keys ≡ true
    → key_of_name word ≡ None
unfolding key_of_name
no_name f word h =
    ap (option_map (λ (k : NamedKey). k.id))
    (find_none (λ (k : NamedKey). same_name k.name word) named_keys
    (all_weaker (λ (k : NamedKey). not (f (lower k.name) == f (lower word)))
    (λ (k : NamedKey). not (same_name k.name word)) (λ k e. differs_by f k.name word e)
    named_keys h))

-- ---- by its character

one_byte_no_name : (b : ℕ) → key_of_name (b ∷ []) ≡ None
unfolding named_keys
one_byte_no_name b = no_name length (b ∷ []) refl

plain_again : (n : ℕ) → is_plain n ≡ true → key_named (n ∷ []) ≡ Some (key_id n)
unfolding key_named
plain_again n e = rw (one_byte_no_name n, e) refl

-- ---- by its number

digit_is : (d : ℕ) → d < 16 → is_ascii_hexdigit (digit_text d) ≡ true
digit_is d h = agree_below_at (λ d. is_ascii_hexdigit (digit_text d)) (λ d. true) 16 d refl h

digit_value_is : (d : ℕ) → d < 16 → digit_value (digit_text d) ≡ d
digit_value_is d h =
    eqb-true _ _ (agree_below_at (λ d. digit_value (digit_text d) == d) (λ d. true) 16 d refl h)

digits_again : (a b c d : ℕ) → a < 16 → b < 16 → c < 16 → d < 16
    → number_of_digits (digit_text a) (digit_text b) (digit_text c) (digit_text d)
    ≡ unless_zero (4096 * a + 256 * b + 16 * c + d)
digits_again a b c d h k m n =
    rw (
      digit_is a h,
      digit_is b k,
      digit_is c m,
      digit_is d n,
      digit_value_is a h,
      digit_value_is b k,
      digit_value_is c m,
      digit_value_is d n,
    )
    refl

some_unless_zero : (n : ℕ) → 0 < n → unless_zero n ≡ Some (key_id n)
some_unless_zero n h = rw (ne_eqb n 0 (λ e. absurd (omega arith))) refl

coded_no_name : (n : ℕ) → key_of_name (coded_text n) ≡ None
unfolding named_keys
coded_no_name n = no_name (λ xs. slice_index xs 0) (coded_text n) refl

number_again : (n : ℕ) → 0 < n → n < 65536 → coded_key (coded_text n) ≡ Some (key_id n)
number_again n h k =
    let whole : 4096 * (n / 4096) + 256 * (n / 256 % 16) + 16 * (n / 16 % 16) + n % 16 ≡ n =
    omega arith in
    digits_again (n / 4096) (n / 256 % 16) (n / 16 % 16) (n % 16) (omega arith) (omega arith)
    (omega arith) (omega arith)
    ∙ ap unless_zero whole ∙ some_unless_zero n h

coded_again : (n : ℕ) → 0 < n → n < 65536 → key_named (coded_text n) ≡ Some (key_id n)
unfolding key_named
coded_again n h k = rw (coded_no_name n) (number_again n h k)

-- ---- a key

-- what holds of a key's name, of its character and of its number holds of its text
pub key_text_by : (P : List ℕ → Type 0) (id : KeyId)
    → ((name : List ℕ) → name_of_key id ≡ Some name → P name)
    → (is_plain id.0 ≡ true → P (id.0 ∷ [])) → P (coded_text id.0) → P (key_text id)
unfolding key_text
key_text_by P id named plain coded = by (name_of_key id) refl where
  by : (o : Option (List ℕ)) → name_of_key id ≡ o → P (name_or_number o id.0)
  by None e = cond_both (is_plain id.0) (id.0 ∷ []) (coded_text id.0) P plain (λ h. coded)
  by (Some name) e = named name e

named_again : (id : KeyId) (name : List ℕ) → name_of_key id ≡ Some name → key_named name ≡ Some id
unfolding key_named
named_again id name e = rw (id_back id name e) refl

-- the text of a key spells it again
pub key_again : (id : KeyId) → 0 < id.0 → id.0 < 65536 → key_named (key_text id) ≡ Some id
key_again id h k =
    key_text_by (λ t. key_named t ≡ Some id) id (named_again id) (plain_again id.0)
    (coded_again id.0 h k)
