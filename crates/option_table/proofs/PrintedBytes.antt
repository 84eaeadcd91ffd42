-- The bytes of a printed option.
use Rattle.std.proofs.Common.{◌≡◌, ℕ, ◌+◌, ◌-◌, ◌^◌, ◌<◌, Bool, true, not, ◌&&◌, nat_lt, List}
use Rattle.std.proofs.Common.{length, get_or, refl, arith}
use Rattle.std.specs.List.{list_all}
use Rattle.std.specs.Char.{is_ascii_alphanumeric}
use Rattle.std.proofs.lemmas.Bool.{agree_below, agree_below_at, and_parts, leb-true, ltb-true}
use Rattle.std.proofs.lemmas.Bool.{not-true}
use Rattle.std.proofs.lemmas.Fmt.{decimal_nonempty}
use Rattle.text_lines.specs.Bytes.{is_blank, is_tight}
use Rattle.text_lines.proofs.CleanWords.{is_plain, is_solid, IsClean, clean_solid}
use Rattle.text_lines.proofs.NumbersAgain.{all_digits}
use Rattle.option_table.specs.declared.rows.OptionName.{OptionName}
use Rattle.option_table.specs.declared.rows.ValueForm.{ValueForm}
use Rattle.option_table.specs.declared.rows.ValueForm.TheVariants as form
use Rattle.option_table.specs.Corners.{corner_of}
use Rattle.option_table.specs.Table.{row_of}
use Rattle.option_table.specs.Values.{suits}
use Rattle.option_table.specs.Printed.{corner_text, value_text}
use Rattle.option_table.proofs.RowPlaces.{each_row}
use Rattle.option_table.proofs.PrintedAgain.{row_value_fits}

-- a key is letters and digits, one at least
pub key_bytes : (o : OptionName) → list_all is_ascii_alphanumeric (row_of o).key ≡ true
unfolding row_of
key_bytes o = each_row (λ q. list_all is_ascii_alphanumeric (row_of q).key) refl o

pub key_some : (o : OptionName) → 0 < length (row_of o).key
unfolding row_of
key_some o =
    ltb-true 0 (length (row_of o).key) (each_row (λ q. nat_lt 0 (length (row_of q).key)) refl o)

pub key_clean : (o : OptionName) → IsClean (row_of o).key
unfolding row_of
key_clean o =
    clean_solid (row_of o).key (each_row (λ q. list_all is_plain (row_of q).key) refl o)
    (each_row (λ q. list_all is_solid (row_of q).key) refl o) (key_some o)

-- ---- values

abbrev is_clean : List ℕ → Bool
is_clean xs =
    list_all is_plain xs
    && (nat_lt 0 (length xs) && (is_tight xs && not (is_blank (get_or xs (length xs - 1) 0))))

clean_is : (xs : List ℕ) → is_clean xs ≡ true → IsClean xs
clean_is xs e =
    let plain =
    and_parts (list_all is_plain xs)
    (nat_lt 0 (length xs) && (is_tight xs && not (is_blank (get_or xs (length xs - 1) 0))))
    e in
    let some =
    and_parts (nat_lt 0 (length xs))
    (is_tight xs && not (is_blank (get_or xs (length xs - 1) 0))) plain.1 in
    let ends = and_parts (is_tight xs) (not (is_blank (get_or xs (length xs - 1) 0))) some.1 in
    record {
      plain = plain.0;
      some = ltb-true 0 (length xs) some.0;
      tight = ends.0;
      ends = not-true _ ends.1;
    }

-- so few values that each is looked at
each_clean : (f : ValueForm) (count : ℕ)
    → agree_below (λ v. is_clean (value_text f v)) (λ v. true) count ≡ true → (v : ℕ) → v < count
    → IsClean (value_text f v)
each_clean f count each v h =
    clean_is (value_text f v)
    (agree_below_at (λ v. is_clean (value_text f v)) (λ v. true) count v each h)

-- the text of a value is words that a line keeps
pub value_clean : (f : ValueForm) (v : ℕ) → v < 2 ^ 64 → suits f v ≡ true → IsClean (value_text f v)
unfolding value_text corner_text corner_of
value_clean form.Flag v h e = each_clean form.Flag 2 refl v (omega (arith, leb-true v 1 e))
value_clean form.Modifier v h e = each_clean form.Modifier 6 refl v (omega (arith, leb-true v 5 e))
value_clean form.Corners v h e = each_clean form.Corners 16 refl v (omega (arith, leb-true v 15 e))
value_clean (form.UpTo max) v h e =
    clean_solid _
    (all_digits is_plain
    (λ d k. agree_below_at (λ d. is_plain (48 + d)) (λ d. true) 10 d refl k) v h)
    (all_digits is_solid (λ d k. agree_below_at (λ d. is_solid (48 + d)) (λ d. true) 10 d refl k) v
    h)
    (decimal_nonempty v h)
value_clean form.Protocol v h e = each_clean form.Protocol 2 refl v (omega (arith, leb-true v 1 e))

pub row_value_clean : (o : OptionName) (v : ℕ) → suits (row_of o).form v ≡ true
    → IsClean (value_text (row_of o).form v)
row_value_clean o v e = value_clean (row_of o).form v (omega (arith, row_value_fits o v e)) e
