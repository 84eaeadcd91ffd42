-- A printed option is read again.
use Rattle.std.proofs.Common.{◌≡◌, ℕ, ◌^◌, ◌<◌, ◌≤◌, Bool, true, false, ◌==◌, Option, Some, None}
use Rattle.std.proofs.Common.{refl, ap, nat_lt, arith}
use Rattle.std.specs.Option.{option_map}
use Rattle.std.proofs.lemmas.Bool.{agree_below, agree_below_at, eqb-true, leb-true, ltb-true}
use Rattle.text_lines.proofs.NumbersAgain.{decimal_again}
use Rattle.text_lines.specs.Words.{words_of}
use Rattle.option_table.specs.declared.rows.OptionName.{OptionName}
use Rattle.option_table.specs.declared.rows.ValueForm.{ValueForm}
use Rattle.option_table.specs.declared.rows.ValueForm.TheVariants as form
use Rattle.option_table.specs.Corners.{corner_of, corner_named, after_word, corners_of_text}
use Rattle.option_table.specs.Table.{row_of, option_named}
use Rattle.option_table.specs.Values.{word_value, value_of, suits}
use Rattle.option_table.specs.Printed.{corner_text, value_text}
use Rattle.option_table.specs.Places.{place_of}
use Rattle.option_table.proofs.RowPlaces.{each_row, one_place}

-- the value is that number
abbrev is_value : ℕ → Option ℕ → Bool
is_value v None = false
is_value v (Some w) = w == v

value_is : (v : ℕ) (o : Option ℕ) → is_value v o ≡ true → o ≡ Some v
value_is v None e = absurd cc
value_is v (Some w) e = ap Some (eqb-true w v e)

by_place : (o : OptionName) (found : Option OptionName)
    → is_value (place_of o) (option_map place_of found) ≡ true → found ≡ Some o
by_place o None e = absurd cc
by_place o (Some q) e = ap Some (one_place q o (eqb-true (place_of q) (place_of o) e))

-- the key of each row is that of no row above
pub key_again : (o : OptionName) → option_named (row_of o).key ≡ Some o
unfolding option_named row_of
key_again o =
    by_place o (option_named (row_of o).key)
    (each_row (λ q. is_value (place_of q) (option_map place_of (option_named (row_of q).key))) refl
    o)

-- so few values that each is looked at
each_again : (f : ValueForm) (count : ℕ)
    → agree_below (λ v. is_value v (value_of f (value_text f v))) (λ v. true) count ≡ true → (v : ℕ)
    → v < count → value_of f (value_text f v) ≡ Some v
each_again f count each v h =
    value_is v (value_of f (value_text f v))
    (agree_below_at (λ v. is_value v (value_of f (value_text f v))) (λ v. true) count v each h)

-- the text of a value spells it again
pub value_again : (f : ValueForm) (v : ℕ) → v < 2 ^ 64 → suits f v ≡ true
    → value_of f (value_text f v) ≡ Some v
unfolding value_of value_text word_value corners_of_text corner_text corner_of corner_named
    after_word words_of
value_again form.Flag v h e = each_again form.Flag 2 refl v (omega (arith, leb-true v 1 e))
value_again form.Modifier v h e = each_again form.Modifier 6 refl v (omega (arith, leb-true v 5 e))
value_again form.Corners v h e = each_again form.Corners 16 refl v (omega (arith, leb-true v 15 e))
value_again (form.UpTo max) v h e = decimal_again max v h (leb-true v max e)
value_again form.Protocol v h e = each_again form.Protocol 2 refl v (omega (arith, leb-true v 1 e))

-- the greatest value of a form
abbrev most : ValueForm → ℕ
most form.Flag = 1
most form.Modifier = 5
most form.Corners = 15
most (form.UpTo max) = max
most form.Protocol = 1

at_most : (f : ValueForm) (v : ℕ) → suits f v ≡ true → v ≤ most f
at_most form.Flag v e = leb-true v 1 e
at_most form.Modifier v e = leb-true v 5 e
at_most form.Corners v e = leb-true v 15 e
at_most (form.UpTo max) v e = leb-true v max e
at_most form.Protocol v e = leb-true v 1 e

-- each value of a row is a number of four bytes
pub row_value_fits : (o : OptionName) (v : ℕ) → suits (row_of o).form v ≡ true → v < 2 ^ 32
unfolding row_of
row_value_fits o v e =
    let fits : nat_lt (most (row_of o).form) (2 ^ 32) ≡ true =
    each_row (λ q. nat_lt (most (row_of q).form) (2 ^ 32)) refl o in
    omega (arith, at_most (row_of o).form v e, ltb-true (most (row_of o).form) (2 ^ 32) fits)

pub row_value_again : (o : OptionName) (v : ℕ) → suits (row_of o).form v ≡ true
    → value_of (row_of o).form (value_text (row_of o).form v) ≡ Some v
row_value_again o v e = value_again (row_of o).form v (omega (arith, row_value_fits o v e)) e
