-- Printed options are short.
use Rattle.std.proofs.Common.{◌≡◌, ℕ, ◌^◌, ◌<◌, ◌≤◌, Bool, true, List, [], ◌∷◌, ◌++◌, length}
use Rattle.std.proofs.Common.{Option, Some, None, nat_le, refl, length-append, arith}
use Rattle.std.specs.Prelude.{codes}
use Rattle.std.proofs.lemmas.Bool.{agree_below, agree_below_at, and_parts, leb-true}
use Rattle.std.proofs.lemmas.Fmt.{length-decimal-le}
use Rattle.option_table.specs.declared.rows.OptionName.{OptionName}
use Rattle.option_table.specs.declared.rows.Scope.{Scope}
use Rattle.option_table.specs.declared.rows.ValueForm.{ValueForm}
use Rattle.option_table.specs.declared.rows.ValueForm.TheVariants as form
use Rattle.option_table.specs.Corners.{corner_of}
use Rattle.option_table.specs.Table.{row_of, options}
use Rattle.option_table.specs.Values.{suits}
use Rattle.option_table.specs.Settings.{Values, setting}
use Rattle.option_table.specs.Scopes.{may_be, are_settings}
use Rattle.option_table.specs.Printed.{corner_text, value_text, option_text, line_where_set}
use Rattle.option_table.specs.Printed.{option_line, option_lines}
use Rattle.option_table.proofs.RowPlaces.{each_row}
use Rattle.option_table.proofs.PrintedAgain.{row_value_fits}
use Rattle.option_table.proofs.Standing.{each_may_be}
use Rattle.config_text.proofs.FlatMapLengths.{each_within}

key_short : (o : OptionName) → length (row_of o).key ≤ 30
unfolding row_of
key_short o =
    leb-true (length (row_of o).key) 30 (each_row (λ q. nat_le (length (row_of q).key) 30) refl o)

-- so few values that each is looked at
each_short : (f : ValueForm) (count : ℕ)
    → agree_below (λ v. nat_le (length (value_text f v)) 60) (λ v. true) count ≡ true → (v : ℕ)
    → v < count → length (value_text f v) ≤ 60
each_short f count each v h =
    leb-true (length (value_text f v)) 60
    (agree_below_at (λ v. nat_le (length (value_text f v)) 60) (λ v. true) count v each h)

value_short : (f : ValueForm) (v : ℕ) → v < 2 ^ 32 → suits f v ≡ true → length (value_text f v) ≤ 60
unfolding value_text corner_text corner_of
value_short form.Flag v h e = each_short form.Flag 2 refl v (omega (arith, leb-true v 1 e))
value_short form.Modifier v h e = each_short form.Modifier 6 refl v (omega (arith, leb-true v 5 e))
value_short form.Corners v h e = each_short form.Corners 16 refl v (omega (arith, leb-true v 15 e))
value_short (form.UpTo max) v h e =
    omega (arith, length-decimal-le 10 v (omega arith) (omega arith) (omega arith))
value_short form.Protocol v h e = each_short form.Protocol 2 refl v (omega (arith, leb-true v 1 e))

text_short : (o : OptionName) (v : ℕ) → suits (row_of o).form v ≡ true
    → length (option_text o v) ≤ 93
text_short o v e =
    omega (
      arith,
      length-append ((row_of o).key ++ codes " = ") (value_text (row_of o).form v),
      length-append (row_of o).key (codes " = "),
      key_short o,
      value_short (row_of o).form v (row_value_fits o v e) e,
    )

line_short : (stands : Scope → Bool) (tabs : List ℕ) (o : OptionName) (set : Option ℕ)
    → length tabs ≤ 2 → may_be stands o set ≡ true → length (line_where_set tabs o set) ≤ 100
line_short stands tabs o None h m = omega arith
line_short stands tabs o (Some v) h m =
    let may = and_parts (stands (row_of o).scope) (suits (row_of o).form v) m in
    omega (
      arith,
      length-append (tabs ++ option_text o v) (10 ∷ []),
      length-append tabs (option_text o v),
      text_short o v may.1,
    )

-- the lines of options that are set where they may
pub option_lines_short : (stands : Scope → Bool) (tabs : List ℕ) (values : Values) → length tabs ≤ 2
    → are_settings stands values ≡ true → length (option_lines tabs values) ≤ 2600
unfolding option_line
option_lines_short stands tabs values h are =
    each_within (option_line tabs values) 100 26 options
    (λ o. line_short stands tabs o (setting values o) h (each_may_be stands values are o))
    (omega arith)
