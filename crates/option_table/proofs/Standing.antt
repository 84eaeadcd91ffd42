-- Options stay set where they may.
use Rattle.std.proofs.Common.{◌≡◌, ℕ, ◌<◌, Bool, true, ◌==◌, length, set, Some, None, refl, ap, sym}
use Rattle.std.proofs.Common.{◌∙◌, subst, inl, inr, arith}
use Rattle.std.specs.List.{list_all}
use Rattle.std.proofs.lemmas.Bool.{and_parts, and_from, eqb-true, eq-eqb, cases_eq}
use Rattle.std.proofs.lemmas.Option.{slice_get_within, unwrap_or-slice_get}
use Rattle.std.proofs.lemmas.List.{length-set, get_or-set_same, get_or-set_other}
use Rattle.share_base.proofs.ListTests.{all_at, all_where_each}
use Rattle.option_table.specs.declared.rows.OptionName.{OptionName}
use Rattle.option_table.specs.declared.rows.Scope.{Scope}
use Rattle.option_table.specs.Table.{options, row_of}
use Rattle.option_table.specs.Values.{suits}
use Rattle.option_table.specs.Places.{place_of}
use Rattle.option_table.specs.Settings.{Values, setting, none_set, with_setting}
use Rattle.option_table.specs.Scopes.{may_be, are_settings}
use Rattle.option_table.proofs.RowPlaces.{one_place, row_at_place}

pub count_of_settings : (stands : Scope → Bool) (values : Values)
    → are_settings stands values ≡ true → length values ≡ 26
unfolding are_settings
count_of_settings stands values h =
    eqb-true (length values) 26
    (and_parts (length values == 26) (list_all (λ o. may_be stands o (setting values o)) options)
    h).0

pub each_may_be : (stands : Scope → Bool) (values : Values) → are_settings stands values ≡ true
    → (o : OptionName) → may_be stands o (setting values o) ≡ true
unfolding are_settings
each_may_be stands values h o =
    all_at (λ p. may_be stands p (setting values p)) options (place_of o) o
    (and_parts (length values == 26)
    (list_all (λ p. may_be stands p (setting values p)) options) h).1
    (row_at_place o)

pub are_settings_from : (stands : Scope → Bool) (values : Values) → length values ≡ 26
    → ((o : OptionName) → may_be stands o (setting values o) ≡ true)
    → are_settings stands values ≡ true
unfolding are_settings
are_settings_from stands values e h =
    and_from (length values == 26) (list_all (λ p. may_be stands p (setting values p)) options)
    (eq-eqb (length values) 26 e)
    (all_where_each (λ p. may_be stands p (setting values p)) h options)

pub none_are_settings : (stands : Scope → Bool) → are_settings stands none_set ≡ true
unfolding are_settings
none_are_settings stands = refl

place_below : (o : OptionName) → place_of o < 26
place_below o = slice_get_within options (place_of o) o (row_at_place o)

pub set_there : (values : Values) (o : OptionName) (v : ℕ) → length values ≡ 26
    → setting (with_setting values o v) o ≡ Some v
set_there values o v e =
    let below : place_of o < length values = omega (arith, place_below o) in
    unwrap_or-slice_get (set values (place_of o) (Some v)) (place_of o) None
    ∙ get_or-set_same values (place_of o) (Some v) None below

pub set_elsewhere : (values : Values) (o p : OptionName) (v : ℕ) → (place_of p ≡ place_of o → ⊥)
    → setting (with_setting values o v) p ≡ setting values p
set_elsewhere values o p v ne =
    unwrap_or-slice_get (set values (place_of o) (Some v)) (place_of p) None
    ∙ get_or-set_other values (place_of o) (place_of p) (Some v) None ne
    ∙ sym (unwrap_or-slice_get values (place_of p) None)

-- an option is set to a value that suits it, where it may stand
pub settings_with : (stands : Scope → Bool) (values : Values) (o : OptionName) (v : ℕ)
    → stands (row_of o).scope ≡ true → suits (row_of o).form v ≡ true
    → are_settings stands values ≡ true → are_settings stands (with_setting values o v) ≡ true
settings_with stands values o v stand suit h =
    let count = count_of_settings stands values h in
    let each : (p : OptionName) → may_be stands p (setting (with_setting values o v) p) ≡ true =
    λ p.
    elim (cases_eq (place_of p) (place_of o)) [
      | inl same ↦
          subst (λ (k : OptionName). may_be stands k (setting (with_setting values o v) k) ≡ true)
          (one_place o p (sym same))
          (ap (may_be stands o) (set_there values o v count)
          ∙ and_from (stands (row_of o).scope) (suits (row_of o).form v) stand suit)
      | inr other ↦
          ap (may_be stands p) (set_elsewhere values o p v other) ∙ each_may_be stands values h p
    ] in
    are_settings_from stands (with_setting values o v)
    (length-set values (place_of o) (Some v) ∙ count) each
