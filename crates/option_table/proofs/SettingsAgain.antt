-- The lines of options, taken one after another from none set, set what they were printed from.
use Rattle.std.proofs.Common.{◌≡◌, ℕ, ◌+◌, Bool, true, ◌&&◌, ◌==◌, List, [], ◌∷◌, ◌++◌, length}
use Rattle.std.proofs.Common.{Option, Some, None, refl, ap, sym, subst, ◌∙◌, append_assoc}
use Rattle.std.proofs.Common.{length-append, arith}
use Rattle.std.specs.Prelude.{replicate, slice_get, slice_set, unwrap_or}
use Rattle.std.specs.List.{list_all, flat_map}
use Rattle.std.proofs.lemmas.Bool.{and_parts, eqb-true}
use Rattle.std.proofs.lemmas.List.Concat.{flat_map-cons}
use Rattle.std.proofs.Math.Seq.{set-append_seam}
use Rattle.option_table.specs.declared.rows.OptionName.{OptionName}
use Rattle.option_table.specs.declared.rows.Scope.{Scope}
use Rattle.option_table.specs.Table.{options}
use Rattle.option_table.specs.Places.{place_of}
use Rattle.option_table.specs.Settings.{Values, none_set, setting, with_setting}
use Rattle.option_table.specs.Scopes.{may_be, are_settings}
use Rattle.option_table.specs.Printed.{option_text, line_where_set, option_line, option_lines}

-- what lines of options do to the options that are set, where each may stand: no line nothing,
-- lines one after another what each does, and an option's line sets it
pub record Sets (stands : Scope → Bool) (tabs : List ℕ) (Leads : Values → List ℕ → Values → Type 0)
    : Type 0 where
  pub none : (values : Values) → Leads values [] values
  pub both : (a b c : Values) (text more : List ℕ) → Leads a text b → Leads b more c
      → Leads a (text ++ more) c
  pub one : (values : Values) (o : OptionName) (v : ℕ) → may_be stands o (Some v) ≡ true
      → Leads values ((tabs ++ option_text o v) ++ 10 ∷ []) (with_setting values o v)

one_line : (stands : Scope → Bool) (tabs : List ℕ) (Leads : Values → List ℕ → Values → Type 0)
    → Sets stands tabs Leads → (o : OptionName) (x : Option ℕ) (done rest : Values)
    → place_of o ≡ length done → may_be stands o x ≡ true
    → Leads (done ++ None ∷ rest) (line_where_set tabs o x) (done ++ x ∷ rest)
one_line stands tabs Leads s o None done rest e m = s.none (done ++ None ∷ rest)
one_line stands tabs Leads s o (Some v) done rest e m =
    subst
    (λ (values : Values).
    Leads (done ++ None ∷ rest) ((tabs ++ option_text o v) ++ 10 ∷ []) values)
    (ap (λ (n : ℕ). slice_set (done ++ None ∷ rest) n (Some v)) e
    ∙ set-append_seam done None rest (Some v))
    (s.one (done ++ None ∷ rest) o v m)

get_seam : (done : Values) (x : Option ℕ) (rest : Values)
    → slice_get (done ++ x ∷ rest) (length done) ≡ Some x
get_seam [] x rest = refl
get_seam (d ∷ done) x rest = get_seam done x rest

line_sets : (stands : Scope → Bool) (tabs : List ℕ) (Leads : Values → List ℕ → Values → Type 0)
    → Sets stands tabs Leads
    → (values : Values) (o : OptionName) (x : Option ℕ) (done rest : Values)
    → place_of o ≡ length done → setting values o ≡ x → may_be stands o (setting values o) ≡ true
    → Leads (done ++ None ∷ rest) (option_line tabs values o) ((done ++ x ∷ []) ++ rest)
unfolding option_line
line_sets stands tabs Leads s values o x done rest place set m =
    let may : may_be stands o x ≡ true = ap (may_be stands o) (sym set) ∙ m in
    subst
    (λ (y : Option ℕ).
    Leads (done ++ None ∷ rest) (line_where_set tabs o y) ((done ++ x ∷ []) ++ rest))
    (sym set)
    (subst (λ (v : Values). Leads (done ++ None ∷ rest) (line_where_set tabs o x) v)
    (sym (append_assoc done (x ∷ []) rest))
    (one_line stands tabs Leads s o x done rest place may))

-- these options stand in the table one after another, from that place on
abbrev are_from : ℕ → List OptionName → Bool
are_from n [] = true
are_from n (o ∷ os) = (place_of o == n) && are_from (n + 1) os

from_there : (stands : Scope → Bool) (tabs : List ℕ) (Leads : Values → List ℕ → Values → Type 0)
    → Sets stands tabs Leads → (values : Values) (os : List OptionName) (done todo : Values)
    → values ≡ done ++ todo → length os ≡ length todo → are_from (length done) os ≡ true
    → list_all (λ o. may_be stands o (setting values o)) os ≡ true
    → Leads (done ++ replicate (length todo) None) (flat_map (option_line tabs values) os) values
from_there stands tabs Leads s values [] done [] e n f m =
    subst (λ (v : Values). Leads v [] values) e (s.none values)
from_there stands tabs Leads s values [] done (x ∷ todo) e n f m = absurd (omega arith)
from_there stands tabs Leads s values (o ∷ os) done [] e n f m = absurd (omega arith)
from_there stands tabs Leads s values (o ∷ os) done (x ∷ todo) e n f m =
    let places = and_parts (place_of o == length done) (are_from (length done + 1) os) f in
    let may =
    and_parts (may_be stands o (setting values o))
    (list_all (λ p. may_be stands p (setting values p)) os) m in
    let place : place_of o ≡ length done = eqb-true (place_of o) (length done) places.0 in
    let set : setting values o ≡ x =
    ap (λ (v : Values). unwrap_or (slice_get v (place_of o)) None) e
    ∙ ap (λ (k : ℕ). unwrap_or (slice_get (done ++ x ∷ todo) k) None) place
    ∙ ap (λ (g : Option (Option ℕ)). unwrap_or g None) (get_seam done x todo) in
    let next : length done + 1 ≡ length (done ++ x ∷ []) = sym (length-append done (x ∷ [])) in
    let line =
    line_sets stands tabs Leads s values o x done (replicate (length todo) None) place set may.0
    in
    let rest =
    from_there stands tabs Leads s values os (done ++ x ∷ []) todo
    (e ∙ sym (append_assoc done (x ∷ []) todo)) (omega arith)
    (ap (λ (k : ℕ). are_from k os) (sym next) ∙ places.1) may.1 in
    subst (λ (t : List ℕ). Leads (done ++ None ∷ replicate (length todo) None) t values)
    (sym (flat_map-cons (option_line tabs values) o os))
    (s.both _ ((done ++ x ∷ []) ++ replicate (length todo) None) values (option_line tabs values o)
    (flat_map (option_line tabs values) os) line rest)

-- from none set, the printed lines lead to what they were printed from
pub settings_again : (stands : Scope → Bool) (tabs : List ℕ)
    (Leads : Values → List ℕ → Values → Type 0)
    → Sets stands tabs Leads → (values : Values) → are_settings stands values ≡ true
    → Leads none_set (option_lines tabs values) values
unfolding are_settings
settings_again stands tabs Leads s values h =
    let both =
    and_parts (length values == 26) (list_all (λ o. may_be stands o (setting values o)) options)
    h in
    let count : length values ≡ 26 = eqb-true (length values) 26 both.0 in
    subst (λ (n : ℕ). Leads (replicate n None) (option_lines tabs values) values) count
    (from_there stands tabs Leads s values options [] values refl (sym count) refl both.1)
