-- The values of an option, as numbers, and how a text spells them.
use Rattle.std.specs.Prelude.{ℕ, Bool, nat_le, List, [], ◌∷◌, Option, codes}
use Rattle.std.specs.List.{position}
use Rattle.std.specs.Str.{bytes_eq}
use Rattle.text_lines.specs.Numbers.{decimal_of}
use Rattle.option_table.specs.declared.rows.ValueForm.{ValueForm}
use Rattle.option_table.specs.declared.rows.ValueForm.TheVariants as form
use Rattle.option_table.specs.Corners.{corners_of_text}

-- the words of a form, in the order of their values, from 0
abbrev pub words_of_form : ValueForm → List (List ℕ)
words_of_form form.Flag = codes "false" ∷ codes "true" ∷ []
words_of_form form.Modifier =
    codes "none" ∷ codes "shift" ∷ codes "ctrl" ∷ codes "alt" ∷ codes "meta" ∷ codes "super" ∷ []
words_of_form form.Corners = []
words_of_form (form.UpTo max) = []
words_of_form form.Protocol = codes "synergy" ∷ codes "barrier" ∷ []

-- the value whose word the text is
unfoldable pub word_value : ValueForm → List ℕ → Option ℕ
word_value f text = position (λ w. bytes_eq w text) (words_of_form f)

-- the value that a text spells in that form
unfoldable pub value_of : ValueForm → List ℕ → Option ℕ
value_of form.Flag text = word_value form.Flag text
value_of form.Modifier text = word_value form.Modifier text
value_of form.Corners text = corners_of_text text
value_of (form.UpTo max) text = decimal_of max text
value_of form.Protocol text = word_value form.Protocol text

-- it is a value of that form
abbrev pub suits : ValueForm → ℕ → Bool
suits form.Flag v = nat_le v 1
suits form.Modifier v = nat_le v 5
suits form.Corners v = nat_le v 15
suits (form.UpTo max) v = nat_le v max
suits form.Protocol v = nat_le v 1
