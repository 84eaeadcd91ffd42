-- The message that tells a screen's options is short.
use Rattle.std.specs.Prelude.{◌≡◌, refl, ℕ, ◌+◌, ◌*◌, ◌≤◌, List, [], ◌∷◌, length, slice_get, unwrap_or, Option, Some, None}
use Rattle.std.specs.List.{flat_map}
use Rattle.std.specs.Option.{option_map}
use Rattle.std.specs.Int.{w32, to_be_bytes}
use Rattle.std.proofs.Common.{arith, sym, ap, ◌∙◌, subst, length-append}
use Rattle.message_codec.specs.Fields.{Words, spelled, spelled_all}
use Rattle.message_codec.specs.Spelling.{body_of}
use Rattle.message_codec.specs.Table.{text, code_of, fields}
use Rattle.message_codec.specs.declared.messages.Msg.TheVariants as msg
use Rattle.wire_frames.specs.declared.limits.TheConstants.{BODY_LIMIT}
use Rattle.option_table.specs.declared.rows.OptionName.{OptionName}
use Rattle.option_table.specs.Table.{options, row_of}
use Rattle.option_table.specs.Settings.{Values, setting, own_or_all}
use Rattle.option_table.specs.Wire.{pair, sent_of, wire_words}
use Rattle.screen_config.specs.Configurations.{Configuration}
use Rattle.screen_config.specs.declared.screens.Screen.{Screen}
use Rattle.screen_config.specs.Values as values
use Rattle.screen_config.specs.Globals.{own_of, wire_options_of}
use Rattle.machine.specs.States.{State}
use Rattle.machine.specs.Information.{name_of}

pair_short : (code value : Option ℕ) → length (pair code value) ≤ 2
pair_short None value = omega arith
pair_short (Some code) None = omega arith
pair_short (Some code) (Some value) = omega arith

sent_short : (own all : Values) (o : OptionName) → length (sent_of own all o) ≤ 2
unfolding sent_of
sent_short own all o = pair_short (row_of o).code (own_or_all (setting own o) (setting all o))

all_short : (own all : Values) (os : List OptionName) → length (flat_map (sent_of own all) os) ≤ 2 * length os
all_short own all [] = omega arith
all_short own all (o ∷ os) =
    let one = sent_short own all o in
    let rest = all_short own all os in
    omega (arith, length-append (sent_of own all o) (flat_map (sent_of own all) os))

words_short : (own all : Values) → length (wire_words own all) ≤ 100
words_short own all = let e = all_short own all options in let n : length options ≤ 50 = omega arith in omega arith

four : (n : ℕ) → length (to_be_bytes w32 n) ≡ 4
four n = refl

four_each : (ns : List ℕ) → length (flat_map (to_be_bytes w32) ns) ≡ 4 * length ns
four_each [] = refl
four_each (n ∷ ns) = let rest = four_each ns in omega (arith, length-append (to_be_bytes w32 n) (flat_map (to_be_bytes w32) ns), four n)

pub options-fit : (c : Configuration) (n : ℕ) (words : List ℕ) → words ≡ wire_options_of c n → length (body_of (msg.SetOptions words)) ≤ BODY_LIMIT
options-fit c n words e =
    let short : length words ≤ 100 = subst (λ (ws : List ℕ). length ws ≤ 100) (sym e) (words_short (own_of c n) c.settings) in
    let code : length (text (code_of (msg.SetOptions words))) ≡ 4 = refl in
    let whole : length (body_of (msg.SetOptions words)) ≡ length (text (code_of (msg.SetOptions words))) + length (spelled_all (fields (msg.SetOptions words))) = length-append (text (code_of (msg.SetOptions words))) (spelled_all (fields (msg.SetOptions words))) in
    let listed : length (spelled_all (fields (msg.SetOptions words))) ≡ length (spelled (Words words)) + 0 = length-append (spelled (Words words)) [] in
    let counted : length (spelled (Words words)) ≡ length (to_be_bytes w32 (length words)) + length (flat_map (to_be_bytes w32) words) = length-append (to_be_bytes w32 (length words)) (flat_map (to_be_bytes w32) words) in
    let head : length (to_be_bytes w32 (length words)) ≡ 4 = four (length words) in
    let rest : length (flat_map (to_be_bytes w32) words) ≡ 4 * length words = four_each words in
    let all : length (body_of (msg.SetOptions words)) ≤ 408 = omega arith in
    within all
  where
    within : {n : ℕ} → n ≤ 408 → n ≤ BODY_LIMIT
    within h = omega arith

-- ---- its name

pub named-so : (c : Configuration) (s : State) (n : ℕ) (name : List ℕ) → c ≡ s.config → values.name_of c n ≡ name → name ≡ name_of s n
named-so c s n name e is = sym is ∙ (ap (λ (g : Configuration). values.name_of g n) e ∙ by (slice_get s.config.screens n))
  where
    by : (o : Option Screen) → values.name_in o ≡ unwrap_or (option_map (λ (x : Screen). x.name) o) []
    by None = refl
    by (Some x) = refl
