-- The bytes of printed arguments.
use Rattle.std.proofs.Common.{◌≡◌, ℕ, ◌+◌, ◌/◌, ◌%◌, ◌^◌, ◌<◌, Bool, true, not, ◌&&◌, ◌||◌, ◌==◌}
use Rattle.std.proofs.Common.{List, [], ◌∷◌, ◌++◌, Some, refl, ap, sym, ◌∙◌, arith}
use Rattle.std.specs.List.{list_all, flat_map}
use Rattle.std.specs.Fmt.{decimal}
use Rattle.std.proofs.lemmas.Bool.{agree_below, agree_below_at, and_parts, cond_both}
use Rattle.std.proofs.lemmas.Bool.Decides.{nat_tests}
use Rattle.share_base.specs.declared.numbers.KeyId.{KeyId}
use Rattle.share_base.specs.declared.numbers.Mask.{Mask}
use Rattle.share_base.proofs.ListTests.{all_append}
use Rattle.modifier_map.specs.declared.class.ModClass.{ModClass}
use Rattle.text_lines.specs.declared.bytes.WordKind.TheVariants as kind
use Rattle.text_lines.specs.Bytes.{takes, is_tight}
use Rattle.text_lines.proofs.CleanWords as clean
use Rattle.text_lines.proofs.NumbersAgain.{all_digits}
use Rattle.hotkey_rules.specs.KeyNames.{NamedKey, row, named_keys, name_of_key}
use Rattle.hotkey_rules.proofs.KeyRows.{has_name}
use Rattle.hotkey_text.specs.Keys.{is_plain}
use Rattle.hotkey_text.specs.Chords.{class_word, has_class}
use Rattle.hotkey_text.specs.Printed.{digit_text, coded_text, key_text, mod_text}
use Rattle.hotkey_text.specs.RoundTrip.{is_argument_byte}
use Rattle.hotkey_text.proofs.KeysAgain.{key_text_by}
use Rattle.hotkey_text.proofs.WordsFound.{listed_passes, each_class}

-- ---- tests of bytes

-- what each byte below 127 that passes one test passes, too
pub each_byte : (p q : ℕ → Bool) → ((b : ℕ) → p b ≡ true → b < 127)
    → agree_below (λ b. not (p b) || q b) (λ b. true) 127 ≡ true → (b : ℕ) → p b ≡ true → q b ≡ true
each_byte p q below table b h =
    let either : (not (p b) || q b) ≡ true =
    agree_below_at (λ b. not (p b) || q b) (λ b. true) 127 b table (below b h) in
    sym (ap (λ (t : Bool). not t || q b) h) ∙ either

argument_below : (b : ℕ) → is_argument_byte b ≡ true → b < 127
argument_below b h = grind (arith, nat_tests)

pub argument_plain : (b : ℕ) → is_argument_byte b ≡ true → clean.is_plain b ≡ true
argument_plain = each_byte is_argument_byte clean.is_plain argument_below refl

pub argument_solid : (b : ℕ) → is_argument_byte b ≡ true → clean.is_solid b ≡ true
argument_solid = each_byte is_argument_byte clean.is_solid argument_below refl

pub argument_taken : (b : ℕ) → is_argument_byte b ≡ true → takes kind.Argument b ≡ true
argument_taken = each_byte is_argument_byte (takes kind.Argument) argument_below refl

pub choice_taken : (b : ℕ) → is_argument_byte b ≡ true → takes kind.Choice b ≡ true
choice_taken = each_byte is_argument_byte (takes kind.Choice) argument_below refl

-- the last word of keys or buttons of the mouse holds no +
abbrev pub is_chord_byte : ℕ → Bool
is_chord_byte b = is_argument_byte b && not (b == 43)

pub chord_argument : (b : ℕ) → is_chord_byte b ≡ true → is_argument_byte b ≡ true
chord_argument b h = (and_parts (is_argument_byte b) (not (b == 43)) h).0

chord_below : (b : ℕ) → is_chord_byte b ≡ true → b < 127
chord_below b h = argument_below b (chord_argument b h)

pub chord_taken : (b : ℕ) → is_chord_byte b ≡ true → takes kind.Chord b ≡ true
chord_taken = each_byte is_chord_byte (takes kind.Chord) chord_below refl

-- ---- a printed key

name_chord : (id : KeyId) (name : List ℕ) → name_of_key id ≡ Some name
    → list_all is_chord_byte name ≡ true
unfolding named_keys
name_chord id name e =
    listed_passes (λ (k : NamedKey). list_all is_chord_byte k.name) named_keys (row name id.0) refl
    (has_name id name e)

pub plain_below : (b : ℕ) → is_plain b ≡ true → b < 127
plain_below b h = grind (arith, nat_tests)

plain_chord : (b : ℕ) → is_plain b ≡ true → is_chord_byte b ≡ true
plain_chord = each_byte is_plain is_chord_byte plain_below refl

digit_chord : (d : ℕ) → d < 16 → is_chord_byte (digit_text d) ≡ true
digit_chord d h = agree_below_at (λ d. is_chord_byte (digit_text d)) (λ d. true) 16 d refl h

coded_chord : (n : ℕ) → n < 65536 → list_all is_chord_byte (coded_text n) ≡ true
coded_chord n h =
    rw (
      digit_chord (n / 4096) (omega arith),
      digit_chord (n / 256 % 16) (omega arith),
      digit_chord (n / 16 % 16) (omega arith),
      digit_chord (n % 16) (omega arith),
    )
    refl

pub key_chord : (id : KeyId) → id.0 < 65536 → list_all is_chord_byte (key_text id) ≡ true
key_chord id h =
    key_text_by (λ t. list_all is_chord_byte t ≡ true) id (name_chord id)
    (λ p. rw (plain_chord id.0 p) refl) (coded_chord id.0 h)

-- ---- a printed number

pub number_bytes : (n : ℕ) → n < 2 ^ 64 → list_all is_chord_byte (decimal n) ≡ true
number_bytes n h =
    all_digits is_chord_byte
    (λ d k. agree_below_at (λ d. is_chord_byte (48 + d)) (λ d. true) 10 d refl k) n h

-- ---- printed modifiers

class_bytes : (c : ModClass) → list_all is_argument_byte (class_word c ++ 43 ∷ []) ≡ true
class_bytes = each_class (λ c. list_all is_argument_byte (class_word c ++ 43 ∷ [])) refl

pub mods_bytes : (mods : Mask) (cs : List ModClass)
    → list_all is_argument_byte (flat_map (mod_text mods) cs) ≡ true
unfolding mod_text
mods_bytes mods [] = refl
mods_bytes mods (c ∷ cs) =
    all_append is_argument_byte (mod_text mods c) (flat_map (mod_text mods) cs)
    (cond_both (has_class mods c) (class_word c ++ 43 ∷ []) []
    (λ t. list_all is_argument_byte t ≡ true) (λ h. class_bytes c) (λ h. refl))
    (mods_bytes mods cs)

-- no blank stands in front of it
pub argument_tight : (xs : List ℕ) → list_all is_argument_byte xs ≡ true → is_tight xs ≡ true
argument_tight [] h = refl
argument_tight (b ∷ bs) h =
    argument_solid b (and_parts (is_argument_byte b) (list_all is_argument_byte bs) h).0
