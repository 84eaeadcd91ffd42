-- Printed modifiers, and the key or the number behind them, are spelled so, and are read again.
use Rattle.std.proofs.Common.{◌≡◌, ℕ, ◌<◌, ◌≤◌, Bool, true, false, not, cond, ◌&&◌, ◌==◌, List, []}
use Rattle.std.proofs.Common.{◌∷◌, ◌++◌, Ok, refl, ap, sym, subst, append_assoc, nat_lt, arith}
use Rattle.std.specs.Prelude.{codes}
use Rattle.std.specs.List.{list_all, flat_map, filter}
use Rattle.std.specs.Fmt.{decimal}
use Rattle.std.proofs.lemmas.Bool.{agree_below_at, and_parts, cond_both, eqb-true, ltb-true}
use Rattle.std.proofs.lemmas.Bool.Decides.{nat_tests}
use Rattle.share_base.specs.declared.numbers.KeyId.{KeyId}
use Rattle.share_base.specs.declared.numbers.Mask.{Mask}
use Rattle.share_base.specs.declared.numbers.MouseButton.{MouseButton}
use Rattle.share_base.proofs.ListTests.{all_weaker, all_append}
use Rattle.modifier_map.specs.declared.class.ModClass.{ModClass}
use Rattle.modifier_map.specs.Table.{all_classes}
use Rattle.text_lines.specs.declared.bytes.WordKind.TheVariants as kind
use Rattle.text_lines.specs.Bytes.{takes}
use Rattle.hotkey_text.specs.Chords.{mask, class_word, has_class, key_chord_at, mouse_chord_at}
use Rattle.hotkey_text.specs.Printed.{key_text, mod_text, mods_text, key_chord_text}
use Rattle.hotkey_text.specs.Printed.{mouse_chord_text}
use Rattle.hotkey_rules.specs.WellFormed.{is_key, are_mods, is_mouse_button, is_key_chord}
use Rattle.hotkey_rules.specs.WellFormed.{is_mouse_chord, is_modifier_key}
use Rattle.hotkey_text.specs.RoundTrip.{is_argument_byte}
use Rattle.hotkey_text.specs.SpellingWords.{SpellsLast, SpellsMods, IsNone, AreApart, bits_of}
use Rattle.hotkey_text.specs.SpellingWords.{SpellsKeyChord, SpellsMouseChord}
use Rattle.hotkey_text.proofs.ArgumentBytes.{is_chord_byte, chord_argument, chord_taken, mods_bytes}
use Rattle.hotkey_text.proofs.ArgumentBytes.{key_chord, number_bytes}
use Rattle.hotkey_text.proofs.KeysAgain.{key_again}
use Rattle.hotkey_text.proofs.SpelledChords.{MayBe, may_be, key_word_some, key_chord_read}
use Rattle.hotkey_text.proofs.SpelledChords.{mouse_chord_read}
use Rattle.hotkey_text.proofs.SpelledMods.{class_called}
use Rattle.hotkey_text.proofs.WordsFound.{class_found}

-- ---- modifiers

mods_spelled : (mods : Mask) (cs : List ModClass) (rest : List ℕ)
    → SpellsMods (flat_map (mod_text mods) cs ++ rest) (filter (has_class mods) cs) rest
unfolding mod_text
mods_spelled mods [] rest = refl
mods_spelled mods (c ∷ cs) rest =
    spelled_by (has_class mods c) (flat_map (mod_text mods) cs) (filter (has_class mods) cs)
    (mods_spelled mods cs rest) where
      spelled_by : (t : Bool) (others : List ℕ) (ds : List ModClass)
          → SpellsMods (others ++ rest) ds rest
          → SpellsMods ((cond t (class_word c ++ codes "+") [] ++ others) ++ rest) (cond t (c ∷ ds) ds)
          rest
      spelled_by true others ds s = (
        others ++ rest,
        record {
          word = class_word c;
          behind_sign = [];
          names = class_called (class_word c) c (class_found c);
          text = record { behind_word = []; text = simp append_assoc; gap = refl };
          gap = refl;
        },
        s,
      )
      spelled_by false others ds s = s

none_kept : (p : ModClass → Bool) (c : ModClass) (cs : List ModClass) → IsNone c cs
    → IsNone c (filter p cs)
none_kept p c [] h = tt
none_kept p c (d ∷ cs) h =
    let k = none_kept p c cs h.1 in
    cond_both (p d) (d ∷ filter p cs) (filter p cs) (IsNone c) (λ e. (h.0, k)) (λ e. k)

apart_kept : (p : ModClass → Bool) (cs : List ModClass) → AreApart cs → AreApart (filter p cs)
apart_kept p [] h = tt
apart_kept p (c ∷ cs) h =
    let k = apart_kept p cs h.1 in
    cond_both (p c) (c ∷ filter p cs) (filter p cs) AreApart (λ e. (none_kept p c cs h.0, k))
    (λ e. k)

all_apart : AreApart all_classes
all_apart = (
  (λ e. cc, (λ e. cc, (λ e. cc, (λ e. cc, tt)))),
  (
    (λ e. cc, (λ e. cc, (λ e. cc, tt))),
    ((λ e. cc, (λ e. cc, tt)), ((λ e. cc, tt), (tt, tt))),
  ),
)

-- the classes of a mask, and a word behind them
record Chord (mods : Mask) (word rest : List ℕ) : Type 0 where
  classes : List ModClass
  spelled : SpellsMods ((mods_text mods ++ word) ++ 41 ∷ rest) classes (word ++ 41 ∷ rest)
  apart : AreApart classes
  bits : mods ≡ mask (bits_of classes)
  last : SpellsLast (word ++ 41 ∷ rest) word

chord_of : (mods : Mask) (word rest : List ℕ) → mods.0 < 32 → Chord mods word rest
unfolding mods_text
chord_of mods word rest h = record {
  classes = filter (has_class mods) all_classes;
  spelled =
      subst
      (λ (xs : List ℕ). SpellsMods xs (filter (has_class mods) all_classes) (word ++ 41 ∷ rest))
      (sym (append_assoc (mods_text mods) word (41 ∷ rest)))
      (mods_spelled mods all_classes (word ++ 41 ∷ rest));
  apart = apart_kept (has_class mods) all_classes all_apart;
  bits =
      ap mask
      (eqb-true _ _
      (agree_below_at (λ n. n == bits_of (filter (has_class (mask n)) all_classes)) (λ n. true)
      32 mods.0 refl h));
  last = (rest, record { behind_word = []; text = refl; gap = refl });
}

chord_bytes : (mods : Mask) (word : List ℕ) → list_all is_chord_byte word ≡ true
    → list_all is_argument_byte (mods_text mods ++ word) ≡ true
unfolding mods_text
chord_bytes mods word h =
    all_append is_argument_byte (mods_text mods) word (mods_bytes mods all_classes)
    (all_weaker is_chord_byte is_argument_byte chord_argument word h)

-- ---- a key

key_within : (id : KeyId) → is_key id ≡ true → (0 < id.0) × (id.0 < 65536)
key_within id h = (grind (arith, nat_tests), grind (arith, nat_tests))

pub key_chord_spelled : (modifiers : Bool) (id : KeyId) (mods : Mask) (rest : List ℕ)
    → is_key_chord id mods ≡ true → MayBe modifiers id
    → SpellsKeyChord modifiers (key_chord_text id mods ++ 41 ∷ rest)
    (record { id = id; mods = mods })
key_chord_spelled modifiers id mods rest h m =
    let parts = and_parts (is_key id) (are_mods mods) h in
    let within = key_within id parts.0 in
    let chord = chord_of mods (key_text id) rest (ltb-true mods.0 32 parts.1) in
    let key = key_again id within.0 within.1 in
    record {
      classes = chord.classes;
      here = key_text id ++ 41 ∷ rest;
      word = key_text id;
      mods = chord.spelled;
      apart = chord.apart;
      bits = chord.bits;
      last = chord.last;
      run = (
        key_word_some (key_text id) id key,
        all_weaker is_chord_byte (takes kind.Chord) chord_taken (key_text id)
            (key_chord id within.1),
      );
      key = key;
      may_be = m;
    }

pub key_chord_again : (modifiers : Bool) (id : KeyId) (mods : Mask) (rest : List ℕ)
    → is_key_chord id mods ≡ true → (not modifiers && is_modifier_key id) ≡ false
    → key_chord_at modifiers (key_chord_text id mods ++ 41 ∷ rest)
    ≡ Ok (record { id = id; mods = mods })
key_chord_again modifiers id mods rest h free =
    key_chord_read modifiers (key_chord_text id mods ++ 41 ∷ rest) (record { id = id; mods = mods })
    (key_chord_spelled modifiers id mods rest h (may_be modifiers id free))

pub key_chord_bytes : (id : KeyId) (mods : Mask) → is_key_chord id mods ≡ true
    → list_all is_argument_byte (key_chord_text id mods) ≡ true
key_chord_bytes id mods h =
    chord_bytes mods (key_text id)
    (key_chord id (key_within id (and_parts (is_key id) (are_mods mods) h).0).1)

-- ---- a button of the mouse

button_within : (b : MouseButton) → is_mouse_button b ≡ true → (1 ≤ b.0) × (b.0 ≤ 255)
button_within b h =
    let e = and_parts (nat_lt 0 b.0) (nat_lt b.0 256) h in
    (ltb-true 0 b.0 e.0, omega (arith, ltb-true b.0 256 e.1))

pub mouse_chord_spelled : (b : MouseButton) (mods : Mask) (rest : List ℕ)
    → is_mouse_chord b mods ≡ true
    → SpellsMouseChord (mouse_chord_text b mods ++ 41 ∷ rest) (record { b = b; mods = mods })
mouse_chord_spelled b mods rest h =
    let parts = and_parts (is_mouse_button b) (are_mods mods) h in
    let chord = chord_of mods (decimal b.0) rest (ltb-true mods.0 32 parts.1) in
    record {
      classes = chord.classes;
      here = decimal b.0 ++ 41 ∷ rest;
      mods = chord.spelled;
      apart = chord.apart;
      bits = chord.bits;
      last = chord.last;
      number = button_within b parts.0;
    }

pub mouse_chord_again : (b : MouseButton) (mods : Mask) (rest : List ℕ)
    → is_mouse_chord b mods ≡ true
    → mouse_chord_at (mouse_chord_text b mods ++ 41 ∷ rest) ≡ Ok (record { b = b; mods = mods })
mouse_chord_again b mods rest h =
    mouse_chord_read (mouse_chord_text b mods ++ 41 ∷ rest) (record { b = b; mods = mods })
    (mouse_chord_spelled b mods rest h)

pub mouse_chord_bytes : (b : MouseButton) (mods : Mask) → is_mouse_chord b mods ≡ true
    → list_all is_argument_byte (mouse_chord_text b mods) ≡ true
mouse_chord_bytes b mods h =
    chord_bytes mods (decimal b.0)
    (number_bytes b.0
    (omega
    (arith, (button_within b (and_parts (is_mouse_button b) (are_mods mods) h).0).1)))
