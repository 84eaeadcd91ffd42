-- A key or a button with its modifiers is read exactly where it is spelled.
use Rattle.std.proofs.Common.{◌≡◌, ℕ, ◌<◌, ◌≤◌, Bool, true, false, not, ◌&&◌, ◌==◌, List, [], ◌∷◌}
use Rattle.std.proofs.Common.{◌++◌, length, Option, Some, None, Result, Ok, refl, ap, sym, subst}
use Rattle.std.proofs.Common.{◌∙◌, inl, inr, ◌⊎◌, arith}
use Rattle.std.specs.Fmt.{decimal}
use Rattle.std.proofs.lemmas.Bool.{cond_both, eqb-false, ne_eqb}
use Rattle.std.proofs.lemmas.Fmt.{decimal_nonempty}
use Rattle.share_base.specs.Names.{same_name}
use Rattle.share_base.specs.declared.numbers.KeyId.{KeyId}
use Rattle.share_base.specs.declared.numbers.Mask.{Mask}
use Rattle.share_base.specs.declared.numbers.MouseButton.{MouseButton}
use Rattle.share_base.proofs.ListTests.{all_weaker}
use Rattle.modifier_map.specs.declared.class.ModClass.{ModClass}
use Rattle.text_lines.specs.declared.bytes.WordKind.TheVariants as word_kind
use Rattle.text_lines.specs.Bytes.{takes, is_tight}
use Rattle.text_lines.specs.Numbers.{decimal_of}
use Rattle.text_lines.specs.Reading.{◌>>=◌, Text, run_at, maybe_sign_at}
use Rattle.text_lines.specs.Spelling.{IsWord}
use Rattle.text_lines.proofs.SpelledWords.{word_tight, run_takes, text_of}
use Rattle.text_lines.proofs.NumbersAgain.{decimal_again}
use Rattle.text_lines.proofs.DecimalsSpelled.{decimal_spelled, decimal_within}
use Rattle.hotkey_rules.specs.KeyNames.{named_keys, key_of_name}
use Rattle.hotkey_text.specs.declared.chords.KeyChord.{KeyChord}
use Rattle.hotkey_text.specs.declared.chords.MouseChord.{MouseChord}
use Rattle.hotkey_text.specs.declared.faults.HotkeyFault.{HotkeyFault}
use Rattle.hotkey_text.specs.declared.faults.HotkeyKind.TheVariants as kind
use Rattle.hotkey_text.specs.Faults.{or_fault}
use Rattle.hotkey_text.specs.Keys.{key_named}
use Rattle.hotkey_rules.specs.WellFormed.{is_modifier_key}
use Rattle.hotkey_text.specs.Chords.{mask, closed_at, allowed, key_chord_at, button_of}
use Rattle.hotkey_text.specs.Chords.{mouse_chord_at}
use Rattle.hotkey_text.specs.SpellingWords.{SpellsMods, SpellsLast, AreApart, bits_of}
use Rattle.hotkey_text.specs.SpellingWords.{SpellsKeyChord, SpellsMouseChord}
use Rattle.hotkey_text.proofs.ArgumentBytes.{is_chord_byte, chord_taken, number_bytes}
use Rattle.hotkey_text.proofs.WordSteps.{last_made, word_read}
use Rattle.hotkey_text.proofs.WordSteps.{went, there}
use Rattle.hotkey_text.proofs.ModTurns.{by_turns, in_turns}
use Rattle.hotkey_text.proofs.SpelledMods.{mods_take, mods_again}

-- ---- modifiers and a last word

abbrev chord_run : List ℕ → Text × List ℕ
chord_run xs = run_at (takes word_kind.Chord) xs

-- the last word, and what stands from its ) on
record LastRead (here word : List ℕ) (rest : List ℕ) : Type 0 where
  run : chord_run here ≡ (text_of word (length here), 41 ∷ rest)
  tight : is_tight here ≡ true
  last : maybe_sign_at 43 (chord_run here).1 ≡ None

last_read : (here word : List ℕ) (w : SpellsLast here word) → IsWord (takes word_kind.Chord) word
    → LastRead here word w.0
unfolding maybe_sign_at
last_read here word w is =
    let run = word_read word_kind.Chord refl here word (41 ∷ w.0) w.1 is.1 refl refl in
    record {
      run = run;
      tight =
          ap is_tight w.1.text
          ∙ word_tight word_kind.Chord refl word (w.1.behind_word ++ 41 ∷ w.0) is;
      last = ap (λ (r : Text × List ℕ). maybe_sign_at 43 r.1) run;
    }

-- a chord is read by its modifiers, and then by its last word
chord_by : {A : Type 0} (f : Mask → Text × List ℕ → Result A HotkeyFault) (xs : List ℕ)
    (cs : List ModClass) (here word : List ℕ) (w : SpellsLast here word)
    → IsWord (takes word_kind.Chord) word
    → SpellsMods xs cs here → AreApart cs
    → (in_turns xs >>= λ mods. f mods.0 (chord_run mods.1))
    ≡ f (mask (bits_of cs)) (text_of word (length here), 41 ∷ w.0)
chord_by f xs cs here word w is mods apart =
    let last = last_read here word w is in
    ap (λ (r : Result (Mask × List ℕ) HotkeyFault). r >>= λ mods. f mods.0 (chord_run mods.1))
    (mods_again xs cs here last.tight last.last mods apart)
    ∙ ap (f (mask (bits_of cs))) last.run

-- ---- a key

-- no word spells no key
no_key : key_named [] ≡ None
unfolding key_named key_of_name named_keys same_name
no_key = refl

pub key_word_some : (word : List ℕ) (id : KeyId) → key_named word ≡ Some id → 0 < length word
key_word_some [] id e = let none = no_key in absurd cc
key_word_some (b ∷ bs) id e = omega arith

abbrev pub MayBe : Bool → KeyId → Type 0
MayBe modifiers id = (modifiers ≡ true) ⊎ (is_modifier_key id ≡ false)

pub may_be : (modifiers : Bool) (id : KeyId) → (not modifiers && is_modifier_key id) ≡ false
    → MayBe modifiers id
may_be true id e = inl refl
may_be false id e = inr e

may_be_again : (modifiers : Bool) (id : KeyId) → MayBe modifiers id
    → (not modifiers && is_modifier_key id) ≡ false
may_be_again true id m = refl
may_be_again false id (inl e) = absurd cc
may_be_again false id (inr e) = e

allowed_takes : (modifiers : Bool) (o : Option KeyId) (id : KeyId) → allowed modifiers o ≡ Some id
    → (o ≡ Some id) × MayBe modifiers id
allowed_takes modifiers None id = λ e. absurd cc
allowed_takes modifiers (Some k) id =
    cond_both (not modifiers && is_modifier_key k) None (Some k)
    (λ r. r ≡ Some id → (Some k ≡ Some id) × MayBe modifiers id) (λ t e. absurd cc)
    (λ t e. let same : k ≡ id = cc in (e, subst (MayBe modifiers) same (may_be modifiers k t)))

abbrev key_from : Bool → Mask → Text × List ℕ → Result KeyChord HotkeyFault
key_from modifiers mods word =
    or_fault (allowed modifiers (key_named word.0.text)) kind.UnknownKey word.0.left
    >>= λ id. closed_at word.1 >>= λ u. Ok (record { id = id; mods = mods })

pub key_chord_takes : (modifiers : Bool) (xs : List ℕ) (chord : KeyChord)
    → key_chord_at modifiers xs ≡ Ok chord → SpellsKeyChord modifiers xs chord
unfolding key_chord_at
key_chord_takes modifiers xs chord e =
    let mods = went (in_turns xs) _ chord (sym (by_turns (key_from modifiers) xs) ∙ e) in
    let word = chord_run mods.0.1 in
    let id =
    went (or_fault (allowed modifiers (key_named word.0.text)) _ word.0.left) _ chord mods.2 in
    let close = went (closed_at word.1) _ chord id.2 in
    let key = allowed_takes modifiers (key_named word.0.text) id.0 (there _ _ _ id.0 id.1) in
    let given : KeyChord = record { id = id.0; mods = mods.0.0 } in
    let same : given ≡ chord = cc in
    let m = mods_take xs mods.0 mods.1 in
    subst (SpellsKeyChord modifiers xs) same
    (record {
      classes = m.classes;
      here = mods.0.1;
      word = word.0.text;
      mods = m.mods;
      apart = m.apart;
      bits = m.bits;
      last = last_made (takes word_kind.Chord) mods.0.1 close.0 close.1;
      run =
          (key_word_some word.0.text id.0 key.0, (run_takes (takes word_kind.Chord) mods.0.1).run);
      key = key.0;
      may_be = key.1;
    })

pub key_chord_read : (modifiers : Bool) (xs : List ℕ) (chord : KeyChord)
    → SpellsKeyChord modifiers xs chord → key_chord_at modifiers xs ≡ Ok chord
unfolding key_chord_at
key_chord_read modifiers xs chord s =
    let bits : mask (bits_of s.classes) ≡ chord.mods = sym s.bits in
    let free = may_be_again modifiers chord.id s.may_be in
    let key : key_named s.word ≡ Some chord.id = s.key in
    by_turns (key_from modifiers) xs
    ∙ chord_by (key_from modifiers) xs s.classes s.here s.word s.last s.run s.mods s.apart
    ∙ ap (λ (m : Mask). key_from modifiers m (text_of s.word (length s.here), 41 ∷ s.last.0)) bits
    ∙ rw (key, free) refl

-- ---- a button of the mouse

abbrev button_at : ℕ → MouseButton
button_at n = record { 0 = n }

-- the number of a button
record Number (word : List ℕ) (b : MouseButton) : Type 0 where
  text : word ≡ decimal b.0
  within : (1 ≤ b.0) × (b.0 ≤ 255)

number_of : (word : List ℕ) (o : Option ℕ) (b : MouseButton) → decimal_of 255 word ≡ o
    → button_of o ≡ Some b → Number word b
number_of word None b h = λ e. absurd cc
number_of word (Some n) b h =
    cond_both (n == 0) None (Some (button_at n)) (λ r. r ≡ Some b → Number word b)
    (λ t e. absurd cc) (λ t e.
    let same : button_at n ≡ b = cc in
    let some : 1 ≤ n = omega (arith, eqb-false n 0 t) in
    subst (Number word) same
    (record {
      text = decimal_spelled 255 n word (omega arith) h;
      within = (some, decimal_within 255 n word h);
    }))

abbrev button_from : Mask → Text × List ℕ → Result MouseChord HotkeyFault
button_from mods word =
    or_fault (button_of (decimal_of 255 word.0.text)) kind.BadValue word.0.left
    >>= λ b. closed_at word.1 >>= λ u. Ok (record { b = b; mods = mods })

pub mouse_chord_takes : (xs : List ℕ) (chord : MouseChord) → mouse_chord_at xs ≡ Ok chord
    → SpellsMouseChord xs chord
unfolding mouse_chord_at
mouse_chord_takes xs chord e =
    let mods = went (in_turns xs) _ chord (sym (by_turns button_from xs) ∙ e) in
    let word = chord_run mods.0.1 in
    let b = went (or_fault (button_of (decimal_of 255 word.0.text)) _ word.0.left) _ chord mods.2 in
    let close = went (closed_at word.1) _ chord b.2 in
    let number =
    number_of word.0.text (decimal_of 255 word.0.text) b.0 refl (there _ _ _ b.0 b.1) in
    let given : MouseChord = record { b = b.0; mods = mods.0.0 } in
    let same : given ≡ chord = cc in
    let m = mods_take xs mods.0 mods.1 in
    subst (SpellsMouseChord xs) same
    (record {
      classes = m.classes;
      here = mods.0.1;
      mods = m.mods;
      apart = m.apart;
      bits = m.bits;
      last =
          subst (SpellsLast mods.0.1) number.text
          (last_made (takes word_kind.Chord) mods.0.1 close.0 close.1);
      number = number.within;
    })

number_word : (n : ℕ) → n ≤ 255 → IsWord (takes word_kind.Chord) (decimal n)
number_word n h = (
  decimal_nonempty n (omega arith),
  all_weaker is_chord_byte (takes word_kind.Chord) chord_taken (decimal n)
      (number_bytes n (omega arith)),
)

pub mouse_chord_read : (xs : List ℕ) (chord : MouseChord) → SpellsMouseChord xs chord
    → mouse_chord_at xs ≡ Ok chord
unfolding mouse_chord_at
mouse_chord_read xs chord s =
    let n = chord.b.0 in
    let bits : mask (bits_of s.classes) ≡ chord.mods = sym s.bits in
    let number : decimal_of 255 (decimal n) ≡ Some n =
    decimal_again 255 n (omega (arith, s.number.1)) s.number.1 in
    let some : (n == 0) ≡ false = ne_eqb n 0 (λ e. absurd (omega (arith, s.number.0))) in
    by_turns button_from xs
    ∙ chord_by button_from xs s.classes s.here (decimal n) s.last (number_word n s.number.1) s.mods
    s.apart
    ∙ ap (λ (m : Mask). button_from m (text_of (decimal n) (length s.here), 41 ∷ s.last.0)) bits
    ∙ rw (number, some) refl
