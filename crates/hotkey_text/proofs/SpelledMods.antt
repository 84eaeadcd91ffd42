-- Modifiers are read exactly where they are spelled, each once.
use Rattle.std.proofs.Common.{◌≡◌, ℕ, zero, suc, ◌+◌, ◌<◌, ◌≤◌, true, false, List, [], ◌∷◌, ◌++◌}
use Rattle.std.proofs.Common.{length, map, Option, Some, None, Ok, refl, ap, sym, subst, ◌∙◌, inl}
use Rattle.std.proofs.Common.{inr, add-zero, add_assoc, nat_lt, arith}
use Rattle.std.specs.List.{find, list_all}
use Rattle.std.specs.Char.{to_ascii_lowercase}
use Rattle.std.specs.Str.{bytes_eq}
use Rattle.std.proofs.lemmas.Bool.{agree_below_at, cases_lt, le-ltb, ltb-true, and_parts, and_from}
use Rattle.std.proofs.lemmas.List.{length-map}
use Rattle.std.proofs.lemmas.Slice.Eq.{bytes_eq-Decides}
use Rattle.share_base.specs.Names.{same_name}
use Rattle.share_base.specs.declared.numbers.Mask.{Mask}
use Rattle.modifier_map.specs.declared.class.ModClass.{ModClass}
use Rattle.modifier_map.specs.Table.{row, all_classes}
use Rattle.text_lines.specs.declared.bytes.WordKind.TheVariants as kind
use Rattle.text_lines.specs.Bytes.{takes, is_tight}
use Rattle.text_lines.specs.Reading.{Text, run_at, maybe_sign_at}
use Rattle.text_lines.specs.Spelling.{IsRun, IsWord}
use Rattle.text_lines.proofs.SpelledWords.{word_tight, text_of}
use Rattle.text_lines.proofs.MaybeSigns.{maybe_sign_takes, maybe_sign_again}
use Rattle.hotkey_rules.proofs.FirstFound.{found_listed}
use Rattle.hotkey_text.specs.Chords.{mask, class_word, class_named, has_class, with_modifier}
use Rattle.hotkey_text.specs.SpellingWords.{SpellsMod, SpellsMods, AreApart, bits_of}
use Rattle.hotkey_text.proofs.WordSteps.{word_made, word_read}
use Rattle.hotkey_text.proofs.WordSteps.{went}
use Rattle.hotkey_text.proofs.ModSteps.{last_word, one_modifier}
use Rattle.hotkey_text.proofs.ModTurns.{Turn, or_last_word, mods_within, in_turns}
use Rattle.hotkey_text.proofs.NewClasses.{new_class, next_fewer}
use Rattle.hotkey_text.proofs.FreeClasses.{grown, free, AreNew, all_new, grown_small, new_adds}
use Rattle.hotkey_text.proofs.FreeClasses.{new_takes_one, new_before, new_behind}
use Rattle.hotkey_text.proofs.WordsFound.{class_found, each_class}

-- ---- names of classes

abbrev lower : List ℕ → List ℕ
lower word = map to_ascii_lowercase word

pub class_called : (word : List ℕ) (c : ModClass) → class_named word ≡ Some c
    → same_name (class_word c) word ≡ true
unfolding class_named
class_called word c h = (found_listed (λ c. same_name (class_word c) word) all_classes c h).1

same_letters : (a b : List ℕ) → same_name a b ≡ true → lower a ≡ lower b
unfolding same_name
same_letters a b h = (bytes_eq-Decides (lower a) (lower b)).0 h

-- a name is looked up by its small letters alone
by_letters : (a b : List ℕ) → lower a ≡ lower b → class_named a ≡ class_named b
unfolding class_named same_name
by_letters a b e = ap (λ (t : List ℕ). find (λ c. bytes_eq (lower (class_word c)) t) all_classes) e

pub called_class : (word : List ℕ) (c : ModClass) → same_name (class_word c) word ≡ true
    → class_named word ≡ Some c
called_class word c h =
    sym (by_letters (class_word c) word (same_letters (class_word c) word h)) ∙ class_found c

-- ---- their bytes

large_same : (b : ℕ) → 91 ≤ b → to_ascii_lowercase b ≡ b
large_same b h = rw (le-ltb b 65 (omega arith), le-ltb b 91 h) refl

small_taken : (b : ℕ) → takes kind.Chord (to_ascii_lowercase b) ≡ takes kind.Chord b
small_taken b =
    elim (cases_lt b 91) [
      | inl h ↦
          agree_below_at (λ b. takes kind.Chord (to_ascii_lowercase b)) (takes kind.Chord) 91 b refl
          h
      | inr h ↦ ap (takes kind.Chord) (large_same b h)
    ]

all_small : (word : List ℕ) → IsRun (takes kind.Chord) (lower word) → IsRun (takes kind.Chord) word
all_small [] h = refl
all_small (b ∷ bs) h =
    let e =
    and_parts (takes kind.Chord (to_ascii_lowercase b)) (list_all (takes kind.Chord) (lower bs))
    h in
    and_from (takes kind.Chord b) (list_all (takes kind.Chord) bs) (sym (small_taken b) ∙ e.0)
    (all_small bs e.1)

class_bytes : (c : ModClass) → IsWord (takes kind.Chord) (lower (class_word c))
class_bytes c = (
  ltb-true 0 _ (each_class (λ c. nat_lt 0 (length (lower (class_word c)))) refl c),
  each_class (λ c. list_all (takes kind.Chord) (lower (class_word c))) refl c,
)

called_bytes : (word : List ℕ) (c : ModClass) → same_name (class_word c) word ≡ true
    → IsWord (takes kind.Chord) word
called_bytes word c h =
    let small : IsWord (takes kind.Chord) (lower word) =
    subst (IsWord (takes kind.Chord)) (same_letters (class_word c) word h) (class_bytes c) in
    (omega (arith, small.0, length-map word to_ascii_lowercase), all_small word small.1)

-- ---- what was read is spelled

record ReadMods (m : Mask) (xs : List ℕ) (out : Mask × List ℕ) : Type 0 where
  classes : List ModClass
  mods : SpellsMods xs classes out.1
  apart : AreApart classes
  new : AreNew m classes
  bits : out.0.0 ≡ m.0 + bits_of classes

no_mods : (m : Mask) (xs : List ℕ) → ReadMods m xs (m, xs)
no_mods m xs = record { classes = []; mods = refl; apart = tt; new = tt; bits = omega arith }

abbrev chord_run : List ℕ → Text × List ℕ
chord_run xs = run_at (takes kind.Chord) xs

mod_made : (xs : List ℕ) (c : ModClass) (rest : List ℕ) → class_named (chord_run xs).0.text ≡ Some c
    → maybe_sign_at 43 (chord_run xs).1 ≡ Some rest → SpellsMod xs c rest
mod_made xs c rest named e =
    let sign = maybe_sign_takes 43 (chord_run xs).1 rest e in
    record {
      word = (chord_run xs).0.text;
      behind_sign = sign.gap.gap;
      names = class_called (chord_run xs).0.text c named;
      text =
          word_made (takes kind.Chord) xs (43 ∷ (sign.gap.gap ++ rest))
          (sign.parts ∙ ap (λ (t : List ℕ). 43 ∷ t) sign.gap.parts);
      gap = sign.gap.blank;
    }

more_made : (m : Mask) (xs : List ℕ) (out : Mask × List ℕ) (c : ModClass) (rest : List ℕ) → m.0 < 32
    → has_class m c ≡ false → SpellsMod xs c rest → ReadMods (grown m c) rest out
    → ReadMods m xs out
more_made m xs out c rest h new one others =
    let apart = new_before m c others.classes h others.new in
    record {
      classes = c ∷ others.classes;
      mods = (rest, one, others.mods);
      apart = (apart.0, others.apart);
      new = (new, apart.1);
      bits =
          others.bits ∙ ap (λ (n : ℕ). n + bits_of others.classes) (new_adds m c h new)
          ∙ add_assoc m.0 (row c).bit (bits_of others.classes);
    }

turn_read : (more : Turn) (m : Mask) (xs : List ℕ) (out : Mask × List ℕ) (o : Option (List ℕ))
    → maybe_sign_at 43 (chord_run xs).1 ≡ o
    → ((next : Mask) (rest : List ℕ) → next.0 < 32 → more next rest ≡ Ok out
    → ReadMods next rest out)
    → m.0 < 32 → or_last_word more m xs (chord_run xs).0 o ≡ Ok out → ReadMods m xs out
turn_read more m xs out None s again h e =
    let same : (m, xs) ≡ out = cc in
    subst (λ (p : Mask × List ℕ). ReadMods m xs p) same (no_mods m xs)
turn_read more m xs out (Some rest) s again h e =
    let step = went (with_modifier m (chord_run xs).0) (λ next. more next rest) out e in
    let c = new_class m (chord_run xs).0 step.0 step.1 in
    let others = again step.0 rest (next_fewer m (chord_run xs).0 step.0 h step.1).0 step.2 in
    more_made m xs out c.class rest h c.new (mod_made xs c.class rest c.named s)
    (subst (λ (k : Mask). ReadMods k rest out) (sym c.with_it) others)

mods_read : (n : ℕ) (m : Mask) (xs : List ℕ) (out : Mask × List ℕ) → m.0 < 32
    → mods_within n m xs ≡ Ok out → ReadMods m xs out
unfolding mods_within
mods_read zero m xs out h e =
    let same : (m, xs) ≡ out = cc in
    subst (λ (p : Mask × List ℕ). ReadMods m xs p) same (no_mods m xs)
mods_read (suc n) m xs out h e =
    turn_read (mods_within n) m xs out (maybe_sign_at 43 (chord_run xs).1) refl
    (λ next rest small went_on. mods_read n next rest out small went_on) h e

-- the classes that stand there, each once, and their bits
pub record TakesMods (xs : List ℕ) (out : Mask × List ℕ) : Type 0 where
  pub classes : List ModClass
  pub mods : SpellsMods xs classes out.1
  pub apart : AreApart classes
  pub bits : out.0 ≡ mask (bits_of classes)

pub mods_take : (xs : List ℕ) (out : Mask × List ℕ) → in_turns xs ≡ Ok out → TakesMods xs out
mods_take xs out e =
    let r = mods_read 6 (mask 0) xs out (omega arith) e in
    let sum : out.0.0 ≡ bits_of r.classes = omega (arith, r.bits) in
    record { classes = r.classes; mods = r.mods; apart = r.apart; bits = ap mask sum }

-- ---- what is spelled is read

mods_tight : (xs : List ℕ) (cs : List ModClass) (here : List ℕ) → SpellsMods xs cs here
    → is_tight here ≡ true → is_tight xs ≡ true
mods_tight xs [] here e h = ap is_tight e ∙ h
mods_tight xs (c ∷ cs) here (behind, one, others) h =
    ap is_tight one.text.text
    ∙ word_tight kind.Chord refl one.word
    (one.text.behind_word ++ 43 ∷ (one.behind_sign ++ behind))
    (called_bytes one.word c one.names)

one_read_again : (n : ℕ) (m : Mask) (xs : List ℕ) (c : ModClass) (rest : List ℕ)
    → has_class m c ≡ false → SpellsMod xs c rest → is_tight rest ≡ true
    → mods_within (suc n) m xs ≡ mods_within n (grown m c) rest
unfolding with_modifier
one_read_again n m xs c rest new one tight =
    let signed = 43 ∷ (one.behind_sign ++ rest) in
    one_modifier n m (grown m c) xs (text_of one.word (length xs)) signed rest
    (sym
    (word_read kind.Chord refl xs one.word signed one.text (called_bytes one.word c one.names).1
    refl refl))
    (sym (maybe_sign_again 43 one.behind_sign rest one.gap tight))
    (rw (called_class one.word c one.names, new) refl)

mods_read_again : (n : ℕ) (m : Mask) (xs : List ℕ) (cs : List ModClass) (here : List ℕ) → m.0 < 32
    → free m < n → is_tight here ≡ true → maybe_sign_at 43 (chord_run here).1 ≡ None
    → SpellsMods xs cs here → AreApart cs → AreNew m cs
    → mods_within n m xs ≡ Ok (mask (m.0 + bits_of cs), here)
mods_read_again zero m xs cs here h f tight last mods apart new = absurd (omega arith)
mods_read_again (suc n) m xs [] here h f tight last mods apart new =
    ap (mods_within (suc n) m) mods
    ∙ last_word n m here (chord_run here).0 (chord_run here).1 refl (sym last)
    ∙ ap (λ (k : ℕ). Ok (mask k, here)) (sym (add-zero m.0))
mods_read_again (suc n) m xs (c ∷ cs) here h f tight last (behind, one, others) apart new =
    let sum : (grown m c).0 + bits_of cs ≡ m.0 + ((row c).bit + bits_of cs) =
    ap (λ (k : ℕ). k + bits_of cs) (new_adds m c h new.0)
    ∙ add_assoc m.0 (row c).bit (bits_of cs) in
    let less = new_takes_one m c h new.0 in
    one_read_again n m xs c behind new.0 one (mods_tight behind cs here others tight)
    ∙ mods_read_again n (grown m c) behind cs here (grown_small m c h) (omega arith) tight last
    others apart.1 (new_behind m c cs apart.0 new.1)
    ∙ ap (λ (k : ℕ). Ok (mask k, here)) sum

-- classes that stand once each, before a last word
pub mods_again : (xs : List ℕ) (cs : List ModClass) (here : List ℕ) → is_tight here ≡ true
    → maybe_sign_at 43 (chord_run here).1 ≡ None → SpellsMods xs cs here → AreApart cs
    → in_turns xs ≡ Ok (mask (bits_of cs), here)
mods_again xs cs here tight last mods apart =
    let sum : 0 + bits_of cs ≡ bits_of cs = omega arith in
    mods_read_again 6 (mask 0) xs cs here (omega arith) (omega arith) tight last mods apart
    (all_new cs)
    ∙ ap (λ (k : ℕ). Ok (mask k, here)) sum
