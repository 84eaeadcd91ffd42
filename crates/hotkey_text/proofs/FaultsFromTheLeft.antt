-- The faults of the words in a hotkey's line stand from the left.
use Rattle.std.proofs.Common.{◌≡◌, ℕ, ◌<◌, ◌≤◌, Bool, true, false, ◌||◌, List, [], ◌∷◌, ◌++◌}
use Rattle.std.proofs.Common.{length, length-append, Option, Some, None, refl, ap, sym, subst, ◌∙◌}
use Rattle.std.proofs.Common.{arith}
use Rattle.std.specs.Prelude.{is_some, not, ◌&&◌}
use Rattle.std.specs.List.{list_all, flat_map}
use Rattle.std.proofs.lemmas.Bool.{and_parts, both_ways}
use Rattle.share_base.specs.Sides.{side_named}
use Rattle.text_lines.specs.declared.bytes.WordKind.TheVariants as word_kind
use Rattle.text_lines.specs.Bytes.{takes, is_blank}
use Rattle.text_lines.specs.Numbers.{decimal_of}
use Rattle.text_lines.specs.Reading.{Text, run_at, begins, is_empty}
use Rattle.text_lines.specs.Spelling.{IsRun, IsGap}
use Rattle.text_lines.proofs.SpelledWords.{run_takes}
use Rattle.hotkey_text.specs.declared.faults.HotkeyFault.{HotkeyFault}
use Rattle.hotkey_text.specs.declared.faults.HotkeyKind.{HotkeyKind}
use Rattle.hotkey_text.specs.declared.faults.HotkeyKind.TheVariants as kind
use Rattle.hotkey_text.specs.declared.names.ActionName.{ActionName}
use Rattle.hotkey_text.specs.declared.names.ActionName.TheVariants as name
use Rattle.hotkey_text.specs.declared.names.TriggerKind.{TriggerKind}
use Rattle.hotkey_text.specs.declared.names.TriggerKind.TheVariants as trigger_kind
use Rattle.hotkey_text.specs.Names.{action_named}
use Rattle.hotkey_text.specs.LockModes.{lock_named}
use Rattle.hotkey_text.specs.Keys.{key_named}
use Rattle.hotkey_text.specs.Chords.{allowed, button_of}
use Rattle.hotkey_text.specs.ChordWords.{ChordWords, chord_words, SpellsPart, SpellsParts}
use Rattle.hotkey_text.specs.ChordWords.{SpellsChordWords}
use Rattle.hotkey_text.specs.Shapes.{ActionForm, HotkeyForm, has_some}
use Rattle.hotkey_text.specs.Spelling.{SpellsBrackets, SpellsAction, SpellsFurther, SpellsList}
use Rattle.hotkey_text.specs.Spelling.{SpellsRelease, SpellsHotkey}
use Rattle.hotkey_text.specs.FaultLists.{fault_unless, is_new_modifier, mod_faults, further_faults}
use Rattle.hotkey_text.specs.FaultLists.{key_chord_faults, mouse_chord_faults, word_faults}
use Rattle.hotkey_text.specs.FaultLists.{argument_faults, named_faults, action_faults, chord_faults}
use Rattle.hotkey_text.specs.FaultLists.{trigger_faults, line_faults, StandBehind, StandFromTheLeft}
use Rattle.hotkey_text.proofs.SpelledChordWords.{chord_words_spelled}

-- ---- faults between two places

-- they stand from the left, between the place where hi bytes are left and the one where lo are left
abbrev Falls : ℕ → List HotkeyFault → ℕ → Type 0
Falls hi [] lo = lo ≤ hi
Falls hi (f ∷ fs) lo = (f.left ≤ hi) × Falls f.left fs lo

falls_higher : (top hi lo : ℕ) (fs : List HotkeyFault) → hi ≤ top → Falls hi fs lo → Falls top fs lo
falls_higher top hi lo [] h f = omega arith
falls_higher top hi lo (g ∷ gs) h f = (omega (arith, f.0), f.1)

falls_lower : (hi lo least : ℕ) (fs : List HotkeyFault) → least ≤ lo → Falls hi fs lo
    → Falls hi fs least
falls_lower hi lo least [] h f = omega arith
falls_lower hi lo least (g ∷ gs) h f = (f.0, falls_lower g.left lo least gs h f.1)

-- two lists that meet at a place
both_fall : (hi middle lo : ℕ) (fs gs : List HotkeyFault) → Falls hi fs middle → Falls middle gs lo
    → Falls hi (fs ++ gs) lo
both_fall hi middle lo [] gs f g = falls_higher hi middle lo gs f g
both_fall hi middle lo (x ∷ fs) gs f g = (f.0, both_fall x.left middle lo fs gs f.1 g)

one_falls : (hi lo : ℕ) (b : Bool) (k : HotkeyKind) (left : ℕ) → left ≤ hi → lo ≤ left
    → Falls hi (fault_unless b k left) lo
one_falls hi lo true k left h l = omega arith
one_falls hi lo false k left h l = (h, l)

behind_fault : (left hi lo : ℕ) (fs : List HotkeyFault) → hi ≤ left → Falls hi fs lo
    → StandBehind left fs
behind_fault left hi lo [] h f = tt
behind_fault left hi lo (g ∷ gs) h f =
    let here : g.left ≤ left = omega (arith, f.0) in (here, behind_fault left g.left lo gs here f.1)

from_left : (hi lo : ℕ) (fs : List HotkeyFault) → Falls hi fs lo → StandFromTheLeft fs
from_left hi lo [] f = tt
from_left hi lo (g ∷ gs) f =
    (behind_fault g.left g.left lo gs (omega arith) f.1, from_left g.left lo gs f.1)

-- ---- the ) behind an argument

-- a ) stands there or further behind, and t behind it
record HasEnd (t xs : List ℕ) : Type 0 where
  inside : List ℕ
  closes : xs ≡ inside ++ 41 ∷ t

end_behind : (t xs : List ℕ) → HasEnd t xs → length t < length xs
end_behind t xs h = omega (arith, ap length h.closes, length-append h.inside (41 ∷ t))

-- no run of bytes other than ) goes past it
run_before : (p : ℕ → Bool) (w tail inside t : List ℕ) → p 41 ≡ false → IsRun p w
    → w ++ tail ≡ inside ++ 41 ∷ t → HasEnd t tail
run_before p [] tail inside t n r e = record { inside = inside; closes = e }
run_before p (x ∷ w) tail [] t n r e =
    let same : x ≡ 41 = cc in
    absurd (both_ways (p 41) n (subst (λ b. p b ≡ true) same (and_parts (p x) (list_all p w) r).0))
run_before p (x ∷ w) tail (y ∷ inside) t n r e =
    run_before p w tail inside t n (and_parts (p x) (list_all p w) r).1 cc

-- no word, with the gap behind it
word_before : (p : ℕ → Bool) (t xs word tail gap rest : List ℕ) → p 41 ≡ false → xs ≡ word ++ tail
    → tail ≡ gap ++ rest → IsRun p word → IsGap gap → HasEnd t xs → HasEnd t rest
word_before p t xs word tail gap rest n e d r g h =
    let first = run_before p word tail h.inside t n r (sym e ∙ h.closes) in
    run_before is_blank gap rest first.inside t refl g (sym d ∙ first.closes)

part_before : (t xs : List ℕ) (word : Text) (rest : List ℕ) → SpellsPart xs word rest → HasEnd t xs
    → HasEnd t rest
part_before t xs word rest s h =
    word_before (takes word_kind.Chord) t xs word.text s.tail s.gap rest refl s.text s.behind s.run
    s.blank h

sign_before : (t gap rest : List ℕ) → IsGap gap → HasEnd t (43 ∷ (gap ++ rest)) → HasEnd t rest
sign_before t gap rest g h =
    word_before (takes word_kind.Choice) t (43 ∷ (gap ++ rest)) (43 ∷ []) (gap ++ rest) gap rest
    refl refl refl refl g h

parts_before : (t xs : List ℕ) (words : List Text) (here : List ℕ) → SpellsParts xs words here
    → HasEnd t xs → HasEnd t here
parts_before t xs [] here s h = subst (HasEnd t) s h
parts_before t xs (word ∷ words) here s h =
    parts_before t s.rest words here s.others
    (sign_before t s.behind_sign s.rest s.gap
    (part_before t xs word (43 ∷ (s.behind_sign ++ s.rest)) s.part h))

-- ---- chords

part_shorter : (xs : List ℕ) (word : Text) (rest : List ℕ) → SpellsPart xs word rest
    → length rest ≤ length xs
part_shorter xs word rest s =
    omega (
      arith,
      ap length s.text,
      length-append word.text s.tail,
      ap length s.behind,
      length-append s.gap rest,
    )

mods_fall : (above : List Text) (xs : List ℕ) (words : List Text) (here : List ℕ)
    → SpellsParts xs words here → Falls (length xs) (mod_faults above words) (length here)
unfolding mod_faults
mods_fall above xs [] here s = omega (arith, ap length s)
mods_fall above xs (word ∷ words) here s =
    let shorter = part_shorter xs word (43 ∷ (s.behind_sign ++ s.rest)) s.part in
    let longer : length s.rest ≤ word.left =
    omega (arith, s.part.place, length-append s.behind_sign s.rest) in
    both_fall (length xs) (length s.rest) (length here)
    (fault_unless (is_new_modifier above word) kind.BadValue word.left) _
    (one_falls (length xs) (length s.rest) (is_new_modifier above word) kind.BadValue word.left
    (omega (arith, s.part.place)) longer)
    (mods_fall (above ++ word ∷ []) s.rest words here s.others)

-- a last word, and a word more where the ) should stand
last_falls : (t here rest : List ℕ) (b : Bool) (k : HotkeyKind) (left : ℕ) → left ≡ length here
    → length rest ≤ length here → HasEnd t rest
    → Falls (length here) (fault_unless b k left ++ further_faults rest) (length t)
last_falls t here rest b k left e l h =
    let longer = end_behind t rest h in
    both_fall (length here) (length rest) (length t) (fault_unless b k left) (further_faults rest)
    (one_falls (length here) (length rest) b k left (omega arith) (omega arith))
    (one_falls (length rest) (length t) (begins 41 rest) kind.BadValue (length rest) (omega arith)
    (omega arith))

chord_falls : (t xs : List ℕ) (words : ChordWords) (b : Bool) (k : HotkeyKind)
    → SpellsChordWords xs words → HasEnd t xs
    → Falls (length xs)
    (mod_faults [] words.mods
    ++ (fault_unless b k words.last.left ++ further_faults words.rest))
    (length t)
chord_falls t xs words b k s h =
    both_fall (length xs) (length s.here) (length t) (mod_faults [] words.mods) _
    (mods_fall [] xs words.mods s.here s.mods)
    (last_falls t s.here words.rest b k words.last.left s.last.place
    (part_shorter s.here words.last words.rest s.last)
    (part_before t s.here words.last words.rest s.last
    (parts_before t xs words.mods s.here s.mods h)))

key_falls : (t xs : List ℕ) (modifiers : Bool) → HasEnd t xs
    → Falls (length xs) (key_chord_faults modifiers xs) (length t)
unfolding key_chord_faults
key_falls t xs modifiers h =
    chord_falls t xs (chord_words xs)
    (is_some (allowed modifiers (key_named (chord_words xs).last.text))) kind.UnknownKey
    (chord_words_spelled xs) h

mouse_falls : (t xs : List ℕ) → HasEnd t xs → Falls (length xs) (mouse_chord_faults xs) (length t)
unfolding mouse_chord_faults
mouse_falls t xs h =
    chord_falls t xs (chord_words xs)
    (is_some (button_of (decimal_of 255 (chord_words xs).last.text))) kind.BadValue
    (chord_words_spelled xs) h

chosen_falls : (t xs : List ℕ) (of : TriggerKind) → HasEnd t xs
    → Falls (length xs) (chord_faults of xs) (length t)
chosen_falls t xs trigger_kind.Key h = key_falls t xs false h
chosen_falls t xs trigger_kind.Mouse h = mouse_falls t xs h

-- ---- actions

word_falls : (t xs : List ℕ) (is_good : List ℕ → Bool) (k : HotkeyKind) → HasEnd t xs
    → Falls (length xs) (word_faults is_good k xs) (length t)
unfolding word_faults
word_falls t xs is_good k h =
    let word = run_at (takes word_kind.Choice) xs in
    let r = run_takes (takes word_kind.Choice) xs in
    let shorter : length word.1 ≤ length xs =
    omega (
      arith,
      ap length r.parts,
      length-append word.0.text r.tail,
      ap length r.gap.parts,
      length-append r.gap.gap word.1,
    )
    in
    last_falls t xs word.1 (is_good word.0.text) k word.0.left refl shorter
    (word_before (takes word_kind.Choice) t xs word.0.text r.tail r.gap.gap word.1 refl r.parts
    r.gap.parts r.run r.gap.blank h)

argument_falls : (known : List ℕ → Bool) (t xs : List ℕ) (n : ActionName) → HasEnd t xs
    → Falls (length xs) (argument_faults known n xs) (length t)
argument_falls known t xs (name.Key deed) h = key_falls t xs true h
argument_falls known t xs (name.Mouse deed) h = mouse_falls t xs h
argument_falls known t xs name.Lock h =
    word_falls t xs (λ w. is_some (lock_named w)) kind.BadValue h
argument_falls known t xs name.SwitchTo h =
    word_falls t xs (λ w. not (is_empty w) && known w) kind.UnknownScreen h
argument_falls known t xs name.SwitchToward h =
    word_falls t xs (λ w. is_some (side_named w)) kind.BadValue h

brackets_end : (xs argument rest : List ℕ) (s : SpellsBrackets xs argument rest)
    → HasEnd (s.behind_close ++ rest) argument
brackets_end xs argument rest s = record { inside = s.inside; closes = s.closes }

brackets_longer : (xs argument rest : List ℕ) → SpellsBrackets xs argument rest
    → length argument ≤ length xs
brackets_longer xs argument rest s =
    omega (arith, ap length s.text, length-append s.behind_open argument)

named_falls : (known : List ℕ → Bool) (o : Option ActionName) (xs : List ℕ) (a : ActionForm)
    (rest : List ℕ)
    → SpellsAction xs a rest → Falls (length xs) (named_faults known o a) (length rest)
named_falls known None xs a rest s =
    let closing =
    end_behind (s.argument.behind_close ++ rest) a.argument
    (brackets_end s.brackets a.argument rest s.argument) in
    let opening = brackets_longer s.brackets a.argument rest s.argument in
    let lower : length rest ≤ length xs =
    omega (
      arith,
      ap length s.text,
      length-append a.word.text (s.behind_word ++ s.brackets),
      length-append s.behind_word s.brackets,
      length-append s.argument.behind_close rest,
    )
    in
    (omega (arith, s.place), omega (arith, s.place))
named_falls known (Some n) xs a rest s =
    let opening = brackets_longer s.brackets a.argument rest s.argument in
    let higher : length a.argument ≤ length xs =
    omega (
      arith,
      ap length s.text,
      length-append a.word.text (s.behind_word ++ s.brackets),
      length-append s.behind_word s.brackets,
    )
    in
    let t = s.argument.behind_close ++ rest in
    falls_higher (length xs) (length a.argument) (length rest) _ higher
    (falls_lower (length a.argument) (length t) (length rest) _
    (omega (arith, length-append s.argument.behind_close rest))
    (argument_falls known t a.argument n (brackets_end s.brackets a.argument rest s.argument)))

action_falls : (known : List ℕ → Bool) (xs : List ℕ) (a : ActionForm) (rest : List ℕ)
    → SpellsAction xs a rest → Falls (length xs) (action_faults known a) (length rest)
unfolding action_faults
action_falls known xs a rest s = named_falls known (action_named a.word.text) xs a rest s

further_fall : (known : List ℕ → Bool) (xs : List ℕ) (actions : List ActionForm) (rest : List ℕ)
    → SpellsFurther xs actions rest
    → Falls (length xs) (flat_map (action_faults known) actions) (length rest)
further_fall known xs [] rest s = omega (arith, ap length s)
further_fall known xs (a ∷ actions) rest s =
    falls_higher (length xs) (length s.here) (length rest) _
    (omega (arith, ap length s.text, length-append s.behind_comma s.here))
    (both_fall (length s.here) (length s.rest) (length rest) (action_faults known a) _
    (action_falls known s.here a s.rest s.action)
    (further_fall known s.rest actions rest s.others))

list_falls : (known : List ℕ → Bool) (xs : List ℕ) (actions : List ActionForm) (rest : List ℕ)
    → SpellsList xs actions rest
    → Falls (length xs) (flat_map (action_faults known) actions) (length rest)
list_falls known xs [] rest s = omega (arith, ap length s)
list_falls known xs (a ∷ actions) rest s =
    both_fall (length xs) (length s.0) (length rest) (action_faults known a) _
    (action_falls known xs a s.0 s.1) (further_fall known s.0 actions rest s.2)

-- ---- a line

abbrev list_faults : (List ℕ → Bool) → List ActionForm → List HotkeyFault
list_faults known actions = flat_map (action_faults known) actions

-- both lists
lists_fall : (known : List ℕ → Bool) (lists second : List ℕ) (press release : List ActionForm)
    → SpellsList lists press second → Falls (length second) (list_faults known release) 0
    → Falls (length lists) (list_faults known press ++ list_faults known release) 0
lists_fall known lists second press release s r =
    both_fall (length lists) (length second) 0 (list_faults known press) (list_faults known release)
    (list_falls known lists press second s) r

release_falls : (known : List ℕ → Bool) (second : List ℕ) (released : Bool)
    (release : List ActionForm)
    → SpellsRelease second released release → Falls (length second) (list_faults known release) 0
release_falls known second true release s =
    falls_higher (length second) (length s.1) 0 _
    (omega (arith, ap length s.2, length-append s.0 s.1)) (list_falls known s.1 release [] s.4)
release_falls known second false release s =
    subst (λ (actions : List ActionForm). Falls (length second) (list_faults known actions) 0)
    (sym s.1) (omega arith)

-- without a list nothing follows the place where one is missing
lines_fall : (known : List ℕ → Bool) (hi : ℕ) (fs : List HotkeyFault) (lists second : List ℕ)
    (press : List ActionForm) (released : Bool) (release : List ActionForm)
    → Falls hi fs (length lists) → SpellsList lists press second
    → SpellsRelease second released release
    → Falls hi
    ((fs ++ fault_unless (released || has_some press) kind.BadValue 0)
    ++ (list_faults known press ++ list_faults known release))
    0
lines_fall known hi fs lists second press true release f s r =
    both_fall hi (length lists) 0 (fs ++ []) _
    (both_fall hi (length lists) (length lists) fs [] f (omega arith))
    (lists_fall known lists second press release s (release_falls known second true release r))
lines_fall known hi fs lists second (a ∷ press) false release f s r =
    both_fall hi (length lists) 0 (fs ++ []) _
    (both_fall hi (length lists) (length lists) fs [] f (omega arith))
    (lists_fall known lists second (a ∷ press) release s
    (release_falls known second false release r))
lines_fall known hi fs lists second [] false release f s r =
    both_fall hi 0 0 (fs ++ fault_unless false kind.BadValue 0) _
    (both_fall hi (length lists) 0 fs (fault_unless false kind.BadValue 0) f
    (omega arith, omega arith))
    (falls_higher 0 (length second) 0 _ (omega (arith, ap length r.0))
    (release_falls known second false release r))

pub line_from_left : (known : List ℕ → Bool) (xs : List ℕ) (line : HotkeyForm)
    → SpellsHotkey xs line → StandFromTheLeft (line_faults known line)
unfolding line_faults trigger_faults
line_from_left known xs line s =
    let t = s.argument.behind_close ++ 61 ∷ (s.behind_sign ++ s.lists) in
    let lower : length s.lists ≤ length t =
    omega (
      arith,
      length-append s.argument.behind_close (61 ∷ (s.behind_sign ++ s.lists)),
      length-append s.behind_sign s.lists,
    )
    in
    let trigger =
    falls_lower (length line.argument) (length t) (length s.lists)
    (chord_faults line.kind line.argument) lower
    (chosen_falls t line.argument line.kind
    (brackets_end s.brackets line.argument (61 ∷ (s.behind_sign ++ s.lists)) s.argument))
    in
    from_left (length line.argument) 0 _
    (lines_fall known (length line.argument) (chord_faults line.kind line.argument) s.lists
    s.second line.press line.released line.release trigger s.press s.release)
