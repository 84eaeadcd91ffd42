-- A screen that is named by its own name is found again.
use Rattle.std.proofs.Common.{◌≡◌, ℕ, zero, suc, ◌<◌, Bool, true, false, cond, not, List, [], ◌∷◌}
use Rattle.std.proofs.Common.{◌++◌, length, map, Ok, Option, Some, refl, ap, sym, subst, ◌∙◌, arith}
use Rattle.std.specs.Prelude.{slice_get}
use Rattle.std.specs.List.{flat_map, list_all, list_any, position_or_len}
use Rattle.std.proofs.lemmas.Bool.{and_parts, and_from, or_parts, not-true, not_from_false, lt-ltb}
use Rattle.share_base.specs.Names.{is_name, same_name}
use Rattle.share_base.proofs.ListTests.{all_parts, any_none, none_of_any}
use Rattle.share_base.proofs.SameNames.{same_name_refl}
use Rattle.text_lines.specs.Reading.{is_empty}
use Rattle.text_lines.proofs.SpelledWords.{text_of}
use Rattle.screen_config.specs.declared.screens.Alias.{Alias}
use Rattle.screen_config.specs.declared.screens.Screen.{Screen}
use Rattle.text_lines.specs.LineByLine.{all_lines}
use Rattle.config_text.specs.declared.sections.Opened.{Opened}
use Rattle.config_text.specs.declared.sections.Section.{Section}
use Rattle.config_text.specs.declared.sections.Section.TheVariants as section
use Rattle.screen_config.specs.Configurations.{Configuration, screen_of, screen_place}
use Rattle.config_text.specs.Drafts.{Draft}
use Rattle.config_text.specs.Judging.{known_screen}
use Rattle.config_text.specs.Lines.{judged}
use Rattle.config_text.specs.Normal.{header_text, block_text}
use Rattle.config_text.specs.Sections.{is_header, in_section, known_header, opened_as}
use Rattle.screen_config.specs.Sound.{IsSound, apart}
use Rattle.screen_config.specs.Values.{name_in, name_of}
use Rattle.config_text.proofs.NamesAgain.{header_again, is_header_again}
use Rattle.config_text.proofs.NamesClean.{clean_header}
use Rattle.config_text.proofs.Runs.{draft_in, ended, ReadsText, ReadsTextBelow, no_text}
use Rattle.config_text.proofs.Runs.{block_of_text}

-- ---- its place

abbrev pub names_of : List Screen → List (List ℕ)
names_of screens = map (λ (s : Screen). s.name) screens

other_name : (name : List ℕ) (screens : List Screen) (n : ℕ)
    → list_any (same_name name) (names_of screens) ≡ false → n < length screens
    → same_name name (name_in (slice_get screens n)) ≡ false
other_name name [] n h lt = absurd (omega arith)
other_name name (s ∷ ss) zero h lt =
    (or_parts (same_name name s.name) (list_any (same_name name) (names_of ss)) h).0
other_name name (s ∷ ss) (suc n) h lt =
    other_name name ss n
    (or_parts (same_name name s.name) (list_any (same_name name) (names_of ss)) h).1 (omega arith)

first_there : (screens : List Screen) (n : ℕ) → apart (names_of screens) ≡ true → n < length screens
    → position_or_len (λ (s : Screen). same_name s.name (name_in (slice_get screens n))) screens ≡ n
first_there [] n h lt = absurd (omega arith)
first_there (s ∷ ss) zero h lt = rw (same_name_refl s.name) refl
first_there (s ∷ ss) (suc n) h lt =
    let e = and_parts (not (list_any (same_name s.name) (names_of ss))) (apart (names_of ss)) h in
    let other : same_name s.name (name_in (slice_get ss n)) ≡ false =
    other_name s.name ss n (not-true _ e.0) (omega arith) in
    rw other (omega (arith, first_there ss n e.1 (omega arith)))

pub place_again : (screens : List Screen) (n : ℕ) → apart (names_of screens) ≡ true
    → n < length screens → screen_place screens (name_in (slice_get screens n)) ≡ Some n
place_again screens n h lt = rw (first_there screens n h lt, lt-ltb n (length screens) lt) refl

-- names of screens, no two of them the same
pub record AreNamed (screens : List Screen) : Type 0 where
  pub named : list_all is_name (names_of screens) ≡ true
  pub others : apart (names_of screens) ≡ true

-- names of which no two are the same are so from the front on
apart_front : (names more : List (List ℕ)) → apart (names ++ more) ≡ true → apart names ≡ true
apart_front [] more h = refl
apart_front (name ∷ names) more h =
    let whole =
    and_parts (not (list_any (same_name name) (names ++ more))) (apart (names ++ more)) h in
    let parts =
    all_parts (λ other. not (same_name name other)) names more
    (none_of_any (same_name name) (names ++ more) (not-true _ whole.0)) in
    and_from (not (list_any (same_name name) names)) (apart names)
    (not_from_false _ (any_none (same_name name) names parts.0))
    (apart_front names more whole.1)

pub sound_names : (c : Configuration) → IsSound c → AreNamed c.screens
sound_names c s = record {
  named =
      (all_parts is_name (names_of c.screens) (map (λ (a : Alias). a.name) c.aliases) s.named).0;
  others = apart_front (names_of c.screens) (map (λ (a : Alias). a.name) c.aliases) s.names_apart;
}

named_at : (screens : List Screen) (n : ℕ) → list_all is_name (names_of screens) ≡ true
    → n < length screens → is_name (name_in (slice_get screens n)) ≡ true
named_at [] n h lt = absurd (omega arith)
named_at (s ∷ ss) zero h lt = (and_parts (is_name s.name) (list_all is_name (names_of ss)) h).0
named_at (s ∷ ss) (suc n) h lt =
    named_at ss n (and_parts (is_name s.name) (list_all is_name (names_of ss)) h).1 (omega arith)

pub is_name_again : (c : Configuration) (n : ℕ) → AreNamed c.screens → n < length c.screens
    → is_name (name_of c n) ≡ true
is_name_again c n a lt = named_at c.screens n a.named lt

-- the name of a screen is known as that screen
pub known_again : (c : Configuration) (n left : ℕ) → AreNamed c.screens → n < length c.screens
    → known_screen c (text_of (name_of c n) left) ≡ Ok n
unfolding known_screen screen_of
known_again c n left a lt = rw (is_name_again c n a lt, place_again c.screens n a.others lt) refl

-- ---- its header, and the lines below it

-- a section in which a header names a screen that is known
abbrev pub HasKnownHeaders : Section → Type 0
HasKnownHeaders s =
    (d : Draft) (xs : List ℕ) → is_header xs ≡ true → in_section s d xs ≡ known_header d xs

pub aliases_headers : HasKnownHeaders section.Aliases
unfolding in_section
aliases_headers d xs h = rw h refl

pub links_headers : HasKnownHeaders section.Links
unfolding in_section
links_headers d xs h = rw h refl

header_read : (s : Section) (c : Configuration) (n : ℕ) (o : Opened) (h : Option ℕ)
    → HasKnownHeaders s → AreNamed c.screens → n < length c.screens
    → in_section s (draft_in o h c) (name_of c n ++ 58 ∷ []) ≡ Ok (draft_in o (Some n) c)
unfolding known_header
header_read s c n o h headers a lt =
    let name = is_name_again c n a lt in
    headers (draft_in o h c) (name_of c n ++ 58 ∷ []) (is_header_again (name_of c n) name)
    ∙ rw (header_again (name_of c n) name, known_again c n (length (name_of c n ++ 58 ∷ [])) a lt)
    refl

ended_some : (l : List ℕ) (rest : List ℕ) → is_empty ((l ++ 10 ∷ []) ++ rest) ≡ true → ⊥
ended_some [] rest e = absurd cc
ended_some (x ∷ xs) rest e = absurd cc

same_below : (parts : List (List ℕ)) (text : List ℕ) (n : ℕ) (d e : Draft)
    → text ≡ flat_map ended parts → is_empty text ≡ true → all_lines judged n d parts ≡ Ok e → d ≡ e
unfolding all_lines
same_below [] text n d e made none r = cc
same_below (l ∷ ls) text n d e made none r =
    absurd (ended_some l (flat_map ended ls) (ap is_empty (sym made) ∙ none))

-- no lines change nothing
nothing_below : (s : Section) (n : ℕ) (from to : Configuration) (text : List ℕ)
    → ReadsTextBelow s n from text to → is_empty text ≡ true → from ≡ to
nothing_below s n from to text r none =
    let o = opened_as s 1 1 in
    ap (λ (d : Draft). d.config)
    (same_below r.parts text 1 (draft_in o (Some n) from) (draft_in o (Some n) to) r.made none
    (r.reads 1 o refl))

block_by : (t : Bool) (s : Section) (n : ℕ) (from to : Configuration) (below : List ℕ)
    → is_empty below ≡ t → HasKnownHeaders s → AreNamed from.screens → n < length from.screens
    → ReadsTextBelow s n from below to
    → ReadsText s from (cond t [] (header_text (name_of from n) ++ below)) to
block_by true s n from to below e headers a lt r =
    subst (λ (c : Configuration). ReadsText s from [] c) (nothing_below s n from to below r e)
    (no_text s from)
block_by false s n from to below e headers a lt r =
    block_of_text s n from from to (name_of from n) below
    (clean_header (name_of from n) (is_name_again from n a lt))
    (λ o h. header_read s from n o h headers a lt) r

-- the header of a known screen and the lines below it, where there are any
pub block_again : (s : Section) (n : ℕ) (from to : Configuration) (below : List ℕ)
    → HasKnownHeaders s → AreNamed from.screens → n < length from.screens
    → ReadsTextBelow s n from below to → ReadsText s from (block_text (name_of from n) below) to
block_again s n from to below headers a lt r =
    block_by (is_empty below) s n from to below refl headers a lt r
