-- The aliases section is read again.
use Rattle.std.proofs.Common.{◌≡◌, ℕ, zero, suc, ◌+◌, ◌-◌, ◌<◌, ◌≤◌, Bool, true, false, cond, not}
use Rattle.std.proofs.Common.{◌==◌, List, [], ◌∷◌, ◌++◌, length, length-append, map, get_or, Result}
use Rattle.std.proofs.Common.{Ok, Some, nat_lt, refl, ap, sym, subst, ◌∙◌, append_assoc, append-nil}
use Rattle.std.proofs.Common.{arith}
use Rattle.std.specs.Prelude.{filter}
use Rattle.std.specs.List.{flat_map, list_all, range_with_len}
use Rattle.std.proofs.lemmas.Bool.{and_parts, and_left, not-true, lt-ltb, ne_eqb, eqb-true}
use Rattle.std.proofs.lemmas.Bool.Decides.{nat_tests}
use Rattle.std.proofs.lemmas.List.{map-append}
use Rattle.std.proofs.lemmas.List.Sums.{length-filter, count_by-le-length, AllPass-from_list_all}
use Rattle.std.proofs.lemmas.List.Sums.{list_all-from_AllPass}
use Rattle.std.proofs.lemmas.List.Elements.{filter-append, All-filter}
use Rattle.std.proofs.lemmas.List.Folds.{list_all-map}
use Rattle.std.proofs.lemmas.Option.{slice_get-get_or}
use Rattle.share_base.specs.Names.{is_name, same_name}
use Rattle.share_base.proofs.ListTests.{all_append, all_parts, all_at}
use Rattle.text_lines.proofs.SpelledWords.{text_of}
use Rattle.option_table.specs.Settings.{none_set}
use Rattle.config_text.specs.declared.faults.Fault.{Fault}
use Rattle.screen_config.specs.declared.screens.Alias.{Alias}
use Rattle.config_text.specs.declared.sections.Section.TheVariants as section
use Rattle.screen_config.specs.Configurations.{Configuration}
use Rattle.config_text.specs.Drafts.{Draft}
use Rattle.config_text.specs.Judging.{new_alias}
use Rattle.config_text.specs.Normal.{alias_text, aliases_of, aliases_text, two_tabs}
use Rattle.config_text.specs.Sections.{is_header, in_section, alias_line}
use Rattle.screen_config.specs.Sound.{IsSound, all_names, apart, is_end}
use Rattle.screen_config.specs.Values.{names_screen, aliases_in, numbers_of}
use Rattle.config_text.proofs.KnownAgain.{names_of, sound_names, aliases_headers, block_again}
use Rattle.config_text.proofs.NamesAgain.{name_passes, name_takes}
use Rattle.screen_config.proofs.NamesApart.{are_others, others_before, others_behind}
use Rattle.screen_config.proofs.NamesApart.{unknown_if_others}
use Rattle.config_text.proofs.NamesClean.{clean_name}
use Rattle.config_text.proofs.Spelled.{alias_again}
use Rattle.config_text.proofs.Runs.{draft_in, ReadsText, ReadsTextBelow, no_text, no_text_below}
use Rattle.config_text.proofs.Runs.{text_both, text_below_both, line_below}

abbrev alias_names : List Alias → List (List ℕ)
alias_names aliases = map (λ (a : Alias). a.name) aliases

abbrev is_other : List ℕ → Alias → Bool
is_other name a = not (same_name a.name name)

no_header : (name : List ℕ) → is_name name ≡ true → is_header name ≡ false
unfolding is_header
no_header name h =
    let last = length name - 1 in
    let some : last < length name = omega (arith, (clean_name name h).some) in
    let byte =
    all_at (λ b. not (b == 58)) name last (get_or name last 0)
    (name_passes (λ b. not (b == 58)) refl name h) (slice_get-get_or name last 0 some) in
    and_left (get_or name last 0 == 58) _ (not-true _ byte)

-- ---- those of one screen

-- what holds of an element of a list
held : {A : Type 0} (p : A → Bool) (xs front : List A) (x : A) (back : List A)
    → xs ≡ front ++ x ∷ back → list_all p xs ≡ true → p x ≡ true
held p xs front x back e h =
    (and_parts (p x) (list_all p back)
    (all_parts p front (x ∷ back) (ap (list_all p) (sym e) ∙ h)).1).0

all_kept : {A : Type 0} (p q : A → Bool) (xs : List A) → list_all p xs ≡ true
    → list_all p (filter q xs) ≡ true
all_kept p q xs h =
    list_all-from_AllPass p (filter q xs)
    (All-filter q (λ x. p x ≡ true) xs (AllPass-from_list_all p xs h))

-- the screens, and the aliases in front of one and behind it, have other names
record AreOthers (c : Configuration) (front : List Alias) (a : Alias) (back : List Alias)
    : Type 0 where
  screens : are_others a.name (names_of c.screens) ≡ true
  before : list_all (is_other a.name) front ≡ true
  behind : list_all (is_other a.name) back ≡ true

others_at : (c : Configuration) (front : List Alias) (a : Alias) (back : List Alias) → IsSound c
    → c.aliases ≡ front ++ a ∷ back → AreOthers c front a back
others_at c front a back s e =
    let names = names_of c.screens ++ alias_names front in
    let is_there : all_names c ≡ names ++ a.name ∷ alias_names back =
    ap (λ (xs : List Alias). names_of c.screens ++ alias_names xs) e
    ∙ ap (λ (t : List (List ℕ)). names_of c.screens ++ t)
    (map-append (λ (x : Alias). x.name) front (a ∷ back))
    ∙ sym (append_assoc (names_of c.screens) (alias_names front) (a.name ∷ alias_names back)) in
    let whole : apart (names ++ a.name ∷ alias_names back) ≡ true =
    ap apart (sym is_there) ∙ s.names_apart in
    let parts =
    all_parts (λ other. not (same_name other a.name)) (names_of c.screens) (alias_names front)
    (others_before names a.name (alias_names back) whole) in
    record {
      screens = parts.0;
      before =
          sym (list_all-map (λ other. not (same_name other a.name)) (λ (x : Alias). x.name) front)
          ∙ parts.1;
      behind =
          sym (list_all-map (λ other. not (same_name other a.name)) (λ (x : Alias). x.name) back)
          ∙ others_behind names a.name (alias_names back) whole;
    }

-- the screens of a configuration with these aliases, before its links and options
abbrev with_aliases : Configuration → List Alias → Configuration
with_aliases c aliases =
    record { screens = c.screens; aliases = aliases; links = []; settings = none_set; hotkeys = [] }

-- those read so far have other names than each alias of the screens from that number on
abbrev Others : Configuration → ℕ → List Alias → Type 0
Others c n done =
    (front : List Alias) (a : Alias) (back : List Alias) → c.aliases ≡ front ++ a ∷ back
    → n ≤ a.screen → list_all (is_other a.name) done ≡ true

taken : (n : ℕ) (front : List Alias) (a : Alias) (back : List Alias) → names_screen n a ≡ true
    → filter (names_screen n) (front ++ a ∷ back)
    ≡ filter (names_screen n) front ++ a ∷ filter (names_screen n) back
taken n front a back e = filter-append (names_screen n) front (a ∷ back) ∙ rw e refl

passed : (n : ℕ) (front : List Alias) (a : Alias) (back : List Alias) → names_screen n a ≡ false
    → filter (names_screen n) (front ++ a ∷ back)
    ≡ filter (names_screen n) front ++ filter (names_screen n) back
passed n front a back e = filter-append (names_screen n) front (a ∷ back) ∙ rw e refl

alias_step : (t : Bool) (c : Configuration) (n : ℕ) (done front : List Alias) (a : Alias)
    (back : List Alias)
    → names_screen n a ≡ t → IsSound c → c.aliases ≡ front ++ a ∷ back
    → Others c n done → length done + length (aliases_in c n) ≤ 256
    → ReadsTextBelow section.Aliases n (with_aliases c (done ++ filter (names_screen n) front))
    (cond t ((two_tabs ++ a.name) ++ 10 ∷ []) [])
    (with_aliases c (done ++ filter (names_screen n) (front ++ a ∷ [])))
unfolding in_section alias_line new_alias
alias_step false c n done front a back t s e others room =
    let from = with_aliases c (done ++ filter (names_screen n) front) in
    subst
    (λ (k : List Alias). ReadsTextBelow section.Aliases n from [] (with_aliases c (done ++ k)))
    (sym (passed n front a [] t ∙ append-nil (filter (names_screen n) front)))
    (no_text_below section.Aliases n from)
alias_step true c n done front a back t s e others room =
    let kept = filter (names_screen n) front in
    let from = with_aliases c (done ++ kept) in
    let named =
    held (λ (x : Alias). is_name x.name) c.aliases front a back e
    (sym (list_all-map is_name (λ (x : Alias). x.name) c.aliases)
    ∙ (all_parts is_name (names_of c.screens) (alias_names c.aliases) s.named).1)
    in
    let no_end =
    not-true (is_end a.name)
    (held (λ (x : Alias). not (is_end x.name)) c.aliases front a back e s.no_end) in
    let apart_from = others_at c front a back s e in
    let number : a.screen ≡ n = eqb-true a.screen n t in
    let so_far =
    all_append (is_other a.name) done kept (others front a back e (omega arith))
    (all_kept (is_other a.name) (names_screen n) front apart_from.before) in
    let new =
    unknown_if_others from a.name apart_from.screens
    (list_all-map (λ other. not (same_name other a.name)) (λ (x : Alias). x.name)
    (done ++ kept)
    ∙ so_far)
    in
    let count : aliases_in c n ≡ kept ++ a ∷ filter (names_screen n) back =
    ap (filter (names_screen n)) e ∙ taken n front a back t in
    let small : length (done ++ kept) < 256 =
    omega (
      arith,
      length-append done kept,
      ap length count,
      length-append kept (a ∷ filter (names_screen n) back),
    )
    in
    let this : (record { name = a.name; screen = n }) ≡ a =
    ap (λ (k : ℕ). let x : Alias = record { name = a.name; screen = k } in x) (sym number) in
    let more : (done ++ kept) ++ (record { name = a.name; screen = n }) ∷ []
    ≡ done ++ filter (names_screen n) (front ++ a ∷ []) =
    append_assoc done kept ((record { name = a.name; screen = n }) ∷ [])
    ∙ ap (λ (x : Alias). done ++ (kept ++ x ∷ [])) this
    ∙ ap (λ (xs : List Alias). done ++ xs) (sym (taken n front a [] t)) in
    let read =
    alias_again a.name (text_of a.name (length a.name))
    (record {
      behind_name = [];
      text = sym (append-nil a.name);
      word = ((clean_name a.name named).some, name_takes a.name named);
      gap = refl;
      place = refl;
    })
    in
    line_below section.Aliases n from
    (with_aliases c (done ++ filter (names_screen n) (front ++ a ∷ []))) two_tabs a.name refl
    (clean_name a.name named) no_end
    (λ o.
    rw (no_header a.name named, read, named, new, lt-ltb (length (done ++ kept)) 256 small)
    (ap
    (λ (xs : List Alias).
    let r : Result Draft Fault = Ok (draft_in o (Some n) (with_aliases c xs)) in
    r)
    more))

lines_again : (c : Configuration) (n : ℕ) (done front todo : List Alias) → IsSound c
    → c.aliases ≡ front ++ todo → Others c n done → length done + length (aliases_in c n) ≤ 256
    → ReadsTextBelow section.Aliases n (with_aliases c (done ++ filter (names_screen n) front))
    (flat_map (alias_text n) todo) (with_aliases c (done ++ aliases_in c n))
unfolding alias_text
lines_again c n done front [] s e others room =
    let from = with_aliases c (done ++ filter (names_screen n) front) in
    subst
    (λ (k : List Alias).
    ReadsTextBelow section.Aliases n from []
    (with_aliases c (done ++ filter (names_screen n) k)))
    (sym (e ∙ append-nil front)) (no_text_below section.Aliases n from)
lines_again c n done front (a ∷ todo) s e others room =
    text_below_both section.Aliases n (with_aliases c (done ++ filter (names_screen n) front))
    (with_aliases c (done ++ filter (names_screen n) (front ++ a ∷ [])))
    (with_aliases c (done ++ aliases_in c n))
    (alias_text n a) (flat_map (alias_text n) todo)
    (alias_step (names_screen n a) c n done front a todo refl s e others room)
    (lines_again c n done (front ++ a ∷ []) todo s (e ∙ sym (append_assoc front (a ∷ []) todo))
    others room)

-- ---- those of all screens

-- whether an alias is one of the screens below that number
abbrev is_below : ℕ → Alias → Bool
is_below n a = nat_lt a.screen n

counted : (n : ℕ) (aliases : List Alias)
    → length (filter (is_below (n + 1)) aliases)
    ≡ length (filter (is_below n) aliases) + length (filter (names_screen n) aliases)
counted n [] = refl
counted n (a ∷ more) = grind (arith, nat_tests, counted n more)

others_more : (c : Configuration) (n : ℕ) (done : List Alias) → IsSound c → Others c n done
    → Others c (n + 1) (done ++ aliases_in c n)
others_more c n done s others = λ front a back e h.
    let apart_from = others_at c front a back s e in
    let whole =
    ap (filter (names_screen n)) e
    ∙ passed n front a back (ne_eqb a.screen n (λ k. omega arith)) in
    all_append (is_other a.name) done (aliases_in c n) (others front a back e (omega arith))
    (ap (list_all (is_other a.name)) whole
    ∙ all_append (is_other a.name) (filter (names_screen n) front) (filter (names_screen n) back)
    (all_kept (is_other a.name) (names_screen n) front apart_from.before)
    (all_kept (is_other a.name) (names_screen n) back apart_from.behind))

blocks_again : (c : Configuration) (n len : ℕ) (done : List Alias) → IsSound c → Others c n done
    → n + len ≤ length c.screens → length done ≡ length (filter (is_below n) c.aliases)
    → ReadsText section.Aliases (with_aliases c done)
    (flat_map (aliases_of c) (range_with_len n len))
    (with_aliases c (done ++ flat_map (aliases_in c) (range_with_len n len)))
unfolding aliases_of
blocks_again c n zero done s others known count =
    subst
    (λ (k : List Alias). ReadsText section.Aliases (with_aliases c done) [] (with_aliases c k))
    (sym (append-nil done)) (no_text section.Aliases (with_aliases c done))
blocks_again c n (suc len) done s others known count =
    let own = aliases_in c n in
    let next : length (done ++ own) ≡ length (filter (is_below (n + 1)) c.aliases) =
    length-append done own ∙ omega (arith, counted n c.aliases) in
    let room : length done + length own ≤ 256 =
    omega (
      arith,
      length-append done own,
      length-filter (is_below (n + 1)) c.aliases,
      count_by-le-length (is_below (n + 1)) c.aliases,
      s.aliases,
    )
    in
    let from = with_aliases c done in
    let middle = with_aliases c (done ++ own) in
    let more = flat_map (aliases_in c) (range_with_len (n + 1) len) in
    let rest = flat_map (aliases_of c) (range_with_len (n + 1) len) in
    let below : ReadsTextBelow section.Aliases n from (flat_map (alias_text n) c.aliases) middle =
    subst
    (λ (k : List Alias).
    ReadsTextBelow section.Aliases n (with_aliases c k) (flat_map (alias_text n) c.aliases)
    middle)
    (append-nil done) (lines_again c n done [] c.aliases s refl others room) in
    text_both section.Aliases from middle (with_aliases c (done ++ (own ++ more))) (aliases_of c n)
    rest
    (block_again section.Aliases n from middle (flat_map (alias_text n) c.aliases) aliases_headers
    (sound_names c s) (omega arith) below)
    (subst (λ (k : List Alias). ReadsText section.Aliases middle rest (with_aliases c k))
    (append_assoc done own more)
    (blocks_again c (n + 1) len (done ++ own) s (others_more c n done s others) (omega arith) next))

none_below : (aliases : List Alias) → 0 ≡ length (filter (is_below 0) aliases)
none_below [] = refl
none_below (a ∷ more) = grind (arith, nat_tests, none_below more)

-- the aliases section, where the screens stand already
pub aliases_again : (c : Configuration) → IsSound c
    → ReadsText section.Aliases (with_aliases c []) (aliases_text c)
    (with_aliases c (flat_map (aliases_in c) (numbers_of c)))
unfolding numbers_of
aliases_again c s =
    blocks_again c 0 (length c.screens) [] s (λ front a back e h. refl) (omega arith)
    (none_below c.aliases)
