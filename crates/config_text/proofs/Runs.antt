-- Lines of a section, read one after another, and texts that are made of them.
use Rattle.std.proofs.Common.{◌≡◌, ℕ, ◌+◌, ◌-◌, ◌<◌, true, false, not, ◌==◌, List, [], ◌∷◌, ◌++◌}
use Rattle.std.proofs.Common.{length, Result, Ok, Option, Some, None, refl, ap, sym, ◌∙◌}
use Rattle.std.proofs.Common.{append_assoc, append-nil, length-append, subst, get_or, arith}
use Rattle.std.specs.Prelude.{codes, slice_index}
use Rattle.std.specs.List.{flat_map, list_all, position, All, slice_split}
use Rattle.std.specs.Str.{bytes_eq}
use Rattle.std.specs.Str.Lines.{lines, lines_of_parts, strip_carriage_return}
use Rattle.std.proofs.lemmas.Bool.{and_parts, not-true, eqb-true}
use Rattle.std.proofs.lemmas.Option.{slice_get-get_or}
use Rattle.std.proofs.lemmas.List.Concat.{flat_map-append}
use Rattle.std.proofs.lemmas.List.Splits.{slice_split_at, length-slice_split}
use Rattle.share_base.proofs.ListTests.{all_weaker, all_append, all_at, position_none}
use Rattle.text_lines.specs.Bytes.{is_allowed, unblanked}
use Rattle.text_lines.specs.Lines.{trimmed, line_text, words_from}
use Rattle.text_lines.specs.Reading.{◌>>=◌}
use Rattle.text_lines.proofs.Trims.{trimmed_whole}
use Rattle.text_lines.proofs.CleanWords.{is_plain, IsClean}
use Rattle.text_lines.proofs.Cuts.{parts_again}
use Rattle.text_lines.specs.LineByLine.{all_lines}
use Rattle.text_lines.proofs.LineRuns.{after_good}
use Rattle.config_text.proofs.CleanLines.{trimmed_tabs, tabs_off, tight_whole, differs, not_end}
use Rattle.config_text.specs.declared.faults.ConfigRefusal.{ConfigRefusal}
use Rattle.config_text.specs.declared.sections.Opened.{Opened}
use Rattle.config_text.specs.declared.sections.Section.{Section}
use Rattle.screen_config.specs.Configurations.{Configuration}
use Rattle.config_text.specs.Drafts.{Draft}
use Rattle.config_text.specs.Lines.{judged, judged_as, placed}
use Rattle.config_text.specs.Normal.{header_text, one_tab}
use Rattle.config_text.specs.Sections.{words_in, in_section}

-- ---- lines in a section

-- the draft of an open section
abbrev pub draft_in : Opened → Option ℕ → Configuration → Draft
draft_in o h c = record { opened = Some o; header = h; config = c }

-- these lines of an open section lead from one configuration to the other, whatever header stands
-- above
abbrev pub Reads : Section → Configuration → List (List ℕ) → Configuration → Type 0
Reads s from ls to =
    (n : ℕ) (o : Opened) (h : Option ℕ) → o.section ≡ s
    → (k : Option ℕ) × (all_lines judged n (draft_in o h from) ls ≡ Ok (draft_in o k to))

-- the same below a header that stays
abbrev pub ReadsBelow : Section → ℕ → Configuration → List (List ℕ) → Configuration → Type 0
ReadsBelow s screen from ls to =
    (n : ℕ) (o : Opened) → o.section ≡ s
    → all_lines judged n (draft_in o (Some screen) from) ls ≡ Ok (draft_in o (Some screen) to)

-- lines behind lines that are good
pub read_on : (n : ℕ) (d : Draft) (ls : List (List ℕ)) (e : Draft) (ms : List (List ℕ))
    → all_lines judged n d ls ≡ Ok e
    → all_lines judged n d (ls ++ ms) ≡ all_lines judged (n + length ls) e ms
unfolding all_lines
read_on n d [] e ms h =
    let same : d ≡ e = cc in
    let place : n ≡ n + 0 = omega arith in
    ap (λ (k : ℕ). all_lines judged k d ms) place
    ∙ ap (λ (x : Draft). all_lines judged (n + 0) x ms) same
read_on n d (l ∷ ls) e ms h =
    let next = after_good (judged n d l) (λ m. all_lines judged (n + 1) m ls) e h in
    let place : n + 1 + length ls ≡ n + length (l ∷ ls) = omega arith in
    ap (λ (r : Result Draft ConfigRefusal). r >>= λ m. all_lines judged (n + 1) m (ls ++ ms)) next.1
    ∙ read_on (n + 1) next.0 ls e ms next.2 ∙ ap (λ (k : ℕ). all_lines judged k e ms) place

pub reads_both : (s : Section) (a b c : Configuration) (ls ms : List (List ℕ)) → Reads s a ls b
    → Reads s b ms c → Reads s a (ls ++ ms) c
reads_both s a b c ls ms r q = λ n o h e.
    let first = r n o h e in
    let second = q (n + length ls) o first.0 e in
    (second.0, read_on n (draft_in o h a) ls (draft_in o first.0 b) ms first.1 ∙ second.1)

pub below_both : (s : Section) (screen : ℕ) (a b c : Configuration) (ls ms : List (List ℕ))
    → ReadsBelow s screen a ls b → ReadsBelow s screen b ms c → ReadsBelow s screen a (ls ++ ms) c
below_both s screen a b c ls ms r q =
    λ n o e. read_on n (draft_in o (Some screen) a) ls (draft_in o (Some screen) b) ms (r n o e)
    ∙ q (n + length ls) o e

-- ---- the words of a line

abbrev pub AreTabs : List ℕ → Type 0
AreTabs tabs = list_all (λ b. b == 9) tabs ≡ true

tab_plain : (b : ℕ) → (b == 9) ≡ true → is_plain b ≡ true
tab_plain b h = subst (λ (k : ℕ). is_plain k ≡ true) (sym (eqb-true b 9 h)) refl

plain_allowed : (b : ℕ) → is_plain b ≡ true → not (not (is_allowed b)) ≡ true
plain_allowed b h = rw ((and_parts (is_allowed b) (not (b == 35)) h).0) refl

plain_line : (tabs xs : List ℕ) → AreTabs tabs → IsClean xs → list_all is_plain (tabs ++ xs) ≡ true
plain_line tabs xs t c =
    all_append is_plain tabs xs (all_weaker (λ b. b == 9) is_plain tab_plain tabs t) c.plain

by_words : (n end : ℕ) (d : Draft) (xs : List ℕ) → 0 < length xs
    → judged_as (words_from xs end) n d ≡ placed n end (words_in n (end - length xs + 1) d xs)
by_words n end d [] h = absurd (omega arith)
by_words n end d (x ∷ xs) h = refl

-- a line of clean words behind tabs is judged by its words
pub judged_clean : (n : ℕ) (d : Draft) (tabs xs : List ℕ) → AreTabs tabs → IsClean xs
    → judged n d (tabs ++ xs)
    ≡ placed n (length (tabs ++ xs)) (words_in n (length (tabs ++ xs) - length xs + 1) d xs)
unfolding judged line_text
judged_clean n d tabs xs t c =
    let plain = plain_line tabs xs t c in
    let comment : position (λ b. b == 35) (tabs ++ xs) ≡ None =
    position_none (λ b. b == 35) (tabs ++ xs)
    (all_weaker is_plain (λ b. not (b == 35))
    (λ b h. (and_parts (is_allowed b) (not (b == 35)) h).1) (tabs ++ xs) plain)
    in
    let forbidden : position (λ b. not (is_allowed b)) (tabs ++ xs) ≡ None =
    position_none (λ b. not (is_allowed b)) (tabs ++ xs)
    (all_weaker is_plain (λ b. not (not (is_allowed b))) plain_allowed (tabs ++ xs) plain)
    in
    let whole : trimmed (tabs ++ xs) ≡ tabs ++ xs =
    trimmed_tabs tabs xs c.some (trimmed_whole xs c.some c.ends) in
    let words : unblanked (tabs ++ xs) ≡ xs = tabs_off tabs xs t ∙ tight_whole xs c.tight in
    rw (comment, forbidden, whole, words) (by_words n (length (tabs ++ xs)) d xs c.some)

-- the same in an open section, of words other than `end`
pub judged_in : (s : Section) (n : ℕ) (o : Opened) (h : Option ℕ) (c : Configuration)
    (tabs xs : List ℕ) (e : Draft)
    → o.section ≡ s → AreTabs tabs → IsClean xs
    → bytes_eq xs (codes "end") ≡ false → in_section s (draft_in o h c) xs ≡ Ok e
    → judged n (draft_in o h c) (tabs ++ xs) ≡ Ok e
unfolding words_in
judged_in s n o h c tabs xs e same t clean other good =
    let words : in_section o.section (draft_in o h c) xs ≡ Ok e =
    ap (λ (k : Section). in_section k (draft_in o h c) xs) same ∙ good in
    judged_clean n (draft_in o h c) tabs xs t clean ∙ rw (other, words) refl

-- ---- texts that are made of lines

abbrev pub ended : List ℕ → List ℕ
ended l = l ++ 10 ∷ []

-- a line holds no LF, and no CR at its end
abbrev pub IsLine : List ℕ → Type 0
IsLine l = (list_all (λ b. not (b == 10)) l ≡ true) × ((slice_index l (length l - 1) == 13) ≡ false)

abbrev pub AreLines : List (List ℕ) → Type 0
AreLines [] = Unit {0}
AreLines (l ∷ ls) = IsLine l × AreLines ls

no_line_feed : (l : List ℕ) → list_all (λ b. not (b == 10)) l ≡ true
    → All (λ b. (b == 10) ≡ false) l
no_line_feed l h =
    λ k d lt.
    not-true (get_or l k d == 10)
    (all_at (λ b. not (b == 10)) l k (get_or l k d) h (slice_get-get_or l k d lt))

no_return : (l : List ℕ) → (slice_index l (length l - 1) == 13) ≡ false
    → strip_carriage_return l ≡ l
no_return l e = rw e refl

pub lines_again : (ls : List (List ℕ)) → AreLines ls → lines (flat_map ended ls) ≡ ls
lines_again [] h = refl
lines_again (l ∷ ls) h =
    let parts = slice_split (λ b. b == 10) (flat_map ended ls) in
    let some : 0 < length parts =
    omega (arith, length-slice_split (λ b. b == 10) (flat_map ended ls)) in
    let cut : slice_split (λ b. b == 10) (flat_map ended (l ∷ ls)) ≡ l ∷ parts =
    ap (slice_split (λ b. b == 10)) (append_assoc l (10 ∷ []) (flat_map ended ls))
    ∙ slice_split_at (λ b. b == 10) l 10 (flat_map ended ls) (no_line_feed l h.0.0) refl in
    ap lines_of_parts cut ∙ parts_again l parts some
    ∙ ap (λ (k : List ℕ). k ∷ lines_of_parts parts) (no_return l h.0.1)
    ∙ ap (λ (t : List (List ℕ)). l ∷ t) (lines_again ls h.1)

pub are_lines_both : (ls ms : List (List ℕ)) → AreLines ls → AreLines ms → AreLines (ls ++ ms)
are_lines_both [] ms h k = k
are_lines_both (l ∷ ls) ms h k = (h.0, are_lines_both ls ms h.1 k)

-- this text is made of lines which, in that section, lead from one configuration to the other
pub record ReadsText (s : Section) (from : Configuration) (text : List ℕ) (to : Configuration)
    : Type 0 where
  pub parts : List (List ℕ)
  pub made : text ≡ flat_map ended parts
  pub whole : AreLines parts
  pub reads : Reads s from parts to

-- the same below a header that stays
pub record ReadsTextBelow (s : Section) (screen : ℕ) (from : Configuration) (text : List ℕ)
    (to : Configuration) : Type 0 where
  pub parts : List (List ℕ)
  pub made : text ≡ flat_map ended parts
  pub whole : AreLines parts
  pub reads : ReadsBelow s screen from parts to

none_read : (n : ℕ) (d : Draft) → all_lines judged n d [] ≡ Ok d
unfolding all_lines
none_read n d = refl

one_read : (n : ℕ) (d : Draft) (l : List ℕ) (e : Draft) → judged n d l ≡ Ok e
    → all_lines judged n d (l ∷ []) ≡ Ok e
unfolding all_lines
one_read n d l e h = ap (λ (r : Result Draft ConfigRefusal). r >>= λ m. Ok m) h

-- one line of clean words behind tabs
pub is_line : (tabs xs : List ℕ) → AreTabs tabs → IsClean xs → IsLine (tabs ++ xs)
is_line tabs xs t c =
    let plain = plain_line tabs xs t c in
    let last = length (tabs ++ xs) - 1 in
    let some : last < length (tabs ++ xs) = omega (arith, length-append tabs xs, c.some) in (
      all_weaker is_plain (λ b. not (b == 10)) (λ b h. rw (differs is_plain b 10 h refl) refl)
          (tabs ++ xs) plain,
      differs is_plain (get_or (tabs ++ xs) last 0) 13
          (all_at is_plain (tabs ++ xs) last (get_or (tabs ++ xs) last 0) plain
          (slice_get-get_or (tabs ++ xs) last 0 some))
          refl,
    )

one_made : (l : List ℕ) → l ++ 10 ∷ [] ≡ flat_map ended (l ∷ [])
one_made l = sym (append-nil (l ++ 10 ∷ []))

pub no_text : (s : Section) (c : Configuration) → ReadsText s c [] c
no_text s c =
    record {
      parts = [];
      made = refl;
      whole = tt;
      reads = λ n o h e. (h, none_read n (draft_in o h c));
    }

pub no_text_below : (s : Section) (screen : ℕ) (c : Configuration) → ReadsTextBelow s screen c [] c
no_text_below s screen c =
    record {
      parts = [];
      made = refl;
      whole = tt;
      reads = λ n o e. none_read n (draft_in o (Some screen) c);
    }

pub made_both : (text more : List ℕ) (ls ms : List (List ℕ)) → text ≡ flat_map ended ls
    → more ≡ flat_map ended ms → text ++ more ≡ flat_map ended (ls ++ ms)
made_both text more ls ms h k =
    ap (λ (t : List ℕ). t ++ more) h ∙ ap (λ (t : List ℕ). flat_map ended ls ++ t) k
    ∙ sym (flat_map-append ended ls ms)

pub text_both : (s : Section) (a b c : Configuration) (text more : List ℕ) → ReadsText s a text b
    → ReadsText s b more c → ReadsText s a (text ++ more) c
text_both s a b c text more r q = record {
  parts = r.parts ++ q.parts;
  made = made_both text more r.parts q.parts r.made q.made;
  whole = are_lines_both r.parts q.parts r.whole q.whole;
  reads = reads_both s a b c r.parts q.parts r.reads q.reads;
}

pub text_below_both : (s : Section) (screen : ℕ) (a b c : Configuration) (text more : List ℕ)
    → ReadsTextBelow s screen a text b → ReadsTextBelow s screen b more c
    → ReadsTextBelow s screen a (text ++ more) c
text_below_both s screen a b c text more r q = record {
  parts = r.parts ++ q.parts;
  made = made_both text more r.parts q.parts r.made q.made;
  whole = are_lines_both r.parts q.parts r.whole q.whole;
  reads = below_both s screen a b c r.parts q.parts r.reads q.reads;
}

-- one line below a header
pub line_below : (s : Section) (screen : ℕ) (from to : Configuration) (tabs xs : List ℕ)
    → AreTabs tabs → IsClean xs → bytes_eq xs (codes "end") ≡ false
    → ((o : Opened)
    → in_section s (draft_in o (Some screen) from) xs ≡ Ok (draft_in o (Some screen) to))
    → ReadsTextBelow s screen from ((tabs ++ xs) ++ 10 ∷ []) to
line_below s screen from to tabs xs t c other good = record {
  parts = (tabs ++ xs) ∷ [];
  made = one_made (tabs ++ xs);
  whole = (is_line tabs xs t c, tt);
  reads =
      λ n o e.
      one_read n (draft_in o (Some screen) from) (tabs ++ xs) (draft_in o (Some screen) to)
      (judged_in s n o (Some screen) from tabs xs (draft_in o (Some screen) to) e t c other
      (good o));
}

-- one line, whatever header stands above
pub line_of_text : (s : Section) (from to : Configuration) (tabs xs : List ℕ) → AreTabs tabs
    → IsClean xs → bytes_eq xs (codes "end") ≡ false
    → ((o : Opened) (h : Option ℕ) → in_section s (draft_in o h from) xs ≡ Ok (draft_in o h to))
    → ReadsText s from ((tabs ++ xs) ++ 10 ∷ []) to
line_of_text s from to tabs xs t c other good = record {
  parts = (tabs ++ xs) ∷ [];
  made = one_made (tabs ++ xs);
  whole = (is_line tabs xs t c, tt);
  reads =
      λ n o h e. (
        h,
        one_read n (draft_in o h from) (tabs ++ xs) (draft_in o h to)
            (judged_in s n o h from tabs xs (draft_in o h to) e t c other (good o h)),
      );
}

header_made : (name : List ℕ) → header_text name ≡ ended (one_tab ++ (name ++ 58 ∷ []))
unfolding header_text
header_made name = ap (λ (t : List ℕ). 9 ∷ t) (sym (append_assoc name (58 ∷ []) (10 ∷ [])))

-- a header's line, and the lines below it
pub block_of_text : (s : Section) (screen : ℕ) (from middle to : Configuration)
    (name below : List ℕ)
    → IsClean (name ++ 58 ∷ [])
    → ((o : Opened) (h : Option ℕ)
    → in_section s (draft_in o h from) (name ++ 58 ∷ []) ≡ Ok (draft_in o (Some screen) middle))
    → ReadsTextBelow s screen middle below to → ReadsText s from (header_text name ++ below) to
unfolding header_text all_lines
block_of_text s screen from middle to name below c good rest = record {
  parts = (one_tab ++ (name ++ 58 ∷ [])) ∷ rest.parts;
  made =
      ap (λ (t : List ℕ). header_text name ++ t) rest.made
      ∙ ap (λ (t : List ℕ). t ++ flat_map ended rest.parts) (header_made name);
  whole = (is_line one_tab (name ++ 58 ∷ []) refl c, rest.whole);
  reads = λ n o h e. (
    Some screen,
    ap (λ (r : Result Draft ConfigRefusal). r >>= λ m. all_lines judged (n + 1) m rest.parts)
        (judged_in s n o h from one_tab (name ++ 58 ∷ []) (draft_in o (Some screen) middle) e refl c
        (not_end name) (good o h))
        ∙ rest.reads (n + 1) o e,
  );
}
