-- The made script is read under the made configuration.
use Rattle.std.proofs.Common.{◌≡◌, ℕ, zero, suc, ◌+◌, ◌<◌, ◌≤◌, List, [], ◌∷◌, ◌++◌, length, Result}
use Rattle.std.proofs.Common.{Ok, length-append, ◌*◌}
use Rattle.std.proofs.Common.{refl, ap, sym, subst, ◌∙◌, append_assoc, add-one, add-zero, zero-add}
use Rattle.std.proofs.Common.{false, map, arith}
use Rattle.std.specs.Prelude.{codes}
use Rattle.std.specs.List.{flat_map, range_with_len}
use Rattle.std.specs.Str.Lines.{lines}
use Rattle.std.proofs.lemmas.List.Concat.{flat_map-append}
use Rattle.std.proofs.lemmas.List.Folds.{flat_map-map}
use Rattle.std.proofs.lemmas.List.FromFn.{map-range_with_len_more, length-map-range_with_len}
use Rattle.std.proofs.lemmas.List.FromFn.{length-range_with_len}
use Rattle.std.proofs.lemmas.List.Sums.{fold_push}
use Rattle.share_base.specs.Names.{same_name}
use Rattle.text_lines.specs.LineByLine.{LeadsOver}
use Rattle.text_lines.specs.Lines.{line_text, trimmed}
use Rattle.text_lines.specs.Numbers.{decimal_of, digits_from}
use Rattle.text_lines.specs.Words.{words_of}
use Rattle.screen_config.specs.Configurations.{screen_of}
use Rattle.config_text.proofs.Runs.{ended, AreLines, lines_again, are_lines_both}
use Rattle.script_screen.specs.declared.script.ScriptLine.{ScriptLine}
use Rattle.script_screen.specs.declared.script.ScriptLine.TheVariants as line
use Rattle.script_screen.specs.Forms.{script_row}
use Rattle.script_screen.specs.Grammar.{words_judged, arguments_of}
use Rattle.script_screen.specs.NumberedLines.{TextRefusal, numbered, at_line}
use Rattle.script_screen.specs.Scripts.{key_after, button_after, key_is_down, button_is_down}
use Rattle.script_screen.specs.Texts.{ScriptSoFar, script_judged, script_start}
use Rattle.script_screen.specs.Verdicts.{ScriptAccepts}
use Rattle.generated_texts.specs.Events.{event_after, event_at, events}
use Rattle.generated_texts.specs.Lines.{is_key_down, is_button_down}
use Rattle.generated_texts.specs.Texts as texts
use Rattle.generated_texts.specs.Texts.{event_line, event_lines, script_text}
use Rattle.made_accepted.specs.Spoken.{made_config, made_line, made_lines, waits, made_script}
use Rattle.made_accepted.proofs.PlainWords.{joined, whole_literal, line_joined, judged_joined}
use Rattle.made_accepted.proofs.TakenLines.{so_far, quit_taken}
use Rattle.made_accepted.proofs.EventLines.{LeavesDown, spoken}

-- lines behind lines that are good
lead_on : {D E : Type 0} (judge : ℕ → D → List ℕ → Result D E) (n : ℕ) (from : D)
    (ls : List (List ℕ)) (middle : D) (ms : List (List ℕ)) (to : D)
    → LeadsOver judge n from ls middle → LeadsOver judge (n + length ls) middle ms to
    → LeadsOver judge n from (ls ++ ms) to
lead_on judge n from [] middle ms to h k =
    let place : n + 0 ≡ n = omega arith in
    subst (λ d. LeadsOver judge n d ms to) (sym h)
    (subst (λ (m : ℕ). LeadsOver judge m middle ms to) place k)
lead_on judge n from (l ∷ ls) middle ms to h k =
    let place : n + length (l ∷ ls) ≡ n + 1 + length ls = omega arith in (
      h.0,
      h.1,
      lead_on judge (n + 1) h.0 ls middle ms to h.2
          (subst (λ (m : ℕ). LeadsOver judge m middle ms to) place k),
    )

-- ---- one event more

-- the lines behind the primary screen, up to the event at an index
abbrev lines_before : ℕ → ℕ → List ScriptLine
lines_before seed i = waits ++ made_lines seed i

lines_more : (seed i : ℕ)
    → lines_before seed i ++ made_line seed i ∷ [] ≡ lines_before seed (i + 1)
unfolding made_lines
lines_more seed i =
    append_assoc waits (made_lines seed i) (made_line seed i ∷ [])
    ∙ ap (λ (ls : List ScriptLine). waits ++ ls)
    (sym (map-range_with_len_more (made_line seed) 0 i i (zero-add i)))

keys_more : (seed i b : ℕ) → key_is_down (lines_before seed i) b ≡ is_key_down (events seed i) b
    → key_is_down (lines_before seed (i + 1)) b ≡ is_key_down (events seed (i + 1)) b
unfolding event_at event_after
keys_more seed i b h =
    ap (λ (ls : List ScriptLine). key_is_down ls b) (sym (lines_more seed i))
    ∙ fold_push (key_after b) false (lines_before seed i) (made_line seed i)
    ∙ ap (λ down. key_after b down (made_line seed i)) h ∙ (spoken seed i).keys b
    ∙ ap (λ es. is_key_down es b) (sym (map-range_with_len_more (event_at seed) 0 i i (zero-add i)))

buttons_more : (seed i b : ℕ)
    → button_is_down (lines_before seed i) b ≡ is_button_down (events seed i) b
    → button_is_down (lines_before seed (i + 1)) b ≡ is_button_down (events seed (i + 1)) b
unfolding event_at event_after
buttons_more seed i b h =
    ap (λ (ls : List ScriptLine). button_is_down ls b) (sym (lines_more seed i))
    ∙ fold_push (button_after b) false (lines_before seed i) (made_line seed i)
    ∙ ap (λ down. button_after b down (made_line seed i)) h ∙ (spoken seed i).buttons b
    ∙ ap (λ es. is_button_down es b)
    (sym (map-range_with_len_more (event_at seed) 0 i i (zero-add i)))

left_down : (seed i : ℕ) → LeavesDown (lines_before seed i) seed i
unfolding made_lines
left_down seed zero = record { keys = λ b. refl; buttons = λ b. refl }
left_down seed (suc i) =
    let so_far = left_down seed i in
    subst (λ (k : ℕ). LeavesDown (lines_before seed k) seed k) (add-one i)
    (record {
      keys = λ b. keys_more seed i b (so_far.keys b);
      buttons = λ b. buttons_more seed i b (so_far.buttons b);
    })

-- ---- the lines of the text

raw_line : ℕ → ℕ → List ℕ
raw_line seed i = joined ((spoken seed i).word ∷ (spoken seed i).words)

line_is : (seed i : ℕ) → event_line seed i ≡ ended (raw_line seed i)
unfolding raw_line event_at event_after
line_is seed i = (spoken seed i).text

all_are : (f g : ℕ → List ℕ) → ((i : ℕ) → f i ≡ g i) → (is : List ℕ) → flat_map f is ≡ flat_map g is
all_are f g h [] = refl
all_are f g h (i ∷ is) =
    ap (λ (t : List ℕ). t ++ flat_map f is) (h i)
    ∙ ap (λ (t : List ℕ). g i ++ t) (all_are f g h is)

-- with its newline
line_short : (seed i : ℕ) → length (event_line seed i) ≤ 200
unfolding event_at event_after
line_short seed i =
    let s = spoken seed i in
    omega
    (arith, s.short, ap length s.text, length-append (joined (s.word ∷ s.words)) (10 ∷ []))

all_short : (f : ℕ → List ℕ) → ((i : ℕ) → length (f i) ≤ 200) → (is : List ℕ)
    → length (flat_map f is) ≤ 200 * length is
all_short f h [] = omega arith
all_short f h (i ∷ is) =
    omega (arith, h i, all_short f h is, length-append (f i) (flat_map f is))

lines_short : (seed count : ℕ) → length (event_lines seed count) ≤ 200 * count
unfolding event_lines
lines_short seed count =
    omega (
      arith,
      all_short (event_line seed) (line_short seed) (range_with_len 0 count),
      length-range_with_len 0 count,
    )

text_short : (lines : List ℕ) → length lines ≤ 200 * 2000
    → length (texts.script_start ++ lines ++ codes "quit\n") ≤ 16777216
text_short lines h =
    omega (
      arith,
      h,
      length-append texts.script_start (lines ++ codes "quit\n"),
      length-append lines (codes "quit\n"),
    )

pub script_short : (seed : ℕ) → length (script_text seed) ≤ 16777216
script_short seed = text_short (event_lines seed 2000) (lines_short seed 2000)

raw_lines : ℕ → ℕ → List (List ℕ)
raw_lines seed count = map (raw_line seed) (range_with_len 0 count)

lines_are : (seed count : ℕ) → event_lines seed count ≡ flat_map ended (raw_lines seed count)
unfolding event_lines raw_lines
lines_are seed count =
    all_are (event_line seed) (λ i. ended (raw_line seed i)) (line_is seed) (range_with_len 0 count)
    ∙ sym (flat_map-map ended (raw_line seed) (range_with_len 0 count))

raw_are_lines : (seed : ℕ) (is : List ℕ) → AreLines (map (raw_line seed) is)
unfolding raw_line
raw_are_lines seed [] = tt
raw_are_lines seed (i ∷ is) = (
  line_joined (spoken seed i).word (spoken seed i).words (spoken seed i).whole,
  raw_are_lines seed is,
)

-- ---- read one after another

abbrev Step : Type 0
Step = Result ScriptSoFar TextRefusal

one_read : (seed i n : ℕ) → n ≤ 1000000
    → numbered script_judged n (so_far (lines_before seed i)) (raw_line seed i)
    ≡ Ok (so_far (lines_before seed (i + 1)))
unfolding raw_line
one_read seed i n few =
    let s = spoken seed i in
    judged_joined script_judged n (so_far (lines_before seed i)) s.word s.words few s.whole
    ∙ ap (at_line n) (s.makes (lines_before seed i) (left_down seed i))
    ∙ ap (λ (ls : List ScriptLine). let r : Step = Ok (so_far ls) in r) (lines_more seed i)

events_read : (seed i count n : ℕ) → n + count ≤ 1000000
    → LeadsOver (numbered script_judged) n (so_far (lines_before seed i))
    (map (raw_line seed) (range_with_len i count)) (so_far (lines_before seed (i + count)))
events_read seed i zero n few =
    ap (λ (k : ℕ). so_far (lines_before seed k)) (sym (add-zero i))
events_read seed i (suc count) n few =
    let place : i + 1 + count ≡ i + suc count = omega arith in (
      so_far (lines_before seed (i + 1)),
      one_read seed i n (omega arith),
      subst
          (λ (k : ℕ). LeadsOver (numbered script_judged) (n + 1)
          (so_far (lines_before seed (i + 1))) (map (raw_line seed) (range_with_len (i + 1) count))
          (so_far (lines_before seed k)))
          place (events_read seed (i + 1) count (n + 1) (omega arith)),
    )

-- ---- the whole text

first_lines : List (List ℕ)
first_lines = codes "primary desk 1920 1080" ∷ codes "await s1" ∷ codes "await s2"
    ∷ codes "await s3" ∷ []

first_read : LeadsOver (numbered script_judged) 1 (script_start made_config) first_lines
    (so_far waits)
unfolding first_lines made_config line_text trimmed words_of words_judged script_row arguments_of
    decimal_of digits_from screen_of same_name
first_read = (_, refl, (_, refl, (_, refl, (_, refl, refl))))

all_lines_of : ℕ → ℕ → List (List ℕ)
all_lines_of seed count = first_lines ++ (raw_lines seed count ++ codes "quit" ∷ [])

text_is : (seed count : ℕ)
    → texts.script_start ++ event_lines seed count ++ codes "quit\n"
    ≡ flat_map ended (all_lines_of seed count)
unfolding all_lines_of first_lines
text_is seed count =
    ap (λ (t : List ℕ). texts.script_start ++ t ++ codes "quit\n") (lines_are seed count)
    ∙ ap (λ (t : List ℕ). texts.script_start ++ t)
    (sym (flat_map-append ended (raw_lines seed count) (codes "quit" ∷ [])))

whole_lines : (seed count : ℕ) → AreLines (all_lines_of seed count)
unfolding all_lines_of first_lines raw_lines
whole_lines seed count =
    are_lines_both first_lines (raw_lines seed count ++ codes "quit" ∷ [])
    ((refl, refl), ((refl, refl), ((refl, refl), ((refl, refl), tt))))
    (are_lines_both (raw_lines seed count) (codes "quit" ∷ [])
    (raw_are_lines seed (range_with_len 0 count)) ((refl, refl), tt))

quit_read : (n : ℕ) (above : List ScriptLine) → n ≤ 1000000
    → numbered script_judged n (so_far above) (codes "quit") ≡ Ok (so_far (above ++ line.Quit ∷ []))
quit_read n above few =
    judged_joined script_judged n (so_far above) (codes "quit") [] few
    (whole_literal (codes "quit") refl, tt)
    ∙ ap (at_line n) (quit_taken above)

events_lead : (seed count n : ℕ) → n + count ≤ 1000000
    → LeadsOver (numbered script_judged) n (so_far waits) (raw_lines seed count)
    (so_far (lines_before seed count))
unfolding made_lines raw_lines
events_lead seed count n few =
    subst
    (λ (k : ℕ). LeadsOver (numbered script_judged) n (so_far waits)
    (map (raw_line seed) (range_with_len 0 count)) (so_far (lines_before seed k)))
    (zero-add count) (events_read seed 0 count n few)

few_lines : (seed count : ℕ) → length (raw_lines seed count) ≡ count
unfolding raw_lines
few_lines seed count = length-map-range_with_len (raw_line seed) 0 count

all_read : (seed count : ℕ) → count < 999990
    → LeadsOver (numbered script_judged) 1 (script_start made_config) (all_lines_of seed count)
    (so_far (lines_before seed count ++ line.Quit ∷ []))
unfolding all_lines_of first_lines
all_read seed count few =
    let events = raw_lines seed count in
    let end = so_far (lines_before seed count ++ line.Quit ∷ []) in
    lead_on (numbered script_judged) 1 (script_start made_config) first_lines (so_far waits)
    (events ++ codes "quit" ∷ []) end first_read
    (lead_on (numbered script_judged) 5 (so_far waits) events (so_far (lines_before seed count))
    (codes "quit" ∷ []) end (events_lead seed count 5 (omega arith)) (
      end,
      quit_read (5 + length events) (lines_before seed count)
          (omega (arith, few_lines seed count)),
      refl,
    ))

accepted_with : (seed count : ℕ) (text : List ℕ) → count < 999990
    → text ≡ texts.script_start ++ event_lines seed count ++ codes "quit\n"
    → LeadsOver (numbered script_judged) 1 (script_start made_config) (lines text)
    (so_far (lines_before seed count ++ line.Quit ∷ []))
accepted_with seed count text few e =
    subst
    (λ (ls : List (List ℕ)). LeadsOver (numbered script_judged) 1 (script_start made_config) ls
    (so_far (lines_before seed count ++ line.Quit ∷ [])))
    (sym (ap lines (e ∙ text_is seed count)
    ∙ lines_again (all_lines_of seed count) (whole_lines seed count)))
    (all_read seed count few)

pub script_accepted : (seed : ℕ) → ScriptAccepts made_config (script_text seed) (made_script seed)
script_accepted seed = record {
  draft = so_far (lines_before seed 2000 ++ line.Quit ∷ []);
  good = accepted_with seed 2000 (script_text seed) (omega arith) refl;
  primary = refl;
  lines_are = refl;
}
