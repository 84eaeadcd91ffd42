-- Links that are printed are read again.
use Rattle.std.proofs.Common.{◌≡◌, ℕ, zero, suc, ◌+◌, ◌*◌, ◌<◌, ◌≤◌, true, false, List, [], ◌∷◌}
use Rattle.std.proofs.Common.{◌++◌, length, Option, Some, None, nat_lt, refl, ap, sym, subst, ◌∙◌}
use Rattle.std.proofs.Common.{append_assoc, append-nil, length-append, arith}
use Rattle.std.specs.Prelude.{Contains}
use Rattle.std.specs.List.{flat_map, list_any, range_with_len}
use Rattle.std.specs.Option.{option_to_list}
use Rattle.std.proofs.lemmas.Bool.{and_parts, ltb-true}
use Rattle.std.proofs.lemmas.List.Concat.{flat_map-append}
use Rattle.std.proofs.lemmas.List.Elements.{All-contains}
use Rattle.std.proofs.lemmas.List.Sums.{AllPass-from_list_all}
use Rattle.share_base.specs.declared.shape.Side.{Side}
use Rattle.share_base.specs.declared.shape.Side.TheVariants.{Left}
use Rattle.screen_links.specs.declared.link.Link.{Link}
use Rattle.screen_links.specs.Adding.{HasGoodRanges}
use Rattle.option_table.specs.Settings.{none_set}
use Rattle.config_text.specs.declared.sections.Section.TheVariants as section
use Rattle.screen_config.specs.declared.screens.Alias.{Alias}
use Rattle.screen_config.specs.Configurations.{Configuration}
use Rattle.config_text.specs.Judging.{overlaps}
use Rattle.config_text.specs.Normal.{two_tabs, block_text, link_text, maybe_link, link_at}
use Rattle.config_text.specs.Normal.{side_links, links_of, links_text}
use Rattle.config_text.specs.Sections.{in_section, link_line}
use Rattle.share_base.specs.Sides.{sides}
use Rattle.screen_config.specs.Sound.{IsSound, link_below}
use Rattle.screen_config.specs.Values.{name_of, numbers_of, hundredths, link_beginning, links_on}
use Rattle.screen_config.specs.Values.{links_in}
use Rattle.config_text.proofs.CleanLines.{equals_no_end, equals_no_header}
use Rattle.config_text.proofs.KnownAgain.{sound_names, is_name_again, known_again, links_headers}
use Rattle.config_text.proofs.KnownAgain.{block_again}
use Rattle.config_text.proofs.NewLinks.{link_taken}
use Rattle.config_text.proofs.Picking.{filter_map_flat}
use Rattle.config_text.proofs.PrintedLinks.{printed, link_words, link_read, link_spelled}
use Rattle.config_text.proofs.PrintedLinks.{link_equals, link_clean}
use Rattle.config_text.proofs.RisingLinks.{Rises, rank, rank_of, rises_le, none_before, no_more}
use Rattle.config_text.proofs.RisingLinks.{in_screen, all_rise}
use Rattle.config_text.proofs.SpelledLinks.{link_again}
use Rattle.config_text.proofs.Runs.{ReadsText, ReadsTextBelow, no_text, no_text_below, text_both}
use Rattle.config_text.proofs.Runs.{text_below_both, line_below}

-- ---- the text of a list of links

abbrev texts_of : Configuration → List Link → List ℕ
texts_of c links = flat_map (link_text c) links

each_text : {K : Type 0} (c : Configuration) (text : K → List ℕ) (links : K → List Link)
    → ((k : K) → text k ≡ texts_of c (links k)) → (keys : List K)
    → flat_map text keys ≡ texts_of c (flat_map links keys)
each_text c text links e [] = refl
each_text c text links e (k ∷ ks) =
    rw (e k, each_text c text links e ks)
    (sym (flat_map-append (link_text c) (links k) (flat_map links ks)))

one_text : (c : Configuration) (o : Option Link) → maybe_link c o ≡ texts_of c (option_to_list o)
one_text c None = refl
one_text c (Some l) = sym (append-nil (link_text c l))

pub side_text_is : (c : Configuration) (n : ℕ) (side : Side)
    → side_links c n side ≡ texts_of c (links_on c n side)
unfolding side_links links_on link_at
side_text_is c n side =
    each_text c (link_at c n side) (λ a. option_to_list (link_beginning c n side a))
    (λ a. one_text c (link_beginning c n side a)) hundredths
    ∙ ap (texts_of c) (sym (filter_map_flat (link_beginning c n side) hundredths))

-- ---- one link

-- the screens of a configuration with these aliases and links, before its options
abbrev with_links : Configuration → List Alias → List Link → Configuration
with_links c aliases links =
    record {
      screens = c.screens;
      aliases = aliases;
      links = links;
      settings = none_set;
      hotkeys = [];
    }

target_known : (c : Configuration) (l : Link) → IsSound c → Contains c.links l
    → l.to.0 < length c.screens
target_known c l s there =
    let below =
    All-contains (λ (k : Link). link_below (length c.screens) k ≡ true) c.links l
    (AllPass-from_list_all (link_below (length c.screens)) c.links s.between_screens) there
    in
    ltb-true _ _
    (and_parts (nat_lt l.from.0 (length c.screens)) (nat_lt l.to.0 (length c.screens)) below).1

line_again : (c : Configuration) (aliases : List Alias) (taken : List Link) (l : Link) → IsSound c
    → Contains c.links l → list_any (overlaps l) taken ≡ false → length taken < 1024
    → ReadsTextBelow section.Links l.from.0 (with_links c aliases taken) (link_text c l)
    (with_links c aliases (taken ++ l ∷ []))
unfolding link_text in_section link_line
line_again c aliases taken l s there free room =
    let good = All-contains HasGoodRanges c.links l s.links.ranges there in
    let known = target_known c l s there in
    let name = name_of c l.to.0 in
    let named = is_name_again c l.to.0 (sound_names c s) known in
    let from = with_links c aliases taken in
    let to = with_links c aliases (taken ++ l ∷ []) in
    let words = link_words l.side l.range name l.onto in
    let read = link_read l.side l.range name l.onto in
    let equals = link_equals l.side l.range name l.onto in
    let new =
    link_taken (length words) from to l.from.0 l.to.0 read l.range l.onto
    (known_again from l.to.0 _ (sound_names c s) known) ((printed l.range good.0).judged _)
    ((printed l.onto good.1).judged _) free room refl in
    line_below section.Links l.from.0 from to two_tabs words refl
    (link_clean l.side l.range name l.onto good.0 named good.1) (equals_no_end words equals)
    (λ o.
    rw (
      equals_no_header words equals,
      link_again words read (link_spelled l.side l.range name l.onto good.0 named good.1),
      new,
    )
    refl)

-- ---- the links of a screen

abbrev all_links : Configuration → List Link
all_links c = flat_map (links_in c) (numbers_of c)

room_for : (c : Configuration) (taken : List Link) (l : Link) (back : List Link) → IsSound c
    → all_links c ≡ taken ++ l ∷ back → length taken < 1024
room_for c taken l back s e =
    omega (
      arith,
      no_more c.links 0 (400 * length c.screens) (all_links c) (all_rise c),
      s.links.few,
      ap length e,
      length-append taken (l ∷ back),
    )

by_side : (side : Side) (from n a : ℕ) → a < 100 → 400 * n ≤ rank from side a
    → rank from side a < 400 * (n + 1) → from ≡ n
by_side Left from n a small low high = omega arith
by_side side from n a small low high = omega arith

below_again : (c : Configuration) (aliases : List Alias) (taken ls back : List Link) (n low : ℕ)
    → IsSound c → all_links c ≡ taken ++ (ls ++ back) → Rises c.links low ls (400 * (n + 1))
    → 400 * n ≤ low
    → ReadsTextBelow section.Links n (with_links c aliases taken) (texts_of c ls)
    (with_links c aliases (taken ++ ls))
below_again c aliases taken [] back n low s parts r above =
    subst
    (λ (links : List Link).
    ReadsTextBelow section.Links n (with_links c aliases taken) []
    (with_links c aliases links))
    (sym (append-nil taken)) (no_text_below section.Links n (with_links c aliases taken))
below_again c aliases taken (l ∷ ls) back n low s parts r above =
    let split =
    subst (λ (links : List Link). Rises c.links 0 links (400 * length c.screens)) parts
    (all_rise c) in
    let free =
    none_before c.links 0 (400 * length c.screens) taken l (ls ++ back) s.links.apart split in
    let good = All-contains HasGoodRanges c.links l s.links.ranges r.1 in
    let screen =
    by_side l.side l.from.0 n l.range.a (omega (arith, good.0.some, good.0.within))
    (omega (arith, r.0))
    (omega (arith, rises_le c.links (rank_of l + 1) (400 * (n + 1)) ls r.2)) in
    let from = with_links c aliases taken in
    let middle = with_links c aliases (taken ++ l ∷ []) in
    text_below_both section.Links n from middle (with_links c aliases (taken ++ l ∷ ls))
    (link_text c l) (texts_of c ls)
    (subst (λ (k : ℕ). ReadsTextBelow section.Links k from (link_text c l) middle) screen
    (line_again c aliases taken l s r.1 free (room_for c taken l (ls ++ back) s parts)))
    (subst
    (λ (links : List Link).
    ReadsTextBelow section.Links n middle (texts_of c ls) (with_links c aliases links))
    (append_assoc taken (l ∷ []) ls)
    (below_again c aliases (taken ++ l ∷ []) ls back n (rank_of l + 1) s
    (parts ∙ sym (append_assoc taken (l ∷ []) (ls ++ back))) r.2 (omega (arith, r.0))))

-- ---- all of them

screen_again : (c : Configuration) (aliases : List Alias) (taken back : List Link) (n : ℕ)
    → IsSound c → all_links c ≡ taken ++ (links_in c n ++ back) → n < length c.screens
    → ReadsText section.Links (with_links c aliases taken) (links_of c n)
    (with_links c aliases (taken ++ links_in c n))
unfolding links_of
screen_again c aliases taken back n s parts h =
    let from = with_links c aliases taken in
    let to = with_links c aliases (taken ++ links_in c n) in
    subst (λ (text : List ℕ). ReadsText section.Links from (block_text (name_of c n) text) to)
    (sym (each_text c (side_links c n) (links_on c n) (side_text_is c n) sides))
    (block_again section.Links n from to (texts_of c (links_in c n)) links_headers (sound_names c s)
    h
    (below_again c aliases taken (links_in c n) back n (400 * n) s parts (in_screen c n)
    (omega arith)))

screens_again : (c : Configuration) (aliases : List Alias) (taken : List Link) (n len : ℕ)
    → IsSound c → all_links c ≡ taken ++ flat_map (links_in c) (range_with_len n len)
    → n + len ≤ length c.screens
    → ReadsText section.Links (with_links c aliases taken)
    (flat_map (links_of c) (range_with_len n len))
    (with_links c aliases (taken ++ flat_map (links_in c) (range_with_len n len)))
screens_again c aliases taken n zero s parts h =
    subst
    (λ (links : List Link).
    ReadsText section.Links (with_links c aliases taken) [] (with_links c aliases links))
    (sym (append-nil taken)) (no_text section.Links (with_links c aliases taken))
screens_again c aliases taken n (suc len) s parts h =
    let here = links_in c n in
    let back = flat_map (links_in c) (range_with_len (n + 1) len) in
    let from = with_links c aliases taken in
    let texts = flat_map (links_of c) (range_with_len (n + 1) len) in
    subst
    (λ (links : List Link).
    ReadsText section.Links from (links_of c n ++ texts) (with_links c aliases links))
    (append_assoc taken here back)
    (text_both section.Links from (with_links c aliases (taken ++ here))
    (with_links c aliases ((taken ++ here) ++ back)) (links_of c n) texts
    (screen_again c aliases taken back n s parts (omega arith))
    (screens_again c aliases (taken ++ here) (n + 1) len s
    (parts ∙ sym (append_assoc taken here back)) (omega arith)))

-- the links section, where the screens stand already
pub links_again : (c : Configuration) (aliases : List Alias) → IsSound c
    → ReadsText section.Links (with_links c aliases []) (links_text c)
    (with_links c aliases (all_links c))
unfolding numbers_of
links_again c aliases s = screens_again c aliases [] 0 (length c.screens) s refl (omega arith)
