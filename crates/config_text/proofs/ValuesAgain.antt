-- A configuration whose aliases and links stand by screen and side has the value of the one in
-- which they stood as in the text.
use Rattle.std.proofs.Common.{◌≡◌, ℕ, zero, suc, ◌+◌, ◌<◌, ◌≤◌, ◌≢◌, true, false, ◌==◌, List}
use Rattle.std.proofs.Common.{[], ◌++◌, length, map, None, refl, ap, sym, ◌∙◌, append-nil, arith}
use Rattle.std.proofs.Common.{inl, inr}
use Rattle.std.specs.Prelude.{filter}
use Rattle.std.specs.List.{flat_map, find, list_any, range_with_len}
use Rattle.std.specs.Option.{option_to_list}
use Rattle.std.proofs.lemmas.Bool.{eqb-true, eq-eqb, ne_eqb, both_ways, false_from_ne_true}
use Rattle.std.proofs.lemmas.Bool.Decides.{eqb_tells}
use Rattle.std.proofs.lemmas.List.Elements.{filter-append}
use Rattle.share_base.specs.declared.shape.Side.{Side}
use Rattle.share_base.specs.declared.shape.Side.TheVariants.{Left, Right, Up, Down}
use Rattle.screen_links.specs.declared.link.Link.{Link}
use Rattle.screen_config.specs.declared.screens.Alias.{Alias}
use Rattle.screen_config.specs.Configurations.{Configuration}
use Rattle.share_base.specs.Shapes.{same_side}
use Rattle.share_base.specs.Sides.{sides}
use Rattle.screen_config.specs.Values.{ScreenValue, ConfigValue, numbers_of, hundredths}
use Rattle.screen_config.specs.Values.{names_screen, aliases_in, begins_at, link_beginning}
use Rattle.screen_config.specs.Values.{links_on, links_in, screen_value, value_of}
use Rattle.share_base.proofs.SameSides.{one_side, same_side_refl}
use Rattle.screen_config.proofs.LinkValues.{Begins, begins}
use Rattle.config_text.proofs.Picking.{map_within, filter_map_within, any_in_range, filter_inside}
use Rattle.config_text.proofs.Picking.{filter_outside, find_other, find_again, find_nowhere}
use Rattle.config_text.proofs.Picking.{find_among, filter_map_flat}

-- the same screens and options, with the aliases by screen, and the links by screen and side
abbrev pub in_order : Configuration → Configuration
in_order c =
    record c {
      aliases = flat_map (aliases_in c) (numbers_of c);
      links = flat_map (links_in c) (numbers_of c);
    }

-- ---- aliases

other_screen : (n k : ℕ) → k ≢ n → (a : Alias) → names_screen k a ≡ true → names_screen n a ≡ false
other_screen n k ne a e =
    ne_eqb a.screen n
    (λ same. let number : a.screen ≡ k = eqb-true a.screen k e in ne (omega arith))

aliases_outside : (n : ℕ) (aliases : List Alias) (from len : ℕ) → n < from
    → filter (names_screen n)
    (flat_map (λ k. filter (names_screen k) aliases) (range_with_len from len))
    ≡ []
aliases_outside n aliases from zero h = refl
aliases_outside n aliases from (suc len) h =
    filter-append (names_screen n) (filter (names_screen from) aliases)
    (flat_map (λ k. filter (names_screen k) aliases) (range_with_len (from + 1) len))
    ∙ rw
    (filter_outside (names_screen n) (names_screen from)
    (other_screen n from (λ e. omega arith)) aliases)
    (aliases_outside n aliases (from + 1) len (omega arith))

aliases_inside : (n : ℕ) (aliases : List Alias) (from len : ℕ) → from ≤ n → n < from + len
    → filter (names_screen n)
    (flat_map (λ k. filter (names_screen k) aliases) (range_with_len from len))
    ≡ filter (names_screen n) aliases
aliases_inside n aliases from zero above below = absurd (omega arith)
aliases_inside n aliases from (suc len) above below =
    let rest = flat_map (λ k. filter (names_screen k) aliases) (range_with_len (from + 1) len) in
    filter-append (names_screen n) (filter (names_screen from) aliases) rest
    ∙ elim (eqb_tells from n) as
    (λ _. filter (names_screen n) (filter (names_screen from) aliases)
    ++ filter (names_screen n) rest
    ≡ filter (names_screen n) aliases) [
      | inl e ↦
          let same : from ≡ n = e.1 in
          ap
          (λ (k : ℕ). filter (names_screen n) (filter (names_screen k) aliases)
          ++ filter (names_screen n) rest)
          same
          ∙ ap (λ (t : List Alias). t ++ filter (names_screen n) rest)
          (filter_inside (names_screen n) (names_screen n) (λ x h. h) aliases)
          ∙ ap (λ (t : List Alias). filter (names_screen n) aliases ++ t)
          (aliases_outside n aliases (from + 1) len (omega arith))
          ∙ append-nil (filter (names_screen n) aliases)
      | inr e ↦
          rw (filter_outside (names_screen n) (names_screen from) (other_screen n from e.1) aliases)
          (aliases_inside n aliases (from + 1) len (omega (arith, e.1)) (omega arith))
    ]

aliases_same : (c : Configuration) (n : ℕ) → n < length c.screens
    → aliases_in (in_order c) n ≡ aliases_in c n
unfolding numbers_of
aliases_same c n h = aliases_inside n c.aliases 0 (length c.screens) (omega arith) (omega arith)

-- ---- links

other_number : (k n : ℕ) → (k == n) ≡ false → k ≢ n
other_number k n e same = both_ways (k == n) e (eq-eqb k n same)

-- a link that begins elsewhere doesn't begin here
elsewhere : (n : ℕ) (side : Side) (a : ℕ) (l : Link) → (Begins n side a l → ⊥)
    → begins_at n side a l ≡ false
elsewhere n side a l f = false_from_ne_true (begins_at n side a l) (λ e. f (begins n side a l e))

other_begin : (n : ℕ) (side : Side) (a k : ℕ) → (k == a) ≡ false → (l : Link)
    → begins_at n side k l ≡ true → begins_at n side a l ≡ false
other_begin n side a k ne l e =
    let here = begins n side k l e in
    elsewhere n side a l (λ there. other_number k a ne (sym here.place ∙ there.place))

other_side : (n m : ℕ) (side : Side) (a : ℕ) (t : Side) → same_side t side ≡ false
    → (b : ℕ) (l : Link) → begins_at m t b l ≡ true → begins_at n side a l ≡ false
other_side n m side a t ne b l e =
    let here = begins m t b l e in
    elsewhere n side a l
    (λ there.
    both_ways (same_side t side) ne
    (ap (same_side t) (there.there ∙ sym here.there) ∙ same_side_refl t))

other_start : (n : ℕ) (side : Side) (a k : ℕ) → (k == n) ≡ false → (t : Side) (b : ℕ) (l : Link)
    → begins_at k t b l ≡ true → begins_at n side a l ≡ false
other_start n side a k ne t b l e =
    let here = begins k t b l e in
    elsewhere n side a l (λ there. other_number k n ne (sym here.screen ∙ there.screen))

not_on_side : (c : Configuration) (n : ℕ) (side : Side) (a k : ℕ) (t : Side)
    → ((b : ℕ) (l : Link) → begins_at k t b l ≡ true → begins_at n side a l ≡ false)
    → find (begins_at n side a) (links_on c k t) ≡ None
unfolding links_on
not_on_side c n side a k t w =
    ap (find (begins_at n side a)) (filter_map_flat (link_beginning c k t) hundredths)
    ∙ find_nowhere (begins_at n side a) (λ b. option_to_list (link_beginning c k t b))
    (λ b. find_other (begins_at n side a) (begins_at k t b) (w b) c.links) hundredths

on_side : (c : Configuration) (n : ℕ) (side : Side) (a : ℕ) → a < 100
    → find (begins_at n side a) (links_on c n side) ≡ link_beginning c n side a
unfolding links_on hundredths
on_side c n side a h =
    ap (find (begins_at n side a)) (filter_map_flat (link_beginning c n side) hundredths)
    ∙ find_among (begins_at n side a) (λ b. option_to_list (link_beginning c n side b))
    (λ b. b == a) (link_beginning c n side a)
    (λ b e.
    ap (λ (k : ℕ). find (begins_at n side a) (option_to_list (link_beginning c n side k)))
    (eqb-true b a e)
    ∙ find_again (begins_at n side a) c.links)
    (λ b e. find_other (begins_at n side a) (begins_at n side b) (other_begin n side a b e) c.links)
    hundredths (any_in_range a 0 100 (omega arith) (omega arith))

among_sides : (side : Side) → list_any (λ t. same_side t side) sides ≡ true
among_sides Left = refl
among_sides Right = refl
among_sides Up = refl
among_sides Down = refl

in_screen : (c : Configuration) (n : ℕ) (side : Side) (a : ℕ) → a < 100
    → find (begins_at n side a) (links_in c n) ≡ link_beginning c n side a
in_screen c n side a h =
    find_among (begins_at n side a) (links_on c n) (λ t. same_side t side)
    (link_beginning c n side a)
    (λ t e. ap (λ (s : Side). find (begins_at n side a) (links_on c n s)) (sym (one_side t side e))
    ∙ on_side c n side a h)
    (λ t e. not_on_side c n side a n t (other_side n n side a t e)) sides (among_sides side)

not_in_screen : (c : Configuration) (n : ℕ) (side : Side) (a k : ℕ) → (k == n) ≡ false
    → find (begins_at n side a) (links_in c k) ≡ None
not_in_screen c n side a k ne =
    find_nowhere (begins_at n side a) (links_on c k)
    (λ t. not_on_side c n side a k t (other_start n side a k ne t)) sides

link_same : (c : Configuration) (n : ℕ) (side : Side) (a : ℕ) → n < length c.screens → a < 100
    → link_beginning (in_order c) n side a ≡ link_beginning c n side a
unfolding numbers_of
link_same c n side a known h =
    find_among (begins_at n side a) (links_in c) (λ k. k == n) (link_beginning c n side a)
    (λ k e. ap (λ (m : ℕ). find (begins_at n side a) (links_in c m)) (eqb-true k n e)
    ∙ in_screen c n side a h)
    (not_in_screen c n side a) (numbers_of c)
    (any_in_range n 0 (length c.screens) (omega arith) (omega arith))

side_same : (c : Configuration) (n : ℕ) (side : Side) → n < length c.screens
    → links_on (in_order c) n side ≡ links_on c n side
unfolding links_on hundredths
side_same c n side known =
    filter_map_within (link_beginning (in_order c) n side) (link_beginning c n side) 0 100
    (λ a above below. link_same c n side a known (omega arith))

links_same : (c : Configuration) (n : ℕ) → n < length c.screens
    → map (links_on (in_order c) n) sides ≡ map (links_on c n) sides
links_same c n known =
    rw (
      side_same c n Left known,
      side_same c n Right known,
      side_same c n Up known,
      side_same c n Down known,
    )
    refl

-- ---- the value

screen_same : (c : Configuration) (n : ℕ) → n < length c.screens
    → screen_value (in_order c) n ≡ screen_value c n
screen_same c n known = rw (aliases_same c n known, links_same c n known) refl

pub value_same : (c : Configuration) → value_of (in_order c) ≡ value_of c
unfolding value_of numbers_of
value_same c =
    let screens : map (screen_value (in_order c)) (numbers_of c)
    ≡ map (screen_value c) (numbers_of c) =
    map_within (screen_value (in_order c)) (screen_value c) 0 (length c.screens)
    (λ n above below. screen_same c n (omega arith)) in
    ap
    (λ (s : List ScreenValue).
    let v : ConfigValue =
    record { screens = s; settings = c.settings; hotkeys = c.hotkeys } in
    v)
    screens
