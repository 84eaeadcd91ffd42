-- Links of a list, picked in rising order of screen, side and place.
use Rattle.std.proofs.Common.{◌≡◌, ℕ, zero, suc, ◌+◌, ◌*◌, ◌<◌, ◌≤◌, Bool, true, false, List, []}
use Rattle.std.proofs.Common.{◌∷◌, ◌++◌, length, get_or, Option, Some, None, nat_le, refl, ap, sym}
use Rattle.std.proofs.Common.{subst, ◌∙◌, arith}
use Rattle.std.specs.Prelude.{Contains, filter}
use Rattle.std.specs.List.{flat_map, find, list_any, range_with_len}
use Rattle.std.specs.Option.{option_to_list}
use Rattle.std.proofs.lemmas.List.Sums.{length-filter, count_by-le-length}
use Rattle.std.proofs.lemmas.Bool.{or_from, false_from_ne_true, le-leb, lt-leb, leb-true}
use Rattle.share_base.specs.declared.shape.Side.{Side}
use Rattle.share_base.specs.declared.shape.Side.TheVariants.{Left, Right, Up, Down}
use Rattle.screen_links.specs.declared.link.Link.{Link}
use Rattle.screen_links.specs.declared.link.Landing.{Landing}
use Rattle.screen_links.specs.Apart.{AreApart}
use Rattle.screen_links.proofs.OneLink.{one_leaves}
use Rattle.hotkey_rules.proofs.FirstFound.{found_listed}
use Rattle.screen_config.specs.Configurations.{Configuration}
use Rattle.config_text.specs.Judging.{overlaps}
use Rattle.screen_config.specs.Values.{begins_at, link_beginning, links_on, links_in, hundredths}
use Rattle.screen_config.specs.Values.{numbers_of}
use Rattle.config_text.proofs.Overlapping.{overlaps_blocks}
use Rattle.config_text.proofs.Picking.{filter_map_flat}
use Rattle.screen_config.proofs.LinkValues.{begins}

-- ---- the order

abbrev pub side_number : Side → ℕ
side_number Left = 0
side_number Right = 1
side_number Up = 2
side_number Down = 3

abbrev pub rank : ℕ → Side → ℕ → ℕ
rank n side a = 400 * n + 100 * side_number side + a

abbrev pub rank_of : Link → ℕ
rank_of l = rank l.from.0 l.side l.range.a

-- links of that list, in rising order, from one rank on and before another
abbrev pub Rises : List Link → ℕ → List Link → ℕ → Type 0
Rises links low [] high = low ≤ high
Rises links low (l ∷ ls) high =
    (low ≤ rank_of l) × Contains links l × Rises links (rank_of l + 1) ls high

rises_wider : (links : List Link) (low from high more : ℕ) (ls : List Link) → low ≤ from
    → high ≤ more → Rises links from ls high → Rises links low ls more
rises_wider links low from high more [] h k r = omega (arith, r)
rises_wider links low from high more (l ∷ ls) h k r = (
  omega (arith, r.0),
  r.1,
  rises_wider links (rank_of l + 1) (rank_of l + 1) high more ls (omega arith) k r.2,
)

rises_both : (links : List Link) (low middle high : ℕ) (ls ms : List Link)
    → Rises links low ls middle → Rises links middle ms high → Rises links low (ls ++ ms) high
rises_both links low middle high [] ms r q =
    rises_wider links low middle high high ms r (omega arith) q
rises_both links low middle high (l ∷ ls) ms r q =
    (r.0, r.1, rises_both links (rank_of l + 1) middle high ls ms r.2 q)

-- ---- what is picked

rank_is : (n : ℕ) (side : Side) (a : ℕ) (l : Link) → begins_at n side a l ≡ true
    → rank_of l ≡ rank n side a
rank_is n side a l e =
    let here = begins n side a l e in
    omega (arith, here.screen, here.place, ap side_number here.there)

one_picked : (links : List Link) (n : ℕ) (side : Side) (a : ℕ) (o : Option Link)
    → find (begins_at n side a) links ≡ o
    → Rises links (rank n side a) (option_to_list o) (rank n side a + 1)
one_picked links n side a None h = omega arith
one_picked links n side a (Some l) h =
    let there = found_listed (begins_at n side a) links l h in
    let same : rank_of l ≡ rank n side a = rank_is n side a l there.1 in
    (omega arith, there.0, omega arith)

abbrev picked_at : Configuration → ℕ → Side → ℕ → List Link
picked_at c n side a = option_to_list (link_beginning c n side a)

pub rises_le : (links : List Link) (low high : ℕ) (ls : List Link) → Rises links low ls high
    → low ≤ high
rises_le links low high [] r = r
rises_le links low high (l ∷ ls) r = omega (arith, r.0, rises_le links (rank_of l + 1) high ls r.2)

rises_over : (links : List Link) (f : ℕ → List Link) (at : ℕ → ℕ)
    → ((k : ℕ) → Rises links (at k) (f k) (at (k + 1))) → (from len : ℕ)
    → Rises links (at from) (flat_map f (range_with_len from len)) (at (from + len))
rises_over links f at each from zero =
    let same : from + 0 ≡ from = omega arith in
    omega (arith, ap at same)
rises_over links f at each from (suc len) =
    let same : from + 1 + len ≡ from + suc len = omega arith in
    rises_both links (at from) (at (from + 1)) (at (from + suc len)) (f from)
    (flat_map f (range_with_len (from + 1) len)) (each from)
    (subst
    (λ (high : ℕ).
    Rises links (at (from + 1)) (flat_map f (range_with_len (from + 1) len)) (at high))
    same (rises_over links f at each (from + 1) len))

on_side : (c : Configuration) (n : ℕ) (side : Side)
    → Rises c.links (rank n side 0) (links_on c n side) (rank n side 100)
unfolding links_on hundredths
on_side c n side =
    let each : (k : ℕ)
    → Rises c.links (rank n side k) (picked_at c n side k) (rank n side (k + 1)) =
    λ k.
    rises_wider c.links (rank n side k) (rank n side k) (rank n side k + 1) (rank n side (k + 1))
    (picked_at c n side k) (omega arith) (omega arith)
    (one_picked c.links n side k (link_beginning c n side k) refl) in
    subst (λ (ls : List Link). Rises c.links (rank n side 0) ls (rank n side 100))
    (sym (filter_map_flat (link_beginning c n side) (range_with_len 0 100)))
    (rises_over c.links (picked_at c n side) (rank n side) each 0 100)

-- the links of a side, and those that follow
and_side : (c : Configuration) (n : ℕ) (side : Side) (next high : ℕ) (ls : List Link)
    → rank n side 100 ≤ next → Rises c.links next ls high
    → Rises c.links (rank n side 0) (links_on c n side ++ ls) high
and_side c n side next high ls h r =
    rises_both c.links (rank n side 0) next high (links_on c n side) ls
    (rises_wider c.links (rank n side 0) (rank n side 0) (rank n side 100) next (links_on c n side)
    (omega arith) h (on_side c n side))
    r

-- all links of a screen
pub in_screen : (c : Configuration) (n : ℕ) → Rises c.links (400 * n) (links_in c n) (400 * (n + 1))
in_screen c n =
    let high = 400 * (n + 1) in
    let down = and_side c n Down high high [] (omega arith) (omega arith) in
    let up = and_side c n Up (rank n Down 0) high (links_on c n Down ++ []) (omega arith) down in
    let right =
    and_side c n Right (rank n Up 0) high (links_on c n Up ++ (links_on c n Down ++ []))
    (omega arith) up in
    rises_wider c.links (400 * n) (rank n Left 0) high high (links_in c n) (omega arith)
    (omega arith)
    (and_side c n Left (rank n Right 0) high
    (links_on c n Right ++ (links_on c n Up ++ (links_on c n Down ++ []))) (omega arith)
    right)

-- all that are picked
pub all_rise : (c : Configuration)
    → Rises c.links 0 (flat_map (links_in c) (numbers_of c)) (400 * length c.screens)
unfolding numbers_of
all_rise c =
    rises_wider c.links 0 0 (400 * (0 + length c.screens)) (400 * length c.screens) _ (omega arith)
    (omega arith)
    (rises_over c.links (links_in c) (λ k. 400 * k) (in_screen c) 0 (length c.screens))

-- ---- none of them overlaps one before it

rises_first : (links : List Link) (low high : ℕ) (ls : List Link) (l : Link) (back : List Link)
    → Rises links low (ls ++ l ∷ back) high → (low ≤ rank_of l) × Contains links l
rises_first links low high [] l back r = (r.0, r.1)
rises_first links low high (k ∷ ls) l back r =
    let rest = rises_first links (rank_of k + 1) high ls l back r.2 in
    (omega (arith, r.0, rest.0), rest.1)

no_overlap : (links : List Link) (k l : Link) → AreApart links → Contains links k → Contains links l
    → rank_of k < rank_of l → overlaps l k ≡ false
no_overlap links k l apart there here less =
    false_from_ne_true (overlaps l k) (λ e.
    let b = overlaps_blocks l k e in
    let at : Landing = record { screen = l.from; t = 10000 * b.shared.0 } in
    let one : k ≡ l = one_leaves links l.side at k l apart
    there
    (record {
      same_screen = b.same_screen;
      same_side = b.same_side;
      holds =
          record {
            from_its_start = omega (arith, b.shared.1.0);
            before_its_end = omega (arith, b.shared.1.1);
          };
    })
    here
    (record {
      same_screen = refl;
      same_side = refl;
      holds =
          record {
            from_its_start = omega (arith, b.shared.2.0);
            before_its_end = omega (arith, b.shared.2.1);
          };
    })
    in
    absurd (omega (arith, ap (λ (x : Link). rank_of x) one)))

pub none_before : (links : List Link) (low high : ℕ) (taken : List Link) (l : Link)
    (back : List Link)
    → AreApart links → Rises links low (taken ++ l ∷ back) high
    → list_any (overlaps l) taken ≡ false
none_before links low high [] l back apart r = refl
none_before links low high (k ∷ taken) l back apart r =
    let next = rises_first links (rank_of k + 1) high taken l back r.2 in
    or_from (overlaps l k) (list_any (overlaps l) taken)
    (no_overlap links k l apart r.1 next.1 (omega (arith, next.0)))
    (none_before links (rank_of k + 1) high taken l back apart r.2)

-- ---- there are no more of them than links

abbrev from_rank : ℕ → Link → Bool
from_rank low l = nat_le low (rank_of l)

more_pass : (p q : Link → Bool) → ((x : Link) → p x ≡ true → q x ≡ true) → (xs : List Link)
    → length (filter p xs) ≤ length (filter q xs)
more_pass p q w [] = omega arith
more_pass p q w (x ∷ xs) = grind (arith, w x, more_pass p q w xs)

one_more_passes : (p q : Link → Bool) → ((x : Link) → p x ≡ true → q x ≡ true)
    → (xs : List Link) (i : ℕ) (l : Link) → i < length xs → get_or xs i l ≡ l → p l ≡ false
    → q l ≡ true
    → length (filter p xs) + 1 ≤ length (filter q xs)
one_more_passes p q w [] i l within is fails passes = absurd (omega arith)
one_more_passes p q w (x ∷ xs) zero l within is fails passes =
    rw (ap p is ∙ fails, ap q is ∙ passes) (omega (arith, more_pass p q w xs))
one_more_passes p q w (x ∷ xs) (suc i) l within is fails passes =
    grind (arith, w x, one_more_passes p q w xs i l (omega arith) is fails passes)

rises_few : (links : List Link) (low high : ℕ) (ls : List Link) → Rises links low ls high
    → length ls ≤ length (filter (from_rank low) links)
rises_few links low high [] r = omega arith
rises_few links low high (l ∷ ls) r =
    let above : (x : Link) → from_rank (rank_of l + 1) x ≡ true → from_rank low x ≡ true =
    λ x e.
    le-leb low (rank_of x) (omega (arith, leb-true (rank_of l + 1) (rank_of x) e, r.0)) in
    let fewer =
    one_more_passes (from_rank (rank_of l + 1)) (from_rank low) above links r.1.0 l r.1.1 r.1.2
    (lt-leb (rank_of l + 1) (rank_of l) (omega arith)) (le-leb low (rank_of l) r.0) in
    omega (arith, rises_few links (rank_of l + 1) high ls r.2, fewer)

pub no_more : (links : List Link) (low high : ℕ) (ls : List Link) → Rises links low ls high
    → length ls ≤ length links
no_more links low high ls r =
    omega (
      arith,
      rises_few links low high ls r,
      length-filter (from_rank low) links,
      count_by-le-length (from_rank low) links,
    )
