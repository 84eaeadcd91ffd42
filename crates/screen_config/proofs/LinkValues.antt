-- Each link of a sound configuration is in its value, and so is each alias.
use Rattle.std.proofs.Common.{◌≡◌, ℕ, zero, suc, ◌+◌, ◌<◌, ◌≤◌, Bool, true, false, cond, ◌==◌, ◌&&◌}
use Rattle.std.proofs.Common.{List, [], ◌∷◌, get_or, Option, Some, None, refl, ap, sym, ◌∙◌, inl}
use Rattle.std.proofs.Common.{inr, arith}
use Rattle.std.specs.Prelude.{All, Contains, filter}
use Rattle.std.specs.List.{filter_map, cons_option, find, range_with_len}
use Rattle.std.proofs.lemmas.Bool.{and_from, and_parts, both_ways, cases_order, eq-eqb, eqb-true}
use Rattle.std.proofs.lemmas.List.Elements.{All-contains, Contains-append_right}
use Rattle.share_base.specs.declared.numbers.ScreenNo.{ScreenNo}
use Rattle.share_base.specs.declared.shape.Side.{Side}
use Rattle.screen_links.specs.declared.link.Link.{Link}
use Rattle.screen_links.specs.Adding.{HasGoodRanges}
use Rattle.screen_links.specs.Apart.{AreApart}
use Rattle.hotkey_rules.proofs.FirstFound.{found_alone}
use Rattle.screen_config.specs.declared.screens.Alias.{Alias}
use Rattle.screen_config.specs.Configurations.{Configuration}
use Rattle.share_base.specs.Shapes.{same_side}
use Rattle.screen_config.specs.Sound.{IsSound}
use Rattle.screen_config.specs.Values.{aliases_in, names_screen, begins_at, hundredths}
use Rattle.screen_config.specs.Values.{link_beginning, links_on}
use Rattle.share_base.proofs.SameSides.{one_side, same_side_refl}

pub record Begins (n : ℕ) (side : Side) (a : ℕ) (l : Link) : Type 0 where
  pub screen : l.from.0 ≡ n
  pub there : side ≡ l.side
  pub place : l.range.a ≡ a

pub begins : (n : ℕ) (side : Side) (a : ℕ) (l : Link) → begins_at n side a l ≡ true
    → Begins n side a l
begins n side a l e =
    let outer = and_parts ((l.from.0 == n) && same_side l.side side) (l.range.a == a) e in
    let inner = and_parts (l.from.0 == n) (same_side l.side side) outer.0 in
    record {
      screen = eqb-true l.from.0 n inner.0;
      there = one_side l.side side inner.1;
      place = eqb-true l.range.a a outer.1;
    }

-- a link begins where it begins
pub begins_there : (l : Link) → begins_at l.from.0 l.side l.range.a l ≡ true
begins_there l =
    and_from ((l.from.0 == l.from.0) && same_side l.side l.side) (l.range.a == l.range.a)
    (and_from (l.from.0 == l.from.0) (same_side l.side l.side) (eq-eqb l.from.0 l.from.0 refl)
    (same_side_refl l.side))
    (eq-eqb l.range.a l.range.a refl)

-- no other link begins there
is_found : (links : List Link) (l : Link) → AreApart links → All HasGoodRanges links
    → Contains links l → find (begins_at l.from.0 l.side l.range.a) links ≡ Some l
is_found links l apart ranges there =
    found_alone (begins_at l.from.0 l.side l.range.a) links l (λ i j d lt within e f.
    let one = begins l.from.0 l.side l.range.a (get_or links i d) e in
    let other = begins l.from.0 l.side l.range.a (get_or links j d) f in
    let screen =
    ap (λ (n : ℕ). let s : ScreenNo = record { 0 = n } in s) (one.screen ∙ sym other.screen) in
    let some = (ranges i d (omega arith)).0.some in
    let some_other = (ranges j d within).0.some in
    apart i j d lt within screen (sym one.there ∙ other.there) (
      l.range.a,
      (omega (arith, one.place), omega (arith, one.place, some)),
      (omega (arith, other.place), omega (arith, other.place, some_other)),
    ))
    there (begins_there l)

behind_by : (o : Option Link) (xs : List Link) (l : Link) → Contains xs l
    → Contains (cons_option o xs) l
behind_by None xs l c = c
behind_by (Some x) xs l c = Contains-append_right (x ∷ []) xs l c

first_by : (o : Option Link) (xs : List Link) (l : Link) → o ≡ Some l
    → Contains (cons_option o xs) l
first_by None xs l e = absurd cc
first_by (Some x) xs l e = let same : x ≡ l = cc in (0, omega arith, same)

kept_in : (h : ℕ → Option Link) (l : Link) (a from len : ℕ) → h a ≡ Some l → from ≤ a
    → a < from + len → Contains (filter_map h (range_with_len from len)) l
kept_in h l a from zero e above below = absurd (omega arith)
kept_in h l a from (suc len) e above below =
    elim (cases_order from a) [
      | inl same ↦
          first_by (h from) (filter_map h (range_with_len (from + 1) len)) l (ap h same ∙ e)
      | inr (inl before) ↦
          behind_by (h from) (filter_map h (range_with_len (from + 1) len)) l
          (kept_in h l a (from + 1) len e (omega arith) (omega arith))
      | inr (inr after) ↦ absurd (omega arith)
    ]

pub link_in_value : (c : Configuration) (l : Link) → IsSound c → Contains c.links l
    → Contains (links_on c l.from.0 l.side) l
unfolding links_on hundredths
link_in_value c l sound there =
    let good = All-contains HasGoodRanges c.links l sound.links.ranges there in
    kept_in (link_beginning c l.from.0 l.side) l l.range.a 0 100
    (is_found c.links l sound.links.apart sound.links.ranges there) (omega arith)
    (omega (arith, good.0.some, good.0.within))

-- ---- aliases

kept_by : (t : Bool) (x a : Alias) (xs rest : List Alias) → names_screen a.screen x ≡ t
    → Contains (x ∷ xs) a → (Contains xs a → Contains rest a) → Contains (cond t (x ∷ rest) rest) a
kept_by true x a xs rest e (zero, lt, same) go = (0, omega arith, same)
kept_by true x a xs rest e (suc k, lt, same) go =
    Contains-append_right (x ∷ []) rest a (go (k, omega arith, same))
kept_by false x a xs rest e (zero, lt, same) go =
    absurd
    (both_ways (names_screen a.screen x) e
    (eq-eqb x.screen a.screen (ap (λ (y : Alias). y.screen) same)))
kept_by false x a xs rest e (suc k, lt, same) go = go (k, omega arith, same)

alias_kept : (aliases : List Alias) (a : Alias) → Contains aliases a
    → Contains (filter (names_screen a.screen) aliases) a
alias_kept [] a c = c
alias_kept (x ∷ xs) a c =
    kept_by (names_screen a.screen x) x a xs (filter (names_screen a.screen) xs) refl c
    (alias_kept xs a)

pub alias_in_value : (c : Configuration) (a : Alias) → Contains c.aliases a
    → Contains (aliases_in c a.screen) a
alias_in_value c a there = alias_kept c.aliases a there
