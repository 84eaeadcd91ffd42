-- A link overlaps another, as a test and as a fact.
use Rattle.std.proofs.Common.{◌≡◌, ℕ, ◌<◌, true, false, ◌&&◌, ◌==◌, List, min, max, refl, ap, sym}
use Rattle.std.proofs.Common.{◌∙◌, nat_lt, arith}
use Rattle.std.specs.List.{list_any}
use Rattle.std.proofs.lemmas.Bool.{lt-ltb, eqb-true, false_from_ne_true, and_parts}
use Rattle.std.proofs.Common.{eq-eqb}
use borrow.Author.Tests.{ltb-true}
use Rattle.std.proofs.lemmas.List.Folds.{Any-from_list_any, list_any-from_Any}
use Rattle.share_base.specs.declared.numbers.ScreenNo.{ScreenNo}
use Rattle.screen_links.specs.declared.link.Link.{Link}
use Rattle.screen_links.specs.Adding.{Blocks, Overlaps, IsFree}
use Rattle.share_base.proofs.SameSides.{same_side_refl, one_side}
use Rattle.config_text.specs.Judging.{overlaps}
use Rattle.share_base.specs.Shapes.{same_side}

-- the fact that a link blocks another's place is the test
pub blocks_overlaps : (l k : Link) → Blocks k l.from l.side l.range → overlaps l k ≡ true
unfolding overlaps
blocks_overlaps l k b =
    rw (
      eq-eqb l.from.0 k.from.0 (ap (λ (n : ScreenNo). n.0) (sym b.same_screen)),
      ap (same_side l.side) b.same_side ∙ same_side_refl l.side,
      lt-ltb (max l.range.a k.range.a) (min l.range.b k.range.b)
          (omega (arith, b.shared.1.0, b.shared.1.1, b.shared.2.0, b.shared.2.1)),
    ) refl

pub overlaps_blocks : (l k : Link) → overlaps l k ≡ true → Blocks k l.from l.side l.range
unfolding overlaps
overlaps_blocks l k e =
    let outer =
    and_parts ((l.from.0 == k.from.0) && same_side l.side k.side)
    (nat_lt (max l.range.a k.range.a) (min l.range.b k.range.b)) e in
    let inner = and_parts (l.from.0 == k.from.0) (same_side l.side k.side) outer.0 in
    let number : l.from.0 ≡ k.from.0 = eqb-true _ _ inner.0 in
    let less : max l.range.a k.range.a < min l.range.b k.range.b = ltb-true _ _ outer.1 in
    record {
      same_screen = ap (λ (n : ℕ). let s : ScreenNo = record { 0 = n } in s) (sym number);
      same_side = one_side l.side k.side inner.1;
      shared = (
        max l.range.a k.range.a,
        (omega arith, omega (arith, less)),
        (omega arith, omega (arith, less)),
      );
    }

pub any_overlaps : (l : Link) (links : List Link) → Overlaps links l.from l.side l.range
    → list_any (overlaps l) links ≡ true
any_overlaps l links o =
    list_any-from_Any (overlaps l) links (o.0, o.1, o.2, o.3, blocks_overlaps l o.1 o.4)

pub none_overlaps : (l : Link) (links : List Link) → IsFree links l
    → list_any (overlaps l) links ≡ false
none_overlaps l links free =
    false_from_ne_true _
    (λ e. let f = Any-from_list_any (overlaps l) links e in
    free (f.0, f.1, f.2, f.3, overlaps_blocks l f.1 f.4))
