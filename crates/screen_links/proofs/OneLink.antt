-- Of links that are apart, at most one leaves a screen at a place.
use Rattle.std.proofs.Common.{◌≡◌, ℕ, ◌/◌, ◌<◌, List, length, get_or, sym, ap, ◌∙◌, inl, inr, subst}
use Rattle.std.proofs.Common.{arith}
use Rattle.std.specs.Prelude.{Contains}
use Rattle.std.proofs.lemmas.Bool.{cases_order}
use Rattle.std.proofs.lemmas.List.{get_or_default}
use Rattle.share_base.specs.declared.shape.Side.{Side}
use Rattle.screen_links.specs.declared.link.Link.{Link}
use Rattle.screen_links.specs.declared.link.Landing.{Landing}
use Rattle.screen_links.specs.Ranges.{Meet}
use Rattle.screen_links.specs.Apart.{Apart, AreApart}
use Rattle.screen_links.specs.Walks.{Holds, Leaves}

-- both ranges have the hundredth in which the place lies
meet_at : (one other : Link) (t : ℕ) → Holds one t → Holds other t → Meet one.range other.range
meet_at one other t h k = (t / 10000, (omega arith, omega arith), (omega arith, omega arith))

clash : (one other : Link) (side : Side) (at : Landing) → Apart one other → Leaves one side at
    → Leaves other side at → ⊥
clash one other side at apart h k =
    apart (h.same_screen ∙ sym k.same_screen) (h.same_side ∙ sym k.same_side)
    (meet_at one other at.t h.holds k.holds)

pub apart_at : (links : List Link) (i j : ℕ) (one other : Link) → AreApart links → i < j
    → j < length links → get_or links i one ≡ one → get_or links j other ≡ other → Apart one other
apart_at links i j one other apart lt within is_one is_other =
    let there : get_or links j one ≡ other = get_or_default links j one other within ∙ is_other in
    subst (λ (l : Link). Apart l other) is_one
    (subst (λ (l : Link). Apart (get_or links i one) l) there (apart i j one lt within))

pub one_leaves : (links : List Link) (side : Side) (at : Landing) (one other : Link)
    → AreApart links → Contains links one → Leaves one side at → Contains links other
    → Leaves other side at → one ≡ other
one_leaves links side at one other apart (i, i_within, is_one) h (j, j_within, is_other) k =
    elim (cases_order i j) [
      | inl same ↦
          sym is_one ∙ ap (λ (n : ℕ). get_or links n one) same
          ∙ get_or_default links j one other j_within ∙ is_other
      | inr (inl before) ↦
          absurd
          (clash one other side at
          (apart_at links i j one other apart before j_within is_one is_other) h k)
      | inr (inr after) ↦
          absurd
          (clash other one side at
          (apart_at links j i other one apart after i_within is_other is_one) k h)
    ]
