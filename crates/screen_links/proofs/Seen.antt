-- How many screens below a number were not seen yet, and what one more seen screen changes.
use Rattle.std.proofs.Common.{◌≡◌, ℕ, zero, suc, ◌+◌, ◌<◌, ◌≤◌, Bool, true, false, cond, eqb, ◌||◌}
use Rattle.std.proofs.Common.{refl, sym, ap, ◌∙◌, inl, inr, subst, arith}
use Rattle.std.specs.Prelude.{◌≢◌}
use Rattle.std.proofs.Math.Bool.{or-true, or-false}
use Rattle.std.proofs.lemmas.Bool.Decides.{eqb_tells}
use Rattle.share_base.specs.Screens.{has}

-- the one set is the other with this screen
abbrev pub SeesMore : ℕ → ℕ → ℕ → Type 0
SeesMore old new screen = (k : ℕ) → has new k ≡ (has old k || eqb k screen)

-- the screen itself is seen
pub sees_it : (old new screen : ℕ) → SeesMore old new screen → has new screen ≡ true
sees_it old new screen more =
    elim (eqb_tells screen screen) [
      | inl h ↦ more screen ∙ ap (λ (b : Bool). has old screen || b) h.0 ∙ or-true (has old screen)
      | inr h ↦ absurd (h.1 refl)
    ]

-- every other screen is seen where it was
pub sees_others : (old new screen k : ℕ) → SeesMore old new screen → k ≢ screen
    → has new k ≡ has old k
sees_others old new screen k more other =
    elim (eqb_tells k screen) [
      | inl h ↦ absurd (other h.1)
      | inr h ↦ more k ∙ ap (λ (b : Bool). has old k || b) h.0 ∙ or-false (has old k)
    ]

or_none : (a b : Bool) → (a || b) ≡ false → a ≡ false
or_none true b e = cc
or_none false b e = refl

-- what is not seen then was not seen before, and is another screen
pub unseen_before : (old new screen k : ℕ) → SeesMore old new screen → has new k ≡ false
    → has old k ≡ false
unseen_before old new screen k more none = or_none (has old k) (eqb k screen) (sym (more k) ∙ none)

pub unseen_other : (old new screen k : ℕ) → SeesMore old new screen → has new k ≡ false → screen ≢ k
unseen_other old new screen k more none = λ e.
    let seen : has new k ≡ true =
    subst (λ (j : ℕ). has new j ≡ true) e (sees_it old new screen more) in
    cc

-- how many screens below a number are not seen
unfoldable pub unseen : ℕ → ℕ → ℕ
unseen seen zero = 0
unseen seen (suc k) = cond (has seen k) 0 1 + unseen seen k

weight_le : (old new : Bool) (b : Bool) → new ≡ (old || b) → cond new 0 1 ≤ cond old 0 1
weight_le true new b e = rw e (omega arith)
weight_le false true b e = omega arith
weight_le false false b e = omega arith

unseen_le : (old new screen n : ℕ) → SeesMore old new screen → unseen new n ≤ unseen old n
unfolding unseen
unseen_le old new screen zero more = omega arith
unseen_le old new screen (suc n) more =
    let here : cond (has new n) 0 1 ≤ cond (has old n) 0 1 =
    weight_le (has old n) (has new n) (eqb n screen) (more n) in
    let below : unseen new n ≤ unseen old n = unseen_le old new screen n more in
    omega arith

-- one more is seen, so fewer are left
pub unseen_lt : (old new screen n : ℕ) → SeesMore old new screen → has old screen ≡ false
    → screen < n → unseen new n < unseen old n
unfolding unseen
unseen_lt old new screen zero more fresh lt = absurd (omega arith)
unseen_lt old new screen (suc n) more fresh lt =
    elim (eqb_tells n screen) [
      | inl h ↦
          let was : has old n ≡ false = subst (λ (j : ℕ). has old j ≡ false) (sym h.1) fresh in
          let now : has new n ≡ true =
          subst (λ (j : ℕ). has new j ≡ true) (sym h.1) (sees_it old new screen more) in
          let below : unseen new n ≤ unseen old n = unseen_le old new screen n more in
          rw (was, now) (omega arith)
      | inr h ↦
          let same : has new n ≡ has old n = sees_others old new screen n more h.1 in
          let below : unseen new n < unseen old n =
          unseen_lt old new screen n more fresh (let ne : n ≢ screen = h.1 in omega arith) in
          rw same (omega arith)
    ]
