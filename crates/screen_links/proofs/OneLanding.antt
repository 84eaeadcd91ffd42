-- A walk over links that are apart has at most one landing.
use Rattle.std.proofs.Common.{◌≡◌, ℕ, true, false, List, [], ◌∷◌, ◌++◌, sym, ap, ◌∙◌, subst}
use Rattle.std.specs.Prelude.{All, Contains}
use Rattle.std.proofs.lemmas.List.Elements.{All-head, All-tail}
use Rattle.share_base.specs.declared.shape.Side.{Side}
use Rattle.share_base.specs.Screens.{has}
use Rattle.screen_links.specs.declared.link.Link.{Link}
use Rattle.screen_links.specs.declared.link.Landing.{Landing}
use Rattle.screen_links.specs.Apart.{AreApart}
use Rattle.screen_links.specs.Walks.{Leads, landing_of, Across}
use Rattle.screen_links.proofs.OneLink.{one_leaves}

-- a link is not both joined and passed
both : (joined : ℕ) (one other : Link) → one ≡ other → has joined one.to.0 ≡ true
    → has joined other.to.0 ≡ false → ⊥
both joined one other same joins passes =
    let absent : has joined one.to.0 ≡ false =
    subst (λ (l : Link). has joined l.to.0 ≡ false) (sym same) passes in
    cc

same_end : (links : List Link) (joined : ℕ) (side : Side) (at one other : Landing) → AreApart links
    → (middle : List Link) (last : Link) → All (Contains links) (middle ++ last ∷ [])
    → Leads (middle ++ last ∷ []) side at one → All (λ l. has joined l.to.0 ≡ false) middle
    → has joined last.to.0 ≡ true
    → (middle' : List Link) (last' : Link) → All (Contains links) (middle' ++ last' ∷ [])
    → Leads (middle' ++ last' ∷ []) side at other → All (λ l. has joined l.to.0 ≡ false) middle'
    → has joined last'.to.0 ≡ true
    → one ≡ other
same_end links joined side at one other apart [] last among leads passes joins [] last' among'
    leads' passes' joins' =
    let same : last ≡ last' =
    one_leaves links side at last last' apart (All-head (Contains links) last [] among) leads.0
    (All-head (Contains links) last' [] among') leads'.0 in
    sym leads.1 ∙ ap (λ (l : Link). landing_of l at.t) same ∙ leads'.1
same_end links joined side at one other apart [] last among leads passes joins (y ∷ ys) last' among'
    leads' passes' joins' =
    let same : last ≡ y =
    one_leaves links side at last y apart (All-head (Contains links) last [] among) leads.0
    (All-head (Contains links) y (ys ++ last' ∷ []) among') leads'.0 in
    absurd (both joined last y same joins (All-head (λ l. has joined l.to.0 ≡ false) y ys passes'))
same_end links joined side at one other apart (x ∷ xs) last among leads passes joins [] last' among'
    leads' passes' joins' =
    let same : last' ≡ x =
    one_leaves links side at last' x apart (All-head (Contains links) last' [] among') leads'.0
    (All-head (Contains links) x (xs ++ last ∷ []) among) leads.0 in
    absurd (both joined last' x same joins' (All-head (λ l. has joined l.to.0 ≡ false) x xs passes))
same_end links joined side at one other apart (x ∷ xs) last among leads passes joins (y ∷ ys) last'
    among' leads' passes' joins' =
    let same : y ≡ x =
    one_leaves links side at y x apart (All-head (Contains links) y (ys ++ last' ∷ []) among')
    leads'.0 (All-head (Contains links) x (xs ++ last ∷ []) among) leads.0 in
    let onward : Leads (ys ++ last' ∷ []) side (landing_of x at.t) other =
    subst (λ (l : Link). Leads (ys ++ last' ∷ []) side (landing_of l at.t) other) same leads'.1
    in
    same_end links joined side (landing_of x at.t) one other apart
    xs last (All-tail (Contains links) x (xs ++ last ∷ []) among) leads.1
    (All-tail (λ l. has joined l.to.0 ≡ false) x xs passes) joins
    ys last' (All-tail (Contains links) y (ys ++ last' ∷ []) among') onward
    (All-tail (λ l. has joined l.to.0 ≡ false) y ys passes') joins'

pub one_landing : (links : List Link) (joined : ℕ) (side : Side) (at one other : Landing)
    → AreApart links → Across links joined side at one → Across links joined side at other
    → one ≡ other
one_landing links joined side at one other apart walk walk' =
    same_end links joined side at one other apart walk.middle walk.last walk.among walk.leads
    walk.passes walk.joins walk'.middle walk'.last walk'.among walk'.leads walk'.passes
    walk'.joins
