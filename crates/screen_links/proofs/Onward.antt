-- What is left of a walk where some screens were seen, and how each link followed changes it.
use Rattle.std.proofs.Common.{◌≡◌, ℕ, true, false, eqb, List, [], ◌∷◌, ◌++◌, get_or, refl, sym, ap}
use Rattle.std.proofs.Common.{◌∙◌, subst, arith, Some, None}
use Rattle.std.specs.Prelude.{◌≢◌, ◌↔◌, All, Contains}
use Rattle.std.proofs.lemmas.List.Elements.{All-nil, All-cons, All-head, All-tail}
use Rattle.share_base.specs.declared.shape.Side.{Side}
use Rattle.share_base.specs.Screens.{has}
use Rattle.std.proofs.lemmas.Bool.{ne_eqb, eqb-false}
use Rattle.screen_links.specs.declared.link.Link.{Link}
use Rattle.screen_links.specs.declared.link.Landing.{Landing}
use Rattle.screen_links.specs.Apart.{AreApart}
use Rattle.screen_links.specs.Walks.{Leaves, Leads, landing_of, named, AreDistinct, Across}
use Rattle.screen_links.proofs.Distinct.{distinct_head, distinct_tail, distinct_cons}
use Rattle.screen_links.proofs.Seen.{SeesMore, sees_others, unseen_before, unseen_other}
use Rattle.screen_links.proofs.OneLink.{one_leaves}

-- the rest of the walk, from a place on, names no screen that was seen
pub record Onward (links : List Link) (joined : ℕ) (side : Side) (seen : ℕ) (at landing : Landing)
    : Type 0 where
  pub middle : List Link
  pub last : Link
  pub among : All (Contains links) (middle ++ last ∷ [])
  pub leads : Leads (middle ++ last ∷ []) side at landing
  pub fresh : All (λ screen. has seen screen ≡ false) (named (middle ++ last ∷ []))
  pub distinct : AreDistinct (named (middle ++ last ∷ []))
  pub passes : All (λ link. has joined link.to.0 ≡ false) middle
  pub joins : has joined last.to.0 ≡ true

-- ---- where it begins: only the first screen was seen

abbrev pub SeesOnly : ℕ → ℕ → Type 0
SeesOnly seen first = (k : ℕ) → has seen k ≡ eqb k first

unseen_of_others : (seen first : ℕ) (screens : List ℕ) → SeesOnly seen first
    → All (λ y. first ≢ y) screens → All (λ screen. has seen screen ≡ false) screens
unseen_of_others seen first screens only others =
    λ k d lt. only (get_or screens k d)
    ∙ ne_eqb (get_or screens k d) first (λ e. others k d lt (sym e))

others_of_unseen : (seen first : ℕ) (screens : List ℕ) → SeesOnly seen first
    → All (λ screen. has seen screen ≡ false) screens → All (λ y. first ≢ y) screens
others_of_unseen seen first screens only none =
    λ k d lt e.
    eqb-false (get_or screens k d) first (sym (only (get_or screens k d)) ∙ none k d lt) (sym e)

pub begin : (links : List Link) (joined : ℕ) (side : Side) (seen : ℕ) (at landing : Landing)
    → SeesOnly seen at.screen.0 → Across links joined side at landing
    → Onward links joined side seen at landing
begin links joined side seen at landing only walk = record {
  middle = walk.middle;
  last = walk.last;
  among = walk.among;
  leads = walk.leads;
  fresh =
      unseen_of_others seen at.screen.0 (named (walk.middle ++ walk.last ∷ [])) only
      (distinct_head at.screen.0 (named (walk.middle ++ walk.last ∷ [])) walk.distinct);
  distinct = distinct_tail at.screen.0 (named (walk.middle ++ walk.last ∷ [])) walk.distinct;
  passes = walk.passes;
  joins = walk.joins;
}

pub whole : (links : List Link) (joined : ℕ) (side : Side) (seen : ℕ) (at landing : Landing)
    → SeesOnly seen at.screen.0 → Onward links joined side seen at landing
    → Across links joined side at landing
whole links joined side seen at landing only walk = record {
  middle = walk.middle;
  last = walk.last;
  among = walk.among;
  leads = walk.leads;
  distinct =
      distinct_cons at.screen.0 (named (walk.middle ++ walk.last ∷ []))
      (others_of_unseen seen at.screen.0 (named (walk.middle ++ walk.last ∷ [])) only walk.fresh)
      walk.distinct;
  passes = walk.passes;
  joins = walk.joins;
}

-- ---- its first link

-- a walk has a first link, of a screen that was not seen
first_link : (links : List Link) (side : Side) (seen : ℕ) (at landing : Landing)
    (middle : List Link) (last : Link)
    → All (Contains links) (middle ++ last ∷ []) → Leads (middle ++ last ∷ []) side at landing
    → All (λ screen. has seen screen ≡ false) (named (middle ++ last ∷ []))
    → (link : Link) × Contains links link × Leaves link side at × (has seen link.to.0 ≡ false)
first_link links side seen at landing [] last among leads fresh = (
  last,
  All-head (Contains links) last [] among,
  leads.0,
  All-head (λ screen. has seen screen ≡ false) last.to.0 [] fresh,
)
first_link links side seen at landing (x ∷ rest) last among leads fresh = (
  x,
  All-head (Contains links) x (rest ++ last ∷ []) among,
  leads.0,
  All-head (λ screen. has seen screen ≡ false) x.to.0 (named (rest ++ last ∷ [])) fresh,
)

pub stuck : (links : List Link) (joined : ℕ) (side : Side) (seen : ℕ) (at landing : Landing)
    → ((link : Link) → Contains links link → Leaves link side at → ⊥)
    → Onward links joined side seen at landing → ⊥
stuck links joined side seen at landing none walk =
    let first =
    first_link links side seen at landing walk.middle walk.last walk.among walk.leads walk.fresh
    in
    none first.0 first.1 first.2

pub seen_again : (links : List Link) (joined : ℕ) (side : Side) (seen : ℕ) (at landing : Landing)
    (link : Link)
    → AreApart links → Contains links link → Leaves link side at → has seen link.to.0 ≡ true
    → Onward links joined side seen at landing → ⊥
seen_again links joined side seen at landing link apart within leaves again walk =
    let first =
    first_link links side seen at landing walk.middle walk.last walk.among walk.leads walk.fresh
    in
    let same : first.0 ≡ link =
    one_leaves links side at first.0 link apart first.1 first.2 within leaves in
    let fresh : has seen link.to.0 ≡ false =
    subst (λ (l : Link). has seen l.to.0 ≡ false) same first.3 in
    cc

-- ---- a link to a joined screen ends it

arrived_at : (links : List Link) (joined : ℕ) (side : Side) (at landing : Landing) (link : Link)
    → AreApart links → Contains links link → Leaves link side at → has joined link.to.0 ≡ true
    → (middle : List Link) (last : Link) → All (Contains links) (middle ++ last ∷ [])
    → Leads (middle ++ last ∷ []) side at landing → All (λ l. has joined l.to.0 ≡ false) middle
    → landing_of link at.t ≡ landing
arrived_at links joined side at landing link apart within leaves joins [] last among leads passes =
    let same : last ≡ link =
    one_leaves links side at last link apart (All-head (Contains links) last [] among) leads.0
    within leaves in
    subst (λ (l : Link). landing_of l at.t ≡ landing) same leads.1
arrived_at links joined side at landing link apart within leaves joins (x ∷ rest) last among leads
    passes =
    let same : x ≡ link =
    one_leaves links side at x link apart
    (All-head (Contains links) x (rest ++ last ∷ []) among) leads.0 within leaves in
    let absent : has joined link.to.0 ≡ false =
    subst (λ (l : Link). has joined l.to.0 ≡ false) same
    (All-head (λ l. has joined l.to.0 ≡ false) x rest passes) in
    absurd (let contrary : true ≡ false = sym joins ∙ absent in cc)

pub arrived : (links : List Link) (joined : ℕ) (side : Side) (seen : ℕ) (at landing : Landing)
    (link : Link)
    → AreApart links → Contains links link → Leaves link side at → has joined link.to.0 ≡ true
    → Onward links joined side seen at landing → landing_of link at.t ≡ landing
arrived links joined side seen at landing link apart within leaves joins walk =
    arrived_at links joined side at landing link apart within leaves joins walk.middle walk.last
    walk.among walk.leads walk.passes

pub arrives : (links : List Link) (joined : ℕ) (side : Side) (seen : ℕ) (at : Landing) (link : Link)
    → Contains links link → Leaves link side at → has seen link.to.0 ≡ false
    → has joined link.to.0 ≡ true
    → Onward links joined side seen at (landing_of link at.t)
arrives links joined side seen at link within leaves fresh joins = record {
  middle = [];
  last = link;
  among = All-cons (Contains links) link [] within (All-nil (Contains links));
  leads = (leaves, refl);
  fresh =
      All-cons (λ screen. has seen screen ≡ false) link.to.0 [] fresh
      (All-nil (λ screen. has seen screen ≡ false));
  distinct =
      distinct_cons link.to.0 [] (All-nil (λ y. link.to.0 ≢ y))
      (λ i j d lt within. absurd (omega arith));
  passes = All-nil (λ l. has joined l.to.0 ≡ false);
  joins = joins;
}

-- ---- a link to another screen goes on

still_fresh : (old new screen : ℕ) (screens : List ℕ) → SeesMore old new screen
    → All (λ k. has old k ≡ false) screens → All (λ y. screen ≢ y) screens
    → All (λ k. has new k ≡ false) screens
still_fresh old new screen screens more fresh others =
    λ k d lt. sees_others old new screen (get_or screens k d) more (λ e. others k d lt (sym e))
    ∙ fresh k d lt

was_fresh : (old new screen : ℕ) (screens : List ℕ) → SeesMore old new screen
    → All (λ k. has new k ≡ false) screens → All (λ k. has old k ≡ false) screens
was_fresh old new screen screens more fresh =
    λ k d lt. unseen_before old new screen (get_or screens k d) more (fresh k d lt)

are_others : (old new screen : ℕ) (screens : List ℕ) → SeesMore old new screen
    → All (λ k. has new k ≡ false) screens → All (λ y. screen ≢ y) screens
are_others old new screen screens more fresh =
    λ k d lt. unseen_other old new screen (get_or screens k d) more (fresh k d lt)

went_on_from : (links : List Link) (joined : ℕ) (side : Side) (seen seen' : ℕ)
    (at landing : Landing) (link : Link)
    → AreApart links → Contains links link → Leaves link side at → has joined link.to.0 ≡ false
    → SeesMore seen seen' link.to.0
    → (middle : List Link) (last : Link) → All (Contains links) (middle ++ last ∷ [])
    → Leads (middle ++ last ∷ []) side at landing
    → All (λ screen. has seen screen ≡ false) (named (middle ++ last ∷ []))
    → AreDistinct (named (middle ++ last ∷ [])) → All (λ l. has joined l.to.0 ≡ false) middle
    → has joined last.to.0 ≡ true
    → Onward links joined side seen' (landing_of link at.t) landing
went_on_from links joined side seen seen' at landing link apart within leaves passed more [] last
    among leads fresh distinct passes joins =
    let same : last ≡ link =
    one_leaves links side at last link apart (All-head (Contains links) last [] among) leads.0
    within leaves in
    let absent : has joined last.to.0 ≡ false =
    subst (λ (l : Link). has joined l.to.0 ≡ false) (sym same) passed in
    absurd (let contrary : true ≡ false = sym joins ∙ absent in cc)
went_on_from links joined side seen seen' at landing link apart within leaves passed more (x ∷ rest)
    last among leads fresh distinct passes joins =
    let same : x ≡ link =
    one_leaves links side at x link apart
    (All-head (Contains links) x (rest ++ last ∷ []) among) leads.0 within leaves in
    let more' : SeesMore seen seen' x.to.0 =
    subst (λ (l : Link). SeesMore seen seen' l.to.0) (sym same) more in
    subst (λ (l : Link). Onward links joined side seen' (landing_of l at.t) landing) same (record {
      middle = rest;
      last = last;
      among = All-tail (Contains links) x (rest ++ last ∷ []) among;
      leads = leads.1;
      fresh =
          still_fresh seen seen' x.to.0 (named (rest ++ last ∷ [])) more'
          (All-tail (λ screen. has seen screen ≡ false) x.to.0 (named (rest ++ last ∷ [])) fresh)
          (distinct_head x.to.0 (named (rest ++ last ∷ [])) distinct);
      distinct = distinct_tail x.to.0 (named (rest ++ last ∷ [])) distinct;
      passes = All-tail (λ l. has joined l.to.0 ≡ false) x rest passes;
      joins = joins;
    })

pub went_on : (links : List Link) (joined : ℕ) (side : Side) (seen seen' : ℕ) (at landing : Landing)
    (link : Link)
    → AreApart links → Contains links link → Leaves link side at → has joined link.to.0 ≡ false
    → SeesMore seen seen' link.to.0
    → Onward links joined side seen at landing
    → Onward links joined side seen' (landing_of link at.t) landing
went_on links joined side seen seen' at landing link apart within leaves passed more walk =
    went_on_from links joined side seen seen' at landing link apart within leaves passed more
    walk.middle walk.last walk.among walk.leads walk.fresh walk.distinct walk.passes walk.joins

pub goes_on : (links : List Link) (joined : ℕ) (side : Side) (seen seen' : ℕ) (at landing : Landing)
    (link : Link)
    → Contains links link → Leaves link side at → has seen link.to.0 ≡ false
    → has joined link.to.0 ≡ false → SeesMore seen seen' link.to.0
    → Onward links joined side seen' (landing_of link at.t) landing
    → Onward links joined side seen at landing
goes_on links joined side seen seen' at landing link within leaves fresh passed more walk = record {
  middle = link ∷ walk.middle;
  last = walk.last;
  among = All-cons (Contains links) link (walk.middle ++ walk.last ∷ []) within walk.among;
  leads = (leaves, walk.leads);
  fresh =
      All-cons (λ screen. has seen screen ≡ false) link.to.0 (named (walk.middle ++ walk.last ∷ []))
      fresh
      (was_fresh seen seen' link.to.0 (named (walk.middle ++ walk.last ∷ [])) more walk.fresh);
  distinct =
      distinct_cons link.to.0 (named (walk.middle ++ walk.last ∷ []))
      (are_others seen seen' link.to.0 (named (walk.middle ++ walk.last ∷ [])) more walk.fresh)
      walk.distinct;
  passes = All-cons (λ l. has joined l.to.0 ≡ false) link walk.middle passed walk.passes;
  joins = walk.joins;
}

-- ---- the walk that was begun is the walk that is left

pub record Left (links : List Link) (joined : ℕ) (side : Side) (start : Landing) (seen : ℕ)
    (at : Landing) : Type 0 where
  pub left : (landing : Landing) → Across links joined side start landing
      → Onward links joined side seen at landing
  pub back : (landing : Landing) → Onward links joined side seen at landing
      → Across links joined side start landing

pub left_none : (links : List Link) (joined : ℕ) (side : Side) (start : Landing) (seen : ℕ)
    → SeesOnly seen start.screen.0 → Left links joined side start seen start
left_none links joined side start seen only = record {
  left = λ landing walk. begin links joined side seen start landing only walk;
  back = λ landing walk. whole links joined side seen start landing only walk;
}

pub left_more : (links : List Link) (joined : ℕ) (side : Side) (start : Landing) (seen seen' : ℕ)
    (at : Landing) (link : Link)
    → AreApart links → Contains links link → Leaves link side at → has seen link.to.0 ≡ false
    → has joined link.to.0 ≡ false
    → SeesMore seen seen' link.to.0 → Left links joined side start seen at
    → Left links joined side start seen' (landing_of link at.t)
left_more links joined side start seen seen' at link apart within leaves fresh passed more so_far =
    record {
      left =
          λ landing walk.
          went_on links joined side seen seen' at landing link apart within leaves passed more
          (so_far.left landing walk);
      back =
          λ landing walk.
          so_far.back landing
          (goes_on links joined side seen seen' at landing link within leaves fresh passed more
          walk);
    }

-- ---- the three ways in which it ends

nowhere : (links : List Link) (joined : ℕ) (side : Side) (start : Landing)
    → ((landing : Landing) → Across links joined side start landing → ⊥)
    → (landing : Landing) → (None ≡ Some landing) ↔ Across links joined side start landing
nowhere links joined side start none landing = ((λ e. cc), λ walk. absurd (none landing walk))

pub ends_stuck : (links : List Link) (joined : ℕ) (side : Side) (start : Landing) (seen : ℕ)
    (at : Landing)
    → ((link : Link) → Contains links link → Leaves link side at → ⊥)
    → Left links joined side start seen at
    → (landing : Landing) → (None ≡ Some landing) ↔ Across links joined side start landing
ends_stuck links joined side start seen at none so_far =
    nowhere links joined side start
    (λ landing walk. stuck links joined side seen at landing none (so_far.left landing walk))

pub ends_seen : (links : List Link) (joined : ℕ) (side : Side) (start : Landing) (seen : ℕ)
    (at : Landing) (link : Link)
    → AreApart links → Contains links link → Leaves link side at → has seen link.to.0 ≡ true
    → Left links joined side start seen at
    → (landing : Landing) → (None ≡ Some landing) ↔ Across links joined side start landing
ends_seen links joined side start seen at link apart within leaves again so_far =
    nowhere links joined side start
    (λ landing walk.
    seen_again links joined side seen at landing link apart within leaves again
    (so_far.left landing walk))

pub ends_there : (links : List Link) (joined : ℕ) (side : Side) (start : Landing) (seen : ℕ)
    (at : Landing) (link : Link)
    → AreApart links → Contains links link → Leaves link side at → has seen link.to.0 ≡ false
    → has joined link.to.0 ≡ true
    → Left links joined side start seen at → (landing : Landing)
    → (Some (landing_of link at.t) ≡ Some landing) ↔ Across links joined side start landing
ends_there links joined side start seen at link apart within leaves fresh joins so_far landing = (
  (λ e.
      so_far.back landing
      (subst (λ (l : Landing). Onward links joined side seen at l)
      (let same : landing_of link at.t ≡ landing = cc in same)
      (arrives links joined side seen at link within leaves fresh joins))),
  λ walk.
      ap (λ (l : Landing). Some l)
      (arrived links joined side seen at landing link apart within leaves joins
      (so_far.left landing walk)),
)
