-- The landing that is computed is that of a walk.
use Rattle.std.specs.Prelude.{◌≡◌, ◌↔◌, refl, ℕ, zero, suc, ◌+◌, ◌*◌, ◌%◌, ◌^◌, ◌<◌, ◌≤◌, Bool}
use Rattle.std.specs.Prelude.{true, false, ◌&&◌, ◌||◌, ◌==◌, nat_le, nat_lt, cond, bit_or, List, []}
use Rattle.std.specs.Prelude.{◌∷◌, Option, Some, None, All, Contains}
use Rattle.std.specs.List.{find, list_any}
use Rattle.std.specs.Option.{option_map}
use Rattle.std.proofs.Common.{eqb, arith, sym, ap, ◌∙◌, subst}
use Rattle.std.proofs.lemmas.Bool.Decides.{nat_tests}
use Rattle.std.proofs.lemmas.List.Elements.{All-nil, All-cons, All-head, All-tail, All-contains}
use Rattle.std.proofs.lemmas.List.Elements.{All-contains_itself}
use Rattle.share_base.specs.declared.shape.Side.{Side}
use Rattle.share_base.specs.declared.shape.Side.TheVariants.{Left, Right, Up, Down}
use Rattle.share_base.specs.declared.numbers.ScreenNo.{ScreenNo}
use Rattle.share_base.specs.Shapes.{same_side}
use Rattle.share_base.specs.Screens.{has}
use Rattle.share_base.proofs.ScreenBits.{has-none, has-set}
use Rattle.screen_links.specs.declared.link.Link.{Link}
use Rattle.screen_links.specs.declared.link.Landing.{Landing}
use Rattle.screen_links.specs.Apart.{AreSound, JoinsScreens}
use Rattle.screen_links.specs.Walks.{Leaves, landing_of, Across, Lands}
use Rattle.screen_links.specs.Landings.{leaves, next_landing, was_seen, landed, landing_after}
use Rattle.screen_links.specs.Landings.{landing_across, most_steps}
use Rattle.screen_links.proofs.Onward as onward
use Rattle.screen_links.proofs.Onward.{SeesOnly, left_none, left_more, ends_stuck, ends_seen}
use Rattle.screen_links.proofs.Onward.{ends_there}
use Rattle.screen_links.proofs.Seen.{SeesMore, unseen, unseen_lt}

-- ---- one link

same_is : (one other : Side) → same_side one other ≡ true → one ≡ other
same_is Left Left h = refl
same_is Right Right h = refl
same_is Up Up h = refl
same_is Down Down h = refl
same_is Left Right h = grind (arith, h)
same_is Left Up h = grind (arith, h)
same_is Left Down h = grind (arith, h)
same_is Right Left h = grind (arith, h)
same_is Right Up h = grind (arith, h)
same_is Right Down h = grind (arith, h)
same_is Up Left h = grind (arith, h)
same_is Up Right h = grind (arith, h)
same_is Up Down h = grind (arith, h)
same_is Down Left h = grind (arith, h)
same_is Down Right h = grind (arith, h)
same_is Down Up h = grind (arith, h)

same_refl : (side : Side) → same_side side side ≡ true
same_refl Left = refl
same_refl Right = refl
same_refl Up = refl
same_refl Down = refl

each : (a b c d : Bool) → (a && b && c && d) ≡ true
    → (a ≡ true) × (b ≡ true) × (c ≡ true) × (d ≡ true)
each a b c d h = (grind (arith, h), grind (arith, h), grind (arith, h), grind (arith, h))

tested : (side : Side) (at : Landing) (link : Link) → leaves side at link ≡ true
    → Leaves link side at
tested side at link h =
    let parts =
    each (link.from.0 == at.screen.0) (same_side link.side side)
    (nat_le (10000 * link.range.a) at.t) (nat_lt at.t (10000 * link.range.b)) h in
    let number : link.from.0 ≡ at.screen.0 = grind (arith, parts.0) in
    record {
      same_screen = ap (λ n. record { 0 = n }) number;
      same_side = same_is link.side side parts.1;
      holds =
          record {
            from_its_start = grind (arith, nat_tests, parts.2);
            before_its_end = grind (arith, nat_tests, parts.3);
          };
    }

passes : (side : Side) (at : Landing) (link : Link) → Leaves link side at
    → leaves side at link ≡ true
passes side at link h =
    let number : link.from.0 ≡ at.screen.0 = ap (λ (n : ScreenNo). n.0) h.same_screen in
    let one : (link.from.0 == at.screen.0) ≡ true = grind (arith, number) in
    let two : same_side link.side side ≡ true =
    subst (λ (s : Side). same_side link.side s ≡ true) h.same_side (same_refl link.side) in
    let three : nat_le (10000 * link.range.a) at.t ≡ true = let e = h.holds.from_its_start in
    grind (arith, nat_tests, e) in
    let four : nat_lt at.t (10000 * link.range.b) ≡ true = let e = h.holds.before_its_end in
    grind (arith, nat_tests, e) in
    grind (arith, one, two, three, four)

-- ---- the first link that leaves

found_all : {X : Type 0} (P : X → Type 0) (test : X → Bool) (xs : List X) (x : X) → All P xs
    → find test xs ≡ Some x → P x
found_all P test [] x h e = let no : None ≡ Some x = e in cc
found_all {X} P test (y ∷ xs) x h e =
    by (test y) e (λ k. found_all P test xs x (All-tail P y xs h) k)
  where
    by : (b : Bool) → cond b (Some y) (find test xs) ≡ Some x → (find test xs ≡ Some x → P x) → P x
    by true e later = let is : y ≡ x = cc in subst P is (All-head P y xs h)
    by false e later = later e

found_test : {X : Type 0} (test : X → Bool) (xs : List X) (x : X) → find test xs ≡ Some x
    → test x ≡ true
found_test test [] x e = let no : None ≡ Some x = e in cc
found_test {X} test (y ∷ xs) x e = by (test y) refl e (found_test test xs x)
  where
    by : (b : Bool) → test y ≡ b → cond b (Some y) (find test xs) ≡ Some x
        → (find test xs ≡ Some x → test x ≡ true) → test x ≡ true
    by true k e later = let is : y ≡ x = cc in subst (λ z. test z ≡ true) is k
    by false k e later = later e

none_test : {X : Type 0} (test : X → Bool) (xs : List X) → find test xs ≡ None
    → All (λ x. test x ≡ false) xs
none_test test [] e = All-nil (λ x. test x ≡ false)
none_test {X} test (y ∷ xs) e = by (test y) refl e (none_test test xs)
  where
    by : (b : Bool) → test y ≡ b → cond b (Some y) (find test xs) ≡ None
        → (find test xs ≡ None → All (λ x. test x ≡ false) xs) → All (λ x. test x ≡ false) (y ∷ xs)
    by true k e later = let no : Some y ≡ None = e in cc
    by false k e later = All-cons (λ x. test x ≡ false) y xs k (later e)

-- ---- what was seen

-- the set has what is on the list
Sees : ℕ → List ℕ → Type 0
Sees set seen = (k : ℕ) → has set k ≡ list_any (λ screen. screen == k) seen

with_screen : ℕ → ℕ → ℕ
with_screen set screen = bit_or set (1 * 2 ^ screen % 2 ^ 64)

more : (set screen : ℕ) → screen < 64 → SeesMore set (with_screen set screen) screen
unfolding with_screen
more set screen lt k = has-set set screen lt k

turned : (a b : ℕ) → eqb a b ≡ (b == a)
turned a b = grind arith

sees_more : (set screen : ℕ) (seen : List ℕ) → screen < 64 → Sees set seen
    → Sees (with_screen set screen) (screen ∷ seen)
unfolding Sees
sees_more set screen seen lt h k =
    more set screen lt k ∙ swap (has set k) (list_any (λ n. n == k) seen) (h k)
  where
    swap : (a c : Bool) → a ≡ c → (a || eqb k screen) ≡ ((screen == k) || c)
    swap a c e = rw (e, turned k screen) (order c (screen == k))
      where
        order : (x y : Bool) → (x || y) ≡ (y || x)
        order true true = refl
        order true false = refl
        order false true = refl
        order false false = refl

only : (screen : ℕ) → screen < 64 → SeesOnly (with_screen 0 screen) screen
only screen lt k = more 0 screen lt k ∙ first (has 0 k) (has-none k)
  where
    first : (a : Bool) → a ≡ false → (a || eqb k screen) ≡ eqb k screen
    first true e = grind (arith, e)
    first false e = refl

sees_only : (screen : ℕ) → screen < 64 → Sees (with_screen 0 screen) (screen ∷ [])
unfolding Sees
sees_only screen lt k = only screen lt k ∙ (turned k screen ∙ last (screen == k))
  where
    last : (b : Bool) → b ≡ (b || false)
    last true = refl
    last false = refl

unseen_upto : (set n : ℕ) → unseen set n ≤ n
unfolding unseen
unseen_upto set zero = omega arith
unseen_upto set (suc n) = let rest = unseen_upto set n in by (has set n) rest
  where
    by : (b : Bool) → unseen set n ≤ n → cond b 0 1 + unseen set n ≤ suc n
    by true h = omega arith
    by false h = omega arith

-- ---- the walk

answers : (n : ℕ) (links : List Link) (joined : ℕ) (side : Side) (start : Landing) (set : ℕ)
    (seen : List ℕ) (at : Landing)
    → AreSound links → Sees set seen → unseen set 64 < n
    → onward.Left links joined side start set at → (landing : Landing)
    → (landing_after n links (has joined) side seen (next_landing links side at) ≡ Some landing)
    ↔ Across links joined side start landing
unfolding Sees
answers zero links joined side start set seen at sound sees left so_far landing =
    absurd (omega arith)
answers (suc n) links joined side start set seen at sound sees left so_far landing =
    by (find (leaves side at) links) refl (answers n links joined side start)
  where
    by : (o : Option Link) → find (leaves side at) links ≡ o
        → ((set : ℕ) (seen : List ℕ) (at : Landing) → AreSound links → Sees set seen
        → unseen set 64 < n → onward.Left links joined side start set at → (landing : Landing)
        → (landing_after n links (has joined) side seen (next_landing links side at)
        ≡ Some landing)
        ↔ Across links joined side start landing)
        → (landing_after (suc n) links (has joined) side seen
        (option_map (λ link. landing_of link at.t) o)
        ≡ Some landing)
        ↔ Across links joined side start landing
    by None e later =
        ends_stuck links joined side start set at
        (λ link within h. let no : leaves side at link
        ≡ false =
        All-contains (λ (x : Link). leaves side at x ≡ false) links link
        (none_test (leaves side at) links e) within in
        let is : leaves side at link ≡ true = passes side at link h in cc)
        so_far landing
    by (Some link) e later =
        there (list_any (λ screen. screen == link.to.0) seen) (sees link.to.0)
        (has joined link.to.0) refl
      where
        within : Contains links link
        within =
            found_all (Contains links) (leaves side at) links link (All-contains_itself links) e

        leaving : Leaves link side at
        leaving = tested side at link (found_test (leaves side at) links link e)

        screen : JoinsScreens link
        screen = All-contains JoinsScreens links link sound.screens within

        there : (again : Bool) → has set link.to.0 ≡ again → (joins : Bool)
            → has joined link.to.0 ≡ joins
            → (landed again joins (landing_of link at.t)
            (landing_after n links (has joined) side (link.to.0 ∷ seen)
            (next_landing links side (landing_of link at.t)))
            ≡ Some landing)
            ↔ Across links joined side start landing
        there true k joins j =
            ends_seen links joined side start set at link sound.apart within leaving k so_far
            landing
        there false k true j =
            ends_there links joined side start set at link sound.apart within leaving k j so_far
            landing
        there false k false j =
            later (with_screen set link.to.0) (link.to.0 ∷ seen) (landing_of link at.t) sound
            (sees_more set link.to.0 seen screen.1 sees)
            (let fewer : unseen (with_screen set link.to.0) 64
            < unseen set 64 =
            unseen_lt set (with_screen set link.to.0) link.to.0 64
            (more set link.to.0 screen.1) k screen.1 in
            omega arith)
            (left_more links joined side start set (with_screen set link.to.0) at link sound.apart
            within leaving k j (more set link.to.0 screen.1) so_far)
            landing

pub landing_is_across : (links : List Link) (joined : ℕ) (side : Side) (at : Landing)
    → AreSound links → at.screen.0 < 64
    → Lands links joined side at (landing_across links (has joined) side at)
landing_is_across links joined side at sound lt landing =
    let first : ℕ = with_screen 0 at.screen.0 in
    let fewer : unseen first 64 < unseen 0 64 =
    unseen_lt 0 first at.screen.0 64 (more 0 at.screen.0 lt) (has-none at.screen.0) lt in
    let most : unseen 0 64 ≤ 64 = unseen_upto 0 64 in
    answers 64 links joined side at first (at.screen.0 ∷ []) at sound (sees_only at.screen.0 lt)
    (omega arith) (left_none links joined side at first (only at.screen.0 lt)) landing
