-- Draws that follow others, and the events that they make.
use Rattle.std.proofs.Common.{w16, to_z, of_z, ◌≡◌, ℕ, zero, suc, ◌+◌, ◌*◌, ◌/◌, ◌%◌, ◌^◌, ◌<◌, ap, sym, refl, ◌∙◌, add-zero, add-one, ltb, true, arith}
use Rattle.std.specs.Prelude.{ℤ, pos, ◌-ℤ◌, negsuc, ◌≤ℤ◌, FitsSigned}
use Rattle.std.proofs.lemmas.Int.{ints, to_z-of_z}
use Rattle.std.proofs.Math.Nat.{add-suc, mod-add-mod}
use Rattle.std.proofs.lemmas.Bool.{lt-ltb}
use Rattle.generated_texts.specs.declared.event.Event.{Event}
use Rattle.generated_texts.specs.declared.event.Event.TheVariants.{Motion, Wheel, Key, Button, Copy}
use Rattle.generated_texts.specs.Draws.{next_state, state_after, drawn_after}
use Rattle.generated_texts.specs.Events.{event_of, event_after, draws_of, draws_before, event_at}

-- ---- one draw

-- what passes 64 bits is dropped after the product and after the sum
pub next_by_parts : (state : ℕ)
    → (state * 6364136223846793005 % 2 ^ 64 + 1442695040888963407) % 2 ^ 64 ≡ next_state state
unfolding next_state
next_by_parts state = mod-add-mod (state * 6364136223846793005) (2 ^ 64) 1442695040888963407

pub one_draw : (seed next : ℕ) → next ≡ next_state seed → next ≡ state_after seed 1
unfolding state_after
one_draw seed next e = e

pub first_drawn : (seed next limit k : ℕ) → next ≡ next_state seed → k ≡ limit
    → next / 2 ^ 33 % k ≡ drawn_after seed 0 limit
unfolding drawn_after state_after
first_drawn seed next limit k e same = ap (λ (n : ℕ). n / 2 ^ 33 % k) e
    ∙ ap (λ (n : ℕ). next_state seed / 2 ^ 33 % n) same

-- a distance is stored as it is
fits_small : (z : ℤ) → negsuc 399 ≤ℤ z → z ≤ℤ pos 400 → FitsSigned w16 z
fits_small z low high = search (arith, ints)

pub as_stored : (z : ℤ) → negsuc 399 ≤ℤ z → z ≤ℤ pos 400 → to_z w16 (of_z w16 z) ≡ z
as_stored z low high = to_z-of_z w16 z (fits_small z low high)

-- ---- draws go on from the state that others left

pub state_on : (seed n m : ℕ) → state_after (state_after seed n) m ≡ state_after seed (n + m)
unfolding state_after
state_on seed n zero = ap (state_after seed) (sym (add-zero n))
state_on seed n (suc m) = ap next_state (state_on seed n m)
    ∙ ap (state_after seed) (sym (add-suc n m))

pub drawn_on : (seed n m limit : ℕ)
    → drawn_after (state_after seed n) m limit ≡ drawn_after seed (n + m) limit
unfolding drawn_after
drawn_on seed n m limit =
    let further : n + (m + 1) ≡ n + m + 1 = omega arith in
    ap (λ (state : ℕ). state / 2 ^ 33 % limit)
    (state_on seed n (m + 1) ∙ ap (state_after seed) further)

pub drawn_next : (seed n state limit : ℕ) → state ≡ state_after seed n
    → drawn_after state 0 limit ≡ drawn_after seed n limit
drawn_next seed n state limit e =
    ap (λ (s : ℕ). drawn_after s 0 limit) e ∙ drawn_on seed n 0 limit
    ∙ ap (λ (k : ℕ). drawn_after seed k limit) (add-zero n)

pub two_draws : (seed one two : ℕ) → one ≡ state_after seed 1 → two ≡ state_after one 1
    → two ≡ state_after seed 2
two_draws seed one two e f = f ∙ ap (λ (s : ℕ). state_after s 1) e ∙ state_on seed 1 1

pub three_draws : (seed one two three : ℕ) → one ≡ state_after seed 1 → two ≡ state_after one 1
    → three ≡ state_after two 1 → three ≡ state_after seed 3
three_draws seed one two three e f g = g
    ∙ ap (λ (s : ℕ). state_after s 1) (two_draws seed one two e f) ∙ state_on seed 2 1

-- ---- the event that the draws of a seed make first, by its kind

of_kind : (seed kind k : ℕ) → kind ≡ drawn_after seed 0 8 → kind ≡ k
    → event_after seed 0 ≡ event_of k (drawn_after seed 1) (drawn_after seed 2)
unfolding event_after
of_kind seed kind k e is =
    ap (λ (n : ℕ). event_of n (drawn_after seed 1) (drawn_after seed 2)) (sym e ∙ is)

motion_of : (kind : ℕ) (second third : ℕ → ℕ) → kind < 4
    → event_of kind second third ≡ Motion (pos (second 801) -ℤ pos 400) (pos (third 401) -ℤ pos 200)
motion_of kind second third lt = let small : ltb kind 4 ≡ true = lt-ltb kind 4 lt in rw small refl

pub motion_drawn : (seed kind one two : ℕ) (dx dy : ℤ) → kind ≡ drawn_after seed 0 8 → kind < 4
    → one ≡ state_after seed 1 → dx ≡ pos (drawn_after one 0 801) -ℤ pos 400
    → two ≡ state_after one 1 → dy ≡ pos (drawn_after two 0 401) -ℤ pos 200
    → Motion dx dy ≡ event_after seed 0
motion_drawn seed kind one two dx dy e lt first x second y =
    ap (λ (d : ℤ). Motion d dy)
    (x ∙ ap (λ (n : ℕ). pos n -ℤ pos 400) (drawn_next seed 1 one 801 first))
    ∙ ap (λ (d : ℤ). Motion (pos (drawn_after seed 1 801) -ℤ pos 400) d)
    (y ∙ ap (λ (n : ℕ). pos n -ℤ pos 200)
    (drawn_next seed 2 two 401 (two_draws seed one two first second)))
    ∙ sym (of_kind seed kind kind e refl
    ∙ motion_of kind (drawn_after seed 1) (drawn_after seed 2) lt)

pub wheel_drawn : (seed kind : ℕ) → kind ≡ drawn_after seed 0 8 → kind ≡ 4
    → Wheel ≡ event_after seed 0
wheel_drawn seed kind e is = sym (of_kind seed kind 4 e is)

pub key_drawn : (seed kind one second : ℕ) → kind ≡ drawn_after seed 0 8 → kind ≡ 5
    → one ≡ state_after seed 1 → second ≡ drawn_after one 0 40
    → Key (1 + second) ≡ event_after seed 0
key_drawn seed kind one second e is first drawn =
    ap (λ (d : ℕ). Key (1 + d)) (drawn ∙ drawn_next seed 1 one 40 first)
    ∙ sym (of_kind seed kind 5 e is)

pub button_drawn : (seed kind one second : ℕ) → kind ≡ drawn_after seed 0 8 → kind ≡ 6
    → one ≡ state_after seed 1 → second ≡ drawn_after one 0 3
    → Button (1 + second) ≡ event_after seed 0
button_drawn seed kind one second e is first drawn =
    ap (λ (d : ℕ). Button (1 + d)) (drawn ∙ drawn_next seed 1 one 3 first)
    ∙ sym (of_kind seed kind 6 e is)

pub copy_drawn : (seed kind one second : ℕ) → kind ≡ drawn_after seed 0 8 → kind ≡ 7
    → one ≡ state_after seed 1 → second ≡ drawn_after one 0 65 → Copy second ≡ event_after seed 0
copy_drawn seed kind one second e is first drawn =
    ap (λ (d : ℕ). Copy d) (drawn ∙ drawn_next seed 1 one 65 first) ∙ sym (of_kind seed kind 7 e is)

-- ---- the event at an index, and the state after it

event_on : (seed n : ℕ) → event_after (state_after seed n) 0 ≡ event_after seed n
unfolding event_after drawn_after
event_on seed n =
    let kind : drawn_after (state_after seed n) 0 8 ≡ drawn_after seed n 8 =
    drawn_next seed n (state_after seed n) 8 refl in
    let one : state_after (state_after seed n) 2 ≡ state_after seed (n + 1 + 1) = state_on seed n 2
    ∙ ap (state_after seed) (omega arith) in
    let two : state_after (state_after seed n) 3 ≡ state_after seed (n + 2 + 1) = state_on seed n 3
    ∙ ap (state_after seed) (omega arith) in
    ap (λ (k : ℕ). event_of k (drawn_after (state_after seed n) 1)
    (drawn_after (state_after seed n) 2)) kind
    ∙ ap (λ (s : ℕ). event_of (drawn_after seed n 8) (λ (limit : ℕ). s / 2 ^ 33 % limit)
    (drawn_after (state_after seed n) 2)) one
    ∙ ap (λ (s : ℕ). event_of (drawn_after seed n 8) (drawn_after seed (n + 1))
    (λ (limit : ℕ). s / 2 ^ 33 % limit)) two

pub event_drawn : (seed i state : ℕ) (event : Event)
    → state ≡ state_after seed (draws_before seed i) → event ≡ event_after state 0
    → event ≡ event_at seed i
unfolding event_at
event_drawn seed i state event e drawn = drawn ∙ ap (λ (s : ℕ). event_after s 0) e
    ∙ event_on seed (draws_before seed i)

pub state_drawn : (seed i state next : ℕ) (event : Event)
    → state ≡ state_after seed (draws_before seed i) → event ≡ event_at seed i
    → next ≡ state_after state (draws_of event)
    → next ≡ state_after seed (draws_before seed (i + 1))
unfolding event_at draws_before
state_drawn seed i state next event e is drawn =
    drawn ∙ ap (λ (s : ℕ). state_after s (draws_of event)) e
    ∙ state_on seed (draws_before seed i) (draws_of event)
    ∙ ap (λ (v : Event). state_after seed (draws_before seed i + draws_of v)) is
    ∙ ap (λ (k : ℕ). state_after seed (draws_before seed k)) (sym (add-one i))
