-- What is undrained before a wait.
use Rattle.std.specs.Prelude.{◌≡◌, refl, ℕ, ◌+◌, ◌<◌, Bool, true, false, not, nat_le, min, ◌-◌, ◌&&◌, ◌||◌, ◌==◌, cond, List, [], ◌∷◌, ◌++◌, length, take, get_or}
use Rattle.std.specs.List.{list_any}
use Rattle.std.proofs.Common.{arith, ap, sym, subst, ◌∙◌}
use Rattle.std.proofs.lemmas.Bool.Decides.{nat_tests}
use Rattle.std.proofs.lemmas.List.{take_more}
use Rattle.std.proofs.lemmas.List.Folds.{list_any-append, list_any_at}
use Rattle.machine.specs.States.{State}
use Rattle.machine.specs.Queues.{total}
use Rattle.attentive_acts.specs.Flags.{Flag, Flags, is_busy, is_listening, is_readable, is_writable}
use Rattle.engine_loop.specs.declared.watch.Stream.{Stream}
use Rattle.engine_loop.specs.declared.watch.Watch.{Watch}
use Rattle.server_engine.specs.Engines.{AreNext}
use Rattle.engine_loop.specs.Watches.{flag_of, flags_of}
use Rattle.engine_loop.proofs.WatchFlags.{any-over}

-- something is offered if and only if there is more
pub offer-more : (b : Bool) (s : State) (serial : ℕ) (bytes : List ℕ) (empty : Bool) → AreNext b s serial bytes → empty ≡ (length bytes == 0) → not empty ≡ b
offer-more true s serial bytes empty h e = let some : 0 < length bytes = h.1 in let is : empty ≡ false = e ∙ grind (arith, nat_tests, some) in ap not is
offer-more false s serial bytes empty h e = let is : empty ≡ true = e ∙ ap (λ (xs : List ℕ). length xs == 0) h in ap not is

-- ---- one of the two that it takes

pub first-fails : (a b : Bool) → a ≡ false → false ≡ (a && b)
first-fails a b e = sym (ap (λ (t : Bool). t && b) e)

pub second-decides : (a b c : Bool) → a ≡ true → c ≡ b → c ≡ (a && b)
second-decides a b c e k = k ∙ sym (ap (λ (t : Bool). t && b) e)

-- ---- all of them

busy_is : (w : Watch) (s : State) → is_busy (flags_of (total s.routed) w) s ≡ (is_listening (flags_of (total s.routed) w) s || list_any (λ (t : Stream). is_readable (flags_of (total s.routed) w) s t.serial || is_writable (flags_of (total s.routed) w) s t.serial) w.streams.items)
busy_is w s =
    let fs : Flags = flags_of (total s.routed) w in
    ap (λ (b : Bool). is_listening fs s || b)
    (sym (any-over (flag_of (total s.routed)) (λ (f : Flag). is_readable fs s f.serial || is_writable fs s f.serial) (λ (t : Stream). is_readable fs s t.serial || is_writable fs s t.serial) (λ t. refl) w.streams.items))

pub busy-listener : (w : Watch) (s : State) → is_listening (flags_of (total s.routed) w) s ≡ true → true ≡ is_busy (flags_of (total s.routed) w) s
busy-listener w s e =
    let fs : Flags = flags_of (total s.routed) w in
    let some : Bool = list_any (λ (t : Stream). is_readable fs s t.serial || is_writable fs s t.serial) w.streams.items in
    sym (busy_is w s ∙ ap (λ (b : Bool). b || some) e)

pub or-true : (b : Bool) → (b || true) ≡ true
or-true true = refl
or-true false = refl

pub busy-stream : (w : Watch) (s : State) (i : ℕ) (t : Stream) → i < length w.streams.items → t ≡ get_or w.streams.items i t → (is_readable (flags_of (total s.routed) w) s t.serial || is_writable (flags_of (total s.routed) w) s t.serial) ≡ true → true ≡ is_busy (flags_of (total s.routed) w) s
busy-stream w s i t lt is e =
    let fs : Flags = flags_of (total s.routed) w in
    let test : Stream → Bool = λ u. is_readable fs s u.serial || is_writable fs s u.serial in
    let here : test (get_or w.streams.items i t) ≡ true = ap test (sym is) ∙ e in
    let some : list_any test w.streams.items ≡ true = list_any_at test w.streams.items i t lt here in
    sym (busy_is w s ∙ ap (λ (b : Bool). is_listening fs s || b) some ∙ or-true (is_listening fs s))

pub idle : (w : Watch) (s : State) → is_listening (flags_of (total s.routed) w) s ≡ false → list_any (λ (t : Stream). is_readable (flags_of (total s.routed) w) s t.serial || is_writable (flags_of (total s.routed) w) s t.serial) w.streams.items ≡ false → false ≡ is_busy (flags_of (total s.routed) w) s
idle w s e k =
    let fs : Flags = flags_of (total s.routed) w in
    sym (busy_is w s ∙ ap (λ (b : Bool). b || list_any (λ (t : Stream). is_readable fs s t.serial || is_writable fs s t.serial) w.streams.items) e ∙ k)

pub idle-more : (w : Watch) (s : State) (i : ℕ) (t : Stream) → i < length w.streams.items → t ≡ get_or w.streams.items i t
    → false ≡ list_any (λ (u : Stream). is_readable (flags_of (total s.routed) w) s u.serial || is_writable (flags_of (total s.routed) w) s u.serial) (take i w.streams.items)
    → is_readable (flags_of (total s.routed) w) s t.serial ≡ false → is_writable (flags_of (total s.routed) w) s t.serial ≡ false
    → false ≡ list_any (λ (u : Stream). is_readable (flags_of (total s.routed) w) s u.serial || is_writable (flags_of (total s.routed) w) s u.serial) (take (i + 1) w.streams.items)
idle-more w s i t lt is so_far r k =
    let fs : Flags = flags_of (total s.routed) w in
    let test : Stream → Bool = λ u. is_readable fs s u.serial || is_writable fs s u.serial in
    let here : test t ≡ false = ap (λ (b : Bool). b || is_writable fs s t.serial) r ∙ k in
    let more : take (i + 1) w.streams.items ≡ take i w.streams.items ++ t ∷ [] = take_more w.streams.items i t lt ∙ ap (λ (x : Stream). take i w.streams.items ++ x ∷ []) (sym is) in
    let split : list_any test (take (i + 1) w.streams.items) ≡ (list_any test (take i w.streams.items) || (test t || false)) = ap (list_any test) more ∙ list_any-append test (take i w.streams.items) (t ∷ []) in
    sym (split ∙ ap (λ (b : Bool). b || (test t || false)) (sym so_far) ∙ ap (λ (b : Bool). b || false) here)

-- ---- how long to wait

pub soon-wait : (busy : Bool) (due at wait : ℕ) → busy ≡ false → wait ≡ min 1000 (due - at) → wait ≡ cond (busy || nat_le due at) 0 (min 1000 (due - at))
soon-wait busy due at wait e k = subst (λ (b : Bool). wait ≡ cond (b || nat_le due at) 0 (min 1000 (due - at))) (sym e) (by (nat_le due at) refl)
  where
    by : (b : Bool) → nat_le due at ≡ b → wait ≡ cond b 0 (min 1000 (due - at))
    by true h = grind (arith, nat_tests, h, k)
    by false h = k
