use Rattle.std.specs.Prelude.{◌≡◌, ℕ, ◌≤◌, Bool, true, ◌||◌, List, length, get_or, Contains}
use Rattle.std.specs.List.{list_any}
use Rattle.std.proofs.Common.{ap, sym, subst, ◌∙◌}
use Rattle.std.proofs.lemmas.List.{take_all}
use Rattle.machine.specs.Queues.{total}
use Rattle.attentive_acts.specs.Flags.{Flags, is_readable, is_writable}
use Rattle.engine_loop.specs.declared.watch.Stream.{Stream}
use Rattle.engine_loop.specs.Watches.{flags_of, serials_in}
use Rattle.engine_loop.proofs.BusyOnes.{busy-listener, busy-stream, idle, idle-more, or-true}
use Rattle.engine_loop.proofs.Phases.{has-serial, item-at, none_watched}
use Rattle.engine_loop.proofs.waiting.is_busy.Goals as goal

pub returns-then-is_listening : goal.returns-then-is_listening
returns-then-is_listening g c = λ o latest front s h k e. busy-listener c.args.watch.now s (sym (c.is_listening.ensures o latest front s h k e) ∙ c.if-is_listening.true)

pub returns-then-is_readable : goal.returns-then-is_readable
returns-then-is_readable g c = λ o latest front s h k e.
    let i : ℕ = c.loop-stream.stream-index in
    let t : Stream = get_or c.deref-stream-items.result.now i none_watched in
    let found = item-at c.deref-stream-items.result.now c.args.watch.now.streams.items i c.deref-stream-items.ensures.value c.loop-stream-test.true in
    let fs : Flags = flags_of (total s.routed) c.args.watch.now in
    let reads : is_readable fs s t.serial ≡ true = sym (c.is_readable.ensures o latest front s h k e) ∙ c.if-is_readable.true in
    busy-stream c.args.watch.now s i t found.0 found.1 (ap (λ (b : Bool). b || is_writable fs s t.serial) reads)

pub returns-then-is_writable : goal.returns-then-is_writable
returns-then-is_writable g c = λ o latest front s h k e.
    let i : ℕ = c.loop-stream.stream-index in
    let t : Stream = get_or c.deref-stream-items.result.now i none_watched in
    let found = item-at c.deref-stream-items.result.now c.args.watch.now.streams.items i c.deref-stream-items.ensures.value c.loop-stream-test.true in
    let listed : Contains (serials_in c.args.watch.now) t.serial = has-serial c.args.watch.now.streams.items i t found.0 found.1 in
    let fs : Flags = flags_of (total s.routed) c.args.watch.now in
    let writes : is_writable fs s t.serial ≡ true = sym (c.is_writable.ensures listed o latest front s h k e) ∙ c.if-is_writable.true in
    busy-stream c.args.watch.now s i t found.0 found.1 (ap (λ (b : Bool). is_readable fs s t.serial || b) writes ∙ or-true (is_readable fs s t.serial))

pub loop-stream-preserved : goal.loop-stream-preserved
loop-stream-preserved g c = λ o latest front s h k e.
    let i : ℕ = c.loop-stream.stream-index in
    let t : Stream = get_or c.deref-stream-items.result.now i none_watched in
    let found = item-at c.deref-stream-items.result.now c.args.watch.now.streams.items i c.deref-stream-items.ensures.value c.loop-stream-test.true in
    let listed : Contains (serials_in c.args.watch.now) t.serial = has-serial c.args.watch.now.streams.items i t found.0 found.1 in
    let fs : Flags = flags_of (total s.routed) c.args.watch.now in
    idle-more c.args.watch.now s i t found.0 found.1 (c.loop-stream.invariant o latest front s h k e)
    (sym (c.is_readable.ensures o latest front s h k e) ∙ c.if-is_readable.false) (sym (c.is_writable.ensures listed o latest front s h k e) ∙ c.if-is_writable.false)

pub returns : goal.returns
returns g c = λ o latest front s h k e.
    let items : List Stream = c.args.watch.now.streams.items in
    let i : ℕ = c.loop-stream.stream-index in
    let fs : Flags = flags_of (total s.routed) c.args.watch.now in
    let past : length items ≤ i = subst (λ (xs : List Stream). length xs ≤ i) c.deref-stream-items.ensures.value c.loop-stream-test.false in
    idle c.args.watch.now s (sym (c.is_listening.ensures o latest front s h k e) ∙ c.if-is_listening.false)
    (sym (ap (list_any (λ (u : Stream). is_readable fs s u.serial || is_writable fs s u.serial)) (take_all i items past)) ∙ sym (c.loop-stream.invariant o latest front s h k e))
