-- A queue only grows at its end, as entries are added.
use Rattle.std.specs.Prelude.{◌≡◌, refl, ℕ, ◌+◌, ◌≤◌, Bool, true, false, cond, List, [], ◌∷◌, ◌++◌, length, sum_by}
use Rattle.std.proofs.Common.{arith, ap, sym, ◌∙◌}
use Rattle.std.proofs.lemmas.List.{map-append, length-append}
use Rattle.std.proofs.lemmas.List.Sums.{sum_by-cons}
use Rattle.std.proofs.lemmas.List.Elements.{filter-append}
use Rattle.std.proofs.lemmas.Grind.{flat_map-append}
use Rattle.message_codec.specs.Streams.{frame_of, frames_of}
use Rattle.machine.specs.Targets.{Entry, Client, same_target}
use Rattle.machine.specs.Queues.{entries_for, messages_in, size, fits, fitting, queued_entries, queue, total}

-- some entries more fit, or none
fitting_grows : (before : ℕ) (xs ys : List Entry) → (zs : List Entry) × (fitting before (xs ++ ys) ≡ fitting before xs ++ zs)
fitting_grows before [] ys = (fitting before ys, refl)
fitting_grows before (e ∷ xs) ys = by (fits before e) (fitting_grows (before + size e) xs ys)
  where
    by : (b : Bool) → ((zs : List Entry) × (fitting (before + size e) (xs ++ ys) ≡ fitting (before + size e) xs ++ zs))
        → (zs : List Entry) × (cond b (e ∷ fitting (before + size e) (xs ++ ys)) [] ≡ cond b (e ∷ fitting (before + size e) xs) [] ++ zs)
    by true rest = (rest.0, ap (λ (es : List Entry). e ∷ es) rest.1)
    by false rest = ([], refl)

pub queue-grows : (c : ℕ) (xs ys : List Entry) → (more : List ℕ) × (queue (xs ++ ys) c ≡ queue xs c ++ more)
queue-grows c xs ys =
    let split : entries_for (Client c) (xs ++ ys) ≡ entries_for (Client c) xs ++ entries_for (Client c) ys = filter-append (λ (e : Entry). same_target e.target (Client c)) xs ys in
    let g = fitting_grows 0 (entries_for (Client c) xs) (entries_for (Client c) ys) in (
      frames_of (messages_in g.0),
      ap (λ (es : List Entry). frames_of (messages_in (fitting 0 es))) split ∙ ap (λ (es : List Entry). frames_of (messages_in es)) g.1
          ∙ ap frames_of (map-append (λ (e : Entry). e.message) (fitting 0 (entries_for (Client c) xs)) g.0)
          ∙ flat_map-append frame_of (messages_in (fitting 0 (entries_for (Client c) xs))) (messages_in g.0),
    )

-- ---- how long it is

bytes_of : (es : List Entry) → length (frames_of (messages_in es)) ≡ sum_by size es
bytes_of [] = refl
bytes_of (e ∷ es) = length-append (frame_of e.message) (frames_of (messages_in es)) ∙ (ap (λ (n : ℕ). size e + n) (bytes_of es) ∙ sym (sum_by-cons size e es))

pub queue-length : (routed : List Entry) (serial : ℕ) → length (queue routed serial) ≡ total routed serial
queue-length routed serial = bytes_of (queued_entries routed serial)

-- it never gets shorter
pub total-grows : (c : ℕ) (xs ys : List Entry) → total xs c ≤ total (xs ++ ys) c
total-grows c xs ys =
    let q = queue-grows c xs ys in
    let long : length (queue (xs ++ ys) c) ≡ length (queue xs c) + length q.0 = ap length q.1 ∙ length-append (queue xs c) q.0 in
    let one = queue-length xs c in
    let other = queue-length (xs ++ ys) c in
    omega arith
