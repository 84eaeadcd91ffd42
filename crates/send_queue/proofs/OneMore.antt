-- What is queued for a connection after one entry more.
use Rattle.std.specs.Prelude.{◌≡◌, refl, ℕ, ◌+◌, ◌≤◌, ◌<◌, Bool, true, false, not, ◌==◌, List, [], ◌∷◌, ◌++◌, length, sum_by, if◌then◌else◌}
use Rattle.std.proofs.Common.{arith, ap, sym, ◌∙◌, add-zero, add_assoc}
use Rattle.std.proofs.lemmas.Bool.Decides.{nat_tests}
use Rattle.std.proofs.lemmas.List.{length-append}
use Rattle.std.proofs.lemmas.List.Sums.{sum_by-cons}
use Rattle.machine.specs.Targets.{Client, Entry, same_target}
use Rattle.machine.specs.Queues.{size, fits, fitting, entries_for, queued_entries, total, is_slow}
use Rattle.machine.proofs.Targets.{added_if, entries-more}

-- ---- entries, each with room or not

-- at most all have room
few_fit : (before : ℕ) (es : List Entry) → length (fitting before es) ≤ length es
few_fit before [] = omega arith
few_fit before (e ∷ es) = by (fits before e) (few_fit (before + size e) es)
  where
    by : (b : Bool) → length (fitting (before + size e) es) ≤ length es → length (if b then e ∷ fitting (before + size e) es else []) ≤ length (e ∷ es)
    by true h = omega arith
    by false h = omega arith

-- where as many have room as there are, all have
all_fit : (before : ℕ) (es : List Entry) → (length (fitting before es) == length es) ≡ true → fitting before es ≡ es
all_fit before [] h = refl
all_fit before (e ∷ es) h = by (fits before e) h (all_fit (before + size e) es)
  where
    by : (b : Bool) → (length (if b then e ∷ fitting (before + size e) es else []) == length (e ∷ es)) ≡ true → ((length (fitting (before + size e) es) == length es) ≡ true → fitting (before + size e) es ≡ es) → (if b then e ∷ fitting (before + size e) es else []) ≡ e ∷ es
    by true k later = ap (λ xs. e ∷ xs) (later (grind (arith, k)))
    by false k later = grind (arith, k)

-- where one has none, the next one is left out too
stays_out : (before : ℕ) (es : List Entry) (e : Entry) → (length (fitting before es) == length es) ≡ false → fitting before (es ++ e ∷ []) ≡ fitting before es
stays_out before [] e h = grind (arith, h)
stays_out before (x ∷ es) e h = by (fits before x) h (stays_out (before + size x) es e)
  where
    by : (b : Bool) → (length (if b then x ∷ fitting (before + size x) es else []) == length (x ∷ es)) ≡ false → ((length (fitting (before + size x) es) == length es) ≡ false → fitting (before + size x) (es ++ e ∷ []) ≡ fitting (before + size x) es) → (if b then x ∷ fitting (before + size x) (es ++ e ∷ []) else []) ≡ (if b then x ∷ fitting (before + size x) es else [])
    by true k later = ap (λ xs. x ∷ xs) (later (grind (arith, k)))
    by false k later = refl

abbrev added_where : Bool → List Entry → Entry → List Entry
added_where true es e = es ++ e ∷ []
added_where false es e = es

-- where all have room, the next one is there if it has room after them
one_more : (before : ℕ) (es : List Entry) (e : Entry) → fitting before es ≡ es → fitting before (es ++ e ∷ []) ≡ added_where (fits (before + sum_by size es) e) es e
one_more before [] e h = first (fits before e) ∙ ap (λ n. added_where (fits n e) [] e) (sym (add-zero before))
  where
    first : (b : Bool) → (if b then e ∷ [] else []) ≡ added_where b [] e
    first true = refl
    first false = refl
one_more before (x ∷ es) e h = by (fits before x) h (one_more (before + size x) es e) ∙ ap (λ n. added_where (fits (before + n) e) (x ∷ es) e) (sym (sum_by-cons size x es))
  where
    front : (b : Bool) → x ∷ added_where b es e ≡ added_where b (x ∷ es) e
    front true = refl
    front false = refl

    by : (b : Bool) → (if b then x ∷ fitting (before + size x) es else []) ≡ x ∷ es → (fitting (before + size x) es ≡ es → fitting (before + size x) (es ++ e ∷ []) ≡ added_where (fits ((before + size x) + sum_by size es) e) es e) → (if b then x ∷ fitting (before + size x) (es ++ e ∷ []) else []) ≡ added_where (fits (before + (size x + sum_by size es)) e) (x ∷ es) e
    by true k later = ap (λ xs. x ∷ xs) (later (cc)) ∙ (front (fits ((before + size x) + sum_by size es) e) ∙ ap (λ n. added_where (fits n e) (x ∷ es) e) (add_assoc before (size x) (sum_by size es)))
    by false k later = cc

-- ---- entries of one connection

for_one_more : (routed : List Entry) (serial : ℕ) (e : Entry) → same_target e.target (Client serial) ≡ true → entries_for (Client serial) (routed ++ e ∷ []) ≡ entries_for (Client serial) routed ++ e ∷ []
for_one_more routed serial e mine = entries-more (Client serial) routed e ∙ ap (λ b. added_if b (entries_for (Client serial) routed) e) mine

lacks_some : (n m : ℕ) → n < m → not (n == m) ≡ true
lacks_some n m h = grind (arith, nat_tests, h)

lacks_none : (n m : ℕ) → n ≡ m → not (n == m) ≡ false
lacks_none n m h = grind (arith, nat_tests, h)

abbrev lacks : List Entry → Bool
lacks es = not (length (fitting 0 es) == length es)

out_of : (es : List Entry) (e : Entry) → fitting 0 (es ++ e ∷ []) ≡ fitting 0 es → lacks (es ++ e ∷ []) ≡ true
out_of es e same = lacks_some (length (fitting 0 (es ++ e ∷ []))) (length (es ++ e ∷ [])) (let few = few_fit 0 es in let more = length-append es (e ∷ []) in let same_length : length (fitting 0 (es ++ e ∷ [])) ≡ length (fitting 0 es) = ap length same in omega arith)

out_before : (es : List Entry) (e : Entry) → lacks es ≡ true → fitting 0 (es ++ e ∷ []) ≡ fitting 0 es
out_before es e h = stays_out 0 es e (grind (arith, h))

all_before : (es : List Entry) → lacks es ≡ false → fitting 0 es ≡ es
all_before es h = all_fit 0 es (grind (arith, h))

after_all : (es : List Entry) (e : Entry) → lacks es ≡ false → fitting 0 (es ++ e ∷ []) ≡ added_where (fits (sum_by size (fitting 0 es)) e) (fitting 0 es) e
after_all es e h =
    let all : fitting 0 es ≡ es = all_before es h in
    one_more 0 es e all ∙ (ap (λ n. added_where (fits n e) es e) (omega arith) ∙ ap (λ xs. added_where (fits (sum_by size xs) e) xs e) (sym all))

-- ---- what is queued for it

-- its frame is left out where an earlier one was, or where it has no room
pub left-out : (routed : List Entry) (serial : ℕ) (e : Entry) → same_target e.target (Client serial) ≡ true → is_slow routed serial ≡ true → (queued_entries (routed ++ e ∷ []) serial ≡ queued_entries routed serial) × (is_slow (routed ++ e ∷ []) serial ≡ true)
left-out routed serial e mine slow =
    let more = for_one_more routed serial e mine in
    let same = out_before (entries_for (Client serial) routed) e slow in
    (ap (λ es. fitting 0 es) more ∙ same, ap lacks more ∙ out_of (entries_for (Client serial) routed) e same)

pub no-room : (routed : List Entry) (serial : ℕ) (e : Entry) → same_target e.target (Client serial) ≡ true → is_slow routed serial ≡ false → fits (total routed serial) e ≡ false → (queued_entries (routed ++ e ∷ []) serial ≡ queued_entries routed serial) × (is_slow (routed ++ e ∷ []) serial ≡ true)
no-room routed serial e mine slow full =
    let es : List Entry = entries_for (Client serial) routed in
    let more : entries_for (Client serial) (routed ++ e ∷ []) ≡ es ++ e ∷ [] = for_one_more routed serial e mine in
    let same : fitting 0 (es ++ e ∷ []) ≡ fitting 0 es = after_all es e slow ∙ ap (λ b. added_where b (fitting 0 es) e) full in
    (ap (λ xs. fitting 0 xs) more ∙ same, ap lacks more ∙ out_of es e same)

-- else it is queued
pub with-room : (routed : List Entry) (serial : ℕ) (e : Entry) → same_target e.target (Client serial) ≡ true → is_slow routed serial ≡ false → fits (total routed serial) e ≡ true → (queued_entries (routed ++ e ∷ []) serial ≡ queued_entries routed serial ++ e ∷ []) × (is_slow (routed ++ e ∷ []) serial ≡ false)
with-room routed serial e mine slow room =
    let es : List Entry = entries_for (Client serial) routed in
    let more : entries_for (Client serial) (routed ++ e ∷ []) ≡ es ++ e ∷ [] = for_one_more routed serial e mine in
    let queued : fitting 0 (es ++ e ∷ []) ≡ fitting 0 es ++ e ∷ [] = after_all es e slow ∙ ap (λ b. added_where b (fitting 0 es) e) room in
    let all : fitting 0 (es ++ e ∷ []) ≡ es ++ e ∷ [] = queued ∙ ap (λ xs. xs ++ e ∷ []) (all_before es slow) in
    (ap (λ xs. fitting 0 xs) more ∙ queued, ap lacks more ∙ lacks_none (length (fitting 0 (es ++ e ∷ []))) (length (es ++ e ∷ [])) (ap length all))

-- an entry for another target changes nothing
pub for-another : (routed : List Entry) (serial : ℕ) (e : Entry) → same_target e.target (Client serial) ≡ false → entries_for (Client serial) (routed ++ e ∷ []) ≡ entries_for (Client serial) routed
for-another routed serial e other = entries-more (Client serial) routed e ∙ ap (λ b. added_if b (entries_for (Client serial) routed) e) other
