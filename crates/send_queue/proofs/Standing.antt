-- What each call of a queue keeps of what it represents.
use Rattle.std.specs.Prelude.{◌≡◌, refl, ℕ, ◌+◌, ◌-◌, ◌≤◌, Bool, true, false, not, ◌&&◌, ◌==◌, nat_le, List, [], ◌∷◌, ◌++◌, length, drop, sum_by}
use Rattle.std.specs.Int.{w32, to_be_bytes}
use Rattle.std.proofs.Common.{arith, ap, sym, ◌∙◌, add-zero, subst}
use Rattle.std.proofs.Math.Seq.{drop-nil}
use Rattle.std.proofs.lemmas.Bool.Decides.{nat_tests}
use Rattle.std.proofs.lemmas.Grind.{flat_map-append}
use Rattle.std.proofs.lemmas.List.{append-nil, length-append, map-append, drop-append-le, drop-drop, length-drop}
use Rattle.std.proofs.lemmas.List.Sums.{sum_by-append, sum_by-cons}
use Rattle.message_codec.specs.declared.messages.Msg.{Msg}
use Rattle.message_codec.specs.Spelling.{body_of}
use Rattle.message_codec.specs.Streams.{frame_of, frames_of}
use Rattle.machine.specs.Targets.{Client, Entry, Origin, same_target}
use Rattle.machine.specs.Queues.{most_untaken, size, fits, fitting, entries_for, messages_in, queued_entries, queue, total, is_slow}
use Rattle.machine.proofs.Targets.{same_target-refl}
use Rattle.send_queue.specs.declared.pushed.Pushed.TheVariants as pushed
use Rattle.send_queue.specs.QueueParts.{QueueParts, AreSound}
use Rattle.send_queue.specs.Standing.{rest_of, Stands, Begins, IsLeft}
use Rattle.send_queue.specs.Calls.{has_room, entry_of, Pushes, Takes, Discards}
use Rattle.send_queue.proofs.OneMore.{left-out, no-room, with-room, for-another}

-- ---- bytes of entries

abbrev bytes_of : List Entry → List ℕ
bytes_of es = frames_of (messages_in es)

bytes-more : (es : List Entry) (e : Entry) → bytes_of (es ++ e ∷ []) ≡ bytes_of es ++ frame_of e.message
bytes-more es e =
    ap frames_of (map-append (λ (x : Entry). x.message) es (e ∷ []))
    ∙ (flat_map-append frame_of (messages_in es) (e.message ∷ []) ∙ ap (λ xs. bytes_of es ++ xs) (append-nil (frame_of e.message)))

size-more : (es : List Entry) (e : Entry) → sum_by size (es ++ e ∷ []) ≡ sum_by size es + size e
size-more es e = sum_by-append size es (e ∷ []) ∙ ap (λ n. sum_by size es + n) (sum_by-cons size e [] ∙ add-zero (size e))

length-bytes : (es : List Entry) → length (bytes_of es) ≡ sum_by size es
length-bytes [] = refl
length-bytes (e ∷ es) = length-append (frame_of e.message) (bytes_of es) ∙ (ap (λ n. size e + n) (length-bytes es) ∙ sym (sum_by-cons size e es))

-- ---- the same entries for it

stands-along : (q : QueueParts) (routed others : List Entry) (serial : ℕ) → entries_for (Client serial) others ≡ entries_for (Client serial) routed → Stands q routed serial → Stands q others serial
stands-along q routed others serial same h = record {
  untaken = h.untaken ∙ ap (λ es. rest_of q.is_discarded q.taken (bytes_of (fitting 0 es))) (sym same);
  total = h.total ∙ ap (λ es. sum_by size (fitting 0 es)) (sym same);
  is_slow = h.is_slow ∙ ap (λ es. not (length (fitting 0 es) == length es)) (sym same);
}

pub other-targets : (q : QueueParts) (routed : List Entry) (serial : ℕ) (e : Entry) → same_target e.target (Client serial) ≡ false → Stands q routed serial → Stands q (routed ++ e ∷ []) serial
other-targets q routed serial e other h = stands-along q routed (routed ++ e ∷ []) serial (for-another routed serial e other) h

-- ---- the first

abbrev nothing : QueueParts
nothing = record { untaken = []; total = 0; taken = 0; is_slow = false; is_discarded = false }

pub begins : Begins nothing
begins routed serial none = stands-along nothing [] routed serial none (record { untaken = refl; total = refl; is_slow = refl })

-- ---- one message more

is_entry : (q : QueueParts) (origin : Origin) (serial : ℕ) (m : Msg) → same_target (entry_of origin serial m q.taken).target (Client serial) ≡ true
is_entry q origin serial m = same_target-refl (Client serial)

-- with the same entries queued
stays : (q new : QueueParts) (routed others : List Entry) (serial : ℕ) → new.untaken ≡ q.untaken → new.total ≡ q.total → new.taken ≡ q.taken → new.is_discarded ≡ q.is_discarded → new.is_slow ≡ is_slow others serial → queued_entries others serial ≡ queued_entries routed serial → Stands q routed serial → Stands new others serial
stays q new routed others serial u t k d s same h = record {
  untaken = u ∙ (h.untaken ∙ (ap (λ b. rest_of b q.taken (queue routed serial)) (sym d) ∙ (ap (λ n. rest_of new.is_discarded n (queue routed serial)) (sym k) ∙ ap (λ es. rest_of new.is_discarded new.taken (bytes_of es)) (sym same))));
  total = t ∙ (h.total ∙ ap (λ es. sum_by size es) (sym same));
  is_slow = s;
}

abbrev slow_one : QueueParts → QueueParts
slow_one q = record { untaken = q.untaken; total = q.total; taken = q.taken; is_slow = true; is_discarded = q.is_discarded }

without_room : (q : QueueParts) (n : ℕ) (routed : List Entry) (serial : ℕ) (e : Entry) → same_target e.target (Client serial) ≡ true → size e ≡ n → e.taken ≡ q.taken → has_room q n ≡ false → Stands q routed serial → (queued_entries (routed ++ e ∷ []) serial ≡ queued_entries routed serial) × (is_slow (routed ++ e ∷ []) serial ≡ true)
without_room q n routed serial e mine sized at full h = by (is_slow routed serial) refl
  where
    by : (b : Bool) → is_slow routed serial ≡ b → (queued_entries (routed ++ e ∷ []) serial ≡ queued_entries routed serial) × (is_slow (routed ++ e ∷ []) serial ≡ true)
    by true slow = left-out routed serial e mine slow
    by false slow =
        let fast : q.is_slow ≡ false = h.is_slow ∙ slow in
        let none : (not false && nat_le ((q.total + n) - q.taken) most_untaken) ≡ false = ap (λ b. not b && nat_le ((q.total + n) - q.taken) most_untaken) (sym fast) ∙ full in
        let no : fits (total routed serial) e ≡ false = ap (λ x. nat_le ((x + size e) - e.taken) most_untaken) (sym h.total) ∙ (ap (λ x. nat_le ((q.total + x) - e.taken) most_untaken) sized ∙ (ap (λ x. nat_le ((q.total + n) - x) most_untaken) at ∙ none)) in
        no-room routed serial e mine slow no

pushes-out : (q : QueueParts) (n : ℕ) (m : Msg) → length (frame_of m) ≡ n → has_room q n ≡ false → Pushes q (slow_one q) m pushed.LeftOut
pushes-out q n m sized full = record {
  stands = λ routed serial origin h. let out = without_room q n routed serial (entry_of origin serial m q.taken) (is_entry q origin serial m) sized refl full h in stays q (slow_one q) routed (routed ++ entry_of origin serial m q.taken ∷ []) serial refl refl refl refl (sym out.1) out.0 h;
  is_slow = refl;
  taken = refl;
  is_discarded = refl;
}

frame-size : (m : Msg) (n : ℕ) → n ≡ length (body_of m) → length (frame_of m) ≡ 4 + n
frame-size m n e = length-append (to_be_bytes w32 (length (body_of m))) (body_of m) ∙ ap (λ x. 4 + x) (sym e)

-- a queue of these parts, whose body is so long, found no room
pub push-refused : (q now : QueueParts) (m : Msg) (n : ℕ) (room : Bool) → q ≡ now → n ≡ length (body_of m) → room ≡ has_room now (4 + n) → room ≡ false → Pushes now (slow_one q) m pushed.LeftOut
push-refused q now m n room is sized asked none =
    subst (λ x. Pushes x (slow_one q) m pushed.LeftOut) is (pushes-out q (4 + n) m (frame-size m n sized) (ap (λ x. has_room x (4 + n)) is ∙ (sym asked ∙ none)))

-- what is untaken after a frame more
rest-more : (b : Bool) (taken : ℕ) (bytes frame untaken new : List ℕ) → taken ≤ length bytes → untaken ≡ rest_of b taken bytes → (b ≡ false → new ≡ untaken ++ frame) → (b ≡ true → new ≡ untaken) → new ≡ rest_of b taken (bytes ++ frame)
rest-more true taken bytes frame untaken new few old more same = same refl ∙ old
rest-more false taken bytes frame untaken new few old more same = more refl ∙ (ap (λ xs. xs ++ frame) old ∙ sym (drop-append-le taken bytes frame few))

pushes-queued : (q new : QueueParts) (n : ℕ) (m : Msg) → length (frame_of m) ≡ n → q.taken ≤ q.total → has_room q n ≡ true → (q.is_discarded ≡ false → new.untaken ≡ q.untaken ++ frame_of m) → (q.is_discarded ≡ true → new.untaken ≡ q.untaken) → new.total ≡ q.total + n → new.taken ≡ q.taken → new.is_slow ≡ q.is_slow → new.is_discarded ≡ q.is_discarded → Pushes q new m pushed.Queued
pushes-queued q new n m sized few room more same total_is taken_is slow_is discarded_is = record {
  stands = λ routed serial origin h. queued routed serial (entry_of origin serial m q.taken) (is_entry q origin serial m) refl refl h;
  is_slow = slow_is ∙ fast;
  taken = taken_is;
  is_discarded = discarded_is;
}
  where
    fast : q.is_slow ≡ false
    fast = by q.is_slow room
      where
        by : (b : Bool) → (not b && nat_le ((q.total + n) - q.taken) most_untaken) ≡ true → b ≡ false
        by true k = grind (arith, k)
        by false k = refl

    queued : (routed : List Entry) (serial : ℕ) (e : Entry) → same_target e.target (Client serial) ≡ true → e.message ≡ m → e.taken ≡ q.taken → Stands q routed serial → Stands new (routed ++ e ∷ []) serial
    queued routed serial e mine what at h =
        let slow : is_slow routed serial ≡ false = sym h.is_slow ∙ fast in
        let sized_e : size e ≡ n = ap (λ x. length (frame_of x)) what ∙ sized in
        let fits_one : nat_le ((q.total + n) - q.taken) most_untaken ≡ true = ap (λ b. not b && nat_le ((q.total + n) - q.taken) most_untaken) (sym fast) ∙ room in
        let fit : fits (total routed serial) e ≡ true = ap (λ x. nat_le ((x + size e) - e.taken) most_untaken) (sym h.total) ∙ (ap (λ x. nat_le ((q.total + x) - e.taken) most_untaken) sized_e ∙ (ap (λ x. nat_le ((q.total + n) - x) most_untaken) at ∙ fits_one)) in
        let in_queue = with-room routed serial e mine slow fit in
        let es : List Entry = queued_entries routed serial in
        let there : q.taken ≤ length (bytes_of es) = subst (λ x. q.taken ≤ x) (h.total ∙ sym (length-bytes es)) few in
        record {
          untaken = rest-more q.is_discarded q.taken (bytes_of es) (frame_of m) q.untaken new.untaken there h.untaken more same ∙ (ap (λ b. rest_of b q.taken (bytes_of es ++ frame_of m)) (sym discarded_is) ∙ (ap (λ x. rest_of new.is_discarded x (bytes_of es ++ frame_of m)) (sym taken_is) ∙ ap (λ xs. rest_of new.is_discarded new.taken xs) (sym (ap bytes_of in_queue.0 ∙ (bytes-more es e ∙ ap (λ x. bytes_of es ++ frame_of x) what)))));
          total = total_is ∙ (ap (λ x. x + n) h.total ∙ (ap (λ x. sum_by size es + x) (sym sized_e) ∙ (sym (size-more es e) ∙ ap (λ xs. sum_by size xs) (sym in_queue.0))));
          is_slow = slow_is ∙ (fast ∙ sym in_queue.1);
        }

-- a queue of these parts, whose body is so long, found room
pub push-queued : (q now new : QueueParts) (m : Msg) (n : ℕ) (room : Bool) → q ≡ now → n ≡ length (body_of m) → room ≡ has_room now (4 + n) → room ≡ true → AreSound (length q.untaken) q.taken q.total → (q.is_discarded ≡ false → new.untaken ≡ q.untaken ++ frame_of m) → (q.is_discarded ≡ true → new.untaken ≡ q.untaken) → new.total ≡ q.total + (4 + n) → new.taken ≡ q.taken → new.is_slow ≡ q.is_slow → new.is_discarded ≡ q.is_discarded → Pushes now new m pushed.Queued
push-queued q now new m n room is sized asked some sound more same t k s d =
    subst (λ x. Pushes x new m pushed.Queued) is (pushes-queued q new (4 + n) m (frame-size m n sized) (let apart = sound.apart in omega arith) (ap (λ x. has_room x (4 + n)) is ∙ (sym asked ∙ some)) more same t k s d)

-- ---- taking and dropping

rest-taken : (b : Bool) (taken count : ℕ) (bytes untaken : List ℕ) → untaken ≡ rest_of b taken bytes → drop count untaken ≡ rest_of b (taken + count) bytes
rest-taken true taken count bytes untaken h = ap (λ xs. drop count xs) h ∙ drop-nil count
rest-taken false taken count bytes untaken h = ap (λ xs. drop count xs) h ∙ drop-drop count taken bytes

pub takes : (q new : QueueParts) (count : ℕ) → new.untaken ≡ drop count q.untaken → new.total ≡ q.total → new.taken ≡ q.taken + count → new.is_slow ≡ q.is_slow → new.is_discarded ≡ q.is_discarded → Takes q new count
takes q new count u t k s d = record {
  stands = λ routed serial h. record {
    untaken = u ∙ (rest-taken q.is_discarded q.taken count (queue routed serial) q.untaken h.untaken ∙ (ap (λ b. rest_of b (q.taken + count) (queue routed serial)) (sym d) ∙ ap (λ n. rest_of new.is_discarded n (queue routed serial)) (sym k)));
    total = t ∙ h.total;
    is_slow = s ∙ h.is_slow;
  };
  untaken = u;
  taken = k;
  is_discarded = d;
}

pub discards : (q new : QueueParts) → new.untaken ≡ [] → new.total ≡ q.total → new.taken ≡ q.taken → new.is_slow ≡ q.is_slow → new.is_discarded ≡ true → Discards q new
discards q new u t k s d = record {
  stands = λ routed serial h. record {
    untaken = u ∙ ap (λ b. rest_of b new.taken (queue routed serial)) (sym d);
    total = t ∙ h.total;
    is_slow = s ∙ h.is_slow;
  };
  untaken = u;
  taken = k;
  is_discarded = d;
}

-- ---- what is left

left-rest : (b : Bool) (taken : ℕ) (bytes untaken : List ℕ) → taken ≤ length bytes → untaken ≡ rest_of b taken bytes → not (length untaken == 0) ≡ (not b && not (length bytes == taken))
left-rest true taken bytes untaken few h = ap (λ xs. not (length xs == 0)) h
left-rest false taken bytes untaken few h = ap (λ xs. not (length xs == 0)) h ∙ (ap (λ n. not (n == 0)) (length-drop taken bytes) ∙ by (length bytes) few)
  where
    by : (n : ℕ) → taken ≤ n → not ((n - taken) == 0) ≡ not (n == taken)
    by n k = grind (arith, nat_tests, k)

is-left : (q : QueueParts) → q.taken ≤ q.total → IsLeft q (not (length q.untaken == 0))
is-left q few routed serial h =
    let es : List Entry = queued_entries routed serial in
    let there : q.taken ≤ length (bytes_of es) = subst (λ x. q.taken ≤ x) (h.total ∙ sym (length-bytes es)) few in
    left-rest q.is_discarded q.taken (bytes_of es) q.untaken there h.untaken ∙ ap (λ n. not q.is_discarded && not (n == q.taken)) (length-bytes es)

-- a queue of these parts
pub left-now : (q now : QueueParts) (empty : Bool) → q ≡ now → AreSound (length q.untaken) q.taken q.total → empty ≡ (length q.untaken == 0) → IsLeft now (not empty)
left-now q now empty is sound asked =
    subst (λ x. IsLeft x (not empty)) is (λ routed serial h. ap not asked ∙ is-left q (let apart = sound.apart in omega arith) routed serial h)
