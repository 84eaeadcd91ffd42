-- Running a command over what is read: where it stands before a read, and how each end follows.
use Rattle.std.proofs.Common.{◌≡◌, ◌≢◌, ℕ, zero, suc, ◌+◌, ◌-◌, ◌^◌, ◌<◌, ◌≤◌, Bool, true, false, cond, Some, None, List, [], ◌∷◌, ◌++◌, length, take, Option, min, ◌⊎◌, refl, sym, ap, subst, ◌∙◌, arith, inl, inr, append_assoc}
use Rattle.std.proofs.lemmas.List.{length-append, append-nil, length-take, take_all, take-take, take-append-le}
use Rattle.std.specs.Option.{option_map}
use Rattle.std.proofs.lemmas.Bool.{cases_lt}
use Rattle.std.proofs.lemmas.Option.{same_Some}
use Rattle.std.proofs.Math.Seq.{take-append-add}
use Rattle.share_base.specs.Counts.{Rises}
use Rattle.share_base.specs.Told.{before, after, NoneLeft, IsSet, NotSet}
use Rattle.share_base.specs.Reading.{SourceState, ReadEnds, Reads as ReadsOne}
use Rattle.share_base.specs.declared.source.SourceAnswer.TheVariants as answer
use Rattle.share_base.specs.Writing.{SinkState, TakesFront}
use Rattle.share_base.proofs.ToldLists.{after-after, after-nil, before-before, before-nil}
use Rattle.message_codec.specs.declared.messages.Msg.{Msg}
use Rattle.message_codec.specs.Streams.{AreBytes, plain}
use Rattle.message_codec.specs.Verdicts.{Verdict}
use Rattle.message_reader.proofs.Stepping.{bytes-append}
use Rattle.message_reader.specs.Endings.{Outcome, Stopped, Failed, outcome, IsFront}
use Rattle.client_core.specs.declared.client_end.LostCause.TheVariants as lost
use Rattle.client_core.specs.declared.stop.Stop.{Stop}
use Rattle.client_core.specs.declared.stop.Stop.TheVariants as stop
use Rattle.share_commands.specs.declared.commands.TheConstants.{INPUT_LIMIT}
use Rattle.share_commands.specs.declared.status.Status.{Status}
use Rattle.share_commands.specs.declared.status.Status.TheVariants as status
use Rattle.share_commands.specs.Ways.{Way}
use Rattle.share_commands.specs.Endings.{status_by, printed_of, decided, end_at}
use Rattle.share_commands.specs.Cores.{IsDone, Keeps, EndsHere, Finishes}
use Rattle.share_commands.specs.Commands.{counted, VerdictOn, AtEnd, EndsAt, by_bytes, at_the_end, write_fault, no_memory, IsPrinted, all_lines, Writes, Reads, Stops}
use Rattle.share_commands.specs.Causes.{Causes, SourceCounts, SinkCounts}

-- ---- pieces

-- a front of a front
front_of_front : (n k : ℕ) (xs : List ℕ) → n ≤ length xs → take k (take n xs) ≡ take (min n k) xs
front_of_front n k xs fits =
    elim (cases_lt n k) [
      | inl lt ↦ take_all k (take n xs) (omega (arith, length-take n xs)) ∙ ap (λ (m : ℕ). take m xs) {y = min n k} (omega arith)
      | inr le ↦ take-take k n xs le ∙ ap (λ (m : ℕ). take m xs) {y = min n k} (omega arith)
    ]

pub take-bytes : (n : ℕ) (xs : List ℕ) → AreBytes xs → AreBytes (take n xs)
take-bytes zero xs small = tt
take-bytes (suc n) [] small = tt
take-bytes (suc n) (x ∷ xs) small = (small.0, take-bytes n xs small.1)

-- the bytes that count, with the next piece
take-piece : (limit n : ℕ) (read buffer : List ℕ) → length read ≤ limit → n ≤ length buffer → take limit (read ++ take n buffer) ≡ take limit read ++ take (min n (limit - length read)) buffer
take-piece limit n read buffer le fits =
    let k : limit ≡ length read + (limit - length read) = omega arith in
    ap (λ (m : ℕ). take m (read ++ take n buffer)) k ∙ take-append-add read (take n buffer) (limit - length read)
    ∙ ap (λ (t : List ℕ). read ++ t) (front_of_front n (limit - length read) buffer fits)
    ∙ ap (λ (t : List ℕ). t ++ take (min n (limit - length read)) buffer) (sym (take_all limit read le))

-- ---- before a read

-- what was read, the messages that were printed, and the lines that were written, where the core stands so for them
pub record At (kept : List ℕ → List Msg → List ℕ → Type 0) (total : ℕ) (input input' : SourceState) (out out' : SinkState) : Type 0 where
  pub read : List ℕ
  pub bytes : AreBytes read
  pub messages : List Msg
  pub written : List ℕ
  pub consumed : input.left ≡ before read input'.left
  pub total_is : total ≡ length read
  pub kept_is : kept (counted read) messages written
  pub taken_is : out'.taken ≡ after out.taken written

pub at_first : (kept : List ℕ → List Msg → List ℕ → Type 0) (input : SourceState) (out : SinkState) → kept [] [] [] → At kept 0 input input out out
at_first kept input out k = record {
  read = [];
  bytes = tt;
  messages = [];
  written = [];
  consumed = sym (before-nil input.left);
  total_is = refl;
  kept_is = k;
  taken_is = sym (after-nil out.taken);
}

-- a read gave so many bytes, of which so many count, and the core was fed them
pub at_fed : {kept next : List ℕ → List Msg → List ℕ → Type 0} {total n few : ℕ} {buffer : List ℕ} {input l l' : SourceState} {out o : SinkState} → (a : At kept total input l out o) → ReadsOne (answer.Got n) buffer l l' → n ≤ length buffer → total ≤ INPUT_LIMIT → few ≡ min n (INPUT_LIMIT - total) → AreBytes buffer
    → ((stream : List ℕ) (messages : List Msg) (taken : List ℕ) → kept stream messages taken → (more : List Msg) × next (stream ++ take few buffer) (messages ++ more) taken)
    → At next (total + n) input l' out o
at_fed {next} {n} {few} {buffer} {l'} a r fits within few-is small fed =
    let piece : List ℕ = take n buffer in
    let long : length piece ≡ n = omega (arith, length-take n buffer, fits) in
    let same : min n (INPUT_LIMIT - length a.read) ≡ few = omega (arith, few-is, a.total_is) in
    let stream : counted (a.read ++ piece) ≡ counted a.read ++ take few buffer =
    take-piece INPUT_LIMIT n a.read buffer (omega (arith, a.total_is, within)) fits ∙ ap (λ (m : ℕ). counted a.read ++ take m buffer) same in
    let (more, kept-next) = fed (counted a.read) a.messages a.written a.kept_is in record {
      read = a.read ++ piece;
      bytes = bytes-append a.read piece a.bytes (take-bytes n buffer small);
      messages = a.messages ++ more;
      written = a.written;
      consumed = a.consumed ∙ ap (before a.read) r.gives ∙ before-before l'.left a.read piece;
      total_is = omega (arith, a.total_is, long, length-append a.read piece);
      kept_is = subst (λ (s : List ℕ). next s (a.messages ++ more) a.written) (sym stream) kept-next;
      taken_is = a.taken_is;
    }

-- its lines were written, and taken from it
pub at_written : {kept next : List ℕ → List Msg → List ℕ → Type 0} {total : ℕ} {input l : SourceState} {out o o' : SinkState} (lines : List ℕ) → (a : At kept total input l out o) → o'.taken ≡ after o.taken lines
    → ((stream : List ℕ) (messages : List Msg) (taken : List ℕ) → kept stream messages taken → next stream messages (taken ++ lines)) → At next total input l out o'
at_written {out} lines a all cleared = record {
  read = a.read;
  bytes = a.bytes;
  messages = a.messages;
  written = a.written ++ lines;
  consumed = a.consumed;
  total_is = a.total_is;
  kept_is = cleared (counted a.read) a.messages a.written a.kept_is;
  taken_is = all ∙ ap (λ (t : Option (List ℕ)). after t lines) a.taken_is ∙ after-after out.taken a.written lines;
}

-- both
pub at_next : {kept next cleared : List ℕ → List Msg → List ℕ → Type 0} {total n few : ℕ} {buffer printed lines : List ℕ} {input l l' : SourceState} {out o o' : SinkState} → (a : At kept total input l out o) → ReadsOne (answer.Got n) buffer l l' → n ≤ length buffer → total ≤ INPUT_LIMIT → few ≡ min n (INPUT_LIMIT - total) → AreBytes buffer
    → ((stream : List ℕ) (messages : List Msg) (taken : List ℕ) → kept stream messages taken → (more : List Msg) × next (stream ++ take few buffer) (messages ++ more) taken)
    → o'.taken ≡ after o.taken printed → printed ≡ lines
    → ((stream : List ℕ) (messages : List Msg) (taken : List ℕ) → next stream messages taken → cleared stream messages (taken ++ lines)) → At cleared (total + n) input l' out o'
at_next {lines} {o} {o'} a r fits within few-is small fed all same clears =
    at_written lines (at_fed a r fits within few-is small fed) (subst (λ (t : List ℕ). o'.taken ≡ after o.taken t) same all) clears

-- ---- ends that bytes decide

-- neither a fault nor want of memory
abbrev pub IsByBytes : Status → Type 0
IsByBytes status.Ok = Unit {0}
IsByBytes (status.BadFrames place why) = Unit {0}
IsByBytes (status.Lost cause) = Unit {0}
IsByBytes (status.Refused which) = Unit {0}
IsByBytes _ = ⊥

outcome_by_bytes : (to : Outcome Stop) → IsByBytes (status_by to)
outcome_by_bytes (Stopped place stop.Bye) = tt
outcome_by_bytes (Stopped place (stop.Refused why)) = tt
outcome_by_bytes (Failed bad) = tt

pub decided_by_bytes : (w : Way) (stream : List ℕ) (v : Verdict (plain w.sender) stream) (end : Status) → decided w v ≡ Some end → IsByBytes end
decided_by_bytes w stream v end is = by_outcome (outcome w.ends v) is
  where
    by_outcome : (o : Option (Outcome Stop)) → option_map status_by o ≡ Some end → IsByBytes end
    by_outcome None is = absurd cc
    by_outcome (Some to) is = subst IsByBytes (same_Some (status_by to) end is) (outcome_by_bytes to)

pub input_by_bytes : (w : Way) (place : ℕ) (rest : List ℕ) → IsByBytes (end_at w place rest)
input_by_bytes w place (byte ∷ bytes) = tt
input_by_bytes w place [] = cases w.waits
  where
    cases : (waits : Bool) → IsByBytes (cond waits (status.Lost lost.Ended) status.Ok)
    cases true = tt
    cases false = tt

pub fine_by_bytes : (end : Status) → IsByBytes end → end ≢ status.WriteFault
fine_by_bytes status.Ok by same = absurd cc
fine_by_bytes (status.BadFrames place why) by same = absurd cc
fine_by_bytes (status.Lost cause) by same = absurd cc
fine_by_bytes (status.Refused which) by same = absurd cc
fine_by_bytes _ by same = by

memory_is_no_fault : status.OutOfMemory ≡ status.WriteFault → ⊥
memory_is_no_fault same = cc

prints_all : (end : Status) (messages all : List Msg) → IsByBytes end → messages ≡ all → IsPrinted end messages all
prints_all status.Ok messages all by same = same
prints_all (status.BadFrames place why) messages all by same = same
prints_all (status.Lost cause) messages all by same = same
prints_all (status.Refused which) messages all by same = same
prints_all _ messages all by same = absurd by

-- ---- what a core says of itself

-- while it goes on, the verdict decides no end, and all its messages are printed
goes_on : (w : Way) (stream : List ℕ) (done : Option Status) (v : Verdict (plain w.sender) stream) (messages : List Msg) → done ≡ None → IsDone w done v messages → (decided w v ≡ None) × (messages ≡ printed_of w v)
goes_on w stream None v messages none h = (sym h.0, h.1)
goes_on w stream (Some end) v messages none h = absurd cc

-- an end of its own is decided by the verdict, or memory ran out
abbrev HasEnded : (w : Way) {stream : List ℕ} → Status → Verdict (plain w.sender) stream → List Msg → Type 0
HasEnded w end v messages = ((decided w v ≡ Some end) × (messages ≡ printed_of w v)) ⊎ ((end ≡ status.OutOfMemory) × IsFront messages (printed_of w v))

has_ended : (w : Way) (stream : List ℕ) (done : Option Status) (end : Status) (v : Verdict (plain w.sender) stream) (messages : List Msg) → Some end ≡ done → IsDone w done v messages → HasEnded w end v messages
has_ended w stream None end v messages is h = absurd cc
has_ended w stream (Some status.OutOfMemory) end v messages is h = inr (same_Some end status.OutOfMemory is, h)
has_ended w stream (Some x) end v messages is h = inl (sym (is ∙ h.0), h.1)

pub feed_fits : {w : Way} {kept : List ℕ → List Msg → List ℕ → Type 0} {lines : List ℕ} {done : Option Status} {fed total : ℕ} (few : ℕ) (buffer : List ℕ) {input l : SourceState} {out o : SinkState} → (a : At kept total input l out o) → ((stream : List ℕ) (messages : List Msg) (taken : List ℕ) → kept stream messages taken → Keeps w lines done fed stream messages taken)
    → total ≤ INPUT_LIMIT → few ≤ INPUT_LIMIT - total → fed + length (take few buffer) < 2 ^ 63
feed_fits few buffer a keeps within little =
    let k = keeps (counted a.read) a.messages a.written a.kept_is in
    omega (arith, k.total_is, a.total_is, length-take few buffer, ap length (take_all INPUT_LIMIT a.read (omega (arith, a.total_is))))

-- that read is rightly made
pub stops_here : {w : Way} {kept : List ℕ → List Msg → List ℕ → Type 0} {lines : List ℕ} {done : Option Status} {fed total : ℕ} {input l l' : SourceState} {out o : SinkState} → (a : At kept total input l out o) → ((stream : List ℕ) (messages : List Msg) (taken : List ℕ) → kept stream messages taken → Keeps w lines done fed stream messages taken)
    → done ≡ None → NotSet l.ended → total ≤ INPUT_LIMIT → l'.left_before ≡ l.left → l'.ended_before ≡ l.ended → Stops w input l'
stops_here {w} {done = ended} a keeps none unset within left-before ended-before =
    let k = keeps (counted a.read) a.messages a.written a.kept_is in
    let v : Verdict (plain w.sender) (counted a.read) = k.prints.verdict in
    let all : counted a.read ≡ a.read = take_all INPUT_LIMIT a.read (omega (arith, a.total_is)) in
    let Goes : List ℕ → Type 0 = λ stream. (v : Verdict (plain w.sender) stream) × (decided w v ≡ None) in
    let goes : Goes a.read = subst Goes all (v, (goes_on w (counted a.read) ended v a.messages none k.prints.ended).0) in record {
      earlier = a.read;
      consumed = a.consumed ∙ ap (before a.read) (sym left-before);
      not_ended = subst NotSet (sym ended-before) unset;
      within = omega (arith, a.total_is);
      verdict = goes.0;
      undecided = goes.1;
    }

-- ---- the lines at the end

-- the lines that were written, and then a front of what follows them
front_after : (written lines more : List ℕ) (t u v : Option (List ℕ)) → u ≡ after t written → TakesFront lines u v → TakesFront ((written ++ lines) ++ more) t v
front_after written lines more t u v first second =
    let whole : (written ++ lines) ++ more ≡ written ++ (lines ++ more) = append_assoc written lines more in
    let same : take second.0 (lines ++ more) ≡ take second.0 lines = take-append-le second.0 lines more second.1 in (
      length written + second.0,
      omega (arith, second.1, length-append written lines, length-append (written ++ lines) more),
      second.2 ∙ ap (λ (o : Option (List ℕ)). after o (take second.0 lines)) first ∙ after-after t written (take second.0 lines)
          ∙ ap (after t) (ap (λ (x : List ℕ). written ++ x) (sym same) ∙ sym (take-append-add written (lines ++ more) second.0) ∙ ap (take (length written + second.0)) (sym whole)),
    )

pub front_of_all : (end : Status) (messages all : List Msg) → IsPrinted end messages all → IsFront messages all
front_of_all status.WriteFault messages all h = h
front_of_all status.OutOfMemory messages all h = h
front_of_all _ messages all h = ([], sym h ∙ sym (append-nil messages))

-- writing the lines of a piece failed
pub reads_write_fault : {w : Way} {kept : List ℕ → List Msg → List ℕ → Type 0} {lines : List ℕ} {done : Option Status} {fed total : ℕ} {input l : SourceState} {out o o' : SinkState} → (a : At kept total input l out o) → ((stream : List ℕ) (messages : List Msg) (taken : List ℕ) → kept stream messages taken → Keeps w lines done fed stream messages taken)
    → TakesFront lines o.taken o'.taken → Reads w status.WriteFault input l out o'
reads_write_fault {w} {lines} {done = ended} {out} {o} {o'} a keeps front =
    let k = keeps (counted a.read) a.messages a.written a.kept_is in record {
      read = a.read;
      bytes = a.bytes;
      consumed = a.consumed;
      verdict = k.prints.verdict;
      ending = write_fault refl;
      messages = a.messages;
      printed = printed_part ended k.prints.ended;
      writes = subst (λ (t : List ℕ). TakesFront (t ++ w.last a.messages) out.taken o'.taken) k.prints.lines_are (front_after a.written lines (w.last a.messages) out.taken o.taken o'.taken a.taken_is front);
    }
  where
    v : Verdict (plain w.sender) (counted a.read)
    v = (keeps (counted a.read) a.messages a.written a.kept_is).prints.verdict

    printed_part : (done : Option Status) → IsDone w done v a.messages → IsFront a.messages (printed_of w v)
    printed_part None h = ([], sym h.1 ∙ sym (append-nil a.messages))
    printed_part (Some status.OutOfMemory) h = h
    printed_part (Some x) h = ([], sym h.1 ∙ sym (append-nil a.messages))

-- all was written before the end; then come the last lines
pub reads_finished : (w : Way) (end result : Status) (read : List ℕ) (messages : List Msg) (written : List ℕ) (input l : SourceState) (out o o' : SinkState) → AreBytes read → input.left ≡ before read l.left → (v : VerdictOn w read) → EndsAt w end read v l → IsPrinted end messages (printed_of w v) → written ≡ w.text messages → o.taken ≡ after out.taken written
    → (end ≢ status.WriteFault) → Finishes w end result messages o o' → Reads w result input l out o'
reads_finished w end result read messages written input l out o o' small consumed v ending printed all taken fine finishes =
    elim finishes [
      | inl whole ↦ subst (λ (e : Status). Reads w e input l out o') (sym whole.0) (record {
        read = read;
        bytes = small;
        consumed = consumed;
        verdict = v;
        ending = ending;
        messages = messages;
        printed = printed;
        writes = writes_all end fine (whole.1 ∙ ap (λ (t : Option (List ℕ)). after t (w.last messages)) taken ∙ after-after out.taken written (w.last messages) ∙ ap (λ (t : List ℕ). after out.taken (t ++ w.last messages)) all);
      })
      | inr failed ↦ subst (λ (e : Status). Reads w e input l out o') (sym failed.0) (record {
        read = read;
        bytes = small;
        consumed = consumed;
        verdict = v;
        ending = write_fault refl;
        messages = messages;
        printed = front_of_all end messages (printed_of w v) printed;
        writes = subst (λ (t : List ℕ). TakesFront t out.taken o'.taken) (append-nil (written ++ w.last messages) ∙ ap (λ (t : List ℕ). t ++ w.last messages) all)
            (front_after written (w.last messages) [] out.taken o.taken o'.taken taken failed.1);
      })
    ]
  where
    writes_all : (e : Status) → e ≢ status.WriteFault → o'.taken ≡ after out.taken (all_lines w messages) → Writes w e messages out o'
    writes_all status.WriteFault other is = absurd (other refl)
    writes_all _ other is = is

-- the lines of the messages are all written
all_written : (w : Way) (lines : List ℕ) (done : Option Status) (fed : ℕ) (stream : List ℕ) (messages : List Msg) (written : List ℕ) → Keeps w lines done fed stream messages written → lines ≡ [] → written ≡ w.text messages
all_written w lines ended fed stream messages written k none = sym (append-nil written) ∙ ap (λ (t : List ℕ). written ++ t) (sym none) ∙ k.prints.lines_are

-- ---- the exits

-- of a command that goes on before the end: at a fault of the input, or past the limit
pub finished_open : {w : Way} {kept : List ℕ → List Msg → List ℕ → Type 0} {end result : Status} {lines : List ℕ} {done : Option Status} {fed total : ℕ} {input l l' : SourceState} {out o o' : SinkState} → (a : At kept total input l out o) → ((stream : List ℕ) (messages : List Msg) (taken : List ℕ) → kept stream messages taken → Keeps w lines done fed stream messages taken)
    → lines ≡ [] → done ≡ None → l'.left ≡ l.left → ((v : VerdictOn w a.read) → decided w v ≡ None → EndsAt w end a.read v l') → ((messages all : List Msg) → messages ≡ all → IsPrinted end messages all) → (end ≢ status.WriteFault)
    → ((stream : List ℕ) (messages : List Msg) (taken : List ℕ) → kept stream messages taken → Finishes w end result messages o o') → Reads w result input l' out o'
finished_open {w} {end} {result} {lines} {done = ended} {fed} {input} {l'} {out} {o} {o'} a keeps empty none same ends prints fine finishes =
    let k = keeps (counted a.read) a.messages a.written a.kept_is in
    let v : VerdictOn w a.read = k.prints.verdict in
    let goes = goes_on w (counted a.read) ended v a.messages none k.prints.ended in
    reads_finished w end result a.read a.messages a.written input l' out o o' a.bytes (a.consumed ∙ ap (before a.read) (sym same)) v (ends v goes.0) (prints a.messages (printed_of w v) goes.1)
    (all_written w lines ended fed (counted a.read) a.messages a.written k empty) a.taken_is fine (finishes (counted a.read) a.messages a.written a.kept_is)

-- where the input ends
pub finished_end : {w : Way} {kept : List ℕ → List Msg → List ℕ → Type 0} {end result : Status} {lines : List ℕ} {done : Option Status} {fed total : ℕ} {buffer : List ℕ} {input l l' : SourceState} {out o o' : SinkState} → (a : At kept total input l out o) → ((stream : List ℕ) (messages : List Msg) (taken : List ℕ) → kept stream messages taken → Keeps w lines done fed stream messages taken)
    → lines ≡ [] → total ≤ INPUT_LIMIT → ReadsOne answer.End buffer l l' → ((stream : List ℕ) (messages : List Msg) (taken : List ℕ) → kept stream messages taken → EndsHere w end stream messages)
    → ((stream : List ℕ) (messages : List Msg) (taken : List ℕ) → kept stream messages taken → Finishes w end result messages o o') → Reads w result input l' out o'
finished_end {w} {end} {result} {lines} {done = ended} {fed} {input} {l} {l'} {out} {o} {o'} a keeps empty within r here finishes =
    let k = keeps (counted a.read) a.messages a.written a.kept_is in
    let e = here (counted a.read) a.messages a.written a.kept_is in
    let by : IsByBytes end = subst IsByBytes (sym e.end_is) (input_by_bytes w e.verdict.place e.verdict.rest) in
    let at : AtEnd a.read l' = record { none_left = subst NoneLeft (sym r.gives.1) r.gives.0; answered = answered l.ended l'.ended r.ends; within = omega (arith, a.total_is) } in
    reads_finished w end result a.read a.messages a.written input l' out o o' a.bytes (a.consumed ∙ ap (before a.read) (sym r.gives.1)) e.verdict (at_the_end e.undecided e.end_is at) (prints_all end a.messages (printed_of w e.verdict) by e.printed)
    (all_written w lines ended fed (counted a.read) a.messages a.written k empty) a.taken_is (fine_by_bytes end by) (finishes (counted a.read) a.messages a.written a.kept_is)
  where
    answered : (e e' : Option Bool) → ReadEnds answer.End e e' → IsSet e'
    answered None e' ends = subst IsSet (sym ends) tt
    answered (Some flag) e' ends = subst IsSet (sym ends) refl

-- where the core has ended
pub finished_stop : {w : Way} {kept : List ℕ → List Msg → List ℕ → Type 0} {end result : Status} {lines : List ℕ} {done : Option Status} {fed total : ℕ} {input l : SourceState} {out o o' : SinkState} → (a : At kept total input l out o) → ((stream : List ℕ) (messages : List Msg) (taken : List ℕ) → kept stream messages taken → Keeps w lines done fed stream messages taken)
    → lines ≡ [] → Some end ≡ done → ((stream : List ℕ) (messages : List Msg) (taken : List ℕ) → kept stream messages taken → Finishes w end result messages o o') → Reads w result input l out o'
finished_stop {w} {end} {result} {lines} {done = ended} {fed} {input} {l} {out} {o} {o'} a keeps empty is finishes =
    let k = keeps (counted a.read) a.messages a.written a.kept_is in
    let v : VerdictOn w a.read = k.prints.verdict in
    let all = all_written w lines ended fed (counted a.read) a.messages a.written k empty in
    let last = finishes (counted a.read) a.messages a.written a.kept_is in
    elim (has_ended w (counted a.read) ended end v a.messages is k.prints.ended) [
      | inl so ↦
          let by : IsByBytes end = decided_by_bytes w (counted a.read) v end so.0 in
          reads_finished w end result a.read a.messages a.written input l out o o' a.bytes a.consumed v (by_bytes so.0) (prints_all end a.messages (printed_of w v) by so.1) all a.taken_is (fine_by_bytes end by) last
      | inr out_of ↦
          let P : Status → Type 0 = λ e. IsPrinted e a.messages (printed_of w v) in
          reads_finished w end result a.read a.messages a.written input l out o o' a.bytes a.consumed v (no_memory out_of.0) (subst P (sym out_of.0) out_of.1) all a.taken_is (λ same. memory_is_no_fault (sym out_of.0 ∙ same)) last
    ]

-- ---- the counts

source_or : (end : Status) (source source' : ℕ) → end ≢ status.WriteFault → SourceCounts end source source' → (source' ≡ source) ⊎ Rises source source'
source_or status.ReadFault source source' fine c = inr c
source_or status.WriteFault source source' fine c = absurd (fine refl)
source_or _ source source' fine c = inl c

sink_same : (end : Status) (sink sink' : ℕ) → end ≢ status.WriteFault → sink' ≡ sink → SinkCounts end sink sink'
sink_same status.WriteFault sink sink' fine same = absurd (fine refl)
sink_same _ sink sink' fine same = same

-- the counts at the end: the input's is as the end says, and the output's rose where the last lines were not taken
pub causes_finished : (w : Way) (end result : Status) (messages : List Msg) (input input' : SourceState) (out o o' : SinkState) → SourceCounts end input.faults input'.faults → o.faults ≡ out.faults → end ≢ status.WriteFault → Finishes w end result messages o o' → Causes result input input' out o'
causes_finished w end result messages input input' out o o' counts same fine finishes =
    elim finishes [
      | inl whole ↦ subst (λ (e : Status). Causes e input input' out o') (sym whole.0) (counts, sink_same end out.faults o'.faults fine (whole.2 ∙ same))
      | inr failed ↦ subst (λ (e : Status). Causes e input input' out o') (sym failed.0) (source_or end input.faults input'.faults fine counts, subst (λ (n : ℕ). Rises n o'.faults) same failed.2)
    ]

source_by_bytes : (end : Status) (source source' : ℕ) → IsByBytes end → source' ≡ source → SourceCounts end source source'
source_by_bytes status.Ok source source' by same = same
source_by_bytes (status.BadFrames place why) source source' by same = same
source_by_bytes (status.Lost cause) source source' by same = same
source_by_bytes (status.Refused which) source source' by same = same
source_by_bytes _ source source' by same = absurd by

-- where the input ends
pub causes_end : {w : Way} {kept : List ℕ → List Msg → List ℕ → Type 0} {end result : Status} {total : ℕ} {input l : SourceState} (l' : SourceState) {out o o' : SinkState} → (a : At kept total input l out o) → ((stream : List ℕ) (messages : List Msg) (taken : List ℕ) → kept stream messages taken → EndsHere w end stream messages) → l'.faults ≡ input.faults → o.faults ≡ out.faults
    → ((stream : List ℕ) (messages : List Msg) (taken : List ℕ) → kept stream messages taken → Finishes w end result messages o o') → Causes result input l' out o'
causes_end {w} {end} {result} {input} l' {out} {o} {o'} a here source sink finishes =
    let e = here (counted a.read) a.messages a.written a.kept_is in
    let by : IsByBytes end = subst IsByBytes (sym e.end_is) (input_by_bytes w e.verdict.place e.verdict.rest) in
    causes_finished w end result a.messages input l' out o o' (source_by_bytes end input.faults l'.faults by source) sink (fine_by_bytes end by) (finishes (counted a.read) a.messages a.written a.kept_is)

-- where the core has ended
pub causes_stop : {w : Way} {kept : List ℕ → List Msg → List ℕ → Type 0} {end result : Status} {lines : List ℕ} {done : Option Status} {fed total : ℕ} {input l : SourceState} {out o o' : SinkState} → (a : At kept total input l out o) → ((stream : List ℕ) (messages : List Msg) (taken : List ℕ) → kept stream messages taken → Keeps w lines done fed stream messages taken)
    → Some end ≡ done → l.faults ≡ input.faults → o.faults ≡ out.faults → ((stream : List ℕ) (messages : List Msg) (taken : List ℕ) → kept stream messages taken → Finishes w end result messages o o') → Causes result input l out o'
causes_stop {w} {end} {result} {done = ended} {input} {l} {out} {o} {o'} a keeps is source sink finishes =
    let k = keeps (counted a.read) a.messages a.written a.kept_is in
    let v : VerdictOn w a.read = k.prints.verdict in
    let last = finishes (counted a.read) a.messages a.written a.kept_is in
    elim (has_ended w (counted a.read) ended end v a.messages is k.prints.ended) [
      | inl so ↦
          let by : IsByBytes end = decided_by_bytes w (counted a.read) v end so.0 in
          causes_finished w end result a.messages input l out o o' (source_by_bytes end input.faults l.faults by source) sink (fine_by_bytes end by) last
      | inr out_of ↦ causes_finished w end result a.messages input l out o o' (subst (λ (e : Status). SourceCounts e input.faults l.faults) (sym out_of.0) source) sink (λ same. memory_is_no_fault (sym out_of.0 ∙ same)) last
    ]
