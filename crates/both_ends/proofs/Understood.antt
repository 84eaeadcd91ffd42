-- The law of both ends.
use Rattle.std.specs.Prelude.{◌≡◌, refl, ℕ, ◌+◌, Bool, true, false, not, ◌&&◌, ◌||◌, List, [], ◌∷◌, ◌++◌, map, if◌then◌else◌}
use Rattle.std.specs.List.{list_all, AllByRecursion}
use Rattle.std.proofs.Common.{ap, sym, subst, ◌∙◌, append_assoc}
use Rattle.std.proofs.lemmas.Bool.{and_parts}
use Rattle.std.proofs.lemmas.List.{append-nil, map-append}
use Rattle.message_codec.specs.declared.messages.End.TheVariants as ends
use Rattle.message_codec.specs.declared.messages.Msg.{Msg}
use Rattle.message_codec.specs.Table.{Sender, server, client, both, row, code_of, Sends}
use Rattle.message_codec.specs.BodyVerdicts.{sends}
use Rattle.message_codec.specs.Spelling.{body_of, Spells}
use Rattle.message_codec.specs.Streams.{AreBytes, plain, AllGood}
use Rattle.message_reader.specs.Roles as roles
use Rattle.message_reader.specs.Roles.{is_hello, reader_of}
use Rattle.message_reader.specs.Endings.{IsFront}
use Rattle.clip_chunks.specs.Parts.{part_of, parts_among}
use Rattle.clip_chunks.specs.OpenRuns.{Whole, wholes_among, brought}
use Rattle.clip_chunks.proofs.WholesGrow.{wholes_grow}
use Rattle.held_inputs.specs.declared.line.Line.{Line}
use Rattle.client_core.specs.declared.clipboards.TheConstants.{CLIP_LIMIT}
use Rattle.client_core.specs.Clipboards.{whole_line}
use Rattle.client_core.specs.Clients.{Client}
use Rattle.client_core.specs.Happenings.{Happening, injecting, joining, run, TellsWholes}
use Rattle.client_core.proofs.ToldWholes.{told-injecting, told-joining}
use Rattle.machine.specs.Targets.{Entry}
use Rattle.machine.specs.Targets as target
use Rattle.machine.specs.Queues.{entries_for, messages_in, messages_for, size, fits, fitting, queued_messages}
use Rattle.std.specs.Prelude.{reverse}
use Rattle.both_ends.specs.Greetings.{greeting, may_follow, IsGreetedFirst}
use Rattle.both_ends.specs.Feeding.{fed_by}
use Rattle.both_ends.specs.Writing.{IsWritable}
use Rattle.both_ends.specs.Understanding.{messages_read, IsUnderstoodBy, JoiningUnderstands}
use Rattle.both_ends.proofs.ByteBodies.{bytes-before, frames-bytes}
use Rattle.both_ends.proofs.Cutting.{IsFineBox, fine-box}
use Rattle.both_ends.proofs.MappedScreens.{HasKeys, injecting-keys, joining-keys}
use Rattle.both_ends.proofs.Fed.{IsFed, run-fed}
use Rattle.both_ends.proofs.GreetedFirst.{greeted-first}
use Rattle.both_ends.proofs.Writable.{all-writable}
use Rattle.both_ends.proofs.AllOfLists.{all-first}

-- ---- what is queued are the first of what was told

fitting-front : (before : ℕ) (es : List Entry) → (more : List Entry) × (es ≡ fitting before es ++ more)
fitting-front before [] = ([], refl)
fitting-front before (e ∷ es) = by (fits before e) (fitting-front (before + size e) es)
  where
    by : (b : Bool) → (more : List Entry) × (es ≡ fitting (before + size e) es ++ more) → (more : List Entry) × (e ∷ es ≡ (if b then e ∷ fitting (before + size e) es else []) ++ more)
    by true later = (later.0, ap (λ (t : List Entry). e ∷ t) later.1)
    by false later = (e ∷ es, refl)

queued-front : (routed : List Entry) (serial : ℕ) → IsFront (queued_messages routed serial) (messages_for (target.Client serial) routed)
queued-front routed serial =
    let f = fitting-front 0 (entries_for (target.Client serial) routed) in
    (messages_in f.0, ap messages_in f.1 ∙ map-append (λ (e : Entry). e.message) (fitting 0 (entries_for (target.Client serial) routed)) f.0)

list_all-front : (test : Msg → Bool) (xs ys : List Msg) → list_all test (xs ++ ys) ≡ true → list_all test xs ≡ true
list_all-front test [] ys h = refl
list_all-front test (x ∷ xs) ys h =
    let parts = and_parts (test x) (list_all test (xs ++ ys)) h in
    ap (λ (b : Bool). b && list_all test xs) parts.0 ∙ list_all-front test xs ys parts.1

greeted-front : (xs ys : List Msg) → IsGreetedFirst (xs ++ ys) → IsGreetedFirst xs
greeted-front [] ys h = tt
greeted-front (x ∷ xs) ys h = (h.0, list_all-front may_follow xs ys h.1)

-- ---- each of them may stand where it does

sends-is : (s : Sender) → sends s ends.Server ≡ true → Sends s ends.Server
sends-is server h = refl
sends-is client h = absurd cc
sends-is both h = tt

spells : (m : Msg) → sends (row (code_of m)).sender ends.Server ≡ true → IsWritable m → Spells ends.Server m (body_of m)
spells m sent w = record { sent = sends-is (row (code_of m)).sender sent; fits = w.fits; body_is = refl }

later-good : (first : Msg) (before ms : List Msg) → list_all may_follow ms ≡ true → AllByRecursion IsWritable ms → AllGood roles.client (first ∷ before) ms
later-good first before [] f w = tt
later-good first before (m ∷ ms) f w =
    let both-parts = and_parts (may_follow m) (list_all may_follow ms) f in
    let parts = and_parts (sends (row (code_of m)).sender ends.Server) (not (is_hello m)) both-parts.0 in
    (record { spelled = spells m parts.0 w.0; within = w.0.within; taken = parts.1 }, later-good first (before ++ m ∷ []) ms both-parts.1 w.1)

first-taken : (m : Msg) → m ≡ greeting → (is_hello m || roles.is_refusal m) ≡ true
first-taken m is = ap (λ (x : Msg). is_hello x || roles.is_refusal x) is

first-sent : (m : Msg) → m ≡ greeting → sends (row (code_of m)).sender ends.Server ≡ true
first-sent m is = ap (λ (x : Msg). sends (row (code_of x)).sender ends.Server) is

joining-good : (ms : List Msg) → IsGreetedFirst ms → AllByRecursion IsWritable ms → AllGood roles.client [] ms
joining-good [] g w = tt
joining-good (m ∷ ms) g w = (record { spelled = spells m (first-sent m g.0) w.0; within = w.0.within; taken = first-taken m g.0 }, later-good m [] ms g.1 w.1)

-- one that reads the messages of a server wherever they stand
anywhere-good : (before ms : List Msg) → list_all may_follow ms ≡ true → AllByRecursion IsWritable ms → AllGood (plain ends.Server) before ms
anywhere-good before [] f w = tt
anywhere-good before (m ∷ ms) f w =
    let both-parts = and_parts (may_follow m) (list_all may_follow ms) f in
    let parts = and_parts (sends (row (code_of m)).sender ends.Server) (not (is_hello m)) both-parts.0 in
    (record { spelled = spells m parts.0 w.0; within = w.0.within; taken = refl }, anywhere-good (before ++ m ∷ []) ms both-parts.1 w.1)

injecting-good : (ms : List Msg) → IsGreetedFirst ms → AllByRecursion IsWritable ms → AllGood (plain ends.Server) [] ms
injecting-good [] g w = tt
injecting-good (m ∷ ms) g w = (record { spelled = spells m (first-sent m g.0) w.0; within = w.0.within; taken = refl }, anywhere-good (m ∷ []) ms g.1 w.1)

-- ---- wholes among the first messages

wholes-front : (limit : ℕ) (xs ys : List Msg) → (more : List Whole) × (wholes_among limit (xs ++ ys) ≡ wholes_among limit xs ++ more)
wholes-front limit xs [] = ([], ap (wholes_among limit) (append-nil xs) ∙ sym (append-nil (wholes_among limit xs)))
wholes-front limit xs (y ∷ ys) =
    let rest = wholes-front limit (xs ++ y ∷ []) ys in
    let new : List Whole = brought limit (part_of y) (reverse (parts_among xs)) in
    (new ++ rest.0, ap (wholes_among limit) (sym (append_assoc xs (y ∷ []) ys)) ∙ rest.1 ∙ ap (λ (t : List Whole). t ++ rest.0) (wholes_grow limit xs y) ∙ append_assoc (wholes_among limit xs) new rest.0)

-- ---- the law

fronts : (a b c : List Msg) → IsFront a b → IsFront b c → IsFront a c
fronts a b c h k = (h.0 ++ k.0, k.1 ∙ ap (λ (t : List Msg). t ++ k.0) h.1 ∙ append_assoc a h.0 k.0)

-- what a client of either kind is before the first piece, and what holds whatever happens to it
record IsReady (first : Client) : Type 0 where
  good : (ms : List Msg) → IsGreetedFirst ms → AllByRecursion IsWritable ms → AllGood (reader_of first.role) [] ms
  fed : IsFed first.role first []
  keys : (happenings : List Happening) → HasKeys (run first happenings)
  wholes : (happenings : List Happening) → TellsWholes (run first happenings)

understood : (first : Client) → IsReady first → IsUnderstoodBy first
understood first ready o before latest s serial by sound types bytes happenings rest is blameless =
    let told : List Msg = messages_for (target.Client serial) s.routed in
    let queued : List Msg = queued_messages s.routed serial in
    let front : IsFront queued told = queued-front s.routed serial in
    let greeted : IsGreetedFirst queued = greeted-front queued front.0 (subst IsGreetedFirst front.1 (greeted-first o latest s serial (record { happenings = before; by = by }))) in
    let writable : AllByRecursion IsWritable queued = all-first IsWritable queued front.0 (subst (AllByRecursion IsWritable) front.1 (all-writable o before latest s by sound types bytes (target.Client serial))) in
    let small : AreBytes (fed_by happenings) = bytes-before (fed_by happenings) rest (subst AreBytes is (frames-bytes queued writable)) in
    let good : AllGood (reader_of first.role) [] queued = ready.good queued greeted writable in
    let c : Client = run first happenings in
    let fed : IsFed first.role c (fed_by happenings) = run-fed first.role queued rest [] first happenings good is small blameless ready.fed in
    let box : IsFineBox (reader_of first.role) queued (fed_by happenings) = fine-box (reader_of first.role) queued (fed_by happenings) rest good is small in
    let of_queue : IsFront (messages_read first.role (fed_by happenings)) queued = (box.left, box.all) in
    let all_front : IsFront c.heard queued = fronts c.heard (messages_read first.role (fed_by happenings)) queued fed.heard of_queue in
    let more = wholes-front CLIP_LIMIT c.heard all_front.0 in
    record {
      good = box.none;
      fine = fed.fine;
      of_queue = of_queue;
      heard = fed.heard;
      all = λ goes. (fed.going goes).1;
      keys = ready.keys happenings;
      wholes = ready.wholes happenings;
      first_wholes = (map whole_line more.0, ap (λ (ms : List Msg). map whole_line (wholes_among CLIP_LIMIT ms)) all_front.1 ∙ ap (map whole_line) more.1 ∙ map-append whole_line (wholes_among CLIP_LIMIT c.heard) more.0 ∙ ap (λ (t : List Line). t ++ map whole_line more.0) (sym (ready.wholes happenings)));
    }

pub joining-understands : JoiningUnderstands
joining-understands name w h script now = understood (joining name w h script now) (record {
  good = joining-good;
  fed = record { role = refl; fine = refl; heard = ([], refl); going = λ goes. (refl, refl) };
  keys = joining-keys name w h script now;
  wholes = told-joining name w h script now;
})

pub injecting-understands : IsUnderstoodBy injecting
injecting-understands = understood injecting (record {
  good = injecting-good;
  fed = record { role = refl; fine = refl; heard = ([], refl); going = λ goes. (refl, refl) };
  keys = injecting-keys;
  wholes = told-injecting;
})
