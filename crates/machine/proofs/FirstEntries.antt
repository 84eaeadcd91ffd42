-- A new connection: what is told to it, and to those before it.
use Rattle.std.specs.Prelude.{◌≡◌, refl, ℕ, ◌+◌, ◌-◌, ◌<◌, nat_le, Bool, true, false, not, ◌&&◌, ◌||◌, ◌==◌, cond, List, [], ◌∷◌, ◌++◌, length, Option, Some, None, if◌then◌else◌}
use Rattle.std.specs.List.{list_any, list_all}
use Rattle.std.specs.Option.{option_and_then}
use Rattle.std.proofs.Common.{arith, sym, ap, ◌∙◌, subst}
use Rattle.std.proofs.lemmas.Bool.{and_parts, or_parts}
use Rattle.std.proofs.lemmas.Bool.Decides.{nat_tests}
use Rattle.std.proofs.lemmas.List.Folds.{list_any-append}
use Rattle.message_codec.specs.declared.messages.Msg.TheVariants as msg
use Rattle.message_codec.specs.Streams.{frame_of}
use Rattle.hello_states.specs.declared.part_cause.PartCause.TheVariants as cause
use Rattle.machine.specs.Targets.{Client, Entry, Own, same_target}
use Rattle.machine.specs.Connections.{Connection, fresh, has_serial, with_serial, is_live, changed}
use Rattle.machine.specs.States.{State}
use Rattle.machine.specs.Combining.{when, for_some, unchanged}
use Rattle.machine.specs.Screens.{screen_in}
use Rattle.machine.specs.Queues.{most_untaken, size, fits, fitting, entries_for, is_slow}
use Rattle.machine.specs.Routing.{entry}
use Rattle.machine.specs.Partings.{lose, parted, marked, part}
use Rattle.machine.specs.Acceptance.{opened, greet, accept, most_open}
use Rattle.machine.proofs.Rules.{choose-keeps}
use Rattle.machine.proofs.Targets.{added_if, entries-more}
use Rattle.machine.proofs.Invariant.{On}
use Rattle.machine.proofs.BelowLatest.{BelowLatest, connection_upto, untold}
use Rattle.machine.proofs.NoneSlow.{NoneSlow}

-- ---- who is found

other_serial : (latest serial : ℕ) (c : Connection) → latest < serial → connection_upto latest c ≡ true → has_serial serial c ≡ false
other_serial latest serial c a h = grind (arith, nat_tests, a, h)

pub finds-new : (latest serial : ℕ) (c : Connection) (cs : List Connection) → latest < serial → has_serial serial c ≡ true → list_all (connection_upto latest) cs ≡ true → with_serial serial (cs ++ c ∷ []) ≡ Some c
finds-new latest serial c [] a e h = by (has_serial serial c) e
  where
    by : (b : Bool) → b ≡ true → cond b (Some c) None ≡ Some c
    by true k = refl
    by false k = grind (arith, k)
finds-new latest serial c (d ∷ cs) a e h =
    let parts = and_parts (connection_upto latest d) (list_all (connection_upto latest) cs) h in
    by (has_serial serial d) (other_serial latest serial d a parts.0) (finds-new latest serial c cs a e parts.1)
  where
    by : (b : Bool) → b ≡ false → with_serial serial (cs ++ c ∷ []) ≡ Some c → cond b (Some d) (with_serial serial (cs ++ c ∷ [])) ≡ Some c
    by true k rest = grind (arith, k)
    by false k rest = rest

-- ---- where it parts at once

parted_none : (routed : List Entry) (latest serial now : ℕ) (c : Connection) (cs : List Connection) → latest < serial → has_serial serial c ≡ true → list_all (connection_upto latest) cs ≡ true → list_any (λ d. is_live d && is_slow routed d.serial) cs ≡ false → list_any (λ d. is_live d && is_slow routed d.serial) (changed serial (parted cause.Full now) (cs ++ c ∷ [])) ≡ false
parted_none routed latest serial now c [] a e h k = by (has_serial serial c) e
  where
    by : (b : Bool) → b ≡ true → ((is_live (when b (parted cause.Full now) c) && is_slow routed (when b (parted cause.Full now) c).serial) || false) ≡ false
    by true k = refl
    by false k = grind (arith, k)
parted_none routed latest serial now c (d ∷ cs) a e h k =
    let parts = and_parts (connection_upto latest d) (list_all (connection_upto latest) cs) h in
    let none = or_parts (is_live d && is_slow routed d.serial) (list_any (λ d. is_live d && is_slow routed d.serial) cs) k in
    by (has_serial serial d) (other_serial latest serial d a parts.0) none.0 (parted_none routed latest serial now c cs a e parts.1 none.1)
  where
    by : (b : Bool) → b ≡ false → (is_live d && is_slow routed d.serial) ≡ false → list_any (λ d. is_live d && is_slow routed d.serial) (changed serial (parted cause.Full now) (cs ++ c ∷ [])) ≡ false → ((is_live (when b (parted cause.Full now) d) && is_slow routed (when b (parted cause.Full now) d).serial) || list_any (λ d. is_live d && is_slow routed d.serial) (changed serial (parted cause.Full now) (cs ++ c ∷ []))) ≡ false
    by true k here rest = grind (arith, k)
    by false k here rest = grind (arith, here, rest)

full_none : (latest serial : ℕ) (s : State) → latest < serial → On (BelowLatest latest) s → NoneSlow s → NoneSlow (part cause.Full serial (opened serial s))
full_none latest serial s a below h =
    let there : State = opened serial s in
    let new : Connection = fresh serial s.at in
    let is_new : has_serial serial new ≡ true = grind arith in
    let none : NoneSlow (marked cause.Full serial there) = parted_none s.routed latest serial s.at new s.connections a is_new below.connections h in
    subst (λ (o : Option Connection). NoneSlow (for_some (option_and_then screen_in o) (lose serial) unchanged (marked cause.Full serial there))) (sym (finds-new latest serial new s.connections a is_new below.connections)) none

-- ---- where it is greeted

others_same : (routed : List Entry) (e : Entry) (n : ℕ) → same_target e.target (Client n) ≡ false → is_slow (routed ++ e ∷ []) n ≡ is_slow routed n
others_same routed e n d = ap (λ es. not (length (fitting 0 es) == length es)) (entries-more (Client n) routed e ∙ ap (λ b. added_if b (entries_for (Client n) routed) e) d)

greeted_others : (routed : List Entry) (e : Entry) (latest serial : ℕ) (cs : List Connection) → latest < serial → e.target ≡ Client serial → list_all (connection_upto latest) cs ≡ true → list_any (λ d. is_live d && is_slow routed d.serial) cs ≡ false → list_any (λ d. is_live d && is_slow (routed ++ e ∷ []) d.serial) cs ≡ false
greeted_others routed e latest serial [] a t h k = refl
greeted_others routed e latest serial (d ∷ cs) a t h k =
    let parts = and_parts (connection_upto latest d) (list_all (connection_upto latest) cs) h in
    let none = or_parts (is_live d && is_slow routed d.serial) (list_any (λ d. is_live d && is_slow routed d.serial) cs) k in
    let apart : same_target (Client serial) (Client d.serial) ≡ false = grind (arith, nat_tests, a, parts.0) in
    let same : is_slow (routed ++ e ∷ []) d.serial ≡ is_slow routed d.serial = others_same routed e d.serial (ap (λ u. same_target u (Client d.serial)) t ∙ apart) in
    let here : (is_live d && is_slow (routed ++ e ∷ []) d.serial) ≡ false = ap (λ b. is_live d && b) same ∙ none.0 in
    let rest = greeted_others routed e latest serial cs a t parts.1 none.1 in
    grind (arith, here, rest)

-- the greeting alone has room
greeting_size : length (frame_of (msg.Hello 1 6)) ≡ 15
greeting_size = refl

little_fits : (n taken : ℕ) → n ≡ 15 → nat_le ((0 + n) - taken) most_untaken ≡ true
little_fits n taken e = grind (arith, nat_tests, e)

alone : (e : Entry) → fits 0 e ≡ true → not (length (fitting 0 (e ∷ [])) == length (e ∷ [])) ≡ false
alone e h = by (fits 0 e) h
  where
    by : (b : Bool) → b ≡ true → not (length (if b then e ∷ [] else []) == 1) ≡ false
    by true k = refl
    by false k = grind (arith, k)

first_fits : (routed : List Entry) (e : Entry) (serial : ℕ) → entries_for (Client serial) routed ≡ [] → same_target e.target (Client serial) ≡ true → fits 0 e ≡ true → is_slow (routed ++ e ∷ []) serial ≡ false
first_fits routed e serial none mine room =
    let one : entries_for (Client serial) (routed ++ e ∷ []) ≡ e ∷ [] = entries-more (Client serial) routed e ∙ (ap (λ b. added_if b (entries_for (Client serial) routed) e) mine ∙ ap (λ es. es ++ e ∷ []) none) in
    ap (λ es. not (length (fitting 0 es) == length es)) one ∙ alone e room

greet_none : (latest serial : ℕ) (s : State) → latest < serial → On (BelowLatest latest) s → NoneSlow s → NoneSlow (greet serial (opened serial s))
greet_none latest serial s a below h =
    let there : State = opened serial s in
    let e : Entry = entry Own (Client serial) (msg.Hello 1 6) there in
    let mine : same_target (Client serial) (Client serial) ≡ true = grind arith in
    let test : Connection → Bool = λ d. is_live d && is_slow (s.routed ++ e ∷ []) d.serial in
    let others : list_any test s.connections ≡ false = greeted_others s.routed e latest serial s.connections a refl below.connections h in
    let room : fits 0 e ≡ true = little_fits (size e) e.taken greeting_size in
    let new : test (fresh serial s.at) ≡ false = first_fits s.routed e serial (untold latest serial s a below) mine room in
    list_any-append test s.connections (fresh serial s.at ∷ []) ∙ grind (arith, others, new)

pub accept-none : (latest serial : ℕ) (s : State) → latest < serial → On (BelowLatest latest) s → NoneSlow s → NoneSlow (accept serial s)
accept-none latest serial s a below h = choose-keeps NoneSlow (nat_le most_open (length s.connections)) (part cause.Full serial) (greet serial) (opened serial s) (λ e. full_none latest serial s a below h) (λ e. greet_none latest serial s a below h)
