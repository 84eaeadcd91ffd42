-- Reading connections one after another: what is due of them, and which is to be closed.
use Rattle.std.specs.Prelude.{◌≡◌, refl, ℕ, ◌+◌, ◌<◌, ◌≤◌, min, Bool, true, false, cond, fold, List, [], ◌∷◌, length, take, Option, Some, None}
use Rattle.std.specs.List.{find, flat_map}
use Rattle.std.specs.Option.{option_map, option_or, option_to_list}
use Rattle.std.proofs.Common.{arith, sym, ap, ◌∙◌, subst, get_or}
use Rattle.std.proofs.lemmas.List.{flat_map_more, take_all}
use Rattle.std.proofs.lemmas.List.Sums.{fold-append}
use Rattle.std.proofs.lemmas.List.Folds.{find-append}
use Rattle.machine.specs.Connections.{Connection}
use Rattle.machine.specs.States.{State}
use Rattle.machine.specs.Readings.{is_to_close, closing, never}
use Rattle.connection_table.specs.declared.connection.Connection as kept
use Rattle.connection_table.specs.Standing.{StandsFor}
use Rattle.connection_table.specs.Deadlines.{ReadsOf}
use Rattle.connection_table.proofs.Pairs.{pairs-length}
use Rattle.connection_table.proofs.Places.{PairAt, pair-at-place}
use Rattle.server_core.specs.declared.server.ServerCore.{ServerCore}
use Rattle.server_core.specs.Leading.{Reads}
use Rattle.server_core.specs.Standing.{Beside, around, Stands}
use Rattle.server_core.specs.DueMoments.{due_of, connections_due}

pair : (b : Beside) (core : ServerCore) (s : State) (place : ℕ) (k : kept.Connection) → Stands b core s → place < length core.table → k ≡ get_or core.table place k → PairAt (StandsFor (around b s)) k place s.connections
pair b core s place k h l e = pair-at-place (StandsFor (around b s)) 0 core.table s.connections place k h.connections l e

-- ---- what is due

-- of those before a place
abbrev pub due_up_to : ℕ → State → ℕ
due_up_to place s = fold min never (flat_map (due_of s) (take place s.connections))

pub due-more : (core : ServerCore) (place least next : ℕ) (k : kept.Connection) (due : List ℕ) → place < length core.table → k ≡ get_or core.table place k → Reads core least (due_up_to place) → ReadsOf k due due_of → next ≡ fold min least due → Reads core next (due_up_to (place + 1))
due-more core place least next k due l e so_far reads is = λ b s h.
    let p : PairAt (StandsFor (around b s)) k place s.connections = pair b core s place k h l e in
    let before : List ℕ = flat_map (due_of s) (take place s.connections) in
    is
    ∙ (ap (λ n. fold min n due) (so_far b s h)
    ∙ (ap (λ ns. fold min (fold min never before) ns) (reads (around b s) s p.found refl p.stands)
    ∙ (sym (fold-append min never before (due_of s p.found))
    ∙ (ap (λ ns. fold min never ns) (flat_map_more (due_of s) [] (take place s.connections) p.found)
    ∙ ap (λ cs. fold min never (flat_map (due_of s) cs)) (sym p.next)))))

-- ---- which is to be closed

abbrev pub closing_up_to : ℕ → State → Option Connection
closing_up_to place s = find (is_to_close s) (take place s.connections)

pub closing-more : (core : ServerCore) (place : ℕ) (k : kept.Connection) (answer : Bool) → answer ≡ false → place < length core.table → k ≡ get_or core.table place k → Reads core None (closing_up_to place) → ReadsOf k answer (λ s c. is_to_close (record s { at = core.at }) c) → Reads core None (closing_up_to (place + 1))
closing-more core place k answer off l e so_far reads = λ b s h.
    let p : PairAt (StandsFor (around b s)) k place s.connections = pair b core s place k h l e in
    let not_yet : is_to_close s p.found ≡ false = ap (λ n. is_to_close (record s { at = n }) p.found) (sym h.at) ∙ (sym (reads (around b s) s p.found refl p.stands) ∙ off) in
    so_far b s h
    ∙ (with_none (closing_up_to place s) (is_to_close s p.found) p.found not_yet
    ∙ (sym (find-append (is_to_close s) (take place s.connections) (p.found ∷ []))
    ∙ ap (find (is_to_close s)) (sym p.next)))
  where
    with_none : (o : Option Connection) (t : Bool) (c : Connection) → t ≡ false → o ≡ option_or o (cond t (Some c) None)
    with_none (Some d) t c h = refl
    with_none None true c h = absurd (let x : ⊥ = cc in x)
    with_none None false c h = refl

pub closing-found : (core : ServerCore) (place n : ℕ) (k : kept.Connection) (answer : Bool) → answer ≡ true → n ≡ k.serial → place < length core.table → k ≡ get_or core.table place k → Reads core None (closing_up_to place) → ReadsOf k answer (λ s c. is_to_close (record s { at = core.at }) c) → Reads core (Some n) closing
closing-found core place n k answer on of l e so_far reads = λ b s h.
    let p : PairAt (StandsFor (around b s)) k place s.connections = pair b core s place k h l e in
    let come : is_to_close s p.found ≡ true = ap (λ n. is_to_close (record s { at = n }) p.found) (sym h.at) ∙ (sym (reads (around b s) s p.found refl p.stands) ∙ on) in
    ap (λ m. Some m) (of ∙ p.stands.serial)
    ∙ (ap (option_map (λ (c : Connection). c.serial)) (with_some (is_to_close s p.found) p.found (find (is_to_close s) p.rest) come)
    ∙ (ap (λ o. option_map (λ (c : Connection). c.serial) (option_or o (find (is_to_close s) (p.found ∷ p.rest)))) (so_far b s h)
    ∙ (ap (option_map (λ (c : Connection). c.serial)) (sym (find-append (is_to_close s) (take place s.connections) (p.found ∷ p.rest)))
    ∙ ap (λ cs. option_map (λ (c : Connection). c.serial) (find (is_to_close s) cs)) (sym p.whole))))
  where
    with_some : (t : Bool) (c : Connection) (o : Option Connection) → t ≡ true → Some c ≡ cond t (Some c) o
    with_some true c o h = refl
    with_some false c o h = absurd (let x : ⊥ = cc in x)

-- ---- items of a list

in_table : (core : ServerCore) (items : List kept.Connection) (i : ℕ) (k : kept.Connection) → items ≡ core.table → k ≡ get_or items i k → k ≡ get_or core.table i k
in_table core items i k same is = is ∙ ap (λ ks. get_or ks i k) same

fewer : (core : ServerCore) (items : List kept.Connection) (i : ℕ) → items ≡ core.table → i < length items → i < length core.table
fewer core items i same lt = subst (λ (ks : List kept.Connection). i < length ks) same lt

-- all were read
all_read : (b : Beside) (core : ServerCore) (s : State) (items : List kept.Connection) (i : ℕ) → items ≡ core.table → length items ≤ i → Stands b core s → take i s.connections ≡ s.connections
all_read b core s items i same past h =
    let kept_many = ap length same in
    let many = pairs-length (StandsFor (around b s)) 0 core.table s.connections h.connections in
    take_all i s.connections (omega arith)

pub due-next : (core : ServerCore) (items : List kept.Connection) (i least next : ℕ) (k : kept.Connection) (due : Option ℕ) → items ≡ core.table → i < length items → k ≡ get_or items i k → Reads core least (due_up_to i) → ReadsOf k (option_to_list due) due_of → next ≡ fold min least (option_to_list due) → Reads core next (due_up_to (i + 1))
due-next core items i least next k due same lt is so_far reads folds = due-more core i least next k (option_to_list due) (fewer core items i same lt) (in_table core items i k same is) so_far reads folds

pub due-all : (core : ServerCore) (items : List kept.Connection) (i least : ℕ) → items ≡ core.table → length items ≤ i → Reads core least (due_up_to i) → Reads core least (λ s. fold min never (connections_due s))
due-all core items i least same past so_far = λ b s h. so_far b s h ∙ ap (λ cs. fold min never (flat_map (due_of s) cs)) (all_read b core s items i same past h)

at_now : (core : ServerCore) (n : ℕ) (k : kept.Connection) (answer : Bool) → n ≡ core.at → ReadsOf k answer (λ s c. is_to_close (record s { at = n }) c) → ReadsOf k answer (λ s c. is_to_close (record s { at = core.at }) c)
at_now core n k answer e reads = subst (λ (m : ℕ). ReadsOf k answer (λ s c. is_to_close (record s { at = m }) c)) e reads

pub closing-next : (core : ServerCore) (items : List kept.Connection) (i n : ℕ) (k : kept.Connection) (answer : Bool) → answer ≡ false → n ≡ core.at → items ≡ core.table → i < length items → k ≡ get_or items i k → Reads core None (closing_up_to i) → ReadsOf k answer (λ s c. is_to_close (record s { at = n }) c) → Reads core None (closing_up_to (i + 1))
closing-next core items i n k answer off e same lt is so_far reads = closing-more core i k answer off (fewer core items i same lt) (in_table core items i k same is) so_far (at_now core n k answer e reads)

pub closing-item : (core : ServerCore) (items : List kept.Connection) (i n serial : ℕ) (k : kept.Connection) (answer : Bool) → answer ≡ true → serial ≡ k.serial → n ≡ core.at → items ≡ core.table → i < length items → k ≡ get_or items i k → Reads core None (closing_up_to i) → ReadsOf k answer (λ s c. is_to_close (record s { at = n }) c) → Reads core (Some serial) closing
closing-item core items i n serial k answer on of e same lt is so_far reads = closing-found core i serial k answer on of (fewer core items i same lt) (in_table core items i k same is) so_far (at_now core n k answer e reads)

pub closing-none : (core : ServerCore) (items : List kept.Connection) (i : ℕ) → items ≡ core.table → length items ≤ i → Reads core None (closing_up_to i) → Reads core None closing
closing-none core items i same past so_far = λ b s h. ap (option_map (λ (c : Connection). c.serial)) (so_far b s h ∙ ap (find (is_to_close s)) (all_read b core s items i same past h))
