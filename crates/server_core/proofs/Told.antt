-- A server that told a target a message is in the state after it.
use Rattle.std.specs.Prelude.{◌≡◌, refl, ℕ, ◌==◌, Bool, true, false, List, [], ◌∷◌, ◌++◌, Option, Some, None, if◌then◌else◌}
use Rattle.std.specs.List.{find, list_any, flat_map}
use Rattle.std.specs.Option.{option_map_or}
use Rattle.std.proofs.Common.{arith, sym, ap, ◌∙◌, subst}
use Rattle.share_base.proofs.ListTests.{any_none, none_of_find}
use Rattle.message_codec.specs.declared.messages.Msg.{Msg}
use Rattle.machine.specs.Targets.{Entry, Origin, Primary, Client}
use Rattle.machine.specs.Connections.{Connection, has_serial}
use Rattle.machine.specs.States.{State, LogLine, Send}
use Rattle.machine.specs.Queues.{is_slow, messages_for}
use Rattle.machine.specs.Routing.{entry, route, log_lines}
use Rattle.machine.specs.Logs.{log_line}
use Rattle.machine.proofs.Finding.{found-passes}
use Rattle.connection_table.specs.declared.connection.Connection as kept
use Rattle.connection_table.specs.Calls.{Sends}
use Rattle.connection_table.specs.Tables.{is_of, ChangesAt}
use Rattle.connection_table.specs.Standing.{Surroundings, told, StandsFor, AreFor}
use Rattle.connection_table.proofs.Pairs.{FoundPair}
use Rattle.connection_table.proofs.Standing.{are-sent, are-other, are-found}
use Rattle.server_log.specs.declared.primary.Primary as screen
use Rattle.server_log.specs.Telling as logs
use Rattle.server_core.specs.declared.server.ServerCore.{ServerCore}
use Rattle.server_core.specs.Targets.{IsThere}
use Rattle.server_core.specs.Standing.{Beside, around, Stands}
use Rattle.server_core.proofs.LogText.{log-more, log-one, log-same, told-more, told-same}
use Prim.{search}

-- ---- the primary

pub stands-told : (b : Beside) (core : ServerCore) (s : State) (o : Origin) (m : Msg) (p : screen.Primary) (log : List ℕ) → Stands b core s → logs.Tells core.primary p m core.log log → Stands b (record core { primary = p; log = log }) (route o Primary m s)
stands-told b core s o m p log h t = search (are-other (around b s) (entry o Primary m s) core.table s.connections refl h.connections, subst (logs.StandsFor p) (sym (told-more s.routed (entry o Primary m s) refl)) (t.stands (messages_for Primary s.routed) h.told), log-more b.front core.log log s.log (log_lines Primary m s.routed (s.routed ++ entry o Primary m s ∷ [])) h.log (t.logged (messages_for Primary s.routed) h.told))

-- ---- a connection

is_not_none : {X : Type 0} (test : X → Bool) (xs : List X) → list_any test xs ≡ true → find test xs ≡ None → ⊥
is_not_none test xs h e = let no = any_none test xs (none_of_find test xs e) in cc

-- the queue of a connection that is there says whether it is slow
pub slow-of : (a : Surroundings) (n : ℕ) (ks : List kept.Connection) (cs : List Connection) → list_any (has_serial n) cs ≡ true → AreFor a ks cs → option_map_or (λ (k : kept.Connection). k.queue.is_slow) (find (is_of n) ks) false ≡ is_slow a.routed n
slow-of a n ks cs there h = by (find (is_of n) ks) (find (has_serial n) cs) refl (are-found a (is_of n) (has_serial n) (λ k c r. ap (λ m. m == n) r.serial) ks cs h)
  where
    by : (o : Option kept.Connection) (p : Option Connection) → find (has_serial n) cs ≡ p → FoundPair (StandsFor a) o p → option_map_or (λ (k : kept.Connection). k.queue.is_slow) o false ≡ is_slow a.routed n
    by None None e f = absurd (is_not_none (has_serial n) cs there e)
    by None (Some c) e f = absurd f
    by (Some k) None e f = absurd f
    by (Some k) (Some c) e f = f.queue.is_slow ∙ ap (is_slow a.routed) (equal c.serial n (found-passes (has_serial n) cs c e))
      where
        equal : (m n : ℕ) → (m == n) ≡ true → m ≡ n
        equal m n h = grind (arith, h)

-- what is logged of the frame
sent_log : (front log new : List ℕ) (before : List LogLine) (line : LogLine) (slow : Bool) → front ++ log ≡ flat_map log_line before → (slow ≡ true → new ≡ log) → (slow ≡ false → new ≡ log ++ log_line line) → front ++ new ≡ flat_map log_line (before ++ (if slow then [] else line ∷ []))
sent_log front log new before line true h out in_log = log-same front log new before h (out refl)
sent_log front log new before line false h out in_log = log-one front log new before line h (in_log refl)

pub stands-sent : (b : Beside) (core : ServerCore) (s : State) (o : Origin) (n : ℕ) (m : Msg) (table : List kept.Connection) (log : List ℕ) (slow : Bool) → IsThere s (Client n) → Stands b core s → ChangesAt n (Sends m) core.table table → slow ≡ option_map_or (λ (k : kept.Connection). k.queue.is_slow) (find (is_of n) table) false → (slow ≡ true → log ≡ core.log) → (slow ≡ false → log ≡ core.log ++ log_line (Send n m)) → Stands b (record core { table = table; log = log }) (route o (Client n) m s)
stands-sent b core s o n m table log slow there h g is out in_log =
    let e : Entry = entry o (Client n) m s in
    let kept_all : AreFor (told e (around b s)) table s.connections = are-sent (around b s) n o m core.table table s.connections h.connections g in
    let is_it : slow ≡ is_slow (s.routed ++ e ∷ []) n = is ∙ slow-of (told e (around b s)) n table s.connections there kept_all in
    search (subst (logs.StandsFor core.primary) (sym (told-same s.routed e refl)) h.told, sent_log b.front core.log log s.log (Send n m) (is_slow (s.routed ++ e ∷ []) n) h.log (λ k. out (is_it ∙ k)) (λ k. in_log (is_it ∙ k)))
