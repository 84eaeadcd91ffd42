-- A server with one more connection.
use Rattle.std.specs.Prelude.{◌≡◌, refl, ℕ, ◌<◌, ◌≤◌, ◌==◌, Bool, true, false, ◌||◌, List, [], ◌∷◌, ◌++◌, length, nat_le, Option, Some, None, if◌then◌else◌}
use Rattle.std.specs.List.{list_any, find}
use Rattle.std.specs.Option.{option_map_or}
use Rattle.std.proofs.lemmas.Bool.Decides.{nat_tests}
use Rattle.std.proofs.Common.{arith, sym, ap, ◌∙◌, subst}
use Rattle.message_reader.specs.Representation.{Represents}
use Rattle.message_codec.specs.declared.messages.Msg.{Msg}
use Rattle.hello_states.specs.declared.part_cause.PartCause.TheVariants as cause
use Rattle.hello_states.specs.Handshake.{greeting_at}
use Rattle.clip_chunks.specs.Assemblies as assemblies
use Rattle.machine.specs.Targets.{Target, Primary, Client}
use Rattle.machine.specs.Connections.{Connection, has_serial, is_live, fresh}
use Rattle.machine.specs.States.{State}
use Rattle.machine.specs.Combining.{choose}
use Rattle.machine.specs.Screens.{lives}
use Rattle.machine.specs.Partings.{part}
use Rattle.machine.specs.Acceptance.{opened, greet, accept, most_open}
use Rattle.connection_table.specs.declared.connection.Connection as kept
use Rattle.connection_table.specs.Calls.{Begins}
use Rattle.connection_table.specs.Standing.{StandsFor, Pairs}
use Rattle.server_core.specs.declared.server.ServerCore.{ServerCore}
use Rattle.server_core.specs.Accepting.{AllBelow, IsNew}
use Rattle.server_core.specs.Targets.{IsOpenIn}
use Rattle.server_core.specs.Standing.{Beside, around, Stands, IsBlank}
use Prim.{search}

stands-fresh : (b : Beside) (s : State) (k : kept.Connection) (serial now limit : ℕ) → IsBlank serial b → IsNew serial s → now ≡ s.at → limit ≡ (around b s).limit → Begins k serial now limit → StandsFor (around b s) k (fresh serial s.at)
stands-fresh b s k serial now limit blank new at is g = record {
  serial = g.serial_is;
  phase = g.phase ∙ ap greeting_at at;
  known = tt;
  role = g.role;
  heard = λ on. sym blank.0;
  reader = λ on. subst (λ (ms : List Msg). Represents k.reader [] ms) (sym blank.1) g.reader;
  clipboard = record { limit_is = ap (λ (x : assemblies.AssemblyParts). x.limit) g.clipboard ∙ is; run_is = ap (λ (x : assemblies.AssemblyParts). x.run) g.clipboard };
  selection = record { limit_is = ap (λ (x : assemblies.AssemblyParts). x.limit) g.selection ∙ is; run_is = ap (λ (x : assemblies.AssemblyParts). x.run) g.selection };
  queue = g.queue s.routed serial new.untold;
  taken = g.taken;
  dropped = g.holds;
  holds = λ on. refl;
}

pairs-added : (R : kept.Connection → Connection → Type 0) (low : ℕ) (ks : List kept.Connection) (cs : List Connection) (k : kept.Connection) (c : Connection) → low < c.serial → AllBelow c.serial cs → R k c → Pairs R low ks cs → Pairs R low (ks ++ k ∷ []) (cs ++ c ∷ [])
pairs-added R low [] [] k c lt below r h = (lt, r, tt)
pairs-added R low [] (d ∷ cs) k c lt below r h = absurd h
pairs-added R low (j ∷ ks) [] k c lt below r h = absurd h
pairs-added R low (j ∷ ks) (d ∷ cs) k c lt below r h = (h.0, h.1, pairs-added R d.serial ks cs k c below.0 below.1 r h.2)

any_added : (n : ℕ) (cs : List Connection) (c : Connection) → list_any (has_serial n) cs ≡ true → list_any (has_serial n) (cs ++ c ∷ []) ≡ true
any_added n [] c h = absurd (let x : ⊥ = cc in x)
any_added n (d ∷ cs) c h = by (has_serial n d) h (any_added n cs c)
  where
    by : (t : Bool) → (t || list_any (has_serial n) cs) ≡ true → (list_any (has_serial n) cs ≡ true → list_any (has_serial n) (cs ++ c ∷ []) ≡ true) → (t || list_any (has_serial n) (cs ++ c ∷ [])) ≡ true
    by true h later = refl
    by false h later = later h

there_added : (cs : List Connection) (c : Connection) (t : Target) → IsOpenIn cs t → IsOpenIn (cs ++ c ∷ []) t
there_added cs c Primary h = tt
there_added cs c (Client n) h = any_added n cs c h

pub stands-added : (b : Beside) (core : ServerCore) (s : State) (table : List kept.Connection) (k : kept.Connection) (serial now limit : ℕ) → IsBlank serial b → IsNew serial s → now ≡ s.at → limit ≡ (around b s).limit → Begins k serial now limit → table ≡ core.table ++ k ∷ [] → Stands b core s → Stands b (record core { table = table }) (record s { connections = s.connections ++ fresh serial s.at ∷ [] })
stands-added b core s table k serial now limit blank new at is g e h = search (subst (λ ks. Pairs (StandsFor (around b s)) 0 ks (s.connections ++ fresh serial s.at ∷ [])) (sym e) (pairs-added (StandsFor (around b s)) 0 core.table s.connections k (fresh serial s.at) new.some new.above (stands-fresh b s k serial now limit blank new at is g) h.connections), there_added s.connections (fresh serial s.at) s.active h.there)

-- ---- the one that was added

found_new : (serial now : ℕ) (cs : List Connection) → AllBelow serial cs → find (has_serial serial) (cs ++ fresh serial now ∷ []) ≡ Some (fresh serial now)
found_new serial now [] h = ap (λ (t : Bool). if t then Some (fresh serial now) else None) (itself serial)
  where
    itself : (n : ℕ) → (n == n) ≡ true
    itself n = grind arith
found_new serial now (c ∷ cs) h = ap (λ (t : Bool). if t then Some c else find (has_serial serial) (cs ++ fresh serial now ∷ [])) (below c.serial serial h.0) ∙ found_new serial now cs h.1
  where
    below : (m n : ℕ) → m < n → (m == n) ≡ false
    below m n lt = grind arith

pub new-lives : (serial : ℕ) (s : State) → IsNew serial s → lives (opened serial s) serial ≡ true
new-lives serial s new = ap (λ (o : Option Connection). option_map_or is_live o false) (found_new serial s.at s.connections new.above)

pub full-or-greeted : (serial : ℕ) (s : State) (full : Bool) → nat_le most_open (length s.connections) ≡ full → choose full (part cause.Full serial) (greet serial) (opened serial s) ≡ accept serial s
full-or-greeted serial s full e = ap (λ (t : Bool). choose t (part cause.Full serial) (greet serial) (opened serial s)) (sym e)

pub at-most : (m n : ℕ) → m ≤ n → nat_le m n ≡ true
at-most m n h = grind (arith, nat_tests)

pub above-most : (m n : ℕ) → n < m → nat_le m n ≡ false
above-most m n h = grind (arith, nat_tests)
