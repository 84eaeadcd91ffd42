-- A piece that was read, in the machine's connections.
use Rattle.std.specs.Prelude.{◌≡◌, refl, ℕ, ◌==◌, Bool, true, false, ◌||◌, cond, List, [], ◌∷◌, ◌++◌, MatchBool, Option, Some}
use Rattle.std.specs.List.{find, list_any}
use Rattle.std.specs.Option.{option_map_or}
use Rattle.std.proofs.Common.{arith, sym, ap, ◌∙◌, subst}
use Rattle.message_codec.specs.declared.messages.Msg.{Msg}
use Rattle.message_codec.specs.Streams.{AreBytes}
use Rattle.message_reader.specs.declared.reader.BadFrame.{BadFrame}
use Rattle.message_reader.specs.Representation.{Represents}
use Rattle.message_reader.specs.Roles.{server, reader_of}
use Rattle.message_reader.specs.ReaderParts.{ReaderParts}
use Rattle.message_reader.specs.Steps.{Concludes, GivesNone}
use Rattle.machine.specs.Connections.{Connection, has_serial, is_live, changed}
use Rattle.machine.specs.Steps.{receives}
use Rattle.machine.proofs.Finding.{found-passes}
use Rattle.machine.proofs.Live.{lives_as}
use Rattle.connection_table.specs.declared.connection.Connection as kept
use Rattle.connection_table.specs.declared.reading.Reading.{Reading}
use Rattle.connection_table.specs.FirstOf.{FirstChanges}
use Rattle.connection_table.specs.Tables.{is_of, ChangesAt}
use Rattle.connection_table.specs.Calls.{Reads}
use Rattle.connection_table.specs.Readings.{Brings}
use Rattle.connection_table.specs.Standing.{Surroundings, StandsFor, Pairs, AreFor}
use Rattle.connection_table.proofs.Pairs.{pairs-changed}
use Prim.{search}

-- ---- one reader

-- no message was left after those
pub brings : (piece : List ℕ) (reading : Reading) (old between new : ReaderParts) (bad : Option BadFrame) → reading.bad ≡ bad → between.role ≡ old.role → ((stream : List ℕ) (given : List Msg) → Represents old stream given → Represents between (stream ++ piece) (given ++ reading.messages.items)) → GivesNone between new bad → Brings piece reading old new
brings piece reading old between new bad is role gives none = record {
  role = none.role ∙ role;
  represents = λ stream given h. none.represents (stream ++ piece) (given ++ reading.messages.items) (gives stream given h);
  concludes = λ stream given h. subst (Concludes (reader_of new.role) (stream ++ piece) (given ++ reading.messages.items)) (sym is) (none.concludes (stream ++ piece) (given ++ reading.messages.items) (gives stream given h));
}

-- ---- what is told of each serial

-- more is told of that one
abbrev pub appended : {A : Type 0} → ℕ → List A → (ℕ → List A) → ℕ → List A
appended n more f m = cond (m == n) (f m ++ more) (f m)

pub appended-at : {A : Type 0} (n m : ℕ) (more : List A) (f : ℕ → List A) → (m == n) ≡ true → appended n more f m ≡ f m ++ more
appended-at n m more f e = ap (λ b. cond b (f m ++ more) (f m)) e

pub appended-other : {A : Type 0} (n m : ℕ) (more : List A) (f : ℕ → List A) → (m == n) ≡ false → appended n more f m ≡ f m
appended-other n m more f e = ap (λ b. cond b (f m ++ more) (f m)) e

-- that came, and those messages were given
abbrev pub with_heard : (ℕ → List ℕ) → (ℕ → List Msg) → Surroundings → Surroundings
with_heard received given a = record a { received = received; given = given }

-- the same is told of a serial that lives
abbrev pub IsSameAt : Surroundings → (ℕ → List ℕ) → (ℕ → List Msg) → ℕ → Type 0
IsSameAt a received given n = (received n ≡ a.received n) × (given n ≡ a.given n)

stands-heard : (a : Surroundings) (received : ℕ → List ℕ) (given : ℕ → List Msg) (k : kept.Connection) (c : Connection) → (is_live c ≡ true → IsSameAt a received given c.serial) → StandsFor a k c → StandsFor (with_heard received given a) k c
stands-heard a received given k c same h = search ((λ (on : is_live c ≡ true). h.heard on ∙ sym (same on).0), (λ (on : is_live c ≡ true). subst (Represents k.reader c.received) (sym (same on).1) (h.reader on)))

here_live : (c : Connection) (cs : List Connection) → is_live c ≡ true → list_any (lives_as c.serial) (c ∷ cs) ≡ true
here_live c cs on = let is : (c.serial == c.serial) ≡ true = grind arith in grind (arith, is, on)

later_live : (n : ℕ) (c : Connection) (cs : List Connection) → list_any (lives_as n) cs ≡ true → list_any (lives_as n) (c ∷ cs) ≡ true
later_live n c cs e = by (lives_as n c) e
  where
    by : (b : Bool) → list_any (lives_as n) cs ≡ true → (b || list_any (lives_as n) cs) ≡ true
    by true e = refl
    by false e = e

heard_all : (a : Surroundings) (received : ℕ → List ℕ) (given : ℕ → List Msg) (low : ℕ) (ks : List kept.Connection) (cs : List Connection) → ((n : ℕ) → list_any (lives_as n) cs ≡ true → IsSameAt a received given n) → Pairs (StandsFor a) low ks cs → Pairs (StandsFor (with_heard received given a)) low ks cs
heard_all a received given low [] [] same h = tt
heard_all a received given low [] (c ∷ cs) same h = h
heard_all a received given low (k ∷ ks) [] same h = h
heard_all a received given low (k ∷ ks) (c ∷ cs) same h = (
  h.0,
  stands-heard a received given k c (λ on. same c.serial (here_live c cs on)) h.1,
  heard_all a received given c.serial ks cs (λ n e. same n (later_live n c cs e)) h.2,
)

-- what is told of those that live is the same
pub are-heard : (a : Surroundings) (received : ℕ → List ℕ) (given : ℕ → List Msg) (ks : List kept.Connection) (cs : List Connection) → ((n : ℕ) → list_any (lives_as n) cs ≡ true → IsSameAt a received given n) → AreFor a ks cs → AreFor (with_heard received given a) ks cs
are-heard a received given ks cs same h = heard_all a received given 0 ks cs same h

-- ---- a piece of one of them

-- it came from that serial, and brought that
abbrev pub brought : ℕ → List ℕ → Reading → Surroundings → Surroundings
brought n piece reading a = with_heard (appended n piece a.received) (appended n reading.messages.items a.given) a

stands-read : (a : Surroundings) (n : ℕ) (piece : List ℕ) (reading : Reading) (k l : kept.Connection) (c : Connection) → (c.serial == n) ≡ true → StandsFor a k c → Reads piece reading k l → StandsFor (brought n piece reading a) l (receives piece c)
stands-read a n piece reading k l c is h r = subst (λ x. StandsFor (brought n piece reading a) x (receives piece c)) (sym r.rest) (search (r.brings.role ∙ h.role, (λ (on : is_live c ≡ true). ap (λ bytes. bytes ++ piece) (h.heard on) ∙ sym (appended-at n c.serial piece a.received is)), (λ (on : is_live c ≡ true). subst (Represents l.reader (c.received ++ piece)) (sym (appended-at n c.serial reading.messages.items a.given is)) (r.brings.represents c.received (a.given c.serial) (h.reader on)))))

pub are-read : (a : Surroundings) (n : ℕ) (piece : List ℕ) (reading : Reading) (ks ls : List kept.Connection) (cs : List Connection) → AreFor a ks cs → ChangesAt n (Reads piece reading) ks ls → AreFor (brought n piece reading a) ls (changed n (receives piece) cs)
are-read a n piece reading ks ls cs h g =
    pairs-changed n (StandsFor a) (StandsFor (brought n piece reading a)) (Reads piece reading) (receives piece) (find (has_serial n) cs) (λ c. refl) (λ k c r. r.serial)
    (λ k l c f r p. stands-read a n piece reading k l c (found-passes (has_serial n) cs c f) r p)
    (λ k c e r. stands-heard a (appended n piece a.received) (appended n reading.messages.items a.given) k c (λ on. (appended-other n c.serial piece a.received e, appended-other n c.serial reading.messages.items a.given e)) r)
    0 ks ls cs refl h g

-- ---- what it comes to

-- the verdict on a stream of bytes has these messages, and then this bad frame or less than a frame
pub record ComesTo (stream : List ℕ) (messages : List Msg) (bad : Option BadFrame) : Type 0 where
  pub bytes : AreBytes stream
  pub concludes : Concludes server stream messages bad

concluded_one : (a : Surroundings) (n : ℕ) (piece : List ℕ) (reading : Reading) (k l : kept.Connection) (c : Connection) → c.serial ≡ n → is_live c ≡ true → StandsFor a k c → Reads piece reading k l → ComesTo (a.received n ++ piece) (a.given n ++ reading.messages.items) reading.bad
concluded_one a n piece reading k l c is on h r =
    let reads = h.reader on in
    let given : List Msg = a.given c.serial ++ reading.messages.items in
    let came : ComesTo (c.received ++ piece) given reading.bad = record {
      bytes = (r.brings.represents c.received (a.given c.serial) reads).bytes;
      concludes = subst (λ role. Concludes (reader_of role) (c.received ++ piece) given reading.bad) (r.brings.role ∙ h.role) (r.brings.concludes c.received (a.given c.serial) reads);
    } in
    subst (λ m. ComesTo (a.received m ++ piece) (a.given m ++ reading.messages.items) reading.bad) is
    (subst (λ bytes. ComesTo (bytes ++ piece) given reading.bad) (h.heard on) came)

concluded_in : (a : Surroundings) (n : ℕ) (piece : List ℕ) (reading : Reading) (low : ℕ) (ks ls : List kept.Connection) (cs : List Connection) → option_map_or is_live (find (has_serial n) cs) false ≡ true → Pairs (StandsFor a) low ks cs → FirstChanges (is_of n) (Reads piece reading) ks ls → ComesTo (a.received n ++ piece) (a.given n ++ reading.messages.items) reading.bad
concluded_in a n piece reading low [] ls [] on h g = absurd (let x : ⊥ = cc in x)
concluded_in a n piece reading low [] ls (c ∷ cs) on h g = absurd h
concluded_in a n piece reading low (k ∷ ks) ls [] on h g = absurd h
concluded_in a n piece reading low (k ∷ ks) [] (c ∷ cs) on h g = absurd g
concluded_in a n piece reading low (k ∷ ks) (l ∷ ls) (c ∷ cs) on h g =
    by (c.serial == n) refl on (subst (λ m. MatchBool (m == n) (Reads piece reading k l × (ls ≡ ks)) ((l ≡ k) × FirstChanges (is_of n) (Reads piece reading) ks ls)) h.1.serial g) (λ e i. concluded_in a n piece reading c.serial ks ls cs e h.2 i)
  where
    equal : (m n : ℕ) → (m == n) ≡ true → m ≡ n
    equal m n h = grind (arith, h)

    by : (b : Bool) → (c.serial == n) ≡ b → option_map_or is_live (cond b (Some c) (find (has_serial n) cs)) false ≡ true → MatchBool b (Reads piece reading k l × (ls ≡ ks)) ((l ≡ k) × FirstChanges (is_of n) (Reads piece reading) ks ls) → (option_map_or is_live (find (has_serial n) cs) false ≡ true → FirstChanges (is_of n) (Reads piece reading) ks ls → ComesTo (a.received n ++ piece) (a.given n ++ reading.messages.items) reading.bad) → ComesTo (a.received n ++ piece) (a.given n ++ reading.messages.items) reading.bad
    by true t e g later = concluded_one a n piece reading k l c (equal c.serial n t) e h.1 g.0
    by false t e g later = later e g.1

-- the verdict on all that came from one that lives
pub are-concluded : (a : Surroundings) (n : ℕ) (piece : List ℕ) (reading : Reading) (ks ls : List kept.Connection) (cs : List Connection) → option_map_or is_live (find (has_serial n) cs) false ≡ true → AreFor a ks cs → ChangesAt n (Reads piece reading) ks ls → ComesTo (a.received n ++ piece) (a.given n ++ reading.messages.items) reading.bad
are-concluded a n piece reading ks ls cs on h g = concluded_in a n piece reading 0 ks ls cs on h g
