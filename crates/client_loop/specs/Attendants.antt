-- What the calls of an attendant do to the clients that it stands for.
use Rattle.std.specs.Prelude.{◌≡◌, ℕ, ◌+◌, ◌≤◌, ◌<◌, ◌^◌, List, ◌++◌, length, Some, None, Result, Ok, Err}
use Rattle.std.specs.List.{flat_map}
use Rattle.share_base.specs.declared.out_of_memory.OutOfMemory.{OutOfMemory}
use Rattle.held_inputs.specs.Line.{line_of}
use Rattle.client_core.specs.declared.client.ClientCore.{ClientCore}
use Rattle.client_core.specs.Clients.{Client, got}
use Rattle.client_core.specs.Hearing.{all_lines}
use Rattle.client_core.specs.Happenings.{lines, passes, untaken}
use Rattle.client_core.specs.Kept.{Stands, Released}
use Rattle.client_talk.specs.Talks.{Talk}
use Rattle.attentive_links.specs.InPart.{HeardSome, RanSome}

-- ---- the text of a client's lines

abbrev pub text_of : Client → List ℕ
text_of c = flat_map line_of (lines c)

-- with the releases
abbrev pub whole_text_of : Client → List ℕ
whole_text_of c = flat_map line_of (all_lines c.shown)

-- ---- the core of one that joins a server

-- it stands for that client, which has a conversation
pub record StandsJoined (core : ClientCore) (front : List ℕ) (c : Client) : Type 0 where
  pub stands : Stands core c front
  pub talk : Talk
  pub joins : c.talk ≡ Some talk

-- ---- what is read off. Here and below, stands tells the clients that an attendant may be, with
-- the front of their lines that was cleared

abbrev pub Reads : {C A : Type 0} → (C → List ℕ → Client → Type 0) → C → A → (Client → A) → Type 0
Reads stands core answer f = (front : List ℕ) (c : Client) → stands core front c → answer ≡ f c

-- the text of the lines goes on from its front that was cleared
abbrev pub Prints : {C : Type 0} → (C → List ℕ → Client → Type 0) → C → List ℕ → Type 0
Prints stands core text =
    (front : List ℕ) (c : Client) → stands core front c → front ++ text ≡ text_of c

-- ---- what is told

abbrev pub Becomes : {C : Type 0} → (C → List ℕ → Client → Type 0) → C → C → (Client → Client)
    → Type 0
Becomes stands old new next =
    (front : List ℕ) (c : Client) → stands old front c → stands new front (next c)

abbrev pub Clears : {C : Type 0} → (C → List ℕ → Client → Type 0) → C → C → List ℕ → Type 0
Clears stands old new text =
    (front : List ℕ) (c : Client) → stands old front c → stands new (front ++ text) c

-- one that goes on hears a piece; out of memory, some of it
abbrev pub Gets : {C A : Type 0} → (C → List ℕ → Client → Type 0) → C → C → Result A OutOfMemory
    → List ℕ → Type 0
Gets stands old new (Ok done) piece =
    (front : List ℕ) (c : Client) → c.done ≡ None → stands old front c
    → stands new front (got piece c)
Gets stands old new (Err e) piece =
    (front : List ℕ) (c : Client) → c.done ≡ None → stands old front c
    → (d : Client) × HeardSome c piece d × stands new front d

-- one that goes on passes to a moment; out of memory, some lines of its script ran
abbrev pub Passes : {C A : Type 0} → (C → List ℕ → Client → Type 0) → C → C → Result A OutOfMemory
    → ℕ → Type 0
Passes stands old new (Ok done) moment =
    (front : List ℕ) (c : Client) → c.done ≡ None → stands old front c
    → stands new front (passes moment c)
Passes stands old new (Err e) moment =
    (front : List ℕ) (c : Client) → c.done ≡ None → stands old front c
    → (d : Client) × RanSome c moment d × stands new front d

-- ---- what may be told

-- its client gets fewer than 2^63 bytes with these
abbrev pub MayGet : {C : Type 0} → (C → List ℕ → Client → Type 0) → C → List ℕ → Type 0
MayGet stands core piece =
    (front : List ℕ) × (c : Client) × stands core front c
    × (length c.received + length piece < 2 ^ 63)

-- its client has so many bytes to take
abbrev pub MayTake : {C : Type 0} → (C → List ℕ → Client → Type 0) → C → ℕ → Type 0
MayTake stands core count =
    (front : List ℕ) × (c : Client) × stands core front c × (count ≤ length (untaken c))

-- ---- its end

-- its lines with these bytes after them are released
abbrev pub Releases : {C : Type 0} → (C → List ℕ → Client → Type 0) → C → (text bytes : List ℕ)
    → Type 0
Releases stands core text bytes =
    (front : List ℕ) (c : Client) → stands core front c
    → Released c.shown ((front ++ text) ++ bytes)
