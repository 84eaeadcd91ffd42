-- The core of a client that joins, as the loop drives it.
use Rattle.std.specs.Prelude.{◌≡◌, refl, ℕ, ◌+◌, ◌≤◌, ◌<◌, ◌^◌, List, ◌++◌, length, Option, Some, None, Result, Ok, Err, OnOk, OnErr}
use Rattle.std.specs.Option.{option_map}
use Rattle.std.proofs.Common.{arith, ap, sym, subst, ◌∙◌}
use Rattle.share_base.specs.declared.out_of_memory.OutOfMemory.{OutOfMemory}
use Rattle.client_talk.specs.Talks.{Talk}
use Rattle.client_talk.specs.Talks as talks
use Rattle.client_core.specs.declared.client.ClientCore.{ClientCore}
use Rattle.client_core.specs.declared.client_end.ClientEnd.{ClientEnd}
use Rattle.client_core.specs.declared.client_end.ClientEnd.TheVariants as end
use Rattle.client_core.specs.Clients.{Client, hear_all, fed, got}
use Rattle.client_core.specs.Happenings.{passes, took, untaken, untaken_of, due_of, moment_of}
use Rattle.client_core.specs.Kept as kept
use Rattle.client_core.specs.Kept.{Stands, Follows, StopsAt, ClearsLines, EndsReleased, out_of_memory, lines_in}
use Rattle.attentive_links.specs.Judging as judging
use Rattle.attentive_links.proofs.Clients.{HasTalk, got-joins, passes-joins, hears-joins}
use Rattle.client_loop.specs.Attendants.{StandsJoined, Reads, Prints, Becomes, Clears, Gets, Passes, MayGet, MayTake, Releases}

joins_by : (talk : Option Talk) → HasTalk talk → (t : Talk) × (talk ≡ Some t)
joins_by None h = absurd h
joins_by (Some t) h = (t, refl)

joined : (core : ClientCore) (front : List ℕ) (c : Client) → Stands core c front → HasTalk c.talk → StandsJoined core front c
joined core front c stood joins = let t = joins_by c.talk joins in record { stands = stood; talk = t.0; joins = t.1 }

joins_of : (core : ClientCore) (front : List ℕ) (c : Client) → StandsJoined core front c → HasTalk c.talk
joins_of core front c s = subst HasTalk (sym s.joins) tt

-- ---- bytes

pub may-hear : (core : ClientCore) (piece : List ℕ) → MayGet StandsJoined core piece → core.reader.total + length piece < 2 ^ 63
may-hear core piece m = let a = m.2.stands.total in let b = m.3 in omega (arith, a, b)

pub gets-joined : (old new : ClientCore) (result : Result (Unit {0}) OutOfMemory) (piece : List ℕ) → (old.done ≡ None → kept.Gets old new result piece) → Gets StandsJoined old new result piece
gets-joined old new (Ok unit) piece h = λ front c goes s.
    joined new front (got piece c) (h (s.stands.done_is ∙ goes) c front s.stands) (got-joins piece c (joins_of old front c s))
gets-joined old new (Err e) piece h = λ front c goes s.
    let b = h (s.stands.done_is ∙ goes) c front s.stands in
    let d : Client = out_of_memory (hear_all (fed piece c) b.messages) in
    (d, record { messages = b.messages; first = b.first; goes = b.goes; is = refl }, joined new front d b.kept (hears-joins piece b.messages c (joins_of old front c s)))

-- ---- moments

pub passes-joined : (old new : ClientCore) (result : Result (Unit {0}) OutOfMemory) (moment : ℕ) → OnOk result (Follows old new (passes moment)) → OnErr result (old.done ≡ None → StopsAt old new moment) → Passes StandsJoined old new result moment
passes-joined old new (Ok unit) moment h k = λ front c goes s.
    joined new front (passes moment c) (h c front s.stands) (passes-joins moment c (joins_of old front c s))
passes-joined old new (Err e) moment h k = λ front c goes s.
    let b = k (s.stands.done_is ∙ goes) c front s.talk s.joins s.stands in
    (record c { talk = Some b.talk; done = Some end.OutOfMemory }, record { before = s.talk; talk = b.talk; joins = s.joins; runs = b.runs; is = refl }, record { stands = b.stands; talk = b.talk; joins = refl })

-- ---- bytes that are taken

pub may-lose : (core : ClientCore) (count : ℕ) → MayTake StandsJoined core count → count ≤ length (untaken_of core.hearer.talk)
may-lose core count m = subst (λ (talk : Option Talk). count ≤ length (untaken_of talk)) (sym m.2.stands.hears.talk) m.3

pub took-joined : (old new : ClientCore) (count : ℕ) → Follows old new (took count) → Becomes StandsJoined old new (took count)
took-joined old new count h front c s = record { stands = h c front s.stands; talk = talks.took count s.talk; joins = ap (λ (talk : Option Talk). option_map (talks.took count) talk) s.joins }

-- ---- what is read off

pub done-joined : (core : ClientCore) (answer : Option ClientEnd) → answer ≡ core.done → Reads StandsJoined core answer (λ c. c.done)
done-joined core answer is front c s = is ∙ s.stands.done_is

pub queued-joined : (core : ClientCore) (answer : List ℕ) → ((c : Client) (front : List ℕ) → Stands core c front → answer ≡ untaken c) → Reads StandsJoined core answer untaken
queued-joined core answer h front c s = h c front s.stands

pub due-joined : (core : ClientCore) (answer : ℕ) → ((c : Client) (front : List ℕ) → Stands core c front → answer ≡ due_of c.done c.talk) → Reads StandsJoined core answer judging.due
due-joined core answer h front c s = h c front s.stands

pub at-joined : (core : ClientCore) (answer : ℕ) → ((c : Client) (front : List ℕ) → Stands core c front → answer ≡ moment_of c.talk) → Reads StandsJoined core answer judging.moment
at-joined core answer h front c s = h c front s.stands

-- ---- lines

pub prints-joined : (core : ClientCore) (text : List ℕ) → text ≡ lines_in core → Prints StandsJoined core text
prints-joined core text is front c s = ap (λ (t : List ℕ). front ++ t) is ∙ s.stands.hears.shows.printed

pub clears-joined : (old new : ClientCore) → ClearsLines old new → Clears StandsJoined old new (lines_in old)
clears-joined old new h front c s = record { stands = h c front s.stands; talk = s.talk; joins = s.joins }

pub releases-joined : (core : ClientCore) (bytes : List ℕ) → EndsReleased core bytes → Releases StandsJoined core (lines_in core) bytes
releases-joined core bytes h front c s = h c front s.stands
