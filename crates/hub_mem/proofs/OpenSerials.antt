-- Which serials are open and which is the latest, after one more act.
use Rattle.std.proofs.Common.{sym, subst, ℕ, ◌≤◌, not, List, [], ◌∷◌, ◌++◌, arith}
use Rattle.std.specs.Prelude.{All, Contains, ◌==◌}
use Rattle.std.proofs.lemmas.List.Elements.{All-append, All-cons, All-filter, All-nil, All-contains}
use Rattle.hub_acts.specs.declared.act.Act.{Act}
use Rattle.hub_acts.specs.declared.act.Act.TheVariants as act
use Rattle.hub_acts.specs.declared.answers.AcceptAnswer.TheVariants as accepted
use Rattle.hub_acts.specs.Counting.{latest_with, open_with}
use Rattle.hub_mem.specs.Tallies.{Tally, tally_of}
use Rattle.hub_mem.specs.Standing.{AreAccepted}
use Rattle.hub_mem.proofs.AddedActs.{tally_more}

raised : (low high : ℕ) (xs : List ℕ) → low ≤ high → All (λ c. c ≤ low) xs → All (λ c. c ≤ high) xs
raised low high xs le h = λ k d lt. let one = h k d lt in omega arith

alone : (n : ℕ) → All (λ c. c ≤ n) (n ∷ [])
alone n = All-cons (λ c. c ≤ n) n [] (omega arith) (All-nil (λ c. c ≤ n))

open_upto : (a : Act) (latest : ℕ) (serials : List ℕ) → latest ≤ latest_with a latest → All (λ c. c ≤ latest) serials → All (λ c. c ≤ latest_with a latest) (open_with a serials)
open_upto (act.Accept (accepted.New s)) latest serials le h = All-append (λ c. c ≤ s) serials (s ∷ []) (raised latest s serials le h) (alone s)
open_upto (act.Accept accepted.NotNow) latest serials le h = h
open_upto (act.Accept accepted.Failed) latest serials le h = h
open_upto (act.Accept accepted.OutOfMemory) latest serials le h = h
open_upto (act.Close s) latest serials le h = All-filter (λ c. not (c == s)) (λ c. c ≤ latest) serials h
open_upto (act.Listen port answer) latest serials le h = h
open_upto (act.Wait ms answer marks) latest serials le h = h
open_upto (act.Now moment) latest serials le h = h
open_upto (act.Read serial room answer bytes) latest serials le h = h
open_upto (act.Write serial bytes answer) latest serials le h = h
open_upto (act.LinkConnect host port answer) latest serials le h = h
open_upto (act.LinkWait ms answer) latest serials le h = h
open_upto (act.LinkNow moment) latest serials le h = h
open_upto (act.LinkRead room answer bytes) latest serials le h = h
open_upto (act.LinkWrite bytes answer) latest serials le h = h
open_upto act.LinkClose latest serials le h = h

pub accepted-more : (joined : ℕ) (acts : List Act) (a : Act) → (tally_of acts).latest ≤ latest_with a (tally_of acts).latest → latest_with a (tally_of acts).latest ≤ joined → AreAccepted joined acts → AreAccepted joined (acts ++ a ∷ [])
accepted-more joined acts a le most h = record {
  accepted = subst (λ (t : Tally). t.latest ≤ joined) (sym (tally_more acts a)) most;
  open_ones = subst (λ (t : Tally). All (λ c. c ≤ t.latest) t.serials) (sym (tally_more acts a)) (open_upto a (tally_of acts).latest (tally_of acts).serials le h.open_ones);
}

-- more may have joined
pub accepted-later : (old new : ℕ) (acts : List Act) → old ≤ new → AreAccepted old acts → AreAccepted new acts
accepted-later old new acts le h = record { accepted = let one = h.accepted in omega arith; open_ones = h.open_ones }

-- an open serial was accepted
pub open-accepted : (joined : ℕ) (acts : List Act) (c : ℕ) → AreAccepted joined acts → Contains (tally_of acts).serials c → c ≤ (tally_of acts).latest
open-accepted joined acts c h at = All-contains (λ x. x ≤ (tally_of acts).latest) (tally_of acts).serials c h.open_ones at
