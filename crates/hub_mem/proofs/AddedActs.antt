-- One more act, and what a hub in memory tells then.
use Rattle.std.proofs.Common.{◌≡◌, ap, sym, refl, subst, ℕ, ◌-◌, ◌^◌, ◌≤◌, Bool, true, false, List, [], ◌∷◌, ◌++◌, arith}
use Rattle.std.specs.Prelude.{Option, None, Some}
use Rattle.std.specs.List.{fold}
use Rattle.std.proofs.lemmas.List.Sums.{fold-append}
use Rattle.hub_acts.specs.declared.act.Act.{Act}
use Rattle.hub_acts.specs.Acts.{add_act}
use Rattle.hub_acts.specs.Counting.{Counts, is_fault, is_break}
use Rattle.hub_acts.specs.Hubs.{HubCalls}
use Rattle.hub_mem.specs.Tallies.{Tally, no_calls, one_more_if, tally_after, tally_of}
use Rattle.hub_mem.specs.Stories.{story_after, story_of}
use Rattle.hub_mem.specs.Answers.{Played, hub_state}
use Rattle.script_screen.specs.declared.trace.TraceLine.{TraceLine}

pub tally_more : (acts : List Act) (a : Act) → tally_of (acts ++ a ∷ []) ≡ tally_after (tally_of acts) a
tally_more acts a = fold-append tally_after no_calls acts (a ∷ [])

pub story-more : (lines : List TraceLine) (acts : List Act) (a : Act) → story_of lines (acts ++ a ∷ []) ≡ story_after (story_of lines acts) a
story-more lines acts a = fold-append story_after (record { scenes = []; ahead = lines }) acts (a ∷ [])

-- ---- counts stay below their last value

abbrev pub most : ℕ
most = 2 ^ 64 - 1

pub record IsWithin (t : Tally) : Type 0 where
  pub faults : t.faults ≤ most
  pub breaks : t.breaks ≤ most

more_if : (b : Bool) (n : ℕ) → n ≤ most → one_more_if b n ≤ most
more_if true n h = omega arith
more_if false n h = h

within : (t : Tally) (acts : List Act) → IsWithin t → IsWithin (fold tally_after t acts)
within t [] h = h
within t (a ∷ acts) h = within (tally_after t a) acts (record { faults = more_if (is_fault a) t.faults h.faults; breaks = more_if (is_break a) t.breaks h.breaks })

pub within_all : (acts : List Act) → IsWithin (tally_of acts)
within_all acts = within no_calls acts (record { faults = omega arith; breaks = omega arith })

pub counts : (b : Bool) (n : ℕ) → n ≤ most → Counts b n (one_more_if b n)
counts true n h = (omega arith, omega arith)
counts false n h = refl

-- ---- calls

-- a hub in memory tells what its call did
pub hub-calls : (made : Option Act) (old new : Played) → new ≡ record old { acts = add_act made old.acts } → HubCalls made (hub_state old) (hub_state new)
hub-calls None old new e = subst (λ (p : Played). HubCalls None (hub_state old) (hub_state p)) (sym e) (record { latest = refl; open_now = refl; acts = refl; faults = refl; breaks = refl })
hub-calls (Some a) old new e = subst (λ (p : Played). HubCalls (Some a) (hub_state old) (hub_state p)) (sym e) (record {
  latest = ap (λ (t : Tally). t.latest) (tally_more old.acts a);
  open_now = ap (λ (t : Tally). t.serials) (tally_more old.acts a);
  acts = refl;
  faults = subst (λ (t : Tally). Counts (is_fault a) (tally_of old.acts).faults t.faults) (sym (tally_more old.acts a)) (counts (is_fault a) (tally_of old.acts).faults (within_all old.acts).faults);
  breaks = subst (λ (t : Tally). Counts (is_break a) (tally_of old.acts).breaks t.breaks) (sym (tally_more old.acts a)) (counts (is_break a) (tally_of old.acts).breaks (within_all old.acts).breaks);
})
