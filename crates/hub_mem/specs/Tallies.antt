-- What acts come to: how many calls may fail by their number, the serials, and the two counts.
use Rattle.std.specs.Prelude.{ℕ, Bool, true, false, ◌==◌, if◌then◌else◌, List, []}
use Rattle.std.specs.List.{fold, list_any}
use Rattle.share_base.specs.Counts.{one_more}
use Rattle.hub_acts.specs.declared.act.Act.{Act}
use Rattle.hub_acts.specs.declared.act.Act.TheVariants as act
use Rattle.hub_acts.specs.Counting.{is_fault, is_break, latest_with, open_with}

-- the calls that are numbered, from 1, in the order in which they are made
abbrev pub is_numbered : Act → Bool
is_numbered (act.Now moment) = false
is_numbered (act.Close serial) = false
is_numbered (act.LinkNow moment) = false
is_numbered act.LinkClose = false
is_numbered a = true

pub record Tally : Type 0 where
  pub calls : ℕ
  pub latest : ℕ
  pub serials : List ℕ
  pub faults : ℕ
  pub breaks : ℕ

abbrev pub no_calls : Tally
no_calls = record { calls = 0; latest = 0; serials = []; faults = 0; breaks = 0 }

abbrev pub one_more_if : Bool → ℕ → ℕ
one_more_if b n = if b then one_more n else n

abbrev pub with_serials : Act → Tally → Tally
with_serials a t = record t { latest = latest_with a t.latest; serials = open_with a t.serials }

abbrev pub tally_after : Tally → Act → Tally
tally_after t a = record {
  calls = one_more_if (is_numbered a) t.calls;
  latest = latest_with a t.latest;
  serials = open_with a t.serials;
  faults = one_more_if (is_fault a) t.faults;
  breaks = one_more_if (is_break a) t.breaks;
}

abbrev pub tally_of : List Act → Tally
tally_of acts = fold tally_after no_calls acts

-- the numbers of the calls that are to fail, and the acts so far
pub record Recorded : Type 0 where
  pub failing : List ℕ
  pub acts : List Act

-- the next numbered call is to fail
abbrev pub is_failing : Recorded → Bool
is_failing r = list_any (λ n. n == one_more (tally_of r.acts).calls) r.failing
