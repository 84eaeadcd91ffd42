-- What becomes of a client by its stream and its clock: what its link took, its end, its bytes, and that it joins.
use Rattle.std.specs.Prelude.{◌≡◌, refl, ℕ, ◌+◌, ◌≤◌, Bool, true, false, cond, List, length, Option, Some, None}
use Rattle.std.specs.Option.{option_map}
use Rattle.std.proofs.Common.{arith}
use Rattle.std.proofs.lemmas.List.{length-append}
use Rattle.message_codec.specs.declared.messages.Msg.{Msg}
use Rattle.client_talk.specs.Talks.{Talk, told, is_dead, is_slow}
use Rattle.client_talk.specs.Answers.{hears}
use Rattle.client_talk.specs.Scripts.{run_script}
use Rattle.client_core.specs.declared.client_end.ClientEnd.TheVariants as end
use Rattle.client_core.specs.declared.client_end.LostCause.TheVariants as lost
use Rattle.client_core.specs.Clients.{Client, slow_end, hear_all, fed, got}
use Rattle.client_core.specs.Happenings.{end_of_wait, passes}
use Rattle.attentive_links.proofs.ClientSteps.{IsOwn, Keeps, hear-all-keeps, got-keeps, passes-keeps}

-- ---- what its link took

taken_kept : (taken : List ℕ) → Keeps (λ c. c.taken ≡ taken)
taken_kept taken = record {
  hears_one = λ m c h. h;
  ends = λ e c own h. h;
  clock = λ t c is moment h. h;
}

pub got-taken : (piece : List ℕ) (c : Client) → (got piece c).taken ≡ c.taken
got-taken piece c = got-keeps (λ d. d.taken ≡ c.taken) (taken_kept c.taken) piece c refl refl

pub passes-taken : (moment : ℕ) (c : Client) → (passes moment c).taken ≡ c.taken
passes-taken moment c = passes-keeps (λ d. d.taken ≡ c.taken) (taken_kept c.taken) moment c refl

-- ---- its bytes

few_kept : (n : ℕ) → Keeps (λ c. length c.received ≤ n)
few_kept n = record {
  hears_one = λ m c h. h;
  ends = λ e c own h. h;
  clock = λ t c is moment h. h;
}

pub got-few : (piece : List ℕ) (c : Client) → length (got piece c).received ≤ length c.received + length piece
got-few piece c =
    got-keeps (λ d. length d.received ≤ length c.received + length piece) (few_kept (length c.received + length piece)) piece c (omega arith) (let l = length-append c.received piece in omega (arith, l))

pub passes-few : (moment : ℕ) (c : Client) → length (passes moment c).received ≤ length c.received
passes-few moment c = passes-keeps (λ d. length d.received ≤ length c.received) (few_kept (length c.received)) moment c (omega arith)

-- ---- its end

slow_own : (talk : Option Talk) → IsOwn (slow_end talk)
slow_own None = tt
slow_own (Some t) = by (is_slow t)
  where
    by : (b : Bool) → IsOwn (cond b (Some (end.Lost lost.Slow)) None)
    by true = tt
    by false = tt

wait_own : (t : Talk) → IsOwn (end_of_wait t)
wait_own t = by (is_dead t)
  where
    by : (b : Bool) → IsOwn (cond b (Some (end.Lost lost.Dead)) (slow_end (Some (run_script t))))
    by true = tt
    by false = slow_own (Some (run_script t))

own_kept : Keeps (λ c. IsOwn c.done)
own_kept = record {
  hears_one = λ m c h. slow_own (option_map (hears m) c.talk);
  ends = λ e c own h. own;
  clock = λ t c is moment h. wait_own (told moment t);
}

pub got-own : (piece : List ℕ) (c : Client) → IsOwn c.done → IsOwn (got piece c).done
got-own piece c h = got-keeps (λ d. IsOwn d.done) own_kept piece c h h

pub passes-own : (moment : ℕ) (c : Client) → IsOwn c.done → IsOwn (passes moment c).done
passes-own moment c h = passes-keeps (λ d. IsOwn d.done) own_kept moment c h

-- ---- it joins, and so it has a conversation

abbrev pub HasTalk : Option Talk → Type 0
HasTalk None = ⊥
HasTalk (Some t) = Unit {0}

joins_on : (m : Msg) (talk : Option Talk) → HasTalk talk → HasTalk (option_map (hears m) talk)
joins_on m None h = h
joins_on m (Some t) h = tt

joins_kept : Keeps (λ c. HasTalk c.talk)
joins_kept = record {
  hears_one = λ m c h. joins_on m c.talk h;
  ends = λ e c own h. h;
  clock = λ t c is moment h. tt;
}

pub got-joins : (piece : List ℕ) (c : Client) → HasTalk c.talk → HasTalk (got piece c).talk
got-joins piece c h = got-keeps (λ d. HasTalk d.talk) joins_kept piece c h h

pub passes-joins : (moment : ℕ) (c : Client) → HasTalk c.talk → HasTalk (passes moment c).talk
passes-joins moment c h = passes-keeps (λ d. HasTalk d.talk) joins_kept moment c h

pub hears-joins : (piece : List ℕ) (ms : List Msg) (c : Client) → HasTalk c.talk → HasTalk (hear_all (fed piece c) ms).talk
hears-joins piece ms c h = hear-all-keeps (λ d. HasTalk d.talk) joins_kept ms (fed piece c) h
