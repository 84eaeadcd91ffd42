-- Joining a server.
use Rattle.std.specs.Prelude.{◌≡◌, refl, ℕ, List, [], ◌∷◌, Option, Some, None, Ok, Err}
use Rattle.std.proofs.Common.{arith, ap, sym, ◌∙◌, inl, inr, append_assoc, append-nil}
use Rattle.share_base.specs.Writing.{SinkState}
use Rattle.script_screen.specs.declared.client_script.ClientLine.{ClientLine}
use Rattle.hub_acts.specs.declared.act.Act.{Act}
use Rattle.hub_acts.specs.declared.act.Act.TheVariants as act
use Rattle.hub_acts.specs.declared.answers.CallFault.TheVariants as fault
use Rattle.hub_acts.specs.Acts.{known_after}
use Rattle.hub_acts.specs.Links.{LinkState, LinkCalls}
use Rattle.client_core.specs.declared.client.ClientCore.{ClientCore}
use Rattle.client_core.specs.declared.client_end.ClientEnd.{ClientEnd}
use Rattle.client_core.specs.declared.client_end.ClientEnd.TheVariants as end
use Rattle.client_core.specs.Clients.{Client}
use Rattle.client_core.specs.Happenings.{joining}
use Rattle.client_core.specs.Kept.{Stands}
use Rattle.client_talk.specs.Talks.{begun}
use Rattle.client_loop.specs.Attendants.{StandsJoined}
use Rattle.client_loop.specs.Stages.{known_with}
use Rattle.client_loop.specs.Attending.{IsNewClient, Attends}
use Rattle.client_loop.specs.Joining.{Joins}
use Rattle.client_loop.proofs.MoreActs.{IsTransitive}

-- ---- the client that joins

pub is-new : (name : List ℕ) (w h : ℕ) (script : List ClientLine) (now : ℕ) → IsNewClient (joining name w h script now)
is-new name w h script now = record { received = refl; taken = refl; done = refl }

pub stands-new : (core : ClientCore) (name : List ℕ) (w h : ℕ) (script : List ClientLine) (now : ℕ) → Stands core (joining name w h script now) [] → StandsJoined core [] (joining name w h script now)
stands-new core name w h script now stood = record { stands = stood; talk = begun name w h script now; joins = refl }

-- ---- acts

one_known : (a : Act) (known : Option (List Act)) → known_after (Some a) known ≡ known_with (a ∷ []) known
one_known a None = refl
one_known a (Some acts) = refl

two_known : (a b : Act) (known : Option (List Act)) → known_after (Some b) (known_after (Some a) known) ≡ known_with (a ∷ b ∷ []) known
two_known a b None = refl
two_known a b (Some acts) = ap (λ (xs : List Act). Some xs) (append_assoc acts (a ∷ []) (b ∷ []))

none_known : (known : Option (List Act)) → known_after None known ≡ known_with [] known
none_known None = refl
none_known (Some acts) = ap (λ (xs : List Act). Some xs) (sym (append-nil acts))

one_none_known : (a : Act) (known : Option (List Act)) → known_after None (known_after (Some a) known) ≡ known_with (a ∷ []) known
one_none_known a None = refl
one_none_known a (Some acts) = refl

module _ {L : Type 0} (state : L → LinkState) (leads : L → L → Type 0) (trans : IsTransitive leads) (client_at : ℕ → Client) (host : List ℕ) (port turns : ℕ) (old mid new : L) (sink : SinkState) where
  pub connect-failed : LinkCalls (Some (act.LinkConnect host port (Err fault.Failed))) (state old) (state new) → leads old new → Joins state leads client_at host port turns end.LinkFault old new sink sink
  connect-failed calls led = inl (record {
    acts = act.LinkConnect host port (Err fault.Failed) ∷ [];
    known = calls.acts ∙ one_known (act.LinkConnect host port (Err fault.Failed)) (state old).acts;
    cause = refl;
    faults = calls.faults;
    breaks = calls.breaks;
    silent = refl;
    led = led;
  })

  pub connect-none : LinkCalls None (state old) (state new) → leads old new → Joins state leads client_at host port turns end.OutOfMemory old new sink sink
  connect-none calls led = inl (record {
    acts = [];
    known = calls.acts ∙ none_known (state old).acts;
    cause = inl refl;
    faults = (let k = calls.faults in omega (arith, k));
    breaks = calls.breaks;
    silent = refl;
    led = led;
  })

  pub now-none : LinkCalls (Some (act.LinkConnect host port (Ok tt))) (state old) (state mid) → leads old mid → LinkCalls None (state mid) (state new) → leads mid new → Joins state leads client_at host port turns end.OutOfMemory old new sink sink
  now-none calls led calls2 led2 = inl (record {
    acts = act.LinkConnect host port (Ok tt) ∷ [];
    known = calls2.acts ∙ ap (known_after None) calls.acts ∙ one_none_known (act.LinkConnect host port (Ok tt)) (state old).acts;
    cause = inr refl;
    faults = (let a = calls.faults in let b = calls2.faults in omega (arith, a, b));
    breaks = calls2.breaks ∙ calls.breaks;
    silent = refl;
    led = trans old mid new led led2;
  })

  pub begins : (between : L) (now : ℕ) (e : ClientEnd) (sink' : SinkState) → LinkCalls (Some (act.LinkConnect host port (Ok tt))) (state old) (state mid) → leads old mid
      → LinkCalls (Some (act.LinkNow now)) (state mid) (state between) → leads mid between → Attends state leads (client_at now) turns e between new sink sink'
      → Joins state leads client_at host port turns e old new sink sink'
  begins between now e sink' calls led calls2 led2 run = inr (record {
    now = now;
    between = between;
    known = calls2.acts ∙ ap (known_after (Some (act.LinkNow now))) calls.acts ∙ two_known (act.LinkConnect host port (Ok tt)) (act.LinkNow now) (state old).acts;
    faults = calls2.faults ∙ calls.faults;
    breaks = calls2.breaks ∙ calls.breaks;
    led = trans old mid between led led2;
    run = run;
  })
