-- How the turns begin.
use Rattle.std.specs.Prelude.{◌≡◌, refl, ℕ, List, [], length}
use Rattle.std.proofs.Common.{arith, ap, sym, inl}
use Rattle.share_base.specs.Writing.{SinkState}
use Rattle.share_base.proofs.ToldLists.{after-nil}
use Rattle.hub_acts.specs.Links.{LinkState}
use Rattle.client_core.specs.declared.client_end.ClientEnd.TheVariants as end
use Rattle.client_core.specs.Clients.{Client}
use Rattle.attentive_links.specs.Flags.{first_flags}
use Rattle.attentive_links.specs.Judging.{first_judge}
use Rattle.client_loop.specs.declared.watch.Watch.{Watch}
use Rattle.client_loop.specs.Stages.{flags_of}
use Rattle.client_loop.specs.Turns.{Written, Logged, Ended}
use Rattle.client_loop.specs.Attending.{IsNewClient, first_course}
use Rattle.client_loop.proofs.MoreActs.{made-none}

none_written : (sink : SinkState) → Written sink sink []
none_written sink = record { taken = sym (after-nil sink.taken); faults = refl }

module _ {C L : Type 0} (stands : C → List ℕ → Client → Type 0) (state : L → LinkState) (leads : L → L → Type 0) (stays : (l : L) → leads l l) (first : Client) (is_new : IsNewClient first) (core : C) (stood : stands core [] first) (link : L) (turns : ℕ) (sink : SinkState) where
  pub starts : (watch : Watch) → flags_of watch ≡ first_flags → Logged stands state leads (first_course first link turns) core link watch sink sink
  starts watch e = record {
    front = [];
    stage = record {
      acts = [];
      judge = first_judge first;
      made = made-none (first_judge first) (state link);
      waits = refl;
      faults = refl;
      breaks = refl;
      led = stays link;
      flags = sym e;
      goes = is_new.done;
      few = (let k : length first.received ≡ 0 = ap length is_new.received in omega (arith, k));
      stood = stood;
      there = refl;
    };
    wrote = none_written sink;
  }

  -- memory was out for the buffer
  pub none-begun : Ended stands state leads (first_course first link turns) end.OutOfMemory core link sink sink
  none-begun = record {
    front = [];
    halt = record {
      acts = [];
      judge = first_judge first;
      made = made-none (first_judge first) (state link);
      waits = (omega arith);
      faults = (omega arith);
      breaks = (omega arith);
      led = stays link;
      cause = tt;
      last = first;
      came = inl refl;
      held = first;
      stood = stood;
      shown = refl;
    };
    wrote = none_written sink;
  }
