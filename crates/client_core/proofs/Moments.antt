-- A client core over a moment, and over bytes that were taken.
use Rattle.std.proofs.Common.{◌≡◌, ◌∙◌, ap, sym, subst, ℕ, List, Option, Some, None, Result, Ok, Err}
use Rattle.std.specs.Prelude.{◌≢◌, OnOk}
use Rattle.std.specs.Option.{option_map}
use Rattle.std.specs.Result.{result_unwrap_or}
use Rattle.share_base.specs.declared.out_of_memory.OutOfMemory.{OutOfMemory}
use Rattle.message_reader.specs.ReaderParts.{ReaderParts}
use Rattle.client_talk.specs.Talks.{Talk, told}
use Rattle.client_talk.specs.Talks as talks
use Rattle.client_core.specs.declared.client_end.ClientEnd.{ClientEnd}
use Rattle.client_core.specs.declared.client_end.ClientEnd.TheVariants as end
use Rattle.client_core.specs.declared.client.ClientCore.{ClientCore}
use Rattle.client_core.specs.declared.hearer.Hearer.{Hearer}
use Rattle.client_core.specs.declared.printer.Printer.{Printer}
use Rattle.client_core.specs.Hearing.{display}
use Rattle.client_core.specs.Showing.{Shows}
use Rattle.client_core.specs.Clients.{Client, while_going}
use Rattle.client_core.specs.Happenings.{tells, passes, took}
use Rattle.client_core.specs.Kept.{Kept, Stands, Follows, Passes, StopsAt}

-- ---- a moment

-- one that goes on passes to it
going_on : (moment : ℕ) (c : Client) (talk : Option Talk) → c.done ≡ None → c.talk ≡ talk → passes moment c ≡ tells talk moment c
going_on moment c talk none is = ap (λ (d : Option ClientEnd). while_going d (tells c.talk moment) c) none ∙ ap (λ (t : Option Talk). tells t moment c) is

same_printer : (p p' : Printer) (c : Client) (front : List ℕ) → p' ≡ p → Shows p (display c.shown) front → Shows p' (display c.shown) front
same_printer p p' c front same shows = subst (λ (x : Printer). Shows x (display c.shown) front) (sym same) shows

told_so : (r : ReaderParts) (h h' : Hearer) (done : Option ClientEnd) (talk : Option Talk) (moment : ℕ) (c : Client) (front : List ℕ) → c.talk ≡ talk → Passes moment talk h'.talk (Ok done) → h'.printer ≡ h.printer → Kept r h None c front → Kept r h' done (tells talk moment c) front
told_so r h h' finish None moment c front is p same k = record {
  role = k.role;
  hears = record { shows = same_printer h.printer h'.printer c front same k.hears.shows; talk = p.0 ∙ sym is };
  done_is = p.1 ∙ k.done_is;
  reads = k.reads;
  total = k.total;
}
told_so r h h' finish (Some t) moment c front is p same k = record {
  role = k.role;
  hears = record { shows = same_printer h.printer h'.printer c front same k.hears.shows; talk = p.0 };
  done_is = p.1;
  reads = λ none. k.reads (sym k.done_is);
  total = k.total;
}

pub passes_ok : {A : Type 0} (old new : ClientCore) (outcome : Result (Option ClientEnd) OutOfMemory) (answer : Result A OutOfMemory) (moment : ℕ) → old.done ≡ None → new.reader ≡ old.reader → Passes moment old.hearer.talk new.hearer.talk outcome → new.hearer.printer ≡ old.hearer.printer → new.done ≡ result_unwrap_or outcome (Some end.OutOfMemory) → OnOk answer (new.done ≢ Some end.OutOfMemory) → OnOk answer (Follows old new (passes moment))
passes_ok old new outcome (Err memory) moment none same p printer is fine = tt
passes_ok old new (Err memory) (Ok u) moment none same p printer is fine = absurd (fine is)
passes_ok old new (Ok done) (Ok u) moment none same p printer is fine = λ c front k.
    let going : Kept old.reader old.hearer None c front = subst (λ (d : Option ClientEnd). Kept old.reader old.hearer d c front) none k in
    let next = told_so old.reader old.hearer new.hearer done old.hearer.talk moment c front (sym going.hears.talk) p printer going in
    subst (λ (x : Client). Stands new x front) (sym (going_on moment c old.hearer.talk (sym going.done_is) (sym going.hears.talk)))
    (subst (λ (x : ReaderParts). Kept x new.hearer new.done (tells old.hearer.talk moment c) front) (sym same)
    (subst (λ (d : Option ClientEnd). Kept old.reader new.hearer d (tells old.hearer.talk moment c) front) (sym is) next))

-- one that is done stays as it is
pub passes_done : (old : ClientCore) (e : ClientEnd) (moment : ℕ) → old.done ≡ Some e → Follows old old (passes moment)
passes_done old e moment is c front k =
    subst (λ (x : Client). Stands old x front) (sym (ap (λ (d : Option ClientEnd). while_going d (tells c.talk moment) c) (sym k.done_is ∙ is))) k

pub stops_at : (old new : ClientCore) (memory : OutOfMemory) (moment : ℕ) → new.reader ≡ old.reader → new.done ≡ Some end.OutOfMemory → Passes moment old.hearer.talk new.hearer.talk (Err memory) → new.hearer.printer ≡ old.hearer.printer → StopsAt old new moment
stops_at old new memory moment same done p printer c front before is k =
    let q : Passes moment (Some before) new.hearer.talk (Err memory) = subst (λ (t : Option Talk). Passes moment t new.hearer.talk (Err memory)) (k.hears.talk ∙ is) p in record {
      talk = q.0;
      runs = q.2;
      stands = subst (λ (x : ReaderParts). Kept x new.hearer new.done (record c { talk = Some q.0; done = Some end.OutOfMemory }) front) (sym same) (record {
        role = k.role;
        hears = record { shows = same_printer old.hearer.printer new.hearer.printer c front printer k.hears.shows; talk = q.1 };
        done_is = done;
        reads = λ none. absurd cc;
        total = k.total;
      });
    }

-- ---- takings

pub takes_bytes : (old : ClientCore) (h' : Hearer) (count : ℕ) → h'.talk ≡ option_map (talks.took count) old.hearer.talk → h'.printer ≡ old.hearer.printer → (c : Client) (front : List ℕ) → Stands old c front → Kept old.reader h' old.done (took count c) front
takes_bytes old h' count taken same c front k = record {
  role = k.role;
  hears = record { shows = same_printer old.hearer.printer h'.printer c front same k.hears.shows; talk = taken ∙ ap (option_map (talks.took count)) k.hears.talk };
  done_is = k.done_is;
  reads = k.reads;
  total = k.total;
}
