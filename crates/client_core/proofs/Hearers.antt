-- A hearer and its client over one message.
use Rattle.std.proofs.Common.{◌≡◌, ◌∙◌, ap, sym, subst, refl, ℕ, Bool, true, false, List, [], ◌∷◌, Option, Some, None}
use Rattle.std.specs.Prelude.{◌≢◌, Result, Ok, Err, OnOk, OnErr, if◌then◌else◌}
use Rattle.std.specs.Option.{option_map}
use Rattle.std.proofs.lemmas.List.Sums.{fold-append}
use Rattle.share_base.specs.declared.out_of_memory.OutOfMemory.{OutOfMemory}
use Rattle.message_codec.specs.declared.messages.Msg.{Msg}
use Rattle.message_codec.specs.declared.messages.Msg.TheVariants as msg
use Rattle.client_talk.specs.Talks.{Talk}
use Rattle.client_talk.specs.Answers.{answers, hears, is_for_screen}
use Rattle.client_core.specs.declared.client_end.ClientEnd.{ClientEnd}
use Rattle.client_core.specs.declared.hearer.Hearer.{Hearer}
use Rattle.client_core.specs.declared.printer.Printer.{Printer}
use Rattle.client_core.specs.declared.stop.Stop.{Stop}
use Rattle.client_core.specs.Ends.{stop_in, end_for}
use Rattle.client_core.specs.Hearing.{Display, fresh, heard, heard_all, display}
use Rattle.client_core.specs.Showing.{Shows, Turns, ShowsOn}
use Rattle.client_core.specs.Clients.{Client, shown_of, slow_end, listens, takes, hear}
use Rattle.client_core.specs.Kept.{Hears, Applies, Heeds}
use Rattle.client_core.proofs.Clients.{hear_is}

-- ---- the conversation

-- a message for the screen other than a leaving has no answer
pub no_answer : (t : Talk) (m : Msg) → is_for_screen t m ≡ true → m ≢ msg.Leave → answers m t ≡ t
no_answer t (msg.Hello major minor) is not = absurd cc
no_answer t msg.QueryInfo is not = absurd cc
no_answer t msg.Alive is not = absurd cc
no_answer t msg.Leave is not = absurd (not refl)
no_answer t m is not = refl

-- what the screen gets of a message
abbrev pub shown_if : Bool → Msg → List Msg
shown_if b m = if b then m ∷ [] else []

pub shows_one : (t : Talk) (m : Msg) (old new : Printer) → is_for_screen t m ≡ true → Turns (λ d. heard d m) old new → Turns (λ d. heard_all d (shown_of (Some t) m)) old new
shows_one t m old new is turns = λ d front h. subst (λ (b : Bool). Shows new (heard_all d (shown_if b m)) front) (sym is) (turns d front h)

pub shows_none : (t : Talk) (m : Msg) (p : Printer) → is_for_screen t m ≡ false → Turns (λ d. heard_all d (shown_of (Some t) m)) p p
shows_none t m p is = λ d front h. subst (λ (b : Bool). Shows p (heard_all d (shown_if b m)) front) (sym is) h

-- ---- a message that does not end the client

pub applied : (old new : Hearer) (talk : Option Talk) (m : Msg) → old.talk ≡ talk → new.talk ≡ option_map (hears m) talk → Turns (λ d. heard_all d (shown_of talk m)) old.printer new.printer
    → (c : Client) (front : List ℕ) → Hears old c front → Hears new (listens m c) front
applied old new talk m old-is new-is turns c front h =
    let same : talk ≡ c.talk = sym old-is ∙ h.talk in record {
      shows = subst (λ (d : Display). Shows new.printer d front)
          (ap (λ (t : Option Talk). heard_all (display c.shown) (shown_of t m)) same ∙ sym (fold-append heard fresh c.shown (shown_of c.talk m)))
          (turns (display c.shown) front h.shows);
      talk = new-is ∙ ap (option_map (hears m)) same;
    }

pub unchanged : (old new : Hearer) → new.talk ≡ old.talk → ShowsOn old.printer new.printer → (c : Client) (front : List ℕ) → Hears old c front → Hears new c front
unchanged old new same on c front h = record { shows = on (display c.shown) front h.shows; talk = same ∙ h.talk }

pub applies_none : {A : Type 0} (old new : Hearer) (result : Result A OutOfMemory) (m : Msg) → old.talk ≡ None → new.talk ≡ None → OnOk result (Turns (λ d. heard d m) old.printer new.printer) → OnErr result (ShowsOn old.printer new.printer) → Applies m old new result
applies_none old new (Ok u) m before after turns on = applied old new None m before after turns
applies_none old new (Err e) m before after turns on = unchanged old new (after ∙ sym before) on

pub applies_some : {A : Type 0} (old new : Hearer) (result : Result A OutOfMemory) (m : Msg) (t t' : Talk) → old.talk ≡ Some t → new.talk ≡ Some t' → OnOk result (Turns (λ d. heard_all d (shown_of (Some t) m)) old.printer new.printer) → OnOk result (t' ≡ hears m t) → OnErr result (ShowsOn old.printer new.printer) → OnErr result (t' ≡ t) → Applies m old new result
applies_some old new (Ok u) m t t' before after turns talk on same = applied old new (Some t) m before (after ∙ ap (λ (x : Talk). Some x) talk) turns
applies_some old new (Err e) m t t' before after turns talk on same = unchanged old new (after ∙ ap (λ (x : Talk). Some x) same ∙ sym before) on

-- ---- a message

pub heeds_stop : (h : Hearer) (m : Msg) (by : Stop) → Some by ≡ stop_in h.talk m → Heeds m h h (Ok (Some (end_for by)))
heeds_stop h m by is c front none hs =
    let same : hear c m ≡ takes (Some by) m c = hear_is c m (Some by) none (ap (λ (t : Option Talk). stop_in t m) (sym hs.talk) ∙ sym is) in
    let stopped : Hears h (takes (Some by) m c) front = record { shows = hs.shows; talk = hs.talk } in
    (subst (λ (x : Client). Hears h x front) (sym same) stopped, ap (λ (x : Client). x.done) (sym same))

pub heeds_on : (old new : Hearer) (m : Msg) (done : Option ClientEnd) → None ≡ stop_in old.talk m → ((c : Client) (front : List ℕ) → Hears old c front → Hears new (listens m c) front) → done ≡ slow_end new.talk → Heeds m old new (Ok done)
heeds_on old new m finish is applies slow c front none hs =
    let same : hear c m ≡ takes None m c = hear_is c m None none (ap (λ (t : Option Talk). stop_in t m) (sym hs.talk) ∙ sym is) in
    let next = applies c front hs in
    (subst (λ (x : Client). Hears new x front) (sym same) next, slow ∙ ap slow_end next.talk ∙ ap (λ (x : Client). x.done) (sym same))
