-- Laws over attentive acts, act by act.
use Rattle.std.specs.Prelude.{◌≡◌, refl, ℕ, ◌≤◌, List, [], ◌∷◌, ◌++◌, length, take, Option, Some, None}
use Rattle.std.specs.List.{cons_option}
use Rattle.std.proofs.Common.{arith, ap, sym, subst, ◌∙◌, append_assoc}
use Rattle.std.proofs.lemmas.List.{append-nil, take-take, length-take}
use Rattle.std.proofs.Math.Seq.{take-append_seam}
use Rattle.share_base.specs.Fronts.{IsFront}
use Rattle.hub_acts.specs.declared.act.Act.{Act}
use Rattle.hub_acts.specs.declared.act.Act.TheVariants as act
use Rattle.hub_acts.specs.declared.answers.LinkWaited.TheVariants as waited
use Rattle.hub_acts.specs.declared.answers.ReadAnswer.TheVariants as read
use Rattle.hub_acts.specs.declared.answers.WriteAnswer.TheVariants as written
use Rattle.client_core.specs.declared.client_end.ClientEnd.{ClientEnd}
use Rattle.client_core.specs.Clients.{Client}
use Rattle.client_core.specs.Happenings.{Happening, sent, untaken, run}
use Rattle.attentive_links.specs.Telling.{happening_of, happenings, step_if, client_after}
use Rattle.attentive_links.specs.Places.{Place, Waits, Asks, Reads, Writes, Stops, unless_done}
use Rattle.attentive_links.specs.Judging.{Judge, AllowsAt, Follows, judge_after, judged, first_judge, most_moved, piece_of}
use Rattle.attentive_links.specs.Laws.{taken_in, taken_bytes}
use Rattle.attentive_links.specs.InPart.{client_of}
use Rattle.attentive_links.proofs.Clients.{got-taken, passes-taken}

-- ---- by their happenings

led : (o : Option Happening) (c : Client) (more : List Happening) → run (step_if o c) more ≡ run c (cons_option o more)
led None c more = refl
led (Some h) c more = refl

lead : (j : Judge) (acts : List Act) → (judged j acts).client ≡ run j.client (happenings acts)
lead j [] = refl
lead j (a ∷ acts) = lead (judge_after j a) acts ∙ led (happening_of a) j.client (happenings acts)

pub lead-by-happenings : (first : Client) (acts : List Act) → client_of first acts ≡ run first (happenings acts)
lead-by-happenings first acts = lead (first_judge first) acts

-- ---- none after its end

-- where an act is due the client goes on
abbrev Goes : Place → Option ClientEnd → Type 0
Goes Stops finish = Unit {0}
Goes place finish = finish ≡ None

goes_where : (place : Place) (finish : Option ClientEnd) → finish ≡ None → Goes place finish
goes_where Waits finish h = h
goes_where Asks finish h = h
goes_where Reads finish h = h
goes_where Writes finish h = h
goes_where Stops finish h = tt

goes_unless : (done : Option ClientEnd) (place : Place) → Goes (unless_done done place) done
goes_unless (Some e) place = tt
goes_unless None place = goes_where place None refl

goes_after : (place : Place) (j : Judge) (a : Act) → j.place ≡ place → AllowsAt place j a → Goes place j.client.done → Goes (judge_after j a).place (judge_after j a).client.done
goes_after Waits j (act.LinkWait ms (waited.Ready readable writable)) is h goes = subst (λ (p : Place). Goes (judge_after (record j { place = p }) (act.LinkWait ms (waited.Ready readable writable))).place j.client.done) (sym is) goes
goes_after Waits j (act.LinkWait ms answer) is h goes = subst (λ (p : Place). Goes (judge_after (record j { place = p }) (act.LinkWait ms answer)).place (client_after (act.LinkWait ms answer) j.client).done) (sym is) tt
goes_after Waits j a is h goes = absurd h
goes_after Asks j a is h goes = subst (λ (p : Place). Goes (judge_after (record j { place = p }) a).place (client_after a j.client).done) (sym is) (goes_unless (client_after a j.client).done _)
goes_after Reads j a is h goes = subst (λ (p : Place). Goes (judge_after (record j { place = p }) a).place (client_after a j.client).done) (sym is) (goes_unless (client_after a j.client).done _)
goes_after Writes j a is h goes = subst (λ (p : Place). Goes (judge_after (record j { place = p }) a).place (client_after a j.client).done) (sym is) (goes_unless (client_after a j.client).done Waits)
goes_after Stops j a is h goes = absurd h

goes_now : (place : Place) (j : Judge) (a : Act) → AllowsAt place j a → Goes place j.client.done → j.client.done ≡ None
goes_now Waits j a h goes = goes
goes_now Asks j a h goes = goes
goes_now Reads j a h goes = goes
goes_now Writes j a h goes = goes
goes_now Stops j a h goes = absurd h

pub none-after-its-end : (j : Judge) (before after : List Act) (a : Act) → Goes j.place j.client.done → Follows j (before ++ a ∷ after) → (judged j before).client.done ≡ None
none-after-its-end j [] after a goes f = goes_now j.place j a f.0 goes
none-after-its-end j (b ∷ before) after a goes f = none-after-its-end (judge_after j b) before after a (goes_after j.place j b refl f.0 goes) f.1

-- ---- in order

took_front : (n : ℕ) (bytes : List ℕ) (c : Client) → bytes ≡ piece_of c → n ≤ length bytes → take n (untaken c) ≡ take n bytes
took_front n bytes c is le =
    let few : n ≤ most_moved = let l = length-take most_moved (untaken c) in let k = ap length is in omega (arith, le, l, k) in
    sym (take-take n most_moved (untaken c) few) ∙ ap (take n) (sym is)

none_taken : (c : Client) (taken : List ℕ) → taken ≡ c.taken → taken ≡ c.taken ++ []
none_taken c taken is = is ∙ sym (append-nil c.taken)

taken_after : (place : Place) (j : Judge) (a : Act) → AllowsAt place j a → (client_after a j.client).taken ≡ j.client.taken ++ taken_in a
taken_after Waits j (act.LinkWait ms (waited.Ready readable writable)) h = none_taken j.client j.client.taken refl
taken_after Waits j (act.LinkWait ms waited.Over) h = none_taken j.client j.client.taken refl
taken_after Waits j (act.LinkWait ms waited.Failed) h = none_taken j.client j.client.taken refl
taken_after Waits j (act.LinkWait ms waited.OutOfMemory) h = none_taken j.client j.client.taken refl
taken_after Waits j a h = absurd h
taken_after Asks j (act.LinkNow moment) h = none_taken j.client (client_after (act.LinkNow moment) j.client).taken (passes-taken moment j.client)
taken_after Asks j a h = absurd h
taken_after Reads j (act.LinkRead room (read.Got n) bytes) h = none_taken j.client (client_after (act.LinkRead room (read.Got n) bytes) j.client).taken (got-taken bytes j.client)
taken_after Reads j (act.LinkRead room read.End bytes) h = none_taken j.client j.client.taken refl
taken_after Reads j (act.LinkRead room read.NotNow bytes) h = none_taken j.client j.client.taken refl
taken_after Reads j (act.LinkRead room read.Failed bytes) h = none_taken j.client j.client.taken refl
taken_after Reads j (act.LinkRead room read.OutOfMemory bytes) h = none_taken j.client j.client.taken refl
taken_after Reads j a h = absurd h
taken_after Writes j (act.LinkWrite bytes (written.Took n)) h = ap (λ (xs : List ℕ). j.client.taken ++ xs) (took_front n bytes j.client h.0 h.1.1)
taken_after Writes j (act.LinkWrite bytes written.NotNow) h = none_taken j.client j.client.taken refl
taken_after Writes j (act.LinkWrite bytes written.Failed) h = none_taken j.client j.client.taken refl
taken_after Writes j (act.LinkWrite bytes written.OutOfMemory) h = none_taken j.client j.client.taken refl
taken_after Writes j a h = absurd h
taken_after Stops j a h = absurd h

taken_all : (j : Judge) (acts : List Act) → Follows j acts → (judged j acts).client.taken ≡ j.client.taken ++ taken_bytes acts
taken_all j [] f = sym (append-nil j.client.taken)
taken_all j (a ∷ acts) f =
    taken_all (judge_after j a) acts f.1 ∙ ap (λ (xs : List ℕ). xs ++ taken_bytes acts) (taken_after j.place j a f.0) ∙ append_assoc j.client.taken (taken_in a) (taken_bytes acts)

pub taken-in-order : (first : Client) (acts : List Act) → first.taken ≡ [] → Follows (first_judge first) acts → IsFront (taken_bytes acts) (sent (client_of first acts))
taken-in-order first acts none f =
    let c : Client = client_of first acts in
    let all : c.taken ≡ taken_bytes acts = taken_all (first_judge first) acts f ∙ ap (λ (xs : List ℕ). xs ++ taken_bytes acts) none in
    subst (λ (xs : List ℕ). IsFront xs (c.taken ++ untaken c)) all (take-append_seam c.taken (untaken c))
