-- A connection that lives has no bytes dropped.
use Rattle.std.specs.Prelude.{◌≡◌, refl, ℕ, ◌<◌, Bool, true, false, not, ◌||◌, ◌==◌, cond, List, [], ◌∷◌, Some, All}
use Rattle.std.specs.List.{list_all}
use Rattle.std.specs.Option.{option_map_or}
use Rattle.std.proofs.Common.{arith, ap, sym, subst, ◌∙◌}
use Rattle.std.proofs.lemmas.Bool.{and_parts, and_from}
use Rattle.std.proofs.lemmas.List.{map-append}
use Rattle.std.proofs.lemmas.List.Elements.{All-nil, All-cons}
use Rattle.share_base.proofs.ListTests.{all_append}
use Rattle.hello_states.specs.Phases.{Phase, is_parting}
use Rattle.hello_states.specs.declared.part_cause.PartCause.TheVariants as cause
use Rattle.machine.specs.Connections.{Connection, fresh, has_serial, with_serial, is_live, changed, serials}
use Rattle.machine.specs.States.{State}
use Rattle.machine.specs.Combining.{when}
use Rattle.machine.specs.Partings.{parted}
use Rattle.machine.specs.Acceptance.{opened}
use Rattle.machine.specs.Happenings.{Happening, Joined, Got, Ended, Failed, Took, Moment, Closed, IsAllowed}
use Rattle.machine.specs.Steps.{drops, takes, step}
use Rattle.machine.proofs.Live.{IsTame, PartsNone, parted-tame, drops-tame}
use Rattle.machine.proofs.Invariant.{View, On, IsInvariant}
use Rattle.machine.proofs.AnyButton.{any, any_origin, of-connections}
use Rattle.machine.proofs.BelowLatest.{BelowLatest}
use Rattle.machine.proofs.KeepSteps.{takes-tame, got-keeps, breaks-keeps, close-keeps, moment-keeps}
use Rattle.machine.proofs.OpenSerials.{changed-serials, removed-serials}
use Rattle.machine.proofs.Runs.{accept-keeps}
use Rattle.reached_states.specs.Reaching.{Origin, Reached}
use Rattle.reached_states.specs.OpenSerials.{Rise}
use Rattle.reached_states.specs.Dropped.{LiveKeepBytes}
use Rattle.reached_states.proofs.ReachedAll.{reached-all-below}
use Rattle.reached_states.proofs.EachConnection.{or-true, each-kept, all-fewer}
use Rattle.reached_states.proofs.Rising.{above-same, rise-push, rise-filter}

-- its bytes aren't dropped, or it is parting
abbrev pub is_apart : Connection → Bool
is_apart c = not c.is_dropped || not (is_live c)

apart_kept : (f : Connection → Connection) → PartsNone f → (c : Connection) → is_apart c ≡ true → is_apart (f c) ≡ true
apart_kept f none c h = at (is_live c) refl h
  where
    keeps : (d : Bool) → c.is_dropped ≡ d → (not d || false) ≡ true → (not c.is_dropped || not (is_live (f c))) ≡ true
    keeps true e k = absurd cc
    keeps false e k = ap (λ (b : Bool). not b || not (is_live (f c))) e

    at : (b : Bool) → is_live c ≡ b → (not c.is_dropped || not b) ≡ true → is_apart (f c) ≡ true
    at true e k = ap (λ (b : Bool). not b || not (is_live (f c))) (none c).0 ∙ keeps c.is_dropped refl k
    at false e k = ap (λ (p : Phase). not (f c).is_dropped || not (not (is_parting p))) ((none c).2 e) ∙ (ap (λ (b : Bool). not (f c).is_dropped || not b) e ∙ or-true (not (f c).is_dropped))

dropped_apart : (low serial : ℕ) (cs : List Connection) → Rise low (serials cs) → option_map_or is_live (with_serial serial cs) false ≡ false → list_all is_apart cs ≡ true → list_all is_apart (changed serial drops cs) ≡ true
dropped_apart low serial [] r off h = refl
dropped_apart low serial (c ∷ cs) r off h =
    let parts = and_parts (is_apart c) (list_all is_apart cs) h in
    at (has_serial serial c) refl off parts.0 parts.1 (λ k. dropped_apart c.serial serial cs r.1 k parts.1)
  where
    at : (b : Bool) → has_serial serial c ≡ b → option_map_or is_live (cond b (Some c) (with_serial serial cs)) false ≡ false → is_apart c ≡ true → list_all is_apart cs ≡ true
        → (option_map_or is_live (with_serial serial cs) false ≡ false → list_all is_apart (changed serial drops cs) ≡ true) → list_all is_apart (when b drops c ∷ changed serial drops cs) ≡ true
    at true e k one rest later =
        let is : c.serial ≡ serial = grind (arith, e) in
        let same : changed serial drops cs ≡ cs = above-same c.serial serial drops cs (omega arith) r.1 in
        and_from (is_apart (drops c)) (list_all is_apart (changed serial drops cs)) (ap not k) (ap (list_all is_apart) same ∙ rest)
    at false e k one rest later = and_from (is_apart c) (list_all is_apart (changed serial drops cs)) one (later k)

pub record AreApart (cs : List Connection) : Type 0 where
  pub rise : Rise 0 (serials cs)
  pub apart : list_all is_apart cs ≡ true

abbrev Apart : View → Type 0
Apart v = AreApart v.connections

changed_apart : (serial : ℕ) (f : Connection → Connection) → IsTame f → PartsNone f → (cs : List Connection) → AreApart cs → AreApart (changed serial f cs)
changed_apart serial f tame none cs h = record {
  rise = subst (Rise 0) (sym (changed-serials serial f tame cs)) h.rise;
  apart = each-kept is_apart f serial (apart_kept f none) cs h.apart;
}

invariant : IsInvariant any any_origin Apart
invariant = of-connections AreApart
    (λ serial f tame same none cs h. changed_apart serial f tame none cs h)
    (λ why serial now cs on h. record {
      rise = subst (Rise 0) (sym (changed-serials serial (parted why now) (parted-tame why now) cs)) h.rise;
      apart = each-kept is_apart (parted why now) serial (λ c e. or-true (not (parted why now c).is_dropped)) cs h.apart;
    })
    (λ serial s off h. record {
      rise = subst (Rise 0) (sym (changed-serials serial drops drops-tame s.connections)) h.rise;
      apart = dropped_apart 0 serial s.connections h.rise off h.apart;
    })

opened_apart : (latest serial : ℕ) (s : State) → latest < serial → On (BelowLatest latest) s → On Apart s → On Apart (opened serial s)
opened_apart latest serial s above below h =
    let new : Connection = fresh serial s.at in
    record {
      rise = subst (Rise 0) (sym (map-append (λ (c : Connection). c.serial) s.connections (new ∷ []))) (rise-push 0 latest serial s.connections (omega arith) above below.connections h.rise);
      apart = all_append is_apart s.connections (new ∷ []) h.apart refl;
    }

apart_step : (latest : ℕ) (s : State) (h : Happening) → IsAllowed latest s h → On (BelowLatest latest) s → On Apart s → On Apart (step s h)
apart_step latest s (Joined serial) a below k = accept-keeps invariant serial s (opened_apart latest serial s a below k)
apart_step latest s (Got serial piece) a below k = got-keeps invariant serial piece s k
apart_step latest s (Ended serial) a below k = breaks-keeps invariant cause.Ended serial s k
apart_step latest s (Failed serial) a below k = breaks-keeps invariant cause.Failed serial s k
apart_step latest s (Took serial count) a below k = changed_apart serial (takes count) (takes-tame count) (λ c. (refl, λ on. on, λ off. refl)) s.connections k
apart_step latest s (Moment t) a below k = moment-keeps invariant (λ n. refl) (λ n. refl) t s k
apart_step latest s (Closed serial) a below k = close-keeps invariant serial s (record {
  rise = subst (Rise 0) (sym (removed-serials serial s.connections)) (rise-filter (λ n. not (n == serial)) 0 (serials s.connections) k.rise);
  apart = all-fewer is_apart (λ c. not (has_serial serial c)) s.connections k.apart;
})

pub reached-apart : (o : Origin) (latest : ℕ) (s : State) → Reached o latest s → AreApart s.connections
reached-apart o latest s r = reached-all-below (λ n t. On Apart t) apart_step o latest s (record { rise = tt; apart = refl }) r

live_keeps : (d on : Bool) → (not d || not on) ≡ true → on ≡ true → d ≡ false
live_keeps true true h e = absurd cc
live_keeps true false h e = absurd cc
live_keeps false on h e = refl

each_keeps : (cs : List Connection) → list_all is_apart cs ≡ true → All (λ (c : Connection). is_live c ≡ true → c.is_dropped ≡ false) cs
each_keeps [] h = All-nil (λ (c : Connection). is_live c ≡ true → c.is_dropped ≡ false)
each_keeps (c ∷ cs) h =
    let parts = and_parts (is_apart c) (list_all is_apart cs) h in
    All-cons (λ (d : Connection). is_live d ≡ true → d.is_dropped ≡ false) c cs (live_keeps c.is_dropped (is_live c) parts.0) (each_keeps cs parts.1)

pub live-keep-bytes : LiveKeepBytes
live-keep-bytes o latest s r = each_keeps s.connections (reached-apart o latest s r).apart
