-- An invariant: the entries of some origins stay the same, where those that are added have other origins.
use Rattle.std.specs.Prelude.{◌≡◌, refl, Bool, true, false, not, cond, List, [], ◌∷◌, ◌++◌, map, filter}
use Rattle.std.proofs.Common.{arith, ap, ◌∙◌}
use Rattle.std.proofs.lemmas.List.{append-nil}
use Rattle.message_codec.specs.declared.messages.Msg.{Msg}
use Rattle.message_codec.specs.declared.messages.Msg.TheVariants as msg
use Rattle.machine.specs.Targets.{Target, Primary, Entry, Origin, Own}
use Rattle.machine.specs.States.{State}
use Rattle.machine.specs.Routing.{route, entry}
use Rattle.machine.specs.Switching.{entering, at_screen, tell_leaving}
use Rattle.machine.specs.OneForOne.{Delivery, delivery, deliveries}
use Rattle.machine.proofs.Invariant.{View, On, IsInvariant}
use Rattle.machine.proofs.AnyButton.{any, rules-any, lines-any}

abbrev pub AreDeliveries : (Origin → Bool) → List Delivery → View → Type 0
AreDeliveries test was v = deliveries test v.routed ≡ was

abbrev pub other_than : (Origin → Bool) → Origin → Bool
other_than test o = not (test o)

abbrev pub delivered_if : Bool → Entry → List Delivery
delivered_if true e = delivery e ∷ []
delivered_if false e = []

-- one entry more is delivered where its origin passes
deliveries-more : (test : Origin → Bool) (routed : List Entry) (e : Entry) → deliveries test (routed ++ e ∷ []) ≡ deliveries test routed ++ delivered_if (test e.origin) e
deliveries-more test [] e = elim (test e.origin) as (λ b. map delivery (cond b (e ∷ []) []) ≡ delivered_if b e) [ true ↦ refl | false ↦ refl ]
deliveries-more test (r ∷ routed) e = front (test r.origin) (deliveries-more test routed e)
  where
    front : (b : Bool) → deliveries test (routed ++ e ∷ []) ≡ deliveries test routed ++ delivered_if (test e.origin) e → map delivery (cond b (r ∷ filter (λ (e : Entry). test e.origin) (routed ++ e ∷ [])) (filter (λ (e : Entry). test e.origin) (routed ++ e ∷ []))) ≡ map delivery (cond b (r ∷ filter (λ (e : Entry). test e.origin) routed) (filter (λ (e : Entry). test e.origin) routed)) ++ delivered_if (test e.origin) e
    front true h = ap (λ ds. delivery r ∷ ds) h
    front false h = h

pub route-delivers : (test : Origin → Bool) (o : Origin) (t : Target) (m : Msg) (s : State) → deliveries test (route o t m s).routed ≡ deliveries test s.routed ++ delivered_if (test o) (entry o t m s)
route-delivers test o t m s = deliveries-more test s.routed (entry o t m s)

-- an entry of another origin isn't
pub route-other : (test : Origin → Bool) (was : List Delivery) (o : Origin) (t : Target) (m : Msg) → not (test o) ≡ true → (s : State) → On (AreDeliveries test was) s → On (AreDeliveries test was) (route o t m s)
route-other test was o t m p s h = route-delivers test o t m s ∙ (ap (λ b. deliveries test s.routed ++ delivered_if b (entry o t m s)) (let e : test o ≡ false = grind (arith, p) in e) ∙ (append-nil (deliveries test s.routed) ∙ h))

pub invariant : (test : Origin → Bool) → test Own ≡ false → (was : List Delivery) → IsInvariant any (other_than test) (AreDeliveries test was)
invariant test own was = record {
  own = grind (arith, own);
  rules = λ s h. rules-any s.config.hotkeys;
  script = λ s h. lines-any s.lines;
  plain = λ o a t m p s k h. route-other test was o t m a s h;
  input = λ o a m p b s h. route-other test was o s.active m a s h;
  switched = λ o a to p s on h. route-other test was o to (entering p s) a (at_screen to p (tell_leaving s)) (route-other test was Own s.active msg.Leave (grind (arith, own)) s h);
  fell = λ p s off h. route-other test was Own Primary (entering p s) (grind (arith, own)) (at_screen Primary p s) h;
  changed = λ serial f tame same stays s h. h;
  parts = λ cause serial s on h. h;
  discards = λ serial s off h. h;
  logged = λ lines s h. h;
  ahead = λ lines k s h. h;
}
