-- An invariant: of the targets that live only the active one has anything down, and just what was left down on it since
-- it was entered.
use Rattle.std.specs.Prelude.{◌≡◌, refl, ℕ, Bool, true, false, List, [], ◌∷◌, ◌++◌}
use Rattle.std.proofs.Common.{arith, ◌∙◌, subst}
use Rattle.message_codec.specs.declared.messages.Msg.{Msg}
use Rattle.message_codec.specs.declared.messages.Msg.TheVariants as msg
use Rattle.machine.specs.Targets.{Target, Primary, Entry, Origin, Own, same_target}
use Rattle.machine.specs.Connections.{Connection, changed, removed}
use Rattle.machine.specs.States.{State, Point}
use Rattle.machine.specs.Queues.{messages_for}
use Rattle.machine.specs.Routing.{route, entry}
use Rattle.machine.specs.Modifiers.{toggles}
use Rattle.machine.specs.Switching.{next_sequence, entering, at_screen, tell_entering, tell_leaving}
use Rattle.machine.specs.KeyButtons.{pressed_by_message}
use Rattle.machine.proofs.Targets.{same_target-refl, same_target-is, same_target-sym}
use Rattle.machine.proofs.OfTargets.{messages-more}
use Rattle.machine.proofs.MessageKinds.{is_plain, is_input}
use Rattle.machine.proofs.LeftDown.{IsQuiet, IsSince, quiet-plain, quiet-leave, since-plain, since-input, since-enter}
use Rattle.machine.proofs.Live.{IsLive, IsKnown, IsTame, parted-tame, drops-tame, changed-live, removed-live}
use Rattle.machine.specs.Screens.{change}
use Rattle.machine.specs.Partings.{parted}
use Rattle.machine.specs.Steps.{drops}
use Rattle.machine.proofs.Invariant.{View, On, IsInvariant}
use Rattle.machine.proofs.AnyButton.{any, any_origin, rules-any, lines-any}

pub record IsOnlyActive (active : Target) (connections : List Connection) (routed : List Entry) : Type 0 where
  pub quiet : (t : Target) → same_target t active ≡ false → IsLive connections t → IsQuiet (messages_for t routed)
  pub since : IsSince (messages_for active routed)

abbrev pub OnlyActive : View → Type 0
OnlyActive v = IsOnlyActive v.active v.connections v.routed

-- ---- one entry more

quiet-more : (t : Target) (routed : List Entry) (e : Entry) → is_plain e.message ≡ true → IsQuiet (messages_for t routed) → IsQuiet (messages_for t (routed ++ e ∷ []))
quiet-more t routed e p q = messages-more IsQuiet t routed e (λ d. q) (λ h. quiet-plain (messages_for t routed) e.message p q)

-- an entry for another target
quiet-other : (t : Target) (routed : List Entry) (e : Entry) → same_target t e.target ≡ false → IsQuiet (messages_for t routed) → IsQuiet (messages_for t (routed ++ e ∷ []))
quiet-other t routed e d q = messages-more IsQuiet t routed e (λ h. q) (λ h. absurd (clash (same_target t e.target) d (same_target-sym t e.target ∙ h)))
  where
    clash : (b : Bool) → b ≡ false → b ≡ true → ⊥
    clash b h k = grind (arith, h, k)

-- ---- the steps

plain : (o : Origin) → any_origin o ≡ true → (t : Target) (m : Msg) → is_plain m ≡ true → (s : State) → IsKnown s t → On OnlyActive s → On OnlyActive (route o t m s)
plain o a t m p s k h = record {
  quiet = λ u d on. quiet-more u s.routed (entry o t m s) p (h.quiet u d on);
  since = messages-more IsSince s.active s.routed (entry o t m s) (λ d. h.since) (λ e. since-plain (messages_for s.active s.routed) m p h.since);
}

input : (o : Origin) → any_origin o ≡ true → (m : Msg) → is_input m ≡ true → pressed_by_message any m ≡ true → (s : State) → On OnlyActive s → On OnlyActive (route o s.active m s)
input o a m p b s h = record {
  quiet = λ u d on. quiet-other u s.routed (entry o s.active m s) d (h.quiet u d on);
  since = messages-more IsSince s.active s.routed (entry o s.active m s) (λ d. h.since) (λ e. since-input (messages_for s.active s.routed) m p h.since);
}

-- nothing is down anywhere
abbrev IsStill : List Connection → List Entry → Type 0
IsStill connections routed = (t : Target) → IsLive connections t → IsQuiet (messages_for t routed)

left : (s : State) → On OnlyActive s → IsStill s.connections (tell_leaving s).routed
left s h t on = messages-more IsQuiet t s.routed (entry Own s.active msg.Leave s) (λ d. h.quiet t (same_target-sym t s.active ∙ d) on) (λ e. quiet-leave (messages_for t s.routed))

lost : (s : State) → (IsLive s.connections s.active → ⊥) → On OnlyActive s → IsStill s.connections s.routed
lost s off h t on = by (same_target t s.active) refl
  where
    by : (b : Bool) → same_target t s.active ≡ b → IsQuiet (messages_for t s.routed)
    by false d = h.quiet t d on
    by true d = absurd (off (subst (IsLive s.connections) (same_target-is t s.active d) on))

entered : (o : Origin) (to : Target) (p : Point) (s : State) → IsLive s.connections to → IsStill s.connections s.routed → On OnlyActive (tell_entering o to p s)
entered o to p s on still =
    let there : State = at_screen to p s in
    let e : Entry = entry o to (entering p s) there in
    record {
      quiet = λ u d live. quiet-other u s.routed e d (still u live);
      since = messages-more IsSince to s.routed e (λ d. absurd (clash (same_target to to) (same_target-refl to) d)) (λ k. since-enter (messages_for to s.routed) p.x p.y (next_sequence s.sequence) (toggles s) (still to on));
    }
  where
    clash : (b : Bool) → b ≡ true → b ≡ false → ⊥
    clash b h k = grind (arith, h, k)

-- those that live now lived before
fewer : (s : State) (cs : List Connection) → ((t : Target) → IsLive cs t → IsLive s.connections t) → On OnlyActive s → IsOnlyActive s.active cs s.routed
fewer s cs less h = record { quiet = λ t d on. h.quiet t d (less t on); since = h.since }

pub took : (serial : ℕ) (f : Connection → Connection) → IsTame f → (s : State) → On OnlyActive s → On OnlyActive (change serial f s)
took serial f tame s h = fewer s (changed serial f s.connections) (changed-live serial f tame s.connections) h

pub closed : (serial : ℕ) (s : State) → On OnlyActive s → On OnlyActive (record s { connections = removed serial s.connections })
closed serial s h = fewer s (removed serial s.connections) (removed-live serial s.connections) h

pub invariant : IsInvariant any any_origin OnlyActive
invariant = record {
  own = refl;
  rules = λ s h. rules-any s.config.hotkeys;
  script = λ s h. lines-any s.lines;
  plain = plain;
  input = input;
  switched = λ o a to p s on h. entered o to p (tell_leaving s) on (left s h);
  fell = λ p s off h. entered Own Primary p s tt (lost s off h);
  changed = λ serial f tame same stays s h. took serial f tame s h;
  parts = λ cause serial s on h. took serial (parted cause s.at) (parted-tame cause s.at) s h;
  discards = λ serial s off h. took serial drops drops-tame s h;
  logged = λ lines s h. h;
  ahead = λ lines k s h. h;
}
