-- A connection that doesn't live any more doesn't live again.
use Rattle.std.specs.Prelude.{◌≡◌, refl, ℕ, Bool, true, false, Option, Some}
use Rattle.std.proofs.Common.{ap, subst}
use Rattle.share_base.specs.declared.reason.Reason.{Reason}
use Rattle.message_codec.specs.Inboxes.{Inbox}
use Rattle.hello_states.specs.declared.part_cause.PartCause.{PartCause}
use Rattle.hello_states.specs.declared.part_cause.PartCause.TheVariants as cause
use Rattle.machine.specs.Targets.{Client}
use Rattle.machine.specs.States.{State}
use Rattle.machine.specs.Combining.{when, for_some, unchanged}
use Rattle.machine.specs.Screens.{lives}
use Rattle.machine.specs.Partings.{parted, say_farewell, marked, lose, screen_joined, part}
use Rattle.machine.specs.Slow.{part_slow}
use Rattle.machine.specs.Steps.{drops, judge}
use Rattle.machine.proofs.Rules.{for_some-keeps}
use Rattle.machine.proofs.Live.{IsLive, changed-live, lives-live, parted-tame, drops-tame}
use Rattle.machine.proofs.Invariant.{View, On, IsInvariant}
use Rattle.machine.proofs.AnyButton.{any, any_origin, of-connections}
use Rattle.machine.proofs.KeepPartings.{marked-off, lose-keeps, part_slow-keeps}

abbrev pub Gone : ℕ → View → Type 0
Gone n v = IsLive v.connections (Client n) → ⊥

pub gone : (n : ℕ) → IsInvariant any any_origin (Gone n)
gone n = of-connections (λ cs. IsLive cs (Client n) → ⊥)
    (λ serial f tame same none cs h. λ k. h (changed-live serial f tame cs (Client n) k))
    (λ cause serial now cs on h. λ k. h (changed-live serial (parted cause now) (parted-tame cause now) cs (Client n) k))
    (λ serial s off h. λ k. h (changed-live serial drops drops-tame s.connections (Client n) k))

pub parted-gone : (why : PartCause) (serial : ℕ) (s : State) → On (Gone serial) (part why serial s)
parted-gone why serial s =
    let told : State = say_farewell why serial s in
    for_some-keeps (On (Gone serial)) (screen_joined s serial) (lose serial) unchanged (marked why serial told)
    (λ screen e. lose-keeps (gone serial) serial screen (marked why serial told) (marked-off why serial told) (marked-off why serial told))
    (marked-off why serial told)

abbrev part_as_bad : ℕ → ℕ → Reason → State → State
part_as_bad serial place why t = part_slow (part (cause.Bad place why) serial t)

-- one of which a bad frame came doesn't live
pub judged-off : (serial : ℕ) (box : Inbox) (why : Reason) (s : State) → box.bad ≡ Some why → lives (judge serial box s) serial ≡ true → ⊥
judged-off serial box why s bad on =
    let is : judge serial box s ≡ when (lives s serial) (part_as_bad serial box.place why) s = ap (λ (o : Option Reason). for_some o (λ x. when (lives s serial) (part_as_bad serial box.place x)) unchanged s) bad in
    by (lives s serial) refl (subst (λ t. lives t serial ≡ true) is on)
  where
    by : (x : Bool) → lives s serial ≡ x → lives (when x (part_as_bad serial box.place why) s) serial ≡ true → ⊥
    by false e on = let x : ⊥ = cc in x
    by true e on = part_slow-keeps (gone serial) (part (cause.Bad box.place why) serial s) (parted-gone (cause.Bad box.place why) serial s) (lives-live serial (part_as_bad serial box.place why s) on)
