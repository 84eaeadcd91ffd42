-- What a bad frame leads to.
use Rattle.std.specs.Prelude.{◌≡◌, refl, ℕ, true, false, Option, Some, None}
use Rattle.std.specs.Option.{option_map}
use Rattle.std.proofs.Common.{sym, ap, ◌∙◌}
use Rattle.share_base.specs.declared.reason.Reason.{Reason}
use Rattle.message_codec.specs.Inboxes.{Inbox}
use Rattle.message_reader.specs.declared.reader.BadFrame.{BadFrame}
use Rattle.hello_states.specs.declared.part_cause.PartCause.TheVariants as cause
use Rattle.machine.specs.States.{State}
use Rattle.machine.specs.Combining.{when, for_some, unchanged}
use Rattle.machine.specs.Screens.{lives}
use Rattle.machine.specs.Partings.{part}
use Rattle.machine.specs.Slow.{part_slow}
use Rattle.machine.specs.Steps.{judge}
use Rattle.machine.proofs.Finding.{none_some, some_is}
use Rattle.server_core.specs.Receiving.{bad_in}

abbrev at_place : ℕ → Reason → BadFrame
at_place place why = record { place = place; reason = why }

abbrev judged_by : ℕ → ℕ → State → Option Reason → State
judged_by serial place s o = for_some o (λ why. when (lives s serial) (λ t. part_slow (part (cause.Bad place why) serial t))) unchanged s

-- none came
pub judged-none : (serial : ℕ) (box : Inbox) (s : State) → bad_in box ≡ None → judge serial box s ≡ s
judged-none serial box s h = by box.bad h
  where
    by : (o : Option Reason) → option_map (at_place box.place) o ≡ None → judged_by serial box.place s o ≡ s
    by None h = refl
    by (Some why) h = none_some (at_place box.place why) (sym h)

-- one came, of a connection that doesn't live
pub judged-gone : (serial : ℕ) (box : Inbox) (s : State) → lives s serial ≡ false → judge serial box s ≡ s
judged-gone serial box s off = by box.bad
  where
    by : (o : Option Reason) → judged_by serial box.place s o ≡ s
    by None = refl
    by (Some why) = ap (λ x. when x (λ t. part_slow (part (cause.Bad box.place why) serial t)) s) off

-- or of one that lives
pub judged-part : (serial : ℕ) (box : Inbox) (s : State) (frame : BadFrame) → bad_in box ≡ Some frame → lives s serial ≡ true → judge serial box s ≡ part_slow (part (cause.Bad frame.place frame.reason) serial s)
judged-part serial box s frame h on = by box.bad h
  where
    by : (o : Option Reason) → option_map (at_place box.place) o ≡ Some frame → judged_by serial box.place s o ≡ part_slow (part (cause.Bad frame.place frame.reason) serial s)
    by None h = none_some frame h
    by (Some x) h =
        ap (λ y. when y (λ t. part_slow (part (cause.Bad box.place x) serial t)) s) on
        ∙ ap (λ (f : BadFrame). part_slow (part (cause.Bad f.place f.reason) serial s)) (some_is (at_place box.place x) frame h)
