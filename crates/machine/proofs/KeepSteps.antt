-- Bytes, ends, takings, closings and moments keep every invariant.
use Rattle.std.specs.Prelude.{◌≡◌, refl, ℕ, Bool, true, List, [], ◌∷◌, ◌++◌, length, drop}
use Rattle.hello_states.specs.declared.part_cause.PartCause.{PartCause}
use Rattle.hello_states.specs.declared.part_cause.PartCause.TheVariants as cause
use Rattle.machine.specs.Targets.{Origin, OfLine, OfAction}
use Rattle.machine.specs.Connections.{removed}
use Rattle.machine.specs.States.{State, Closed}
use Rattle.machine.specs.Combining.{when, choose, for_each, unchanged}
use Rattle.machine.specs.Screens.{lives, change, taken_by}
use Rattle.machine.specs.Queues.{total}
use Rattle.machine.specs.Partings.{part}
use Rattle.machine.specs.Slow.{part_slow}
use Rattle.message_codec.specs.Inboxes.{Inbox}
use Rattle.machine.specs.Hearing.{hear}
use Rattle.machine.specs.Timers.{after_timers}
use Rattle.machine.specs.Steps.{inbox_of, received_by, receives, judge, hear_added, hear_piece, got, drops, breaks, takes, close, moment}
use Rattle.machine.proofs.Rules.{when-keeps-if, choose-keeps, for_some-keeps, for_each-keeps}
use Rattle.machine.proofs.Live.{IsTame, IsSteady, steady-tame, lives-live}
use Rattle.machine.proofs.Invariant.{View, On, IsInvariant}
use Rattle.machine.proofs.KeepPartings.{part-keeps, part_slow-keeps}
use Rattle.machine.proofs.KeepScripts.{run_script-keeps, after_timers-keeps}
use Rattle.machine.proofs.KeepHearing.{hear-keeps}

pub judge-keeps : {key : ℕ → Bool} {allowed : Origin → Bool} {P : View → Type 0} (i : IsInvariant key allowed P) (serial : ℕ) (box : Inbox) (s : State) → On P s → On P (judge serial box s)
judge-keeps {P = P} i serial box s h = for_some-keeps (On P) box.bad (λ why. when (lives s serial) (λ t. part_slow (part (cause.Bad box.place why) serial t))) unchanged s (λ why e. when-keeps-if (On P) (lives s serial) (λ t. part_slow (part (cause.Bad box.place why) serial t)) s (λ f. part_slow-keeps i (part (cause.Bad box.place why) serial s) (part-keeps i (cause.Bad box.place why) serial s (lives-live serial s f) h)) h) h

hear_added-keeps : {key : ℕ → Bool} {allowed : Origin → Bool} {P : View → Type 0} (i : IsInvariant key allowed P) (serial : ℕ) (old new : Inbox) (s : State) → On P s → On P (hear_added serial old new s)
hear_added-keeps {P = P} i serial old new s h = judge-keeps i serial new (for_each (drop (length old.messages) new.messages) (hear serial) s) (for_each-keeps (On P) (drop (length old.messages) new.messages) (hear serial) (hear-keeps i serial) s h)

pub receives-steady : (piece : List ℕ) → IsSteady (receives piece)
receives-steady piece c = (refl, refl)

pub got-keeps : {key : ℕ → Bool} {allowed : Origin → Bool} {P : View → Type 0} (i : IsInvariant key allowed P) (serial : ℕ) (piece : List ℕ) (s : State) → On P s → On P (got serial piece s)
got-keeps {P = P} i serial piece s h = when-keeps-if (On P) (lives s serial) (hear_piece serial piece) s (λ e. hear_added-keeps i serial (inbox_of (received_by s serial)) (inbox_of (received_by s serial ++ piece)) (change serial (receives piece) s) (i.changed serial (receives piece) (steady-tame (receives piece) (receives-steady piece)) (λ c. refl) (λ c. (refl, λ on. on, λ off. refl)) s h)) h

pub breaks-keeps : {key : ℕ → Bool} {allowed : Origin → Bool} {P : View → Type 0} (i : IsInvariant key allowed P) (why : PartCause) (serial : ℕ) (s : State) → On P s → On P (breaks why serial s)
breaks-keeps {P = P} i why serial s h = part_slow-keeps i (choose (lives s serial) (part why serial) (change serial drops) s) (choose-keeps (On P) (lives s serial) (part why serial) (change serial drops) s (λ e. part-keeps i why serial s (lives-live serial s e) h) (λ e. i.discards serial s e h))

pub takes-steady : (count : ℕ) → IsSteady (takes count)
takes-steady count c = (refl, refl)

pub takes-tame : (count : ℕ) → IsTame (takes count)
takes-tame count = steady-tame (takes count) (takes-steady count)

-- where the state without the connection has it
pub close-keeps : {key : ℕ → Bool} {allowed : Origin → Bool} {P : View → Type 0} (i : IsInvariant key allowed P) (serial : ℕ) (s : State) → On P (record s { connections = removed serial s.connections }) → On P (close serial s)
close-keeps i serial s h = i.logged (Closed serial (taken_by s serial) (total s.routed serial) ∷ []) (record s { connections = removed serial s.connections }) h

pub moment-keeps : {key : ℕ → Bool} {allowed : Origin → Bool} {P : View → Type 0} (i : IsInvariant key allowed P) → ((number : ℕ) → allowed (OfLine number) ≡ true) → ((number : ℕ) → allowed (OfAction number) ≡ true) → (t : ℕ) (s : State) → On P s → On P (moment t s)
moment-keeps i a b t s h = run_script-keeps i a b (after_timers t s) (after_timers-keeps i t s h)
