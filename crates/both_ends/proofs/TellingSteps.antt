-- What happenings do but an acceptance, told by the steps that rules are made of.
use Rattle.std.specs.Prelude.{ℕ, List, [], ◌∷◌, ◌++◌, length, drop}
use Rattle.std.specs.List.{AllByRecursion}
use Rattle.message_codec.specs.declared.messages.Msg.{Msg}
use Rattle.message_codec.specs.Inboxes.{Inbox}
use Rattle.hello_states.specs.declared.part_cause.PartCause.{PartCause}
use Rattle.hello_states.specs.declared.part_cause.PartCause.TheVariants as cause
use Rattle.machine.specs.Connections.{removed}
use Rattle.machine.specs.States.{State}
use Rattle.machine.specs.States as states
use Rattle.machine.specs.Combining.{when, choose, for_each, unchanged}
use Rattle.machine.specs.Screens.{lives, change, taken_by}
use Rattle.machine.specs.Queues.{total}
use Rattle.machine.specs.Partings.{part}
use Rattle.machine.specs.Slow.{part_slow}
use Rattle.machine.specs.Hearing.{hear}
use Rattle.machine.specs.Timers.{after_timers}
use Rattle.machine.specs.Happenings.{Happening, Joined, Got, Ended, Failed, Took, Moment, Closed}
use Rattle.machine.specs.Steps.{inbox_of, received_by, receives, judge, hear_added, hear_piece, got, drops, breaks, takes, step}
use Rattle.machine.proofs.Rules.{when-keeps-if, choose-keeps, for_some-keeps}
use Rattle.both_ends.proofs.Telling.{Kinds, IsTelling}
use Rattle.both_ends.proofs.TellingPartings.{part-tells, part_slow-tells}
use Rattle.both_ends.proofs.TellingScripts.{run_script-tells, after_timers-tells}
use Rattle.both_ends.proofs.TellingHearing.{hear-tells}
use Rattle.both_ends.proofs.AllOfLists.{all-drop}

judge-tells : {k : Kinds} (i : IsTelling k) (serial : ℕ) (box : Inbox) (s : State) → k.state s → k.state (judge serial box s)
judge-tells {k} i serial box s h = for_some-keeps k.state box.bad (λ why. when (lives s serial) (λ t. part_slow (part (cause.Bad box.place why) serial t))) unchanged s (λ why e. when-keeps-if k.state (lives s serial) (λ t. part_slow (part (cause.Bad box.place why) serial t)) s (λ f. part_slow-tells i (part (cause.Bad box.place why) serial s) (part-tells i (cause.Bad box.place why) serial s h)) h) h

hear_each-tells : {k : Kinds} (i : IsTelling k) (serial : ℕ) (ms : List Msg) → AllByRecursion k.heard ms → (s : State) → k.state s → k.state (for_each ms (hear serial) s)
hear_each-tells i serial [] c s h = h
hear_each-tells i serial (m ∷ ms) c s h = hear_each-tells i serial ms c.1 (hear serial m s) (hear-tells i serial m s c.0 h)

hear_added-tells : {k : Kinds} (i : IsTelling k) (serial : ℕ) (old new : Inbox) (s : State) → AllByRecursion k.heard new.messages → k.state s → k.state (hear_added serial old new s)
hear_added-tells {k} i serial old new s c h = judge-tells i serial new (for_each (drop (length old.messages) new.messages) (hear serial) s) (hear_each-tells i serial (drop (length old.messages) new.messages) (all-drop k.heard (length old.messages) new.messages c) s h)

got-tells : {k : Kinds} (i : IsTelling k) (serial : ℕ) (piece : List ℕ) (s : State) → k.piece piece → k.state s → k.state (got serial piece s)
got-tells {k} i serial piece s p h = when-keeps-if k.state (lives s serial) (hear_piece serial piece) s (λ e. hear_added-tells i serial (inbox_of (received_by s serial)) (inbox_of (received_by s serial ++ piece)) (change serial (receives piece) s) (i.came serial piece s p h) (i.changed serial (receives piece) s (i.receives piece p) h)) h

breaks-tells : {k : Kinds} (i : IsTelling k) (why : PartCause) (serial : ℕ) (s : State) → k.state s → k.state (breaks why serial s)
breaks-tells {k} i why serial s h = part_slow-tells i (choose (lives s serial) (part why serial) (change serial drops) s) (choose-keeps k.state (lives s serial) (part why serial) (change serial drops) s (λ e. part-tells i why serial s h) (λ e. i.changed serial drops s i.discards h))

-- it is no acceptance, and its bytes are such
abbrev pub Brings : Kinds → Happening → Type 0
Brings k (Joined serial) = ⊥
Brings k (Got serial piece) = k.piece piece
Brings k _ = Unit {0}

pub step-tells : {k : Kinds} (i : IsTelling k) (s : State) (h : Happening) → Brings k h → k.state s → k.state (step s h)
step-tells i s (Joined serial) b g = absurd b
step-tells i s (Got serial piece) b g = got-tells i serial piece s b g
step-tells i s (Ended serial) b g = breaks-tells i cause.Ended serial s g
step-tells i s (Failed serial) b g = breaks-tells i cause.Failed serial s g
step-tells i s (Took serial count) b g = i.changed serial (takes count) s (i.took count) g
step-tells i s (Moment t) b g = run_script-tells i (after_timers t s) (after_timers-tells i t s g)
step-tells i s (Closed serial) b g = i.logged (states.Closed serial (taken_by s serial) (total s.routed serial) ∷ []) (record s { connections = removed serial s.connections }) (i.closed serial s g)
