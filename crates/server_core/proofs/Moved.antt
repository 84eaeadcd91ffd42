-- A server whose cursor moved to a screen, or whose clipboards changed, is in the state after it.
use Rattle.std.specs.Prelude.{◌≡◌, ℕ, []}
use Rattle.std.proofs.Common.{ap, ◌∙◌}
use Rattle.share_base.specs.declared.numbers.ScreenNo.{ScreenNo}
use Rattle.clip_chunks.specs.declared.book.ClipBook.{ClipBook}
use Rattle.clip_chunks.specs.Books as books
use Rattle.clip_chunks.specs.Clips.{Clips}
use Rattle.machine.specs.States.{State}
use Rattle.machine.specs.Switching.{next_sequence, at_screen}
use Rattle.screen_crossing.specs.declared.point.Point.{Point}
use Rattle.screen_crossing.specs.declared.switch_gate.SwitchGate.{SwitchGate}
use Rattle.screen_crossing.specs.Points.{point_of}
use Rattle.screen_crossing.specs.Remembering as gates
use Rattle.server_core.specs.declared.server.ServerCore.{ServerCore}
use Rattle.server_core.specs.declared.target.Target as kept
use Rattle.server_core.specs.Targets.{meant, IsThere}
use Rattle.server_core.specs.Standing.{Beside, Stands}
use Prim.{search}

pub stands-at : (b : Beside) (core : ServerCore) (s : State) (to : kept.Target) (p : Point) (n : ℕ) (g : SwitchGate) → IsThere s (meant to) → Stands b core s → n ≡ next_sequence core.sequence → gates.Heard g s.config.settings [] → Stands b (record core { active = to; cursor = p; sequence = n; gate = g }) (at_screen (meant to) (point_of p) s)
stands-at b core s to p n g there h e heard = search (e ∙ ap next_sequence h.sequence)

pub stands-clips : (b : Beside) (core : ServerCore) (s : State) (book : ClipBook) (clips : Clips) → Stands b core s → book.primary ≡ core.clips.primary → book.limit ≡ core.clips.limit → books.StandsAt book clips → Stands b (record core { clips = book }) (record s { clips = clips })
stands-clips b core s book clips h p l at = search (ap (λ (n : ScreenNo). n.0) p ∙ h.clips_of, l ∙ h.clips_limit)
