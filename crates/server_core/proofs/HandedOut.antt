-- The clipboard that the active screen is handed, and then is clean for.
use Rattle.std.specs.Prelude.{◌≡◌, ℕ, List, Some, None}
use Rattle.std.specs.Borrow.{Bor}
use Rattle.std.proofs.Common.{sym, ap, ◌∙◌, subst}
use Rattle.share_base.specs.declared.clip_id.ClipId.{ClipId}
use Rattle.clip_chunks.specs.declared.book.ClipBook.{ClipBook}
use Rattle.clip_chunks.specs.Books as books
use Rattle.clip_chunks.specs.Calls.{Entered}
use Rattle.clip_chunks.specs.Clips.{Clips, with_clip}
use Rattle.clip_chunks.specs.Rules as rules
use Rattle.machine.specs.Screens.{screen_of}
use Rattle.machine.specs.Clipboards.{clip}
use Rattle.server_core.specs.declared.server.ServerCore.{ServerCore}
use Rattle.server_core.specs.Targets.{meant}
use Rattle.server_core.specs.Leading.{Reads}
use Rattle.server_core.specs.HandingOut.{HandsOut}
use Rattle.server_core.proofs.Moved.{stands-clips}
use Rattle.server_core.proofs.CleanClips.{clean-clips}

active-screen : (core : ServerCore) (n : ℕ) → Reads core n (λ s. screen_of s (meant core.active)) → Reads core n (λ s. screen_of s s.active)
active-screen core n at = λ b s h. at b s h ∙ ap (screen_of s) h.active

pub hands-some : (core : ServerCore) (id : ClipId) (n : ℕ) (book : ClipBook) (lent : Bor (List ℕ)) (copy : List ℕ) → copy ≡ lent.now → Reads core n (λ s. screen_of s (meant core.active)) → books.Gives core.clips id n (Some lent) → books.Follows core.clips book (Entered id n) → HandsOut id core (record core { clips = book }) (Some copy)
hands-some core id n book lent copy same at gives follows = record {
  given = λ b s h. ap (λ (x : List ℕ). Some x) same ∙ (let g = gives s.clips h.clips in g.0 ∙ ap (λ k. rules.given k (clip s id)) (active-screen core n at b s h));
  leads = λ b s h. stands-clips b core s book (with_clip id (rules.entered (screen_of s s.active) (clip s id)) s.clips) h follows.primary follows.limit
      (subst (λ k. books.StandsAt book (with_clip id (rules.entered k (clip s id)) s.clips)) (active-screen core n at b s h) (follows.stands s.clips h.clips));
}

pub hands-none : (core : ServerCore) (id : ClipId) (n : ℕ) (book : ClipBook) → Reads core n (λ s. screen_of s (meant core.active)) → books.Gives core.clips id n None → books.Follows core.clips book (Entered id n) → HandsOut id core (record core { clips = book }) None
hands-none core id n book at gives follows = record {
  given = λ b s h. let g = gives s.clips h.clips in g.0 ∙ ap (λ k. rules.given k (clip s id)) (active-screen core n at b s h);
  leads = λ b s h. let g = gives s.clips h.clips in
      stands-clips b core s book s.clips h follows.primary follows.limit (subst (λ (cs : Clips). books.StandsAt book cs) (clean-clips id n s.clips (sym g.1)) (follows.stands s.clips h.clips));
}
