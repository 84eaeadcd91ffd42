-- What a book keeps of the clipboards.
use Rattle.std.specs.Prelude.{◌≡◌, ℕ, Bool, List, Option, is_some}
use Rattle.std.specs.Option.{option_map}
use Rattle.std.specs.Borrow.{Bor, Fml, MutBor}
use Rattle.std.specs.Io.BufRead.{Rests}
use Rattle.share_base.specs.Screens.{has}
use Rattle.share_base.specs.declared.clip_id.ClipId.{ClipId}
use Rattle.share_base.specs.declared.clip_id.ClipId.TheVariants.{Clipboard, Selection}
use Rattle.clip_chunks.specs.declared.kept.Kept.{Kept}
use Rattle.clip_chunks.specs.declared.book.ClipBook.{ClipBook}
use Rattle.clip_chunks.specs.Clips.{Clip, Clips, clip_of, is_among, is_dirty}
use Rattle.clip_chunks.specs.contracts.book.ClipBook.{the_row}
use Rattle.clip_chunks.specs.Rules.{grab_counts, whole_counts, known, given}
use Rattle.clip_chunks.specs.Calls.{Call, Entered, ruled}

-- the list has the set's screens
abbrev pub AreIn : ℕ → List ℕ → Type 0
AreIn set screens = (k : ℕ) → has set k ≡ is_among screens k

pub record IsClip (kept : Kept) (c : Clip) : Type 0 where
  pub owner : kept.owner.0 ≡ c.owner
  pub seq : kept.seq ≡ c.seq
  pub bytes : kept.bytes ≡ c.bytes
  pub dirty : AreIn kept.dirty c.dirty

-- it is known, and all screens of the set but the owner are dirty
abbrev pub IsKnown : Kept → ℕ → ℕ → List ℕ → ℕ → Type 0
IsKnown kept owner seq bytes set =
    (screens : List ℕ) → AreIn set screens → IsClip kept (known owner seq bytes screens)

-- whatever clipboard was kept, what is kept is what the rule makes of it
abbrev pub Changes : Kept → Kept → (Clip → Clip) → Type 0
Changes old new rule = (c : Clip) → IsClip old c → IsClip new (rule c)

-- ---- both clipboards

pub record StandsAt (book : ClipBook) (clips : Clips) : Type 0 where
  pub clipboard : IsClip book.clipboard clips.clipboard
  pub selection : IsClip book.selection clips.selection

-- whatever clipboards the book stood at, it stands at what the call makes of them
pub record Follows (old new : ClipBook) (call : Call) : Type 0 where
  pub primary : new.primary ≡ old.primary
  pub limit : new.limit ≡ old.limit
  pub stands : (clips : Clips) → StandsAt old clips
      → StandsAt new (ruled old.primary.0 old.limit call clips)

-- the same of a call with a set of screens, whose list may have any order
abbrev pub FollowsWith : ℕ → ClipBook → ClipBook → (List ℕ → Call) → Type 0
FollowsWith set old new call =
    (screens : List ℕ) → AreIn set screens → Follows old new (call screens)

-- ---- answers

-- a grab counted where it counts for whatever clipboards the book stood at
abbrev pub GrabAnswer : ClipBook → ClipId → ℕ → ℕ → Bool → Type 0
GrabAnswer book clip given machine counts =
    (clips : Clips) → StandsAt book clips → counts ≡ grab_counts given machine (clip_of clip clips)

abbrev pub WholeAnswer : ClipBook → ClipId → ℕ → ℕ → ℕ → Bool → Type 0
WholeAnswer book clip by given machine counts =
    (clips : Clips) → StandsAt book clips
    → counts ≡ whole_counts by given machine (clip_of clip clips)

abbrev pub WasDirty : ClipBook → ClipId → ℕ → Bool → Type 0
WasDirty book clip screen dirty =
    (clips : Clips) → StandsAt book clips → dirty ≡ is_dirty screen (clip_of clip clips)

-- the known bytes, where the screen was dirty; an answer comes exactly where it was
abbrev pub Gives : ClipBook → ClipId → ℕ → Option (Bor (List ℕ)) → Type 0
Gives book clip screen answer =
    (clips : Clips) → StandsAt book clips
    → (option_map (λ (b : Bor (List ℕ)). b.now) answer ≡ given screen (clip_of clip clips))
    × (is_some answer ≡ is_dirty screen (clip_of clip clips))

-- once the lent bytes are given back, the screen is clean
abbrev pub RestsAfter : MutBor ClipBook → ClipId → ℕ → Fml
RestsAfter book clip screen = Rests the_row book (λ new. Follows book.now new (Entered clip screen))

-- ---- the kept clipboard of a number

abbrev pub kept_of : ClipId → ClipBook → Kept
kept_of Clipboard book = book.clipboard
kept_of Selection book = book.selection

abbrev pub with_kept : ClipId → Kept → ClipBook → ClipBook
with_kept Clipboard kept book = record book { clipboard = kept }
with_kept Selection kept book = record book { selection = kept }
