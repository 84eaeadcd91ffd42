-- The rules of a clipboard: what a copy, a grab and a whole change and when they count, and what
-- becomes of it where screens join, leave and are entered.
use Rattle.std.specs.Prelude.{ℕ, Bool, ◌&&◌, ◌==◌, nat_le, List, [], ◌∷◌, length, Option, Some}
use Rattle.std.specs.Prelude.{None, if◌then◌else◌}
use Rattle.clip_chunks.specs.Clips.{Clip, Clips, without, is_dirty}

-- ---- when they count

-- a copy is within the limit
abbrev pub copy_counts : ℕ → List ℕ → Bool
copy_counts limit bytes = nat_le (length bytes) limit

-- a grab's sequence is at least the kept one and at most the machine's
abbrev pub grab_counts : ℕ → ℕ → Clip → Bool
grab_counts given machine c = nat_le c.seq given && nat_le given machine

-- a whole is the owner's, and so is its sequence
abbrev pub whole_counts : ℕ → ℕ → ℕ → Clip → Bool
whole_counts by given machine c = (c.owner == by) && nat_le c.seq given && nat_le given machine

-- ---- what they change

-- a copy makes bytes known as the primary's, with the machine's sequence, and a whole as its
-- sender's, with its own: every joined screen but the owner is dirty
abbrev pub known : ℕ → ℕ → List ℕ → List ℕ → Clip
known owner seq bytes screens =
    record { owner = owner; seq = seq; bytes = Some bytes; dirty = without screens owner }

-- a grab makes them unknown as its sender's, with its sequence, and no screen is dirty
abbrev pub unknown : ℕ → ℕ → Clip
unknown owner seq = record { owner = owner; seq = seq; bytes = None; dirty = [] }

-- ---- screens that join, leave and are entered

abbrev pub dirtied : ℕ → Option (List ℕ) → Clip → Clip
dirtied screen None c = c
dirtied screen (Some bytes) c = record c { dirty = screen ∷ c.dirty }

-- a screen that joins is dirty where the bytes are known
abbrev pub joined : ℕ → Clip → Clip
joined screen c = dirtied screen c.bytes c

-- a clipboard whose owner leaves is the primary's, and else as it was
abbrev pub left : ℕ → ℕ → Clip → Clip
left primary screen c = if c.owner == screen then record c { owner = primary } else c

-- a dirty screen that is entered is given the known bytes
abbrev pub given : ℕ → Clip → Option (List ℕ)
given screen c = if is_dirty screen c then c.bytes else None

-- and is clean
abbrev pub entered : ℕ → Clip → Clip
entered screen c = record c { dirty = without c.dirty screen }

-- ---- at first

-- both are the primary's, and unknown
abbrev pub first_clips : ℕ → Clips
first_clips primary = record { clipboard = unknown primary 0; selection = unknown primary 0 }
