-- What is queued for the server and was not taken.
use Rattle.std.specs.Prelude.{◌≡◌, ℕ, ◌+◌, Bool, true, false, nat_le, List, [], ◌++◌, length, take, drop, fold, if◌then◌else◌}
use Rattle.message_codec.specs.declared.messages.Msg.{Msg}
use Rattle.message_codec.specs.Streams.{frame_of}
use Rattle.client_talk.specs.declared.outbox.TheConstants.{MOST_UNTAKEN}

-- it is slow once a frame had no room: that frame and all later ones are left out
pub record Untaken : Type 0 where
  pub bytes : List ℕ
  pub is_slow : Bool

abbrev pub nothing : Untaken
nothing = record { bytes = []; is_slow = false }

abbrev pub has_room : Untaken → Msg → Bool
has_room u m = nat_le (length u.bytes + length (frame_of m)) MOST_UNTAKEN

abbrev pub queued : Msg → Untaken → Untaken
queued m u =
    if u.is_slow then u
    else if has_room u m then record { bytes = u.bytes ++ frame_of m; is_slow = false }
    else record { bytes = u.bytes; is_slow = true }

-- one after another
abbrev pub queued_all : List Msg → Untaken → Untaken
queued_all messages u = fold (λ (v : Untaken) (m : Msg). queued m v) u messages

-- its bytes stand before all others, if there are others
abbrev pub Begins : Untaken → Untaken → Type 0
Begins old new = (more : List ℕ) × (new.bytes ≡ old.bytes ++ more)

-- its first bytes, and whether it was slow then
abbrev pub cut_back : ℕ → Bool → Untaken → Untaken
cut_back len was_slow u = record { bytes = take len u.bytes; is_slow = was_slow }

-- the first n bytes were taken
abbrev pub without : ℕ → Untaken → Untaken
without n u = record { bytes = drop n u.bytes; is_slow = u.is_slow }
