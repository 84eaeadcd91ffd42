-- A stream with the bytes that have not come yet.
use Rattle.std.specs.Prelude.{◌≡◌, ℕ, Bool, if◌then◌else◌, List, [], ◌++◌, take, drop, length}
use Rattle.std.specs.List.{flat_map}
use Rattle.script_screen.specs.declared.trace.TraceLine.{TraceLine}
use Rattle.script_screen.specs.declared.trace.TraceLine.TheVariants as line
use Rattle.hub_acts.specs.declared.act.Act.{Act}
use Rattle.hub_mem.specs.Stories.{Story}
use Rattle.hub_mem.specs.Streams.{Stream, Role, front_length, new_stream, heard, moved, stream_in}

pub record Feed : Type 0 where
  pub stream : Stream
  pub coming : List ℕ

abbrev pub new_feed : Feed
new_feed = record { stream = new_stream; coming = [] }

abbrev pub bytes_of : TraceLine → List ℕ
bytes_of (line.Got c bytes) = bytes
bytes_of l = []

-- the bytes that lines have for it
abbrev pub coming_in : (TraceLine → Bool) → List TraceLine → List ℕ
coming_in has_line lines = flat_map (λ l. if has_line l then bytes_of l else []) lines

-- a read copied these bytes into its buffer: the front of what is unread, as much as has room
pub record IsFront (s : Stream) (bytes old new : List ℕ) : Type 0 where
  pub count : length bytes ≡ front_length (length old) s
  pub front : bytes ≡ take (front_length (length old) s) s.unread
  pub copied : take (front_length (length old) s) new ≡ bytes

-- where a story leaves it
abbrev pub feed_in : Role → Story → Feed
feed_in role s =
    record { stream = stream_in role s.scenes; coming = coming_in role.has_line s.ahead }

abbrev pub with_coming : List ℕ → Feed → Feed
with_coming bytes f = record f { coming = f.coming ++ bytes }

abbrev pub with_arrived : ℕ → Feed → Feed
with_arrived n f =
    record {
      stream = record f.stream { unread = f.stream.unread ++ take n f.coming };
      coming = drop n f.coming;
    }

abbrev pub feed_heard : TraceLine → Feed → Feed
feed_heard (line.Got c bytes) f = with_arrived (length bytes) f
feed_heard l f = record f { stream = heard l f.stream }

abbrev pub feed_seen : (TraceLine → Bool) → TraceLine → Feed → Feed
feed_seen has_line l f = if has_line l then feed_heard l f else f

abbrev pub feed_moved : (Act → Bool) → Act → Feed → Feed
feed_moved has_act a f = if has_act a then record f { stream = moved a f.stream } else f
