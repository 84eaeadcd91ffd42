-- The stream of a link in memory: there from the start, until the link is closed.
use Rattle.std.specs.Prelude.{Bool, true, false, not, ◌&&◌, if◌then◌else◌, List}
use Rattle.std.specs.List.{fold}
use Rattle.hub_acts.specs.declared.act.Act.{Act}
use Rattle.hub_acts.specs.declared.act.Act.TheVariants as act
use Rattle.hub_mem.specs.Stories.{Scene, Came, Made}
use Rattle.hub_mem.specs.Streams.{Stream, new_stream, link_stream, stream_after}

pub record LinkStream : Type 0 where
  pub stream : Stream
  pub is_open : Bool

abbrev pub first_stream : LinkStream
first_stream = record { stream = new_stream; is_open = true }

abbrev pub closes : Act → Bool
closes act.LinkClose = true
closes a = false

-- lines do nothing once the link is closed
abbrev pub link_after : LinkStream → Scene → LinkStream
link_after k (Came l) =
    if k.is_open then record k { stream = stream_after link_stream k.stream (Came l) } else k
link_after k (Made a) = record {
  stream = stream_after link_stream k.stream (Made a);
  is_open = k.is_open && not (closes a);
}

abbrev pub link_in : List Scene → LinkStream
link_in scenes = fold link_after first_stream scenes
