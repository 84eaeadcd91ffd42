-- What contracts see of a framer.
use Rattle.std.specs.Prelude.{ℕ, ◌+◌, Bool, true, false, List, [], ◌++◌, length, if◌then◌else◌}

-- how many bytes it gave as frames, the bytes of the stream after them, its limit, whether it
-- answered that a frame is too long, and how many bytes its buffer holds
pub record FramerParts : Type 0 where
  pub given : ℕ
  pub rest : List ℕ
  pub limit : ℕ
  pub over : Bool
  pub held : ℕ

-- before the first byte
abbrev pub begun : ℕ → FramerParts
begun limit = record { given = 0; rest = []; limit = limit; over = false; held = 0 }

-- a piece was appended, and the buffer holds the rest alone; nothing is appended after a frame that
-- is too long
abbrev pub fed : FramerParts → List ℕ → FramerParts
fed f piece = record {
  given = f.given;
  rest = if f.over then f.rest else f.rest ++ piece;
  limit = f.limit;
  over = f.over;
  held = if f.over then f.held else length (f.rest ++ piece);
}

-- the front of the rest was given; it stays in the buffer until the next piece
abbrev pub moved : FramerParts → ℕ → List ℕ → FramerParts
moved f count rest =
    record { given = f.given + count; rest = rest; limit = f.limit; over = f.over; held = f.held }

-- a length was too long
abbrev pub refused : FramerParts → FramerParts
refused f = record { given = f.given; rest = f.rest; limit = f.limit; over = true; held = f.held }

-- the limit was raised
abbrev pub raised : FramerParts → ℕ → FramerParts
raised f limit =
    record { given = f.given; rest = f.rest; limit = limit; over = f.over; held = f.held }
