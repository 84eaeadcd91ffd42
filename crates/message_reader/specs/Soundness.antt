-- What holds of the parts of every message reader.
use Rattle.std.specs.Prelude.{◌≡◌, ℕ, ◌+◌, ◌≤◌, Bool, false, length}
use Rattle.wire_frames.specs.Framers.{FramerParts}
use Rattle.message_codec.specs.Streams.{body_limit}
use Rattle.message_reader.specs.declared.role.Role.{Role}
use Rattle.message_reader.specs.Roles.{IsLimit}

-- what its framer keeps is within what was fed, and is cut at the limit that is in force
pub record IsSound (role : Role) (begun : Bool) (total : ℕ) (framer : FramerParts) : Type 0 where
  pub fine : framer.over ≡ false
  pub within : framer.limit ≤ body_limit
  pub counted : framer.given + length framer.rest ≤ total
  pub limited : IsLimit role begun framer.limit
