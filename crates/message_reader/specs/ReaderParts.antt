-- What a message reader keeps of its stream.
use Rattle.std.specs.Prelude.{ℕ, Bool, Option, Some}
use Rattle.share_base.specs.declared.reason.Reason.{Reason}
use Rattle.wire_frames.specs.Framers.{FramerParts}
use Rattle.message_reader.specs.declared.reader.BadFrame.{BadFrame}
use Rattle.message_reader.specs.declared.role.Role.{Role}

-- its role, how many bytes were fed, whether a message was given, its framer, and the bad frame
-- that it met
pub record ReaderParts : Type 0 where
  pub role : Role
  pub total : ℕ
  pub begun : Bool
  pub framer : FramerParts
  pub bad : Option BadFrame

-- it met a bad frame at that place
abbrev pub with_bad : ReaderParts → ℕ → Reason → ReaderParts
with_bad r place reason =
    record {
      role = r.role;
      total = r.total;
      begun = r.begun;
      framer = r.framer;
      bad = Some (record { place = place; reason = reason });
    }
