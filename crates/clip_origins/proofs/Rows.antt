-- Worked rows: a clipboard that the script copies, and one that a client takes and sends.
use Rattle.std.specs.Prelude.{◌≡◌, refl, ℕ, pos, List, [], ◌∷◌, ◌++◌, map, codes, Some, None}
use Rattle.share_base.specs.declared.clip_id.ClipId.TheVariants.{Clipboard}
use Rattle.message_codec.specs.declared.clip_mark.ClipMark.TheVariants as mark
use Rattle.message_codec.specs.declared.messages.Msg.TheVariants as msg
use Rattle.message_codec.specs.Streams.{frame_of}
use Rattle.machine.specs.Scripts.{Copy}
use Rattle.machine.specs.Clipboards.{clip}
use Rattle.machine.specs.Happenings.{Happening, Joined, Got, Moment}
use Rattle.machine.specs.Acceptance.{start}
use Rattle.std.specs.Fmt as std_fmt
use Rattle.share_base.specs.Names.{same_name}
use Rattle.share_base.specs.Screens.{has}
use Rattle.message_codec.specs.BodyVerdicts.{body_verdict}
use Rattle.message_codec.specs.Codes.{code_at}
use Rattle.message_codec.specs.Messages.{the_signed, the_number, the_list, clip_of, mark_of, field_at, built}
use Rattle.message_codec.specs.Reading.{read_fields, text_at}
use Rattle.option_table.specs.Table.{row_of}
use Rattle.option_table.specs.Wire.{sent_of}
use Rattle.screen_config.specs.Configurations.{screen_of, with_own}
use Rattle.machine.proofs.RowParts.{two_desks, hello, info, script, join, state_of}
use Rattle.clip_origins.specs.Arrivals.{Arrival, arrivals}

-- a client takes the clipboard, and sends these bytes in two chunks
abbrev grab : List ℕ
grab = frame_of (msg.Grab Clipboard 0)

abbrev first_part : List ℕ
first_part = frame_of (msg.ClipPart Clipboard 0 mark.Start (codes "3"))

abbrev later_parts : List ℕ
later_parts = frame_of (msg.ClipPart Clipboard 0 mark.Chunk (codes "ab")) ++ frame_of (msg.ClipPart Clipboard 0 mark.Chunk (codes "c")) ++ frame_of (msg.ClipPart Clipboard 0 mark.End [])

abbrev sends : List Happening
sends = join ++ Got 1 (grab ++ first_part) ∷ Got 1 later_parts ∷ []

abbrev arrived : List Arrival
arrived = arrivals sends (start two_desks (script []) 0)

record Rows : Type 0 where
  -- the script copies, and the primary owns them
  copied : (clip (state_of two_desks (Copy Clipboard (codes "ab") ∷ []) (join ++ Moment 0 ∷ [])) Clipboard).bytes ≡ Some (codes "ab")
  -- pad sends, and owns them
  sent : (clip (state_of two_desks [] sends) Clipboard).bytes ≡ Some (codes "abc")
  owner : (clip (state_of two_desks [] sends) Clipboard).owner ≡ 1
  -- what is no owner's stays unknown
  not_owned : (clip (state_of two_desks [] (join ++ Got 1 (first_part ++ later_parts) ∷ [])) Clipboard).bytes ≡ None
  -- and so does what began before the screen was joined
  begun_early : (clip (state_of two_desks [] (Moment 0 ∷ Joined 1 ∷ Got 1 (hello ++ first_part) ∷ Got 1 (info ++ grab ++ later_parts) ∷ [])) Clipboard).bytes ≡ None
  -- what arrived
  messages : map (λ (a : Arrival). a.message) arrived ≡ msg.HelloBack 1 6 (codes "pad") ∷ msg.Info (pos 0) (pos 0) 1024 768 0 (pos 512) (pos 384) ∷ msg.Grab Clipboard 0 ∷ msg.ClipPart Clipboard 0 mark.Start (codes "3") ∷ msg.ClipPart Clipboard 0 mark.Chunk (codes "ab") ∷ msg.ClipPart Clipboard 0 mark.Chunk (codes "c") ∷ msg.ClipPart Clipboard 0 mark.End [] ∷ []

rows : Rows
unfolding body_verdict the_signed the_number the_list clip_of mark_of field_at built code_at read_fields text_at row_of screen_of same_name sent_of std_fmt.digits has with_own
rows = record { copied = refl; sent = refl; owner = refl; not_owned = refl; begun_early = refl; messages = refl }
