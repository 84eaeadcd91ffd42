-- Worked rows: connections that join, are refused, send bad frames, fail and fall silent.
use Rattle.std.specs.Prelude.{◌≡◌, refl, pos, [], ◌∷◌, ◌++◌, codes, length}
use Rattle.message_codec.specs.declared.messages.Msg.TheVariants as msg
use Rattle.message_codec.specs.Streams.{frame_of}
use Rattle.option_table.specs.declared.rows.OptionName.TheVariants as option
use Rattle.machine.specs.Scripts.{Motion}
use Rattle.machine.specs.Happenings.{Joined, Got, Failed, Took, Moment, Closed}
use Rattle.machine.specs.Queues.{queue}
use Rattle.std.specs.Fmt as std_fmt
use Rattle.share_base.specs.Names.{same_name}
use Rattle.share_base.specs.Screens.{has}
use Rattle.message_codec.specs.BodyVerdicts.{body_verdict}
use Rattle.message_codec.specs.Codes.{code_at}
use Rattle.message_codec.specs.Messages.{the_signed, the_number, the_list, clip_of, mark_of, field_at, built}
use Rattle.message_codec.specs.Reading.{read_fields, text_at}
use Rattle.modifier_map.specs.Presses.{mods_below}
use Rattle.option_table.specs.Table.{row_of}
use Rattle.option_table.specs.Wire.{sent_of}
use Rattle.hotkey_rules.specs.Triggers.{rule_for}
use Rattle.held_inputs.specs.Down.{last_where, down, is_button_down, reach, keys_below, buttons_below, held_keys, held_buttons, releases}
use Rattle.held_inputs.specs.Screen.{meant_id, meant_mask}
use Rattle.screen_config.specs.Configurations.{screen_of, with_own, with_global}
use Rattle.machine.proofs.RowParts.{two_desks, hello_of, hello, info_of, info, join, state_of, log_of, log_after, joined_with, joined, crossed, bytes_apart}

record Rows : Type 0 where
  -- a client joins
  joins : log_after two_desks [] [] ≡ joined []
  -- byte by byte
  joins_by_bytes : log_of two_desks [] (Moment 0 ∷ Joined 1 ∷ Took 1 15 ∷ bytes_apart (hello ++ info)) ≡ joined []
  -- what is queued for it
  queued : queue (state_of two_desks [] join).routed 1 ≡ frame_of (msg.Hello 1 6) ++ frame_of msg.QueryInfo ++ frame_of msg.InfoAck ++ frame_of msg.ResetOptions ++ frame_of (msg.SetOptions [])
  -- how many bytes these are
  queued_bytes : length (queue (state_of two_desks [] join).routed 1) ≡ 51
  -- a length above the limit
  too_long : log_after two_desks [] (Got 1 (0 ∷ 64 ∷ 0 ∷ 1 ∷ []) ∷ []) ≡ joined (codes "send 1 EBAD\npart 1 bad 44 toolong\n")
  -- a body that begins with no code
  unknown_code : log_after two_desks [] (Got 1 (0 ∷ 0 ∷ 0 ∷ 4 ∷ 0 ∷ 0 ∷ 0 ∷ 0 ∷ []) ∷ []) ≡ joined (codes "send 1 EBAD\npart 1 bad 44 code\n")
  -- the first bytes of a connection
  first_too_long : log_of two_desks [] (Joined 1 ∷ Got 1 (0 ∷ 0 ∷ 4 ∷ 1 ∷ []) ∷ []) ≡ codes "open 1\nsend 1 Synergy 1 6\nsend 1 EBAD\npart 1 bad 0 toolong\n"
  -- another version
  other_version : log_of two_desks [] (Joined 1 ∷ Got 1 (hello_of 7 (codes "pad")) ∷ []) ≡ codes "open 1\nsend 1 Synergy 1 6\nsend 1 EICV 1 6\npart 1 version\n"
  -- a name of no screen
  unknown_name : log_of two_desks [] (Joined 1 ∷ Got 1 (hello_of 6 (codes "nobody")) ∷ []) ≡ codes "open 1\nsend 1 Synergy 1 6\nsend 1 EUNK\npart 1 unknown\n"
  -- a name in use
  busy_name : log_after two_desks [] (Joined 2 ∷ Got 2 (hello_of 6 (codes "PAD")) ∷ []) ≡ joined (codes "open 2\nsend 2 Synergy 1 6\nsend 2 EBSY\npart 2 busy\n")
  -- no width
  no_width : log_of two_desks [] (Joined 1 ∷ Got 1 hello ∷ Got 1 (info_of 0) ∷ []) ≡ codes "open 1\nsend 1 Synergy 1 6\nsend 1 QINF\nsend 1 EBAD\npart 1 size\n"
  -- the active connection fails
  fails : log_after two_desks (Motion (pos 960) (pos 0) ∷ []) (Moment 0 ∷ Took 1 5 ∷ Moment 0 ∷ Failed 1 ∷ Closed 1 ∷ []) ≡ crossed (codes "part 1 failed\nlocal enter 960 540 2 0\nclosed 1 56 69\n")
  -- beats and a death
  dies : log_after two_desks [] (Moment 3000 ∷ Took 1 8 ∷ Moment 6000 ∷ Took 1 8 ∷ Moment 8999 ∷ Moment 9000 ∷ Closed 1 ∷ []) ≡ joined (codes "send 1 CALV\nsend 1 CALV\npart 1 dead\nclosed 1 67 67\n")
  -- by another rate
  dies_sooner : log_after (with_global two_desks option.Heartbeat 1000) [] (Moment 999 ∷ Moment 1000 ∷ Moment 2000 ∷ Moment 2999 ∷ Moment 3000 ∷ []) ≡ joined_with (codes "2 1212240468 1000") (codes "send 1 CALV\nsend 1 CALV\npart 1 dead\n")

rows : Rows
unfolding body_verdict the_signed the_number the_list clip_of mark_of field_at built code_at read_fields text_at row_of screen_of same_name sent_of std_fmt.digits mods_below rule_for last_where down is_button_down reach keys_below buttons_below held_keys held_buttons releases meant_id meant_mask has with_own
rows = record { joins = refl; joins_by_bytes = refl; queued = refl; queued_bytes = refl; too_long = refl; unknown_code = refl; first_too_long = refl; other_version = refl; unknown_name = refl; busy_name = refl; no_width = refl; fails = refl; dies = refl; dies_sooner = refl }
