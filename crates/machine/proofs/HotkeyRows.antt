-- Worked rows: hotkeys, the lock, the screen saver, options of a screen, and clipboards.
use Rattle.std.specs.Prelude.{◌≡◌, refl, pos, negsuc, true, [], ◌∷◌, ◌++◌, codes}
use Rattle.share_base.specs.declared.clip_id.ClipId.TheVariants.{Clipboard}
use Rattle.message_codec.specs.declared.messages.Msg.TheVariants as msg
use Rattle.message_codec.specs.declared.clip_mark.ClipMark.TheVariants as mark
use Rattle.message_codec.specs.Streams.{frame_of}
use Rattle.option_table.specs.declared.rows.OptionName.TheVariants as option
use Rattle.hotkey_rules.specs.declared.action.Action.TheVariants as action
use Rattle.hotkey_rules.specs.declared.action.LockMode.TheVariants as lock
use Rattle.machine.specs.Scripts.{Motion, KeyDown, KeyRepeat, KeyUp, Saver, Copy}
use Rattle.machine.specs.Happenings.{Got, Moment}
use Rattle.std.specs.Fmt as std_fmt
use Rattle.share_base.specs.Names.{same_name}
use Rattle.share_base.specs.Screens.{has}
use Rattle.message_codec.specs.BodyVerdicts.{body_verdict}
use Rattle.message_codec.specs.Codes.{code_at}
use Rattle.message_codec.specs.Messages.{the_signed, the_number, the_list, clip_of, mark_of, field_at, built}
use Rattle.message_codec.specs.Reading.{read_fields, text_at}
use Rattle.modifier_map.specs.Presses.{mods_below}
use Rattle.option_table.specs.Table.{row_of}
use Rattle.option_table.specs.Wire.{sent_of}
use Rattle.hotkey_rules.specs.Triggers.{rule_for}
use Rattle.held_inputs.specs.Down.{last_where, down, is_button_down, reach, keys_below, buttons_below, held_keys, held_buttons, releases}
use Rattle.held_inputs.specs.Screen.{meant_id, meant_mask}
use Rattle.screen_config.specs.Configurations.{screen_of, with_own, with_global}
use Rattle.machine.proofs.RowParts.{two_desks, with_key, log_after, joined_with, joined, crossed}

record Rows : Type 0 where
  -- a hotkey switches with a key down
  switches : log_after (with_key two_desks 61211 (action.SwitchTo (record { 0 = 0 }) ∷ [])) (Motion (pos 960) (pos 0) ∷ KeyDown 97 38 ∷ KeyDown 61211 9 ∷ KeyUp 9 ∷ KeyUp 38 ∷ []) (Moment 0 ∷ []) ≡ crossed (codes "send 1 DKDN 97 0 38\nsend 1 COUT\nlocal enter 960 540 2 0\n")
  -- a lock blocks an edge
  lock_blocks : log_after (with_key two_desks 61204 (action.Lock lock.Toggle ∷ [])) (KeyDown 61204 70 ∷ KeyUp 70 ∷ Motion (pos 960) (pos 0) ∷ []) (Moment 0 ∷ []) ≡ joined (codes "local move 1919 540\n")
  -- and is lifted
  lock_is_lifted : log_after (with_key two_desks 61204 (action.Lock lock.Toggle ∷ [])) (KeyDown 61204 70 ∷ KeyUp 70 ∷ Motion (pos 960) (pos 0) ∷ KeyDown 61204 70 ∷ KeyUp 70 ∷ Motion (pos 1) (pos 0) ∷ []) (Moment 0 ∷ []) ≡ joined (codes "local move 1919 540\nlocal leave\nsend 1 CINN 0 384 1 0\n")
  -- a hotkey strikes a key, and its repeats do nothing
  strikes : log_after (with_key two_desks 61374 (action.KeyStroke (record { 0 = 99 }) (record { 0 = 2 }) (record { 0 = 61440 }) ∷ [])) (Motion (pos 960) (pos 0) ∷ KeyDown 61374 67 ∷ KeyRepeat 3 67 ∷ KeyUp 67 ∷ []) (Moment 0 ∷ []) ≡ crossed (codes "send 1 DKDN 99 2 61440\nsend 1 DKUP 99 2 61440\n")
  -- the screen saver
  saver : log_after two_desks (Motion (pos 960) (pos 0) ∷ Saver true ∷ []) (Moment 0 ∷ []) ≡ crossed (codes "local saver on\nsend 1 CSEC 1\n")
  -- a locked cursor moves by
  moves_by : log_after (with_key (with_global two_desks option.RelativeMouseMoves 1) 61374 (action.Lock lock.On ∷ [])) (Motion (pos 960) (pos 0) ∷ KeyDown 61374 67 ∷ KeyUp 67 ∷ Motion (negsuc 4) (negsuc 1) ∷ []) (Moment 0 ∷ []) ≡ joined_with (codes "2 1296321620 1") (codes "local leave\nsend 1 CINN 0 384 1 0\nsend 1 DMRM -5 -2\n")
  -- a screen's own option
  own_option : log_after (with_own two_desks 1 option.Shift 2) [] [] ≡ joined_with (codes "2 1296909907 2") []
  -- a copy, and the screen that is entered
  copies : log_after two_desks (Copy Clipboard (codes "abc") ∷ Motion (pos 960) (pos 0) ∷ []) (Moment 0 ∷ []) ≡ joined (codes "send 1 CCLP 0 0\nlocal leave\nsend 1 CINN 0 384 1 0\nsend 1 DCLP 0 0 1 33\nsend 1 DCLP 0 0 2 616263\nsend 1 DCLP 0 0 3 -\n")
  -- a client's clipboard, and grabs that are too old and too new
  grabs : log_after two_desks (Motion (pos 960) (pos 0) ∷ Motion (negsuc 0) (pos 0) ∷ []) (Moment 0 ∷ Got 1 (frame_of (msg.Grab Clipboard 1)) ∷ Got 1 (frame_of (msg.ClipPart Clipboard 1 mark.Start (codes "1")) ++ frame_of (msg.ClipPart Clipboard 1 mark.Chunk (120 ∷ [])) ++ frame_of (msg.ClipPart Clipboard 1 mark.End [])) ∷ Got 1 (frame_of (msg.Grab Clipboard 0)) ∷ Got 1 (frame_of (msg.Grab Clipboard 3)) ∷ []) ≡ crossed (codes "send 1 COUT\nlocal enter 1919 540 2 0\nlocal grab 0\nlocal clip 0 78\n")
  -- no clipboard is shared
  shares_none : log_after (with_global two_desks option.ClipboardSharing 0) (Copy Clipboard (codes "abc") ∷ Motion (pos 960) (pos 0) ∷ []) (Moment 0 ∷ []) ≡ joined_with (codes "2 1129074771 0") (codes "local leave\nsend 1 CINN 0 384 1 0\n")

rows : Rows
unfolding body_verdict the_signed the_number the_list clip_of mark_of field_at built code_at read_fields text_at row_of screen_of same_name sent_of std_fmt.digits mods_below rule_for last_where down is_button_down reach keys_below buttons_below held_keys held_buttons releases meant_id meant_mask has with_own
rows = record { switches = refl; lock_blocks = refl; lock_is_lifted = refl; strikes = refl; saver = refl; moves_by = refl; own_option = refl; copies = refl; grabs = refl; shares_none = refl }
