-- Worked rows: deadlines, what is due, the limits of connections and of edges.
use Rattle.std.specs.Prelude.{◌≡◌, refl, ℕ, zero, suc, ◌+◌, pos, negsuc, List, [], ◌∷◌, ◌++◌, codes, Some, None}
use Rattle.share_base.specs.declared.shape.Side.TheVariants.{Up}
use Rattle.option_table.specs.declared.rows.OptionName.TheVariants as option
use Rattle.machine.specs.Scripts.{Sleep, Motion, KeyDown}
use Rattle.machine.specs.Happenings.{Happening, Joined, Got, Took, Moment}
use Rattle.machine.specs.Readings.{closing, due}
use Rattle.std.specs.Fmt as std_fmt
use Rattle.share_base.specs.Names.{same_name}
use Rattle.share_base.specs.Screens.{has}
use Rattle.message_codec.specs.BodyVerdicts.{body_verdict}
use Rattle.message_codec.specs.Codes.{code_at}
use Rattle.message_codec.specs.Messages.{the_signed, the_number, the_list, clip_of, mark_of, field_at, built}
use Rattle.message_codec.specs.Reading.{read_fields, text_at}
use Rattle.modifier_map.specs.Presses.{mods_below}
use Rattle.option_table.specs.Table.{row_of}
use Rattle.option_table.specs.Wire.{sent_of}
use Rattle.hotkey_rules.specs.Triggers.{rule_for}
use Rattle.held_inputs.specs.Down.{last_where, down, is_button_down, reach, keys_below, buttons_below, held_keys, held_buttons, releases}
use Rattle.held_inputs.specs.Screen.{meant_id, meant_mask}
use Rattle.screen_config.specs.Configurations.{screen_of, with_own, with_global, with_link}
use Rattle.machine.proofs.RowParts.{link, desk_and_pad, two_desks, hello_of, join, state_of, log_of, log_after, joined_with, joined, last_two}

-- so many connections are accepted, the first one first
abbrev connections : ℕ → List Happening → List Happening
connections zero hs = hs
connections (suc n) hs = connections n (Joined (n + 1) ∷ hs)

record Rows : Type 0 where
  -- a connection that answers nothing
  not_yet_silent : log_of two_desks [] (Joined 1 ∷ Moment 29999 ∷ []) ≡ codes "open 1\nsend 1 Synergy 1 6\n"
  -- a millisecond later
  silent : log_of two_desks [] (Joined 1 ∷ Moment 30000 ∷ []) ≡ codes "open 1\nsend 1 Synergy 1 6\npart 1 silent\n"
  -- a parting one that takes nothing
  not_yet_closing : closing (state_of two_desks [] (Joined 1 ∷ Got 1 (hello_of 7 (codes "pad")) ∷ Moment 4999 ∷ [])) ≡ None
  -- a millisecond later
  closing_by_time : closing (state_of two_desks [] (Joined 1 ∷ Got 1 (hello_of 7 (codes "pad")) ∷ Moment 5000 ∷ [])) ≡ Some 1
  -- one that takes all
  closing_by_taking : closing (state_of two_desks [] (Joined 1 ∷ Got 1 (hello_of 7 (codes "pad")) ∷ Took 1 27 ∷ [])) ≡ Some 1
  -- with no connection nothing is due
  due_never : due (state_of two_desks [] []) ≡ 18446744073709551615
  -- then the silence
  due_silence : due (state_of two_desks [] (Moment 7 ∷ Joined 1 ∷ [])) ≡ 30007
  -- then the beat
  due_beat : due (state_of two_desks [] (join ++ Moment 0 ∷ [])) ≡ 3000
  -- and the machine's moment where a line may run
  due_now : due (state_of two_desks (Motion (pos 1) (pos 0) ∷ []) join) ≡ 0
  -- or the end of a sleep
  due_sleep : due (state_of two_desks (Sleep 40 ∷ []) (join ++ Moment 2 ∷ [])) ≡ 42
  -- a double tap
  double_tap : log_after (with_global two_desks option.SwitchDoubleTap 500) (Motion (pos 960) (pos 0) ∷ Motion (negsuc 0) (pos 0) ∷ Sleep 200 ∷ Motion (pos 5) (pos 0) ∷ []) (Moment 0 ∷ Moment 200 ∷ []) ≡ joined_with (codes "2 1397970004 500") (codes "local move 1919 540\nlocal move 1918 540\nlocal leave\nsend 1 CINN 0 384 1 0\n")
  -- a modifier that is needed and isn't held
  needs_shift : log_after (with_global two_desks option.SwitchNeedsShift 1) (Motion (pos 960) (pos 0) ∷ []) (Moment 0 ∷ []) ≡ joined_with (codes "0") (codes "local move 1919 540\n")
  -- and that is held
  holds_shift : log_after (with_global two_desks option.SwitchNeedsShift 1) (KeyDown 61409 50 ∷ Motion (pos 960) (pos 0) ∷ []) (Moment 0 ∷ []) ≡ joined_with (codes "0") (codes "local key down 61409 50 0\nlocal key up 61409 50\nlocal leave\nsend 1 CINN 0 384 1 0\n")
  -- past two edges, the horizontal one goes first
  first_edge : log_after (with_link two_desks (link 0 Up 1)) (Motion (pos 960) (negsuc 540) ∷ []) (Moment 0 ∷ []) ≡ joined (codes "local leave\nsend 1 CINN 0 0 1 0\n")
  -- where that one leads nowhere, the vertical one
  second_edge : log_after (with_link desk_and_pad (link 0 Up 1)) (Motion (pos 960) (negsuc 540) ∷ []) (Moment 0 ∷ []) ≡ joined (codes "local leave\nsend 1 CINN 1023 767 1 0\n")
  -- the sixty-fifth connection
  one_too_many : last_two (state_of two_desks [] (connections 65 [])) ≡ codes "open 65\npart 65 full\n"

rows : Rows
unfolding body_verdict the_signed the_number the_list clip_of mark_of field_at built code_at read_fields text_at row_of screen_of same_name sent_of std_fmt.digits mods_below rule_for last_where down is_button_down reach keys_below buttons_below held_keys held_buttons releases meant_id meant_mask has with_own
rows = record { not_yet_silent = refl; silent = refl; not_yet_closing = refl; closing_by_time = refl; closing_by_taking = refl; due_never = refl; due_silence = refl; due_beat = refl; due_now = refl; due_sleep = refl; double_tap = refl; needs_shift = refl; holds_shift = refl; first_edge = refl; second_edge = refl; one_too_many = refl }
