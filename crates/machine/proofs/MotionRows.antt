-- Worked rows: motions that stay, cross, are blocked and wait.
use Rattle.std.specs.Prelude.{◌≡◌, refl, pos, negsuc, true, false, [], ◌∷◌, ◌++◌, codes, Some}
use Rattle.share_base.specs.declared.shape.Side.TheVariants.{Right}
use Rattle.screen_links.specs.Landings.{landing_across}
use Rattle.edge_cross.specs.CornerTests.{is_in_corner}
use Rattle.option_table.specs.declared.rows.OptionName.TheVariants as option
use Rattle.machine.specs.Scripts.{Await, Motion, KeyDown, KeyUp, ButtonDown, ButtonUp, Quit}
use Rattle.machine.specs.Happenings.{Ended, Took, Moment, Closed}
use Rattle.machine.specs.Acceptance.{start}
use Rattle.machine.specs.Steps.{run}
use Rattle.machine.specs.Readings.{active_screen}
use Rattle.std.specs.Fmt as std_fmt
use Rattle.share_base.specs.Names.{same_name}
use Rattle.share_base.specs.Screens.{has}
use Rattle.message_codec.specs.BodyVerdicts.{body_verdict}
use Rattle.message_codec.specs.Codes.{code_at}
use Rattle.message_codec.specs.Messages.{the_signed, the_number, the_list, clip_of, mark_of, field_at, built}
use Rattle.message_codec.specs.Reading.{read_fields, text_at}
use Rattle.modifier_map.specs.Presses.{mods_below}
use Rattle.option_table.specs.Table.{row_of}
use Rattle.option_table.specs.Wire.{sent_of}
use Rattle.hotkey_rules.specs.Triggers.{rule_for}
use Rattle.held_inputs.specs.Down.{last_where, down, is_button_down, reach, keys_below, buttons_below, held_keys, held_buttons, releases}
use Rattle.held_inputs.specs.Screen.{meant_id, meant_mask}
use Rattle.screen_config.specs.Configurations.{screen_of, with_own, with_global}
use Rattle.machine.proofs.RowParts.{two_desks, away_between, away_in_circle, halves, join, state_of, log_after, joined_with, joined, crossed, both_join, last_two}

record Rows : Type 0 where
  -- past an edge, a key, and the end
  crosses_and_quits : log_after two_desks (Motion (pos 960) (pos 0) ∷ KeyDown 97 38 ∷ KeyUp 38 ∷ Quit ∷ []) (Moment 0 ∷ Took 1 54 ∷ Closed 1 ∷ []) ≡ crossed (codes "send 1 DKDN 97 0 38\nsend 1 DKUP 97 0 38\nsend 1 CBYE\npart 1 bye\nlocal enter 960 540 2 0\nclosed 1 105 105\n")
  -- to the last pixel
  stays_inside : log_after two_desks (Motion (pos 959) (pos 0) ∷ []) (Moment 0 ∷ []) ≡ joined (codes "local move 1919 540\n")
  -- onto the screen of the upper half
  upper_half : last_two (run both_join (start halves (record { primary = 0; width = 1920; height = 1080; lines = Await 1 ∷ Await 2 ∷ Motion (pos 960) (negsuc 0) ∷ [] }) 0)) ≡ codes "local leave\nsend 1 CINN 0 767 1 0\n"
  -- onto the screen of the lower half
  lower_half : last_two (run both_join (start halves (record { primary = 0; width = 1920; height = 1080; lines = Await 1 ∷ Await 2 ∷ Motion (pos 960) (pos 0) ∷ [] }) 0)) ≡ codes "local leave\nsend 2 CINN 0 0 1 0\n"
  -- the last place of the upper half, and the first of the lower one
  below_border : landing_across halves.links (λ screen. true) Right (record { screen = record { 0 = 0 }; t = 499999 }) ≡ Some (record { screen = record { 0 = 1 }; t = 999998 })
  -- the first place of the lower half
  above_border : landing_across halves.links (λ screen. true) Right (record { screen = record { 0 = 0 }; t = 500000 }) ≡ Some (record { screen = record { 0 = 2 }; t = 0 })
  -- over a screen that is away
  passes_one_away : log_after away_between (Motion (pos 960) (pos 0) ∷ []) (Moment 0 ∷ []) ≡ crossed []
  -- in a circle
  walks_no_circle : log_after away_in_circle (Motion (pos 960) (pos 0) ∷ []) (Moment 0 ∷ []) ≡ joined (codes "local move 1919 540\n")
  -- with a button down, and then without
  button_blocks : log_after two_desks (Motion (pos 959) (pos 0) ∷ ButtonDown 1 ∷ Motion (pos 5000) (pos 0) ∷ ButtonUp 1 ∷ Motion (pos 1) (pos 0) ∷ []) (Moment 0 ∷ []) ≡ joined (codes "local move 1919 540\nlocal button down 1\nlocal move 1919 540\nlocal button up 1\nlocal leave\nsend 1 CINN 0 384 1 0\n")
  -- back, at its own place
  crosses_back : log_after two_desks (Motion (pos 960) (pos 0) ∷ Motion (negsuc 4) (pos 3) ∷ []) (Moment 0 ∷ []) ≡ crossed (codes "send 1 COUT\nlocal enter 1919 544 2 0\n")
  -- the screen that is active between
  active_between : active_screen (state_of two_desks (Motion (pos 960) (pos 0) ∷ []) (join ++ Moment 0 ∷ [])) ≡ 1
  -- the active connection ends with a key down
  ends_with_a_key : log_after two_desks (Motion (pos 960) (pos 0) ∷ KeyDown 97 38 ∷ []) (Moment 0 ∷ Ended 1 ∷ []) ≡ crossed (codes "send 1 DKDN 97 0 38\npart 1 ended\nlocal enter 960 540 2 0\n")
  -- the screen that is active then
  active_after : active_screen (state_of two_desks (Motion (pos 960) (pos 0) ∷ KeyDown 97 38 ∷ []) (join ++ Moment 0 ∷ Ended 1 ∷ [])) ≡ 0
  -- a gate that waits
  waits : log_after (with_global two_desks option.SwitchDelay 250) (Motion (pos 960) (pos 0) ∷ []) (Moment 0 ∷ Moment 249 ∷ Moment 250 ∷ []) ≡ joined_with (codes "2 1397970772 250") (codes "local move 1919 540\nlocal leave\nsend 1 CINN 0 384 1 0\n")
  -- corners of 20 pixels, at the upper end
  upper_corner : (is_in_corner (record { set = 15; size = 20 }) Right 19 1080 ≡ true) × (is_in_corner (record { set = 15; size = 20 }) Right 20 1080 ≡ false)
  -- and at the lower one
  lower_corner : (is_in_corner (record { set = 15; size = 20 }) Right 1060 1080 ≡ true) × (is_in_corner (record { set = 15; size = 20 }) Right 1059 1080 ≡ false)

rows : Rows
unfolding body_verdict the_signed the_number the_list clip_of mark_of field_at built code_at read_fields text_at row_of screen_of same_name sent_of std_fmt.digits mods_below rule_for last_where down is_button_down reach keys_below buttons_below held_keys held_buttons releases meant_id meant_mask has with_own
rows = record { crosses_and_quits = refl; stays_inside = refl; upper_half = refl; lower_half = refl; below_border = refl; above_border = refl; passes_one_away = refl; walks_no_circle = refl; button_blocks = refl; crosses_back = refl; active_between = refl; ends_with_a_key = refl; active_after = refl; waits = refl; upper_corner = (refl, refl); lower_corner = (refl, refl) }
