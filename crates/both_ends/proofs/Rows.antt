-- Worked examples.
use Rattle.std.specs.Prelude.{◌≡◌, refl, true, false, pos, [], ◌∷◌, None}
use Rattle.share_base.specs.declared.clip_id.ClipId.TheVariants.{Clipboard}
use Rattle.share_base.specs.declared.reason.Reason.TheVariants as reason
use Rattle.message_codec.specs.declared.messages.Msg.TheVariants as msg
use Rattle.held_inputs.specs.declared.line.Line.TheVariants as line
use Rattle.held_inputs.specs.Screen.{meant_id, meant_mask}
use Rattle.held_inputs.specs.Down.{down, is_button_down, last_where, held_keys, keys_below, reach}
use Rattle.client_core.specs.declared.client_end.ClientEnd.TheVariants as end
use Rattle.client_core.specs.declared.client_end.LostCause.TheVariants as lost
use Rattle.client_core.specs.Happenings.{Got, Moment, Took, Ended}
use Rattle.both_ends.specs.Greetings.{may_follow}
use Rattle.both_ends.specs.Feeding.{fed_by, is_bad_peer, blames}
use Rattle.both_ends.specs.Inputs.{inputs, mapped_screen}

-- ---- what may follow a greeting

no_greeting_again : may_follow (msg.Hello 1 6) ≡ false
no_greeting_again = refl

no_answer : may_follow (msg.HelloBack 1 6 (112 ∷ 97 ∷ 100 ∷ [])) ≡ false
no_answer = refl

no_information : may_follow (msg.Info (pos 0) (pos 0) 1024 768 0 (pos 512) (pos 384)) ≡ false
no_information = refl

a_question : may_follow msg.QueryInfo ≡ true
a_question = refl

a_beat : may_follow msg.Alive ≡ true
a_beat = refl

a_refusal : may_follow msg.Busy ≡ true
a_refusal = refl

-- ---- what a client is fed

pieces : fed_by (Got (83 ∷ []) ∷ Moment 5 ∷ Got [] ∷ Took 3 ∷ Got (121 ∷ 110 ∷ []) ∷ []) ≡ 83 ∷ 121 ∷ 110 ∷ []
pieces = refl

blamed : blames (Ended (end.BadPeer 0 reason.Cut)) ≡ true
blamed = refl

not_blamed : blames (Ended (end.Lost lost.Ended)) ≡ false
not_blamed = refl

goes_on : is_bad_peer None ≡ false
goes_on = refl

-- ---- keys and buttons

of_inputs : inputs (line.Enter (pos 5) (pos 6) 1 0 ∷ line.KeyDown 97 38 0 ∷ line.Clip Clipboard (104 ∷ []) ∷ line.ButtonUp 1 ∷ line.Leave ∷ []) ≡ line.KeyDown 97 38 0 ∷ line.ButtonUp 1 ∷ []
of_inputs = refl

-- with Shift as Control (`MMFS` 2), the left shift key goes down as the left control key, in a mask of Control; after a
-- reset it goes down as itself
swapped : (mapped_screen (msg.SetOptions (1296909907 ∷ 2 ∷ []) ∷ msg.KeyDown 0xefe1 1 50 ∷ msg.KeyUp 0xefe1 0 50 ∷ msg.ResetOptions ∷ msg.KeyDown 0xefe1 1 50 ∷ [])).lines
    ≡ line.KeyDown 0xefe3 50 2 ∷ line.KeyUp 0xefe3 50 ∷ line.KeyDown 0xefe1 50 1 ∷ []
unfolding meant_id meant_mask down is_button_down last_where held_keys keys_below reach
swapped = refl
