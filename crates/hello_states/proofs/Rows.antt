-- The definitions of the handshake at worked rows, by computation.
use Rattle.std.proofs.Common.{◌≡◌, ℕ, pos, negsuc, Bool, true, false, ◌==◌, codes, Some, None, refl}
use Rattle.std.specs.Fmt as decimals
use Rattle.share_base.specs.declared.reason.Reason.TheVariants as reason
use Rattle.hello_states.specs.declared.part_cause.PartCause.TheVariants as cause
use Rattle.hello_states.specs.Causes.{cause_text}
use Rattle.hello_states.specs.Phases.{Joined, Parting, is_silent, closing_time}
use Rattle.hello_states.specs.Handshake.{Refused, Admitted, hello_answer, greeting_at}
use Rattle.hello_states.specs.Handshake.{shape_of_info, asked_after_info}

-- screen 1 is used, and no other
abbrev second : ℕ → Bool
second screen = screen == 1

later_minor : hello_answer 1 7 (Some 0) second ≡ Refused cause.Version
later_minor = refl

later_major : hello_answer 2 6 (Some 0) second ≡ Refused cause.Version
later_major = refl

-- the version is looked at first
unknown_by_old_version : hello_answer 1 0 None second ≡ Refused cause.Version
unknown_by_old_version = refl

no_screen : hello_answer 1 6 None second ≡ Refused cause.Unknown
no_screen = refl

used : hello_answer 1 6 (Some 1) second ≡ Refused cause.Busy
used = refl

free : hello_answer 1 6 (Some 0) second ≡ Admitted 0
free = refl

-- a screen of 1024 x 768 joins at 70, with a keep-alive of 3000
joins : asked_after_info (shape_of_info (pos 0) (pos 0) 1024 768) 70
    (record { screen = 1; accepted = 40; rate = 3000 })
    ≡ Joined
    (record {
      screen = 1;
      shape = record { x = pos 0; y = pos 0; w = pos 1024; h = pos 768 };
      alive = record { sent = 70; heard = 70; rate = 3000 };
    })
joins = refl

no_width : asked_after_info (shape_of_info (pos 0) (pos 0) 0 768) 70
    (record { screen = 1; accepted = 40; rate = 3000 })
    ≡ Parting cause.Size 70
no_width = refl

last_column : shape_of_info (pos 1) (negsuc 32767) 32767 32767
    ≡ Some (record { x = pos 1; y = negsuc 32767; w = pos 32767; h = pos 32767 })
last_column = refl

past_last_column : shape_of_info (pos 2) (pos 0) 32767 1 ≡ None
past_last_column = refl

-- a handshake has 30 seconds, and a parting 5
silent_in_time : is_silent (greeting_at 0) 29999 ≡ false
silent_in_time = refl

silent : is_silent (greeting_at 0) 30000 ≡ true
silent = refl

closes : closing_time ≡ 5000
closes = refl

bad_frame : cause_text (cause.Bad 44 reason.TooLong) ≡ codes "bad 44 toolong"
unfolding decimals.digits
bad_frame = refl

word : cause_text cause.Version ≡ codes "version"
word = refl
