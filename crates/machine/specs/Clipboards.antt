-- Clipboards: what a copy, a grab and a whole of a client do, and who is sent what.
use Rattle.std.specs.Prelude.{ℕ, ◌*◌, Bool, not, ◌&&◌, filter, List, ◌∷◌, [], map}
use Rattle.share_base.specs.declared.clip_id.ClipId.{ClipId}
use Rattle.share_base.specs.declared.clip_id.ClipId.TheVariants.{Clipboard, Selection}
use Rattle.message_codec.specs.declared.messages.Msg.TheVariants as msg
use Rattle.option_table.specs.declared.rows.OptionName.TheVariants as option
use Rattle.option_table.specs.Settings.{standing}
use Rattle.held_inputs.specs.declared.line.Line.TheVariants as line
use Rattle.screen_config.specs.Globals.{flag}
use Rattle.clip_chunks.specs.Parts.{message_of}
use Rattle.clip_chunks.specs.Sending.{parts_of}
use Rattle.clip_chunks.specs.Clips.{Clip, clip_of, with_clip}
use Rattle.clip_chunks.specs.Rules as rules
use Rattle.machine.specs.Targets.{Target, Primary, Client, Own, same_target}
use Rattle.machine.specs.States.{State, Local}
use Rattle.machine.specs.Combining.{when, for_some, unchanged}
use Rattle.machine.specs.Screens.{screen_of, joined_screens, joined_clients}
use Rattle.machine.specs.Routing.{route_all, route_each, logs}

abbrev pub clip : State → ClipId → Clip
clip s id = clip_of id s.clips

abbrev pub set_clip : ClipId → Clip → State → State
set_clip id c s = record s { clips = with_clip id c s.clips }

abbrev pub is_sharing : State → Bool
is_sharing s = flag s.config.settings option.ClipboardSharing

-- in bytes
abbrev pub clip_limit : State → ℕ
clip_limit s = standing s.config.settings option.ClipboardSharingSize * 1024

-- ---- sending one

-- the primary prints it whole, a client is sent its parts with sequence 0
abbrev pub give : ClipId → List ℕ → Target → State → State
give id bytes Primary s = logs (Local (line.Clip id bytes) ∷ []) s
give id bytes (Client serial) s =
    route_each Own (Client serial) (map message_of (parts_of id 0 bytes)) s

-- the active screen, where it is dirty, is sent the known bytes, and is clean
abbrev pub refresh : ClipId → State → State
refresh id s =
    for_some (rules.given (screen_of s s.active) (clip s id))
    (λ bytes t. give id bytes t.active
    (set_clip id (rules.entered (screen_of t t.active) (clip t id)) t)) unchanged s

abbrev pub refresh_both : State → State
refresh_both s = refresh Selection (refresh Clipboard s)

-- ---- what becomes of them

-- its bytes are known, and the active screen is sent them at once
abbrev pub become_known : ClipId → ℕ → ℕ → List ℕ → State → State
become_known id owner seq bytes s =
    refresh id (set_clip id (rules.known owner seq bytes (joined_screens s)) s)

-- every joined client hears of the script's copy before that
abbrev pub publish : ClipId → List ℕ → State → State
publish id bytes s =
    become_known id s.primary s.sequence bytes (route_all Own (joined_clients s) (msg.Grab id 0) s)

abbrev pub copy : ClipId → List ℕ → State → State
copy id bytes s = when (is_sharing s && rules.copy_counts (clip_limit s) bytes) (publish id bytes) s

-- the primary and every other joined client
abbrev pub all_but : ℕ → State → List Target
all_but serial s = Primary ∷ filter (λ t. not (same_target t (Client serial))) (joined_clients s)

-- a client takes a clipboard, and all others hear of it
abbrev pub take_over : ClipId → ℕ → ℕ → State → State
take_over id serial seq s =
    route_all Own (all_but serial s) (msg.Grab id 0)
    (set_clip id (rules.unknown (screen_of s (Client serial)) seq) s)

abbrev pub grab : ClipId → ℕ → ℕ → State → State
grab id serial seq s =
    when (is_sharing s && rules.grab_counts seq s.sequence (clip s id)) (take_over id serial seq) s

-- a whole clipboard came from its owner
abbrev pub whole : ClipId → ℕ → ℕ → List ℕ → State → State
whole id serial seq bytes s =
    when (is_sharing s && rules.whole_counts (screen_of s (Client serial)) seq s.sequence
    (clip s id)) (become_known id (screen_of s (Client serial)) seq bytes) s

-- ---- who joins and who leaves

abbrev pub each_clip : (Clip → Clip) → State → State
each_clip f s =
    record s { clips = record { clipboard = f s.clips.clipboard; selection = f s.clips.selection } }

abbrev pub clips_joined : ℕ → State → State
clips_joined screen s = each_clip (rules.joined screen) s

abbrev pub clips_left : ℕ → State → State
clips_left screen s = each_clip (rules.left s.primary screen) s
