-- How the script of a client runs, and when something of the client is due.
use Rattle.std.specs.Prelude.{◌≡◌, ℕ, ◌+◌, ◌<◌, min, Bool, true, false, not, ◌&&◌, nat_le, List, [], ◌∷◌, ◌++◌, length, drop, fold, Option, Some, None, if◌then◌else◌}
use Rattle.std.specs.Option.{option_to_list}
use Rattle.keepalive_clock.specs.KeepAlive.{death_of}
use Rattle.message_codec.specs.declared.messages.Msg.TheVariants as msg
use Rattle.script_screen.specs.declared.client_script.ClientLine.{ClientLine}
use Rattle.script_screen.specs.declared.client_script.ClientLine.TheVariants as line
use Rattle.client_talk.specs.Talks.{Talk, sends, is_slow, keeps_copy}
use Rattle.client_talk.specs.Answers.{information}

-- ---- which line may run

abbrev pub is_awake_at : ℕ → Option ℕ → Bool
is_awake_at at None = true
is_awake_at at (Some end) = nat_le end at

-- the server took the screen once, no frame was left out, and no sleep holds the script
abbrev pub may_run : Talk → Bool
may_run t = t.is_joined && not (is_slow t) && is_awake_at t.at t.sleeps_until

-- ---- what a line does

abbrev pub resized : (w h : ℕ) → Talk → Talk
resized w h t = record t { w = w; h = h; is_resized = true }

-- a copy takes the clipboard with the sequence of the latest entering, and is sent later
abbrev pub does : ClientLine → Talk → Talk
does (line.Sleep ms) t = record t { sleeps_until = Some (t.at + ms) }
does (line.Copy clip bytes) t = sends (msg.Grab clip t.entered) (keeps_copy clip bytes t)
does (line.Resize w h) t = sends (information w h) (resized w h t)

abbrev pub past : List ClientLine → Talk → Talk
past ahead t = record t { lines = ahead; sleeps_until = None }

-- the next line is no longer ahead
abbrev pub past_one : Talk → Talk
past_one t = past (drop 1 t.lines) t

-- lines run one after another while they may
abbrev pub run_ahead : List ClientLine → Talk → Talk
run_ahead [] t = t
run_ahead (l ∷ ahead) t = if may_run t then run_ahead ahead (does l (past ahead t)) else t

abbrev pub run_script : Talk → Talk
run_script t = run_ahead t.lines t

-- ---- what is due

-- the end of a sleep that holds the script
abbrev pub sleep_due_at : ℕ → Option ℕ → Option ℕ
sleep_due_at at None = None
sleep_due_at at (Some end) = if nat_le end at then None else Some end

-- its own moment, where a line may run
abbrev pub line_due_of : Talk → List ClientLine → Option ℕ
line_due_of t [] = None
line_due_of t (l ∷ ahead) = if may_run t then Some t.at else None

-- the moment at which nothing is due
abbrev pub never : ℕ
never = 18446744073709551615

-- the least of the server's death and these two
abbrev pub due : Talk → ℕ
due t =
    fold min never
    (option_to_list (death_of t.alive) ++ option_to_list (sleep_due_at t.at t.sleeps_until)
    ++ option_to_list (line_due_of t t.lines))

-- ---- running on

-- where the next line ran, the same lines are to run as before; where it did not, none is
abbrev pub RunsNext : Talk → Talk → Bool → Type 0
RunsNext old new true = (run_script new ≡ run_script old) × (length new.lines < length old.lines)
RunsNext old new false = (new ≡ old) × (run_script old ≡ old)
