-- What happens to a client, and what it is after a list of happenings.
use Rattle.std.specs.Prelude.{ℕ, List, [], ◌++◌, take, fold, Option, Some, None, unwrap_or, if◌then◌else◌}
use Rattle.std.specs.Option.{option_map}
use Rattle.message_codec.specs.declared.messages.End.TheVariants as ends
use Rattle.message_reader.specs.declared.role.Role.TheVariants as role
use Rattle.script_screen.specs.declared.client_script.ClientLine.{ClientLine}
use Rattle.held_inputs.specs.declared.line.Line.{Line}
use Rattle.client_talk.specs.Talks.{Talk, begun, told, is_dead}
use Rattle.client_talk.specs.Talks as talks
use Rattle.client_talk.specs.Scripts.{run_script, never}
use Rattle.client_talk.specs.Scripts as scripts
use Rattle.client_core.specs.declared.client_end.ClientEnd.{ClientEnd}
use Rattle.client_core.specs.declared.client_end.ClientEnd.TheVariants as end
use Rattle.client_core.specs.declared.client_end.LostCause.TheVariants as lost
use Rattle.client_core.specs.Clipboards.{TellWholes}
use Rattle.client_core.specs.Hearing.{client}
use Rattle.client_core.specs.Clients.{Client, while_going, slow_end, got}

-- ---- the first client

-- it reads the messages of a server wherever they stand, and says nothing
abbrev pub injecting : Client
injecting =
    record {
      role = role.Observer ends.Server;
      received = [];
      heard = [];
      shown = [];
      talk = None;
      taken = [];
      done = None;
    }

-- it joins, with a screen of that name and size, and that script
abbrev pub joining : List ℕ → (w h : ℕ) → List ClientLine → (now : ℕ) → Client
joining name w h lines now =
    record {
      role = role.Client;
      received = [];
      heard = [];
      shown = [];
      talk = Some (begun name w h lines now);
      taken = [];
      done = None;
    }

-- ---- what is read off it

abbrev pub lines : Client → List Line
lines c = (client c.shown).lines

abbrev pub untaken_of : Option Talk → List ℕ
untaken_of None = []
untaken_of (Some t) = t.untaken.bytes

abbrev pub untaken : Client → List ℕ
untaken c = untaken_of c.talk

abbrev pub sent : Client → List ℕ
sent c = c.taken ++ untaken c

abbrev pub moment_of : Option Talk → ℕ
moment_of None = 0
moment_of (Some t) = t.at

-- nothing is due of a client that is done, or that injects
abbrev pub due_of : Option ClientEnd → Option Talk → ℕ
due_of None (Some t) = scripts.due t
due_of finish talk = never

-- ---- happenings

pub data Happening : Type 0 where
  Got : (piece : List ℕ) → Happening
  Moment : (moment : ℕ) → Happening
  Took : (count : ℕ) → Happening
  Ended : (why : ClientEnd) → Happening

-- the death is looked at before the script
abbrev pub waited : Talk → Talk
waited t = if is_dead t then t else run_script t

abbrev pub end_of_wait : Talk → Option ClientEnd
end_of_wait t = if is_dead t then Some (end.Lost lost.Dead) else slow_end (Some (run_script t))

-- no moment counts for one that injects
abbrev pub tells : Option Talk → ℕ → Client → Client
tells None moment c = c
tells (Some t) moment c =
    record c { talk = Some (waited (told moment t)); done = end_of_wait (told moment t) }

abbrev pub passes : ℕ → Client → Client
passes moment c = while_going c.done (tells c.talk moment) c

abbrev pub took : ℕ → Client → Client
took count c =
    record c {
      taken = c.taken ++ take count (untaken c);
      talk = option_map (talks.took count) c.talk;
    }

-- an end that it has stays
abbrev pub ended : ClientEnd → Client → Client
ended why c = record c { done = Some (unwrap_or c.done why) }

abbrev pub step : Client → Happening → Client
step c (Got piece) = got piece c
step c (Moment moment) = passes moment c
step c (Took count) = took count c
step c (Ended why) = ended why c

-- its lines tell the bytes of the whole clipboards among the messages that it heard, and of no
-- others
abbrev pub TellsWholes : Client → Type 0
TellsWholes c = TellWholes (lines c) c.heard

-- the oldest first
abbrev pub run : Client → List Happening → Client
run c happenings = fold step c happenings
