-- The client of injection: how its calls serve a command.
use Rattle.std.proofs.Common.{◌≡◌, ℕ, List, [], ◌∷◌, ◌++◌, Option, Some, None, refl, sym, ap, subst, ◌∙◌}
use Rattle.std.specs.List.{flat_map, AllByRecursion}
use Rattle.std.specs.Option.{option_map}
use Rattle.std.proofs.lemmas.Grind.{flat_map-append}
use Rattle.std.proofs.lemmas.List.{append_cancel_left}
use Rattle.share_base.specs.Told.{after}
use Rattle.share_base.specs.Reading.{SourceState}
use Rattle.share_base.specs.Writing.{SinkState}
use Rattle.message_codec.specs.declared.messages.End.TheVariants as ends
use Rattle.message_codec.specs.declared.messages.Msg.{Msg}
use Rattle.message_reader.specs.declared.role.Role.TheVariants as role
use Rattle.message_codec.specs.Streams.{AreBytes, plain}
use Rattle.message_codec.specs.Verdicts.{Verdict}
use Rattle.message_reader.specs.Roles.{reader_of}
use Rattle.message_reader.specs.Endings.{before_end, IsFront}
use Rattle.message_reader.proofs.Endings.{before_end-front}
use Rattle.held_inputs.specs.Line.{line_of}
use Rattle.held_inputs.specs.Down.{releases}
use Rattle.client_core.specs.declared.client_end.ClientEnd.{ClientEnd}
use Rattle.client_core.specs.declared.client.ClientCore.{ClientCore}
use Rattle.client_core.specs.Ends.{stop_of, IsHeard}
use Rattle.client_core.specs.Hearing.{client, all_lines}
use Rattle.client_core.specs.Kept.{IsPartial, ClearsLines, EndsReleased, Stands, lines_in}
use Rattle.client_core.specs.Happenings as happenings
use Rattle.client_core.specs.Injecting.{injected, Grows}
use Rattle.client_core.proofs.Screens as screens
use Rattle.client_core.proofs.Injections as injections
use Rattle.client_core.proofs.ScreenRanges.{MessageFits, messages-fit, fit-all_lines}
use Rattle.share_commands.specs.declared.status.Status.{Status}
use Rattle.share_commands.specs.declared.status.Status.TheVariants as status
use Rattle.share_commands.specs.declared.commands.TheConstants.{INPUT_LIMIT}
use Rattle.share_commands.specs.Ways.{Way, injecting}
use Rattle.share_commands.specs.Endings.{status_of, printed_of}
use Rattle.share_commands.specs.Cores.{Feeds, Clears, EndsHere, EndsInput, AddsLast}
use Rattle.share_commands.specs.Commands.{counted, Writes, Reads, Balances, Releases}
use Rattle.share_commands.specs.Injecting.{Injected, done_so}
use Rattle.share_commands.proofs.InputEnds.{end_for, ends_so}
use Rattle.share_commands.proofs.Runs.{front_of_all, take-bytes}

-- a client that goes on has no end
pub goes_on : (done : Option ClientEnd) → option_map status_of done ≡ None → done ≡ None
goes_on None none = refl
goes_on (Some e) none = absurd cc

pub feeds : (core new : ClientCore) (piece : List ℕ) → Grows core new piece → Feeds Injected core new piece
feeds core new piece g w stream messages taken k =
    let (more, stands) = g.hears stream messages taken k.stands in
    (more, record { role_is = g.role ∙ k.role_is; way_is = k.way_is; stands = stands })

pub begins : (core : ClientCore) → core.done ≡ None → core.reader.role ≡ role.Observer ends.Server → Stands core happenings.injecting [] → Injected core injecting [] [] []
begins core goes is stands = record { role_is = is; way_is = refl; stands = injections.injects_first core goes is stands }

pub clears : (core new : ClientCore) → new.reader ≡ core.reader → new.done ≡ core.done → ClearsLines core new → Clears Injected core new (lines_in core)
clears core new same done cleared w stream messages taken k = record {
  role_is = ap (λ r. r.role) same ∙ k.role_is;
  way_is = k.way_is;
  stands = injections.clears core new same done cleared stream messages taken k.stands;
}

-- the stream ends
pub ends_input : (core : ClientCore) (found : Option ℕ) (end : Status) → core.done ≡ None → IsPartial core found → end ≡ end_for injecting found → EndsInput Injected core end
ends_input core found end none pending is w stream messages taken k =
    let s = k.stands in
    let v = s.verdict in
    let heard = done_so (reader_of core.reader.role) stream messages None v (subst (λ (d : Option ClientEnd). IsHeard d v messages) none s.heard) in
    subst (λ (x : Way). EndsHere x end stream messages) (sym k.way_is)
    (ends_so injecting (reader_of core.reader.role) stream messages found end (ap reader_of k.role_is) v (sym heard.0) heard.1 (pending (injected core.reader.role core.done stream messages) taken s.stands v) is)

-- ---- the last lines

last_are : (messages : List Msg) (taken lines result : List ℕ) → taken ++ lines ≡ flat_map line_of (client messages).lines → (taken ++ lines) ++ result ≡ flat_map line_of (all_lines messages) → result ≡ flat_map line_of (releases (client messages).lines)
last_are messages taken lines result shown all =
    append_cancel_left (taken ++ lines) result (flat_map line_of (releases (client messages).lines))
    (all ∙ flat_map-append line_of (client messages).lines (releases (client messages).lines) ∙ ap (λ (t : List ℕ). t ++ flat_map line_of (releases (client messages).lines)) (sym shown))

pub adds_last : (core : ClientCore) (result : List ℕ) → EndsReleased core result → AddsLast Injected core result
adds_last core result released w stream messages taken k =
    let shows = k.stands.stands.hears.shows in
    subst (λ (x : Way). result ≡ x.last messages) (sym k.way_is) (last_are messages taken (lines_in core) result shows.printed (released (injected core.reader.role core.done stream messages) taken k.stands.stands).printed)

-- ---- what was written is balanced

-- the printed messages are among the first of the verdict's, so their fields are in range
all-front : {A : Type 0} (P : A → Type 0) (xs ys : List A) → AllByRecursion P (xs ++ ys) → AllByRecursion P xs
all-front P [] ys all = tt
all-front P (x ∷ xs) ys all = (all.0, all-front P xs ys all.1)

printed_fit : (stream : List ℕ) (v : Verdict (plain injecting.sender) stream) (messages : List Msg) → AreBytes stream → IsFront messages (printed_of injecting v) → AllByRecursion MessageFits messages
printed_fit stream v messages small (more, all) =
    let (later, whole) = before_end-front stop_of v.messages in
    let good : AllByRecursion MessageFits v.messages = messages-fit (plain injecting.sender) stream v small in
    let heard = all-front MessageFits (before_end stop_of v.messages) later (subst (AllByRecursion MessageFits) whole good) in
    all-front MessageFits messages more (subst (AllByRecursion MessageFits) all heard)

balances : (messages : List Msg) (old new : SinkState) → AllByRecursion MessageFits messages → new.taken ≡ after old.taken (flat_map line_of (client messages).lines ++ flat_map line_of (releases (client messages).lines)) → Balances old new
balances messages old new fit written =
    let r = screens.released messages (flat_map line_of (all_lines messages)) refl in
    record {
      lines = all_lines messages;
      written = written ∙ ap (after old.taken) (sym (flat_map-append line_of (client messages).lines (releases (client messages).lines)));
      fits = fit-all_lines messages fit;
      balanced = r.balanced;
      leaves = r.leaves;
    }

by_end : (end : Status) (messages : List Msg) (old new : SinkState) → AllByRecursion MessageFits messages → Writes injecting end messages old new → Releases end old new
by_end status.WriteFault messages old new fit w = tt
by_end _ messages old new fit w = balances messages old new fit w

pub releases_all : (end : Status) (input input' : SourceState) (old new : SinkState) → Reads injecting end input input' old new → Releases end old new
releases_all end input input' old new r = by_end end r.messages old new (printed_fit (counted r.read) r.verdict r.messages (take-bytes INPUT_LIMIT r.read r.bytes) (front_of_all end r.messages (printed_of injecting r.verdict) r.printed)) r.writes
