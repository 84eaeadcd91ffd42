-- The client of injection as the core of a command.
use Rattle.std.specs.Prelude.{◌≡◌, ℕ, List, Option, Some, None}
use Rattle.std.specs.Option.{option_map}
use Rattle.std.proofs.Common.{ap, subst, sym, ◌∙◌, refl}
use Rattle.message_codec.specs.declared.messages.End.TheVariants as ends
use Rattle.message_codec.specs.declared.messages.Msg.{Msg}
use Rattle.message_codec.specs.Streams.{Reader, plain}
use Rattle.message_codec.specs.Verdicts.{Verdict}
use Rattle.message_reader.specs.declared.role.Role.TheVariants as role
use Rattle.message_reader.specs.Roles.{reader_of}
use Rattle.message_reader.specs.Endings.{Outcome, outcome}
use Rattle.client_core.specs.declared.client_end.ClientEnd.{ClientEnd}
use Rattle.client_core.specs.declared.client_end.ClientEnd.TheVariants as end
use Rattle.client_core.specs.declared.client.ClientCore.{ClientCore}
use Rattle.client_core.specs.declared.stop.Stop.{Stop}
use Rattle.client_core.specs.Ends.{stop_of, end_by, IsHeard}
use Rattle.client_core.specs.Kept.{lines_in}
use Rattle.client_core.specs.Injecting.{Injects}
use Rattle.share_commands.specs.Ways.{Way, injecting}
use Rattle.share_commands.specs.Endings.{status_of, status_by}
use Rattle.share_commands.specs.Cores.{IsDone, Prints, Keeps}

-- the client reads a server's messages wherever they stand, and heard these
pub record Injected (core : ClientCore) (w : Way) (stream : List ℕ) (messages : List Msg)
    (taken : List ℕ) : Type 0 where
  pub role_is : core.reader.role ≡ role.Observer ends.Server
  pub way_is : w ≡ injecting
  pub stands : Injects core stream messages taken

-- ---- what it keeps is what a command wants to know

status_map : (o : Option (Outcome Stop))
    → option_map status_of (option_map end_by o) ≡ option_map status_by o
status_map None = refl
status_map (Some to) = refl

pub done_so : (reader : Reader) (stream : List ℕ) (messages : List Msg) (done : Option ClientEnd)
    (v : Verdict reader stream) → IsHeard done v messages
    → IsDone injecting (option_map status_of done) v messages
done_so reader stream messages None v h =
    (ap (option_map status_of) h.0 ∙ status_map (outcome stop_of v), h.1)
done_so reader stream messages (Some end.OutOfMemory) v h = h
done_so reader stream messages (Some e) v h =
    (ap (option_map status_of) h.0 ∙ status_map (outcome stop_of v), h.1)

pub injected_keeps : (core : ClientCore) (w : Way) (stream : List ℕ) (messages : List Msg)
    (taken : List ℕ) → Injected core w stream messages taken
    → Keeps w (lines_in core) (option_map status_of core.done) core.reader.total stream messages
    taken
injected_keeps core w stream messages taken k =
    let done = option_map status_of core.done in
    let found : Prints injecting (reader_of core.reader.role) (lines_in core) done stream messages
    taken = record {
      verdict = k.stands.verdict;
      ended = done_so (reader_of core.reader.role) stream messages core.done k.stands.verdict
          k.stands.heard;
      lines_are = k.stands.stands.hears.shows.printed;
    } in
    let prints : Prints injecting (plain ends.Server) (lines_in core) done stream messages
    taken = subst
    (λ (r : Reader). Prints injecting r (lines_in core) done stream messages taken)
    (ap reader_of k.role_is) found in
    let keeps : Keeps injecting (lines_in core) done core.reader.total stream messages
    taken = record { prints = prints; total_is = k.stands.stands.total } in
    subst (λ (v : Way). Keeps v (lines_in core) done core.reader.total stream messages taken)
    (sym k.way_is) keeps
