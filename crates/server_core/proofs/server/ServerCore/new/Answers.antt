use Rattle.std.specs.Prelude.{◌≡◌, refl, [], ◌*◌, map}
use Rattle.std.proofs.Common.{sym, ap, ◌∙◌, subst}
use Rattle.share_base.specs.declared.numbers.ScreenNo.{ScreenNo}
use Rattle.screen_config.specs.declared.globals.Globals.{Globals}
use Rattle.clip_chunks.specs.Books as books
use Rattle.clip_chunks.specs.Rules.{first_clips}
use Rattle.machine.specs.Acceptance.{start}
use Rattle.machine.specs.Screens.{middle}
use Rattle.connection_table.specs.Standing.{AreFor}
use Rattle.script_screen.specs.Scripts.{ScriptText}
use Rattle.screen_crossing.specs.Points.{point_of}
use Rattle.server_core.specs.Lines.{line_of}
use Rattle.server_core.specs.Scripts.{script_of}
use Rattle.server_core.specs.Standing.{nothing_told, around}
use Rattle.server_core.specs.Promises.{IsStart, origin}
use Rattle.server_core.proofs.Promised.{has-script-buttons, runs-first}
use Rattle.server_core.proofs.server.ServerCore.new.Goals as goal

pub returns-clause-stands : goal.returns-clause-stands
returns-clause-stands c =
    let shape = c.first_shape-shape.ensures.shape in
    let of : c.primary-screen.result.0 ≡ c.args.script.primary.screen.0 = ap (λ (n : ScreenNo). n.0) c.primary-screen.ensures in
    record {
      config = refl;
      primary = ap (λ (t : ScriptText). t.primary.screen.0) c.new-script.ensures;
      primary_shape = c.new-primary_shape.ensures ∙ shape;
      lines = ap (λ (t : ScriptText). map line_of t.lines) c.new-script.ensures;
      ran = refl;
      sleeps_until = refl;
      has_quit = refl;
      at = c.new-at.ensures;
      connections = subst (λ ks. AreFor (around nothing_told (start c.args.config (script_of c.args.script) c.args.now)) ks []) (sym c.new-table.ensures) tt;
      active = refl;
      there = tt;
      cursor = ap point_of c.new-cursor.ensures ∙ c.middle-point.ensures.value ∙ ap middle shape;
      sequence = refl;
      is_locked = refl;
      gate = c.new-gate.ensures;
      pressed = c.new-pressed.ensures;
      clips = subst (λ n. books.StandsAt c.new-clips.result (first_clips n)) of c.new-clips.ensures.stands;
      clips_of = ap (λ (n : ScreenNo). n.0) c.new-clips.ensures.primary ∙ of;
      clips_limit = c.new-clips.ensures.limit ∙ ap (λ (g : Globals). g.clipboard_sharing_size * 1024) c.globals-limit.ensures.values;
      told = c.new-primary.ensures;
      log = c.new-log.ensures;
    }

pub returns-clause-runs : goal.returns-clause-runs
returns-clause-runs c =
    let begins : IsStart (origin c.args.config c.args.script c.args.now) = record { config = c.assure_sound.ensures; script = has-script-buttons c.args.script c.w-width.ensures.sound } in
    runs-first (origin c.args.config c.args.script c.args.now) _ begins (returns-clause-stands c)
