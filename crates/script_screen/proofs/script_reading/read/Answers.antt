use Rattle.std.proofs.Common.{subst}
use Rattle.std.specs.Prelude.{IfOk, None}
use Rattle.script_screen.specs.Screens.{KnownScreens, screen_count}
use Rattle.script_screen.specs.Scripts.{ScreensBelow}
use Rattle.script_screen.specs.Texts.{ScriptSoFar}
use Rattle.script_screen.proofs.ScriptSteps.{text_keeps}
use Rattle.script_screen.proofs.script_reading.read.Goals as goal

pub returns-in-Ok-clause-known : goal.returns-in-Ok-clause-known
returns-in-Ok-clause-known c =
    let start : ScriptSoFar =
    record { config = c.args.config.now; primary = None; lines = c.new.result.items } in
    let same = text_keeps start c.take_lines.new.draft c.args.text.now c.in-Ok.ensures.gives in
    subst (λ (k : KnownScreens). IfOk c.finish.result (ScreensBelow (screen_count k))) same
    c.finish.ensures.known
