use Rattle.std.proofs.Common.{◌≡◌, List, [], ◌∷◌, ◌++◌, ap, sym, ◌∙◌, subst}
use Rattle.std.specs.Prelude.{None}
use Rattle.script_screen.specs.declared.script.ScriptLine.{ScriptLine}
use Rattle.script_screen.specs.Scripts.{script_fault, NamesBelow}
use Rattle.script_screen.specs.Screens.{screen_count}
use Rattle.script_screen.specs.Texts.{ScriptSoFar}
use Rattle.script_screen.specs.Holding.{IsScriptedBy}
use Rattle.script_screen.proofs.ScriptSteps.{scripted_more}
use Rattle.script_screen.proofs.script_reading.ScriptDraft.add_line.Goals as goal

pub invariant_of-self-2 : goal.invariant_of-self-2
invariant_of-self-2 c =
    let lines = c.self.inside.lines.items in
    let items : c.push_reserved.new.self.items ≡ lines ++ c.args.line ∷ [] =
    c.push_reserved.ensures.items
    ∙ ap (λ (xs : List ScriptLine). xs ++ c.args.line ∷ []) c.reserve.ensures.items in
    let good : script_fault lines c.args.line ≡ None =
    sym (c.fault.ensures lines c.self.invariant.held_is) ∙ c.in_default.is in
    let far : ScriptSoFar =
    record { config = c.self.inside.config.now; primary = c.self.inside.primary; lines = lines }
    in
    subst
    (λ (xs : List ScriptLine).
    IsScriptedBy c.follow.new.self
    (record {
      config = c.self.inside.config.now;
      primary = c.self.inside.primary;
      lines = xs;
    }))
    (sym items)
    (scripted_more c.self.inside.held c.follow.new.self far c.args.line c.self.invariant
    c.requires.sound
    (subst (λ (s : ScriptSoFar). NamesBelow (screen_count s.config) c.args.line)
    (sym c.self.view_is) c.requires.known)
    good
    (c.follow.ensures lines c.self.invariant.held_is))
