use Rattle.std.specs.Prelude.{◌≡◌, ℕ, ◌≤◌, List, ◌++◌}
use Rattle.std.proofs.Common.{arith, rules, sym, ap, ◌∙◌, subst, w16, FitsSigned}
use Rattle.script_screen.specs.declared.script.ScriptLine.{ScriptLine}
use Rattle.script_screen.specs.Scripts.{IsScriptLine}
use Rattle.machine.specs.Events.{motion}
use Rattle.machine.specs.Scripts as machine
use Rattle.machine.specs.Running.{does}
use Rattle.server_core.specs.Lines.{line_of}
use Rattle.server_core.specs.Standing.{Stands}
use Rattle.server_core.proofs.Coordinates.{as_passed}
use Rattle.server_core.proofs.ScriptLines.{line-read, line-sound}
use Rattle.server_core.proofs.server.ServerCore.does.Goals as goal

pub key_down-requires : goal.key_down-requires
key_down-requires c =
    let numbers : IsScriptLine c.index-lines-index.result = line-sound c.args.self.now.script c.lines.result.now c.args.index c.index-lines-index.result c.lines.ensures.sound c.lines.ensures.lines c.requires c.index-lines-index.is in
    let le : c.in-KeyDown.button.0 ≤ 255 = (subst IsScriptLine c.in-KeyDown.is numbers).2 in
    omega (arith, le)

pub key_repeat-requires : goal.key_repeat-requires
key_repeat-requires c =
    let numbers : IsScriptLine c.index-lines-index.result = line-sound c.args.self.now.script c.lines.result.now c.args.index c.index-lines-index.result c.lines.ensures.sound c.lines.ensures.lines c.requires c.index-lines-index.is in
    let le : c.in-KeyRepeat.button.0 ≤ 255 = (subst IsScriptLine c.in-KeyRepeat.is numbers).2 in
    omega (arith, le)

pub key_up-requires : goal.key_up-requires
key_up-requires c =
    let numbers : IsScriptLine c.index-lines-index.result = line-sound c.args.self.now.script c.lines.result.now c.args.index c.index-lines-index.result c.lines.ensures.sound c.lines.ensures.lines c.requires c.index-lines-index.is in
    let le : c.in-KeyUp.button.0 ≤ 255 = (subst IsScriptLine c.in-KeyUp.is numbers).1 in
    omega (arith, le)

pub returns-in-Sleep : goal.returns-in-Sleep
returns-in-Sleep c = λ number l e b s h. subst (λ (x : ScriptLine). Stands b c.sleep.new.self (does number (line_of x) s)) (sym c.in-Sleep.is ∙ line-read c.args.self.now.script.lines c.lines.result.now c.args.index c.index-lines-index.result l c.lines.ensures.lines c.requires c.index-lines-index.is e) (c.sleep.ensures number b s h)

pub returns-in-Await : goal.returns-in-Await
returns-in-Await c = λ number l e b s h. subst (λ (x : ScriptLine). Stands b c.args.self.now (does number (line_of x) s)) (sym c.in-Await.is ∙ line-read c.args.self.now.script.lines c.lines.result.now c.args.index c.index-lines-index.result l c.lines.ensures.lines c.requires c.index-lines-index.is e) (h)

pub returns-in_ok-key_down-in-KeyDown : goal.returns-in_ok-key_down-in-KeyDown
returns-in_ok-key_down-in-KeyDown c = λ number l e b s h. subst (λ (x : ScriptLine). Stands b c.key_down.new.self (does number (line_of x) s)) (sym c.in-KeyDown.is ∙ line-read c.args.self.now.script.lines c.lines.result.now c.args.index c.index-lines-index.result l c.lines.ensures.lines c.requires c.index-lines-index.is e) (c.in_ok-key_down-in-KeyDown.ensures number b s h)

pub returns-in_ok-key_repeat-in-KeyRepeat : goal.returns-in_ok-key_repeat-in-KeyRepeat
returns-in_ok-key_repeat-in-KeyRepeat c = λ number l e b s h. subst (λ (x : ScriptLine). Stands b c.key_repeat.new.self (does number (line_of x) s)) (sym c.in-KeyRepeat.is ∙ line-read c.args.self.now.script.lines c.lines.result.now c.args.index c.index-lines-index.result l c.lines.ensures.lines c.requires c.index-lines-index.is e) (c.in_ok-key_repeat-in-KeyRepeat.ensures number b s h)

pub returns-in_ok-key_up-in-KeyUp : goal.returns-in_ok-key_up-in-KeyUp
returns-in_ok-key_up-in-KeyUp c = λ number l e b s h. subst (λ (x : ScriptLine). Stands b c.key_up.new.self (does number (line_of x) s)) (sym c.in-KeyUp.is ∙ line-read c.args.self.now.script.lines c.lines.result.now c.args.index c.index-lines-index.result l c.lines.ensures.lines c.requires c.index-lines-index.is e) (c.in_ok-key_up-in-KeyUp.ensures number b s h)

pub returns-in_ok-button_down-in-ButtonDown : goal.returns-in_ok-button_down-in-ButtonDown
returns-in_ok-button_down-in-ButtonDown c = λ number l e b s h. subst (λ (x : ScriptLine). Stands b c.button_down.new.self (does number (line_of x) s)) (sym c.in-ButtonDown.is ∙ line-read c.args.self.now.script.lines c.lines.result.now c.args.index c.index-lines-index.result l c.lines.ensures.lines c.requires c.index-lines-index.is e) (c.in_ok-button_down-in-ButtonDown.ensures number b s h)

pub returns-in_ok-button_up-in-ButtonUp : goal.returns-in_ok-button_up-in-ButtonUp
returns-in_ok-button_up-in-ButtonUp c = λ number l e b s h. subst (λ (x : ScriptLine). Stands b c.button_up.new.self (does number (line_of x) s)) (sym c.in-ButtonUp.is ∙ line-read c.args.self.now.script.lines c.lines.result.now c.args.index c.index-lines-index.result l c.lines.ensures.lines c.requires c.index-lines-index.is e) (c.in_ok-button_up-in-ButtonUp.ensures number b s h)

pub returns-in_ok-motion-in-Motion : goal.returns-in_ok-motion-in-Motion
returns-in_ok-motion-in-Motion c =
    let x_fits : FitsSigned w16 c.in-Motion.dx = search rules in
    let y_fits : FitsSigned w16 c.in-Motion.dy = search rules in
    λ number l e b s h. subst (λ (x : ScriptLine). Stands b c.motion.new.self (does number (line_of x) s)) (sym c.in-Motion.is ∙ line-read c.args.self.now.script.lines c.lines.result.now c.args.index c.index-lines-index.result l c.lines.ensures.lines c.requires c.index-lines-index.is e) (as_passed (λ x y. Stands b c.motion.new.self (motion number x y s)) c.in-Motion.dx c.in-Motion.dy x_fits y_fits (c.in_ok-motion-in-Motion.ensures number b s h))

pub returns-in_ok-wheel-in-Wheel : goal.returns-in_ok-wheel-in-Wheel
returns-in_ok-wheel-in-Wheel c =
    let x_fits : FitsSigned w16 c.in-Wheel.x = search rules in
    let y_fits : FitsSigned w16 c.in-Wheel.y = search rules in
    λ number l e b s h. subst (λ (x : ScriptLine). Stands b c.wheel.new.self (does number (line_of x) s)) (sym c.in-Wheel.is ∙ line-read c.args.self.now.script.lines c.lines.result.now c.args.index c.index-lines-index.result l c.lines.ensures.lines c.requires c.index-lines-index.is e) (as_passed (λ x y. Stands b c.wheel.new.self (does number (machine.Wheel x y) s)) c.in-Wheel.x c.in-Wheel.y x_fits y_fits (c.in_ok-wheel-in-Wheel.ensures number b s h))

pub returns-in_ok-save-in-Saver : goal.returns-in_ok-save-in-Saver
returns-in_ok-save-in-Saver c = λ number l e b s h. subst (λ (x : ScriptLine). Stands b c.save.new.self (does number (line_of x) s)) (sym c.in-Saver.is ∙ line-read c.args.self.now.script.lines c.lines.result.now c.args.index c.index-lines-index.result l c.lines.ensures.lines c.requires c.index-lines-index.is e) (c.in_ok-save-in-Saver.ensures b s h)

pub returns-in_ok-copy-in-Copy : goal.returns-in_ok-copy-in-Copy
returns-in_ok-copy-in-Copy c =
    let same : c.as_slice-in-Copy.result.now ≡ c.in-Copy.bytes = c.as_slice-in-Copy.ensures ∙ (c.in_ok-extend-in-Copy.ensures.ok ∙ (ap (λ (xs : List ℕ). xs ++ c.as_slice.result.now) c.new-copy.ensures ∙ c.as_slice.ensures)) in
    λ number l e b s h. subst (λ (x : ScriptLine). Stands b c.copy-in-Copy.new.self (does number (line_of x) s)) (sym c.in-Copy.is ∙ line-read c.args.self.now.script.lines c.lines.result.now c.args.index c.index-lines-index.result l c.lines.ensures.lines c.requires c.index-lines-index.is e) (subst (λ (xs : List ℕ). Stands b c.copy-in-Copy.new.self (does number (machine.Copy c.in-Copy.clip xs) s)) same (c.in_ok-copy-in-Copy.ensures b s h))

pub returns-in_ok-quit-in-Quit : goal.returns-in_ok-quit-in-Quit
returns-in_ok-quit-in-Quit c = λ number l e b s h. subst (λ (x : ScriptLine). Stands b c.quit.new.self (does number (line_of x) s)) (sym c.in-Quit.is ∙ line-read c.args.self.now.script.lines c.lines.result.now c.args.index c.index-lines-index.result l c.lines.ensures.lines c.requires c.index-lines-index.is e) (c.in_ok-quit-in-Quit.ensures b s h)
