-- The line of the script that is next.
use Rattle.std.specs.Prelude.{◌≡◌, refl, ℕ, zero, suc, ◌<◌, ◌≤◌, List, [], ◌∷◌, length, map, drop, slice_get, Some}
use Rattle.std.proofs.Common.{arith, sym, ap, ◌∙◌, subst}
use Rattle.script_screen.specs.declared.script.ScriptLine.{ScriptLine}
use Rattle.script_screen.specs.Scripts.{ScriptText}
use Rattle.machine.specs.Scripts.{Line}
use Rattle.machine.specs.States.{State}
use Rattle.machine.specs.Running.{past, does}
use Rattle.machine.specs.Slow.{part_slow}
use Rattle.server_core.specs.declared.server.ServerCore.{ServerCore}
use Rattle.server_core.specs.Lines.{line_of}
use Rattle.server_core.specs.NextLine.{run_first, run_next}
use Rattle.server_core.specs.Standing.{Beside, Stands}
use Rattle.server_core.specs.Leading.{Leads}

ahead_some : (xs : List ScriptLine) (n : ℕ) (l : ScriptLine) → slice_get xs n ≡ Some l → map line_of (drop n xs) ≡ line_of l ∷ map line_of (drop (suc n) xs)
ahead_some [] n l e = absurd (let x : ⊥ = cc in x)
ahead_some (x ∷ xs) zero l e = let is : x ≡ l = cc in ap (λ y. line_of y ∷ map line_of xs) is
ahead_some (x ∷ xs) (suc n) l e = ahead_some xs n l e

ahead_none : (xs : List ScriptLine) (n : ℕ) → length xs ≤ n → map line_of (drop n xs) ≡ []
ahead_none [] zero le = refl
ahead_none [] (suc n) le = refl
ahead_none (x ∷ xs) zero le = absurd (omega arith)
ahead_none (x ∷ xs) (suc n) le = ahead_none xs n (omega arith)

pub run-none : (core : ServerCore) → length core.script.lines ≤ core.ran → Leads core core run_next
run-none core le = λ b s h. subst (λ ls. Stands b core (run_first ls s)) (sym (ahead_none core.script.lines core.ran le) ∙ h.lines) h

found : {A : Type 0} (xs : List A) (n : ℕ) → n < length xs → (x : A) × (slice_get xs n ≡ Some x)
found [] n lt = absurd (omega arith)
found (x ∷ xs) zero lt = (x, refl)
found (x ∷ xs) (suc n) lt = found xs n (omega arith)

-- a call that passes the next line
abbrev pub Passes : ServerCore → ServerCore → Type 0
Passes old new = (b : Beside) (s : State) (l : Line) (rest : List Line) → s.lines ≡ l ∷ rest → Stands b old s → Stands b new (past rest s)

-- a call that does what the line of that index says
abbrev pub Does : ServerCore → ServerCore → ℕ → Type 0
Does old new n = (number : ℕ) (l : ScriptLine) → slice_get old.script.lines n ≡ Some l → Leads old new (does number (line_of l))

pub run-some : (old passed did new : ServerCore) → old.ran < length old.script.lines → Passes old passed → passed.script ≡ old.script → Does passed did old.ran → Leads did new part_slow → Leads old new run_next
run-some old passed did new lt passes same done slow = λ b s h.
    let l = found old.script.lines old.ran lt in
    let rest : List Line = map line_of (drop (suc old.ran) old.script.lines) in
    let e : s.lines ≡ line_of l.0 ∷ rest = sym h.lines ∙ ahead_some old.script.lines old.ran l.0 l.1 in
    let at : slice_get passed.script.lines old.ran ≡ Some l.0 = ap (λ (t : ScriptText). slice_get t.lines old.ran) same ∙ l.1 in
    subst (λ ls. Stands b new (run_first ls s)) (sym e) (slow b (does s.ran (line_of l.0) (past rest s)) (done s.ran l.0 at b (past rest s) (passes b s (line_of l.0) rest e h)))
