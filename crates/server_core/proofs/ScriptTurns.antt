-- Lines of the script that are run one after another.
use Rattle.std.specs.Prelude.{◌≡◌, refl, ℕ, zero, suc, ◌+◌, ◌≤◌, Bool, true, false, List, [], ◌∷◌, length, map, drop}
use Rattle.std.proofs.Common.{arith, sym, ap, ◌∙◌, subst, add-one}
use Rattle.machine.specs.Scripts.{Line}
use Rattle.machine.specs.States.{State}
use Rattle.machine.specs.Combining.{choose, unchanged}
use Rattle.machine.specs.Running.{past, may_run, does, run_line, run_ahead, run_script}
use Rattle.server_core.specs.declared.server.ServerCore.{ServerCore}
use Rattle.server_core.specs.Lines.{line_of}
use Rattle.server_core.specs.NextLine.{may_run_first, may_run_next, run_first, run_next}
use Rattle.server_core.specs.Standing.{Beside, Stands}
use Rattle.server_core.specs.Leading.{Leads, Reads}
use Rattle.server_core.proofs.Steady.{steady-lines, does-steady, part_slow-steady}

-- after so many lines the server stands at a state from which those ahead lead to where all of them lead
pub record Run (b : Beside) (now : ServerCore) (n : ℕ) (s : State) : Type 0 where
  pub state : State
  pub stands : Stands b now state
  pub ahead : drop n s.lines ≡ state.lines
  pub ends : run_script state ≡ run_script s

abbrev pub Runs : ServerCore → ServerCore → ℕ → Type 0
Runs old now n = (b : Beside) (s : State) → Stands b old s → Run b now n s

pub runs-none : (core : ServerCore) → Runs core core 0
runs-none core = λ b s h. record { state = s; stands = h; ahead = refl; ends = refl }

drop_next : {A : Type 0} (n : ℕ) (xs : List A) (y : A) (ys : List A) → drop n xs ≡ y ∷ ys → drop (suc n) xs ≡ ys
drop_next zero [] y ys e = absurd (let x : ⊥ = cc in x)
drop_next zero (x ∷ xs) y ys e = cc
drop_next (suc n) [] y ys e = absurd (let x : ⊥ = cc in x)
drop_next (suc n) (x ∷ xs) y ys e = drop_next n xs y ys e

-- a line keeps those behind it
ahead_after : (l : Line) (ahead : List Line) (s : State) → (run_line l ahead s).lines ≡ ahead
ahead_after l ahead s = part_slow-steady (steady-lines ahead) (does s.ran l (past ahead s)) (does-steady (steady-lines ahead) s.ran l (past ahead s) refl)

script_next : (l : Line) (ahead : List Line) (s : State) → s.lines ≡ l ∷ ahead → may_run s l ≡ true → run_script s ≡ run_script (run_line l ahead s)
script_next l ahead s e may = ap (λ ls. run_ahead ls s) e ∙ (ap (λ (t : Bool). choose t (λ u. run_ahead ahead (run_line l ahead u)) unchanged s) may ∙ ap (λ ls. run_ahead ls (run_line l ahead s)) (sym (ahead_after l ahead s)))

script_stays : (s : State) → may_run_next s ≡ false → run_script s ≡ s
script_stays s off = by s.lines off
  where
    by : (ls : List Line) → may_run_first ls s ≡ false → run_ahead ls s ≡ s
    by [] e = refl
    by (l ∷ ls) e = ap (λ (t : Bool). choose t (λ u. run_ahead ls (run_line l ls u)) unchanged s) e

-- one more line
pub runs-more : (old now new : ServerCore) (n : ℕ) (may : Bool) → Runs old now n → may ≡ true → Reads now may may_run_next → Leads now new run_next → Runs old new (n + 1)
runs-more old now new n may so_far is reads leads = λ b s h.
    let r : Run b now n s = so_far b s h in
    by b s r r.state.lines refl (sym (reads b r.state r.stands) ∙ is) (leads b r.state r.stands)
  where
    by : (b : Beside) (s : State) (r : Run b now n s) (ls : List Line) → r.state.lines ≡ ls → may_run_first ls r.state ≡ true → Stands b new (run_first ls r.state) → Run b new (n + 1) s
    by b s r [] e may_run stands = absurd (let x : ⊥ = cc in x)
    by b s r (l ∷ ahead) e may_run stands = record {
      state = run_line l ahead r.state;
      stands = stands;
      ahead = ap (λ m. drop m s.lines) (add-one n) ∙ (drop_next n s.lines l ahead (r.ahead ∙ e) ∙ sym (ahead_after l ahead r.state));
      ends = sym (script_next l ahead r.state e may_run) ∙ r.ends;
    }

-- the next line may not run
pub runs-over : (old now : ServerCore) (n : ℕ) (may : Bool) → Runs old now n → may ≡ false → Reads now may may_run_next → Leads old now run_script
runs-over old now n may so_far is reads = λ b s h.
    let r : Run b now n s = so_far b s h in
    subst (λ t. Stands b now t) (sym (script_stays r.state (sym (reads b r.state r.stands) ∙ is)) ∙ r.ends) r.stands

drop_none : {A : Type 0} (n : ℕ) (xs : List A) → xs ≡ [] → drop n xs ≡ []
drop_none zero xs e = e
drop_none (suc n) [] e = refl
drop_none (suc n) (x ∷ xs) e = absurd (let y : ⊥ = cc in y)

drop_past : {A B : Type 0} (f : A → B) (n m : ℕ) (xs : List A) → length xs ≤ n → drop n (map f (drop m xs)) ≡ []
drop_past f n zero [] le = drop_none n [] refl
drop_past f zero zero (x ∷ xs) le = absurd (omega arith)
drop_past f (suc n) zero (x ∷ xs) le = drop_past f n zero xs (omega arith)
drop_past f n (suc m) [] le = drop_none n [] refl
drop_past f n (suc m) (x ∷ xs) le = drop_past f n m xs (omega arith)

-- as many turns as there are lines
pub runs-all : (old now : ServerCore) (n : ℕ) → length old.script.lines ≤ n → Runs old now n → Leads old now run_script
runs-all old now n le so_far = λ b s h.
    let r : Run b now n s = so_far b s h in
    let none : r.state.lines ≡ [] = sym r.ahead ∙ (ap (λ ls. drop n ls) (sym h.lines) ∙ drop_past line_of n old.ran old.script.lines le) in
    subst (λ t. Stands b now t) (sym (ap (λ ls. run_ahead ls r.state) none) ∙ r.ends) r.stands
