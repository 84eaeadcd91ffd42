-- Lines of options and clipboards leave down what was down.
use Rattle.std.proofs.Common.{◌≡◌, refl, subst, ℕ, List, [], ◌∷◌, ◌++◌, append_assoc}
use Rattle.std.specs.Prelude.{false}
use Rattle.std.specs.List.{AllByRecursion}
use Rattle.std.proofs.lemmas.List.{append-nil}
use Rattle.held_inputs.specs.declared.line.Line.{Line}
use Rattle.held_inputs.specs.declared.line.Line.TheVariants.{ResetOptions, SetOption, Grab, Clip}
use Rattle.held_inputs.specs.declared.injector.Injector.{Injector}
use Rattle.held_inputs.specs.Down.{names_key, names_button, IsPlain}
use Rattle.held_inputs.specs.Screen.{Screen, with_lines}
use Rattle.held_inputs.specs.Stands.{Stands}
use Rattle.held_inputs.proofs.Good.{Good, May, good-step}
use Rattle.held_inputs.proofs.Standing.{stands-plain}

no_key : (l : Line) → IsPlain l → (b : ℕ) → names_key b l ≡ false
no_key ResetOptions p b = refl
no_key (SetOption code value) p b = refl
no_key (Grab clip) p b = refl
no_key (Clip clip bytes) p b = refl
no_key l p b = absurd p

no_button : (l : Line) → IsPlain l → (b : ℕ) → names_button b l ≡ false
no_button ResetOptions p b = refl
no_button (SetOption code value) p b = refl
no_button (Grab clip) p b = refl
no_button (Clip clip bytes) p b = refl
no_button l p b = absurd p

may-plain : (xs : List Line) (l : Line) → IsPlain l → May xs l
may-plain xs ResetOptions p = tt
may-plain xs (SetOption code value) p = tt
may-plain xs (Grab clip) p = tt
may-plain xs (Clip clip bytes) p = tt
may-plain xs l p = absurd p

pub stands-with_lines : (i : Injector) (s : Screen) (more : List Line) → AllByRecursion IsPlain more
    → Stands i s → Stands i (with_lines s more)
stands-with_lines i s [] p h = rw (append-nil s.lines) h
stands-with_lines i s (l ∷ more) p h =
    subst (λ (t : List Line). Stands i (record { lines = t; mods = s.mods }))
    (append_assoc s.lines (l ∷ []) more)
    (stands-with_lines i (with_lines s (l ∷ [])) more p.1
    (stands-plain i s l (no_key l p.0) (no_button l p.0) h))

pub good-plain : (xs more : List Line) → AllByRecursion IsPlain more → Good xs → Good (xs ++ more)
good-plain xs [] p h = rw (append-nil xs) h
good-plain xs (l ∷ more) p h =
    subst Good (append_assoc xs (l ∷ []) more)
    (good-plain (xs ++ l ∷ []) more p.1 (good-step xs l h (may-plain xs l p.0)))
