-- Options one after another.
use Rattle.std.proofs.Common.{◌≡◌, ◌∙◌, ap, sym, subst, refl, ℕ, ◌≤◌, List, [], ◌∷◌, ◌++◌, map, length, take, append_assoc, arith}
use Rattle.std.specs.List.{flat_map, fold}
use Rattle.std.proofs.lemmas.List.{append-nil, take-append-le, take_all}
use Rattle.std.proofs.lemmas.List.Concat.{flat_map-cons}
use Rattle.modifier_map.specs.declared.map.ModMap.{ModMap}
use Rattle.modifier_map.specs.Map.{changed}
use Rattle.held_inputs.specs.declared.line.Line.{Line}
use Rattle.held_inputs.specs.declared.line.Line.TheVariants as line
use Rattle.held_inputs.specs.declared.injector.Injector.{Injector}
use Rattle.held_inputs.specs.Line.{line_of}
use Rattle.held_inputs.specs.Screen.{Screen, SetsOption, after}
use Rattle.held_inputs.specs.Stands.{Stands}
use Rattle.client_talk.specs.Options.{pairs}
use Rattle.client_core.specs.Hearing.{option_lines, set_all}

-- ---- lines

-- lines that are printed, and those of the options that are left
abbrev pub with_left : List ℕ → List ℕ → List ℕ
with_left lines words = lines ++ flat_map line_of (option_lines words)

-- one option more was printed
pub left-next : (lines next all words more : List ℕ) (code value : ℕ) → with_left lines words ≡ all → words ≡ code ∷ value ∷ more → next ≡ lines ++ line_of (line.SetOption code value) → with_left next more ≡ all
left-next lines next all words more code value all-is words-is next-is =
    ap (λ (t : List ℕ). t ++ flat_map line_of (option_lines more)) next-is
    ∙ append_assoc lines (line_of (line.SetOption code value)) (flat_map line_of (option_lines more))
    ∙ ap (λ (t : List ℕ). lines ++ t) (sym (flat_map-cons line_of (line.SetOption code value) (option_lines more)))
    ∙ ap (λ (t : List ℕ). with_left lines t) (sym words-is)
    ∙ all-is

-- none is left
pub left-none : (lines all words : List ℕ) → pairs words ≡ [] → with_left lines words ≡ all → lines ≡ all
left-none lines all words none all-is =
    sym (append-nil lines)
    ∙ ap (λ (ps : List (ℕ × ℕ)). lines ++ flat_map line_of (map (λ (option : ℕ × ℕ). line.SetOption option.0 option.1) ps)) (sym none)
    ∙ all-is

-- ---- the map

-- an injector stands for a screen with another map, which the options that are left make the one that all options make
pub record Sets (i : Injector) (s : Screen) (words all : List ℕ) : Type 0 where
  pub mods : ModMap
  pub stands : Stands i (record { lines = s.lines; mods = mods })
  pub becomes : set_all mods words ≡ set_all s.mods all

pub sets-first : (i : Injector) (s : Screen) (words : List ℕ) → Stands i s → Sets i s words words
sets-first i s words h = record { mods = s.mods; stands = h; becomes = refl }

pub sets-next : (i new : Injector) (s : Screen) (words more all : List ℕ) (code value : ℕ) → words ≡ code ∷ value ∷ more → ((t : Screen) → Stands i t → Stands new (after t (SetsOption code value))) → Sets i s words all → Sets new s more all
sets-next i new s words more all code value words-is set h = record {
  mods = changed h.mods code value;
  stands = subst (λ (lines : List Line). Stands new (record { lines = lines; mods = changed h.mods code value })) (append-nil s.lines) (set (record { lines = s.lines; mods = h.mods }) h.stands);
  becomes = ap (set_all h.mods) (sym words-is) ∙ h.becomes;
}

pub sets-all : (i : Injector) (s : Screen) (words all : List ℕ) → pairs words ≡ [] → Sets i s words all → Stands i (record { lines = s.lines; mods = set_all s.mods all })
sets-all i s words all none h =
    subst (λ (m : ModMap). Stands i (record { lines = s.lines; mods = m })) (sym (ap (fold (λ (m : ModMap) (option : ℕ × ℕ). changed m option.0 option.1) h.mods) none) ∙ h.becomes) h.stands

-- ---- lines that are added to others

pub added-next : (first lines next line : List ℕ) → ((more : List ℕ) × (lines ≡ first ++ more)) → next ≡ lines ++ line → (more : List ℕ) × (next ≡ first ++ more)
added-next first lines next line (more, was) next-is = (more ++ line, next-is ∙ ap (λ (t : List ℕ). t ++ line) was ∙ append_assoc first more line)

-- as many as there were are the first ones
pub added-none : (n : ℕ) (first lines left : List ℕ) → n ≡ length first → ((more : List ℕ) × (lines ≡ first ++ more)) → left ≡ take n lines → left ≡ first
added-none n first lines left n-is (more, was) left-is =
    let within : n ≤ length first = omega arith in
    left-is ∙ ap (take n) was ∙ take-append-le n first more within ∙ take_all n first (omega arith)
