-- A line of a script that is read at an index, and what its numbers are.
use Rattle.std.specs.Prelude.{◌≡◌, refl, ℕ, ◌<◌, zero, suc, List, [], ◌∷◌, ◌++◌, length, slice_get, Some}
use Rattle.std.proofs.Common.{sym, ap, ◌∙◌, subst, get_or}
use Rattle.std.proofs.lemmas.Option.{slice_get_read}
use Rattle.script_screen.specs.declared.script.ScriptLine.{ScriptLine}
use Rattle.script_screen.specs.Scripts.{ScriptText, IsScript, IsScriptLine, AreScriptLines}

line_at : (above ls : List ScriptLine) (n : ℕ) (l : ScriptLine) → AreScriptLines above ls → slice_get ls n ≡ Some l → IsScriptLine l
line_at above [] n l h e = absurd (let x : ⊥ = cc in x)
line_at above (m ∷ ls) zero l h e = let is : m ≡ l = cc in subst IsScriptLine is h.0
line_at above (m ∷ ls) (suc n) l h e = line_at (above ++ m ∷ []) ls n l h.2 e

read_at : (lines now : List ScriptLine) (i : ℕ) (x : ScriptLine) → now ≡ lines → i < length lines → x ≡ get_or now i x → slice_get lines i ≡ Some x
read_at lines now i x e lt is = slice_get_read lines (length lines) i x refl lt (is ∙ ap (λ ls. get_or ls i x) e)

-- it is the line of that index
pub line-read : (lines now : List ScriptLine) (i : ℕ) (x l : ScriptLine) → now ≡ lines → i < length lines → x ≡ get_or now i x → slice_get lines i ≡ Some l → x ≡ l
line-read lines now i x l e lt is at = let same : Some x ≡ Some l = sym (read_at lines now i x e lt is) ∙ at in cc

-- its numbers are in their ranges
pub line-sound : (text : ScriptText) (now : List ScriptLine) (i : ℕ) (x : ScriptLine) → IsScript text → now ≡ text.lines → i < length text.lines → x ≡ get_or now i x → IsScriptLine x
line-sound text now i x sound e lt is = line_at [] text.lines i x sound.lines (read_at text.lines now i x e lt is)
