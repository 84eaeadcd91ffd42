-- The lines that events make are taken in a script under the made configuration.
use Rattle.std.proofs.Common.{◌≡◌, ℕ, ◌+◌, ◌≤◌, Bool, true, false, List, [], ◌∷◌, ◌++◌}
use Rattle.std.proofs.Common.{if◌then◌else◌}
use Rattle.std.proofs.Common.{length, Ok, Some, refl, arith}
use Rattle.std.specs.Prelude.{ℤ, pos, codes}
use Rattle.std.specs.Fmt.{decimal, signed_decimal}
use Rattle.std.proofs.lemmas.Bool.{le-leb}
use Rattle.share_base.specs.Hex.{hex}
use Rattle.share_base.specs.declared.clip_id.ClipId.TheVariants.{Clipboard}
use Rattle.text_lines.specs.Numbers.{decimal_of, digits_from}
use Rattle.text_lines.proofs.NumbersAgain.{decimal_again}
use Rattle.script_screen.specs.declared.script.ScriptLine.{ScriptLine}
use Rattle.script_screen.specs.declared.script.ScriptLine.TheVariants as line
use Rattle.script_screen.specs.Forms.{script_row}
use Rattle.script_screen.specs.Grammar.{words_judged, arguments_of, signed_of}
use Rattle.script_screen.specs.Scripts.{key_is_down, button_is_down}
use Rattle.script_screen.specs.Texts.{ScriptSoFar, script_judged}
use Rattle.made_accepted.specs.Spoken.{made_config, made_primary, key_turn, button_turn}
use Rattle.made_accepted.proofs.SpelledWords.{IsWithin, signed_again, AreBytes, hex_again}

-- a script so far, behind its primary screen
abbrev pub so_far : List ScriptLine → ScriptSoFar
so_far lines = record { config = made_config; primary = Some made_primary; lines = lines }

-- these words make that line, below those lines
abbrev pub Makes : List ScriptLine → List (List ℕ) → ScriptLine → Type 0
Makes above words l = script_judged (so_far above) words ≡ Ok (so_far (above ++ l ∷ []))

pub motion_taken : (above : List ScriptLine) (dx dy : ℤ) → IsWithin 32767 dx → IsWithin 32767 dy
    → Makes above (codes "motion" ∷ signed_decimal dx ∷ signed_decimal dy ∷ []) (line.Motion dx dy)
unfolding words_judged script_row arguments_of
motion_taken above dx dy h k = rw (signed_again dx h, signed_again dy k) refl

pub wheel_taken : (above : List ScriptLine)
    → Makes above (codes "wheel" ∷ codes "0" ∷ codes "120" ∷ []) (line.Wheel (pos 0) (pos 120))
unfolding words_judged script_row arguments_of signed_of decimal_of digits_from
wheel_taken above = refl

abbrev pub key_rest : Bool → ℕ → List (List ℕ)
key_rest true b = codes "up" ∷ decimal b ∷ []
key_rest false b = codes "down" ∷ decimal (96 + b) ∷ decimal b ∷ []

pub key_taken : (above : List ScriptLine) (t : Bool) (b : ℕ) → 1 ≤ b → b ≤ 40
    → key_is_down above b ≡ t → Makes above (codes "key" ∷ key_rest t b) (key_turn t b)
unfolding words_judged script_row arguments_of
key_taken above true b low high down =
    rw (decimal_again 255 b (omega arith) (omega arith), le-leb 1 b low, down) refl
key_taken above false b low high down =
    rw (
      decimal_again 65535 (96 + b) (omega arith) (omega arith),
      decimal_again 255 b (omega arith) (omega arith),
      le-leb 1 (96 + b) (omega arith),
      le-leb 1 b low,
      down,
    )
    refl

abbrev pub up_or_down : Bool → List ℕ
up_or_down is_down = if is_down then codes "up" else codes "down"

pub button_taken : (above : List ScriptLine) (t : Bool) (b : ℕ) → 1 ≤ b → b ≤ 40
    → button_is_down above b ≡ t
    → Makes above (codes "button" ∷ up_or_down t ∷ decimal b ∷ []) (button_turn t b)
unfolding words_judged script_row arguments_of
button_taken above true b low high down =
    rw (decimal_again 255 b (omega arith) (omega arith), le-leb 1 b low, down) refl
button_taken above false b low high down =
    rw (decimal_again 255 b (omega arith) (omega arith), le-leb 1 b low, down) refl

pub copy_taken : (above : List ScriptLine) (bytes : List ℕ) → AreBytes bytes
    → length bytes ≤ 4194304
    → Makes above (codes "copy" ∷ codes "0" ∷ hex bytes ∷ []) (line.Copy Clipboard bytes)
unfolding words_judged script_row arguments_of decimal_of digits_from
copy_taken above bytes h few = rw (hex_again 4194304 bytes h few) refl

pub quit_taken : (above : List ScriptLine) → Makes above (codes "quit" ∷ []) line.Quit
unfolding words_judged script_row arguments_of
quit_taken above = refl
