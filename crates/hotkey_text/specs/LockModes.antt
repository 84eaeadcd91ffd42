-- The words of the lock's modes.
use Rattle.std.specs.Prelude.{ℕ, List, [], ◌∷◌, Option, codes}
use Rattle.std.specs.List.{find}
use Rattle.std.specs.Str.{bytes_eq}
use Rattle.hotkey_rules.specs.declared.action.LockMode.{LockMode}
use Rattle.hotkey_rules.specs.declared.action.LockMode.TheVariants.{On, Off, Toggle}

abbrev pub lock_word : LockMode → List ℕ
lock_word On = codes "on"
lock_word Off = codes "off"
lock_word Toggle = codes "toggle"

abbrev pub lock_named : List ℕ → Option LockMode
lock_named word = find (λ m. bytes_eq (lock_word m) word) (On ∷ Off ∷ Toggle ∷ [])
