-- A list of keys by rising button, and a table of mouse buttons.
use Rattle.std.specs.Prelude.{ℕ, zero, suc, List, [], ◌∷◌, ◌++◌, Bool, false, slice_index_or}
use Rattle.std.specs.Prelude.{Option, None, Some, cond, ◌==◌, ltb}
use Rattle.held_inputs.specs.declared.keys.HeldKey.{HeldKey}

-- how many keys come before a button
abbrev pub place : List HeldKey → ℕ → ℕ
place [] b = 0
place (k ∷ ks) b = cond (ltb k.button b) (suc (place ks b)) 0

-- the id of the key at a button
abbrev pub found : List HeldKey → ℕ → Option ℕ
found [] b = None
found (k ∷ ks) b = cond (ltb k.button b) (found ks b) (cond (k.button == b) (Some k.id) None)

-- the keys with one more, in its place
abbrev pub inserted : List HeldKey → ℕ → ℕ → List HeldKey
inserted [] b id = record { button = b; id = id } ∷ []
inserted (k ∷ ks) b id =
    cond (ltb k.button b) (k ∷ inserted ks b id) (record { button = b; id = id } ∷ k ∷ ks)

-- the keys without the one at a button
abbrev pub removed : List HeldKey → ℕ → List HeldKey
removed [] b = []
removed (k ∷ ks) b = cond (ltb k.button b) (k ∷ removed ks b) (cond (k.button == b) ks (k ∷ ks))

-- the numbers below n at which a table is set
unfoldable pub places : List Bool → ℕ → List ℕ
places table zero = []
places table (suc n) = places table n ++ cond (slice_index_or table n false) (n ∷ []) []
