-- The table of named keys: one line a row, by rising id. Names are the same in capital and small
-- letters.
use Rattle.std.specs.Prelude.{◌≡◌, ◌≢◌, ℕ, true, false, ◌==◌, List, [], ◌∷◌, Contains, Option}
use Rattle.std.specs.Prelude.{codes}
use Rattle.std.specs.List.{find}
use Rattle.std.specs.Option.{option_map}
use Rattle.share_base.specs.declared.numbers.KeyId.{KeyId}
use Rattle.share_base.specs.Names.{same_name}

-- a key's name as it is printed, and its id
pub record NamedKey : Type 0 where
  pub name : List ℕ
  pub id : KeyId

abbrev pub row : List ℕ → ℕ → NamedKey
row name id = record { name = name; id = record { 0 = id } }

unfoldable pub named_keys : List NamedKey
named_keys =
    row (codes "BackSpace") 0xef08 ∷
    row (codes "Tab") 0xef09 ∷
    row (codes "Return") 0xef0d ∷
    row (codes "ScrollLock") 0xef14 ∷
    row (codes "Escape") 0xef1b ∷
    row (codes "Home") 0xef50 ∷
    row (codes "Left") 0xef51 ∷
    row (codes "Up") 0xef52 ∷
    row (codes "Right") 0xef53 ∷
    row (codes "Down") 0xef54 ∷
    row (codes "NumLock") 0xef7f ∷
    row (codes "F1") 0xefbe ∷
    row (codes "F2") 0xefbf ∷
    row (codes "F3") 0xefc0 ∷
    row (codes "F4") 0xefc1 ∷
    row (codes "F5") 0xefc2 ∷
    row (codes "F6") 0xefc3 ∷
    row (codes "F7") 0xefc4 ∷
    row (codes "F8") 0xefc5 ∷
    row (codes "F9") 0xefc6 ∷
    row (codes "F10") 0xefc7 ∷
    row (codes "F11") 0xefc8 ∷
    row (codes "F12") 0xefc9 ∷
    row (codes "Shift_L") 0xefe1 ∷
    row (codes "Shift_R") 0xefe2 ∷
    row (codes "Control_L") 0xefe3 ∷
    row (codes "Control_R") 0xefe4 ∷
    row (codes "CapsLock") 0xefe5 ∷
    row (codes "Meta_L") 0xefe7 ∷
    row (codes "Meta_R") 0xefe8 ∷
    row (codes "Alt_L") 0xefe9 ∷
    row (codes "Alt_R") 0xefea ∷
    row (codes "Super_L") 0xefeb ∷
    row (codes "Super_R") 0xefec ∷
    row (codes "Delete") 0xefff ∷
    []

-- the key of that name
unfoldable pub key_of_name : List ℕ → Option KeyId
key_of_name name = option_map (λ k. k.id) (find (λ k. same_name k.name name) named_keys)

-- the name of that key
unfoldable pub name_of_key : KeyId → Option (List ℕ)
name_of_key id = option_map (λ k. k.name) (find (λ k. k.id.0 == id.0) named_keys)

-- ---- what the table is held to

-- two rows have neither one id nor one name
abbrev pub AreApart : NamedKey → NamedKey → Type 0
AreApart one other = (one.id ≢ other.id) × (same_name one.name other.name ≡ false)

-- a row of the table has that id, and a name that is the same in capital or small letters
pub record IsNamed (name : List ℕ) (id : KeyId) : Type 0 where
  pub own : List ℕ
  pub listed : Contains named_keys (row own id.0)
  pub same : same_name own name ≡ true
