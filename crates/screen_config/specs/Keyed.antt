-- Values that are found by their names, in capital or small letters: each stands under its name in
-- small letters.
use Rattle.std.specs.Prelude.{◌≡◌, ℕ, ◌≤◌, List, map, length, All, Vec}
use Rattle.std.specs.Char.{to_ascii_lowercase}
use Rattle.std.specs.Global.{Global}
use Rattle.share_base.specs.declared.screen_name.TheConstants.{LONGEST_NAME}

abbrev pub small : List ℕ → List ℕ
small name = map to_ascii_lowercase name

-- the names of the values of these entries
abbrev pub names_in : {T : Type 0} → (T → List ℕ) → List (Vec ℕ Global × T) → List (List ℕ)
names_in name_of entries = map (λ e. name_of e.1) entries

pub record AreKeyed {T : Type 0} (name_of : T → List ℕ) (entries : List (Vec ℕ Global × T))
    : Type 0 where
  pub keys : map (λ e. e.0.items) entries ≡ map small (names_in name_of entries)
  pub short : All (λ name. length name ≤ LONGEST_NAME) (names_in name_of entries)
