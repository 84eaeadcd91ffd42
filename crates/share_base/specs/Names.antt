-- Names of screens: parts with dots between them, and maybe one dot behind the last.
use Rattle.std.specs.Prelude.{ℕ, ◌-◌, Bool, ◌==◌, ◌&&◌, ◌||◌, nat_le, if◌then◌else◌, List, length}
use Rattle.std.specs.Prelude.{take, map, slice_index}
use Rattle.std.specs.List.{list_all, slice_split}
use Rattle.std.specs.Char.{is_ascii_alphanumeric, to_ascii_lowercase}
use Rattle.std.specs.Str.{bytes_eq}

-- a letter, a digit or _
abbrev pub is_edge_byte : ℕ → Bool
is_edge_byte b = is_ascii_alphanumeric b || (b == 95)

-- one of those, or -
abbrev pub is_part_byte : ℕ → Bool
is_part_byte b = is_edge_byte b || (b == 45)

-- such bytes, with no - at either end; of no bytes the first is 0, which is none of them
abbrev pub is_part : List ℕ → Bool
is_part xs =
    is_edge_byte (slice_index xs 0) && is_edge_byte (slice_index xs (length xs - 1))
    && list_all is_part_byte xs

-- without the dot at the end, where there is one
abbrev pub undotted : List ℕ → List ℕ
undotted xs = if slice_index xs (length xs - 1) == 46 then take (length xs - 1) xs else xs

unfoldable pub is_name : List ℕ → Bool
is_name xs = nat_le (length xs) 255 && list_all is_part (slice_split (λ b. b == 46) (undotted xs))

-- the same name, in capital or small letters
unfoldable pub same_name : List ℕ → List ℕ → Bool
same_name a b = bytes_eq (map to_ascii_lowercase a) (map to_ascii_lowercase b)
