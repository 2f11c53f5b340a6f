-- The form of names (profile: equipment table).
use Rattle.std.specs.Prelude.{ℕ, List, [], length, Bool, ◌&&◌, ◌||◌, nat_le, ◌==◌, if◌then◌else◌}
use Rattle.std.specs.List.{list_all}

-- a to z, 0 to 9, - and _
abbrev pub is_name_byte : ℕ → Bool
is_name_byte b = ((nat_le 97 b && nat_le b 122) || (nat_le 48 b && nat_le b 57)) || (b == 45 || b == 95)

-- 1 to 16 such bytes
unfoldable pub is_name : List ℕ → Bool
is_name s = (nat_le 1 (length s) && nat_le (length s) 16) && list_all is_name_byte s

-- a text of at most 16 bytes, which each name is
abbrev pub short_name : List ℕ → List ℕ
short_name s = if nat_le (length s) 16 then s else []
