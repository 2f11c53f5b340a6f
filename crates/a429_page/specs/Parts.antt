-- What the bytes of a call state: its arguments, the names of its files, and their bytes.
use Rattle.std.specs.Prelude.{◌∷◌, ◌/◌, [], ℕ, List, Bool, Option, Some, None, if◌then◌else◌, nat_le, length, take, drop, option_and_then, option_map, position, slice_get}
use Rattle.std.specs.List.{list_all}
use Rattle.std.specs.Str.{bytes_eq, is_utf8}

-- the bytes, cut into parts of these sizes from the first byte on; none if they are too few
unfoldable pub parts_of : List ℕ → List ℕ → Option (List (List ℕ))
parts_of [] bytes = Some []
parts_of (size ∷ sizes) bytes = if nat_le size (length bytes) then option_map (λ parts. take size bytes ∷ parts) (parts_of sizes (drop size bytes)) else None

-- the parts after the arguments: first the names of the files, then as many parts with their bytes
abbrev pub file_parts : ℕ → List (List ℕ) → List (List ℕ)
file_parts words parts = drop words parts

-- the arguments: the first parts, as many as there are said to be
abbrev pub words_in : ℕ → List (List ℕ) → List (List ℕ)
words_in words parts = take words parts

-- the names of the files
abbrev pub names_in : ℕ → List (List ℕ) → List (List ℕ)
names_in words parts = take (length (file_parts words parts) / 2) (file_parts words parts)

-- the bytes of the files, in the order of their names
abbrev pub files_in : ℕ → List (List ℕ) → List (List ℕ)
files_in words parts = drop (length (file_parts words parts) / 2) (file_parts words parts)

-- the bytes of the file of a name: of the first one, if two have it
abbrev pub file_in : List (List ℕ) → List (List ℕ) → List ℕ → Option (List ℕ)
file_in names files name = option_and_then (λ place. slice_get files place) (position (λ other. bytes_eq other name) names)

-- each is a text
abbrev pub are_texts : List (List ℕ) → Bool
are_texts words = list_all is_utf8 words
