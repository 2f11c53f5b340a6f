-- The names that are made of texts (profile: import).
use Rattle.std.specs.Prelude.{ℕ, ◌+◌, ◌-◌, ◌==◌, ◌&&◌, ◌||◌, Bool, true, false, List, [], ◌∷◌, ◌++◌, Option, None, Some, if◌then◌else◌, drop, length, nat_le, slice_index_or, take}
use Rattle.std.specs.Char.{to_ascii_lowercase}
use Rattle.std.specs.Fmt.{decimal}
use Rattle.a429_word.specs.Texts.{octal}
use Rattle.a429_equipment.specs.NameForm.{is_name}
use Rattle.a429_import.specs.ImportForms.{count_before}
use Rattle.a429_import.specs.ImportTables.{is_word}

-- ---- bytes

-- a byte between two others, which are in it
abbrev pub is_from : ℕ → ℕ → ℕ → Bool
is_from low high b = nat_le low b && nat_le b high

-- a letter in any case, a digit or an underline
abbrev pub is_kept : ℕ → Bool
is_kept b = (is_from 97 122 b || is_from 65 90 b) || (is_from 48 57 b || b == 95)

-- ---- a text

-- a `-` for other characters before a kept byte, if there are any
abbrev pub dash_if : Bool → List ℕ
dash_if is_apart = if is_apart then 45 ∷ [] else []

-- the kept bytes of a text, with letters in lower case, and one `-` for each run of others before one; the flag says whether others come before the
-- text
abbrev pub dashed : Bool → List ℕ → List ℕ
dashed is_apart [] = []
dashed is_apart (b ∷ text) = if is_kept b then dash_if is_apart ++ to_ascii_lowercase b ∷ dashed false text else dashed true text

-- a text from its first kept byte on
abbrev pub from_kept : List ℕ → List ℕ
from_kept text = drop (count_before is_kept text) text

-- a name without a `-` at its end
abbrev pub without_last_dash : List ℕ → List ℕ
without_last_dash name = if slice_index_or name (length name - 1) 0 == 45 then take (length name - 1) name else name

-- 16 bytes of a name at most
abbrev pub shortened : List ℕ → List ℕ
shortened text = without_last_dash (take 16 (dashed false (from_kept text)))

-- the name that is made of a text: a name stays. It is empty if nothing is left
abbrev pub plain_name : List ℕ → List ℕ
plain_name text = if is_name text then text else shortened text

-- the same; a text of which nothing is left stays
unfoldable pub made_name : List ℕ → List ℕ
made_name text = if is_word (plain_name text) then plain_name text else text

-- ---- longer texts

-- the beginning of a text and its end
abbrev pub joined_ends : List ℕ → List ℕ → List ℕ
joined_ends start end = if is_word end then without_last_dash start ++ 45 ∷ end else start

-- a text in a number of bytes: if it has more, what is left of its beginning and of its last five bytes
abbrev pub in_room : ℕ → List ℕ → List ℕ
in_room room text =
    if nat_le (length text) room then shortened text
    else joined_ends (take (room - 6) (shortened text)) (shortened (drop (length text - 5) text))

-- the same; a word if nothing is left
unfoldable pub in_room_or : List ℕ → ℕ → List ℕ → List ℕ
in_room_or word room text = if is_word (in_room room text) then in_room room text else word

-- ---- ends

-- `-LLL`, and `-S` unless the SDI is any
abbrev pub label_end : ℕ → Option ℕ → List ℕ
label_end label None = 45 ∷ octal label
label_end label (Some sdi) = (45 ∷ octal label) ++ 45 ∷ (48 + sdi) ∷ []

-- nothing for 0, otherwise `_N`
abbrev pub number_end : ℕ → List ℕ
number_end number = if number == 0 then [] else 95 ∷ decimal number

-- an end, cut before it to 16 bytes
abbrev pub ended : List ℕ → List ℕ → List ℕ
ended base end = without_last_dash (take (16 - length end) base) ++ end

-- the name of a number: a base, an end, and the number
unfoldable pub numbered_name : List ℕ → List ℕ → ℕ → List ℕ
numbered_name base end number = ended base (end ++ number_end number)
