-- Texts cut at a byte, and into lines (profile: replay script, words file, logs, rows to import).
use Rattle.std.specs.Prelude.{◌==◌, ◌&&◌, ◌+◌, ◌∷◌, [], ℕ, zero, suc, List, Option, Some, None, if◌then◌else◌, take, drop, position, option_map}

-- the parts before and after the first byte b
unfoldable pub cut : ℕ → List ℕ → Option (List ℕ × List ℕ)
cut b text = option_map (λ k. (take k text, drop (k + 1) text)) (position (λ x. x == b) text)

-- a byte that is no line feed, before lines and the rest after the last of them
abbrev pub joined_on : ℕ → List (List ℕ) → List ℕ → List (List ℕ) × List ℕ
joined_on x [] rest = ([], x ∷ rest)
joined_on x (line ∷ lines) rest = ((x ∷ line) ∷ lines, rest)

-- the lines of a text, each without the line feed that ends it, and the rest after the last
abbrev pub lines_of : List ℕ → List (List ℕ) × List ℕ
lines_of [] = ([], [])
lines_of (x ∷ xs) = if x == 10 then ([] ∷ (lines_of xs).0, (lines_of xs).1) else joined_on x (lines_of xs).0 (lines_of xs).1

-- a text up to a cut, or all of it
abbrev pub before_cut : Option (List ℕ × List ℕ) → List ℕ → List ℕ
before_cut None text = text
before_cut (Some parts) text = parts.0

-- its first line, without a line feed
abbrev pub first_line : List ℕ → List ℕ
first_line text = before_cut (cut 10 text) text

-- what follows a cut
abbrev pub after_cut : Option (List ℕ × List ℕ) → List ℕ
after_cut None = []
after_cut (Some parts) = parts.1

-- what follows a number of lines
abbrev pub after_lines : ℕ → List ℕ → List ℕ
after_lines zero text = text
after_lines (suc n) text = after_lines n (after_cut (cut 10 text))

-- a byte order mark (UTF-8) may come first
abbrev pub without_byte_order_mark : List ℕ → List ℕ
without_byte_order_mark (a ∷ b ∷ c ∷ text) = if a == 239 && (b == 187 && c == 191) then text else a ∷ b ∷ c ∷ text
without_byte_order_mark text = text
