-- Logs that come in pieces, and the lines that are left of them (profile: log).
use Rattle.std.specs.Prelude.{◌≡◌, ◌∷◌, ◌++◌, ℕ, List, Option, Some, None, drop, map}
use Rattle.std.specs.List.{flat_map}
use Rattle.std.specs.declared.alloc.Global.{Global}
use Rattle.std.specs.declared.vec.Vec.{Vec}
use Rattle.a429_text.specs.CutText.{without_byte_order_mark}
use Rattle.a429_logs.specs.LogFields.{parts_in, parts_of}
use Rattle.a429_logs.specs.Logs.{numbered, one_more}
use Rattle.a429_logs.specs.declared.fields.Separator.TheVariants.{LineFeed}
use Rattle.a429_logs.specs.declared.lines.Lines.{Lines}

-- the texts of pieces
abbrev pub texts_in : List (Vec ℕ Global) → List (List ℕ)
texts_in pieces = map (λ piece. piece.items) pieces

-- the lines of texts, one text after another
abbrev pub lines_in : List (List ℕ) → List (List ℕ)
lines_in texts = flat_map (parts_of LineFeed) texts

-- the lines of a text and of those after it, with their numbers from this one on
abbrev pub lines_from : ℕ → List ℕ → List (List ℕ) → List (ℕ × List ℕ)
lines_from n text texts = numbered n (parts_of LineFeed text ++ lines_in texts)

-- the lines of a log with this first text, and then these
abbrev pub first_lines : List ℕ → List (List ℕ) → List (ℕ × List ℕ)
first_lines text texts = lines_from 1 (without_byte_order_mark text) texts

-- ---- what is left

-- how many lines were taken, the pieces, and the number, from 0, of the first piece that was not begun
abbrev pub taken_in : Lines → ℕ
taken_in lines = lines.taken

abbrev pub pieces_in : Lines → List (Vec ℕ Global)
pieces_in lines = lines.pieces.now

abbrev pub next_in : Lines → ℕ
next_in lines = lines.piece

-- no line is left of the piece that is read
abbrev pub IsBetweenIn : Lines → Type 0
IsBetweenIn lines = lines.here ≡ None

-- the texts of the pieces that were not begun
abbrev pub texts_left : Lines → List (List ℕ)
texts_left lines = texts_in (drop (next_in lines) (pieces_in lines))

-- the lines, with their numbers
unfoldable pub left_in : Lines → List (ℕ × List ℕ)
left_in lines = numbered (one_more (taken_in lines)) (parts_in LineFeed lines.here ++ lines_in (texts_left lines))

-- the first of a list is taken, if it is in the piece that is read
abbrev pub TakesHere : {X Y : Type 0} → (X → Y) → Option X → List Y → List Y → Type 0
TakesHere shown None old new = new ≡ old
TakesHere shown (Some x) old new = old ≡ shown x ∷ new
