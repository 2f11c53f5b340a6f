-- Line files: the symbols that their bytes stand for, and which bytes they may have (profile: line file).
use Rattle.std.specs.Prelude.{◌==◌, ◌||◌, ℕ, Bool, not, List, Option, Some, None, is_some, position, if◌then◌else◌}
use Rattle.std.specs.List.{filter_map}
use Rattle.a429_line.specs.declared.found.Symbol.{Symbol}
use Rattle.a429_line.specs.declared.found.Symbol.TheVariants.{Hi, Null, Lo}

-- the symbol that a byte stands for: `1`, `0` or `.`
abbrev pub symbol_of : ℕ → Option Symbol
symbol_of b = if b == 49 then Some Hi else (if b == 48 then Some Lo else (if b == 46 then Some Null else None))

-- the symbols of bytes, in order; other bytes are skipped
abbrev pub symbols_of : List ℕ → List Symbol
symbols_of bytes = filter_map symbol_of bytes

-- the bit that a byte stands for
abbrev pub bit_of : ℕ → Option ℕ
bit_of b = if b == 49 then Some 1 else (if b == 48 then Some 0 else None)

-- a line file may have the byte: it stands for a symbol, or is a space or a line feed, which are skipped
abbrev pub is_line_byte : ℕ → Bool
is_line_byte b = is_some (symbol_of b) || (b == 32 || b == 10)

-- the place from 0 of the first byte that a line file may not have
unfoldable pub first_bad_byte : List ℕ → Option ℕ
first_bad_byte bytes = position (λ b. not (is_line_byte b)) bytes
