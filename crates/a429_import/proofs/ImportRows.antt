-- The rows of lines, after one more line.
use Rattle.std.proofs.Common.{◌≡◌, ℕ, List, [], ◌∷◌, ◌++◌, Result, Ok, Err, ap, refl}
use Rattle.a429_import.specs.declared.fault.ImportFault.{ImportFault}
use Rattle.a429_import.specs.declared.fault.ImportFault.TheVariants.{NoMemory, Csv, Table}
use Rattle.a429_text.specs.declared.csv_line.CsvLine.{CsvLine}
use Rattle.a429_import.specs.declared.rows.ImportRow.{ImportRow}
use Rattle.a429_import.specs.ImportRows.{◌>>=◌, CsvFault, next_row, rows_after, with_line, with_row}
use Rattle.a429_import.specs.Imports.{States}

pub line_refused : {X : Type 0} (view : X → List ImportRow) (heading : List (List ℕ)) (earlier : List ImportRow) (line : CsvLine) (e : ImportFault)
    → States {X = ImportRow} (λ row. row) (Err e) (next_row heading earlier line) → States view (Err e) (with_line heading earlier line)
line_refused view heading earlier line NoMemory h = tt
line_refused view heading earlier line (Csv number kind column) h = ap (λ (r : Result ImportRow CsvFault). r >>= λ row. with_row line.number earlier row) h
line_refused view heading earlier line (Table f) h = absurd h

after_both : {A B C E : Type 0} (r : Result A E) (f : A → Result C E) (g : A → Result B E) (h : B → Result C E) → ((a : A) → f a ≡ (g a >>= h)) → (r >>= f) ≡ ((r >>= g) >>= h)
after_both (Ok a) f g h each = each a
after_both (Err e) f g h each = refl

all_ok : {A E : Type 0} (r : Result A E) → (r >>= λ a. Ok a) ≡ r
all_ok (Ok a) = refl
all_ok (Err e) = refl

pub rows_after-push : (heading : List (List ℕ)) (earlier : List ImportRow) (lines : List CsvLine) (line : CsvLine)
    → rows_after heading earlier (lines ++ line ∷ []) ≡ (rows_after heading earlier lines >>= λ rows. with_line heading rows line)
rows_after-push heading earlier [] line = all_ok (with_line heading earlier line)
rows_after-push heading earlier (l ∷ lines) line =
    after_both (with_line heading earlier l) (λ rows. rows_after heading rows (lines ++ line ∷ [])) (λ rows. rows_after heading rows lines) (λ rows. with_line heading rows line)
    (λ rows. rows_after-push heading rows lines line)

-- ---- a fault stays

more_refused : {A B E : Type 0} (r : Result A E) (f g : A → Result B E) (e : E) → ((a : A) → f a ≡ Err e → g a ≡ Err e) → (r >>= f) ≡ Err e → (r >>= g) ≡ Err e
more_refused (Ok a) f g e each h = each a h
more_refused (Err x) f g e each h = h

pub rows_after-refused : (heading : List (List ℕ)) (earlier : List ImportRow) (lines more : List CsvLine) (f : CsvFault) → rows_after heading earlier lines ≡ Err f → rows_after heading earlier (lines ++ more) ≡ Err f
rows_after-refused heading earlier [] more f h = cc h
rows_after-refused heading earlier (line ∷ lines) more f h =
    more_refused (with_line heading earlier line) (λ rows. rows_after heading rows lines) (λ rows. rows_after heading rows (lines ++ more)) f
    (λ rows. rows_after-refused heading rows lines more f) h

-- a fault of rows that others have too
pub states_on : (e : ImportFault) (r s : Result (List ImportRow) CsvFault) → ((f : CsvFault) → r ≡ Err f → s ≡ Err f) → States {X = List ImportRow} (λ rows. rows) (Err e) r
    → States {X = List ImportRow} (λ rows. rows) (Err e) s
states_on NoMemory r s on h = tt
states_on (Csv number kind column) r s on h = on (number, kind, column) h
states_on (Table f) r s on h = absurd h
