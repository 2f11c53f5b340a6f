-- The place of a column in a heading, field by field, and how many fields a line has.
use Rattle.std.proofs.Common.{◌≡◌, ◌+◌, ◌≤◌, ℕ, Bool, true, false, List, [], ◌∷◌, length, refl, sym, arith}
use Rattle.std.specs.Prelude.{Option, Some, None, filter_map}
use Rattle.std.specs.List.{enumerate_from}
use Rattle.std.proofs.lemmas.List.Sums.{count_by-le-length}
use Rattle.std.proofs.lemmas.List.Splits.{length-slice_split}
use Rattle.a429_logs.specs.LogColumns.{found_next, found_with, is_column, names_of, noted, places_in, width_from}
use Rattle.a429_logs.specs.LogFields.{field_in, fields_of, has_quotes, is_separator, parts_of, quoted_field_in, quoted_parts}
use Rattle.a429_logs.specs.declared.cells.Column.{Column}
use Rattle.a429_logs.specs.declared.cells.Found.{Found}
use Rattle.a429_logs.specs.declared.cells.Found.TheVariants.{Absent, At, Twice}
use Rattle.a429_logs.specs.declared.columns.Width.{Width}
use Rattle.a429_logs.specs.declared.fields.Separator.{Separator}
use Rattle.a429_logs.proofs.QuotedText.{quoted-few}

noted_with : (found : Found) (place : ℕ) (later : List ℕ) → found_with (noted found place) later ≡ found_with found (place ∷ later)
noted_with Absent place [] = refl
noted_with Absent place (x ∷ xs) = refl
noted_with (At k) place later = refl
noted_with Twice place later = refl

by_test : (column : Column) (found : Found) (place : ℕ) (name : List ℕ) (rest : List (List ℕ)) (is : Bool) → is_column column name ≡ is
    → found_with (found_next column found place name) (places_in column (enumerate_from (place + 1) rest)) ≡ found_with found (places_in column (enumerate_from place (name ∷ rest)))
by_test column found place name rest true e = rw e (noted_with found place (places_in column (enumerate_from (place + 1) rest)))
by_test column found place name rest false e = rw e refl

-- a field more
pub found-next : (column : Column) (found : Found) (place : ℕ) (name : List ℕ) (rest : List (List ℕ))
    → found_with (found_next column found place name) (places_in column (enumerate_from (place + 1) rest)) ≡ found_with found (places_in column (enumerate_from place (name ∷ rest)))
found-next column found place name rest = by_test column found place name rest (is_column column name) refl

pub found-all : (found : Found) → found_with found [] ≡ found
found-all Absent = refl
found-all (At k) = refl
found-all Twice = refl

-- ---- how many fields there are

kept_one : {X Y : Type 0} (f : X → Option Y) (x : X) (xs : List X) (o : Option Y) → f x ≡ o → length (filter_map f xs) ≤ length xs → length (filter_map f (x ∷ xs)) ≤ length (x ∷ xs)
kept_one f x xs None e shorter = rw e (omega (arith, shorter))
kept_one f x xs (Some y) e shorter = rw e (omega (arith, shorter))

kept_few : {X Y : Type 0} (f : X → Option Y) (xs : List X) → length (filter_map f xs) ≤ length xs
kept_few f [] = omega arith
kept_few f (x ∷ xs) = kept_one f x xs (f x) refl (kept_few f xs)

plain_few : (separator : Separator) (line : List ℕ) → length (filter_map (field_in separator) (parts_of separator line)) ≤ length line + 1
plain_few separator line =
    omega (arith, kept_few (field_in separator) (parts_of separator line), length-slice_split (is_separator separator) line, count_by-le-length (is_separator separator) line)

quoted_few : (separator : Separator) (line : List ℕ) → length (filter_map (quoted_field_in separator) (quoted_parts separator false line)) ≤ length line + 1
quoted_few separator line = omega (arith, kept_few (quoted_field_in separator) (quoted_parts separator false line), quoted-few separator false line)

few_by : (separator : Separator) (line : List ℕ) (quotes : Bool) → has_quotes line ≡ quotes → length (fields_of separator line) ≤ length line + 1
unfolding fields_of
few_by separator line true e = rw e (quoted_few separator line)
few_by separator line false e = rw e (plain_few separator line)

pub fields_few : (separator : Separator) (line : List ℕ) → length (fields_of separator line) ≤ length line + 1
fields_few separator line = few_by separator line (has_quotes line) refl

pub found-end : (column : Column) (found : Found) (place : ℕ) (fields : List (List ℕ)) → length fields ≡ 0
    → found ≡ found_with found (places_in column (enumerate_from place fields))
found-end column found place [] none = sym (found-all found)
found-end column found place (x ∷ xs) none = absurd (omega (arith, none))

pub width-end : (width : Width) (fields : List (List ℕ)) → length fields ≡ 0 → width ≡ width_from width fields
width-end width [] none = refl
width-end width (x ∷ xs) none = absurd (omega (arith, none))

pub names-none : (texts fields : List (List ℕ)) → length fields ≡ 0 → length (names_of texts fields) ≡ 0
names-none texts [] none = refl
names-none texts (x ∷ xs) none = absurd (omega (arith, none))
