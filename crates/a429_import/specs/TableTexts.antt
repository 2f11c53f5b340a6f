-- The text of a table that rows state, with its comments (profile: import).
use Rattle.std.specs.Borrow.{Bor}
use Rattle.std.specs.Prelude.{◌≡◌, ◌++◌, ◌∷◌, [], ℕ, Bool, false, List, Option, None, Some, codes, IfSome, filter, if◌then◌else◌, map, slice_get}
use Rattle.std.specs.List.{enumerate_from}
use Rattle.std.specs.Str.{bytes_eq}
use Rattle.toml.specs.Data.{Data}
use Rattle.toml.specs.Text.{IsDocumentText}
use Rattle.a429_import.specs.declared.comments.Comments.{Comments}
use Rattle.a429_import.specs.declared.firsts.Part.{Part}
use Rattle.a429_import.specs.declared.firsts.Part.TheVariants.{Receivers, Sources, Groups}
use Rattle.a429_import.specs.declared.indexed_rows.IndexedRows.{IndexedRows}
use Rattle.a429_import.specs.declared.rows.ImportRow.{ImportRow}
use Rattle.a429_import.specs.ImportTables.{firsts, is_stated, name_in, part_tree}
use Rattle.a429_import.specs.KeptFields.{comment_line, kept_comments, shown}
use Rattle.a429_import.specs.IndexedRows.{IsIndexed}
use Rattle.a429_import.specs.PrintedTables.{PrintsTables, head_members}
use Rattle.a429_import.specs.Renamed.{text_of}

-- ---- comments

-- the text of a name, unless it is the name
abbrev pub name_comment : List ℕ → List ℕ → List ℕ
name_comment text name = if bytes_eq text name then [] else comment_line (32 ∷ shown false text)

-- the same for a row whose name was made; its row before that is given
abbrev pub made_comment : Part → Option ImportRow → ImportRow → List ℕ
made_comment part None row = []
made_comment part (Some before) row = name_comment (text_of part before) (name_in part row)

-- the row before names were made; the row itself if none were
abbrev pub row_before : Option ImportRow → ImportRow → ImportRow
row_before None row = row
row_before (Some before) row = before

-- the comments of the columns that go along, which are those of sources
abbrev pub column_comments : (List ℕ → List ℕ) → Part → Option ImportRow → ImportRow → List ℕ
column_comments kept Sources before row = kept_comments row.texts.source (kept (row_before before row).texts.source)
column_comments kept part before row = []

-- what is above the table of a row's receiver, source or group: an empty line, and its comments
abbrev pub above_of : (List ℕ → List ℕ) → Part → Option ImportRow → ImportRow → List ℕ
above_of kept part before row = 10 ∷ (made_comment part before row ++ column_comments kept part before row)

-- ---- tables

-- the first row of a receiver, source or group before names were made, by its place; there is none if none were made
abbrev pub before_at : Option (List ImportRow) → Part → ℕ → Option ImportRow
before_at None part place = None
before_at (Some rows) part place = slice_get (firsts part rows) place

-- the tables of receivers, sources or groups, each below what is above it
abbrev pub piece_of : (List ℕ → List ℕ) → Option (List ImportRow) → Part → List ImportRow → ℕ × ImportRow → List ℕ × Data
piece_of kept before part rows p = (above_of kept part (before_at before part p.0) p.1, part_tree part rows p.1)

abbrev pub is_placed : Part → ℕ × ImportRow → Bool
is_placed part p = is_stated part p.1

abbrev pub pieces : (List ℕ → List ℕ) → Option (List ImportRow) → Part → List ImportRow → List (List ℕ × Data)
pieces kept before part rows = map (piece_of kept before part rows) (filter (is_placed part) (enumerate_from 0 (firsts part rows)))

-- The text of the table that rows state: the pairs above all tables, and then the tables of groups, receivers and sources. `kept` has the lines of each
-- source in the columns that go along, and `before` the rows before names were made
pub record IsTableText (kept : List ℕ → List ℕ) (before : Option (List ImportRow)) (rows : List ImportRow) (text : List ℕ) : Type 0 where
  pub head : List ℕ
  pub groups : List ℕ
  pub receivers : List ℕ
  pub sources : List ℕ
  pub whole : text ≡ head ++ (groups ++ (receivers ++ sources))
  pub pairs : IsDocumentText false (head_members rows) head
  pub groups_are : PrintsTables (codes "group") (pieces kept before Groups rows) groups
  pub receivers_are : PrintsTables (codes "receiver") (pieces kept before Receivers rows) receivers
  pub sources_are : PrintsTables (codes "source") (pieces kept before Sources rows) sources

-- the rows before names were made, as comments have them
abbrev pub rows_before : Option (Bor IndexedRows) → Option (List ImportRow)
rows_before None = None
rows_before (Some known) = Some known.now.rows.items

-- these rows are known
abbrev pub AreSound : Comments → Type 0
AreSound comments = IfSome comments.made_of (λ known. IsIndexed known.now)
