-- The text of a table, printed piece by piece, with comments between the pieces (TOML).
use Rattle.std.specs.Prelude.{◌≡◌, ◌++◌, ℕ, false, List, [], ◌∷◌, Result, OnOk, codes, length, true}
use Rattle.toml_parser.specs.Lexical.{skip_blank}
use Rattle.toml.specs.Data.{Data, Members, no_members, member, is_before}
use Rattle.toml.specs.Text.{IsDocumentText}
use Rattle.a429_import.specs.declared.firsts.Part.{Part}
use Rattle.a429_import.specs.declared.firsts.Part.TheVariants.{Receivers, Sources, Groups}
use Rattle.a429_import.specs.declared.rows.ImportRow.{ImportRow}
use Rattle.a429_import.specs.ImportTables.{listed, number, part_trees}

-- a reader skips the text: it is an empty line and comments
abbrev pub IsSkipped : List ℕ → Type 0
IsSkipped text = (rest : List ℕ) → skip_blank (text ++ rest) ≡ skip_blank rest

-- the key of receivers, sources or groups
abbrev pub part_key : Part → List ℕ
part_key Receivers = codes "receiver"
part_key Sources = codes "source"
part_key Groups = codes "group"

-- a document with this table alone, at a key
abbrev pub alone : List ℕ → Data → Members
alone key d = member key (listed (d ∷ [])) no_members

-- the text prints the tables at a key, each below this text, which is skipped
abbrev pub PrintsTables : List ℕ → List (List ℕ × Data) → List ℕ → Type 0
PrintsTables key [] text = text ≡ []
PrintsTables key (p ∷ ps) text =
    (piece : List ℕ) × (rest : List ℕ) × (text ≡ p.0 ++ (piece ++ rest)) × IsSkipped p.0 × IsDocumentText false (alone key p.1) piece × PrintsTables key ps rest

-- the text prints a document at its end
abbrev pub GainsDocument : {T E : Type 0} → Result T E → List ℕ → List ℕ → Members → Type 0
GainsDocument result old new members = OnOk result ((text : List ℕ) × (new ≡ old ++ text) × IsDocumentText false members text)

-- the text prints these tables at its end, each below its text
abbrev pub IsWithTables : List ℕ → List ℕ → List ℕ → List (List ℕ × Data) → Type 0
IsWithTables old new key ps = (text : List ℕ) × (new ≡ old ++ text) × PrintsTables key ps text

-- an array that has no table is written at its key, before all tables
abbrev pub with_empty : List ℕ → List Data → Members → Members
with_empty key [] rest = member key (listed []) rest
with_empty key (d ∷ ds) rest = rest

-- the pairs above all tables
abbrev pub head_members : List ImportRow → Members
head_members rows =
    with_empty (codes "group") (part_trees Groups rows) (
    with_empty (codes "receiver") (part_trees Receivers rows) (
    with_empty (codes "source") (part_trees Sources rows) (
    member (codes "version") (number 2) no_members)))

-- if the call succeeds and the key comes before the others, the table has it if this array has no table
abbrev pub PutsEmpty : {T E : Type 0} → Result T E → Members → Members → List ℕ → ℕ → Type 0
PutsEmpty result old new key count =
    OnOk result (is_before key old ≡ true → (ds : List Data) → count ≡ length ds → new ≡ with_empty key ds old)
