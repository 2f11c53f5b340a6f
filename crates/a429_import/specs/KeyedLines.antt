-- Lines with keys of sources. The key of a source is its text, and after it its receiver, its label and its SDI (profile: import).
use Rattle.std.specs.Prelude.{◌≡◌, ◌==◌, ℕ, Bool, false, List, [], ◌∷◌, ◌++◌, Option, None, Some, if◌then◌else◌, position, set}
use Rattle.std.specs.List.{AllZip}
use Rattle.csv.specs.Records.{fields_of}
use Rattle.a429_import.specs.declared.fault.ImportColumn.TheVariants.{Source, Receiver, Label, Sdi}
use Rattle.a429_text.specs.declared.csv_line.CsvLine.{CsvLine}
use Rattle.a429_import.specs.ImportFields.{label_in, sdi_in, text_in}
use Rattle.a429_import.specs.ImportRows.{column_field, is_named}
use Rattle.a429_import.specs.ImportTables.{is_word}
use Rattle.a429_import.specs.MadeNames.{label_end}

-- what comes after the text of a source in its key
abbrev pub key_end : List ℕ → ℕ → Option ℕ → List ℕ
key_end receiver label sdi = (0 ∷ receiver) ++ label_end label sdi

-- the same; nothing if the line does not state it
abbrev pub end_stated : Option (List ℕ) → Option ℕ → Option (Option ℕ) → List ℕ
end_stated (Some receiver) (Some label) (Some sdi) = key_end receiver label sdi
end_stated _ _ _ = []

-- the same, of the fields of a line
unfoldable pub end_in : List (List ℕ) → List (List ℕ) → List ℕ
end_in heading fields =
    end_stated (text_in (column_field heading fields Receiver)) (label_in (column_field heading fields Label)) (sdi_in (column_field heading fields Sdi))

-- the text of a source, with this end unless it is empty
abbrev pub keyed_text : List ℕ → List ℕ → List ℕ
keyed_text end text = if is_word text then text ++ end else text

-- a place is the one that is given, if one is
abbrev pub is_place : ℕ → Option ℕ → Bool
is_place place None = false
is_place place (Some given) = given == place

-- fields, with a text for the one at a place, if a place is given
abbrev pub with_text : Option ℕ → List ℕ → List (List ℕ) → List (List ℕ)
with_text None text fields = fields
with_text (Some place) text fields = set fields place text

-- the fields of a line, with this end after the text of its source
abbrev pub keyed_fields : List ℕ → List (List ℕ) → List (List ℕ) → List (List ℕ)
keyed_fields end heading fields = with_text (position (is_named Source) heading) (keyed_text end (column_field heading fields Source)) fields

-- a line below a heading, with the key of its source for its text
pub record IsKeyedLine (heading line keyed : CsvLine) : Type 0 where
  pub number : keyed.number ≡ line.number
  pub separator : keyed.separator ≡ line.separator
  pub fields : fields_of keyed.fields ≡ keyed_fields (end_in (fields_of heading.fields) (fields_of line.fields)) (fields_of heading.fields) (fields_of line.fields)

-- the same for all lines below the first, which is the heading
abbrev pub AreKeyed : List CsvLine → List CsvLine → Type 0
AreKeyed [] keyed = keyed ≡ []
AreKeyed (heading ∷ below) keyed = (rest : List CsvLine) × AllZip (IsKeyedLine heading) below rest × (keyed ≡ heading ∷ rest)
