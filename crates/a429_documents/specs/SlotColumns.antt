-- The arrays of outputs in the header of C: an element for each output of a group (profile: docs/FORMATS.md, Header for C).
use Rattle.std.specs.Prelude.{ℕ, ◌^◌, List, ◌++◌, Option, None, Some, codes}
use Rattle.std.specs.Fmt.{decimal}
use Rattle.a429_text.specs.Nibbles.{nibbles}
use Rattle.a429_equipment.specs.TableRecord.{receiver_name}
use Rattle.a429_equipment.specs.declared.rows.GroupRow.{GroupRow}
use Rattle.a429_documents.specs.PlannedGroups.{PlannedGroup, PlannedOutput, of_outputs}
use Rattle.a429_documents.specs.SlotNames.{array_name, constant, macro_name}
use Rattle.a429_documents.specs.declared.slots.header.columns.Column.{Column}
use Rattle.a429_documents.specs.declared.slots.header.columns.Column.TheVariants.{Labels, Sdis, Receivers, Sources, Periods}

-- ---- the names of a group

-- a macro of a group: a word ends its name
unfoldable pub group_macro : GroupRow → List ℕ → List ℕ
group_macro g word = codes "A429_GROUP_" ++ (macro_name g.name ++ word)

-- an array of a group
unfoldable pub group_array : GroupRow → List ℕ → List ℕ
group_array g word = codes "a429_" ++ (array_name g.name ++ (codes "_" ++ word))

-- the start of an array, by the kind of its elements
unfoldable pub array_start : List ℕ → GroupRow → List ℕ → List ℕ
array_start kind g word = codes "static const " ++ (kind ++ (codes " " ++ (group_array g word ++ codes "[] = {")))

-- whether an array has as many elements as the number that follows, after `sizeof`
unfoldable pub size_test : GroupRow → List ℕ → List ℕ
size_test g word = group_array g word ++ (codes " / sizeof " ++ (group_array g word ++ codes "[0]\n    == "))

-- the start of a type that is named for an array
unfoldable pub type_start : GroupRow → List ℕ → List ℕ
type_start g word = codes "typedef char " ++ (group_array g word ++ codes "_is_whole[\n    sizeof ")

-- the start of a type that is refused unless the array has its size
unfoldable pub check_start : GroupRow → List ℕ → List ℕ
check_start g word = type_start g word ++ size_test g word

-- its end
abbrev pub check_end : List ℕ
check_end = codes " ? 1 : -1];\n"

-- ---- an element

-- what the array is named for, and the kind of its elements
abbrev pub column_word : Column → List ℕ
column_word Labels = codes "labels"
column_word Sdis = codes "sdis"
column_word Receivers = codes "receivers"
column_word Sources = codes "sources"
column_word Periods = codes "periods"

abbrev pub column_kind : Column → List ℕ
column_kind Labels = codes "uint8_t"
column_kind Sdis = codes "uint8_t"
column_kind Receivers = codes "enum a429_receiver"
column_kind Sources = codes "enum a429_source"
column_kind Periods = codes "uint16_t"

-- an SDI, or A429_ANY_SDI
abbrev pub sdi_value : Option ℕ → List ℕ
sdi_value None = codes "A429_ANY_SDI"
sdi_value (Some sdi) = decimal sdi

-- of an output: the label in hexadecimal, the SDI, the receiver of the source, the source, or the period in slots
abbrev pub column_value : PlannedOutput → Column → List ℕ
column_value o Labels = codes "0x" ++ nibbles 2 o.source.label
column_value o Sdis = sdi_value o.source.sdi
column_value o Receivers = constant (codes "RECEIVER_") (receiver_name o.receivers o.source.receiver)
column_value o Sources = constant (codes "SOURCE_") o.source.name
column_value o Periods = decimal (2 ^ o.place.period)

-- the same as a line
unfoldable pub value_line : Column → PlannedOutput → List ℕ
value_line column o = codes "\n    " ++ (column_value o column ++ codes ",")

-- ---- the arrays

-- the elements, in table order
abbrev pub value_lines : Column → PlannedGroup → List ℕ
value_lines column g = of_outputs (value_line column) g

-- an array, and the type that checks its size
unfoldable pub column_array : PlannedGroup → Column → List ℕ
column_array g column =
    array_start (column_kind column) g.row (column_word column) ++ (value_lines column g
    ++ (codes "\n};\n" ++ (check_start g.row (column_word column) ++ (group_macro g.row (codes "_OUTPUTS") ++ check_end))))

-- all of them
unfoldable pub column_arrays : PlannedGroup → List ℕ
column_arrays g =
    column_array g Labels ++ (column_array g Sdis ++ (column_array g Receivers ++ (column_array g Sources ++ column_array g Periods)))
