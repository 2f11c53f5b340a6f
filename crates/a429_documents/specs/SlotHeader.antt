-- The slot tables of a plan as a header of C (C99, C++17): the receivers and sources as constants, and for each group a comment that numbers its
-- outputs, its sizes as macros, and its outputs and cells as arrays (profile: docs/FORMATS.md, Header for C).
use Rattle.std.specs.Prelude.{ℕ, ◌%◌, ◌==◌, ◌^◌, List, ◌++◌, Option, None, Some, codes, if◌then◌else◌, length}
use Rattle.std.specs.Fmt.{decimal}
use Rattle.std.specs.List.{flat_map, range_with_len}
use Rattle.a429_word.specs.Texts.{octal}
use Rattle.a429_equipment.specs.TableRecord.{TableRecord}
use Rattle.a429_equipment.specs.declared.rows.GroupRow.{GroupRow}
use Rattle.a429_equipment.specs.declared.rows.SourceRow.{SourceRow}
use Rattle.a429_slots.specs.Tables.{SlotTable, PlanTable, buses_of, cell_at, frame_of, outputs_of}
use Rattle.a429_documents.specs.PlannedGroups.{PlannedGroup, PlannedOutput, of_groups, output_at}
use Rattle.a429_documents.specs.SlotColumns.{array_start, check_end, check_start, column_arrays, group_macro}
use Rattle.a429_documents.specs.SlotNames.{receiver_enum, source_enum}

-- ---- the lines before the groups

-- what the elements of the arrays are, how names are written, and the numbers of an empty cell and of any SDI
unfoldable pub header_start : List ℕ
header_start =
    codes "/* Slot tables, by `a429 slots --c`. Outputs of a group are numbered from 0.\n   Element [bus * FRAME + slot] of `slots` is the output in that cell, or\n"
    ++ (codes "   A429_EMPTY. Other arrays have an element for each output. In names `-` is\n   `_`; `_` is `u` in macros and constants, `U` in arrays. */\n"
    ++ codes "#ifndef A429_SLOTS_H\n#define A429_SLOTS_H\n\n#include <stdint.h>\n\n#define A429_EMPTY 0xFFFF\n#define A429_ANY_SDI 0xFF\n\n")

-- ---- the outputs of a group, as a comment

-- an SDI, or `any`
abbrev pub sdi_text : Option ℕ → List ℕ
sdi_text None = codes "any"
sdi_text (Some sdi) = decimal sdi

-- the words of a source: their label and their SDI
unfoldable pub words_text : SourceRow → List ℕ
words_text source = codes " label " ++ (octal source.label ++ (codes " sdi " ++ sdi_text source.sdi))

-- the period of an output in slots, and the name of its source
unfoldable pub sending_text : PlannedOutput → List ℕ
sending_text o = codes " period " ++ (decimal (2 ^ o.place.period) ++ (codes " source " ++ o.source.name))

-- the line of an output, by its number
unfoldable pub output_line : ℕ → PlannedOutput → List ℕ
output_line n o = codes "\n   " ++ (decimal n ++ (codes ":" ++ (words_text o.source ++ sending_text o)))

-- a line for each output of a group, in table order
abbrev pub output_lines : PlannedGroup → List ℕ
output_lines g = flat_map (λ n. output_line n (output_at g n)) (range_with_len 0 (length (outputs_of g.table)))

-- these lines, after the name of the group
unfoldable pub group_comment : PlannedGroup → List ℕ
group_comment g = codes "/* group " ++ (g.row.name ++ (output_lines g ++ codes " */\n"))

-- ---- the sizes of a group, as macros

-- a macro whose value is a number
unfoldable pub number_macro : GroupRow → List ℕ → ℕ → List ℕ
number_macro g word value = codes "#define " ++ (group_macro g word ++ (codes " " ++ (decimal value ++ codes "\n")))

-- its bit rate in bit/s, the number of slots in a frame, of buses and of outputs
unfoldable pub size_macros : PlannedGroup → List ℕ
size_macros g =
    number_macro g.row (codes "_RATE") g.row.rate
    ++ (number_macro g.row (codes "_FRAME") (frame_of g.table)
    ++ (number_macro g.row (codes "_BUSES") (buses_of g.table)
    ++ number_macro g.row (codes "_OUTPUTS") (length (outputs_of g.table))))

-- ---- the cells of a group, as an array

-- the number of the output in a cell; that of A429_EMPTY if the cell is empty
abbrev pub cell_number : Option ℕ → List ℕ
cell_number None = codes "0xFFFF"
cell_number (Some o) = decimal o

-- what is before an element: 16 elements are in a line, and each bus begins a line
abbrev pub element_start : ℕ → List ℕ
element_start slot = if slot % 16 == 0 then codes "\n    " else codes " "

-- the element of a cell
unfoldable pub element : SlotTable → ℕ → ℕ → List ℕ
element t bus slot = element_start slot ++ (cell_number (cell_at t bus slot) ++ codes ",")

-- the elements of a bus, slot by slot
abbrev pub bus_elements : SlotTable → ℕ → List ℕ
bus_elements t bus = flat_map (element t bus) (range_with_len 0 (frame_of t))

-- the elements of a group, bus by bus
abbrev pub group_elements : SlotTable → List ℕ
group_elements t = flat_map (bus_elements t) (range_with_len 0 (buses_of t))

-- the type that checks the size of the array: the slots of a frame on each bus
unfoldable pub slots_check : GroupRow → List ℕ
slots_check g = check_start g (codes "slots") ++ (group_macro g (codes "_BUSES") ++ (codes " * " ++ (group_macro g (codes "_FRAME") ++ check_end)))

-- the array, and that type
unfoldable pub slots_array : PlannedGroup → List ℕ
slots_array g =
    array_start (codes "uint16_t") g.row (codes "slots") ++ (group_elements g.table ++ (codes "\n};\n" ++ (slots_check g.row ++ codes "\n")))

-- ---- the header

-- a group
unfoldable pub group_part : PlannedGroup → List ℕ
group_part g = group_comment g ++ (size_macros g ++ (column_arrays g ++ slots_array g))

-- the receivers and the sources of a table
unfoldable pub table_enums : TableRecord → List ℕ
table_enums e = receiver_enum e.receivers ++ source_enum e.sources

-- the header of a plan, of one group or of all
abbrev pub header_text : TableRecord → PlanTable → Option ℕ → List ℕ
header_text e p group = header_start ++ (table_enums e ++ (of_groups group_part e p group ++ codes "#endif\n"))
