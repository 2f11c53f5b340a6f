-- Why rows are not imported (profile: docs/FORMATS.md, Kinds of a row).
use Rattle.std.specs.Prelude.{ℕ, List, codes}
use Rattle.a429_table.specs.declared.fault.TableFault.{TableFault}
use Rattle.a429_table.specs.declared.fault.TableFault.TheVariants as fault
use Rattle.a429_import.specs.declared.fault.CsvFaultKind.{CsvFaultKind}
use Rattle.a429_import.specs.declared.fault.CsvFaultKind.TheVariants.{Form, Column, Differs, TooMany}
use Rattle.a429_import.specs.declared.fault.ImportFault.{ImportFault}
use Rattle.a429_import.specs.declared.fault.ImportFault.TheVariants.{NoMemory, Table}

-- its name in refusals
abbrev pub kind_text : CsvFaultKind → List ℕ
kind_text Form = codes "form"
kind_text Column = codes "column"
kind_text Differs = codes "differs"
kind_text TooMany = codes "too-many"

-- a table's fault, and memory that ran out for either
abbrev pub of_table : TableFault → ImportFault
of_table fault.NoMemory = NoMemory
of_table (fault.At kind place) = Table (fault.At kind place)
