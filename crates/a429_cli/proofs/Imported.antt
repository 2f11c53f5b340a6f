-- What is refused of rows that are imported.
use Rattle.std.proofs.Common.{◌≡◌, ℕ, List, inr, refl}
use Rattle.std.specs.Prelude.{Option, Some}
use Rattle.a429_table.specs.declared.fault.TableFault.TheVariants as fault
use Rattle.a429_import.specs.declared.fault.ImportFault.{ImportFault}
use Rattle.a429_import.specs.declared.fault.ImportFault.TheVariants as wrong
use Rattle.a429_import.specs.declared.import.ImportOptions.{ImportOptions}
use Rattle.a429_console.specs.FileReadings.{readable}
use Rattle.a429_console.specs.RefusalText.{OrMemory}
use Rattle.a429_cli.specs.Importing.{IsImportFault, IsNoImport, import_refusal}

-- the fault of a file's bytes refuses the file
pub fault_refuses : (file : List ℕ → Option (List ℕ)) (maps : List (List ℕ)) (options : ImportOptions) (name bytes : List ℕ) (f : ImportFault) → readable (file name) ≡ Some bytes → IsImportFault maps options bytes f
    → OrMemory (IsNoImport file maps options name) (import_refusal f)
fault_refuses file maps options name bytes wrong.NoMemory read is = tt
fault_refuses file maps options name bytes (wrong.Csv line kind column) read is = inr (bytes, read, (wrong.Csv line kind column, is, refl))
fault_refuses file maps options name bytes (wrong.Table fault.NoMemory) read is = tt
fault_refuses file maps options name bytes (wrong.Table (fault.At kind place)) read is = inr (bytes, read, (wrong.Table (fault.At kind place), is, refl))
