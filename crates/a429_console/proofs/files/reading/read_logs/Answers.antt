use Rattle.std.proofs.Common.{◌∙◌, List, ℕ, ap, refl, subst}
use Rattle.a429_console.specs.FileReadings.{AreLogReadings}
use Rattle.a429_arguments.specs.Texts.{texts_of}
use Rattle.a429_console.proofs.ReadingParts.{read_none, read_weaker}
use Rattle.a429_console.proofs.files.reading.read_logs.Goals as goal

pub returns-in-Ok : goal.returns-in-Ok
returns-in-Ok g c =
    read_weaker c.read_log_files.ensures
    (λ file read. subst (λ (names : List (List ℕ)). AreLogReadings file names c.read_log_files.result) (ap texts_of c.deref.ensures.value ∙ c.in-Ok.ensures) read)

pub returns-in-Err : goal.returns-in-Err
returns-in-Err g c = rw c.plain.ensures (read_none refl (λ file. tt))
