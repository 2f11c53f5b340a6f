-- Records and a writer of comma-separated lines (RFC 4180).
use Rattle.std.specs.Prelude.{◌≡◌, ◌∷◌, ◌++◌, [], ℕ, List, Option, Result, OnOk, false}
use Rattle.std.specs.Io.KnownBytes.{Appends}
use Rattle.csv.specs.Records.{Row, fields_of, partial_of}
use Rattle.csv.specs.declared.writer.Writer.{Writer}
use Rattle.csv.specs.Writing.{default_writer, writer_setup, fields_written, has_written, text_written}

-- it has the library's own settings, and nothing of the next line is written
pub record IsAtLine {W : Type 0} (w : Writer W) : Type 0 where
  pub setup : writer_setup w ≡ default_writer
  pub fields : fields_written w ≡ 0
  pub clean : has_written w ≡ false

-- if the call succeeds, these bytes are added to the writer's text: its output and what it has not passed on yet,
-- together
abbrev pub WritesText : {W A E : Type 0} → (W → Option (List ℕ)) → Result A E → Writer W → Writer W → List ℕ → Type 0
WritesText contents result old new bytes = OnOk result (Appends (text_written contents old) (text_written contents new) bytes)

-- the record has no begun field
abbrev pub IsWhole : Row → Type 0
IsWhole row = partial_of row ≡ []

-- the record has one more field, which has this text
abbrev pub HasGained : Row → Row → List ℕ → Type 0
HasGained old new text = (fields_of new ≡ fields_of old ++ text ∷ []) × IsWhole new
