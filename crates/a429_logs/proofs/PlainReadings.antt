-- What the rows state that most logs have.
use Rattle.std.proofs.Common.{◌≡◌, ◌∙◌, ℕ, Bool, false, List, ap}
use Rattle.std.specs.Prelude.{None, Ok, Option, if◌then◌else◌}
use Rattle.a429_logs.specs.Calendars.{timed_row}
use Rattle.a429_logs.specs.LogColumns.{plain_places}
use Rattle.a429_logs.specs.LogFields.{fields_of}
use Rattle.a429_logs.specs.LogRows.{in_micros, row_of, stated_by}
use Rattle.a429_logs.specs.Logs.{is_passed_over, read_line, read_stated, with_calendar}
use Rattle.a429_logs.specs.QuickRows.{IsPlain, in_units, plain_shape}
use Rattle.a429_logs.specs.declared.calendars.Calendar.{Calendar}
use Rattle.a429_logs.specs.declared.fields.Separator.TheVariants.{Blank}
use Rattle.a429_logs.specs.declared.reading.Reading.{Reading}
use Rattle.a429_logs.specs.declared.reading.Shape.{Shape}
use Rattle.a429_logs.specs.declared.rows.StatedWord.{StatedWord}
use Rattle.a429_logs.specs.declared.times.TimeUnit.TheVariants.{Microseconds}

pub plain_read : (old : Reading) (line : List ℕ) (word : StatedWord) → IsPlain old → is_passed_over line ≡ false
    → row_of Microseconds old.order Blank plain_places (fields_of Blank line) ≡ Ok (in_micros (stated_by word))
    → read_line old line ≡ with_calendar old plain_shape (Ok (in_units word))
unfolding read_line
plain_read old line word P stated row =
    ap (λ (passed : Bool). if passed then record { next = old; states = Ok None } else read_stated old line old.shape) stated
    ∙ (ap (λ (shape : Option Shape). read_stated old line shape) P.shape
    ∙ (ap (λ r. with_calendar old plain_shape (timed_row old.dates old.calendar r)) row
    ∙ ap (λ (k : Calendar). with_calendar old plain_shape (timed_row old.dates k (Ok (in_micros (stated_by word))))) P.calendar))
