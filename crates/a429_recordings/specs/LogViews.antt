-- Which words of logs a command takes, and how (profile: log).
use Rattle.std.specs.Prelude.{◌+◌, ◌-◌, ◌∷◌, [], ℕ, Bool, List, Option, Some, None, if◌then◌else◌, max, nat_lt, option_and_then, option_map, unwrap_or}
use Rattle.std.specs.List.{list_any}
use Rattle.std.specs.Str.{bytes_eq}
use Rattle.a429_text.specs.Renames.{renamed}
use Rattle.a429_logs.specs.Calendars.{in_64_bits}
use Rattle.a429_logs.specs.LogRows.{Stated}
use Rattle.a429_logs.specs.declared.reading.Reading.{Reading}
use Rattle.a429_arguments.specs.Given.{Given, long_number_given, origin_of}
use Rattle.a429_arguments.specs.Texts.{texts_of}
use Rattle.a429_arguments.specs.declared.options.OptionName.TheVariants as option
use Rattle.a429_arguments.specs.declared.times.LogOrigin.{LogOrigin}
use Rattle.a429_arguments.specs.declared.times.LogOrigin.TheVariants as origin
use Rattle.a429_arguments.specs.declared.times.Shift.{Shift}
use Rattle.a429_arguments.specs.declared.times.Shift.TheVariants as shift
use Rattle.a429_arguments.specs.declared.times.Drift.TheVariants as drift
use Rattle.a429_align.specs.Corrections.{corrected}
use Rattle.a429_recordings.specs.declared.logs.views.ClockMove.{ClockMove}
use Rattle.a429_recordings.specs.declared.logs.views.LogView.{LogView}

-- As which names channels are taken, each FROM=TO, and which names are ignored. How times are moved, from which moved time on they are counted,
-- and the last time as it is counted so: words outside of these are passed over.
pub record View : Type 0 where
  pub channels : List (List ℕ)
  pub ignored : List (List ℕ)
  pub clock : ClockMove
  pub from : ℕ
  pub until : Option ℕ

-- what a struct of the program shows
abbrev pub view_of : LogView → View
view_of v = record { channels = texts_of v.channels.now; ignored = texts_of v.ignored.now; clock = v.clock; from = v.from; until = v.until }

-- times stay as they are
abbrev pub same_clock : ClockMove
same_clock = record { drift = drift.Fast 0; shift = shift.Later 0 }

-- ---- what the options ask for

-- the time from which times are counted, if one is given
abbrev pub from_of : LogOrigin → ℕ
from_of (origin.Time base) = base
from_of origin.First = 0

abbrev pub view_for : Given → Option ℕ → ClockMove → View
view_for given until clock =
    record { channels = given option.Channel; ignored = given option.Ignore; clock = clock; from = from_of (origin_of given); until = until }

-- all words from the time on from which times are counted
abbrev pub whole_view : Given → View
whole_view given = view_for given None same_clock

-- those up to the time of `--until`
abbrev pub window_view : Given → ClockMove → View
window_view given clock = view_for given (long_number_given given option.Until) clock

-- the view of a log after others that are read so: times are counted from the one that is given, otherwise from that of the first word of those
abbrev pub view_after : Reading → View → View
view_after reading view = record view { from = max view.from (unwrap_or reading.clock.base 0) }

-- ---- words

-- a word has one of these names (`--ignore`)
abbrev pub is_ignored : List (List ℕ) → List ℕ → Bool
is_ignored ignored name = list_any (λ text. bytes_eq text name) ignored

-- a time as it is moved by a shift (`--shift`); nothing if it is moved to before 0
abbrev pub shifted : Shift → ℕ → Option ℕ
shifted (shift.Later by) time = in_64_bits (time + by)
shifted (shift.Earlier by) time = if nat_lt time by then None else Some (time - by)

-- a time as it is moved to another clock: without the drift of its own (`--drift`), and then by the shift
abbrev pub moved : ClockMove → ℕ → Option ℕ
moved clock time = option_and_then (shifted clock.shift) (corrected clock.drift time)

-- a time as it is counted from this one on
abbrev pub since : ℕ → ℕ → Option ℕ
since from time = if nat_lt time from then None else Some (time - from)

-- a time up to the last one (`--until`)
abbrev pub up_to : Option ℕ → ℕ → Option ℕ
up_to None time = Some time
up_to (Some last) time = if nat_lt last time then None else Some time

-- the time that a word is taken at
abbrev pub time_in : View → ℕ → Option ℕ
time_in view time = option_and_then (up_to view.until) (option_and_then (since view.from) (moved view.clock time))

-- a word at a time, by the name as which its channel is taken (`--channel`)
abbrev pub taken_at : View → Stated → ℕ → Stated
taken_at view w time = record { time = time; name = renamed view.channels w.name; raw = w.raw }

-- a word as it is taken; nothing if it is passed over
abbrev pub taken : View → Stated → Option Stated
taken view w = if is_ignored view.ignored w.name then None else option_map (taken_at view w) (time_in view w.time)

-- ---- items

-- a word that becomes one item, or makes its line faulty
abbrev pub one_item : {A : Type 0} → (Stated → Option A) → Stated → Option (List A)
one_item item w = option_map (λ x. x ∷ []) (item w)

abbrev pub items_by : {A : Type 0} → (Stated → Option (List A)) → Option Stated → Option (List A)
items_by items None = Some []
items_by items (Some w) = items w

-- what a word becomes that makes these items as it is taken: no item if it is passed over
abbrev pub viewed : {A : Type 0} → View → (Stated → Option (List A)) → Stated → Option (List A)
viewed view items w = items_by items (taken view w)
