use Rattle.std.proofs.Common.{refl}
use Rattle.std.specs.Path.{rsplit_once}
use Rattle.csv.specs.Machine.{next_record}
use Rattle.csv.specs.Reading.{records_from, strip_bom}
use Rattle.a429_word.specs.Decimal.{decimal_number, is_numeral}
use Rattle.a429_word.specs.Texts.{label_value}
use Rattle.a429_import.specs.ImportFields.{hold_in, label_in, millis_in, number_in, rate_in, sdi_in, text_in, utf8_in}
use Rattle.a429_import.specs.ImportForms.{heading_among, len_before, names_in_row, quotes_end}
use Rattle.a429_import.specs.ImportIntervals.{interval_in}
use Rattle.a429_import.specs.ImportQuotes.{is_misquoted_from}
use Rattle.a429_import.specs.ImportRows.{column_field, column_form, is_named, numbers_of}
use Rattle.a429_equipment.specs.NameForm.{is_name}
use Rattle.a429_import.specs.ImportWords.{stepped, trimmed}
use Rattle.a429_import.specs.KeyedLines.{end_in}
use Rattle.a429_import.specs.MadeNames.{in_room_or, made_name, numbered_name}
use Rattle.a429_import.specs.Renamed.{base_of, chosen, end_of, long_name, names_in, plain_of}
use Rattle.std.specs.Str.{chars, is_utf8}
use Rattle.a429_import.proofs.laws.forms_are_read_as_written.Goals as goal

pub returns-clause-fields : goal.returns-clause-fields
unfolding rate_in millis_in number_in decimal_number is_numeral label_in label_value sdi_in
returns-clause-fields c = record {
  high = refl;
  low = refl;
  number = refl;
  speed = refl;
  kilobits = refl;
  no_space = refl;
  no_unit = refl;
  no_number = refl;
  lost_zeros = refl;
  kept_zeros = refl;
  octal = refl;
  binary = refl;
  digit = refl;
  nothing = refl;
  word = refl;
}

pub returns-clause-millis : goal.returns-clause-millis
unfolding millis_in decimal_number is_numeral
returns-clause-millis c = record { whole = refl; point = refl; no_comma = refl; comma = refl; zeros = refl; too_fine = refl; no_digit = refl; thousands = refl; one = refl; small = refl; decimals = refl }

pub returns-clause-headings : goal.returns-clause-headings
unfolding is_named heading_among names_in_row len_before quotes_end trimmed stepped
returns-clause-headings c = record { any_case = refl; millis = refl; rate = refl; least = refl; most = refl; broken = refl; other = refl; below = refl; none = refl }

pub returns-clause-blanks : goal.returns-clause-blanks
unfolding trimmed stepped
returns-clause-blanks c = record { spaces = refl; no_break = refl; within = refl; none = refl }

pub returns-clause-intervals : goal.returns-clause-intervals
unfolding interval_in trimmed stepped millis_in number_in decimal_number is_numeral
returns-clause-intervals c = record { least = refl; most = refl; dash = refl; order = refl; one = refl; up = refl; down = refl; decimals = refl; zero = refl; rates = refl; least_rate = refl }

pub returns-clause-maps : goal.returns-clause-maps
unfolding is_named heading_among names_in_row len_before quotes_end rsplit_once trimmed stepped
returns-clause-maps c = record { named = refl; last_mark = refl; first = refl; other = refl; no_heading = refl; no_column = refl; found = refl }

pub returns-clause-alone : goal.returns-clause-alone
unfolding numbers_of column_field column_form interval_in is_named rate_in millis_in number_in decimal_number is_numeral label_in label_value sdi_in hold_in trimmed stepped
returns-clause-alone c = record { output = refl; alone = refl; rated = refl; least = refl; no_rate = refl }

pub returns-clause-names : goal.returns-clause-names
unfolding made_name is_name in_room_or numbered_name
returns-clause-names c = record { cut = refl; runs = refl; stays = refl; last = refl; nothing = refl; ends = refl; short = refl; word = refl; label = refl; any = refl }

pub returns-clause-apart : goal.returns-clause-apart
unfolding end_in column_field is_named label_in label_value sdi_in text_in utf8_in is_utf8 chars lib.Utf8.encode trimmed stepped
returns-clause-apart c = record { end = refl; some = refl; none = refl }

pub returns-clause-chosen : goal.returns-clause-chosen
unfolding names_in chosen plain_of base_of end_of long_name numbered_name in_room_or is_name
returns-clause-chosen c = record { sources = refl; receivers = refl; groups = refl }

pub returns-clause-quotes : goal.returns-clause-quotes
unfolding is_misquoted_from is_named heading_among names_in_row len_before quotes_end strip_bom trimmed stepped
returns-clause-quotes c = record { closed = refl; not_closed = refl; doubled = refl; heading = refl; above = refl; after = refl; space = refl; title = refl; within = refl; mark = refl }

pub returns-clause-above : goal.returns-clause-above
unfolding is_named heading_among names_in_row len_before quotes_end strip_bom next_record records_from column_field label_in label_value rsplit_once trimmed stepped
returns-clause-above c = record { row = refl; title = refl; lost_zeros = refl; mapped = refl; unmapped = refl; names = refl; units = refl; fewer = refl; more = refl; below = refl; no_heading = refl }

pub returns-clause-notes : goal.returns-clause-notes
returns-clause-notes c = record { notes = refl; gap = refl; none = refl }

pub returns-clause-filled : goal.returns-clause-filled
unfolding is_named trimmed stepped
returns-clause-filled c = record { empty = refl; stated = refl; other = refl; first = refl }
