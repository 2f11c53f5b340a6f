-- Rows that are a time in microseconds, a name and a word between single blanks.
use Rattle.std.proofs.Common.{◌≡◌, ◌∙◌, ◌+◌, ◌<◌, ◌∷◌, [], ℕ, true, false, List, length, refl, ap, arith, append-nil}
use Rattle.std.specs.Prelude.{◌&&◌, Option, Some, None, Ok, nat_le, nat_lt, option_map, position}
use Rattle.std.specs.List.{list_all, position_or_len}
use Rattle.std.specs.Char.{is_ascii_digit}
use Rattle.std.specs.Str.Parse.{digits_value}
use Rattle.std.proofs.lemmas.Bool.{and_parts, ltb-true}
use Rattle.std.proofs.lemmas.Bool.Decides.{nat_tests}
use Rattle.std.proofs.lemmas.Option.{cond_some}
use Rattle.a429_word.specs.Hexadecimal.{raw_word}
use Rattle.a429_logs.specs.LateDates.{late_time}
use Rattle.a429_logs.specs.LogColumns.{plain_places, width_of}
use Rattle.a429_logs.specs.LogDates.{calendar_time, or_second}
use Rattle.a429_logs.specs.LogExponents.{exponent_time}
use Rattle.a429_logs.specs.LogFields.{field_in, fields_of, has_quotes, parts_of}
use Rattle.a429_logs.specs.LogRows.{in_micros, row_of, unreversed, whole_word, written_time}
use Rattle.a429_logs.specs.LogTimes.{decimal_digits, decimal_time, is_point, micros, time_by, time_of, whole_time}
use Rattle.a429_logs.specs.declared.fields.Separator.TheVariants.{Blank}
use Rattle.a429_logs.specs.declared.times.TimeUnit.TheVariants.{Microseconds}
use Rattle.a429_logs.specs.declared.words.BitOrder.{BitOrder}
use Rattle.a429_logs.specs.declared.written.WrittenTime.TheVariants.{Micros}

-- ---- fields

pub filled : (x : List ℕ) → 0 < length x → field_in Blank x ≡ Some x
filled [] some = absurd (omega (arith, some))
filled (b ∷ bs) some = refl

three_fields : (line t n w : List ℕ) → has_quotes line ≡ false → parts_of Blank line ≡ t ∷ n ∷ w ∷ [] → 0 < length t → 0 < length n → 0 < length w → fields_of Blank line ≡ t ∷ n ∷ w ∷ []
unfolding fields_of
three_fields line t n w plain parts time name word = rw (plain, parts, filled t time, filled n name, filled w word) refl

-- ---- times

no_point : (x : ℕ) → is_ascii_digit x ≡ true → is_point Blank x ≡ false
no_point x digit = grind (arith, nat_tests)

at_end : (t : List ℕ) → list_all is_ascii_digit t ≡ true → position_or_len (is_point Blank) t ≡ length t
at_end [] all = refl
at_end (x ∷ xs) all =
    let both = and_parts (is_ascii_digit x) (list_all is_ascii_digit xs) all in
    rw (no_point x both.0) (let later = at_end xs both.1 in omega (arith, later))

digits_only : (t : List ℕ) → list_all is_ascii_digit t ≡ true → position (is_point Blank) t ≡ None
digits_only t all =
    let end = at_end t all in
    let none : nat_lt (position_or_len (is_point Blank) t) (length t) ≡ false = grind (arith, nat_tests, end) in
    rw none refl

pub record IsNumber (t : List ℕ) (time : ℕ) : Type 0 where
  pub some : 0 < length t
  pub few : nat_le (length t) 18 ≡ true
  pub all : list_all is_ascii_digit t ≡ true
  pub value : digits_value 10 t ≡ time

pub number : (t : List ℕ) (time : ℕ) → decimal_digits t ≡ Some time → IsNumber t time
number t time is =
    let both = cond_some ((nat_lt 0 (length t) && nat_le (length t) 18) && list_all is_ascii_digit t) (digits_value 10 t) time is in
    let parts = and_parts (nat_lt 0 (length t) && nat_le (length t) 18) (list_all is_ascii_digit t) both.0 in
    let sizes = and_parts (nat_lt 0 (length t)) (nat_le (length t) 18) parts.0 in
    record { some = ltb-true 0 (length t) sizes.0; few = sizes.1; all = parts.1; value = both.1 }

whole_plain : (t : List ℕ) (time : ℕ) → IsNumber t time → whole_time Microseconds t ≡ Some time
unfolding micros
whole_plain t time N =
    let some : nat_lt 0 (length t) ≡ true = grind (arith, nat_tests, N.some) in
    let few : nat_le (length t + 0) 18 ≡ true = grind (arith, nat_tests, N.few) in
    rw (some, few, N.all) (ap (λ (ds : List ℕ). Some (digits_value 10 ds)) (append-nil t) ∙ ap (λ (k : ℕ). Some k) N.value)

unit_time : (t : List ℕ) (time : ℕ) → IsNumber t time → time_of Microseconds Blank t ≡ Some time
unfolding decimal_time
unit_time t time N = ap (time_by Microseconds t) (digits_only t N.all) ∙ whole_plain t time N

plain_time : (t : List ℕ) (time : ℕ) → IsNumber t time → written_time Microseconds Blank t ≡ Some (Micros time)
unfolding written_time
plain_time t time N =
    ap
    (λ (o : Option ℕ). or_second (option_map Micros o) (or_second (calendar_time Blank t) (or_second (late_time Blank t) (option_map Micros (exponent_time Microseconds Blank t)))))
    (unit_time t time N)

-- ---- rows

some_word : (w : List ℕ) (raw : ℕ) → whole_word w ≡ Some raw → 0 < length w
unfolding whole_word raw_word
some_word [] raw is = absurd (cc is)
some_word (b ∷ bs) raw is = omega arith

pub fields_row : (order : BitOrder) (line t n w : List ℕ) (time raw : ℕ) → fields_of Blank line ≡ t ∷ n ∷ w ∷ [] → decimal_digits t ≡ Some time → whole_word w ≡ Some raw
    → row_of Microseconds order Blank plain_places (fields_of Blank line) ≡ Ok (in_micros (record { time = time; name = n; raw = unreversed order raw }))
unfolding row_of width_of
fields_row order line t n w time raw fields digits word = rw (fields, plain_time t time (number t time digits), word) refl

pub plain_row : (order : BitOrder) (line t n w : List ℕ) (time raw : ℕ) → has_quotes line ≡ false → parts_of Blank line ≡ t ∷ n ∷ w ∷ [] → decimal_digits t ≡ Some time → 0 < length n → whole_word w ≡ Some raw
    → row_of Microseconds order Blank plain_places (fields_of Blank line) ≡ Ok (in_micros (record { time = time; name = n; raw = unreversed order raw }))
plain_row order line t n w time raw plain parts digits name word =
    let N = number t time digits in
    fields_row order line t n w time raw (three_fields line t n w plain parts N.some name (some_word w raw word)) digits word
