-- The numbers of rows that are imported are in their ranges.
use Rattle.std.proofs.Common.{◌≡◌, ℕ, ◌^◌, ◌<◌, ◌≤◌, ◌-◌, ◌++◌, ◌∷◌, [], Bool, true, false, List, length, Option, None, Some, Result, Ok, Err, ap, refl, subst, arith, eqb-true, inl, inr, ◌+◌, ◌*◌, ◌/◌, ◌%◌, zero, suc, drop, take}
use Rattle.std.specs.Prelude.{IfSome, codes, if◌then◌else◌, nat_le, nat_lt, position, ◌==◌, ◌||◌, ◌&&◌}
use Rattle.std.specs.Option.{ok_or, option_and_then, option_map, option_or}
use Rattle.std.specs.Str.{bytes_eq}
use Rattle.std.proofs.lemmas.Bool.{and_parts, leb-true, ltb-true}
use Rattle.std.proofs.Math.Nat.{mul-le-mul}
use Rattle.std.proofs.lemmas.Nat.{div-add-mod'}
use Rattle.std.proofs.lemmas.Option.{cond_some, same_Some}
use Rattle.csv.specs.Records.{fields_of}
use Rattle.a429_word.specs.Decimal.{decimal_number}
use Rattle.a429_word.proofs.LabelTexts.{written}
use Rattle.a429_word.proofs.Lists.{or_parts}
use Rattle.a429_import.specs.declared.fault.ImportColumn.{ImportColumn}
use Rattle.a429_import.specs.declared.fault.ImportColumn.TheVariants.{Rate, Label, Sdi, MinUs, MaxUs, Hold}
use Rattle.a429_text.specs.declared.csv_line.CsvLine.{CsvLine}
use Rattle.a429_import.specs.declared.rows.ImportRow.{ImportRow}
use Rattle.a429_import.specs.declared.rows.RowNumbers.{RowNumbers}
use Rattle.a429_import.specs.declared.rows.RowTexts.{RowTexts}
use Rattle.a429_import.specs.ImportFields.{if_group, in_32_bits, micros_in, is_any, is_bit, is_high, is_low, is_mark, kilobits_in, may_be_thousands, label_in, millis_in, number_in, padded, parted_millis, rate_in, sdi_digits, sdi_in, hold_in, together, worded_rate}
use Rattle.a429_import.specs.declared.intervals.IntervalForm.{IntervalForm}
use Rattle.a429_import.specs.declared.intervals.IntervalUnit.{IntervalUnit}
use Rattle.a429_import.specs.declared.intervals.IntervalUnit.TheVariants.{Hertz, Micros, Millis}
use Rattle.a429_import.specs.ImportIntervals.{both_in, interval_in, limit_in, limit_of_both, ordered, parted, is_divider, takes_second, value_in}
use Rattle.a429_import.specs.ImportWords.{unwrapped}
use Rattle.a429_import.specs.NumberRanges.{AreInRange, HaveRanges}
use Rattle.a429_import.specs.ImportRows.{◌>>=◌, CsvFault, column_field, column_form, names_group, numbers_of, texts_of, joined, row_of, first_clash, agreed, limited, next_row, rows_after, unless_wrong, rows_stated, says_nothing, with_line, with_row, without_notes, wrong_column}
use Rattle.a429_import.specs.ImportLimits.{too_many}

-- ---- fields

in_bits : (o : Option ℕ) (n : ℕ) → option_and_then in_32_bits o ≡ Some n → n < 2 ^ 32
in_bits None n h = cc
in_bits (Some m) n h = let (less, same) = cond_some (nat_lt m (2 ^ 32)) m n h in subst (λ (k : ℕ). k < 2 ^ 32) same (ltb-true m (2 ^ 32) less)

number_in_range : (field : List ℕ) (n : ℕ) → number_in field ≡ Some n → n < 2 ^ 32
unfolding number_in
number_in_range field n h = in_bits (decimal_number field) n h

label_in_range : (field : List ℕ) (n : ℕ) → label_in field ≡ Some n → n < 256
unfolding label_in
label_in_range field n h = (written (padded (unwrapped field)) n h).0

digit_in_range : (digit : ℕ) (sdi : Option ℕ) → (if nat_le 48 digit && nat_le digit 51 then Some (Some (digit - 48)) else None) ≡ Some sdi → IfSome sdi (λ k. k < 4)
digit_in_range digit sdi h =
    let (within, same) = cond_some (nat_le 48 digit && nat_le digit 51) (Some (digit - 48)) sdi h in
    let few : digit ≤ 51 = leb-true digit 51 (and_parts (nat_le 48 digit) (nat_le digit 51) within).1 in
    let P : Option ℕ → Type 0 = λ o. IfSome o (λ k. k < 4) in
    let below : digit - 48 < 4 = omega arith in
    subst P same below

bit_few : (digit : ℕ) → is_bit digit ≡ true → digit ≤ 49
bit_few digit is = elim (or_parts (digit == 48) (digit == 49) is) [
  | inl low ↦ omega (arith, eqb-true digit 48 low)
  | inr high ↦ omega (arith, eqb-true digit 49 high)
]

bits_in_range : (high low : ℕ) (sdi : Option ℕ) → (if is_bit high && is_bit low then Some (Some (2 * (high - 48) + (low - 48))) else None) ≡ Some sdi → IfSome sdi (λ k. k < 4)
bits_in_range high low sdi h =
    let (both, same) = cond_some (is_bit high && is_bit low) (Some (2 * (high - 48) + (low - 48))) sdi h in
    let bits = and_parts (is_bit high) (is_bit low) both in
    let P : Option ℕ → Type 0 = λ o. IfSome o (λ k. k < 4) in
    let below : 2 * (high - 48) + (low - 48) < 4 = omega (arith, bit_few high bits.0, bit_few low bits.1) in
    subst P same below

digits_in_range : (field : List ℕ) (sdi : Option ℕ) → sdi_digits field ≡ Some sdi → IfSome sdi (λ k. k < 4)
digits_in_range [] sdi h = cc
digits_in_range (digit ∷ []) sdi h = digit_in_range digit sdi h
digits_in_range (high ∷ low ∷ []) sdi h = bits_in_range high low sdi h
digits_in_range (a ∷ b ∷ d ∷ more) sdi h = cc

any_or : (any : Bool) (field : List ℕ) (sdi : Option ℕ) → (if any then Some None else sdi_digits field) ≡ Some sdi → IfSome sdi (λ k. k < 4)
any_or true field None h = tt
any_or true field (Some n) h = cc
any_or false field sdi h = digits_in_range field sdi h

sdi_in_range : (field : List ℕ) (sdi : Option ℕ) → sdi_in field ≡ Some sdi → IfSome sdi (λ k. k < 4)
unfolding sdi_in
sdi_in_range field sdi h = any_or (is_any (unwrapped field)) (unwrapped field) sdi h

together_in_range : (millis micros : Option ℕ) (n : ℕ) → together millis micros ≡ Some n → n < 2 ^ 32
together_in_range None micros n h = cc
together_in_range (Some a) None n h = cc
together_in_range (Some a) (Some b) n h =
    let (less, same) = cond_some (nat_lt a 4294967 && nat_lt b 1000) (a * 1000 + b) n h in
    let parts = and_parts (nat_lt a 4294967) (nat_lt b 1000) less in
    omega (arith, same, ltb-true a 4294967 parts.0, ltb-true b 1000 parts.1)

parted_in_range : (field : List ℕ) (place : Option ℕ) (n : ℕ) → parted_millis field place ≡ Some n → n < 2 ^ 32
parted_in_range field None n h = together_in_range (decimal_number field) (Some 0) n h
parted_in_range field (Some place) n h = together_in_range (decimal_number (take place field)) (micros_in (drop (place + 1) field)) n h

millis_or : (thousands : Bool) (field : List ℕ) (place : Option ℕ) (n : ℕ) → (if thousands then None else parted_millis field place) ≡ Some n → n < 2 ^ 32
millis_or true field place n h = cc
millis_or false field place n h = parted_in_range field place n h

millis_in_range : (separator : ℕ) (field : List ℕ) (n : ℕ) → millis_in separator field ≡ Some n → n < 2 ^ 32
unfolding millis_in
millis_in_range separator field n h = millis_or (may_be_thousands separator field) field (position (is_mark separator) field) n h

word_in_range : (high low : Bool) (n : ℕ) → (if high then Some 100000 else if low then Some 12500 else None) ≡ Some n → n < 2 ^ 32
word_in_range true low n h = let same : 100000 ≡ n = cc in omega (arith, same)
word_in_range false true n h = let same : 12500 ≡ n = cc in omega (arith, same)
word_in_range false false n h = cc

either_in_range : (a b : Option ℕ) (n : ℕ) → ((m : ℕ) → a ≡ Some m → m < 2 ^ 32) → ((m : ℕ) → b ≡ Some m → m < 2 ^ 32) → option_or a b ≡ Some n → n < 2 ^ 32
either_in_range None b n first second h = second n h
either_in_range (Some m) b n first second h = first n h

kilobits_in_range : (number : Option (List ℕ)) (n : ℕ) → option_and_then (millis_in 44) number ≡ Some n → n < 2 ^ 32
kilobits_in_range None n h = cc
kilobits_in_range (Some field) n h = millis_in_range 44 field n h

rate_in_range : (field : List ℕ) (n : ℕ) → rate_in field ≡ Some n → n < 2 ^ 32
unfolding rate_in
rate_in_range field n h =
    either_in_range (number_in field) (option_or (worded_rate field) (kilobits_in field)) n (number_in_range field)
    (λ m. either_in_range (worded_rate field) (kilobits_in field) m (word_in_range (is_high field) (is_low field)) (kilobits_in_range _)) h

value_in_range : (unit : IntervalUnit) (separator : ℕ) (field : List ℕ) (n : ℕ) → value_in unit separator field ≡ Some n → n < 2 ^ 32
value_in_range Micros separator field n h = number_in_range field n h
value_in_range Millis separator field n h = millis_in_range separator field n h
value_in_range Hertz separator field n h = millis_in_range separator field n h

quotient_in_range : (rate : ℕ) → 0 < rate → 10 ^ 9 / rate ≤ 10 ^ 9
quotient_in_range rate some =
    let parts : 10 ^ 9 / rate * rate + 10 ^ 9 % rate ≡ 10 ^ 9 = div-add-mod' (10 ^ 9) rate in
    let few : 10 ^ 9 / rate * 1 ≤ 10 ^ 9 / rate * rate = mul-le-mul {n₁ = 10 ^ 9 / rate} {m₁ = 1} {n₂ = 10 ^ 9 / rate} {m₂ = rate} (omega arith) (omega (arith, some)) in
    omega (arith, parts, few)

up_by : (exact : Bool) (rate n : ℕ) → 10 ^ 9 / rate ≤ 10 ^ 9 → Some (10 ^ 9 / rate + (if exact then 0 else 1)) ≡ Some n → n < 2 ^ 32
up_by true rate n few h = omega (arith, same_Some _ n h, few)
up_by false rate n few h = omega (arith, same_Some _ n h, few)

positive : (rate : ℕ) → (rate == 0) ≡ false → 0 < rate
positive zero h = cc
positive (suc k) h = omega arith

up_if : (none exact : Bool) (rate n : ℕ) → (none ≡ false → 0 < rate) → (if none then None else Some (10 ^ 9 / rate + (if exact then 0 else 1))) ≡ Some n → n < 2 ^ 32
up_if true exact rate n some h = cc
up_if false exact rate n some h = up_by exact rate n (quotient_in_range rate (some refl)) h

down_if : (none : Bool) (rate n : ℕ) → (none ≡ false → 0 < rate) → (if none then None else Some (10 ^ 9 / rate)) ≡ Some n → n < 2 ^ 32
down_if true rate n some h = cc
down_if false rate n some h = omega (arith, same_Some (10 ^ 9 / rate) n h, quotient_in_range rate (some refl))

limit_in_range : (is_least : Bool) (unit : IntervalUnit) (value n : ℕ) → value < 2 ^ 32 → limit_in is_least unit value ≡ Some n → n < 2 ^ 32
limit_in_range is_least Micros value n small h = subst (λ (k : ℕ). k < 2 ^ 32) (same_Some value n h) small
limit_in_range is_least Millis value n small h = subst (λ (k : ℕ). k < 2 ^ 32) (same_Some value n h) small
limit_in_range true Hertz value n small h = up_if (value == 0) (10 ^ 9 % value == 0) value n (positive value) h
limit_in_range false Hertz value n small h = down_if (value == 0) value n (positive value) h

one_in_range : (is_least : Bool) (unit : IntervalUnit) (value : Option ℕ) (n : ℕ) → ((k : ℕ) → value ≡ Some k → k < 2 ^ 32) → option_and_then (limit_in is_least unit) value ≡ Some n → n < 2 ^ 32
one_in_range is_least unit None n each h = cc
one_in_range is_least unit (Some value) n each h = limit_in_range is_least unit value n (each value refl) h

abbrev AreSmall : ℕ × ℕ → Type 0
AreSmall both = (both.0 < 2 ^ 32) × (both.1 < 2 ^ 32)

pair_in_range : (fits : Bool) (a b : ℕ) (both : ℕ × ℕ) → a < 2 ^ 32 → b < 2 ^ 32 → (if fits then Some (a, b) else None) ≡ Some both → AreSmall both
pair_in_range true a b both first second h = subst AreSmall (same_Some (a, b) both h) (first, second)
pair_in_range false a b both first second h = cc

ordered_in_range : (a b : Option ℕ) (both : ℕ × ℕ) → ((k : ℕ) → a ≡ Some k → k < 2 ^ 32) → ((k : ℕ) → b ≡ Some k → k < 2 ^ 32) → ordered a b ≡ Some both → AreSmall both
ordered_in_range None b both first second h = cc
ordered_in_range (Some a) None both first second h = cc
ordered_in_range (Some a) (Some b) both first second h = pair_in_range (nat_le a b) a b both (first a refl) (second b refl) h

both_in_range : (unit : IntervalUnit) (separator : ℕ) (field : List ℕ) (place : Option ℕ) (both : ℕ × ℕ) → option_and_then (parted unit separator field) place ≡ Some both → AreSmall both
both_in_range unit separator field None both h = cc
both_in_range unit separator field (Some place) both h = ordered_in_range _ _ both (value_in_range unit separator _) (value_in_range unit separator _) h

either_is_small : (second : Bool) (both : ℕ × ℕ) → AreSmall both → (if second then both.1 else both.0) < 2 ^ 32
either_is_small true both small = small.1
either_is_small false both small = small.0

of_both_in_range : (is_least : Bool) (unit : IntervalUnit) (both : Option (ℕ × ℕ)) (n : ℕ) → ((p : ℕ × ℕ) → both ≡ Some p → AreSmall p) → option_and_then (limit_of_both is_least unit) both ≡ Some n → n < 2 ^ 32
of_both_in_range is_least unit None n each h = cc
of_both_in_range is_least unit (Some both) n each h =
    limit_in_range is_least unit (if takes_second is_least unit then both.1 else both.0) n (either_is_small (takes_second is_least unit) both (each both refl)) h

by_form : (has_both is_least : Bool) (unit : IntervalUnit) (separator : ℕ) (field : List ℕ) (n : ℕ)
    → (if has_both then option_and_then (limit_of_both is_least unit) (both_in unit separator field) else option_and_then (limit_in is_least unit) (value_in unit separator field)) ≡ Some n → n < 2 ^ 32
by_form true is_least unit separator field n h = of_both_in_range is_least unit (both_in unit separator field) n (both_in_range unit separator field (position is_divider field)) h
by_form false is_least unit separator field n h = one_in_range is_least unit (value_in unit separator field) n (value_in_range unit separator field) h

interval_in_range : (is_least : Bool) (form : IntervalForm) (separator : ℕ) (field : List ℕ) (n : ℕ) → interval_in is_least form separator field ≡ Some n → n < 2 ^ 32
unfolding interval_in
interval_in_range is_least form separator field n h = by_form form.has_both is_least form.unit separator field n h

stated_hold : (o : Option ℕ) (hold : Option ℕ) → ((n : ℕ) → o ≡ Some n → n < 2 ^ 32) → option_map (λ n. Some n) o ≡ Some hold → IfSome hold (λ k. k < 2 ^ 32)
stated_hold None hold small h = cc
stated_hold (Some n) None small h = tt
stated_hold (Some n) (Some m) small h = let same : n ≡ m = cc in subst (λ (k : ℕ). k < 2 ^ 32) same (small n refl)

none_or : (none : Bool) (field : List ℕ) (hold : Option ℕ) → (if none then Some None else option_map (λ n. Some n) (number_in field)) ≡ Some hold → IfSome hold (λ k. k < 2 ^ 32)
none_or true field None h = tt
none_or true field (Some n) h = cc
none_or false field hold h = stated_hold (number_in field) hold (number_in_range field) h

hold_in_range : (field : List ℕ) (hold : Option ℕ) → hold_in field ≡ Some hold → IfSome hold (λ k. k < 2 ^ 32)
unfolding hold_in
hold_in_range field hold h = none_or ((length field == 0) || bytes_eq field (codes "none")) field hold h

zero_or : (empty : Bool) (n : ℕ) → (if empty then Some 0 else None) ≡ Some n → n < 2 ^ 32
zero_or true n h = let same : 0 ≡ n = cc in omega (arith, same)
zero_or false n h = cc

none_if : (empty : Bool) (hold : Option ℕ) → ◌≡◌ {A = Option (Option ℕ)} (if empty then Some None else None) (Some hold) → IfSome hold (λ k. k < 2 ^ 32)
none_if true None h = tt
none_if true (Some n) h = cc
none_if false hold h = cc

rate_if : (named : Bool) (field : List ℕ) (n : ℕ) → if_group named rate_in 0 field ≡ Some n → n < 2 ^ 32
rate_if true field n h = rate_in_range field n h
rate_if false field n h = zero_or (length field == 0) n h

interval_if : (named is_least : Bool) (form : IntervalForm) (separator : ℕ) (field : List ℕ) (n : ℕ) → if_group named (interval_in is_least form separator) 0 field ≡ Some n → n < 2 ^ 32
interval_if true is_least form separator field n h = interval_in_range is_least form separator field n h
interval_if false is_least form separator field n h = zero_or (length field == 0) n h

hold_if : (named : Bool) (field : List ℕ) (hold : Option ℕ) → if_group named hold_in None field ≡ Some hold → IfSome hold (λ k. k < 2 ^ 32)
hold_if true field hold h = hold_in_range field hold h
hold_if false field hold h = none_if (length field == 0) hold h

-- ---- a row

-- what was bound in a call that succeeds
pub record Bound {A B E : Type 0} (x : Result A E) (f : A → Result B E) (b : B) : Type 0 where
  pub value : A
  pub was : x ≡ Ok value
  pub gives : f value ≡ Ok b

pub bound : {A B E : Type 0} (x : Result A E) (f : A → Result B E) (b : B) → (x >>= f) ≡ Ok b → Bound x f b
bound (Ok a) f b h = record { value = a; was = refl; gives = h }
bound (Err e) f b h = cc

found : {A : Type 0} (o : Option A) (c : ImportColumn) (a : A) → ok_or o c ≡ Ok a → o ≡ Some a
found None c a h = cc
found (Some x) c a h = let same : x ≡ a = cc in ap (λ y. Some y) same

pub same_ok : {A E : Type 0} (a b : A) → ◌≡◌ {A = Result A E} (Ok a) (Ok b) → a ≡ b
same_ok a b h = cc

numbers_in_range : (separator : ℕ) (heading fields : List (List ℕ)) (n : RowNumbers) → numbers_of separator heading fields ≡ Ok n → AreInRange n
unfolding numbers_of
numbers_in_range separator heading fields n h =
    let at = column_field heading fields in
    let rate = bound _ _ n h in
    let label = bound _ _ n rate.gives in
    let sdi = bound _ _ n label.gives in
    let least = bound _ _ n sdi.gives in
    let most = bound _ _ n least.gives in
    let hold = bound _ _ n most.gives in
    let same = same_ok _ n hold.gives in
    subst AreInRange same (record {
      rate = rate_if (names_group heading fields) (at Rate) rate.value (found _ Rate rate.value rate.was);
      label = label_in_range (at Label) label.value (found _ Label label.value label.was);
      sdi = sdi_in_range (at Sdi) sdi.value (found _ Sdi sdi.value sdi.was);
      least = interval_if (names_group heading fields) true (column_form heading MinUs) separator (at MinUs) least.value (found _ MinUs least.value least.was);
      most = interval_if (names_group heading fields) false (column_form heading MaxUs) separator (at MaxUs) most.value (found _ MaxUs most.value most.was);
      hold = hold_if (names_group heading fields) (at Hold) hold.value (found _ Hold hold.value hold.was);
    })

joined_in_range : (line : ℕ) (numbers : Result RowNumbers ImportColumn) (texts : Result RowTexts ImportColumn) (row : ImportRow)
    → ((n : RowNumbers) → numbers ≡ Ok n → AreInRange n) → joined line numbers texts ≡ Ok row → AreInRange row.numbers
joined_in_range line (Err c) texts row each h = cc
joined_in_range line (Ok n) (Err c) row each h = cc
joined_in_range line (Ok n) (Ok t) row each h = let same : n ≡ row.numbers = ap (λ (r : ImportRow). r.numbers) (same_ok _ row h) in subst AreInRange same (each n refl)

long_enough : (b : Bool) (x : Result ImportRow CsvFault) (f : CsvFault) (row : ImportRow) → (if b then x else Err f) ≡ Ok row → x ≡ Ok row
long_enough true x f row h = h
long_enough false x f row h = cc

row_in_range : (heading : List (List ℕ)) (line : CsvLine) (row : ImportRow) → row_of heading line ≡ Ok row → AreInRange row.numbers
unfolding row_of
row_in_range heading line row h =
    let fields = fields_of line.fields in
    joined_in_range line.number (numbers_of line.separator heading fields) (texts_of heading fields) row (numbers_in_range line.separator heading fields) (long_enough (length fields == length heading) _ _ row h)

-- ---- all rows

agreed_is : (line : ℕ) (row : ImportRow) (o : Option ImportColumn) (r : ImportRow) → agreed line row o ≡ Ok r → row ≡ r
agreed_is line row None r h = same_ok row r h
agreed_is line row (Some c) r h = cc

next_in_range : (heading : List (List ℕ)) (earlier : List ImportRow) (line : CsvLine) (row : ImportRow) → next_row heading earlier line ≡ Ok row → AreInRange row.numbers
next_in_range heading earlier line row h =
    let by_itself = bound (row_of heading line) (λ r. agreed line.number r (first_clash earlier r)) row h in
    let same = agreed_is line.number by_itself.value (first_clash earlier by_itself.value) row by_itself.gives in
    subst (λ (r : ImportRow). AreInRange r.numbers) same (row_in_range heading line by_itself.value by_itself.was)

one_more : (rows : List ImportRow) (row : ImportRow) → HaveRanges rows → AreInRange row.numbers → HaveRanges (rows ++ row ∷ [])
one_more [] row all here = (here, tt)
one_more (r ∷ rows) row all here = (all.0, one_more rows row all.1 here)

-- what is so of the rows before one more row, and of those with it
pub taken_as : (P : List ImportRow → Type 0) (line : ℕ) (rows : List ImportRow) (row : ImportRow) (all : List ImportRow) → with_row line rows row ≡ Ok all → P rows → P (rows ++ row ∷ []) → P all
taken_as P line rows row all h old new = by (says_nothing rows row) (too_many (rows ++ row ∷ []) row) h
  where
    by : (b : Bool) (o : Option ImportColumn) → (if b then Ok rows else limited line (rows ++ row ∷ []) o) ≡ Ok all → P all
    by true o is = subst P (same_ok rows all is) old
    by false None is = subst P (same_ok (rows ++ row ∷ []) all is) new
    by false (Some column) is = cc

-- a line that is taken
pub record TakesLine (heading : List (List ℕ)) (earlier : List ImportRow) (line : CsvLine) (lines : List CsvLine) (all : List ImportRow) : Type 0 where
  pub row : ImportRow
  pub next : next_row heading earlier line ≡ Ok row
  pub rows : List ImportRow
  pub taken : with_row line.number earlier row ≡ Ok rows
  pub rest : rows_after heading rows lines ≡ Ok all

pub line_taken : (heading : List (List ℕ)) (earlier : List ImportRow) (line : CsvLine) (lines : List CsvLine) (all : List ImportRow) → rows_after heading earlier (line ∷ lines) ≡ Ok all → TakesLine heading earlier line lines all
line_taken heading earlier line lines all h =
    let rows = bound (with_line heading earlier line) (λ rows. rows_after heading rows lines) all h in
    let row = bound (next_row heading earlier line) (λ row. with_row line.number earlier row) rows.value rows.was in
    record { row = row.value; next = row.was; rows = rows.value; taken = row.gives; rest = rows.gives }

after_in_range : (heading : List (List ℕ)) (lines : List CsvLine) (earlier rows : List ImportRow) → HaveRanges earlier → rows_after heading earlier lines ≡ Ok rows → HaveRanges rows
after_in_range heading [] earlier rows all h = subst HaveRanges (same_ok earlier rows h) all
after_in_range heading (line ∷ lines) earlier rows all h =
    let t = line_taken heading earlier line lines rows h in
    after_in_range heading lines t.rows rows (taken_as HaveRanges line.number earlier t.row t.rows t.taken all (one_more earlier t.row all (next_in_range heading earlier line t.row t.next))) t.rest

below_in_range : (heading : CsvLine) (lines : List CsvLine) (o : Option ImportColumn) (rows : List ImportRow) → unless_wrong heading lines o ≡ Ok rows → HaveRanges rows
below_in_range heading lines None rows h = after_in_range (fields_of heading.fields) (without_notes (fields_of heading.fields) lines) [] rows tt h
below_in_range heading lines (Some c) rows h = cc

-- the rows that lines state have numbers in range
pub stated_in_range : (lines : List CsvLine) (rows : List ImportRow) → rows_stated lines ≡ Ok rows → HaveRanges rows
unfolding rows_stated
stated_in_range [] rows h = cc
stated_in_range (heading ∷ lines) rows h = below_in_range heading lines (wrong_column (fields_of heading.fields)) rows h
