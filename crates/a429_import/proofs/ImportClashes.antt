-- A row that is compared with only three earlier rows: the first of its source, of its receiver and of its group.
use Rattle.std.proofs.Common.{◌≡◌, ◌∙◌, ℕ, suc, ◌+◌, ◌≤◌, ◌<◌, ◌&&◌, Bool, true, false, not, cond, List, [], ◌∷◌, ◌++◌, Option, None, Some, option_map, Ok, ap, ap₂, arith, refl, subst, sym, true≢false}
use Rattle.std.specs.Prelude.{IfSome, nat_lt, slice_get}
use Rattle.std.specs.List.{AllByRecursion}
use Rattle.std.specs.Option.{option_and_then, option_or}
use Rattle.std.specs.Str.{bytes_eq}
use Rattle.std.proofs.lemmas.Bool.{eq-eqb, eqb-true, le-ltb, lt-ltb}
use Rattle.std.proofs.lemmas.Option.{same_Some}
use Rattle.std.proofs.lemmas.Slice.Eq.{bytes_eq-Decides}
use Rattle.a429_equipment.specs.SameStation.{same_sdi}
use Rattle.a429_import.specs.declared.clashes.RowClash.{RowClash}
use Rattle.a429_import.specs.declared.fault.ImportColumn.{ImportColumn}
use Rattle.a429_import.specs.declared.fault.ImportColumn.TheVariants.{Filters, Label, Rate, Receiver, Sdi}
use Rattle.a429_import.specs.declared.firsts.Part.{Part}
use Rattle.a429_import.specs.declared.firsts.Part.TheVariants.{Receivers, Sources, Groups}
use Rattle.a429_text.specs.declared.csv_line.CsvLine.{CsvLine}
use Rattle.a429_import.specs.declared.rows.ImportRow.{ImportRow}
use Rattle.a429_import.specs.IndexedRows.{first_from}
use Rattle.a429_import.specs.ImportClashes.{Agree, clash_at, earlier_clash, first_part_clash, numbered, part_clash}
use Rattle.a429_import.specs.ImportRows.{agreed, clash, first_clash, next_row, row_of, with_row}
use Rattle.a429_import.specs.ImportTables.{name_in}
use Rattle.a429_import.proofs.ImportRanges.{bound, same_ok, taken_as}

-- ---- two rows

either : {X : Type 0} (b : Bool) (x : X) (o : Option X) → cond b (Some x) o ≡ option_or (cond b (Some x) None) o
either true x o = refl
either false x o = refl

-- a row is compared part by part
clash_parts : (a b : ImportRow) → clash a b ≡ option_or (part_clash Sources a b) (option_or (part_clash Receivers a b) (part_clash Groups a b))
unfolding clash
clash_parts a b =
    ap (option_or (part_clash Sources a b)) (either (bytes_eq a.texts.receiver b.texts.receiver && not (bytes_eq a.texts.filters b.texts.filters)) Filters (part_clash Groups a b))

none_of_two : {X : Type 0} (a b : Option X) → option_or a b ≡ None → (a ≡ None) × (b ≡ None)
none_of_two None b h = (refl, h)
none_of_two (Some x) b h = cc

each_part : (a b : ImportRow) → clash a b ≡ None → (part : Part) → part_clash part a b ≡ None
each_part a b h Sources = (none_of_two (part_clash Sources a b) _ (sym (clash_parts a b) ∙ h)).0
each_part a b h Receivers = (none_of_two (part_clash Receivers a b) (part_clash Groups a b) (none_of_two (part_clash Sources a b) _ (sym (clash_parts a b) ∙ h)).1).0
each_part a b h Groups = (none_of_two (part_clash Receivers a b) (part_clash Groups a b) (none_of_two (part_clash Sources a b) _ (sym (clash_parts a b) ∙ h)).1).1

-- the values in which two rows of one name must agree
abbrev StateAlike : Part → ImportRow → ImportRow → Type 0
StateAlike Receivers a b = a.texts.filters ≡ b.texts.filters
StateAlike Sources a b = (a.texts.receiver ≡ b.texts.receiver) × (a.numbers.label ≡ b.numbers.label) × (a.numbers.sdi ≡ b.numbers.sdi)
StateAlike Groups a b = a.numbers.rate ≡ b.numbers.rate

same_sdi-true : (a b : Option ℕ) → same_sdi a b ≡ true → a ≡ b
same_sdi-true None None h = refl
same_sdi-true None (Some b) h = cc
same_sdi-true (Some a) None h = cc
same_sdi-true (Some a) (Some b) h = ap (λ n. Some n) (eqb-true a b h)

same_sdi-itself : (a : Option ℕ) → same_sdi a a ≡ true
same_sdi-itself None = refl
same_sdi-itself (Some a) = eq-eqb a a refl

both_alike : (named alike : Bool) (column : ImportColumn) → cond (named && not alike) (Some column) None ≡ None → named ≡ true → alike ≡ true
both_alike true true column h e = refl
both_alike true false column h e = cc
both_alike false alike column h e = cc

both_from : (named alike : Bool) (column : ImportColumn) → (named ≡ true → alike ≡ true) → cond (named && not alike) (Some column) None ≡ None
both_from true true column h = refl
both_from true false column h = absurd (true≢false (sym (h refl)))
both_from false alike column h = refl

abbrev source_test : Bool → Bool → Bool → Bool → Option ImportColumn
source_test named receiver label sdi = cond (not named) None (cond (not receiver) (Some Receiver) (cond (not label) (Some Label) (cond (not sdi) (Some Sdi) None)))

all_alike : (named receiver label sdi : Bool) → source_test named receiver label sdi ≡ None → named ≡ true → (receiver ≡ true) × (label ≡ true) × (sdi ≡ true)
all_alike true true true true h e = (refl, refl, refl)
all_alike true true true false h e = cc
all_alike true true false sdi h e = cc
all_alike true false label sdi h e = cc
all_alike false receiver label sdi h e = cc

all_from : (named receiver label sdi : Bool) → (named ≡ true → (receiver ≡ true) × (label ≡ true) × (sdi ≡ true)) → source_test named receiver label sdi ≡ None
all_from true true true true h = refl
all_from true true true false h = absurd (true≢false (sym (h refl).2))
all_from true true false sdi h = absurd (true≢false (sym (h refl).1))
all_from true false label sdi h = absurd (true≢false (sym (h refl).0))
all_from false receiver label sdi h = refl

alike : (part : Part) (a b : ImportRow) → part_clash part a b ≡ None → name_in part a ≡ name_in part b → StateAlike part a b
alike Receivers a b h e =
    let x = a.texts in let y = b.texts in
    (bytes_eq-Decides x.filters y.filters).0 (both_alike (bytes_eq x.receiver y.receiver) (bytes_eq x.filters y.filters) Filters h ((bytes_eq-Decides x.receiver y.receiver).1 e))
alike Groups a b h e =
    eqb-true a.numbers.rate b.numbers.rate (both_alike (bytes_eq a.texts.group b.texts.group) _ Rate h ((bytes_eq-Decides a.texts.group b.texts.group).1 e))
alike Sources a b h e =
    let p = all_alike (bytes_eq a.texts.source b.texts.source) _ _ (same_sdi a.numbers.sdi b.numbers.sdi) h ((bytes_eq-Decides a.texts.source b.texts.source).1 e) in
    ((bytes_eq-Decides a.texts.receiver b.texts.receiver).0 p.0, eqb-true a.numbers.label b.numbers.label p.1, same_sdi-true a.numbers.sdi b.numbers.sdi p.2)

none_from : (part : Part) (a b : ImportRow) → (name_in part a ≡ name_in part b → StateAlike part a b) → part_clash part a b ≡ None
none_from Receivers a b h =
    let x = a.texts in let y = b.texts in
    both_from (bytes_eq x.receiver y.receiver) (bytes_eq x.filters y.filters) Filters (λ e. (bytes_eq-Decides x.filters y.filters).1 (h ((bytes_eq-Decides x.receiver y.receiver).0 e)))
none_from Groups a b h =
    both_from (bytes_eq a.texts.group b.texts.group) _ Rate (λ e. eq-eqb a.numbers.rate b.numbers.rate (h ((bytes_eq-Decides a.texts.group b.texts.group).0 e)))
none_from Sources a b h =
    all_from (bytes_eq a.texts.source b.texts.source) _ _ (same_sdi a.numbers.sdi b.numbers.sdi) (λ e.
    let p = h ((bytes_eq-Decides a.texts.source b.texts.source).0 e) in
    let P : Option ℕ → Type 0 = λ o. same_sdi a.numbers.sdi o ≡ true in
    ((bytes_eq-Decides a.texts.receiver b.texts.receiver).1 p.0, eq-eqb a.numbers.label b.numbers.label p.1, subst P p.2 (same_sdi-itself a.numbers.sdi)))

between : (part : Part) (a b c : ImportRow) → StateAlike part a b → StateAlike part a c → StateAlike part b c
between Receivers a b c p q = sym p ∙ q
between Groups a b c p q = sym p ∙ q
between Sources a b c p q = (sym p.0 ∙ q.0, sym p.1 ∙ q.1, sym p.2 ∙ q.2)

-- a row that agrees with the first of its name agrees with the others of that name, which agree with the first
passed_on : (part : Part) (first other row : ImportRow) → part_clash part first other ≡ None → part_clash part first row ≡ None → name_in part first ≡ name_in part row → part_clash part other row ≡ None
passed_on part first other row h k e = none_from part other row (λ same. between part first other row (alike part first other h (e ∙ sym same)) (alike part first row k e))

-- a row agrees with one of another name
other_name : (part : Part) (other row : ImportRow) → bytes_eq (name_in part row) (name_in part other) ≡ false → part_clash part other row ≡ None
other_name part other row h = none_from part other row (λ same. absurd (true≢false (sym ((bytes_eq-Decides (name_in part row) (name_in part other)).1 (sym same)) ∙ h)))

-- ---- a part of some rows

no_clash : (part : Part) (number : ℕ) (rows : List ImportRow) (row : ImportRow) → AllByRecursion (λ other. part_clash part other row ≡ None) rows → first_part_clash part number rows row ≡ None
no_clash part number [] row all = refl
no_clash part number (r ∷ rows) row all = ap (λ o. option_or (numbered number o) (first_part_clash part (number + 1) rows row)) all.0 ∙ no_clash part (number + 1) rows row all.1

after_first : (part : Part) (first : ImportRow) (rows : List ImportRow) (row : ImportRow) → AllByRecursion (λ later. clash first later ≡ None) rows → part_clash part first row ≡ None → name_in part first ≡ name_in part row
    → AllByRecursion (λ other. part_clash part other row ≡ None) rows
after_first part first [] row agree none same = tt
after_first part first (r ∷ rows) row agree none same = (passed_on part first r row (each_part first r agree.0 part) none same, after_first part first rows row agree.1 none same)

-- no row has the name
pub none_named : (part : Part) (number : ℕ) (rows : List ImportRow) (row : ImportRow) → first_from part (name_in part row) number rows ≡ None → first_part_clash part number rows row ≡ None
none_named part number [] row h = refl
none_named part number (r ∷ rows) row h = by (bytes_eq (name_in part row) (name_in part r)) refl h (none_named part (number + 1) rows row)
  where
    by : (b : Bool) → bytes_eq (name_in part row) (name_in part r) ≡ b → cond b (Some number) (first_from part (name_in part row) (number + 1) rows) ≡ None
        → (first_from part (name_in part row) (number + 1) rows ≡ None → first_part_clash part (number + 1) rows row ≡ None)
        → option_or (numbered number (part_clash part r row)) (first_part_clash part (number + 1) rows row) ≡ None
    by true e k rest = cc
    by false e k rest = ap (λ o. option_or (numbered number o) (first_part_clash part (number + 1) rows row)) (other_name part r row e) ∙ rest k

-- the first that has it
record IsCompared (part : Part) (number : ℕ) (rows : List ImportRow) (row : ImportRow) (n : ℕ) : Type 0 where
  place : ℕ
  counted : n ≡ number + place
  is : first_part_clash part number rows row ≡ numbered n (option_and_then (λ other. part_clash part other row) (slice_get rows place))

first_is : (number n : ℕ) (o : Option ImportColumn) (rest : Option RowClash) → number ≡ n → (o ≡ None → rest ≡ None) → option_or (numbered number o) rest ≡ numbered n o
first_is number n None rest same none = none refl
first_is number n (Some c) rest same none = let clash : ℕ → Option RowClash = λ k. Some (record { number = k; column = c }) in ap clash same

compared : (part : Part) (number : ℕ) (rows : List ImportRow) (row : ImportRow) (n : ℕ) → Agree rows → first_from part (name_in part row) number rows ≡ Some n → IsCompared part number rows row n
compared part number [] row n agree h = cc
compared part number (r ∷ rows) row n agree h = by (bytes_eq (name_in part row) (name_in part r)) refl h (compared part (number + 1) rows row n agree.1)
  where
    by : (b : Bool) → bytes_eq (name_in part row) (name_in part r) ≡ b → cond b (Some number) (first_from part (name_in part row) (number + 1) rows) ≡ Some n
        → (first_from part (name_in part row) (number + 1) rows ≡ Some n → IsCompared part (number + 1) rows row n)
        → IsCompared part number (r ∷ rows) row n
    by true e k rest =
        let same : number ≡ n = same_Some number n k in
        let named : name_in part r ≡ name_in part row = sym ((bytes_eq-Decides (name_in part row) (name_in part r)).0 e) in
        record {
          place = 0;
          counted = omega arith;
          is = first_is number n (part_clash part r row) _ same (λ none. no_clash part (number + 1) rows row (after_first part r rows row agree.0 none named));
        }
    by false e k rest =
        let later = rest k in
        record {
          place = suc later.place;
          counted = omega (arith, later.counted);
          is = ap (λ o. option_or (numbered number o) (first_part_clash part (number + 1) rows row)) (other_name part r row e) ∙ later.is;
        }

-- the row is compared with only that one
pub first_named_decides : (part : Part) (rows : List ImportRow) (row : ImportRow) (n : ℕ) → Agree rows → first_from part (name_in part row) 0 rows ≡ Some n → first_part_clash part 0 rows row ≡ clash_at part rows n row
first_named_decides part rows row n agree h =
    let c = compared part 0 rows row n agree h in
    let same : c.place ≡ n = omega (arith, c.counted) in
    c.is ∙ ap (λ k. numbered n (option_and_then (λ other. part_clash part other row) (slice_get rows k))) same

-- ---- all parts

abbrev IsFrom : ℕ → Option RowClash → Type 0
IsFrom n o = IfSome o (λ (c : RowClash). n ≤ c.number)

abbrev column_of : Option RowClash → Option ImportColumn
column_of o = option_map (λ (c : RowClash). c.column) o

from_here : (number : ℕ) (o : Option ImportColumn) (rest : Option RowClash) → IsFrom (number + 1) rest → IsFrom number (option_or (numbered number o) rest)
from_here number None None h = tt
from_here number None (Some c) h = omega arith
from_here number (Some c) rest h = omega arith

is_from : (part : Part) (number : ℕ) (rows : List ImportRow) (row : ImportRow) → IsFrom number (first_part_clash part number rows row)
is_from part number [] row = tt
is_from part number (r ∷ rows) row = from_here number (part_clash part r row) (first_part_clash part (number + 1) rows row) (is_from part (number + 1) rows row)

picked : (n : ℕ) (second : Bool) (a b : RowClash) → n ≤ a.number → n ≤ b.number → IsFrom n (cond second (Some b) (Some a))
picked n true a b h k = k
picked n false a b h k = h

earlier_from : (n : ℕ) (a b : Option RowClash) → IsFrom n a → IsFrom n b → IsFrom n (earlier_clash a b)
earlier_from n None b h k = k
earlier_from n (Some a) None h k = h
earlier_from n (Some a) (Some b) h k = picked n (nat_lt b.number a.number) a b h k

stays : (a : RowClash) (b : Option RowClash) → IsFrom a.number b → earlier_clash (Some a) b ≡ Some a
stays a None h = refl
stays a (Some b) h = ap (λ second. cond second (Some b) (Some a)) (le-ltb b.number a.number h)

overtakes : (a : Option RowClash) (b : RowClash) → IsFrom (b.number + 1) a → earlier_clash a (Some b) ≡ Some b
overtakes None b h = refl
overtakes (Some a) b h = let less : b.number < a.number = omega (arith, h) in ap (λ second. cond second (Some b) (Some a)) (lt-ltb b.number a.number less)

-- the first row that is contradicted, and then the other rows
first_or_later : (number : ℕ) (s r g : Option ImportColumn) (S R G : Option RowClash) → IsFrom (number + 1) S → IsFrom (number + 1) R → IsFrom (number + 1) G
    → column_of (earlier_clash (option_or (numbered number s) S) (earlier_clash (option_or (numbered number r) R) (option_or (numbered number g) G)))
    ≡ option_or (option_or s (option_or r g)) (column_of (earlier_clash S (earlier_clash R G)))
first_or_later number (Some c) r g S R G hs hr hg =
    let a : RowClash = record { number = number; column = c } in
    ap column_of (stays a (earlier_clash (option_or (numbered number r) R) (option_or (numbered number g) G)) (earlier_from number _ _ (from_here number r R hr) (from_here number g G hg)))
first_or_later number None (Some c) g S R G hs hr hg =
    let a : RowClash = record { number = number; column = c } in
    ap (λ o. column_of (earlier_clash S o)) (stays a (option_or (numbered number g) G) (from_here number g G hg)) ∙ ap column_of (overtakes S a hs)
first_or_later number None None (Some c) S R G hs hr hg =
    let a : RowClash = record { number = number; column = c } in
    ap (λ o. column_of (earlier_clash S o)) (overtakes R a hr) ∙ ap column_of (overtakes S a hs)
first_or_later number None None None S R G hs hr hg = refl

-- the first row that is contradicted is the first of a part
three_decide : (number : ℕ) (rows : List ImportRow) (row : ImportRow)
    → column_of (earlier_clash (first_part_clash Sources number rows row) (earlier_clash (first_part_clash Receivers number rows row) (first_part_clash Groups number rows row))) ≡ first_clash rows row
three_decide number [] row = refl
three_decide number (r ∷ rows) row =
    first_or_later number (part_clash Sources r row) (part_clash Receivers r row) (part_clash Groups r row) _ _ _
    (is_from Sources (number + 1) rows row) (is_from Receivers (number + 1) rows row) (is_from Groups (number + 1) rows row)
    ∙ ap₂ option_or (sym (clash_parts r row)) (three_decide (number + 1) rows row)

-- of the first of each part
pub first_of_three : (rows : List ImportRow) (row : ImportRow) (s r g first : Option RowClash) → s ≡ first_part_clash Sources 0 rows row → r ≡ first_part_clash Receivers 0 rows row → g ≡ first_part_clash Groups 0 rows row
    → first ≡ earlier_clash s (earlier_clash r g) → option_map (λ (c : RowClash). c.column) first ≡ first_clash rows row
first_of_three rows row s r g first of_source of_receiver of_group is =
    ap column_of (is ∙ ap₂ earlier_clash of_source (ap₂ earlier_clash of_receiver of_group)) ∙ three_decide 0 rows row

-- ---- an added row

all_push : {X : Type 0} (P : X → Type 0) (xs : List X) (y : X) → AllByRecursion P xs → P y → AllByRecursion P (xs ++ y ∷ [])
all_push P [] y all here = (here, tt)
all_push P (x ∷ xs) y all here = (all.0, all_push P xs y all.1 here)

agree_push : (rows : List ImportRow) (row : ImportRow) → Agree rows → first_clash rows row ≡ None → Agree (rows ++ row ∷ [])
agree_push [] row agree none = (tt, tt)
agree_push (r ∷ rows) row agree none =
    let p = none_of_two (clash r row) (first_clash rows row) none in
    (all_push (λ later. clash r later ≡ None) rows row agree.0 p.0, agree_push rows row agree.1 p.1)

pub agree_with : (line : ℕ) (rows : List ImportRow) (row : ImportRow) (all : List ImportRow) → Agree rows → first_clash rows row ≡ None → with_row line rows row ≡ Ok all → Agree all
agree_with line rows row all agree none h = taken_as Agree line rows row all h agree (agree_push rows row agree none)

taken : (line : ℕ) (row : ImportRow) (o : Option ImportColumn) (next : ImportRow) → agreed line row o ≡ Ok next → (row ≡ next) × (o ≡ None)
taken line row None next h = (same_ok row next h, refl)
taken line row (Some c) next h = cc

-- a row that is accepted contradicts no earlier one
pub next_agrees : (heading : List (List ℕ)) (earlier : List ImportRow) (line : CsvLine) (row : ImportRow) → next_row heading earlier line ≡ Ok row → first_clash earlier row ≡ None
next_agrees heading earlier line row h =
    let by_itself = bound (row_of heading line) (λ r. agreed line.number r (first_clash earlier r)) row h in
    let (same, none) = taken line.number by_itself.value (first_clash earlier by_itself.value) row by_itself.gives in
    subst (λ (r : ImportRow). first_clash earlier r ≡ None) same none
