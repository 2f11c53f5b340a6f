-- The record has what an imported row says.
use Rattle.std.proofs.Common.{◌≡◌, ◌∙◌, ℕ, zero, suc, ◌+◌, cond, Bool, true, false, List, [], ◌∷◌, ◌++◌, length, map, Option, None, Some, Ok, inl, inr, ◌⊎◌, ap, ap₂, refl, sym, subst, arith, unwrap_or}
use Rattle.std.specs.Prelude.{◌||◌, ◌&&◌, ◌==◌, not, if◌then◌else◌, filter, slice_get}
use Rattle.std.specs.List.{AllByRecursion, list_any, position_from}
use Rattle.std.specs.Option.{option_or}
use Rattle.std.specs.Str.{bytes_eq}
use Rattle.std.proofs.lemmas.Bool.{eqb-true}
use Rattle.std.proofs.lemmas.Option.{same_Some}
use Rattle.std.proofs.lemmas.Slice.Eq.{bytes_eq-Decides}
use Rattle.csv.specs.Records.{fields_of}
use Rattle.a429_equipment.specs.SameStation.{same_sdi}
use Rattle.a429_equipment.specs.declared.rows.GroupRow.{GroupRow}
use Rattle.a429_equipment.specs.declared.rows.ReceiverRow.{ReceiverRow}
use Rattle.a429_table.proofs.Absence.{all_from}
use Rattle.a429_table.proofs.AtKeys.{get_mapped}
use Rattle.a429_import.specs.declared.fault.ImportColumn.{ImportColumn}
use Rattle.a429_import.specs.declared.fault.ImportColumn.TheVariants.{Receiver, Label, Sdi, Filters, Rate}
use Rattle.a429_import.specs.declared.firsts.Part.{Part}
use Rattle.a429_import.specs.declared.firsts.Part.TheVariants.{Receivers, Sources, Groups}
use Rattle.a429_text.specs.declared.csv_line.CsvLine.{CsvLine}
use Rattle.a429_import.specs.declared.rows.ImportRow.{ImportRow}
use Rattle.a429_import.specs.ImportRows.{agreed, clash, first_clash, next_row, other_clash, row_of, rows_after, rows_stated, source_clash, unless_wrong, without_notes, wrong_column}
use Rattle.a429_import.specs.ImportTables.{filters_stated, firsts, firsts_after, group_stated, groups_of, has_group, is_known, name_in, number_of, output_stated, outputs_stated, receiver_stated, record_stated, rows_of_group, same_name, source_stated, words}
use Rattle.a429_import.specs.ImportedRows.{HasOutputOfRow, HasSourceOfRow, IsInRecord, IsOutputOfRow, RowsAreInRecord}
use Rattle.a429_import.proofs.ImportRanges.{bound, line_taken, same_ok, taken_as}
use Rattle.a429_import.proofs.ImportRecords.{all_firsts}

-- ---- texts

same_bytes : (xs ys : List ℕ) → bytes_eq xs ys ≡ true → xs ≡ ys
same_bytes xs ys = (bytes_eq-Decides xs ys).0

same_again : (xs ys : List ℕ) → xs ≡ ys → bytes_eq xs ys ≡ true
same_again xs ys = (bytes_eq-Decides xs ys).1

-- ---- lists

pushed_at : {X : Type 0} (xs : List X) (y : X) (i : ℕ) (x : X) → slice_get (xs ++ y ∷ []) i ≡ Some x → (slice_get xs i ≡ Some x) ⊎ (y ≡ x)
pushed_at [] y zero x h = inr (same_Some y x h)
pushed_at [] y (suc i) x h = cc
pushed_at (z ∷ xs) y zero x h = inl h
pushed_at (z ∷ xs) y (suc i) x h = pushed_at xs y i x h

at_all : {X : Type 0} (P : X → Type 0) (xs : List X) (i : ℕ) (x : X) → AllByRecursion P xs → slice_get xs i ≡ Some x → P x
at_all P [] i x all h = cc
at_all P (y ∷ xs) zero x all h = subst P (same_Some y x h) all.0
at_all P (y ∷ xs) (suc i) x all h = at_all P xs i x all.1 h

-- a place in a list
abbrev pub IsAt : {X : Type 0} → List X → X → Type 0
IsAt xs x = (i : ℕ) × (slice_get xs i ≡ Some x)

kept_at : {X : Type 0} (p : X → Bool) (b : Bool) (y : X) (xs : List X) (x : X) → IsAt (filter p xs) x → IsAt (cond b (y ∷ filter p xs) (filter p xs)) x
kept_at p true y xs x h = (suc h.0, h.1)
kept_at p false y xs x h = h

filtered_at : {X : Type 0} (p : X → Bool) (xs : List X) (i : ℕ) (x : X) → slice_get xs i ≡ Some x → p x ≡ true → IsAt (filter p xs) x
filtered_at p [] i x h passes = cc
filtered_at p (y ∷ xs) zero x h passes = let here : p y ≡ true = ap p (same_Some y x h) ∙ passes in rw here (0, h)
filtered_at p (y ∷ xs) (suc i) x h passes = kept_at p (p y) y xs x (filtered_at p xs i x h passes)

-- what a search finds
record Found {X : Type 0} (p : X → Bool) (n : ℕ) (xs : List X) : Type 0 where
  at : ℕ
  element : X
  found : position_from p n xs ≡ Some (n + at)
  there : slice_get xs at ≡ Some element
  passes : p element ≡ true

found_or : {X : Type 0} (p : X → Bool) (n : ℕ) (x : X) (xs : List X) (b : Bool) → p x ≡ b → (list_any p xs ≡ true → Found p (n + 1) xs) → (b || list_any p xs) ≡ true → Found p n (x ∷ xs)
found_or p n x xs true is later h =
    let zero_more : n ≡ n + 0 = omega arith in
    record { at = 0; element = x; found = rw is (ap (λ k. Some k) zero_more); there = refl; passes = is }
found_or p n x xs false is later h =
    let f = later h in
    let more : n + 1 + f.at ≡ n + suc f.at = omega arith in
    record { at = suc f.at; element = f.element; found = rw is (f.found ∙ ap (λ k. Some k) more); there = f.there; passes = f.passes }

found_in : {X : Type 0} (p : X → Bool) (n : ℕ) (xs : List X) → list_any p xs ≡ true → Found p n xs
found_in p n [] h = cc
found_in p n (x ∷ xs) h = found_or p n x xs (p x) refl (found_in p (n + 1) xs) h

-- ---- rows that agree

pub record Agree (a b : ImportRow) : Type 0 where
  pub receiver : a.texts.source ≡ b.texts.source → a.texts.receiver ≡ b.texts.receiver
  pub label : a.texts.source ≡ b.texts.source → a.numbers.label ≡ b.numbers.label
  pub sdi : a.texts.source ≡ b.texts.source → a.numbers.sdi ≡ b.numbers.sdi
  pub filters : a.texts.receiver ≡ b.texts.receiver → a.texts.filters ≡ b.texts.filters
  pub rate : a.texts.group ≡ b.texts.group → a.numbers.rate ≡ b.numbers.rate

agree_itself : (a : ImportRow) → Agree a a
agree_itself a = record { receiver = λ h. refl; label = λ h. refl; sdi = λ h. refl; filters = λ h. refl; rate = λ h. refl }

agree_back : (a b : ImportRow) → Agree a b → Agree b a
agree_back a b h = record {
  receiver = λ e. sym (h.receiver (sym e));
  label = λ e. sym (h.label (sym e));
  sdi = λ e. sym (h.sdi (sym e));
  filters = λ e. sym (h.filters (sym e));
  rate = λ e. sym (h.rate (sym e));
}

none_or : (x y : Option ImportColumn) → option_or x y ≡ None → (x ≡ None) × (y ≡ None)
none_or None y h = (refl, h)
none_or (Some c) y h = cc

of_source : (a b c d : Bool) → (if not a then None else if not b then Some Receiver else if not c then Some Label else if not d then Some Sdi else None) ≡ None → a ≡ true
    → (b ≡ true) × (c ≡ true) × (d ≡ true)
of_source true true true true h is = (refl, refl, refl)
of_source true true true false h is = cc
of_source true true false d h is = cc
of_source true false c d h is = cc
of_source false b c d h is = cc

of_others : (a b c d : Bool) → (if a && not b then Some Filters else if c && not d then Some Rate else None) ≡ None → (a ≡ true → b ≡ true) × (c ≡ true → d ≡ true)
of_others true true true true h = (λ e. refl, λ e. refl)
of_others true true true false h = cc
of_others true true false d h = (λ e. refl, λ e. cc)
of_others true false c d h = cc
of_others false b true true h = (λ e. cc, λ e. refl)
of_others false b true false h = cc
of_others false b false d h = (λ e. cc, λ e. cc)

sdi_is : (a b : Option ℕ) → same_sdi a b ≡ true → a ≡ b
sdi_is None None h = refl
sdi_is None (Some n) h = cc
sdi_is (Some m) None h = cc
sdi_is (Some m) (Some n) h = ap (λ k. Some k) (eqb-true m n h)

clash_none : (a b : ImportRow) → clash a b ≡ None → Agree a b
unfolding clash
clash_none a b h =
    let parts = none_or (source_clash a b) (other_clash a b) h in
    let source = of_source (bytes_eq a.texts.source b.texts.source) (bytes_eq a.texts.receiver b.texts.receiver) (a.numbers.label == b.numbers.label) (same_sdi a.numbers.sdi b.numbers.sdi) parts.0 in
    let others = of_others (bytes_eq a.texts.receiver b.texts.receiver) (bytes_eq a.texts.filters b.texts.filters) (bytes_eq a.texts.group b.texts.group) (a.numbers.rate == b.numbers.rate) parts.1 in
    record {
      receiver = λ e. same_bytes a.texts.receiver b.texts.receiver (source (same_again a.texts.source b.texts.source e)).0;
      label = λ e. eqb-true a.numbers.label b.numbers.label (source (same_again a.texts.source b.texts.source e)).1;
      sdi = λ e. sdi_is a.numbers.sdi b.numbers.sdi (source (same_again a.texts.source b.texts.source e)).2;
      filters = λ e. same_bytes a.texts.filters b.texts.filters (others.0 (same_again a.texts.receiver b.texts.receiver e));
      rate = λ e. eqb-true a.numbers.rate b.numbers.rate (others.1 (same_again a.texts.group b.texts.group e));
    }

no_clash : (earlier : List ImportRow) (row : ImportRow) → first_clash earlier row ≡ None → AllByRecursion (λ e. Agree e row) earlier
no_clash [] row h = tt
no_clash (e ∷ es) row h = let parts = none_or (clash e row) (first_clash es row) h in (clash_none e row parts.0, no_clash es row parts.1)

-- any two of the rows agree
abbrev AllAgree : List ImportRow → Type 0
AllAgree rows = (i j : ℕ) (a b : ImportRow) → slice_get rows i ≡ Some a → slice_get rows j ≡ Some b → Agree a b

one_more : (rows : List ImportRow) (row : ImportRow) → AllAgree rows → AllByRecursion (λ e. Agree e row) rows → AllAgree (rows ++ row ∷ [])
one_more rows row agree each i j a b at_i at_j = elim (pushed_at rows row i a at_i) [
  | inl x ↦ elim (pushed_at rows row j b at_j) [
    | inl y ↦ agree i j a b x y
    | inr y ↦ subst (λ (r : ImportRow). Agree a r) y (at_all (λ e. Agree e row) rows i a each x)
  ]
  | inr x ↦ elim (pushed_at rows row j b at_j) [
    | inl y ↦ subst (λ (r : ImportRow). Agree r b) x (agree_back b row (at_all (λ e. Agree e row) rows j b each y))
    | inr y ↦ subst (λ (r : ImportRow). Agree r b) x (subst (λ (r : ImportRow). Agree row r) y (agree_itself row))
  ]
]

-- ---- the rows that lines state agree

agreed_none : (line : ℕ) (row : ImportRow) (o : Option ImportColumn) (r : ImportRow) → agreed line row o ≡ Ok r → (o ≡ None) × (row ≡ r)
agreed_none line row None r h = (refl, same_ok row r h)
agreed_none line row (Some c) r h = cc

next_agrees : (heading : List (List ℕ)) (earlier : List ImportRow) (line : CsvLine) (row : ImportRow) → next_row heading earlier line ≡ Ok row → AllByRecursion (λ e. Agree e row) earlier
next_agrees heading earlier line row h =
    let by_itself = bound (row_of heading line) (λ r. agreed line.number r (first_clash earlier r)) row h in
    let parts = agreed_none line.number by_itself.value (first_clash earlier by_itself.value) row by_itself.gives in
    subst (λ (r : ImportRow). AllByRecursion (λ e. Agree e r) earlier) parts.1 (no_clash earlier by_itself.value parts.0)

after_agree : (heading : List (List ℕ)) (lines : List CsvLine) (earlier rows : List ImportRow) → AllAgree earlier → rows_after heading earlier lines ≡ Ok rows → AllAgree rows
after_agree heading [] earlier rows agree h = subst AllAgree (same_ok earlier rows h) agree
after_agree heading (line ∷ lines) earlier rows agree h =
    let t = line_taken heading earlier line lines rows h in
    after_agree heading lines t.rows rows (taken_as AllAgree line.number earlier t.row t.rows t.taken agree (one_more earlier t.row agree (next_agrees heading earlier line t.row t.next))) t.rest

none_agree : AllAgree []
none_agree i j a b at_i at_j = cc

below_agree : (heading : CsvLine) (lines : List CsvLine) (o : Option ImportColumn) (rows : List ImportRow) → unless_wrong heading lines o ≡ Ok rows → AllAgree rows
below_agree heading lines None rows h = after_agree (fields_of heading.fields) (without_notes (fields_of heading.fields) lines) [] rows none_agree h
below_agree heading lines (Some c) rows h = cc

stated_agree : (lines : List CsvLine) (rows : List ImportRow) → rows_stated lines ≡ Ok rows → AllAgree rows
unfolding rows_stated
stated_agree [] rows h = cc
stated_agree (heading ∷ lines) rows h = below_agree heading lines (wrong_column (fields_of heading.fields)) rows h

-- ---- the first row of a name

last_or : (b : Bool) → (b || false) ≡ true → b ≡ true
last_or true h = refl
last_or false h = h

later_or : {X : Type 0} (p : X → Bool) (b : Bool) (xs : List X) (y : X) → (list_any p (xs ++ y ∷ []) ≡ true → (list_any p xs ≡ true) ⊎ (p y ≡ true))
    → (b || list_any p (xs ++ y ∷ [])) ≡ true → ((b || list_any p xs) ≡ true) ⊎ (p y ≡ true)
later_or p true xs y later h = inl refl
later_or p false xs y later h = later h

any_pushed : {X : Type 0} (p : X → Bool) (xs : List X) (y : X) → list_any p (xs ++ y ∷ []) ≡ true → (list_any p xs ≡ true) ⊎ (p y ≡ true)
any_pushed p [] y h = inr (last_or (p y) h)
any_pushed p (x ∷ xs) y h = later_or p (p x) xs y (any_pushed p xs y) h

or_true : (b : Bool) → (b || true) ≡ true
or_true true = refl
or_true false = refl

any_more : {X : Type 0} (p : X → Bool) (known : Bool) (x : X) (xs : List X) → list_any p xs ≡ true → list_any p (cond known [] (x ∷ []) ++ xs) ≡ true
any_more p true x xs h = h
any_more p false x xs h = rw h (or_true (p x))

-- an earlier row has the name, or one of the first rows does
abbrev KnownOrFirst : Part → List ℕ → List ImportRow → List ImportRow → Type 0
KnownOrFirst part name earlier rows =
    (list_any (λ e. bytes_eq (name_in part e) name) earlier ≡ true) ⊎ (list_any (λ f. bytes_eq name (name_in part f)) (firsts_after part earlier rows) ≡ true)

head_case : (part : Part) (name : List ℕ) (row : ImportRow) (rows earlier : List ImportRow) (b : Bool) → is_known part earlier row ≡ b → name_in part row ≡ name → KnownOrFirst part name earlier (row ∷ rows)
head_case part name row rows earlier true known same = inl (subst (λ (n : List ℕ). list_any (λ e. bytes_eq (name_in part e) n) earlier ≡ true) same known)
head_case part name row rows earlier false known same = inr (rw (known, same_again name (name_in part row) (sym same)) refl)

known_or_first : (part : Part) (name : List ℕ) (rows earlier : List ImportRow) (i : ℕ) (row : ImportRow) → slice_get rows i ≡ Some row → name_in part row ≡ name → KnownOrFirst part name earlier rows
known_or_first part name [] earlier i row h same = cc
known_or_first part name (r ∷ rows) earlier zero row h same = head_case part name r rows earlier (is_known part earlier r) refl (ap (name_in part) (same_Some r row h) ∙ same)
known_or_first part name (r ∷ rows) earlier (suc i) row h same = elim (known_or_first part name rows (earlier ++ r ∷ []) i row h same) [
  | inl known ↦ elim (any_pushed (λ e. bytes_eq (name_in part e) name) earlier r known) [
    | inl before ↦ inl before
    | inr here ↦ head_case part name r rows earlier (is_known part earlier r) refl (same_bytes (name_in part r) name here)
  ]
  | inr first ↦ inr (any_more (λ f. bytes_eq name (name_in part f)) (is_known part earlier r) r (firsts_after part (earlier ++ r ∷ []) rows) first)
]

-- the first row of the name of a row, at the number of that name
pub record First (part : Part) (rows : List ImportRow) (row : ImportRow) : Type 0 where
  pub first : ImportRow
  pub there : slice_get (firsts part rows) (number_of part rows (name_in part row)) ≡ Some first
  pub named : name_in part first ≡ name_in part row
  pub among : IsAt rows first

none_earlier : (part : Part) (name : List ℕ) (rows : List ImportRow) → KnownOrFirst part name [] rows → list_any (λ f. bytes_eq name (name_in part f)) (firsts part rows) ≡ true
none_earlier part name rows (inl known) = cc
none_earlier part name rows (inr first) = first

pub first_of : (part : Part) (rows : List ImportRow) (i : ℕ) (row : ImportRow) → slice_get rows i ≡ Some row → First part rows row
first_of part rows i row h =
    let name = name_in part row in
    let test : ImportRow → Bool = λ f. bytes_eq name (name_in part f) in
    let f = found_in test 0 (firsts part rows) (none_earlier part name rows (known_or_first part name rows [] i row h refl)) in
    let number : number_of part rows name ≡ f.at = ap (λ (o : Option ℕ). unwrap_or o 0) f.found ∙ omega arith in
    record {
      first = f.element;
      there = ap (slice_get (firsts part rows)) number ∙ f.there;
      named = sym (same_bytes name (name_in part f.element) f.passes);
      among = at_all (IsAt rows) (firsts part rows) f.at f.element (all_firsts (IsAt rows) part rows [] (all_from (IsAt rows) rows (λ k x at. (k, at)))) f.there;
    }

-- ---- a row in the record

same_group : (a b : ImportRow) → a.texts.group ≡ b.texts.group → Agree a b → group_stated a ≡ group_stated b
same_group a b named agree = let group : List ℕ → ℕ → GroupRow = λ n r. record { name = n; rate = r } in ap₂ group named (agree.rate named)

same_receiver : (a b : ImportRow) → a.texts.receiver ≡ b.texts.receiver → Agree a b → receiver_stated a ≡ receiver_stated b
same_receiver a b named agree =
    let receiver : List ℕ → List ℕ → ReceiverRow = λ n fs. record { name = n; filters = filters_stated (words fs) } in
    ap₂ receiver named (agree.filters named)

module _ (rows : List ImportRow) (agree : AllAgree rows) (i : ℕ) (row : ImportRow) (at : slice_get rows i ≡ Some row) where
  agrees : (part : Part) (f : First part rows row) → Agree f.first row
  agrees part f = agree f.among.0 i f.first row f.among.1 at

  receiver_at : slice_get (map receiver_stated (firsts Receivers rows)) (number_of Receivers rows row.texts.receiver) ≡ Some (receiver_stated row)
  receiver_at =
      let f = first_of Receivers rows i row at in
      get_mapped receiver_stated (firsts Receivers rows) (number_of Receivers rows row.texts.receiver) f.first f.there
      ∙ ap (λ r. Some r) (same_receiver f.first row f.named (agrees Receivers f))

  has_source : HasSourceOfRow (record_stated rows) row (number_of Sources rows row.texts.source)
  unfolding record_stated
  has_source =
      let f = first_of Sources rows i row at in
      let agree_here = agrees Sources f in
      let back = subst (λ (name : List ℕ). slice_get (map receiver_stated (firsts Receivers rows)) (number_of Receivers rows name) ≡ Some (receiver_stated row)) (sym (agree_here.receiver f.named)) receiver_at in (
        source_stated rows f.first,
        get_mapped (source_stated rows) (firsts Sources rows) (number_of Sources rows row.texts.source) f.first f.there,
        record {
          name = f.named;
          label = agree_here.label f.named;
          sdi = agree_here.sdi f.named;
          receiver = back;
        },
      )

  is_output : IsOutputOfRow (record_stated rows) row (output_stated rows row)
  is_output = record { least = refl; most = refl; hold = refl; source = has_source }

  has_output : has_group row ≡ true → HasOutputOfRow (record_stated rows) row
  unfolding record_stated
  has_output grouped =
      let f = first_of Groups rows i row at in
      let own : has_group f.first ≡ true = ap (λ (name : List ℕ). not (length name == 0)) f.named ∙ grouped in
      let group = filtered_at has_group (firsts Groups rows) (number_of Groups rows row.texts.group) f.first f.there own in
      let mine = filtered_at (same_name Groups f.first) rows i row at (same_again f.first.texts.group row.texts.group f.named) in
      record {
        number = group.0;
        group = get_mapped group_stated (groups_of rows) group.0 f.first group.1 ∙ ap (λ g. Some g) (same_group f.first row f.named (agrees Groups f));
        outputs = outputs_stated rows f.first;
        outputs_are = get_mapped (outputs_stated rows) (groups_of rows) group.0 f.first group.1;
        place = mine.0;
        output = output_stated rows row;
        there = get_mapped (output_stated rows) (rows_of_group rows f.first) mine.0 row mine.1;
        is = is_output;
      }

  in_record : IsInRecord (record_stated rows) row
  in_record = record { source = (number_of Sources rows row.texts.source, has_source); output = has_output }

-- each row of lines that state a table is in its record
pub rows_in_record : RowsAreInRecord
rows_in_record lines rows h = all_from (IsInRecord (record_stated rows)) rows (λ i row at. in_record rows (stated_agree lines rows h) i row at)
