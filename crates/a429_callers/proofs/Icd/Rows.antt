-- The rows that the lines of an interface control document state.
use Rattle.std.proofs.Common.{◌≡◌, ◌∙◌, ℕ, ◌<◌, ◌≤◌, ◌^◌, Bool, true, false, List, [], ◌∷◌, ◌++◌, length, map, get_or, drop, Option, None, Some, Result, Ok, Err, ap, sym, refl, arith, inl, inr, append_assoc, append-nil, eq-eqb, eqb-true, subst}
use Rattle.std.specs.Prelude.{◌==◌, ◌&&◌, IfSome, if◌then◌else◌, not, nat_lt, slice_get, slice_index_or}
use Rattle.std.specs.List.{AllByRecursion, AllZip, count_by, zip}
use Rattle.std.specs.Option.{option_map_or, option_or}
use Rattle.std.specs.Str.{bytes_eq}
use Rattle.std.proofs.lemmas.List.{length-map}
use Rattle.std.proofs.lemmas.Option.{same_Some, slice_get-get_or}
use Rattle.csv.specs.Records.{fields_of}
use Rattle.csv.specs.Writing.{read_back}
use Rattle.a429_word.proofs.Lists.{all_at}
use Rattle.a429_equipment.specs.NameForm.{is_name}
use Rattle.a429_equipment.specs.SameStation.{same_sdi}
use Rattle.a429_equipment.specs.Sound.{IsGroupRow, IsHold, IsInterval, IsRate, IsReceiverRow, IsSound, IsSourceRow}
use Rattle.a429_equipment.specs.TableRecord.{TableRecord, receiver_name}
use Rattle.a429_equipment.specs.declared.rows.GroupRow.{GroupRow}
use Rattle.a429_equipment.specs.declared.rows.OutputRow.{OutputRow}
use Rattle.a429_equipment.specs.declared.rows.ReceiverRow.{ReceiverRow}
use Rattle.a429_equipment.specs.declared.rows.SourceRow.{SourceRow}
use Rattle.a429_slots.specs.Planned.{HaveSources, IsPlanOf, IsPlannedAt, IsServed}
use Rattle.a429_slots.specs.Tables.{Placed, PlanTable, SlotTable, groups_of, outputs_of}
use Rattle.a429_cert.proofs.Again.{same_again}
use Rattle.a429_cert.proofs.CheckedPlans.{same_bytes}
use Rattle.a429_table.proofs.Absence.{all_from}
use Rattle.a429_import.specs.declared.fault.CsvFaultKind.TheVariants.{Form}
use Rattle.a429_import.specs.declared.fault.ImportColumn.{ImportColumn}
use Rattle.a429_import.specs.declared.fault.ImportColumn.TheVariants.{Filters, Label, Rate, Receiver, Sdi}
use Rattle.a429_text.specs.declared.csv_line.CsvLine.{CsvLine}
use Rattle.a429_import.specs.declared.rows.ImportRow.{ImportRow}
use Rattle.a429_documents.specs.Document.{icd_columns, icd_rows}
use Rattle.a429_documents.proofs.IcdRows.{groups_rows, icd_rows_are, output_row, output_rows}
use Rattle.a429_import.specs.ImportLimits.{has_too_many_filters, too_many}
use Rattle.a429_import.specs.ImportRows.{◌>>=◌, CsvFault, agreed, clash, first_clash, is_named, joined, limited, next_row, numbers_of, other_clash, row_of, rows_after, rows_stated, source_clash, texts_of, unless_wrong, with_row, without_notes, wrong_column, is_wrong}
use Rattle.a429_import.specs.ImportTables.{has_group, is_known, same_name, words}
use Rattle.a429_import.specs.ImportWords.{stepped, trimmed}
use Rattle.a429_import.specs.declared.firsts.Part.TheVariants.{Groups, Sources}
use Rattle.a429_import.proofs.FewRows.{HasFew, none_too_many}
use Rattle.a429_import.proofs.ImportNotes.{no_notes}
use Rattle.a429_import.specs.Imports.{AreLines, has_text}
use Rattle.a429_text.specs.Fields.{Field}
use Rattle.a429_text.specs.Sheets.{csv_text_of}
use Rattle.a429_callers.proofs.Icd.Fields.{texts, IsReadable, name_filled, read_row, row_back, row_by, row_filled, row_from}
use Rattle.a429_callers.proofs.Icd.Texts.{AreRowsOf, HaveTexts, lines_back, read_row_of}
use Rattle.a429_import.proofs.RowsInRecord.{IsAt}

-- ---- what is read

abbrev pub no_source : SourceRow
no_source = record { name = []; receiver = 0; label = 0; sdi = None }

-- the source of this number
abbrev pub source_at : TableRecord → ℕ → SourceRow
source_at e number = slice_index_or e.sources number no_source

-- the row of an output of a group
abbrev pub read_output : TableRecord → GroupRow → OutputRow → ImportRow
read_output e g o = read_row e.receivers g (source_at e o.source) o

-- the rows of groups, each with its outputs
abbrev pub read_groups : TableRecord → List GroupRow → List (List OutputRow) → List ImportRow
read_groups e [] outputs = []
read_groups e (g ∷ groups) [] = []
read_groups e (g ∷ groups) (os ∷ outputs) = map (read_output e g) os ++ read_groups e groups outputs

-- all of a table
abbrev pub read_table : TableRecord → List ImportRow
read_table e = read_groups e e.groups e.outputs

-- ---- lists

pub all_joined : {X : Type 0} (P : X → Type 0) (xs ys : List X) → AllByRecursion P xs → AllByRecursion P ys → AllByRecursion P (xs ++ ys)
all_joined P [] ys h k = k
all_joined P (x ∷ xs) ys h k = (h.0, all_joined P xs ys h.1 k)

zip_joined : {X Y : Type 0} (R : X → Y → Type 0) (xs : List X) (ys : List Y) (us : List X) (vs : List Y) → AllZip R xs ys → AllZip R us vs → AllZip R (xs ++ us) (ys ++ vs)
zip_joined R [] [] us vs h k = k
zip_joined R [] (y ∷ ys) us vs h k = absurd h
zip_joined R (x ∷ xs) [] us vs h k = absurd h
zip_joined R (x ∷ xs) (y ∷ ys) us vs h k = (h.0, zip_joined R xs ys us vs h.1 k)

-- ---- the rows of a sound table

-- the output, the group, the source and the receiver of a row
pub record IsRowOf (e : TableRecord) (row : ImportRow) : Type 0 where
  pub group : GroupRow
  pub group_at : IsAt e.groups group
  pub group_name : row.texts.group ≡ group.name
  pub rate : row.numbers.rate ≡ group.rate
  pub outputs : List OutputRow
  pub outputs_at : IsAt e.outputs outputs
  pub output : OutputRow
  pub output_at : IsAt outputs output
  pub number : ℕ
  pub sends : output.source ≡ number
  pub source : SourceRow
  pub source_at : slice_get e.sources number ≡ Some source
  pub source_name : row.texts.source ≡ source.name
  pub label : row.numbers.label ≡ source.label
  pub sdi : row.numbers.sdi ≡ source.sdi
  pub receiver : ReceiverRow
  pub receiver_at : slice_get e.receivers source.receiver ≡ Some receiver
  pub receiver_name : row.texts.receiver ≡ receiver.name
  pub filters : row.texts.filters ≡ []

module _ (e : TableRecord) (sound : IsSound e) where
  -- the source of an output
  pub source_there : (n : ℕ) → n < length e.sources → slice_get e.sources n ≡ Some (source_at e n)
  source_there n below = slice_get-get_or e.sources n no_source below

  pub receiver_there : (s : SourceRow) (n : ℕ) → slice_get e.sources n ≡ Some s → (r : ReceiverRow) × (slice_get e.receivers s.receiver ≡ Some r) × (receiver_name e.receivers s.receiver ≡ r.name)
  receiver_there s n there =
      let none : ReceiverRow = record { name = []; filters = None } in
      let below : s.receiver < length e.receivers = all_at (λ (s : SourceRow). s.receiver < length e.receivers) e.sources n s sound.known_receivers there in
      let r : ReceiverRow = slice_index_or e.receivers s.receiver none in
      let at : slice_get e.receivers s.receiver ≡ Some r = slice_get-get_or e.receivers s.receiver none below in
      (r, at, ap (λ (o : Option ReceiverRow). option_map_or (λ (r : ReceiverRow). r.name) o []) at)

  row_is_of : (g : GroupRow) (os : List OutputRow) (o : OutputRow) → IsAt e.groups g → IsAt e.outputs os → IsAt os o → o.source < length e.sources → IsRowOf e (read_output e g o)
  row_is_of g os o at listed of below =
      let there = source_there o.source below in
      let r = receiver_there (source_at e o.source) o.source there in
      record {
        group = g;
        group_at = at;
        group_name = refl;
        rate = refl;
        outputs = os;
        outputs_at = listed;
        output = o;
        output_at = of;
        number = o.source;
        sends = refl;
        source = source_at e o.source;
        source_at = there;
        source_name = refl;
        label = refl;
        sdi = refl;
        receiver = r.0;
        receiver_at = r.1;
        receiver_name = r.2;
        filters = refl;
      }

  rows_of_group_are : (g : GroupRow) (os these : List OutputRow) → IsAt e.groups g → IsAt e.outputs os → AllByRecursion (IsAt os) these → HaveSources e.sources these → AllByRecursion (IsRowOf e) (map (read_output e g) these)
  rows_of_group_are g os [] at listed of known = tt
  rows_of_group_are g os (o ∷ these) at listed of known = (row_is_of g os o at listed of.0 known.0, rows_of_group_are g os these at listed of.1 known.1)

  rows_of_groups_are : (groups : List GroupRow) (outputs : List (List OutputRow)) → AllByRecursion (IsAt e.groups) groups → AllByRecursion (IsAt e.outputs) outputs → AllByRecursion (HaveSources e.sources) outputs
      → AllByRecursion (IsRowOf e) (read_groups e groups outputs)
  rows_of_groups_are [] outputs at listed known = tt
  rows_of_groups_are (g ∷ groups) [] at listed known = tt
  rows_of_groups_are (g ∷ groups) (os ∷ outputs) at listed known =
      all_joined (IsRowOf e) (map (read_output e g) os) (read_groups e groups outputs)
      (rows_of_group_are g os os at.0 listed.0 (all_from (IsAt os) os (λ i o of. (i, of))) known.0) (rows_of_groups_are groups outputs at.1 listed.1 known.1)

  pub rows_are : AllByRecursion (IsRowOf e) (read_table e)
  rows_are = rows_of_groups_are e.groups e.outputs (all_from (IsAt e.groups) e.groups (λ i g at. (i, at))) (all_from (IsAt e.outputs) e.outputs (λ i os at. (i, at))) sound.known_sources

  -- each names a group
  pub has_group_of : (row : ImportRow) → IsRowOf e row → has_group row ≡ true
  has_group_of row R =
      let good : IsGroupRow R.group = all_at IsGroupRow e.groups R.group_at.0 R.group sound.group_rows R.group_at.1 in
      ap (λ (name : List ℕ). not (length name == 0)) R.group_name ∙ name_filled R.group.name good.0

  kept_row : (line : ℕ) (earlier : List ImportRow) (row : ImportRow) → IsRowOf e row → too_many (earlier ++ row ∷ []) row ≡ None → with_row line earlier row ≡ Ok (earlier ++ row ∷ [])
  kept_row line earlier row R none =
      let all : List ImportRow = earlier ++ row ∷ [] in
      ap (λ (b : Bool). if not b && is_known Sources earlier row then Ok earlier else limited line all (too_many all row)) (has_group_of row R) ∙ ap (limited line all) none

  -- a row of the document has no filters
  no_filters : (row : ImportRow) → IsRowOf e row → has_too_many_filters row ≡ false
  unfolding words
  no_filters row R = ap (λ (text : List ℕ). nat_lt 32 (length (words text))) R.filters

  -- few outputs of each group
  abbrev pub HaveFewOutputs : List ImportRow → Type 0
  HaveFewOutputs all = (row : ImportRow) → IsRowOf e row → count_by (same_name Groups row) all ≤ 128

  -- ---- which state nothing otherwise

  pub one_source : (a b : ImportRow) (A : IsRowOf e a) (B : IsRowOf e b) → a.texts.source ≡ b.texts.source → A.source ≡ B.source
  one_source a b A B same =
      let one : A.number ≡ B.number = sound.own_names A.number B.number A.source B.source A.source_at B.source_at (sym A.source_name ∙ same ∙ B.source_name) in
      same_Some A.source B.source (sym A.source_at ∙ ap (slice_get e.sources) one ∙ B.source_at)

  pub one_group : (a b : ImportRow) (A : IsRowOf e a) (B : IsRowOf e b) → a.texts.group ≡ b.texts.group → A.group ≡ B.group
  one_group a b A B same =
      let one : A.group_at.0 ≡ B.group_at.0 = sound.own_groups A.group_at.0 B.group_at.0 A.group B.group A.group_at.1 B.group_at.1 (sym A.group_name ∙ same ∙ B.group_name) in
      same_Some A.group B.group (sym A.group_at.1 ∙ ap (slice_get e.groups) one ∙ B.group_at.1)

  pub one_receiver : (a b : ImportRow) (A : IsRowOf e a) (B : IsRowOf e b) → a.texts.source ≡ b.texts.source → a.texts.receiver ≡ b.texts.receiver
  one_receiver a b A B same =
      let one = one_source a b A B same in
      let receiver : A.receiver ≡ B.receiver = same_Some A.receiver B.receiver (sym A.receiver_at ∙ ap (λ (s : SourceRow). slice_get e.receivers s.receiver) one ∙ B.receiver_at) in
      A.receiver_name ∙ ap (λ (r : ReceiverRow). r.name) receiver ∙ sym B.receiver_name

  sdi_again : (sdi : Option ℕ) → same_sdi sdi sdi ≡ true
  sdi_again None = refl
  sdi_again (Some n) = eq-eqb n n refl

  no_source_clash : (a b c d : Bool) → (a ≡ true → (b ≡ true) × (c ≡ true) × (d ≡ true)) → (if not a then None else if not b then Some Receiver else if not c then Some Label else if not d then Some Sdi else None) ≡ None
  no_source_clash false b c d h = refl
  no_source_clash true b c d h = let all = h refl in rw (all.0, all.1, all.2) refl

  no_other_clash : (a b c d : Bool) → b ≡ true → (c ≡ true → d ≡ true) → (if a && not b then Some Filters else if c && not d then Some Rate else None) ≡ None
  no_other_clash true b true d one two = rw (one, two refl) refl
  no_other_clash true b false d one two = rw one refl
  no_other_clash false b true d one two = rw (two refl) refl
  no_other_clash false b false d one two = refl

  no_clash : (a b : ImportRow) → IsRowOf e a → IsRowOf e b → clash a b ≡ None
  unfolding clash
  no_clash a b A B =
      let of_source : source_clash a b ≡ None =
      no_source_clash (bytes_eq a.texts.source b.texts.source) (bytes_eq a.texts.receiver b.texts.receiver) (a.numbers.label == b.numbers.label) (same_sdi a.numbers.sdi b.numbers.sdi)
      (λ t.
      let names = same_bytes a.texts.source b.texts.source t in
      let one = one_source a b A B names in
      let sdi : a.numbers.sdi ≡ b.numbers.sdi = A.sdi ∙ ap (λ (s : SourceRow). s.sdi) one ∙ sym B.sdi in (
        same_again a.texts.receiver b.texts.receiver (one_receiver a b A B names),
        eq-eqb a.numbers.label b.numbers.label (A.label ∙ ap (λ (s : SourceRow). s.label) one ∙ sym B.label),
        ap (same_sdi a.numbers.sdi) (sym sdi) ∙ sdi_again a.numbers.sdi,
      )) in
      let of_others : other_clash a b ≡ None =
      no_other_clash (bytes_eq a.texts.receiver b.texts.receiver) (bytes_eq a.texts.filters b.texts.filters) (bytes_eq a.texts.group b.texts.group) (a.numbers.rate == b.numbers.rate)
      (same_again a.texts.filters b.texts.filters (A.filters ∙ sym B.filters))
      (λ t. eq-eqb a.numbers.rate b.numbers.rate (A.rate ∙ ap (λ (g : GroupRow). g.rate) (one_group a b A B (same_bytes a.texts.group b.texts.group t)) ∙ sym B.rate)) in
      ap (λ (x : Option ImportColumn). option_or x (other_clash a b)) of_source ∙ of_others

  none_clashes : (earlier : List ImportRow) (row : ImportRow) → AllByRecursion (IsRowOf e) earlier → IsRowOf e row → first_clash earlier row ≡ None
  none_clashes [] row all here = refl
  none_clashes (other ∷ earlier) row all here = ap (λ (x : Option ImportColumn). option_or x (first_clash earlier row)) (no_clash other row all.0 here) ∙ none_clashes earlier row all.1 here

  next_is : (heading : List (List ℕ)) (earlier : List ImportRow) (line : CsvLine) (row : ImportRow) → row_of heading line ≡ Ok row → AllByRecursion (IsRowOf e) earlier → IsRowOf e row → next_row heading earlier line ≡ Ok row
  next_is heading earlier line row is all here = rw is (ap (agreed line.number row) (none_clashes earlier row all here))

  after_all : (heading : List (List ℕ)) (lines : List CsvLine) (rows earlier : List ImportRow) → AllZip (λ line row. row_of heading line ≡ Ok row) lines rows → AllByRecursion (IsRowOf e) earlier → AllByRecursion (IsRowOf e) rows
      → HasFew (earlier ++ rows) → HaveFewOutputs (earlier ++ rows) → rows_after heading earlier lines ≡ Ok (earlier ++ rows)
  after_all heading [] [] earlier each all more few outputs = ap (λ (rows : List ImportRow). Ok rows) (sym (append-nil earlier))
  after_all heading [] (row ∷ rows) earlier each all more few outputs = absurd each
  after_all heading (line ∷ lines) [] earlier each all more few outputs = absurd each
  after_all heading (line ∷ lines) (row ∷ rows) earlier each all more few outputs =
      let same : (earlier ++ row ∷ []) ++ rows ≡ earlier ++ row ∷ rows = append_assoc earlier (row ∷ []) rows in
      let few_then : HasFew ((earlier ++ row ∷ []) ++ rows) = subst HasFew (sym same) few in
      let outputs_then : HaveFewOutputs ((earlier ++ row ∷ []) ++ rows) = subst HaveFewOutputs (sym same) outputs in
      let none : too_many (earlier ++ row ∷ []) row ≡ None = none_too_many earlier row rows few_then (outputs_then row more.0) (no_filters row more.0) in
      rw (next_is heading earlier line row each.0 all more.0)
      (ap (λ (taken : Result (List ImportRow) CsvFault). taken >>= λ (all : List ImportRow). rows_after heading all lines) (kept_row line.number earlier row more.0 none)
      ∙ after_all heading lines rows (earlier ++ row ∷ []) each.1 (all_joined (IsRowOf e) earlier (row ∷ []) all (more.0, tt)) more.1 few_then outputs_then
      ∙ ap (λ (rows : List ImportRow). Ok rows) same)

  -- ---- the rows of the document

  -- the fields of a row are read as this, below any number of lines
  abbrev IsReadAs : List (List ℕ) → ImportRow → Type 0
  IsReadAs fields row = (read_back fields ≡ fields) × (has_text (map trimmed fields) ≡ true) × ((number : ℕ) → row_from icd_columns number (map trimmed fields) ≡ Ok row)

  -- the same of the texts of a row
  abbrev IsRowReadAs : List Field → ImportRow → Type 0
  IsRowReadAs fields row = IsReadAs (texts fields) row

  zip_texts : (rows : List (List Field)) (read : List ImportRow) → AllZip IsRowReadAs rows read → AllZip IsReadAs (map texts rows) read
  zip_texts [] [] h = tt
  zip_texts [] (r ∷ read) h = absurd h
  zip_texts (row ∷ rows) [] h = absurd h
  zip_texts (row ∷ rows) (r ∷ read) h = (h.0, zip_texts rows read h.1)

  few_rate : (rate : ℕ) → IsRate rate → rate < 2 ^ 32
  few_rate rate (inl fast) = omega (arith, fast)
  few_rate rate (inr slow) = omega (arith, slow.1)

  few_hold : (hold : Option ℕ) → IfSome hold (λ n. (1 ≤ n) × (n ≤ 1000000)) → IfSome hold (λ n. n < 2 ^ 32)
  few_hold None h = tt
  few_hold (Some n) h = omega (arith, h.1)

  is_readable : (g : GroupRow) (o : OutputRow) → IsGroupRow g → o.source < length e.sources → IsInterval o → IsHold o → IsReadable e.receivers g (source_at e o.source) o
  is_readable g o group below interval hold =
      let there = source_there o.source below in
      let source : IsSourceRow (source_at e o.source) = all_at IsSourceRow e.sources o.source (source_at e o.source) sound.source_rows there in
      let r = receiver_there (source_at e o.source) o.source there in
      let receiver : IsReceiverRow r.0 = all_at IsReceiverRow e.receivers (source_at e o.source).receiver r.0 sound.receiver_rows r.1 in
      record {
        group = group.0;
        source = source.0;
        receiver = ap is_name r.2 ∙ receiver.0;
        rate = few_rate g.rate group.1;
        label = source.1;
        sdi = source.2;
        least = omega (arith, interval.1, interval.2);
        most = omega (arith, interval.2);
        hold = few_hold o.hold hold;
      }

  output_read : (g : GroupRow) (o : OutputRow) (p : Placed) → IsServed g.rate o p → IsGroupRow g → o.source < length e.sources → IsInterval o → IsHold o → IsRowReadAs (output_row false e g o p) (read_output e g o)
  output_read g o p served group below interval hold =
      let R = is_readable g o group below interval hold in
      (refl, row_filled e.receivers g (source_at e o.source) o p.place p.limits R served.2, λ number. row_back e.receivers g (source_at e o.source) o p.place p.limits R served.2 number)

  outputs_read : (g : GroupRow) (os : List OutputRow) (ps : List Placed) → AllZip (IsServed g.rate) os ps → IsGroupRow g → HaveSources e.sources os → AllByRecursion IsInterval os → AllByRecursion IsHold os
      → AllZip IsRowReadAs (output_rows false e g os ps) (map (read_output e g) os)
  outputs_read g [] [] served group known intervals holds = tt
  outputs_read g [] (p ∷ ps) served group known intervals holds = absurd served
  outputs_read g (o ∷ os) [] served group known intervals holds = absurd served
  outputs_read g (o ∷ os) (p ∷ ps) served group known intervals holds =
      (output_read g o p served.0 group known.0 intervals.0 holds.0, outputs_read g os ps served.1 group known.1 intervals.1 holds.1)

  groups_read : (groups : List GroupRow) (outputs : List (List OutputRow)) (ts : List SlotTable) → AllZip (IsPlannedAt e.sources) (zip (map (λ g. g.rate) groups) outputs) ts → AllByRecursion IsGroupRow groups
      → AllByRecursion (HaveSources e.sources) outputs → AllByRecursion (AllByRecursion IsInterval) outputs → AllByRecursion (AllByRecursion IsHold) outputs
      → AllZip IsRowReadAs (groups_rows false e groups outputs ts) (read_groups e groups outputs)
  groups_read [] outputs ts planned rows known intervals holds = tt
  groups_read (g ∷ groups) [] ts planned rows known intervals holds = tt
  groups_read (g ∷ groups) (os ∷ outputs) [] planned rows known intervals holds = absurd planned
  groups_read (g ∷ groups) (os ∷ outputs) (t ∷ ts) planned rows known intervals holds =
      zip_joined IsRowReadAs (output_rows false e g os (outputs_of t)) (map (read_output e g) os) (groups_rows false e groups outputs ts) (read_groups e groups outputs)
      (outputs_read g os (outputs_of t) planned.0.served rows.0 known.0 intervals.0 holds.0) (groups_read groups outputs ts planned.1 rows.1 known.1 intervals.1 holds.1)

  -- ---- the lines

  line_read : (line : CsvLine) (fields : List (List ℕ)) (row : ImportRow) → line.separator ≡ 44 → fields_of line.fields ≡ read_row_of fields → IsReadAs fields row → row_of icd_columns line ≡ Ok row
  unfolding row_of
  line_read line fields row commas has read =
      ap (λ (s : ℕ). row_by s icd_columns line.number (fields_of line.fields)) commas ∙ ap (row_from icd_columns line.number) (has ∙ ap (map trimmed) read.0) ∙ read.2 line.number

  first_is : (x y : List (List ℕ)) (xs ys : List (List (List ℕ))) → ◌≡◌ {A = List (List (List ℕ))} (x ∷ xs) (y ∷ ys) → x ≡ y
  first_is x y xs ys h = ap (λ (zs : List (List (List ℕ))). get_or zs 0 []) h

  later_are : (x y : List (List ℕ)) (xs ys : List (List (List ℕ))) → ◌≡◌ {A = List (List (List ℕ))} (x ∷ xs) (y ∷ ys) → xs ≡ ys
  later_are x y xs ys h = ap (drop 1) h

  longer : (y : List (List ℕ)) (ys : List (List (List ℕ))) → ◌≡◌ {A = List (List (List ℕ))} [] (y ∷ ys) → ⊥
  longer y ys h = omega (arith, ap length h)

  lines_read : (lines : List CsvLine) (texts : List (List (List ℕ))) (rows : List ImportRow) → map (λ l. fields_of l.fields) lines ≡ map read_row_of texts → AllByRecursion (λ l. l.separator ≡ 44) lines → AllZip IsReadAs texts rows
      → AllZip (λ line row. row_of icd_columns line ≡ Ok row) lines rows
  lines_read [] [] [] has commas read = tt
  lines_read [] [] (row ∷ rows) has commas read = absurd read
  lines_read [] (t ∷ texts) rows has commas read = absurd (longer (read_row_of t) (map read_row_of texts) has)
  lines_read (line ∷ lines) [] rows has commas read = absurd (longer (fields_of line.fields) (map (λ (l : CsvLine). fields_of l.fields) lines) (sym has))
  lines_read (line ∷ lines) (t ∷ texts) [] has commas read = absurd read
  lines_read (line ∷ lines) (t ∷ texts) (row ∷ rows) has commas read = (
    line_read line t row commas.0 (first_is (fields_of line.fields) (read_row_of t) (map (λ (l : CsvLine). fields_of l.fields) lines) (map read_row_of texts) has) read.0,
    lines_read lines texts rows (later_are (fields_of line.fields) (read_row_of t) (map (λ (l : CsvLine). fields_of l.fields) lines) (map read_row_of texts) has) commas.1 read.1,
  )

  no_wrong_column : wrong_column icd_columns ≡ None
  unfolding wrong_column is_wrong is_named
  no_wrong_column = refl

  heading_stays : read_row_of icd_columns ≡ icd_columns
  unfolding trimmed stepped
  heading_stays = refl

  stated_from : (lines : List CsvLine) (texts : List (List (List ℕ))) → AreRowsOf (icd_columns ∷ texts) lines → AllZip IsReadAs texts (read_table e) → HasFew (read_table e) → HaveFewOutputs (read_table e) → rows_stated lines ≡ Ok (read_table e)
  unfolding rows_stated
  stated_from [] texts are read few outputs = absurd (longer (read_row_of icd_columns) (map read_row_of texts) are.fields)
  stated_from (heading ∷ lines) texts are read few outputs =
      let head : fields_of heading.fields ≡ icd_columns = first_is (fields_of heading.fields) (read_row_of icd_columns) (map (λ (l : CsvLine). fields_of l.fields) lines) (map read_row_of texts) are.fields ∙ heading_stays in
      let rest = later_are (fields_of heading.fields) (read_row_of icd_columns) (map (λ (l : CsvLine). fields_of l.fields) lines) (map read_row_of texts) are.fields in
      let stated : rows_after icd_columns [] lines ≡ Ok (read_table e) =
      after_all icd_columns lines (read_table e) [] (lines_read lines texts (read_table e) rest are.separators.1 read) tt rows_are few outputs in
      ap (λ (o : Option ImportColumn). unless_wrong heading lines o) (ap wrong_column head ∙ no_wrong_column)
      ∙ ap (λ (h : List (List ℕ)). rows_after h [] (without_notes h lines)) head
      ∙ ap (rows_after icd_columns []) (no_notes icd_columns lines [] (read_table e) stated)
      ∙ stated

  heading_filled : has_text (read_row_of icd_columns) ≡ true
  heading_filled = ap has_text heading_stays

  have_texts : (texts : List (List (List ℕ))) (rows : List ImportRow) → AllZip IsReadAs texts rows → HaveTexts texts
  have_texts [] rows read = tt
  have_texts (t ∷ texts) [] read = absurd read
  have_texts (t ∷ texts) (row ∷ rows) read = (ap (λ (fields : List (List ℕ)). has_text (map trimmed fields)) read.0.0 ∙ read.0.1, have_texts texts rows read.1)

  all_read : (p : PlanTable) → IsPlanOf e p → AllZip IsReadAs (map texts (icd_rows false e p)) (read_table e)
  all_read p planned =
      zip_texts (icd_rows false e p) (read_table e)
      (subst (λ (rows : List (List Field)). AllZip IsRowReadAs rows (read_table e)) (sym (icd_rows_are false e p planned))
      (groups_read e.groups e.outputs (groups_of p) planned.groups sound.group_rows sound.known_sources sound.intervals sound.holds))

  pub rows_stated_are : HasFew (read_table e) → HaveFewOutputs (read_table e) → (p : PlanTable) (lines : List CsvLine) → IsPlanOf e p → AreLines [] (csv_text_of (icd_columns ∷ map texts (icd_rows false e p))) lines → rows_stated lines ≡ Ok (read_table e)
  rows_stated_are few outputs p lines planned are =
      let read = all_read p planned in
      stated_from lines (map texts (icd_rows false e p)) (lines_back (map texts (icd_rows false e p)) lines (heading_filled, have_texts (map texts (icd_rows false e p)) (read_table e) read) are) read few outputs
