-- Which words of a log are those of an output of a group.
use Rattle.std.proofs.Common.{◌≡◌, ◌∙◌, ℕ, zero, suc, ◌-◌, ◌^◌, ◌<◌, ◌≤◌, Bool, true, false, true≢false, List, [], ◌∷◌, get_or, length, take, map, sym, ap, subst, refl, inl, inr, arith, append-nil}
use Rattle.std.specs.Prelude.{Option, Some, None, ◌==◌, ◌&&◌, ◌||◌, count_by, filter, filter_map, if◌then◌else◌, is_some, nat_le, not, option_and_then, option_map, slice_get}
use Rattle.std.specs.List.{AllByRecursion, AllZip, list_any, zip}
use Rattle.std.specs.Option.{option_map_or}
use Rattle.std.proofs.lemmas.Bool.{and_parts, cases_eq, eq-eqb, eqb-true, ne_eqb}
use Rattle.std.proofs.lemmas.Option.{get_or_from_slice_get, none-some, same_Some, slice_get-map, slice_get_within}
use Rattle.a429_word.specs.Bits.{has_odd_parity, label_of, sdi_of}
use Rattle.a429_word.proofs.Lists.{all_at, all_mapped, all_push, false_unless, zip_at}
use Rattle.a429_equipment.specs.declared.rows.OutputRow.{OutputRow}
use Rattle.a429_equipment.specs.declared.rows.SourceRow.{SourceRow}
use Rattle.a429_equipment.specs.Arrivals.{accepts, passes_at, is_for}
use Rattle.a429_judge.specs.declared.duties.Duty.{Duty}
use Rattle.a429_judge.specs.declared.duties.Sent.{Sent}
use Rattle.a429_judge.specs.Recordings.{fits, foreign_of, overlapping, overlaps}
use Rattle.a429_judge.proofs.Scanning.{any_at}
use Rattle.a429_slots.specs.Tables.{Placed, SlotTable, output_in, outputs_of}
use Rattle.a429_slots.specs.Events.{Event, Cell}
use Rattle.a429_slots.specs.History.{AnsweredCell, Opening, OpensWith, accepted_by, accepted_in, answered_cells, arrival_of, has_sent, is_cell, is_held, is_too_close, last_of}
use Rattle.a429_slots.specs.Planned.{IsPlannedFor, IsServed}
use Rattle.a429_slots.specs.Spacing.{answered_at}
use Rattle.a429_slots.proofs.Answered.{answered_push, cell_event, event_at, more_cells, next_of}
use Rattle.a429_slots.proofs.Histories.{take_following}
use Rattle.a429_slots.proofs.SamePlan.{is_at}
use Rattle.a429_slots.proofs.SpacedTables.{row_of}
use Rattle.a429_core.specs.Histories.{history_of}
use Rattle.a429_core.proofs.GoingOut.{last_sent}
use Rattle.a429_core.proofs.Words.{words_in}
use Rattle.a429_callers.specs.JudgedGroups.{IsRecordedAs, JudgedGroup, Timing, duties_in, duty_in, is_logged, station_of}
use Rattle.a429_callers.specs.SlotBoxes.{KeepsOpeningPlan}
use Rattle.a429_callers.proofs.AnsweredCells.{count_first, from_next, table_here}

-- ---- lists

pub filter_kept : {A : Type 0} (p q : A → Bool) (xs : List A) → filter (λ c. p c && q c) xs ≡ filter q (filter p xs)
filter_kept p q [] = refl
filter_kept {A} p q (x ∷ xs) = by_test (p x) (filter_kept p q xs)
  where
    by_test : (b : Bool) → filter (λ c. p c && q c) xs ≡ filter q (filter p xs)
        → (if b && q x then x ∷ filter (λ c. p c && q c) xs else filter (λ c. p c && q c) xs) ≡ filter q (if b then x ∷ filter p xs else filter p xs)
    by_test true rest = ap (λ (ys : List A). if q x then x ∷ ys else ys) rest
    by_test false rest = rest

filter_swaps : {A : Type 0} (p q : A → Bool) (xs : List A) → filter p (filter q xs) ≡ filter q (filter p xs)
filter_swaps p q [] = refl
filter_swaps {A} p q (x ∷ xs) = by_tests (p x) (q x) refl refl (filter_swaps p q xs)
  where
    by_tests : (b c : Bool) → p x ≡ b → q x ≡ c → filter p (filter q xs) ≡ filter q (filter p xs) → filter p (if c then x ∷ filter q xs else filter q xs) ≡ filter q (if b then x ∷ filter p xs else filter p xs)
    by_tests true true h k rest = ap (λ (b : Bool). if b then x ∷ filter p (filter q xs) else filter p (filter q xs)) h ∙ (ap (λ (ys : List A). x ∷ ys) rest ∙ sym (ap (λ (b : Bool). if b then x ∷ filter q (filter p xs) else filter q (filter p xs)) k))
    by_tests true false h k rest = rest ∙ sym (ap (λ (b : Bool). if b then x ∷ filter q (filter p xs) else filter q (filter p xs)) k)
    by_tests false true h k rest = ap (λ (b : Bool). if b then x ∷ filter p (filter q xs) else filter p (filter q xs)) h ∙ rest
    by_tests false false h k rest = rest

-- the third test and the second change places
filter_swapped : {A : Type 0} (p q r : A → Bool) (xs : List A) → filter r (filter (λ c. p c && q c) xs) ≡ filter q (filter (λ c. p c && r c) xs)
filter_swapped p q r xs = ap (filter r) (filter_kept p q xs) ∙ (filter_swaps r q (filter p xs) ∙ ap (filter q) (sym (filter_kept p r xs)))

all_filter : {A : Type 0} (P : A → Type 0) (p : A → Bool) (xs : List A) → AllByRecursion P xs → AllByRecursion P (filter p xs)
all_filter P p [] all = tt
all_filter P p (x ∷ xs) all = by_test (p x) (all_filter P p xs all.1)
  where
    by_test : (b : Bool) → AllByRecursion P (filter p xs) → AllByRecursion P (if b then x ∷ filter p xs else filter p xs)
    by_test true rest = (all.0, rest)
    by_test false rest = rest

pub all_passes : {A : Type 0} (P : A → Type 0) (p : A → Bool) → ((x : A) → p x ≡ true → P x) → (xs : List A) → AllByRecursion P (filter p xs)
all_passes P p each [] = tt
all_passes P p each (x ∷ xs) = by_test (p x) refl (all_passes P p each xs)
  where
    by_test : (b : Bool) → p x ≡ b → AllByRecursion P (filter p xs) → AllByRecursion P (if b then x ∷ filter p xs else filter p xs)
    by_test true h rest = (each x h, rest)
    by_test false h rest = rest

all_take : {A : Type 0} (P : A → Type 0) (n : ℕ) (xs : List A) → AllByRecursion P xs → AllByRecursion P (take n xs)
all_take P zero xs all = tt
all_take P (suc n) [] all = tt
all_take P (suc n) (x ∷ xs) all = (all.0, all_take P n xs all.1)

-- of two lists in pairs, the items that pass tests which agree are in pairs too
filter_pairs : {A B : Type 0} (R : A → B → Type 0) (Q : A → Type 0) (p : A → Bool) (q : B → Bool) → ((a : A) (b : B) → R a b → Q a → p a ≡ q b) → (xs : List A) (ys : List B) → AllZip R xs ys → AllByRecursion Q xs
    → AllZip R (filter p xs) (filter q ys)
filter_pairs R Q p q same [] [] pairs all = tt
filter_pairs R Q p q same [] (y ∷ ys) pairs all = absurd pairs
filter_pairs R Q p q same (x ∷ xs) [] pairs all = absurd pairs
filter_pairs R Q p q same (x ∷ xs) (y ∷ ys) pairs all = by_tests (p x) (q y) (same x y pairs.0 all.0) (filter_pairs R Q p q same xs ys pairs.1 all.1)
  where
    by_tests : (b c : Bool) → b ≡ c → AllZip R (filter p xs) (filter q ys) → AllZip R (if b then x ∷ filter p xs else filter p xs) (if c then y ∷ filter q ys else filter q ys)
    by_tests true true h rest = (pairs.0, rest)
    by_tests true false h rest = absurd (true≢false h)
    by_tests false true h rest = absurd (true≢false (sym h))
    by_tests false false h rest = rest

-- and if no pair's second item passes, none does
none_passes : {A B : Type 0} (R : A → B → Type 0) (Q : A → Type 0) (S : B → Type 0) (q : B → Bool) → ((a : A) (b : B) → R a b → Q a → S b → q b ≡ false) → (xs : List A) (ys : List B) → AllZip R xs ys → AllByRecursion Q xs → AllByRecursion S ys → filter q ys ≡ []
none_passes R Q S q fails [] [] pairs all also = refl
none_passes R Q S q fails [] (y ∷ ys) pairs all also = absurd pairs
none_passes R Q S q fails (x ∷ xs) [] pairs all also = absurd pairs
none_passes {A} {B} R Q S q fails (x ∷ xs) (y ∷ ys) pairs all also =
    ap (λ (b : Bool). if b then y ∷ filter q ys else filter q ys) (fails x y pairs.0 all.0 also.0) ∙ none_passes R Q S q fails xs ys pairs.1 all.1 also.1

count_more : {A : Type 0} (p : A → Bool) (x : A) (xs : List A) (b : Bool) → p x ≡ b → count_by p xs ≤ count_by p (x ∷ xs)
count_more p x xs true h = omega (arith, count_first p x xs, ap {B = ℕ} (λ (b : Bool). if b then 1 else 0) h)
count_more p x xs false h = omega (arith, count_first p x xs, ap {B = ℕ} (λ (b : Bool). if b then 1 else 0) h)

count_one : {A : Type 0} (p : A → Bool) (xs : List A) (i : ℕ) (x : A) → slice_get xs i ≡ Some x → p x ≡ true → 1 ≤ count_by p xs
count_one p [] i x here h = absurd (none-some x here)
count_one p (z ∷ zs) zero x here h =
    let passes : p z ≡ true = ap p (same_Some z x here) ∙ h in
    omega (arith, count_first p z zs, ap {B = ℕ} (λ (b : Bool). if b then 1 else 0) passes)
count_one p (z ∷ zs) (suc i) x here h = omega (arith, count_one p zs i x here h, count_more p z zs (p z) refl)

-- two places whose items pass
count_two : {A : Type 0} (p : A → Bool) (xs : List A) (i j : ℕ) (x y : A) → (i ≡ j → ⊥) → slice_get xs i ≡ Some x → slice_get xs j ≡ Some y → p x ≡ true → p y ≡ true → 2 ≤ count_by p xs
count_two p [] i j x y apart here there h k = absurd (none-some x here)
count_two p (z ∷ zs) zero zero x y apart here there h k = absurd (apart refl)
count_two p (z ∷ zs) zero (suc j) x y apart here there h k =
    let passes : p z ≡ true = ap p (same_Some z x here) ∙ h in
    omega (arith, count_one p zs j y there k, count_first p z zs, ap {B = ℕ} (λ (b : Bool). if b then 1 else 0) passes)
count_two p (z ∷ zs) (suc i) zero x y apart here there h k =
    let passes : p z ≡ true = ap p (same_Some z y there) ∙ k in
    omega (arith, count_one p zs i x here h, count_first p z zs, ap {B = ℕ} (λ (b : Bool). if b then 1 else 0) passes)
count_two p (z ∷ zs) (suc i) (suc j) x y apart here there h k =
    omega (arith, count_two p zs i j x y (λ same. apart (ap suc same)) here there h k, count_more p z zs (p z) refl)

-- ---- words of a source

and_true : (a b : Bool) → a ≡ true → b ≡ true → (a && b) ≡ true
and_true true b h k = k
and_true false b h k = absurd (true≢false (sym h))

-- the word has odd parity, and the label and the SDI of the source
pub record IsWordOf (s : SourceRow) (raw : ℕ) : Type 0 where
  pub odd : has_odd_parity raw ≡ true
  pub label : s.label ≡ label_of raw
  pub sdi : option_map_or (λ k. k == sdi_of raw) s.sdi true ≡ true

accepted_words : (C : ℕ) (o : Opening) (s : SourceRow) (E : List Event) → AllByRecursion (IsWordOf s) (accepted_in C o s E)
accepted_words C o s E =
    all_take (IsWordOf s) (2 ^ C - 1) (words_in o s E)
    (all_mapped (λ (a : ℕ × ℕ). a.1) (IsWordOf s) (filter (accepts o.proposal.station s) (filter_map arrival_of E))
    (all_passes (λ a. IsWordOf s a.1) (accepts o.proposal.station s) each (filter_map arrival_of E)))
  where
    each : (a : ℕ × ℕ) → accepts o.proposal.station s a ≡ true → IsWordOf s a.1
    each a h =
        let both = and_parts (has_odd_parity a.1) (passes_at o.proposal.station a.0 a.1 && is_for a.0 a.1 s) h in
        let more = and_parts (passes_at o.proposal.station a.0 a.1) (is_for a.0 a.1 s) both.1 in
        let for = and_parts (s.receiver == a.0) (s.label == label_of a.1 && option_map_or (λ k. k == sdi_of a.1) s.sdi true) more.1 in
        let rest = and_parts (s.label == label_of a.1) (option_map_or (λ k. k == sdi_of a.1) s.sdi true) for.1 in
        record { odd = both.0; label = eqb-true s.label (label_of a.1) rest.0; sdi = rest.1 }

pub record HasSource (sources : List SourceRow) (i raw : ℕ) : Type 0 where
  pub row : SourceRow
  pub there : slice_get sources i ≡ Some row
  pub word : IsWordOf row raw

last_word : (C : ℕ) (o : Opening) (i : ℕ) (E : List Event) (raw : ℕ) → last_of (accepted_by C o i E) ≡ Some raw → HasSource o.proposal.station.sources i raw
last_word C o i E raw h = by_row (slice_get o.proposal.station.sources i) refl h
  where
    by_row : (x : Option SourceRow) → slice_get o.proposal.station.sources i ≡ x → last_of (option_map_or (λ s. accepted_in C o s E) x []) ≡ Some raw → HasSource o.proposal.station.sources i raw
    by_row None there is = absurd (none-some raw is)
    by_row (Some s) there is = record { row = s; there = there; word = all_at (IsWordOf s) (accepted_in C o s E) (length (accepted_in C o s E) - 1) raw (accepted_words C o s E) is }

-- ---- answered cells

-- the cell is of an output of the table, and its word of that output's source
pub record IsOfOutput (sources : List SourceRow) (t : SlotTable) (c : AnsweredCell) : Type 0 where
  pub number : ℕ
  pub output : Placed
  pub there : slice_get (outputs_of t) number ≡ Some output
  pub same : output.source ≡ c.source
  pub word : (raw : ℕ) → c.word ≡ Some raw → HasSource sources c.source raw

module _ (C : ℕ) (o : Opening) (g : ℕ) (p : SlotTable) (E : List Event) (opens : OpensWith o g p) (kept : KeepsOpeningPlan (history_of o g p E)) where
  abbrev AreOfOutputs : List AnsweredCell → Type 0
  AreOfOutputs cells = AllByRecursion (IsOfOutput o.proposal.station.sources p) cells

  next_of_output : (k : ℕ) (c : AnsweredCell) → k < length E → slice_get E k ≡ Some (Cell g) → next_of C o g p (take k E) ≡ Some c → IsOfOutput o.proposal.station.sources p c
  next_of_output k c below asked h =
      let N = from_next C o g p E k c asked h in
      let y = N.output in
      let table = table_here o g p E opens kept k (omega (arith, below)) in
      let stands : output_in p N.cell.cell.0 N.cell.cell.1 ≡ Some y = subst (λ (t : SlotTable). output_in t N.cell.cell.0 N.cell.cell.1 ≡ Some y) table N.cell.stands in
      let A = is_at p N.cell.cell.0 N.cell.cell.1 y stands in
      let own : c.source ≡ y.source = ap (λ (d : AnsweredCell). d.source) N.is in
      let earlier = answered_cells C o g p (take k E) in
      let empty = is_held earlier y.source y.limits.hold (length (accepted_by C o y.source (take k E))) || is_too_close earlier N.slot y.source y.limits.spacing in
      record {
        number = A.number;
        output = y;
        there = A.row;
        same = sym own;
        word = λ raw sent.
            let is : (answered_at C o g p E k y N.slot).word ≡ Some raw = sym (ap (λ (d : AnsweredCell). d.word) N.is) ∙ sent in
            subst (λ (i : ℕ). HasSource o.proposal.station.sources i raw) (sym own)
            (last_word C o y.source (take k E) raw (last_sent empty (last_of (accepted_by C o y.source (take k E))) raw is));
      }

  pub of_outputs : (k : ℕ) → k ≤ length E → AreOfOutputs (answered_cells C o g p (take k E))
  of_outputs zero few = tt
  of_outputs (suc k) few =
      let (e, here) = event_at E k (omega (arith, few)) in
      let is : answered_cells C o g p (take (suc k) E) ≡ (if is_cell g e then more_cells (answered_cells C o g p (take k E)) (next_of C o g p (take k E)) else answered_cells C o g p (take k E)) =
      ap (answered_cells C o g p) (take_following E k e here) ∙ answered_push C o g p (take k E) e in
      subst AreOfOutputs (sym is) (by_event (of_outputs k (omega (arith, few))) e here (is_cell g e) refl)
    where
      by_next : AreOfOutputs (answered_cells C o g p (take k E)) → slice_get E k ≡ Some (Cell g) → (c : Option AnsweredCell) → next_of C o g p (take k E) ≡ c → AreOfOutputs (more_cells (answered_cells C o g p (take k E)) c)
      by_next old asked None h = subst AreOfOutputs (sym (append-nil (answered_cells C o g p (take k E)))) old
      by_next old asked (Some c) h = all_push (IsOfOutput o.proposal.station.sources p) (answered_cells C o g p (take k E)) c old (next_of_output k c (omega (arith, few)) asked h)

      by_event : AreOfOutputs (answered_cells C o g p (take k E)) → (e : Event) → slice_get E k ≡ Some e → (b : Bool) → is_cell g e ≡ b
          → AreOfOutputs (if b then more_cells (answered_cells C o g p (take k E)) (next_of C o g p (take k E)) else answered_cells C o g p (take k E))
      by_event old e here false other = old
      by_event old e here true own = by_next old (here ∙ ap (λ (z : Event). Some z) (cell_event g e own)) (next_of C o g p (take k E)) refl

-- ---- an output's words in the log

-- a word of the group is of the output
abbrev pub fits_rest : Duty → Sent → Bool
fits_rest d w =
    has_odd_parity w.mark.raw && (d.label == label_of w.mark.raw
    && (option_map_or (λ k. k == sdi_of w.mark.raw) d.sdi true && option_map_or (λ bus. bus == d.bus) w.bus true))

sdis_meet : (a b : Option ℕ) (z : ℕ) → option_map_or (λ k. k == z) a true ≡ true → option_map_or (λ k. k == z) b true ≡ true → option_map_or (λ j. option_map_or (λ k. j == k) b true) a true ≡ true
sdis_meet None b z h k = refl
sdis_meet (Some i) None z h k = refl
sdis_meet (Some i) (Some j) z h k = eq-eqb i j (eqb-true i z h ∙ sym (eqb-true j z k))

sdi_meets_itself : (a : Option ℕ) → option_map_or (λ j. option_map_or (λ k. j == k) a true) a true ≡ true
sdi_meets_itself None = refl
sdi_meets_itself (Some i) = eq-eqb i i refl

bus_fits : (x : Option ℕ) (own : ℕ) → ((bus : ℕ) → x ≡ Some bus → bus ≡ own) → option_map_or (λ bus. bus == own) x true ≡ true
bus_fits None own h = refl
bus_fits (Some bus) own h = eq-eqb bus own (h bus refl)

module _ (j : JudgedGroup) (c : Timing) where
  abbrev sources : List SourceRow
  sources = (station_of j).sources

  duty_at_number : (m : ℕ) (line : OutputRow) (y : Placed) → slice_get j.rows m ≡ Some line → slice_get (outputs_of j.history.table) m ≡ Some y → slice_get (duties_in j) m ≡ Some (duty_in j (line, y))
  duty_at_number m line y a b = slice_get-map (duty_in j) (zip j.rows (outputs_of j.history.table)) m ∙ ap (option_map (duty_in j)) (zip_at j.rows (outputs_of j.history.table) m line y a b)

  label_is : (y : Placed) (s : SourceRow) → slice_get sources y.source ≡ Some s → option_map_or (λ s. s.label) (slice_get sources y.source) 0 ≡ s.label
  label_is y s h = ap (λ (z : Option SourceRow). option_map_or (λ s. s.label) z 0) h

  sdi_is : (y : Placed) (s : SourceRow) → slice_get sources y.source ≡ Some s → option_and_then (λ s. s.sdi) (slice_get sources y.source) ≡ s.sdi
  sdi_is y s h = ap (λ (z : Option SourceRow). option_and_then (λ s. s.sdi) z) h

  -- a word of an output's source fits it
  own_fits : (number : ℕ) (row : OutputRow) (x : Placed) (cell : AnsweredCell) (w : Sent) → slice_get (outputs_of j.history.table) number ≡ Some x → IsRecordedAs j c cell w → IsOfOutput sources j.history.table cell → cell.source ≡ x.source
      → fits_rest (duty_in j (row, x)) w ≡ true
  own_fits number row x cell w there R O same =
      let raw = w.mark.raw in
      let own = duty_in j (row, x) in
      let S = O.word raw R.word in
      let here : slice_get sources x.source ≡ Some S.row = ap (slice_get sources) (sym same) ∙ S.there in
      let label : own.label ≡ label_of raw = label_is x S.row here ∙ S.word.label in
      let sdi : option_map_or (λ k. k == sdi_of raw) own.sdi true ≡ true = ap (λ (z : Option ℕ). option_map_or (λ k. k == sdi_of raw) z true) (sdi_is x S.row here) ∙ S.word.sdi in
      let bus : option_map_or (λ bus. bus == own.bus) w.bus true ≡ true = bus_fits w.bus own.bus (λ bus is. R.bus number bus x there (sym same) is) in
      and_true (has_odd_parity raw) _ S.word.odd (and_true (own.label == label_of raw) _ (eq-eqb own.label (label_of raw) label) (and_true _ _ sdi bus))

  -- so no word of the group is foreign
  module _ (planned : IsPlannedFor j.rate (station_of j).sources j.rows j.history.table) where
    fits_some : (cell : AnsweredCell) (w : Sent) → IsRecordedAs j c cell w → IsOfOutput sources j.history.table cell → (w.group == j.history.group) ≡ true → not (list_any (λ d. fits d w) (duties_in j)) ≡ false
    fits_some cell w R O group =
        let y = O.output in
        let served = row_of (IsServed j.rate) j.rows (outputs_of j.history.table) O.number y planned.served O.there in
        let e = duty_in j (served.row, y) in
        let at_number = duty_at_number O.number served.row y served.there O.there in
        let own : fits e w ≡ true = and_true (w.group == j.history.group) (fits_rest e w) group (own_fits O.number served.row y cell w O.there R O (sym O.same)) in
        let is : get_or (duties_in j) O.number e ≡ e = get_or_from_slice_get (duties_in j) O.number e e at_number in
        let any : list_any (λ d. fits d w) (duties_in j) ≡ true =
        any_at (λ d. fits d w) (duties_in j) O.number e (slice_get_within (duties_in j) O.number e at_number) (ap (λ (d : Duty). fits d w) is ∙ own) in
        ap not any

    pub none_foreign : (sent : List Sent) (cells : List AnsweredCell) → AllZip (IsRecordedAs j c) (filter (is_logged c) cells) (filter (λ w. w.group == j.history.group) sent) → AllByRecursion (IsOfOutput sources j.history.table) cells
        → foreign_of (duties_in j) j.history.group sent ≡ []
    none_foreign sent cells pairs all =
        filter_kept (λ (w : Sent). w.group == j.history.group) (λ w. not (list_any (λ d. fits d w) (duties_in j))) sent
        ∙ none_passes (IsRecordedAs j c) (IsOfOutput sources j.history.table) (λ w. (w.group == j.history.group) ≡ true) (λ w. not (list_any (λ d. fits d w) (duties_in j))) fits_some (filter (is_logged c) cells)
        (filter (λ w. w.group == j.history.group) sent) pairs (all_filter (IsOfOutput sources j.history.table) (is_logged c) cells all)
        (all_passes (λ w. (w.group == j.history.group) ≡ true) (λ w. w.group == j.history.group) (λ w h. h) sent)

module _ (j : JudgedGroup) (c : Timing) (planned : IsPlannedFor j.rate (station_of j).sources j.rows j.history.table) (number : ℕ) (row : OutputRow) (x : Placed) (listed : slice_get j.rows number ≡ Some row)
    (there : slice_get (outputs_of j.history.table) number ≡ Some x) (apart : overlapping (duty_in j (row, x)) (duties_in j) ≤ 1) where
  abbrev own : Duty
  own = duty_in j (row, x)

  -- no word of another source does
  others_fail : (cell : AnsweredCell) (w : Sent) → IsRecordedAs j c cell w → IsOfOutput (station_of j).sources j.history.table cell → (cell.source ≡ x.source → ⊥) → fits_rest own w ≡ true → ⊥
  others_fail cell w R O other h =
      let raw = w.mark.raw in
      let S = O.word raw R.word in
      let y = O.output in
      let served = row_of (IsServed j.rate) j.rows (outputs_of j.history.table) O.number y planned.served O.there in
      let e = duty_in j (served.row, y) in
      let here : slice_get (station_of j).sources y.source ≡ Some S.row = ap (slice_get (station_of j).sources) O.same ∙ S.there in
      let parts = and_parts (own.label == label_of raw) (option_map_or (λ k. k == sdi_of raw) own.sdi true && option_map_or (λ bus. bus == own.bus) w.bus true)
      (and_parts (has_odd_parity raw) (own.label == label_of raw && (option_map_or (λ k. k == sdi_of raw) own.sdi true && option_map_or (λ bus. bus == own.bus) w.bus true)) h).1 in
      let sdi : option_map_or (λ k. k == sdi_of raw) own.sdi true ≡ true = (and_parts (option_map_or (λ k. k == sdi_of raw) own.sdi true) (option_map_or (λ bus. bus == own.bus) w.bus true) parts.1).0 in
      let label : own.label ≡ e.label = eqb-true own.label (label_of raw) parts.0 ∙ sym (label_is j c y S.row here ∙ S.word.label) in
      let sdi_e : option_map_or (λ k. k == sdi_of raw) e.sdi true ≡ true = ap (λ (z : Option ℕ). option_map_or (λ k. k == sdi_of raw) z true) (sdi_is j c y S.row here) ∙ S.word.sdi in
      let meets : overlaps own e ≡ true = and_true (own.label == e.label) _ (eq-eqb own.label e.label label) (sdis_meet own.sdi e.sdi (sdi_of raw) sdi sdi_e) in
      let itself : overlaps own own ≡ true = and_true (own.label == own.label) _ (eq-eqb own.label own.label refl) (sdi_meets_itself own.sdi) in
      let differs : number ≡ O.number → ⊥ = λ is.
      other (sym O.same ∙ ap (λ (z : Placed). z.source) (same_Some y x (sym O.there ∙ (ap (slice_get (outputs_of j.history.table)) (sym is) ∙ there)))) in
      let two = count_two (overlaps own) (duties_in j) number O.number own e differs (duty_at_number j c number row x listed there) (duty_at_number j c O.number served.row y served.there O.there) itself meets in
      omega (arith, two, apart)

  same_test : (cell : AnsweredCell) (w : Sent) → IsRecordedAs j c cell w → IsOfOutput (station_of j).sources j.history.table cell → (cell.source == x.source) ≡ fits_rest own w
  same_test cell w R O = elim (cases_eq cell.source x.source) [
    | inl same ↦ eq-eqb cell.source x.source same ∙ sym (own_fits j c number row x cell w there R O same)
    | inr other ↦ ne_eqb cell.source x.source other ∙ sym (false_unless (fits_rest own w) (others_fail cell w R O other))
  ]

  -- so the output's words in the log are those of its cells
  pub words_of_output : (cells : List AnsweredCell) (words : List Sent) → AllZip (IsRecordedAs j c) (filter (is_logged c) cells) words → AllByRecursion (IsOfOutput (station_of j).sources j.history.table) cells
      → AllZip (IsRecordedAs j c) (filter (λ cell. nat_le c.from cell.slot) (filter (has_sent x.source) cells)) (filter (fits_rest own) words)
  words_of_output cells words pairs all =
      subst (λ (cs : List AnsweredCell). AllZip (IsRecordedAs j c) cs (filter (fits_rest own) words)) (filter_swapped (λ cell. is_some cell.word) (λ cell. nat_le c.from cell.slot) (λ cell. cell.source == x.source) cells)
      (filter_pairs (IsRecordedAs j c) (IsOfOutput (station_of j).sources j.history.table) (λ cell. cell.source == x.source) (fits_rest own) same_test (filter (is_logged c) cells) words pairs
      (all_filter (IsOfOutput (station_of j).sources j.history.table) (is_logged c) cells all))
