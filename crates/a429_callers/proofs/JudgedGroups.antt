-- Logs of a group that keeps to the plan of its table: nothing is found.
use Rattle.std.proofs.Common.{◌≡◌, ◌∙◌, ℕ, zero, suc, ◌+◌, ◌-◌, ◌*◌, ◌/◌, ◌<◌, ◌≤◌, ◌⊎◌, Bool, true, false, List, [], ◌∷◌, ◌++◌, length, take, map, sym, ap, subst, refl, inl, inr, arith}
use Rattle.std.specs.Prelude.{Option, Some, ◌==◌, IfSome, filter, if◌then◌else◌, drop, is_some, nat_le, nat_lt, option_map, slice_get}
use Rattle.std.specs.List.{AllByRecursion, AllZip, find, zip}
use Rattle.std.specs.Option.{option_map_or}
use Rattle.std.proofs.Math.Nat.{div-mul-le_self, mul-le-mul_right}
use Rattle.std.proofs.lemmas.Nat.{le-div}
use Rattle.std.proofs.lemmas.Bool.{and_parts, cases_eq, cases_lt, eq-eqb, le-ltb}
use Rattle.std.proofs.lemmas.Bool.Decides.{nat_tests}
use Rattle.std.proofs.lemmas.List.{get_or-drop, length-drop, length-map, take_all}
use Rattle.std.proofs.lemmas.List.Sums.{count_by-le-length, length-filter}
use Rattle.std.proofs.lemmas.Option.{get_or_from_slice_get, none-some, same_Some, slice_get-map, slice_get_within}
use Rattle.a429_word.proofs.Lists.{all_at, all_mapped, get_within}
use Rattle.a429_equipment.specs.declared.rows.GroupRow.{GroupRow}
use Rattle.a429_equipment.specs.declared.rows.OutputRow.{OutputRow}
use Rattle.a429_equipment.specs.Sound.{IsGroupRow, IsHold, IsRate}
use Rattle.a429_equipment.specs.TableRecord.{TableRecord}
use Rattle.a429_judge.specs.declared.duties.Duty.{Duty}
use Rattle.a429_judge.specs.declared.duties.Sent.{Sent}
use Rattle.a429_judge.specs.declared.facts.Facts.{Facts}
use Rattle.a429_judge.specs.declared.facts.Mark.{Mark}
use Rattle.a429_judge.specs.Judgements.{accepted_by, found_at, sent_by}
use Rattle.a429_judge.specs.Judging.{mark_at, no_mark, time_at}
use Rattle.a429_judge.specs.Laws.{ArePlanned, AreSlots, GridPeriodsArePlanned}
use Rattle.a429_judge.specs.Machine.{IsRecordOf, RecordedBoxHasNoFinding, SlotSend, box_sends, no_send, send_at, slot_send, slot_sends}
use Rattle.a429_judge.specs.Recordings.{Recording, overlapping, span_of}
use Rattle.a429_slots.specs.History.{AnsweredCell, answered_cells, has_sent}
use Rattle.a429_slots.specs.Planned.{IsPlanOf, IsPlannedAt, IsPlannedFor, IsServed, rated_outputs}
use Rattle.a429_slots.specs.Spacing.{IsSpacedTable}
use Rattle.a429_slots.specs.Tables.{Placed, PlanTable, SlotTable, groups_of, outputs_of}
use Rattle.a429_slots.specs.Events.{Event}
use Rattle.a429_slots.proofs.SpacedTables.{row_of}
use Rattle.a429_core.specs.Histories.{GroupHistory}
use Rattle.a429_core.specs.Latency.{next_slot_on, period_of}
use Rattle.a429_core.specs.Spaced.{AreSpaced}
use Rattle.a429_core.proofs.Rounds.{AreSpacedTables}
use Rattle.a429_callers.specs.JudgedGroups.{IsRecordedAs, IsRecordedRun, JudgedGroup, KeepsPlan, OutputsArePlanned, PlannedGroupsSendNoneForeign, Timing, duties_in, duty_in, facts_of, station_of}
use Rattle.a429_callers.specs.SlotBoxes.{SendsAsRightBox, cell_of, right_sends, slot_of}
use Rattle.a429_callers.proofs.LoggedSends.{IsSkipped, StaysTrue, filter_mapped, skips}
use Rattle.a429_callers.proofs.RecordedWords.{IsOfOutput, all_passes, filter_kept, fits_rest, none_foreign, of_outputs, words_of_output}
use Rattle.a429_callers.proofs.SlotBoxes.{sends_as_right_box}

-- ---- lists

zipped_parts : {X Y : Type 0} (xs : List X) (ys : List Y) (i : ℕ) (x : X) (y : Y) → slice_get (zip xs ys) i ≡ Some (x, y) → (slice_get xs i ≡ Some x) × (slice_get ys i ≡ Some y)
zipped_parts [] ys i x y h = absurd (none-some (x, y) h)
zipped_parts (a ∷ xs) [] i x y h = absurd (none-some (x, y) h)
zipped_parts {X} {Y} (a ∷ xs) (b ∷ ys) zero x y h =
    let is : (a, b) ≡ (x, y) = same_Some (a, b) (x, y) h in
    (ap (λ (z : X × Y). Some z.0) is, ap (λ (z : X × Y). Some z.1) is)
zipped_parts (a ∷ xs) (b ∷ ys) (suc i) x y h = zipped_parts xs ys i x y h

same_lengths : {A B : Type 0} (R : A → B → Type 0) (xs : List A) (ys : List B) → AllZip R xs ys → length xs ≡ length ys
same_lengths R [] [] pairs = refl
same_lengths R [] (y ∷ ys) pairs = absurd pairs
same_lengths R (x ∷ xs) [] pairs = absurd pairs
same_lengths R (x ∷ xs) (y ∷ ys) pairs = omega (arith, same_lengths R xs ys pairs.1)

-- ---- planned outputs

group_planned : (e : TableRecord) (p : PlanTable) (g rate : ℕ) (rows : List OutputRow) (t : SlotTable) → IsPlanOf e p → slice_get (rated_outputs e) g ≡ Some (rate, rows) → slice_get (groups_of p) g ≡ Some t → IsPlannedFor rate e.sources rows t
group_planned e p g rate rows t plan rated there =
    let Q = row_of (IsPlannedAt e.sources) (rated_outputs e) (groups_of p) g t plan.groups there in
    let is : Q.row ≡ (rate, rows) = same_Some Q.row (rate, rows) (sym Q.there ∙ rated) in
    subst (λ (z : ℕ × List OutputRow). IsPlannedAt e.sources z t) is Q.related

some_rate : (rate : ℕ) → IsRate rate → 1 ≤ rate
some_rate rate (inl is) = omega (arith, is)
some_rate rate (inr within) = omega (arith, within.0)

rates : (groups : List GroupRow) → AllByRecursion IsGroupRow groups → AllByRecursion (λ (g : GroupRow). 1 ≤ g.rate) groups
rates [] all = tt
rates (g ∷ groups) all = (some_rate g.rate all.0.1, rates groups all.1)

pub outputs_are_planned : GridPeriodsArePlanned → OutputsArePlanned
outputs_are_planned law e p g rate rows t number tolerance row x sound plan rated there listed placed =
    let parts = zipped_parts (map (λ (z : GroupRow). z.rate) e.groups) e.outputs g rate rows rated in
    let some : 1 ≤ rate = all_at (λ r. 1 ≤ r) (map (λ (z : GroupRow). z.rate) e.groups) g rate (all_mapped (λ (z : GroupRow). z.rate) (λ r. 1 ≤ r) e.groups (rates e.groups sound.group_rows)) parts.0 in
    let hold : IsHold row = all_at IsHold rows number row (all_at (AllByRecursion IsHold) e.outputs g rows sound.holds parts.1) listed in
    let P = group_planned e p g rate rows t plan rated there in
    let Q = row_of (IsServed rate) rows (outputs_of t) number x P.served placed in
    let served : IsServed rate row x = subst (λ (z : OutputRow). IsServed rate z x) (same_Some Q.row row (sym Q.there ∙ listed)) Q.related in
    law (facts_of rate tolerance row x) served.1 some (λ most is. (subst (λ (h : Option ℕ). IfSome h (λ n. (1 ≤ n) × (n ≤ 1000000))) (sym served.2 ∙ is) hold).0)

-- ---- sends by slots

same_sends : (hold : Option ℕ) (a b : ℕ → ℕ) (n : ℕ) → ((m : ℕ) → m < n → a m ≡ b m) → slot_sends hold a n ≡ slot_sends hold b n
same_sends hold a b zero same = refl
same_sends hold a b (suc n) same =
    ap (λ (M : List SlotSend). M ++ slot_send hold M n (a n)) (same_sends hold a b n (λ m lt. same m (omega (arith, lt))))
    ∙ ap (λ (count : ℕ). slot_sends hold b n ++ slot_send hold (slot_sends hold b n) n count) (same n (omega arith))

-- ---- a group

planned_of : (j : JudgedGroup) → KeepsPlan j → IsPlannedFor j.rate (station_of j).sources j.rows j.history.table
planned_of j K =
    group_planned (station_of j) (record j.history.opening.proposal.plan { number = 0 }) j.history.group j.rate j.rows j.history.table K.planned.own.opening.plan K.rated K.planned.opens

cells_of_outputs : (C : ℕ) (j : JudgedGroup) → KeepsPlan j → AllByRecursion (IsOfOutput (station_of j).sources j.history.table) (answered_cells C j.history.opening j.history.group j.history.table j.history.events)
cells_of_outputs C j K =
    let E = j.history in
    let whole : take (length E.events) E.events ≡ E.events = take_all (length E.events) E.events (omega arith) in
    subst (λ (F : List Event). AllByRecursion (IsOfOutput (station_of j).sources E.table) (answered_cells C E.opening E.group E.table F)) whole
    (of_outputs C E.opening E.group E.table E.events K.planned.opens K.kept (length E.events) (omega arith))

pub group_sends_none_foreign : PlannedGroupsSendNoneForeign
group_sends_none_foreign C j c r K R =
    none_foreign j c (planned_of j K) r.sent (answered_cells C j.history.opening j.history.group j.history.table j.history.events) R.sent (cells_of_outputs C j K)

-- ---- one output

module _ (law : AreSpaced) (C : ℕ) (j : JudgedGroup) (c : Timing) (r : Recording) (K : KeepsPlan j) (spaced : AreSpacedTables j.history.opening j.history.group j.history.table j.history.events) (R : IsRecordedRun C j c r) (number : ℕ) (row : OutputRow) (x : Placed)
    (listed : slice_get j.rows number ≡ Some row) (there : slice_get (outputs_of j.history.table) number ≡ Some x) (apart : overlapping (duty_in j (row, x)) (duties_in j) ≤ 1) where
  abbrev E : GroupHistory
  E = j.history

  abbrev own : Duty
  own = duty_in j (row, x)

  abbrev facts : Facts
  facts = facts_of j.rate j.tolerance row x

  abbrev period : ℕ
  period = period_of x.place

  box : SendsAsRightBox C E x
  box = sends_as_right_box law C E.opening E.group E.table E.events K.planned spaced K.kept number x there

  abbrev slots : ℕ
  slots = box.asks.slots

  abbrev sends : List SlotSend
  sends = right_sends C E x box.asks.place slots

  -- ---- its words in the log

  abbrev is_late : ℕ → Bool
  is_late n = nat_le c.from (slot_of E x n)

  stays_late : StaysTrue is_late
  stays_late m n le late =
      let reached : c.from ≤ slot_of E x m = grind (arith, nat_tests, late) in
      let more : m * period ≤ n * period = mul-le-mul_right period le in
      let on : c.from ≤ slot_of E x n = omega (arith, reached, more) in
      grind (arith, nat_tests, on)

  log : IsSkipped is_late sends
  log = skips x.limits.hold _ is_late stays_late slots

  abbrev skipped : ℕ
  skipped = log.skipped

  abbrev group_words : List Sent
  group_words = filter (λ w. w.group == E.group) r.sent

  abbrev own_words : List Sent
  own_words = filter (fits_rest own) group_words

  words : AllZip (IsRecordedAs j c) (map (cell_of C E x) (drop skipped sends)) own_words
  words =
      let cells = answered_cells C E.opening E.group E.table E.events in
      let is : filter (λ cell. nat_le c.from cell.slot) (filter (has_sent x.source) cells) ≡ map (cell_of C E x) (drop skipped sends) =
      ap (filter (λ (cell : AnsweredCell). nat_le c.from cell.slot)) box.sends
      ∙ (filter_mapped (λ (cell : AnsweredCell). nat_le c.from cell.slot) (cell_of C E x) sends ∙ ap (map (cell_of C E x)) log.rest) in
      subst (λ (cells : List AnsweredCell). AllZip (IsRecordedAs j c) cells own_words) is
      (words_of_output j c (planned_of j K) number row x listed there apart cells group_words R.sent (cells_of_outputs C j K))

  sent_is : sent_by own r ≡ map (λ (w : Sent). w.mark) own_words
  sent_is = ap (map (λ (w : Sent). w.mark)) (filter_kept (λ (w : Sent). w.group == E.group) (fits_rest own) r.sent)

  as_many : length (sent_by own r) ≡ length own_words
  as_many = ap (λ (ms : List Mark). length ms) sent_is ∙ length-map own_words (λ (w : Sent). w.mark)

  as_many_sends : skipped + length (sent_by own r) ≡ length sends
  as_many_sends =
      let few : skipped ≤ length sends = log.most in
      let same = same_lengths (IsRecordedAs j c) (map (cell_of C E x) (drop skipped sends)) own_words words in
      omega (arith, few, same, as_many, length-map (drop skipped sends) (cell_of C E x), length-drop skipped sends)

  -- a send and its word
  record SendHere (k : ℕ) : Type 0 where
    pub send : SlotSend
    pub word : Sent
    pub is : send_at sends (skipped + k) ≡ send
    pub mark : mark_at (sent_by own r) k ≡ word.mark
    pub recorded : IsRecordedAs j c (cell_of C E x send) word

  send_here : (k : ℕ) → k < length (sent_by own r) → SendHere k
  send_here k lt =
      let (w, word) = get_within own_words k (omega (arith, lt, as_many)) in
      let (s, send) = get_within (drop skipped sends) k (omega (arith, lt, as_many_sends, length-drop skipped sends)) in
      let P = row_of (IsRecordedAs j c) (map (cell_of C E x) (drop skipped sends)) own_words k w words word in
      let is : P.row ≡ cell_of C E x s = same_Some P.row (cell_of C E x s) (sym P.there ∙ (slice_get-map (cell_of C E x) (drop skipped sends) k ∙ ap (option_map (cell_of C E x)) send)) in
      record {
        send = s;
        word = w;
        is = sym (get_or-drop skipped sends k no_send) ∙ get_or_from_slice_get (drop skipped sends) k s no_send send;
        mark = ap (λ (ms : List Mark). mark_at ms k) sent_is
            ∙ get_or_from_slice_get (map (λ (w : Sent). w.mark) own_words) k w.mark no_mark (slice_get-map (λ (w : Sent). w.mark) own_words k ∙ ap (option_map (λ (w : Sent). w.mark)) word);
        recorded = subst (λ (cell : AnsweredCell). IsRecordedAs j c cell w) is P.related;
      }

  -- ---- its slots in time

  abbrev begin : ℕ → ℕ
  begin n = c.begin (slot_of E x n)

  slots_on : (m d : ℕ) → c.begin m ≤ c.begin (m + d)
  slots_on m zero = let e : m ≡ m + 0 = omega arith in let g = ap c.begin e in omega (arith, g)
  slots_on m (suc d) =
      let rest = slots_on m d in
      let next = R.timed.rise (m + d) in
      let e : m + d + 1 ≡ m + suc d = omega arith in
      let g = ap c.begin e in
      omega (arith, rest, next, g)

  slots_rise : (m n : ℕ) → m ≤ n → c.begin m ≤ c.begin n
  slots_rise m n le =
      let e : m + (n - m) ≡ n = omega (arith, le) in
      let g = ap c.begin e in
      omega (arith, slots_on m (n - m), g)

  next_slot : (n : ℕ) → slot_of E x n + period ≡ slot_of E x (n + 1)
  next_slot n = omega arith

  are_slots : AreSlots facts c.finer c.drift begin
  are_slots = record {
    soonest = λ n. let g = ap c.begin (next_slot n) in omega (arith, R.timed.soonest number (slot_of E x n) x there, g);
    latest = λ n. let g = ap c.begin (next_slot n) in omega (arith, R.timed.latest number (slot_of E x n) x there, g);
  }

  abbrev moments : List ℕ
  moments = c.moments x.source

  abbrev box_list : List SlotSend
  box_list = box_sends facts begin moments slots

  box_is : box_list ≡ sends
  box_is = same_sends x.limits.hold _ _ slots (λ n lt. sym (R.asked (box.asks.place n) x (slot_of E x n) (box.asks.cell n lt)))

  send_is : (k : ℕ) → (S : SendHere k) → send_at box_list (skipped + k) ≡ S.send
  send_is k S = ap (λ (M : List SlotSend). send_at M (skipped + k)) box_is ∙ S.is

  time_is : (k : ℕ) → (S : SendHere k) → time_at (sent_by own r) k ≡ S.word.mark.time
  time_is k S = ap (λ (m : Mark). m.time) S.mark

  moment_is : (k : ℕ) → (S : SendHere k) → begin (send_at box_list (skipped + k)).slot ≡ begin S.send.slot
  moment_is k S = ap (λ (s : SlotSend). begin s.slot) (send_is k S)

  -- the accepted word of a send
  accepted_is : (S : SlotSend) (raw : ℕ) → (cell_of C E x S).word ≡ Some raw → (mark_at (c.words x.source) (S.count - 1)).raw ≡ raw
  accepted_is S raw h =
      let marks = c.words x.source in
      let heard : slice_get (map (λ (a : Mark). a.raw) marks) (S.count - 1) ≡ Some raw = ap (λ (ws : List ℕ). slice_get ws (S.count - 1)) (R.heard x.source) ∙ h in
      let inside = slice_get_within (map (λ (a : Mark). a.raw) marks) (S.count - 1) raw heard in
      let (a, here) = get_within marks (S.count - 1) (omega (arith, inside, length-map marks (λ (a : Mark). a.raw))) in
      let is : a.raw ≡ raw = same_Some a.raw raw (sym (slice_get-map (λ (a : Mark). a.raw) marks (S.count - 1) ∙ ap (option_map (λ (a : Mark). a.raw)) here) ∙ heard) in
      ap (λ (m : Mark). m.raw) (get_or_from_slice_get marks (S.count - 1) a no_mark here) ∙ is

  -- ---- the output's first slot in the log

  -- how many slots the log comes after the output's first one
  abbrev behind : ℕ
  behind = c.from - E.opening.first - x.place.offset

  abbrev from_slot : ℕ
  from_slot = (behind + (period - 1)) / period

  within : x.place.offset < period
  within = let S : IsSpacedTable E.table = spaced 0 in (S.periodic number x there).within

  some_period : 1 ≤ period
  some_period = omega (arith, within)

  -- a slot before the log comes before it
  below_from : (n : ℕ) → is_late n ≡ false → n < from_slot
  below_from n early =
      let before : slot_of E x n < c.from = grind (arith, nat_tests, early) in
      let more : suc n * period ≡ n * period + period = omega arith in
      le-div (suc n) (behind + (period - 1)) period some_period (omega (arith, before, more, some_period))

  -- a slot before the output's first one in the log is before the log
  before_log : (n : ℕ) → n < from_slot → slot_of E x n < c.from
  before_log n less =
      let few : from_slot * period ≤ behind + (period - 1) = div-mul-le_self (behind + (period - 1)) period in
      let next : n + 1 ≤ from_slot = omega (arith, less) in
      let more : (n + 1) * period ≤ from_slot * period = mul-le-mul_right period next in
      omega (arith, few, more, some_period)

  -- it is at most a period after the log begins
  from_near : slot_of E x from_slot ≤ c.from + period
  from_near =
      let few : from_slot * period ≤ behind + (period - 1) = div-mul-le_self (behind + (period - 1)) period in
      let begun = R.begun in
      elim (cases_lt from_slot 1) [
        | inl none ↦
            let zero_slots : from_slot ≡ 0 = omega (arith, none) in
            let is : from_slot * period ≡ 0 = ap (λ (n : ℕ). n * period) zero_slots ∙ omega arith in
            omega (arith, is, within, begun)
        | inr some ↦
            let least : 1 * period ≤ from_slot * period = mul-le-mul_right period some in
            omega (arith, few, least, within, some_period, begun)
      ]

  -- ---- the log

  recorded : IsRecordOf facts (span_of E.group r) (accepted_by own r) (sent_by own r)
  recorded =
      let long : length box_list ≡ length sends = ap (λ (M : List SlotSend). length M) box_is in
      record {
        finer = c.finer;
        wrong = c.wrong;
        drift = c.drift;
        near = R.timed.near number row x listed there;
        words = c.words x.source;
        moments = moments;
        timed = R.many x.source;
        rise = R.rise x.source;
        piece = R.piece x.source;
        begin = begin;
        slots = are_slots;
        delay = c.delay;
        short = R.short;
        passed = slots;
        skipped = skipped;
        enough = omega (arith, long, as_many_sends);
        same = λ k lt.
            let S = send_here k lt in
            ap (λ (m : Mark). m.raw) S.mark
            ∙ sym (ap (λ (s : SlotSend). (mark_at (c.words x.source) (s.count - 1)).raw) (send_is k S) ∙ accepted_is S.send S.word.mark.raw S.recorded.word);
        early = λ k lt.
            let S = send_here k lt in
            let here = ap (λ (t : ℕ). t * (j.rate * c.finer)) (time_is k S) in
            let near : c.begin (slot_of E x S.send.slot) + c.delay ≤ S.word.mark.time * (j.rate * c.finer) + c.wrong = S.recorded.early in
            omega (arith, near, here, moment_is k S);
        late = λ k lt.
            let S = send_here k lt in
            let here = ap (λ (t : ℕ). t * (j.rate * c.finer)) (time_is k S) in
            let near : S.word.mark.time * (j.rate * c.finer) ≤ c.begin (slot_of E x S.send.slot) + c.delay + c.wrong = S.recorded.late in
            omega (arith, near, here, moment_is k S);
        from = from_slot;
        earlier = λ k lt. below_from (send_at box_list k).slot (ap (λ (M : List SlotSend). is_late (send_at M k).slot) box_is ∙ log.before k lt);
        before = λ n less.
            let early = before_log n less in
            let rise = slots_rise (slot_of E x n) c.from (omega (arith, early)) in
            omega (arith, rise, R.opens);
        opens =
            let rise = slots_rise (slot_of E x from_slot) (c.from + period) from_near in
            let latest = R.timed.latest number c.from x there in
            omega (arith, rise, latest, R.opens);
        after = λ k le lt. absurd (omega (arith, le, lt, long, as_many_sends));
        ends =
            let passed : next_slot_on E (length E.events) x.place.bus ≤ slot_of E x slots = box.asks.passed in
            let rise = slots_rise (next_slot_on E (length E.events) x.place.bus) (slot_of E x slots) passed in
            omega (arith, R.ends number x there, rise);
      }

  -- ---- what is found

  pub group_has_no_finding : RecordedBoxHasNoFinding → GridPeriodsArePlanned → found_at (duties_in j) own r ≡ []
  group_has_no_finding judge grid =
      let planned : ArePlanned facts = outputs_are_planned grid (station_of j) (record E.opening.proposal.plan { number = 0 }) E.group j.rate j.rows E.table number j.tolerance row x K.sound K.planned.own.opening.plan K.rated K.planned.opens listed there in
      judge (duties_in j) own r planned recorded
