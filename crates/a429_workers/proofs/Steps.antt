-- One event of a run: its answer, and the state after it.
use Rattle.std.proofs.Common.{◌≡◌, ℕ, suc, ◌+◌, ◌-◌, ◌^◌, ◌<◌, ◌≤◌, ◌/◌, ◌%◌, Bool, true, false, List, [], ◌∷◌, ◌++◌, length, take, map, ◌∙◌, sym, ap, subst, refl, inl, inr, arith, append-nil, append_assoc}
use Rattle.std.specs.Prelude.{Option, Some, None, Result, Ok, IsTrue, if◌then◌else◌, ◌==◌, filter, filter_map, nat_lt, slice_get, unwrap_or, option_map, option_and_then, option_to_list}
use Rattle.std.specs.Option.{option_map_or}
use Rattle.std.proofs.lemmas.List.{take_all, length-append, map-append}
use Rattle.std.proofs.lemmas.List.Elements.{filter-append, filter_map-append}
use Rattle.std.proofs.lemmas.Option.{none-some, same_Some}
use Rattle.std.proofs.lemmas.Bool.{cases_Bool, cases_lt, cases_eq, lt-ltb, le-ltb, lt-leb, eq-eqb, ne_eqb}
use Rattle.a429_equipment.specs.declared.loads.Load.{Load}
use Rattle.a429_equipment.specs.declared.rows.SourceRow.{SourceRow}
use Rattle.a429_equipment.specs.declared.arrivals.ArrivalRefusal.{ArrivalRefusal}
use Rattle.a429_equipment.specs.TableRecord.{TableRecord}
use Rattle.a429_equipment.specs.Agreement.{words_of}
use Rattle.a429_equipment.specs.Arrivals.{sorted}
use Rattle.a429_equipment.specs.Receiving.{IsReceived, ReceiversAcceptForSources, ReceiversAcceptInPieces}
use Rattle.a429_equipment.specs.SameStation.{same_station}
use Rattle.a429_equipment.specs.Sound.{OfEach}
use Rattle.a429_slots.specs.Tables.{Placed, SlotTable, PlanTable, groups_of, buses_of, cells_of, output_in}
use Rattle.a429_slots.specs.Proposed.{Proposed}
use Rattle.a429_slots.specs.Events.{Event, Arrive, Cell, Frame, Publish}
use Rattle.a429_slots.specs.History.{Opening, OpensWith, AnsweredCell, current, last_of, accepted_in, accepted_by, latest_by, sent_word, answered_cell, answered_cells, proposal_for, published, numbers_left, newest_number, newest_plan, newest_table}
use Rattle.a429_slots.specs.FrameStates.{FrameState, frame_state_of, next_cell, after_cell, fits_next}
use Rattle.a429_slots.specs.GoingOn.{AnsweredCellsGrow, CellsCount, FramesTurn, OthersPass, TellsFrameAnswer, TellsNextCell, after_frame, frame_reply}
use Rattle.a429_slots.specs.declared.answers.Answer.{Answer}
use Rattle.a429_slots.specs.declared.answers.Answer.TheVariants.{Accepted, Sent, Changed, Published, Refused}
use Rattle.a429_slots.specs.declared.answers.Refusal.TheVariants.{NoSuch, FrameEnd, MidFrame, SlotsSpent}
use Rattle.a429_slots.specs.Answers.{answer, source_answer, cell_answer, frame_answer}
use Rattle.a429_workers.specs.Calls.{Carried, Turn, Takes, StaysMid, StaysSpent, GroupState, IsAnswered, word_of, answered_by, number_of, table_of, turn, after_turn}
use Rattle.a429_workers.specs.Runs.{AreHeard, ArePublished, plans_of, turn_answer}
use Rattle.a429_workers.proofs.Lists.{get_front, get_seam, all_get, last_get, last_from}
use Rattle.a429_workers.proofs.Heard.{beginning, next_word, word_at, words_at, accepted_of, none_of_others}
use Rattle.a429_slots.proofs.Histories.{take_following}

-- what laws of the crates below say
pub record Below (t : TableRecord) : Type 0 where
  pub words : ReceiversAcceptForSources t
  pub pieces : ReceiversAcceptInPieces t
  pub cell : CellsCount
  pub frame : FramesTurn
  pub other : OthersPass
  pub next : TellsNextCell
  pub answer : TellsFrameAnswer
  pub answered : AnsweredCellsGrow

-- what does not change along a run
pub record Given (C : ℕ) (o : Opening) (g : ℕ) (p : SlotTable) (later : List Proposed) (heard : ℕ → List (ℕ × ℕ)) : Type 0 where
  pub below : Below o.proposal.station
  pub known : OfEach (λ s. s.receiver < length o.proposal.station.receivers) o.proposal.station.sources
  pub opens : OpensWith o g p
  pub plans : ArePublished o later
  pub accepted : AreHeard C o.proposal.station heard

-- one more of receiver r
abbrev pub bump : ℕ → (ℕ → ℕ) → ℕ → ℕ
bump r cut q = if r == q then suc (cut q) else cut q

abbrev pub plans_in : Opening → List Event → List Proposed
plans_in o E = filter_map (proposal_for o) E

plans_in-no_proposal : (o : Opening) (E : List Event) (e : Event) → proposal_for o e ≡ None → plans_in o (E ++ e ∷ []) ≡ plans_in o E
plans_in-no_proposal o E e h = filter_map-append (proposal_for o) E (e ∷ []) ∙ rw h (append-nil (plans_in o E))

-- the load says what its source has accepted
abbrev pub IsLatest : ℕ → Opening → List Event → Load → Type 0
IsLatest C o E l = latest_by C o l.source E ≡ (l.count, l.word)

-- ---- a cell, by its output and its load

abbrev word_after : ℕ → Opening → List Event → List AnsweredCell → ℕ → Option Placed → Option ℕ
word_after C o E earlier slot x = option_and_then (λ output. (answered_cell C o E earlier slot output).word) x

abbrev cell_after : ℕ → Opening → List Event → List AnsweredCell → ℕ → Option Placed → List AnsweredCell
cell_after C o E earlier slot x = option_to_list (option_map (answered_cell C o E earlier slot) x)

abbrev cell_with : ℕ → Option Load → Option ℕ → List AnsweredCell
cell_with slot load word = option_map_or (λ l. record { slot = slot; source = l.source; count = l.count; word = word } ∷ []) load []

abbrev reply : ℕ → Opening → List Event → FrameState → List AnsweredCell → Option (ℕ × ℕ) → Answer
reply C o E s earlier due = option_map_or (λ c. Sent c.0 (s.first + c.1) (word_after C o E earlier (s.first + c.1) (output_in s.table c.0 c.1))) due (Refused FrameEnd)

abbrev cells_next : ℕ → Opening → List Event → FrameState → List AnsweredCell → Option (ℕ × ℕ) → List AnsweredCell
cells_next C o E s earlier due = option_to_list (option_and_then (λ cell. option_map (answered_cell C o E earlier (s.first + cell.1)) (output_in s.table cell.0 cell.1)) due)

-- the cell of an output is the machine's if the load has the latest word
pub record IsSame (C : ℕ) (o : Opening) (E : List Event) (earlier : List AnsweredCell) (slot : ℕ) (x : Option Placed) (y : Option Load) : Type 0 where
  pub word : word_after C o E earlier slot x ≡ word_of earlier slot x y
  pub cell : cell_after C o E earlier slot x ≡ cell_with slot y (word_of earlier slot x y)

same_cell : (C : ℕ) (o : Opening) (E : List Event) (earlier : List AnsweredCell) (slot : ℕ) (x : Option Placed) (y : Option Load) → option_map (λ l. l.source) y ≡ option_map (λ o. o.source) x
    → ((l : Load) → y ≡ Some l → IsLatest C o E l) → IsSame C o E earlier slot x y
same_cell C o E earlier slot None None same latest = record { word = refl; cell = refl }
same_cell C o E earlier slot None (Some l) same latest = absurd (none-some l.source (sym same))
same_cell C o E earlier slot (Some output) None same latest = absurd (none-some output.source same)
same_cell C o E earlier slot (Some output) (Some l) same latest =
    let source : l.source ≡ output.source = same_Some l.source output.source same in
    let told : latest_by C o output.source E ≡ (l.count, l.word) = ap (λ (i : ℕ). latest_by C o i E) (sym source) ∙ latest l refl in
    let sends = sent_word earlier slot output.source output.limits.hold output.limits.spacing in
    record {
      word = ap sends told;
      cell = ap (λ (k : ℕ × Option ℕ). record { slot = slot; source = output.source; count = k.0; word = sends k } ∷ []) told
          ∙ ap (λ (i : ℕ). record { slot = slot; source = i; count = l.count; word = sends (l.count, l.word) } ∷ []) (sym source);
    }

module _ (C : ℕ) (o : Opening) (g : ℕ) (p : SlotTable) (later : List Proposed) (heard : ℕ → List (ℕ × ℕ)) where
  -- after these events each receiver's list is at its cut, and the transmitter is in this state; the rest of the plans
  -- is yet to come
  pub record IsAt (E : List Event) (cut : ℕ → ℕ) (s : GroupState) (rest : List Proposed) : Type 0 where
    pub arrivals : (r : ℕ) → words_at r E ≡ map (λ a. a.1) (take (cut r) (heard r))
    pub seen : s.seen ≡ plans_of o (plans_in o E)
    pub left : later ≡ plans_in o E ++ rest
    pub frame : frame_state_of g (current o g p E) ≡ s.frame
    pub earlier : answered_cells C o g p E ≡ s.earlier

  module _ (W : Given C o g p later heard) where
    -- ---- arrivals

    received : (r : ℕ) → IsReceived (2 ^ C - 1) o.proposal.station r (heard r)
    received r = elim (cases_lt r (length o.proposal.station.receivers)) [
      | inl lt ↦ W.accepted.received r lt
      | inr ge ↦ subst (IsReceived (2 ^ C - 1) o.proposal.station r) (sym (W.accepted.others r ge)) refl
    ]

    so_far : (r k : ℕ) → IsReceived (2 ^ C - 1) o.proposal.station r (take k (heard r))
    so_far r k = beginning (2 ^ C - 1) o.proposal.station r W.below.pieces (heard r) (received r) k

    pub accepted_here : (E : List Event) (cut : ℕ → ℕ) (s : GroupState) (rest : List Proposed) (i r : ℕ) (row : SourceRow) → IsAt E cut s rest → slice_get o.proposal.station.sources i ≡ Some row → row.receiver ≡ r
        → accepted_by C o i E ≡ words_of i (take (cut r) (heard r))
    accepted_here E cut s rest i r row A there its = subst (λ (q : ℕ). accepted_by C o i E ≡ words_of i (take (cut q) (heard q))) its
        (accepted_of C o W.below.words i row E (take (cut row.receiver) (heard row.receiver)) there (so_far row.receiver (cut row.receiver)) (A.arrivals row.receiver))

    -- a source that a receiver accepted a word for is one of its own
    own_source : (r k : ℕ) (a : ℕ × ℕ) (row : SourceRow) → slice_get (heard r) k ≡ Some a → slice_get o.proposal.station.sources a.0 ≡ Some row → row.receiver ≡ r
    own_source r k a row there known = elim (cases_eq r row.receiver) [
      | inl same ↦ sym same
      | inr other ↦
          let xs = take k (heard r) in
          let none : words_of a.0 (xs ++ a ∷ []) ≡ [] = ap (words_of a.0) (sym (take_following (heard r) k a there)) ∙ none_of_others C o W.below.words a.0 r row (take (suc k) (heard r)) known (so_far r (suc k)) other in
          let more = ap (map (λ (e : ℕ × ℕ). e.1)) (filter-append (λ (e : ℕ × ℕ). e.0 == a.0) xs (a ∷ [])) ∙ map-append (λ (e : ℕ × ℕ). e.1) (filter (λ (e : ℕ × ℕ). e.0 == a.0) xs) (filter (λ (e : ℕ × ℕ). e.0 == a.0) (a ∷ [])) in
          let own : words_of a.0 (a ∷ []) ≡ a.1 ∷ [] = rw (eq-eqb a.0 a.0 refl) refl in
          absurd (omega (arith, ap (λ (ws : List ℕ). length ws) (sym more ∙ none), length-append (words_of a.0 xs) (words_of a.0 (a ∷ [])), ap (λ (ws : List ℕ). length ws) own))
    ]

    few_words : (E : List Event) (cut : ℕ → ℕ) (s : GroupState) (rest : List Proposed) (r : ℕ) (a : ℕ × ℕ) → IsAt E cut s rest → slice_get (heard r) (cut r) ≡ Some a → length (words_of a.0 (take (cut r) (heard r))) < 2 ^ C - 1
        → length (accepted_by C o a.0 E) < 2 ^ C - 1
    few_words E cut s rest r a A there room = go (slice_get o.proposal.station.sources a.0) refl
      where
        go : (x : Option SourceRow) → slice_get o.proposal.station.sources a.0 ≡ x → length (accepted_by C o a.0 E) < 2 ^ C - 1
        go None is = omega (arith, room, ap (λ (x : Option SourceRow). length (option_map_or (λ s. accepted_in C o s E) x [])) is)
        go (Some row) is = omega (arith, room, ap (λ (ws : List ℕ). length ws) (accepted_here E cut s rest a.0 r row A is (own_source r (cut r) a row there is)))

    some_receiver : (r k : ℕ) (a : ℕ × ℕ) → slice_get (heard r) k ≡ Some a → r < length o.proposal.station.receivers
    some_receiver r k a there = elim (cases_lt r (length o.proposal.station.receivers)) [
      | inl lt ↦ lt
      | inr ge ↦ absurd (none-some a (sym (ap (λ (xs : List (ℕ × ℕ)). slice_get xs k) (W.accepted.others r ge)) ∙ there))
    ]

    pub arrival_answer : (E : List Event) (cut : ℕ → ℕ) (s : GroupState) (rest : List Proposed) (r : ℕ) (a : ℕ × ℕ) → IsAt E cut s rest → slice_get (heard r) (cut r) ≡ Some a
        → answer C o E (Arrive r a.1) ≡ Accepted a.0
    arrival_answer E cut s rest r a A there =
        let t = o.proposal.station in
        let next = next_word (2 ^ C - 1) t r W.below.pieces (heard r) (received r) (cut r) a there in
        let known : answer C o E (Arrive r a.1) ≡ source_answer C o E (sorted t r a.1) = rw (lt-leb (length t.receivers) r (some_receiver r (cut r) a there)) refl in
        let counted : source_answer C o E (Ok a.0) ≡ Accepted a.0 = rw (lt-ltb (length (accepted_by C o a.0 E)) (2 ^ C - 1) (few_words E cut s rest r a A there next.room)) refl in
        known ∙ (ap (λ (x : Result ℕ ArrivalRefusal). source_answer C o E x) next.source ∙ counted)

    arrived_at : (E : List Event) (cut : ℕ → ℕ) (r : ℕ) (a : ℕ × ℕ) → slice_get (heard r) (cut r) ≡ Some a → (q : ℕ) → words_at q E ≡ map (λ a. a.1) (take (cut q) (heard q))
        → words_at q (E ++ Arrive r a.1 ∷ []) ≡ map (λ a. a.1) (take (bump r cut q) (heard q))
    arrived_at E cut r a there q before = filter_map-append (word_at q) E (Arrive r a.1 ∷ []) ∙ elim (cases_eq r q) [
      | inl e ↦
          let here : slice_get (heard q) (cut q) ≡ Some a = subst (λ (k : ℕ). slice_get (heard k) (cut k) ≡ Some a) e there in
          rw (eq-eqb r q e) (ap (λ (ws : List ℕ). ws ++ a.1 ∷ []) before
          ∙ (sym (map-append (λ (b : ℕ × ℕ). b.1) (take (cut q) (heard q)) (a ∷ [])) ∙ ap (map (λ (b : ℕ × ℕ). b.1)) (sym (take_following (heard q) (cut q) a here))))
      | inr n ↦ rw (ne_eqb r q n) (append-nil (words_at q E) ∙ before)
    ]

    pub arrival_step : (E : List Event) (cut : ℕ → ℕ) (s : GroupState) (rest : List Proposed) (r : ℕ) (a : ℕ × ℕ) → IsAt E cut s rest → slice_get (heard r) (cut r) ≡ Some a
        → IsAt (E ++ Arrive r a.1 ∷ []) (bump r cut) s rest
    arrival_step E cut s rest r a A there =
        let same = plans_in-no_proposal o E (Arrive r a.1) refl in
        record {
          arrivals = λ q. arrived_at E cut r a there q (A.arrivals q);
          seen = A.seen ∙ ap (plans_of o) (sym same);
          left = A.left ∙ ap (λ (qs : List Proposed). qs ++ rest) (sym same);
          frame = W.below.other o g p E (Arrive r a.1) refl refl ∙ A.frame;
          earlier = W.below.answered C o g p E (Arrive r a.1) ∙ A.earlier;
        }

    none_came : (E : List Event) (cut : ℕ → ℕ) (e : Event) → ((r : ℕ) → word_at r e ≡ None) → ((r : ℕ) → words_at r E ≡ map (λ a. a.1) (take (cut r) (heard r)))
        → (r : ℕ) → words_at r (E ++ e ∷ []) ≡ map (λ a. a.1) (take (cut r) (heard r))
    none_came E cut e none before r = filter_map-append (word_at r) E (e ∷ []) ∙ (rw (none r) (append-nil (words_at r E)) ∙ before r)

    -- ---- publications

    few_plans : (qs rest : List Proposed) → later ≡ qs ++ rest → o.proposal.plan.number + (length qs + length rest) ≤ 2 ^ 64 - 1
    few_plans qs rest left = omega (arith, W.plans.countable, ap (λ (l : List Proposed). length l) left, length-append qs rest)

    published_all : (E : List Event) (rest : List Proposed) → later ≡ plans_in o E ++ rest → published o E ≡ plans_in o E
    published_all E rest left = take_all (numbers_left o) (plans_in o E) (omega (arith, few_plans (plans_in o E) rest left))

    next_number : (E : List Event) (rest : List Proposed) → later ≡ plans_in o E ++ rest → newest_number o E ≡ o.proposal.plan.number + length (plans_in o E)
    next_number E rest left = ap (λ (qs : List Proposed). o.proposal.plan.number + length qs) (published_all E rest left)

    in_later : (qs : List Proposed) (q : Proposed) (rest : List Proposed) → later ≡ qs ++ q ∷ rest → slice_get later (length qs) ≡ Some q
    in_later qs q rest left = ap (λ (l : List Proposed). slice_get l (length qs)) left ∙ get_seam qs q rest

    of_station : (qs : List Proposed) (q : Proposed) (rest : List Proposed) → later ≡ qs ++ q ∷ rest → same_station o.proposal.station q.station ≡ true
    of_station qs q rest left = all_get (λ (x : Proposed). IsTrue (same_station o.proposal.station x.station)) later (length qs) q (in_later qs q rest left) W.plans.of_station

    pub publish_answer_is : (E : List Event) (cut : ℕ → ℕ) (s : GroupState) (q : Proposed) (rest : List Proposed) → IsAt E cut s (q ∷ rest) → answer C o E (Publish q) ≡ Published q.plan.number
    publish_answer_is E cut s q rest A =
        let qs = plans_in o E in
        let number = next_number E (q ∷ rest) A.left in
        let own : q.plan.number ≡ o.proposal.plan.number + (length qs + 1) = W.plans.numbered (length qs) q (in_later qs q rest A.left) in
        let lt : newest_number o E < 2 ^ 64 - 1 = omega (arith, number, few_plans qs (q ∷ rest) A.left) in
        let next : newest_number o E + 1 ≡ q.plan.number = omega (arith, number, own) in
        rw (of_station qs q rest A.left, lt-ltb (newest_number o E) (2 ^ 64 - 1) lt) (ap Published next)

    pub publish_step : (E : List Event) (cut : ℕ → ℕ) (s : GroupState) (q : Proposed) (rest : List Proposed) → IsAt E cut s (q ∷ rest) → IsAt (E ++ Publish q ∷ []) cut (record s { seen = s.seen ++ q.plan ∷ [] }) rest
    publish_step E cut s q rest A =
        let qs = plans_in o E in
        let more : plans_in o (E ++ Publish q ∷ []) ≡ qs ++ q ∷ [] = filter_map-append (proposal_for o) E (Publish q ∷ []) ∙ rw (of_station qs q rest A.left) refl in
        record {
          arrivals = none_came E cut (Publish q) (λ r. refl) A.arrivals;
          seen = ap (λ (l : List PlanTable). l ++ q.plan ∷ []) A.seen
              ∙ (ap (λ (l : List PlanTable). o.proposal.plan ∷ l) (sym (map-append (λ (x : Proposed). x.plan) qs (q ∷ []))) ∙ ap (plans_of o) (sym more));
          left = A.left ∙ (sym (append_assoc qs (q ∷ []) rest) ∙ ap (λ (l : List Proposed). l ++ rest) (sym more));
          frame = W.below.other o g p E (Publish q) refl refl ∙ A.frame;
          earlier = W.below.answered C o g p E (Publish q) ∙ A.earlier;
        }

    -- ---- the group's own events

    -- they are no arrivals and no publications
    own_event : (E : List Event) (cut : ℕ → ℕ) (s r : GroupState) (rest : List Proposed) (e : Event) → ((k : ℕ) → word_at k e ≡ None) → proposal_for o e ≡ None → IsAt E cut s rest → r.seen ≡ s.seen
        → frame_state_of g (current o g p (E ++ e ∷ [])) ≡ r.frame → answered_cells C o g p (E ++ e ∷ []) ≡ r.earlier → IsAt (E ++ e ∷ []) cut r rest
    own_event E cut s r rest e unheard unplanned A seen frame earlier =
        let same = plans_in-no_proposal o E e unplanned in
        record {
          arrivals = none_came E cut e unheard A.arrivals;
          seen = seen ∙ (A.seen ∙ ap (plans_of o) (sym same));
          left = A.left ∙ ap (λ (l : List Proposed). l ++ rest) (sym same);
          frame = frame;
          earlier = earlier;
        }

    cell_reply : (E : List Event) (cut : ℕ → ℕ) (s : GroupState) (rest : List Proposed) → IsAt E cut s rest → answer C o E (Cell g) ≡ reply C o E s.frame s.earlier (next_cell s.frame)
    cell_reply E cut s rest A =
        let f = current o g p E in
        ap (λ (x : Option SlotTable). option_map_or (λ t. cell_answer C o E g (answered_cells C o g t E) (current o g t E)) x (Refused NoSuch)) W.opens
        ∙ (ap (reply C o E (frame_state_of g f) (answered_cells C o g p E)) (W.below.next g f)
        ∙ (ap (λ (z : FrameState). reply C o E z (answered_cells C o g p E) (next_cell z)) A.frame ∙ ap (λ (cs : List AnsweredCell). reply C o E s.frame cs (next_cell s.frame)) A.earlier))

    cells_grow : (E : List Event) (cut : ℕ → ℕ) (s : GroupState) (rest : List Proposed) → IsAt E cut s rest
        → answered_cells C o g p (E ++ Cell g ∷ []) ≡ s.earlier ++ cells_next C o E s.frame s.earlier (next_cell s.frame)
    cells_grow E cut s rest A =
        let f = current o g p E in
        let cs = answered_cells C o g p E in
        W.below.answered C o g p E (Cell g) ∙ rw (eq-eqb g g refl)
        (ap (λ (x : Option (ℕ × ℕ)). cs ++ cells_next C o E (frame_state_of g f) cs x) (W.below.next g f)
        ∙ (ap (λ (z : FrameState). cs ++ cells_next C o E z cs (next_cell z)) A.frame ∙ ap (λ (l : List AnsweredCell). l ++ cells_next C o E s.frame l (next_cell s.frame)) A.earlier))

    frame_next : (E : List Event) (cut : ℕ → ℕ) (s : GroupState) (rest : List Proposed) → IsAt E cut s rest → frame_state_of g (current o g p (E ++ Cell g ∷ [])) ≡ after_cell s.frame
    frame_next E cut s rest A = W.below.cell o g p E ∙ ap (λ (z : FrameState). after_cell z) A.frame

    pub end_answer : (E : List Event) (cut : ℕ → ℕ) (s : GroupState) (rest : List Proposed) → IsAt E cut s rest → next_cell s.frame ≡ None → answer C o E (Cell g) ≡ Refused FrameEnd
    end_answer E cut s rest A none = cell_reply E cut s rest A ∙ ap (reply C o E s.frame s.earlier) none

    still_over : (z : FrameState) → next_cell z ≡ None → after_cell z ≡ z
    still_over z none = elim (cases_lt z.sent (cells_of z.table)) [
      | inl lt ↦
          let cell : ℕ × ℕ = (z.sent % buses_of z.table, z.sent / buses_of z.table) in
          let some : next_cell z ≡ Some cell = rw (lt-ltb z.sent (cells_of z.table) lt) refl in
          absurd (none-some cell (sym none ∙ some))
      | inr ge ↦ rw (le-ltb z.sent (cells_of z.table) ge) refl
    ]

    pub end_step : (E : List Event) (cut : ℕ → ℕ) (s : GroupState) (rest : List Proposed) → IsAt E cut s rest → next_cell s.frame ≡ None → IsAt (E ++ Cell g ∷ []) cut s rest
    end_step E cut s rest A none = own_event E cut s s rest (Cell g) (λ r. refl) refl A refl
        (frame_next E cut s rest A ∙ still_over s.frame none)
        (cells_grow E cut s rest A ∙ (ap (λ (x : Option (ℕ × ℕ)). s.earlier ++ cells_next C o E s.frame s.earlier x) none ∙ append-nil s.earlier))

    pub cell_answer_is : (E : List Event) (cut : ℕ → ℕ) (s : GroupState) (rest : List Proposed) (c : Carried) → IsAt E cut s rest → IsAnswered s c → ((l : Load) → c.load ≡ Some l → IsLatest C o E l)
        → answer C o E (Cell g) ≡ Sent c.bus c.slot c.word
    cell_answer_is E cut s rest c A is latest =
        let x = output_in s.frame.table is.cell.0 is.cell.1 in
        let same = same_cell C o E s.earlier c.slot x c.load is.load latest in
        cell_reply E cut s rest A
        ∙ (ap (reply C o E s.frame s.earlier) is.due
        ∙ (ap (λ (n : ℕ). Sent is.cell.0 n (word_after C o E s.earlier n x)) (sym is.slot)
        ∙ (ap (λ (w : Option ℕ). Sent is.cell.0 c.slot w) (same.word ∙ sym is.word) ∙ ap (λ (b : ℕ). Sent b c.slot c.word) (sym is.bus))))

    pub cell_step : (E : List Event) (cut : ℕ → ℕ) (s : GroupState) (rest : List Proposed) (c : Carried) → IsAt E cut s rest → IsAnswered s c → ((l : Load) → c.load ≡ Some l → IsLatest C o E l)
        → IsAt (E ++ Cell g ∷ []) cut (record s { frame = after_cell s.frame; earlier = s.earlier ++ answered_by c }) rest
    cell_step E cut s rest c A is latest =
        let x = output_in s.frame.table is.cell.0 is.cell.1 in
        let same = same_cell C o E s.earlier c.slot x c.load is.load latest in
        own_event E cut s (record s { frame = after_cell s.frame; earlier = s.earlier ++ answered_by c }) rest (Cell g) (λ r. refl) refl A refl
        (frame_next E cut s rest A)
        (cells_grow E cut s rest A
        ∙ (ap (λ (d : Option (ℕ × ℕ)). s.earlier ++ cells_next C o E s.frame s.earlier d) is.due
        ∙ (ap (λ (n : ℕ). s.earlier ++ cell_after C o E s.earlier n x) (sym is.slot)
        ∙ (ap (λ (l : List AnsweredCell). s.earlier ++ l) (same.cell ∙ ap (cell_with c.slot c.load) (sym is.word))))))

    -- ---- changes

    newest_is : (E : List Event) (cut : ℕ → ℕ) (s : GroupState) (rest : List Proposed) → IsAt E cut s rest → last_of s.seen ≡ Some (newest_plan o E)
    newest_is E cut s rest A = ap (λ (l : List PlanTable). last_of l) A.seen
        ∙ (last_from (λ (q : Proposed). q.plan) o.proposal.plan (plans_in o E)
        ∙ ap (λ (qs : List Proposed). Some (option_map_or (λ q. q.plan) (last_of qs) o.proposal.plan)) (sym (published_all E rest A.left)))

    -- the last of the published plans has their number
    last_number : (qs rest : List Proposed) → later ≡ qs ++ rest → (option_map_or (λ q. q.plan) (last_of qs) o.proposal.plan).number ≡ o.proposal.plan.number + length qs
    last_number [] rest left = omega arith
    last_number (q ∷ qs) rest left =
        let (w, is) = last_get q qs in
        let n = length (q ∷ qs) - 1 in
        let there : slice_get later n ≡ Some w = ap (λ (l : List Proposed). slice_get l n) left ∙ get_front (q ∷ qs) rest n w is in
        let number : w.plan.number ≡ o.proposal.plan.number + (n + 1) = W.plans.numbered n w there in
        ap (λ (x : Option Proposed). (option_map_or (λ q. q.plan) x o.proposal.plan).number) is ∙ omega (arith, number)

    number_is : (E : List Event) (cut : ℕ → ℕ) (s : GroupState) (rest : List Proposed) → IsAt E cut s rest → newest_number o E ≡ number_of s.seen
    number_is E cut s rest A = next_number E rest A.left
        ∙ (sym (last_number (plans_in o E) rest A.left)
        ∙ (ap (λ (qs : List Proposed). (option_map_or (λ q. q.plan) (last_of qs) o.proposal.plan).number) (sym (published_all E rest A.left))
        ∙ ap (λ (x : Option PlanTable). option_map_or (λ q. q.number) x 0) (sym (newest_is E cut s rest A))))

    table_is : (E : List Event) (cut : ℕ → ℕ) (s : GroupState) (rest : List Proposed) → IsAt E cut s rest → newest_table o g p E ≡ table_of g p s.seen
    table_is E cut s rest A = ap (λ (x : Option PlanTable). option_map_or (λ q. unwrap_or (slice_get (groups_of q) g) p) x p) (sym (newest_is E cut s rest A))

    -- the answer to a change, and the state after it
    pub record IsTurned (E : List Event) (cut : ℕ → ℕ) (s : GroupState) (rest : List Proposed) (t : Turn) : Type 0 where
      pub answer : answer C o E (Frame g) ≡ turn_answer t
      pub after : IsAt (E ++ Frame g ∷ []) cut (after_turn g p s s.seen t) rest

    pub turn_step : (E : List Event) (cut : ℕ → ℕ) (s : GroupState) (rest : List Proposed) → IsAt E cut s rest → IsTurned E cut s rest (turn g p s s.seen)
    turn_step E cut s rest A =
        let f = current o g p E in
        let n = newest_number o E in
        let now = newest_table o g p E in
        let t = turn g p s s.seen in
        record {
          answer = ap (λ (x : Option SlotTable). option_map_or (λ p. frame_answer g n (newest_table o g p E) (current o g p E)) x (Refused NoSuch)) W.opens
              ∙ (W.below.answer g n now f
              ∙ (ap (λ (z : FrameState). frame_reply z n now) A.frame
              ∙ (ap (λ (m : ℕ). frame_reply s.frame m now) (number_is E cut s rest A) ∙ (ap (frame_reply s.frame (number_of s.seen)) (table_is E cut s rest A) ∙ replied))));
          after = own_event E cut s (after_turn g p s s.seen t) rest (Frame g) (λ r. refl) refl A (seen_turned t)
              (W.below.frame o g p E ∙ (ap (λ (z : FrameState). after_frame z now) A.frame ∙ (ap (after_frame s.frame) (table_is E cut s rest A) ∙ led)))
              (W.below.answered C o g p E (Frame g) ∙ (A.earlier ∙ earlier_turned t));
        }
      where
        replied : frame_reply s.frame (number_of s.seen) (table_of g p s.seen) ≡ turn_answer (turn g p s s.seen)
        replied = by (nat_lt s.frame.sent (cells_of s.frame.table)) (fits_next s.frame (table_of g p s.seen))
          where
            by : (mid fits : Bool) → (if mid then Refused MidFrame else (if fits then Changed (number_of s.seen) else Refused SlotsSpent)) ≡ turn_answer (if mid then StaysMid else (if fits then Takes (number_of s.seen) else StaysSpent))
            by true fits = refl
            by false true = refl
            by false false = refl

        led : after_frame s.frame (table_of g p s.seen) ≡ (after_turn g p s s.seen (turn g p s s.seen)).frame
        led = elim (cases_Bool (nat_lt s.frame.sent (cells_of s.frame.table))) [
          | inl mid ↦ rw mid refl
          | inr over ↦ elim (cases_Bool (fits_next s.frame (table_of g p s.seen))) [
            | inl fits ↦ rw (over, fits) (rw fits refl)
            | inr full ↦ rw (over, full) refl
          ]
        ]

        seen_turned : (t : Turn) → (after_turn g p s s.seen t).seen ≡ s.seen
        seen_turned (Takes n) = refl
        seen_turned StaysMid = refl
        seen_turned StaysSpent = refl

        earlier_turned : (t : Turn) → s.earlier ≡ (after_turn g p s s.seen t).earlier
        earlier_turned (Takes n) = refl
        earlier_turned StaysMid = refl
        earlier_turned StaysSpent = refl
