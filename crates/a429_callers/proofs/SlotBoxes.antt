-- What a group sends of an output while its opening plan is in force is what a right box sends.
use Rattle.std.proofs.Common.{◌≡◌, ◌∙◌, ℕ, zero, suc, ◌+◌, ◌-◌, ◌*◌, ◌/◌, ◌%◌, ◌^◌, ◌<◌, ◌≤◌, Bool, true, false, List, [], ◌∷◌, ◌++◌, length, take, map, sym, ap, subst, refl, inl, inr, arith, append-nil}
use Rattle.std.specs.Prelude.{Option, Some, None, ◌==◌, ◌&&◌, ◌||◌, count_by, filter, if◌then◌else◌, is_some, nat_le, nat_lt, option_and_then, slice_get}
use Rattle.std.specs.Option.{option_map_or}
use Rattle.std.proofs.Math.Nat.{mul-add-mod_self_right, zero-div, zero-mod}
use Rattle.std.proofs.lemmas.Bool.{cases_eq, cases_lt, eq-eqb, le-ltb, lt-ltb, ne_eqb}
use Rattle.std.proofs.lemmas.List.{map-append, take_all}
use Rattle.std.proofs.lemmas.List.Elements.{filter-append}
use Rattle.std.proofs.lemmas.Nat.{mod-mul-add, pow-add, pow_pos}
use Rattle.std.proofs.lemmas.Option.{same_Some, slice_get_cases, slice_get_within}
use Rattle.a429_judge.specs.Machine.{SlotSend, is_used_up, slot_send, slot_sends}
use Rattle.a429_judge.proofs.Scanning.{false_unless}
use Rattle.a429_slots.specs.Tables.{Placed, SlotTable, buses_of, cell_at, frame_of, output_in, outputs_of}
use Rattle.a429_slots.specs.Events.{Event, Cell}
use Rattle.a429_slots.specs.History.{AnsweredCell, Opening, accepted_by, answered_cells, has_sent, is_cell, is_held, is_too_close, last_of, times_sent}
use Rattle.a429_slots.specs.Spacing.{IsOutputCell, IsSpacedTable, answered_at}
use Rattle.a429_slots.specs.GoingOn.{stands_after}
use Rattle.a429_slots.specs.declared.answers.Answer.TheVariants.{Sent}
use Rattle.a429_slots.proofs.Answered.{answered_push, cell_event, event_at, more_cells, next_of}
use Rattle.a429_slots.proofs.Following.{frame_at_place}
use Rattle.a429_slots.proofs.Histories.{take_following}
use Rattle.a429_slots.proofs.SamePlan.{is_at, rests_apart}
use Rattle.a429_core.specs.Histories.{GroupHistory, history_of}
use Rattle.a429_core.specs.Latency.{IsPlannedHistory, KeepsOutput, next_slot_on, period_of}
use Rattle.a429_core.specs.Spaced.{AreSpaced, CellIsAnswered}
use Rattle.a429_core.proofs.Passing.{IsTick, goes}
use Rattle.a429_core.proofs.Rounds.{AreSpacedTables, cell_here, one_plan_keeps, set_of}
use Rattle.a429_core.proofs.SpacedWords.{answer_is}
use Rattle.a429_callers.specs.SlotBoxes.{KeepsOpeningPlan, SendsAsRightBox, cell_of, known_at, slot_of, word_of}
use Rattle.a429_callers.proofs.AnsweredCells.{and_right, count_kept, count_map, from_next, later, next_is, number_here, or_right, table_here, words_stay}

-- ---- one output

module _ (law : AreSpaced) (C : ℕ) (o : Opening) (g : ℕ) (p : SlotTable) (E : List Event) (H : IsPlannedHistory (history_of o g p E)) (spaced : AreSpacedTables o g p E) (kept : KeepsOpeningPlan (history_of o g p E)) (number : ℕ) (x : Placed)
    (there : slice_get (outputs_of p) number ≡ Some x) where
  abbrev run : GroupHistory
  run = history_of o g p E

  abbrev period : ℕ
  period = period_of x.place

  -- the slot with this number
  abbrev begin : ℕ → ℕ
  begin n = slot_of run x n

  abbrev next : ℕ → ℕ
  next k = next_slot_on run k x.place.bus

  first_spaced : IsSpacedTable p
  first_spaced = spaced 0

  stays : KeepsOutput run 0 (length E) x.source x.place
  stays = one_plan_keeps o g p E 0 (length E) x.source x.place H.opens (omega arith) (omega arith) (sym kept) (record { number = number; output = x; there = there; of_source = refl; at_place = refl })

  within : x.place.offset < period
  within = (first_spaced.periodic number x there).within

  -- ---- frames

  -- they begin whole periods on
  record IsFrame (k : ℕ) : Type 0 where
    pub times : ℕ
    pub first : (frame_at_place o g p E k).first ≡ o.first + times * period

  frame_here : (k : ℕ) → k ≤ length E → IsFrame k
  frame_here k few = elim (later o g p E H.opens kept k few) [
    | inl S ↦
        let none : 0 * period ≡ 0 = omega arith in
        record { times = 0; first = S.first ∙ omega (arith, none) }
    | inr M ↦
        let A = M.again (number_here o g p E H.opens kept k few) in
        let fits : x.place.period ≤ p.frame = first_spaced.fits number x there in
        let digits : (p.frame - x.place.period) + x.place.period ≡ p.frame = omega (arith, fits) in
        let m : ℕ = 2 ^ (p.frame - x.place.period) in
        let slots : frame_of p ≡ m * period = ap (λ (d : ℕ). 2 ^ d) (sym digits) ∙ pow-add 2 (p.frame - x.place.period) x.place.period in
        let sum : A.frames * (m * period) ≡ A.frames * m * period = omega arith in
        record { times = A.frames * m; first = A.first ∙ ap (λ (n : ℕ). o.first + n) (ap (λ (n : ℕ). A.frames * n) slots ∙ sum) }
  ]

  -- ---- its cells

  -- each cell of its source is its own
  same_output : (k : ℕ) (y : Placed) (s : ℕ) → IsOutputCell o g p E k y s → y.source ≡ x.source → y ≡ x
  same_output k y s Y same =
      let below : k < length E = slice_get_within E k (Cell g) Y.asked in
      let table = table_here o g p E H.opens kept k (omega (arith, below)) in
      let stands : output_in p Y.cell.0 Y.cell.1 ≡ Some y = subst (λ (t : SlotTable). output_in t Y.cell.0 Y.cell.1 ≡ Some y) table Y.stands in
      let A = is_at p Y.cell.0 Y.cell.1 y stands in
      let is : A.number ≡ number = first_spaced.own A.number number y x A.row there same in
      same_Some y x (sym A.row ∙ (ap (λ (n : ℕ). slice_get (outputs_of p) n) is ∙ there))

  -- the next slot on its bus, if it is one of its slots
  own_cell : (k n : ℕ) → k < length E → IsTick o g p E k x.place.bus → next k ≡ begin n → IsOutputCell o g p E k x (begin n)
  own_cell k n below T is =
      let frame = frame_here k (omega (arith, below)) in
      let counted : begin n ≡ (frame_at_place o g p E k).first + T.in_frame = sym is ∙ T.now in
      let first : (frame_at_place o g p E k).first ≡ o.first + frame.times * period = frame.first in
      let sum : frame.times * period + T.in_frame ≡ n * period + x.place.offset = omega (arith, counted, first) in
      let rest : T.in_frame % period ≡ x.place.offset = sym (mul-add-mod_self_right frame.times period T.in_frame) ∙ (ap (λ (z : ℕ). z % period) sum ∙ mod-mul-add n period x.place.offset within) in
      let cell : cell_at p x.place.bus T.in_frame ≡ Some number = ((first_spaced.periodic number x there).cells x.place.bus T.in_frame).1 (refl, rest) in
      let stands : output_in p x.place.bus T.in_frame ≡ Some x = ap (option_and_then (λ (m : ℕ). slice_get (outputs_of p) m)) cell ∙ there in
      record {
        asked = T.asked;
        cell = (x.place.bus, T.in_frame);
        due = T.due;
        stands = subst (λ (t : SlotTable). output_in t x.place.bus T.in_frame ≡ Some x) (sym (table_here o g p E H.opens kept k (omega (arith, below)))) stands;
        counted = counted;
      }

  abbrev HasNoCell : ℕ → Type 0
  HasNoCell k = (y : Placed) (s : ℕ) → IsOutputCell o g p E k y s → y.source ≡ x.source → ⊥

  -- it has none in between
  no_own_cell : (k n : ℕ) → k < length E → next k < begin n → begin n < next k + period → HasNoCell k
  no_own_cell k n below less near y s Y same =
      let frame = frame_here k (omega (arith, below)) in
      let first : (frame_at_place o g p E k).first ≡ o.first + frame.times * period = frame.first in
      let X = cell_here o g p E spaced k x.source x.place y s (stays k (omega arith) below) Y same in
      let begun : (frame_at_place o g p E k).first ≤ s = X.begun in
      let u = s - (frame_at_place o g p E k).first in
      let here : next k ≡ s = X.next in
      let rest : u % period ≡ x.place.offset = X.cell.rest in
      let order : frame.times * period + u < n * period + x.place.offset = omega (arith, less, first, begun, here) in
      let alike : (frame.times * period + u) % period ≡ (n * period + x.place.offset) % period = mul-add-mod_self_right frame.times period u ∙ (rest ∙ sym (mod-mul-add n period x.place.offset within)) in
      omega (arith, rests_apart (frame.times * period + u) (n * period + x.place.offset) period order alike, near, first, begun, here)

  -- ---- the word in a cell

  abbrev cells : ℕ → List AnsweredCell
  cells k = answered_cells C o g p (take k E)

  abbrev known : ℕ → ℕ
  known k = known_at C run x k

  -- these are the cells with a word so far
  abbrev AreSent : ℕ → List SlotSend → Type 0
  AreSent k M = filter (has_sent x.source) (cells k) ≡ map (cell_of C run x) M

  times_are : (k count : ℕ) (M : List SlotSend) → AreSent k M → times_sent (cells k) x.source count ≡ count_by (λ (s : SlotSend). s.count == count) M
  times_are k count M is =
      count_kept (has_sent x.source) (λ (c : AnsweredCell). c.count == count) (cells k)
      ∙ (ap (count_by (λ (c : AnsweredCell). c.count == count)) is ∙ count_map (λ (c : AnsweredCell). c.count == count) (cell_of C run x) M)

  -- the word and the cell, by what was accepted
  abbrev chosen : Bool → List ℕ → Option ℕ
  chosen held words = if held || false then None else last_of words

  abbrev sent_if : Bool → List ℕ → ℕ → List SlotSend
  sent_if held words n = if length words == 0 || held then [] else record { slot = n; count = length words } ∷ []

  abbrev StayWords : List ℕ → Type 0
  StayWords words = (i : ℕ) → i < length words → slice_get words i ≡ slice_get (accepted_by C o x.source E) i

  word_is : (held : Bool) (words : List ℕ) (n : ℕ) → StayWords words → chosen held words ≡ word_of C run x (sent_if held words n)
  word_is true words n stay = rw (or_right (length words == 0)) refl
  word_is false [] n stay = refl
  word_is false (w ∷ words) n stay =
      let some : (length (w ∷ words) == 0) ≡ false = ne_eqb (length (w ∷ words)) 0 (λ h. omega (arith, h)) in
      rw some (stay (length (w ∷ words) - 1) (omega arith))

  abbrev cell_with : ℕ → ℕ → Option ℕ → AnsweredCell
  cell_with n count word = record { slot = begin n; source = x.source; count = count; word = word }

  has_word : (n count : ℕ) (word : Option ℕ) (w : ℕ) → word ≡ Some w → filter (has_sent x.source) (cell_with n count word ∷ []) ≡ cell_with n count word ∷ []
  has_word n count word w is = let own : (x.source == x.source) ≡ true = eq-eqb x.source x.source refl in rw (is, own) refl

  sent_is : (held : Bool) (words : List ℕ) (n : ℕ) → StayWords words → filter (has_sent x.source) (cell_with n (length words) (chosen held words) ∷ []) ≡ map (cell_of C run x) (sent_if held words n)
  sent_is true words n stay = rw (or_right (length words == 0)) refl
  sent_is false [] n stay = refl
  sent_is false (w ∷ words) n stay =
      let some : (length (w ∷ words) == 0) ≡ false = ne_eqb (length (w ∷ words)) 0 (λ h. omega (arith, h)) in
      let last : ℕ = length (w ∷ words) - 1 in
      elim (slice_get_cases (w ∷ words) last).1 [
        | inl hit ↦
            has_word n (length (w ∷ words)) (last_of (w ∷ words)) hit.0 hit.2
            ∙ rw some (ap (λ (v : Option ℕ). cell_with n (length (w ∷ words)) v ∷ []) (stay last (omega arith)))
        | inr miss ↦ absurd (omega (arith, miss.0))
      ]

  abbrev words : ℕ → List ℕ
  words k = accepted_by C o x.source (take k E)

  words_here : (k : ℕ) → k < length E → StayWords (words k)
  words_here k below i lt = words_stay C o E x.source k i H.apart (omega (arith, below)) lt

  chosen_here : (k n : ℕ) (M : List SlotSend) → IsOutputCell o g p E k x (begin n) → AreSent k M
      → (answered_at C o g p E k x (begin n)).word ≡ chosen (is_used_up x.limits.hold M (known k)) (words k)
  chosen_here k n M I is =
      let below : k < length E = slice_get_within E k (Cell g) I.asked in
      let far : is_too_close (cells k) (begin n) x.source x.limits.spacing ≡ false = false_unless (is_too_close (cells k) (begin n) x.source x.limits.spacing) (law.opening C o g p E k x (begin n) H.opens (spaced k) I (number_here o g p E H.opens kept k (omega (arith, below)))) in
      let held : is_held (cells k) x.source x.limits.hold (known k) ≡ is_used_up x.limits.hold M (known k) = ap (λ (t : ℕ). option_map_or (λ most. nat_le most t) x.limits.hold false) (times_are k (known k) M is) in
      ap (λ (b : Bool). if b || is_too_close (cells k) (begin n) x.source x.limits.spacing then None else last_of (words k)) held
      ∙ ap (λ (b : Bool). if is_used_up x.limits.hold M (known k) || b then None else last_of (words k)) far

  -- ---- the cells up to a place

  abbrev Agrees : (ℕ → ℕ) → (ℕ → ℕ) → ℕ → Type 0
  Agrees counts place slots = (n : ℕ) → n < slots → counts n ≡ known (place n)

  record Upto (k : ℕ) : Type 0 where
    pub slots : ℕ
    pub place : ℕ → ℕ
    pub in_order : (m n : ℕ) → m < n → n < slots → place m < place n
    pub before : (n : ℕ) → n < slots → place n < k
    pub cell : (n : ℕ) → n < slots → IsOutputCell o g p E (place n) x (begin n)
    pub all : (j : ℕ) (y : Placed) (s : ℕ) → j < k → IsOutputCell o g p E j y s → y.source ≡ x.source → (n : ℕ) × (n < slots) × (place n ≡ j)
    pub low : next k ≤ begin slots
    pub high : begin slots < next k + period
    pub sends : (counts : ℕ → ℕ) → Agrees counts place slots → AreSent k (slot_sends x.limits.hold counts slots)
    pub answers : (counts : ℕ → ℕ) → Agrees counts place slots → (n : ℕ) → n < slots
        → CellIsAnswered C run (place n) x (begin n) (word_of C run x (slot_send x.limits.hold (slot_sends x.limits.hold counts n) n (counts n)))

  -- ---- a place without a cell of it

  same_cells : (k : ℕ) → k < length E → HasNoCell k → filter (has_sent x.source) (cells (suc k)) ≡ filter (has_sent x.source) (cells k)
  same_cells k below none =
      let (e, here) = event_at E k below in
      let is : cells (suc k) ≡ (if is_cell g e then more_cells (cells k) (next_of C o g p (take k E)) else cells k) = ap (answered_cells C o g p) (take_following E k e here) ∙ answered_push C o g p (take k E) e in
      ap (filter (has_sent x.source)) is ∙ by_event e here (is_cell g e) refl
    where
      by_next : slice_get E k ≡ Some (Cell g) → (c : Option AnsweredCell) → next_of C o g p (take k E) ≡ c → filter (has_sent x.source) (more_cells (cells k) c) ≡ filter (has_sent x.source) (cells k)
      by_next asked None h = ap (filter (has_sent x.source)) (append-nil (cells k))
      by_next asked (Some c) h =
          let N = from_next C o g p E k c asked h in
          elim (cases_eq c.source x.source) [
            | inl same ↦ absurd (none N.output N.slot N.cell (sym (ap (λ (d : AnsweredCell). d.source) N.is) ∙ same))
            | inr other ↦
                let differs : (c.source == x.source) ≡ false = ne_eqb c.source x.source other in
                let unsent : has_sent x.source c ≡ false = ap (λ (b : Bool). is_some c.word && b) differs ∙ and_right (is_some c.word) in
                filter-append (has_sent x.source) (cells k) (c ∷ []) ∙ rw unsent (append-nil (filter (has_sent x.source) (cells k)))
          ]

      by_event : (e : Event) → slice_get E k ≡ Some e → (b : Bool) → is_cell g e ≡ b
          → filter (has_sent x.source) (if b then more_cells (cells k) (next_of C o g p (take k E)) else cells k) ≡ filter (has_sent x.source) (cells k)
      by_event e here false other = refl
      by_event e here true own = by_next (here ∙ ap (λ (z : Event). Some z) (cell_event g e own)) (next_of C o g p (take k E)) refl

  passes : (k : ℕ) → k < length E → (U : Upto k) → HasNoCell k → next (suc k) ≤ begin U.slots → begin U.slots < next (suc k) + period → Upto (suc k)
  passes k below U none low high = record {
    slots = U.slots;
    place = U.place;
    in_order = U.in_order;
    before = λ n lt. let old = U.before n lt in omega (arith, old);
    cell = U.cell;
    all = λ j y s lt Y same. elim (cases_eq j k) [
      | inl is ↦ absurd (none y s (subst (λ (i : ℕ). IsOutputCell o g p E i y s) is Y) same)
      | inr differs ↦ U.all j y s (omega (arith, lt, differs)) Y same
    ];
    low = low;
    high = high;
    sends = λ counts agrees. same_cells k below none ∙ U.sends counts agrees;
    answers = U.answers;
  }

  -- ---- a place with a cell of it

  more_cells_are : (k n : ℕ) → IsOutputCell o g p E k x (begin n) → cells (suc k) ≡ cells k ++ answered_at C o g p E k x (begin n) ∷ []
  more_cells_are k n I =
      let own : is_cell g (Cell g) ≡ true = eq-eqb g g refl in
      ap (answered_cells C o g p) (take_following E k (Cell g) I.asked) ∙ (answered_push C o g p (take k E) (Cell g)
      ∙ rw (own, next_is C o g p E k x (begin n) I) refl)

  sends_more : (k n : ℕ) (M : List SlotSend) → IsOutputCell o g p E k x (begin n) → AreSent k M → AreSent (suc k) (M ++ slot_send x.limits.hold M n (known k))
  sends_more k n M I is =
      let below : k < length E = slice_get_within E k (Cell g) I.asked in
      let c = answered_at C o g p E k x (begin n) in
      let held = is_used_up x.limits.hold M (known k) in
      let one : filter (has_sent x.source) (c ∷ []) ≡ map (cell_of C run x) (slot_send x.limits.hold M n (known k)) =
      ap (λ (w : Option ℕ). filter (has_sent x.source) (cell_with n (known k) w ∷ [])) (chosen_here k n M I is) ∙ sent_is held (words k) n (words_here k below) in
      ap (filter (has_sent x.source)) (more_cells_are k n I) ∙ (filter-append (has_sent x.source) (cells k) (c ∷ [])
      ∙ (ap (λ (cs : List AnsweredCell). cs ++ filter (has_sent x.source) (c ∷ [])) is
      ∙ (ap (λ (cs : List AnsweredCell). map (cell_of C run x) M ++ cs) one ∙ sym (map-append (cell_of C run x) M (slot_send x.limits.hold M n (known k))))))

  answer_here : (k n : ℕ) (M : List SlotSend) → IsOutputCell o g p E k x (begin n) → AreSent k M → CellIsAnswered C run k x (begin n) (word_of C run x (slot_send x.limits.hold M n (known k)))
  answer_here k n M I is =
      let below : k < length E = slice_get_within E k (Cell g) I.asked in
      record {
        cell = I;
        answered = answer_is C o g p E k x (begin n) H.opens I
            ∙ ap (λ (w : Option ℕ). Sent I.cell.0 (begin n) w) (chosen_here k n M I is ∙ word_is (is_used_up x.limits.hold M (known k)) (words k) n (words_here k below));
      }

  grows : (k : ℕ) → k < length E → (U : Upto k) → IsOutputCell o g p E k x (begin U.slots) → Upto (suc k)
  grows k below U I =
      let size = U.slots in
      let X = cell_here o g p E spaced k x.source x.place x (begin size) (stays k (omega arith) below) I refl in
      let after : next (suc k) ≡ begin size + 1 = X.after in
      let more : suc size * period ≡ size * period + period = omega arith in
      let some : 0 < period = pow_pos x.place.period in
      record {
        slots = suc size;
        place = now;
        in_order = λ m n less lt. elim (cases_lt n size) [
          | inl inside ↦ let o' = U.in_order m n less inside in omega (arith, o', old m (omega (arith, less, inside)), old n inside)
          | inr out ↦ let b = U.before m (omega (arith, less, lt)) in omega (arith, b, old m (omega (arith, less, lt)), new n out)
        ];
        before = λ n lt. elim (cases_lt n size) [
          | inl inside ↦ let b = U.before n inside in omega (arith, b, old n inside)
          | inr out ↦ omega (arith, new n out)
        ];
        cell = λ n lt. elim (cases_lt n size) [
          | inl inside ↦ subst (λ (j : ℕ). IsOutputCell o g p E j x (begin n)) (sym (old n inside)) (U.cell n inside)
          | inr out ↦
              let is : size ≡ n = omega (arith, lt, out) in
              subst (λ (j : ℕ). IsOutputCell o g p E j x (begin n)) (sym (new n out)) (subst (λ (m : ℕ). IsOutputCell o g p E k x (begin m)) is I)
        ];
        all = λ j y s lt Y same. elim (cases_eq j k) [
          | inl is ↦ (size, omega arith, new size (omega arith) ∙ sym is)
          | inr differs ↦
              let found = U.all j y s (omega (arith, lt, differs)) Y same in
              (found.0, omega (arith, found.1), old found.0 found.1 ∙ found.2)
        ];
        low = omega (arith, after, more, some);
        high = omega (arith, after, more, some);
        sends = λ counts agrees.
            let last : counts size ≡ known k = agrees size (omega arith) ∙ ap known (new size (omega arith)) in
            let M = slot_sends x.limits.hold counts size in
            subst (λ (count : ℕ). AreSent (suc k) (M ++ slot_send x.limits.hold M size count)) (sym last) (sends_more k size M I (U.sends counts (earlier counts agrees)));
        answers = λ counts agrees n lt. elim (cases_lt n size) [
          | inl inside ↦
              subst (λ (j : ℕ). CellIsAnswered C run j x (begin n) (word_of C run x (slot_send x.limits.hold (slot_sends x.limits.hold counts n) n (counts n)))) (sym (old n inside))
              (U.answers counts (earlier counts agrees) n inside)
          | inr out ↦
              let is : size ≡ n = omega (arith, lt, out) in
              let last : known k ≡ counts size = sym (agrees size (omega arith) ∙ ap known (new size (omega arith))) in
              let M = slot_sends x.limits.hold counts size in
              let here : CellIsAnswered C run k x (begin size) (word_of C run x (slot_send x.limits.hold M size (counts size))) =
              subst (λ (count : ℕ). CellIsAnswered C run k x (begin size) (word_of C run x (slot_send x.limits.hold M size count))) last (answer_here k size M I (U.sends counts (earlier counts agrees))) in
              subst (λ (j : ℕ). CellIsAnswered C run j x (begin n) (word_of C run x (slot_send x.limits.hold (slot_sends x.limits.hold counts n) n (counts n)))) (sym (new n out))
              (subst (λ (m : ℕ). CellIsAnswered C run k x (begin m) (word_of C run x (slot_send x.limits.hold (slot_sends x.limits.hold counts m) m (counts m)))) is here)
        ];
      }
    where
      now : ℕ → ℕ
      now n = if nat_lt n U.slots then U.place n else k

      old : (n : ℕ) → n < U.slots → now n ≡ U.place n
      old n lt = rw (lt-ltb n U.slots lt) refl

      new : (n : ℕ) → U.slots ≤ n → now n ≡ k
      new n le = rw (le-ltb n U.slots le) refl

      earlier : (counts : ℕ → ℕ) → Agrees counts now (suc U.slots) → Agrees counts U.place U.slots
      earlier counts agrees n lt = agrees n (omega (arith, lt)) ∙ ap known (old n lt)

  -- ---- all places

  first_next : next 0 ≡ o.first
  first_next =
      let sent : (stands_after o g p []).sent ≡ 0 = omega arith in
      let after : ℕ → ℕ → ℕ = λ row rest. o.first + (row + (if nat_lt x.place.bus rest then 1 else 0)) in
      ap (λ (n : ℕ). after (n / buses_of p) (n % buses_of p)) sent
      ∙ (ap (λ (n : ℕ). after n (0 % buses_of p)) (zero-div (buses_of p))
      ∙ (ap (λ (n : ℕ). after 0 n) (zero-mod (buses_of p))
      ∙ (ap (λ (b : Bool). o.first + (0 + (if b then 1 else 0))) (le-ltb x.place.bus 0 (omega arith)) ∙ omega arith)))

  start : Upto 0
  start =
      let none : 0 * period ≡ 0 = omega arith in
      record {
        slots = 0;
        place = λ n. 0;
        in_order = λ m n less lt. absurd (omega (arith, lt));
        before = λ n lt. absurd (omega (arith, lt));
        cell = λ n lt. absurd (omega (arith, lt));
        all = λ j y s lt Y same. absurd (omega (arith, lt));
        low = omega (arith, first_next, none);
        high = omega (arith, first_next, none, within);
        sends = λ counts agrees. refl;
        answers = λ counts agrees n lt. absurd (omega (arith, lt));
      }

  step : (k : ℕ) → k < length E → Upto k → Upto (suc k)
  step k below U =
      let inside : x.place.bus < buses_of (frame_at_place o g p E k).table = (set_of (frame_at_place o g p E k).table x.source x.place (spaced k) (stays k (omega arith) below)).on_a_bus in
      let low : next k ≤ begin U.slots = U.low in
      let high : begin U.slots < next k + period = U.high in
      elim (goes o g p E k x.place.bus below inside) [
        | inl same ↦ passes k below U (λ y s Y is. let X = cell_here o g p E spaced k x.source x.place y s (stays k (omega arith) below) Y is in omega (arith, X.next, X.after, same)) (omega (arith, low, same)) (omega (arith, high, same))
        | inr T ↦
            let on : next (suc k) ≡ next k + 1 = T.next in
            elim (cases_lt (next k) (begin U.slots)) [
              | inl less ↦ passes k below U (no_own_cell k U.slots below less high) (omega (arith, on, less)) (omega (arith, on, high))
              | inr more ↦ grows k below U (own_cell k U.slots below T (omega (arith, more, low)))
            ]
      ]

  upto : (k : ℕ) → k ≤ length E → Upto k
  upto zero few = start
  upto (suc k) few = step k (omega (arith, few)) (upto k (omega (arith, few)))

  pub sends_as_right_box : SendsAsRightBox C run x
  sends_as_right_box =
      let U = upto (length E) (omega arith) in
      let all : take (length E) E ≡ E = take_all (length E) E (omega arith) in
      record {
        asks = record {
          slots = U.slots;
          place = U.place;
          in_order = U.in_order;
          cell = U.cell;
          all = λ k y s Y same. U.all k y s (slice_get_within E k (Cell g) Y.asked) Y same;
          passed = U.low;
        };
        answers = U.answers (λ n. known (U.place n)) (λ n lt. refl);
        sends = ap (λ (F : List Event). filter (has_sent x.source) (answered_cells C o g p F)) (sym all) ∙ U.sends (λ n. known (U.place n)) (λ n lt. refl);
      }
