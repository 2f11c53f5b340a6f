-- The answers to the cells of a stretch of events without a taken Frame.
use Rattle.std.proofs.Common.{◌≡◌, ℕ, suc, ◌+◌, ◌≤◌, Bool, true, false, List, [], ◌∷◌, ◌++◌, map, take, ◌∙◌, sym, ap, subst, refl, inl, inr, arith, append-nil, append_assoc}
use Rattle.std.specs.Prelude.{Option, Some, cond, slice_get, count_by, if◌then◌else◌, ◌&&◌, IsTrue, ◌↔◌}
use Rattle.std.specs.Option.{option_map_or}
use Rattle.std.specs.List.{range_with_len}
use Rattle.std.proofs.lemmas.List.Sums.{sum_by-cons}
use Rattle.std.proofs.lemmas.Bool.{cases_Bool, cases_lt, and_parts, eq-eqb, lt-ltb, le-ltb, leb-true}
use Rattle.a429_slots.specs.Tables.{SlotTable, groups_of, cells_of}
use Rattle.a429_slots.specs.Events.{Event, Cell, Frame}
use Rattle.a429_slots.specs.History.{Opening, Current, AnsweredCell, answered_cells, current, is_cell, is_frame, is_over, has_room, cells_since, newest_number, newest_table, next_frame}
use Rattle.a429_slots.specs.TakenFrames.{is_taken_after, NoneTaken, BeginsFrame}
use Rattle.a429_slots.specs.declared.answers.Answer.{Answer}
use Rattle.a429_slots.specs.declared.answers.Answer.TheVariants.{Changed, Refused}
use Rattle.a429_slots.specs.declared.answers.Refusal.TheVariants.{NoSuch, MidFrame, SlotsSpent}
use Rattle.a429_slots.specs.Answers.{answer, answers, cell_answer, frame_answer}
use Rattle.a429_core.specs.Sends.{cell_answers, cells_in_order, cell_sent, without_word, in_turn}
use Rattle.a429_core.proofs.InOrder.{turn, in_turn_is, whole_turn}
use Rattle.a429_slots.proofs.Answered.{cell_event}
use Rattle.a429_slots.proofs.Histories.{cells_next, current_next, goes_on}

abbrev IsGroup : Opening → ℕ → SlotTable → Type 0
IsGroup o g p = slice_get (groups_of o.proposal.plan) g ≡ Some p

-- ---- one event of a stretch

none_first : (o : Opening) (g : ℕ) (p : SlotTable) (E es : List Event) (e : Event) → NoneTaken o g p E (e ∷ es) → is_taken_after o g p E e ≡ false
none_first o g p E es e none = subst (λ (F : List Event). is_taken_after o g p F e ≡ false) (append-nil E) (none [] es e refl)

none_later : (o : Opening) (g : ℕ) (p : SlotTable) (E es : List Event) (e : Event) → NoneTaken o g p E (e ∷ es) → NoneTaken o g p (E ++ e ∷ []) es
none_later o g p E es e none xs ys d split =
    subst (λ (F : List Event). is_taken_after o g p F d ≡ false) (sym (append_assoc E (e ∷ []) xs)) (none (e ∷ xs) ys d (ap (λ (zs : List Event). e ∷ zs) split))

goes_next : (o : Opening) (g : ℕ) (p : SlotTable) (E : List Event) (e : Event) (f : Current) → current o g p E ≡ f → is_taken_after o g p E e ≡ false → current o g p (E ++ e ∷ []) ≡ goes_on f e
goes_next o g p E e f here h = current_next o g p E e ∙ (rw h refl ∙ ap (λ (c : Current). goes_on c e) here)

counted : (g : ℕ) (e : Event) (es : List Event) → count_by (is_cell g) (e ∷ es) ≡ (if is_cell g e then 1 else 0) + count_by (is_cell g) es
counted g e es = sum_by-cons (λ x. cond (is_cell g x) 1 0) e es

cell_answer-turn : (C : ℕ) (o : Opening) (E : List Event) (g : ℕ) (earlier : List AnsweredCell) (f : Current) → without_word (cell_answer C o E g earlier f) ≡ turn f (cells_since g f)
cell_answer-turn C o E g earlier f = elim (cases_lt (cells_since g f) (cells_of f.table)) [
  | inl lt ↦ rw (lt-ltb (cells_since g f) (cells_of f.table) lt) refl
  | inr ge ↦ rw (le-ltb (cells_since g f) (cells_of f.table) ge) refl
]

cell_answered : (C : ℕ) (o : Opening) (E : List Event) (g : ℕ) (p : SlotTable) (f : Current) → IsGroup o g p → current o g p E ≡ f → without_word (answer C o E (Cell g)) ≡ turn f (cells_since g f)
cell_answered C o E g p f there here =
    ap (λ (x : Option SlotTable). without_word (option_map_or (λ t. cell_answer C o E g (answered_cells C o g t E) (current o g t E)) x (Refused NoSuch))) there
    ∙ (ap (λ (c : Current). without_word (cell_answer C o E g (answered_cells C o g p E) c)) here ∙ cell_answer-turn C o E g (answered_cells C o g p E) f)

-- ---- a whole stretch

pub stretch_is : (C : ℕ) (o : Opening) (g : ℕ) (p : SlotTable) (E es : List Event) (f : Current) → IsGroup o g p → current o g p E ≡ f → NoneTaken o g p E es
    → map without_word (cell_answers C o g E es) ≡ map (turn f) (range_with_len (cells_since g f) (count_by (is_cell g) es))
stretch_is C o g p E [] f there here none = refl
stretch_is C o g p E (e ∷ es) f there here none =
    let h = none_first o g p E es e none in
    let rest = stretch_is C o g p (E ++ e ∷ []) es (goes_on f e) there (goes_next o g p E e f here h) (none_later o g p E es e none) in
    elim (cases_Bool (is_cell g e)) [
      | inl yes' ↦
          let many : count_by (is_cell g) (e ∷ es) ≡ suc (count_by (is_cell g) es) = counted g e es ∙ rw yes' (omega arith) in
          let on : cells_since g (goes_on f e) ≡ cells_since g f + 1 = cells_next g f e ∙ rw yes' (omega arith) in
          let first : without_word (answer C o E e) ≡ turn f (cells_since g f) = ap (λ (x : Event). without_word (answer C o E x)) (cell_event g e yes') ∙ cell_answered C o E g p f there here in
          let later : map without_word (cell_answers C o g (E ++ e ∷ []) es) ≡ map (turn f) (range_with_len (cells_since g f + 1) (count_by (is_cell g) es)) =
          rest ∙ ap (λ (k : ℕ). map (turn f) (range_with_len k (count_by (is_cell g) es))) on in
          let list : cell_answers C o g E (e ∷ es) ≡ answer C o E e ∷ cell_answers C o g (E ++ e ∷ []) es = rw yes' refl in
          ap (map without_word) list
          ∙ (ap (λ (a : Answer). a ∷ map without_word (cell_answers C o g (E ++ e ∷ []) es)) first
          ∙ (ap (λ (as' : List Answer). turn f (cells_since g f) ∷ as') later
          ∙ ap (λ (n : ℕ). map (turn f) (range_with_len (cells_since g f) n)) (sym many)))
      | inr other ↦
          let many : count_by (is_cell g) (e ∷ es) ≡ count_by (is_cell g) es = counted g e es ∙ rw other (omega arith) in
          let on : cells_since g (goes_on f e) ≡ cells_since g f = cells_next g f e ∙ rw other (omega arith) in
          let list : cell_answers C o g E (e ∷ es) ≡ cell_answers C o g (E ++ e ∷ []) es = rw other refl in
          ap (map without_word) list
          ∙ (rest ∙ (ap (λ (k : ℕ). map (turn f) (range_with_len k (count_by (is_cell g) es))) on ∙ ap (λ (n : ℕ). map (turn f) (range_with_len (cells_since g f) n)) (sym many)))
    ]

cells_since-begins_frame : (o : Opening) (g : ℕ) (p : SlotTable) (E : List Event) → BeginsFrame o g p E → cells_since g (current o g p E) ≡ 0
cells_since-begins_frame o g p E (inl none) = ap (λ (F : List Event). cells_since g (current o g p F)) none
cells_since-begins_frame o g p E (inr begun) =
    ap (λ (F : List Event). cells_since g (current o g p F)) begun.split
    ∙ ap (cells_since g) (current_next o g p begun.past begun.event ∙ taken_now o g p begun.past begun.event begun.taken)
  where
    taken_now : (o : Opening) (g : ℕ) (p : SlotTable) (past : List Event) (e : Event) → is_taken_after o g p past e ≡ true
        → (if is_taken_after o g p past e then next_frame (newest_number o past) (newest_table o g p past) (current o g p past) else goes_on (current o g p past) e)
        ≡ next_frame (newest_number o past) (newest_table o g p past) (current o g p past)
    taken_now o g p past e h = rw h refl

pub each_in_turn : (C : ℕ) (o : Opening) (g : ℕ) (p : SlotTable) (E es : List Event) → IsGroup o g p → BeginsFrame o g p E → NoneTaken o g p E es
    → map without_word (cell_answers C o g E es) ≡ in_turn (current o g p E) (count_by (is_cell g) es)
each_in_turn C o g p E es there begun none =
    let f = current o g p E in
    let n = count_by (is_cell g) es in
    stretch_is C o g p E es f there refl none ∙ (ap (λ (k : ℕ). map (turn f) (range_with_len k n)) (cells_since-begins_frame o g p E begun) ∙ in_turn_is f n)

-- the frame at the end of a stretch
record IsStill (o : Opening) (g : ℕ) (p : SlotTable) (E es : List Event) (f : Current) : Type 0 where
  pub table : (current o g p (E ++ es)).table ≡ f.table
  pub cells : cells_since g (current o g p (E ++ es)) ≡ cells_since g f + count_by (is_cell g) es

current-none_taken : (o : Opening) (g : ℕ) (p : SlotTable) (E es : List Event) (f : Current) → current o g p E ≡ f → NoneTaken o g p E es → IsStill o g p E es f
current-none_taken o g p E [] f here none =
    let same : current o g p (E ++ []) ≡ f = ap (current o g p) (append-nil E) ∙ here in
    record { table = ap (λ (c : Current). c.table) same; cells = ap (cells_since g) same ∙ omega arith }
current-none_taken o g p E (e ∷ es) f here none =
    let h = none_first o g p E es e none in
    let rest = current-none_taken o g p (E ++ e ∷ []) es (goes_on f e) (goes_next o g p E e f here h) (none_later o g p E es e none) in
    let at_end : current o g p (E ++ e ∷ es) ≡ current o g p ((E ++ e ∷ []) ++ es) = ap (current o g p) (sym (append_assoc E (e ∷ []) es)) in
    record {
      table = ap (λ (c : Current). c.table) at_end ∙ rest.table;
      cells = ap (cells_since g) at_end ∙ omega (arith, rest.cells, cells_next g f e, counted g e es);
    }

pub all_in_turn : (C : ℕ) (o : Opening) (g : ℕ) (p : SlotTable) (E es : List Event) (e : Event) → IsGroup o g p → BeginsFrame o g p E → NoneTaken o g p E es → is_taken_after o g p (E ++ es) e ≡ true
    → take (cells_of (current o g p E).table) (map without_word (cell_answers C o g E es)) ≡ map cell_sent (cells_in_order (current o g p E))
all_in_turn C o g p E es e there begun none taken =
    let f = current o g p E in
    let h = current o g p (E ++ es) in
    let parts = and_parts (is_frame g e) (is_over g h && has_room h (newest_table o g p (E ++ es))) taken in
    let over = and_parts (is_over g h) (has_room h (newest_table o g p (E ++ es))) parts.1 in
    let cells = leb-true (cells_of h.table) (cells_since g h) over.0 in
    let end = current-none_taken o g p E es f refl none in
    let fits : cells_of f.table ≤ count_by (is_cell g) es = omega (arith, cells, ap cells_of end.table, end.cells, cells_since-begins_frame o g p E begun) in
    ap (take (cells_of f.table)) (each_in_turn C o g p E es there begun none) ∙ whole_turn f (count_by (is_cell g) es) fits

-- ---- Frames, and histories that are cut

changed_where_taken : (g n : ℕ) (now : SlotTable) (f : Current) → (over room : Bool) → (if over then (if room then Changed n else Refused SlotsSpent) else Refused MidFrame) ≡ Changed n → (over && room) ≡ true
changed_where_taken g n now f true true h = refl
changed_where_taken g n now f true false h = cc
changed_where_taken g n now f false room h = cc

pub frame_is_answered : (C : ℕ) (o : Opening) (E : List Event) (g : ℕ) (p : SlotTable) → IsGroup o g p → (answer C o E (Frame g) ≡ Changed (newest_number o E)) ↔ IsTrue (is_taken_after o g p E (Frame g))
frame_is_answered C o E g p there =
    let f = current o g p E in
    let n = newest_number o E in
    let now = newest_table o g p E in
    let is : answer C o E (Frame g) ≡ frame_answer g n now f = ap (λ (x : Option SlotTable). option_map_or (λ t. frame_answer g n (newest_table o g t E) (current o g t E)) x (Refused NoSuch)) there in
    let own : is_frame g (Frame g) ≡ true = eq-eqb g g refl in (
      λ h. let both = changed_where_taken g n now f (is_over g f) (has_room f now) (sym is ∙ h) in rw (own, both) refl,
      λ h.
          let parts = and_parts (is_frame g (Frame g)) (is_over g f && has_room f now) h in
          let both = and_parts (is_over g f) (has_room f now) parts.1 in
          is ∙ rw (both.0, both.1) refl,
    )

pub answers_cut : (C : ℕ) (o : Opening) (E xs ys : List Event) → answers C o E (xs ++ ys) ≡ answers C o E xs ++ answers C o (E ++ xs) ys
answers_cut C o E [] ys = ap (λ (F : List Event). answers C o F ys) (sym (append-nil E))
answers_cut C o E (x ∷ xs) ys =
    ap (λ (as' : List Answer). answer C o E x ∷ as') (answers_cut C o (E ++ x ∷ []) xs ys
    ∙ ap (λ (F : List Event). answers C o (E ++ x ∷ []) xs ++ answers C o F ys) (append_assoc E (x ∷ []) xs))
