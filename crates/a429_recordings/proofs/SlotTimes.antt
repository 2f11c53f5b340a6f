-- A cell of a group has the slot in which the timeline asks for it.
use Rattle.std.proofs.Common.{◌≡◌, ◌∙◌, ◌+◌, ◌-◌, ◌*◌, ◌^◌, ◌/◌, ◌%◌, ◌<◌, ◌≤◌, ◌⊎◌, ℕ, zero, suc, Bool, true, false, inl, inr, List, [], ◌∷◌, ◌++◌, take, replicate, refl, sym, ap, subst, arith, append-nil, append_assoc, eq-eqb}
use Rattle.std.specs.Prelude.{◌==◌, ⊤, Some, None, filter_map, get_or, drop, if◌then◌else◌, slice_get}
use Rattle.std.specs.List.{range_with_len}
use Rattle.std.proofs.Math.Nat.{mul_comm}
use Rattle.std.proofs.lemmas.Bool.{cases_Bool, cases_eq, cases_lt, le-ltb, lt-ltb, ne_eqb}
use Rattle.std.proofs.lemmas.Nat.{div-mul-add, mod-mul-add, mul-le, pow_pos}
use Rattle.std.proofs.lemmas.Option.{none-some, same_Some}
use Rattle.a429_slots.specs.Events.{Arrive, Cell, Frame}
use Rattle.a429_slots.specs.FrameStates.{FrameState, after_cell, fits_next, frame_state_of, next_cell}
use Rattle.a429_slots.specs.GoingOn.{after_frame, stands_after}
use Rattle.a429_slots.specs.History.{OpensWith, cell_due, current}
use Rattle.a429_slots.specs.Proposed.{Proposed}
use Rattle.a429_slots.specs.Tables.{buses_of, cells_of, frame_of}
use Rattle.a429_slots.proofs.GoingOn.{cells_count, frames_turn, next_cell_is, others_pass}
use Rattle.a429_core.specs.Passed.{after_slots}
use Rattle.a429_recordings.specs.Simulating.{Step, Asks, Comes, Turns, event_of, history_of, opening_of, steps_in, steps_of, turn_after}
use Rattle.a429_recordings.specs.Timeline.{slot_of, table_of}
use Rattle.a429_recordings.specs.declared.simulate.log.LogWord.{LogWord}
use Rattle.a429_recordings.specs.declared.simulate.moments.Moment.{Moment}
use Rattle.a429_recordings.specs.declared.simulate.moments.Moment.TheVariants.{Word, Slot}
use Rattle.a429_recordings.proofs.SentCells.{none_published, table_kept}
use Rattle.a429_recordings.proofs.SimulatedSteps.{history_more}

-- ---- numbers

cell_below : (on c b f : ℕ) → on < f → c < b → on * b + c < b * f
cell_below on c b f inside low =
    let more : (on + 1) * b ≡ on * b + b = omega arith in
    omega (arith, mul-le (on + 1) b f b (omega (arith, inside)) (omega arith), mul_comm b f, more, low)

frame_over : (on b f : ℕ) → on + 1 ≡ f → on * b + b ≡ b * f
frame_over on b f end =
    let more : (on + 1) * b ≡ on * b + b = omega arith in
    sym more ∙ (ap (λ (n : ℕ). n * b) end ∙ mul_comm f b)

module _ (q : Proposed) (g : ℕ) (opens : OpensWith (opening_of q) g (table_of q g)) where
  -- ---- the state of the group in its frame

  abbrev state : List Step → FrameState
  state past = stands_after (opening_of q) g (table_of q g) (history_of past)

  abbrev framed : ℕ → ℕ → FrameState
  framed first sent = record { table = table_of q g; first = first; sent = sent }

  abbrev by_turn : Bool → FrameState → FrameState
  by_turn over s = if over then after_frame s (table_of q g) else s

  -- after a step
  abbrev after_step : FrameState → Step → FrameState
  after_step s (Comes w) = s
  after_step s (Asks h t) = if h == g then after_cell s else s
  after_step s (Turns h) = by_turn (h == g) s

  state_more : (past : List Step) (x : Step) → state (past ++ x ∷ []) ≡ after_step (state past) x
  state_more past x = ap (stands_after (opening_of q) g (table_of q g)) (history_more past x) ∙ by_step x
    where
      by_step : (x : Step) → stands_after (opening_of q) g (table_of q g) (history_of past ++ event_of x ∷ []) ≡ after_step (state past) x
      by_step (Comes w) = others_pass (opening_of q) g (table_of q g) (history_of past) (Arrive w.receiver w.raw) refl refl
      by_step (Asks h t) = elim (cases_eq h g) [
        | inl same ↦
            let own : (h == g) ≡ true = eq-eqb h g same in
            ap (λ (k : ℕ). stands_after (opening_of q) g (table_of q g) (history_of past ++ Cell k ∷ [])) same
            ∙ (cells_count (opening_of q) g (table_of q g) (history_of past) ∙ rw own refl)
        | inr apart ↦
            let other : (h == g) ≡ false = ne_eqb h g apart in
            others_pass (opening_of q) g (table_of q g) (history_of past) (Cell h) refl other ∙ rw other refl
      ]
      by_step (Turns h) = elim (cases_eq h g) [
        | inl same ↦
            let own : (h == g) ≡ true = eq-eqb h g same in
            ap (λ (k : ℕ). stands_after (opening_of q) g (table_of q g) (history_of past ++ Frame k ∷ [])) same
            ∙ (frames_turn (opening_of q) g (table_of q g) (history_of past)
            ∙ (ap (after_frame (state past)) (table_kept (opening_of q) g (table_of q g) (history_of past) opens (none_published (opening_of q) past)) ∙ rw own refl))
        | inr apart ↦
            let other : (h == g) ≡ false = ne_eqb h g apart in
            others_pass (opening_of q) g (table_of q g) (history_of past) (Frame h) other refl ∙ rw other refl
      ]

  -- ---- in step with the timeline

  -- in slot n of the timeline, of which c cells were sent
  record IsAt (n c : ℕ) (s : FrameState) : Type 0 where
    pub first : ℕ
    pub sent : ℕ
    pub is : s ≡ framed first sent
    pub times : ℕ
    pub on : ℕ
    pub whole : first ≡ times * frame_of (table_of q g)
    pub slot : n ≡ first + on
    pub inside : on < frame_of (table_of q g)
    pub cells : sent ≡ on * buses_of (table_of q g) + c

  -- 64 bits can count no slots of a next frame
  record IsSpent (s : FrameState) : Type 0 where
    pub first : ℕ
    pub sent : ℕ
    pub is : s ≡ framed first sent
    pub over : cells_of (table_of q g) ≤ sent
    pub full : fits_next (framed first sent) (table_of q g) ≡ false

  abbrev Keeps : ℕ → ℕ → FrameState → Type 0
  Keeps n c s = IsAt n c s ⊎ IsSpent s

  begins_at : IsAt 0 0 (state [])
  begins_at = record {
    first = 0;
    sent = 0;
    is = let none : (state []).sent ≡ 0 = omega arith in ap (framed 0) none;
    times = 0;
    on = 0;
    whole = omega arith;
    slot = omega arith;
    inside = pow_pos (table_of q g).frame;
    cells = omega arith;
  }

  begins : Keeps 0 0 (state [])
  begins = inl begins_at

  -- a cell that is due is in slot n
  abbrev TellsSlot : ℕ → FrameState → Type 0
  TellsSlot n s = (cell : ℕ × ℕ) → next_cell s ≡ Some cell → n ≡ s.first + cell.1

  -- a cell more in slot n
  cell_at : (n c : ℕ) (s : FrameState) → c < buses_of (table_of q g) → IsAt n c s → IsAt n (c + 1) (after_cell s)
  cell_at n c s low A =
      let b = buses_of (table_of q g) in
      let m = cells_of (table_of q g) in
      let count : A.sent ≡ A.on * b + c = A.cells in
      let below = cell_below A.on c b (frame_of (table_of q g)) A.inside low in
      let room : A.sent < m = omega (arith, count, below) in
      let lt = lt-ltb A.sent m room in
      record {
        first = A.first;
        sent = A.sent + 1;
        is = ap after_cell A.is ∙ rw lt refl;
        times = A.times;
        on = A.on;
        whole = A.whole;
        slot = A.slot;
        inside = A.inside;
        cells = omega (arith, count);
      }

  one_cell : (n c : ℕ) (s : FrameState) → c < buses_of (table_of q g) → Keeps n c s → Keeps n (c + 1) (after_cell s) × TellsSlot n s
  one_cell n c s low (inl A) =
      let b = buses_of (table_of q g) in
      let m = cells_of (table_of q g) in
      let count : A.sent ≡ A.on * b + c = A.cells in
      let below = cell_below A.on c b (frame_of (table_of q g)) A.inside low in
      let room : A.sent < m = omega (arith, count, below) in
      let lt = lt-ltb A.sent m room in
      let row : A.sent / b ≡ A.on = ap (λ (k : ℕ). k / b) count ∙ div-mul-add A.on b c low in
      let due : next_cell s ≡ Some (A.sent % b, A.sent / b) = ap next_cell A.is ∙ rw lt refl in
      let begin : s.first ≡ A.first = ap (λ (z : FrameState). z.first) A.is in
      let slot : n ≡ A.first + A.on = A.slot in (
        inl (cell_at n c s low A),
        λ cell is. let at : A.sent / b ≡ cell.1 = ap (λ (x : ℕ × ℕ). x.1) (same_Some (A.sent % b, A.sent / b) cell (sym due ∙ is)) in omega (arith, slot, begin, row, at),
      )
  one_cell n c s low (inr A) =
      let none = le-ltb A.sent (cells_of (table_of q g)) A.over in
      let no_cell : next_cell s ≡ None = ap next_cell A.is ∙ rw none refl in (
        inr (record { first = A.first; sent = A.sent; is = ap after_cell A.is ∙ rw none refl; over = A.over; full = A.full }),
        λ cell is. absurd (none-some cell (sym no_cell ∙ is)),
      )

  -- after the last cell of a slot, which is not the last of its frame
  slot_within : (n : ℕ) (s : FrameState) (A : IsAt n (buses_of (table_of q g)) s) → A.on + 1 < frame_of (table_of q g)
      → IsAt (n + 1) 0 (by_turn ((n + 1) % frame_of (table_of q g) == 0) s)
  slot_within n s A less =
      let b = buses_of (table_of q g) in
      let f = frame_of (table_of q g) in
      let count : A.sent ≡ A.on * b + b = A.cells in
      let whole : A.first ≡ A.times * f = A.whole in
      let slot : n ≡ A.first + A.on = A.slot in
      let more : (A.on + 1) * b ≡ A.on * b + b = omega arith in
      let next : n + 1 ≡ A.times * f + (A.on + 1) = omega (arith, slot, whole) in
      let rest : (n + 1) % f ≡ A.on + 1 = ap (λ (k : ℕ). k % f) next ∙ mod-mul-add A.times f (A.on + 1) less in
      let mid : ((n + 1) % f == 0) ≡ false = ne_eqb ((n + 1) % f) 0 (λ e. absurd (omega (arith, e, rest))) in
      let same : by_turn ((n + 1) % f == 0) s ≡ s = rw mid refl in
      record {
        first = A.first;
        sent = A.sent;
        is = same ∙ A.is;
        times = A.times;
        on = A.on + 1;
        whole = A.whole;
        slot = omega (arith, slot);
        inside = less;
        cells = omega (arith, count, more);
      }

  -- the slot is the last of its frame
  record IsLast (n : ℕ) (s : FrameState) (A : IsAt n (buses_of (table_of q g)) s) : Type 0 where
    pub all : cells_of (table_of q g) ≤ A.sent
    pub turns : by_turn ((n + 1) % frame_of (table_of q g) == 0) s ≡ after_frame (framed A.first A.sent) (table_of q g)

  last_slot : (n : ℕ) (s : FrameState) (A : IsAt n (buses_of (table_of q g)) s) → A.on + 1 ≡ frame_of (table_of q g) → IsLast n s A
  last_slot n s A last =
      let b = buses_of (table_of q g) in
      let f = frame_of (table_of q g) in
      let count : A.sent ≡ A.on * b + b = A.cells in
      let whole : A.first ≡ A.times * f = A.whole in
      let slot : n ≡ A.first + A.on = A.slot in
      let inside : A.on < f = A.inside in
      let frames : (A.times + 1) * f ≡ A.times * f + f = omega arith in
      let next : n + 1 ≡ (A.times + 1) * f + 0 = omega (arith, slot, whole, last, frames) in
      let rest : (n + 1) % f ≡ 0 = ap (λ (k : ℕ). k % f) next ∙ mod-mul-add (A.times + 1) f 0 (omega (arith, inside)) in
      let over : ((n + 1) % f == 0) ≡ true = eq-eqb ((n + 1) % f) 0 rest in
      record {
        all = omega (arith, count, frame_over A.on b f last);
        turns = rw over (ap (λ (z : FrameState). after_frame z (table_of q g)) A.is);
      }

  -- and 64 bits can count the slots of the next frame
  slot_last : (n : ℕ) (s : FrameState) (A : IsAt n (buses_of (table_of q g)) s) → A.on + 1 ≡ frame_of (table_of q g)
      → fits_next (framed A.first A.sent) (table_of q g) ≡ true → IsAt (n + 1) 0 (by_turn ((n + 1) % frame_of (table_of q g) == 0) s)
  slot_last n s A last fits =
      let f = frame_of (table_of q g) in
      let whole : A.first ≡ A.times * f = A.whole in
      let slot : n ≡ A.first + A.on = A.slot in
      let inside : A.on < f = A.inside in
      let frames : (A.times + 1) * f ≡ A.times * f + f = omega arith in
      let L = last_slot n s A last in
      let none = le-ltb A.sent (cells_of (table_of q g)) L.all in
      record {
        first = A.first + f;
        sent = 0;
        is = L.turns ∙ rw (none, fits) refl;
        times = A.times + 1;
        on = 0;
        whole = omega (arith, whole, frames);
        slot = omega (arith, slot, last);
        inside = omega (arith, inside);
        cells = omega arith;
      }

  -- after the last cell of a slot
  slot_over : (n : ℕ) (s : FrameState) → Keeps n (buses_of (table_of q g)) s → Keeps (n + 1) 0 (by_turn ((n + 1) % frame_of (table_of q g) == 0) s)
  slot_over n s (inl A) = elim (cases_lt (A.on + 1) (frame_of (table_of q g))) [
    | inl less ↦ inl (slot_within n s A less)
    | inr end ↦
        let inside : A.on < frame_of (table_of q g) = A.inside in
        let last : A.on + 1 ≡ frame_of (table_of q g) = omega (arith, end, inside) in
        let L = last_slot n s A last in
        let none = le-ltb A.sent (cells_of (table_of q g)) L.all in
        elim (cases_Bool (fits_next (framed A.first A.sent) (table_of q g))) [
          | inl fits ↦ inl (slot_last n s A last fits)
          | inr full ↦ inr (record { first = A.first; sent = A.sent; is = L.turns ∙ rw (none, full) refl; over = L.all; full = full })
        ]
  ]
  slot_over n s (inr A) = by ((n + 1) % frame_of (table_of q g) == 0)
    where
      by : (over : Bool) → Keeps (n + 1) 0 (by_turn over s)
      by false = inr A
      by true =
          let none = le-ltb A.sent (cells_of (table_of q g)) A.over in
          inr (record { first = A.first; sent = A.sent; is = ap (λ (z : FrameState). after_frame z (table_of q g)) A.is ∙ rw (none, A.full) refl; over = A.over; full = A.full })

  -- ---- all steps

  abbrev Fits : FrameState → Step → Type 0
  Fits s (Comes w) = ⊤
  Fits s (Asks h t) = h ≡ g → TellsSlot t s
  Fits s (Turns h) = ⊤

  abbrev AllFit : FrameState → List Step → Type 0
  AllFit s [] = ⊤
  AllFit s (x ∷ xs) = Fits s x × AllFit (after_step s x) xs

  own_cells : (n m c : ℕ) (rest : List Step) (s : FrameState) → c + m ≡ buses_of (table_of q g) → Keeps n c s
      → ((z : FrameState) → Keeps n (buses_of (table_of q g)) z → AllFit z rest) → AllFit s (replicate m (Asks g n) ++ rest)
  own_cells n zero c rest s all K then' = let last : c ≡ buses_of (table_of q g) = omega (arith, all) in then' s (subst (λ (k : ℕ). Keeps n k s) last K)
  own_cells n (suc m) c rest s all K then' =
      let both = one_cell n c s (omega (arith, all)) K in
      let is : (g == g) ≡ true = eq-eqb g g refl in
      let own : after_step s (Asks g n) ≡ after_cell s = rw is refl in
      (λ same. both.1, subst (λ (z : FrameState). AllFit z (replicate m (Asks g n) ++ rest)) (sym own) (own_cells n m (c + 1) rest (after_cell s) (omega (arith, all)) both.0 then'))

  other_cells : (h t m : ℕ) (rest : List Step) (s : FrameState) → (h ≡ g → ⊥) → AllFit s rest → AllFit s (replicate m (Asks h t) ++ rest)
  other_cells h t zero rest s apart fit = fit
  other_cells h t (suc m) rest s apart fit =
      let is : (h == g) ≡ false = ne_eqb h g apart in
      let same : after_step s (Asks h t) ≡ s = rw is refl in
      (λ own. absurd (apart own), subst (λ (z : FrameState). AllFit z (replicate m (Asks h t) ++ rest)) (sym same) (other_cells h t m rest s apart fit))

  own_turn : (over : Bool) (rest : List Step) (s : FrameState) → AllFit (by_turn over s) rest → AllFit s ((if over then Turns g ∷ [] else []) ++ rest)
  own_turn false rest s fit = fit
  own_turn true rest s fit =
      let is : (g == g) ≡ true = eq-eqb g g refl in
      let own : after_step s (Turns g) ≡ after_frame s (table_of q g) = rw is refl in
      (tt, subst (λ (z : FrameState). AllFit z rest) (sym own) fit)

  other_turn : (h : ℕ) (over : Bool) (rest : List Step) (s : FrameState) → (h ≡ g → ⊥) → AllFit s rest → AllFit s ((if over then Turns h ∷ [] else []) ++ rest)
  other_turn h false rest s apart fit = fit
  other_turn h true rest s apart fit =
      let is : (h == g) ≡ false = ne_eqb h g apart in
      let same : after_step s (Turns h) ≡ s = rw is refl in
      (tt, subst (λ (z : FrameState). AllFit z rest) (sym same) fit)

  -- the steps of the group's next slot, and of later moments
  own_slot : (M : List Moment) (n t len : ℕ) (s : FrameState) → ((m k : ℕ) (z : FrameState) → filter_map (slot_of g) M ≡ range_with_len m k → Keeps m 0 z → AllFit z (steps_of q M)) → Keeps n 0 s
      → t ∷ filter_map (slot_of g) M ≡ range_with_len n len → AllFit s (steps_of q (Slot g t ∷ M))
  unfolding steps_in
  own_slot M n t zero s each K is = absurd (cc is)
  own_slot M n t (suc len) s each K is =
      let here : t ≡ n = ap (λ (xs : List ℕ). get_or xs 0 0) is in
      let later : filter_map (slot_of g) M ≡ range_with_len (n + 1) len = ap (λ (xs : List ℕ). drop 1 xs) is in
      let all : AllFit s (replicate (buses_of (table_of q g)) (Asks g n) ++ (turn_after q g n ++ steps_of q M)) =
      own_cells n (buses_of (table_of q g)) 0 (turn_after q g n ++ steps_of q M) s (omega arith) K
      (λ z Z. own_turn ((n + 1) % frame_of (table_of q g) == 0) (steps_of q M) z (each (n + 1) len (by_turn ((n + 1) % frame_of (table_of q g) == 0) z) later (slot_over n z Z))) in
      subst (λ (k : ℕ). AllFit s (steps_of q (Slot g k ∷ M))) (sym here)
      (subst (AllFit s) (sym (append_assoc (replicate (buses_of (table_of q g)) (Asks g n)) (turn_after q g n) (steps_of q M))) all)

  all_fit : (M : List Moment) (n len : ℕ) (s : FrameState) → filter_map (slot_of g) M ≡ range_with_len n len → Keeps n 0 s → AllFit s (steps_of q M)
  unfolding steps_in
  all_fit [] n len s slots K = tt
  all_fit (Word w ∷ M) n len s slots K = (tt, all_fit M n len s slots K)
  all_fit (Slot h t ∷ M) n len s slots K = elim (cases_eq h g) [
    | inr apart ↦
        let is : (h == g) ≡ false = ne_eqb h g apart in
        let kept : filter_map (slot_of g) (Slot h t ∷ M) ≡ filter_map (slot_of g) M = rw is refl in
        let later = all_fit M n len s (sym kept ∙ slots) K in
        subst (AllFit s) (sym (append_assoc (replicate (buses_of (table_of q h)) (Asks h t)) (turn_after q h t) (steps_of q M)))
        (other_cells h t (buses_of (table_of q h)) (turn_after q h t ++ steps_of q M) s apart (other_turn h ((t + 1) % frame_of (table_of q h) == 0) (steps_of q M) s apart later))
    | inl same ↦
        let is : (h == g) ≡ true = eq-eqb h g same in
        let listed' : filter_map (slot_of g) (Slot h t ∷ M) ≡ t ∷ filter_map (slot_of g) M = rw is refl in
        subst (λ (k : ℕ). AllFit s (steps_of q (Slot k t ∷ M))) (sym same) (own_slot M n t len s (λ m k z. all_fit M m k z) K (sym listed' ∙ slots))
  ]

  fit_at : (past xs : List Step) (j t : ℕ) → AllFit (state past) xs → slice_get xs j ≡ Some (Asks g t) → TellsSlot t (state (past ++ take j xs))
  fit_at past [] j t fit there = absurd (none-some (Asks g t) there)
  fit_at past (x ∷ xs) zero t fit there =
      let here : x ≡ Asks g t = same_Some x (Asks g t) there in
      let one : Fits (state past) (Asks g t) = subst (Fits (state past)) here fit.0 in
      subst (λ (p : List Step). TellsSlot t (state p)) (sym (append-nil past)) (one refl)
  fit_at past (x ∷ xs) (suc j) t fit there =
      subst (λ (p : List Step). TellsSlot t (state p)) (append_assoc past (x ∷ []) (take j xs))
      (fit_at (past ++ x ∷ []) xs j t (subst (λ (z : FrameState). AllFit z xs) (sym (state_more past x)) fit.1) there)

  -- the slot of a cell is that of its step
  pub slot_is : (M : List Moment) (len j t : ℕ) (cell : ℕ × ℕ) → filter_map (slot_of g) M ≡ range_with_len 0 len → slice_get (steps_of q M) j ≡ Some (Asks g t)
      → cell_due g (current (opening_of q) g (table_of q g) (history_of (take j (steps_of q M)))) ≡ Some cell
      → t ≡ (current (opening_of q) g (table_of q g) (history_of (take j (steps_of q M)))).first + cell.1
  slot_is M len j t cell slots there due =
      fit_at [] (steps_of q M) j t (all_fit M 0 len (state []) slots begins) there cell
      (sym (next_cell_is g (current (opening_of q) g (table_of q g) (history_of (take j (steps_of q M))))) ∙ due)

  -- ---- the state after a timeline whose slots are few

  -- 64 bits can count the slots of a frame after slot n
  abbrev AreFew : ℕ → Type 0
  AreFew n = n + (frame_of (table_of q g) + frame_of (table_of q g)) < 2 ^ 64

  few_at : (n : ℕ) (s : FrameState) → AreFew n → IsAt n (buses_of (table_of q g)) s → IsAt (n + 1) 0 (by_turn ((n + 1) % frame_of (table_of q g) == 0) s)
  few_at n s few A =
      let f = frame_of (table_of q g) in
      let slot : n ≡ A.first + A.on = A.slot in
      let inside : A.on < f = A.inside in
      elim (cases_lt (A.on + 1) f) [
        | inl less ↦ slot_within n s A less
        | inr end ↦ slot_last n s A (omega (arith, end, inside)) (lt-ltb (A.first + f + f) (2 ^ 64) (omega (arith, slot, few)))
      ]

  cells_end : (n m c : ℕ) (past : List Step) → c + m ≡ buses_of (table_of q g) → IsAt n c (state past)
      → IsAt n (buses_of (table_of q g)) (state (past ++ replicate m (Asks g n)))
  cells_end n zero c past all A =
      let last : c ≡ buses_of (table_of q g) = omega (arith, all) in
      subst (λ (p : List Step). IsAt n (buses_of (table_of q g)) (state p)) (sym (append-nil past)) (subst (λ (k : ℕ). IsAt n k (state past)) last A)
  cells_end n (suc m) c past all A =
      let is : (g == g) ≡ true = eq-eqb g g refl in
      let one : state (past ++ Asks g n ∷ []) ≡ after_cell (state past) = state_more past (Asks g n) ∙ rw is refl in
      let next = cell_at n c (state past) (omega (arith, all)) A in
      subst (λ (p : List Step). IsAt n (buses_of (table_of q g)) (state p)) (append_assoc past (Asks g n ∷ []) (replicate m (Asks g n)))
      (cells_end n m (c + 1) (past ++ Asks g n ∷ []) (omega (arith, all)) (subst (IsAt n (c + 1)) (sym one) next))

  turn_end : (n : ℕ) (past : List Step) (over : Bool) → IsAt (n + 1) 0 (by_turn over (state past)) → IsAt (n + 1) 0 (state (past ++ (if over then Turns g ∷ [] else [])))
  turn_end n past false A = subst (λ (p : List Step). IsAt (n + 1) 0 (state p)) (sym (append-nil past)) A
  turn_end n past true A =
      let is : (g == g) ≡ true = eq-eqb g g refl in
      let one : state (past ++ Turns g ∷ []) ≡ by_turn true (state past) = state_more past (Turns g) ∙ rw is refl in
      subst (IsAt (n + 1) 0) (sym one) A

  -- after the next slot of the group
  own_end : (n : ℕ) (past : List Step) → AreFew n → IsAt n 0 (state past) → IsAt (n + 1) 0 (state (past ++ steps_in q (Slot g n)))
  unfolding steps_in
  own_end n past few A =
      let cells = replicate (buses_of (table_of q g)) (Asks g n) in
      subst (λ (p : List Step). IsAt (n + 1) 0 (state p)) (append_assoc past cells (turn_after q g n))
      (turn_end n (past ++ cells) ((n + 1) % frame_of (table_of q g) == 0) (few_at n (state (past ++ cells)) few (cells_end n (buses_of (table_of q g)) 0 past (omega arith) A)))

  -- the slots of other groups
  other_cells_end : (h t m : ℕ) (past : List Step) → (h ≡ g → ⊥) → state (past ++ replicate m (Asks h t)) ≡ state past
  other_cells_end h t zero past apart = ap state (append-nil past)
  other_cells_end h t (suc m) past apart =
      let is : (h == g) ≡ false = ne_eqb h g apart in
      let one : state (past ++ Asks h t ∷ []) ≡ state past = state_more past (Asks h t) ∙ rw is refl in
      ap state (sym (append_assoc past (Asks h t ∷ []) (replicate m (Asks h t)))) ∙ (other_cells_end h t m (past ++ Asks h t ∷ []) apart ∙ one)

  other_turn_end : (h : ℕ) (past : List Step) (over : Bool) → (h ≡ g → ⊥) → state (past ++ (if over then Turns h ∷ [] else [])) ≡ state past
  other_turn_end h past false apart = ap state (append-nil past)
  other_turn_end h past true apart =
      let is : (h == g) ≡ false = ne_eqb h g apart in
      state_more past (Turns h) ∙ rw is refl

  other_end : (h t : ℕ) (past : List Step) → (h ≡ g → ⊥) → state (past ++ steps_in q (Slot h t)) ≡ state past
  unfolding steps_in
  other_end h t past apart =
      let cells = replicate (buses_of (table_of q h)) (Asks h t) in
      ap state (sym (append_assoc past cells (turn_after q h t)))
      ∙ (other_turn_end h (past ++ cells) ((t + 1) % frame_of (table_of q h) == 0) apart ∙ other_cells_end h t (buses_of (table_of q h)) past apart)

  word_end : (w : LogWord) (past : List Step) → state (past ++ steps_in q (Word w)) ≡ state past
  unfolding steps_in
  word_end w past = state_more past (Comes w)

  -- the group's next slot, and later moments
  own_next : (M : List Moment) (past : List Step) (n t len : ℕ)
      → ((m k : ℕ) (p : List Step) → AreFew (m + k) → filter_map (slot_of g) M ≡ range_with_len m k → IsAt m 0 (state p) → IsAt (m + k) 0 (state (p ++ steps_of q M)))
      → AreFew (n + len) → t ∷ filter_map (slot_of g) M ≡ range_with_len n len → IsAt n 0 (state past) → IsAt (n + len) 0 (state (past ++ (steps_in q (Slot g t) ++ steps_of q M)))
  own_next M past n t zero each few is A = absurd (cc is)
  own_next M past n t (suc len) each few is A =
      let here : t ≡ n = ap (λ (xs : List ℕ). get_or xs 0 0) is in
      let later : filter_map (slot_of g) M ≡ range_with_len (n + 1) len = ap (λ (xs : List ℕ). drop 1 xs) is in
      let count : n + 1 + len ≡ n + suc len = omega arith in
      let all : IsAt (n + 1 + len) 0 (state (past ++ steps_in q (Slot g n) ++ steps_of q M)) =
      each (n + 1) len (past ++ steps_in q (Slot g n)) (omega (arith, few)) later (own_end n past (omega (arith, few)) A) in
      subst (λ (k : ℕ). IsAt (n + suc len) 0 (state (past ++ (steps_in q (Slot g k) ++ steps_of q M)))) (sym here)
      (subst (λ (p : List Step). IsAt (n + suc len) 0 (state p)) (append_assoc past (steps_in q (Slot g n)) (steps_of q M))
      (subst (λ (k : ℕ). IsAt k 0 (state (past ++ steps_in q (Slot g n) ++ steps_of q M))) count all))

  ends : (M : List Moment) (n len : ℕ) (past : List Step) → AreFew (n + len) → filter_map (slot_of g) M ≡ range_with_len n len → IsAt n 0 (state past)
      → IsAt (n + len) 0 (state (past ++ steps_of q M))
  ends [] n zero past few slots A =
      let same : n ≡ n + 0 = omega arith in
      subst (λ (p : List Step). IsAt (n + 0) 0 (state p)) (sym (append-nil past)) (subst (λ (k : ℕ). IsAt k 0 (state past)) same A)
  ends [] n (suc len) past few slots A = absurd (cc slots)
  ends (Word w ∷ M) n len past few slots A =
      subst (λ (p : List Step). IsAt (n + len) 0 (state p)) (append_assoc past (steps_in q (Word w)) (steps_of q M))
      (ends M n len (past ++ steps_in q (Word w)) few slots (subst (IsAt n 0) (sym (word_end w past)) A))
  ends (Slot h t ∷ M) n len past few slots A = elim (cases_eq h g) [
    | inl same ↦
        let is : (h == g) ≡ true = eq-eqb h g same in
        let listed' : filter_map (slot_of g) (Slot h t ∷ M) ≡ t ∷ filter_map (slot_of g) M = rw is refl in
        subst (λ (k : ℕ). IsAt (n + len) 0 (state (past ++ (steps_in q (Slot k t) ++ steps_of q M)))) (sym same)
        (own_next M past n t len (λ m k p. ends M m k p) few (sym listed' ∙ slots) A)
    | inr apart ↦
        let is : (h == g) ≡ false = ne_eqb h g apart in
        let kept : filter_map (slot_of g) (Slot h t ∷ M) ≡ filter_map (slot_of g) M = rw is refl in
        subst (λ (p : List Step). IsAt (n + len) 0 (state p)) (append_assoc past (steps_in q (Slot h t)) (steps_of q M))
        (ends M n len (past ++ steps_in q (Slot h t)) few (sym kept ∙ slots) (subst (IsAt n 0) (sym (other_end h t past apart)) A))
  ]

  -- the group has passed its slots in the timeline
  pub state_at : (M : List Moment) (len : ℕ) → AreFew len → filter_map (slot_of g) M ≡ range_with_len 0 len
      → frame_state_of g (current (opening_of q) g (table_of q g) (history_of (steps_of q M))) ≡ after_slots (table_of q g) len
  state_at M len few slots =
      let f = frame_of (table_of q g) in
      let A = ends M 0 len [] (omega (arith, few)) slots begins_at in
      let whole : A.first ≡ A.times * f = A.whole in
      let slot : 0 + len ≡ A.first + A.on = A.slot in
      let inside : A.on < f = A.inside in
      let next : len ≡ A.times * f + A.on = omega (arith, slot, whole) in
      let rest : len % f ≡ A.on = ap (λ (k : ℕ). k % f) next ∙ mod-mul-add A.times f A.on inside in
      let first : A.first ≡ len - len % f = omega (arith, slot, rest) in
      let count : A.sent ≡ A.on * buses_of (table_of q g) + 0 = A.cells in
      let part : A.on * buses_of (table_of q g) ≡ len % f * buses_of (table_of q g) = ap (λ (k : ℕ). k * buses_of (table_of q g)) (sym rest) in
      let sent : A.sent ≡ len % f * buses_of (table_of q g) = omega (arith, count, part) in
      A.is ∙ (ap (λ (k : ℕ). framed k A.sent) first ∙ ap (framed (len - len % f)) sent)
