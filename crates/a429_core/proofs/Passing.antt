-- How the slots of a group pass on a bus.
use Rattle.std.proofs.Common.{◌≡◌, ℕ, zero, suc, ◌+◌, ◌*◌, ◌/◌, ◌%◌, ◌<◌, ◌≤◌, ◌⊎◌, List, [], ◌∷◌, ◌++◌, length, take, ◌∙◌, sym, ap, subst, refl, inl, inr, arith, ◌-◌}
use Rattle.std.specs.Prelude.{Some, slice_get, if◌then◌else◌, nat_lt}
use Rattle.std.proofs.Math.Nat.{mod-add-div', mod-lt, zero-div, zero-mod, mul_comm}
use Rattle.std.proofs.lemmas.Nat.{div-mul-add, mod-mul-add}
use Rattle.std.proofs.lemmas.Bool.{cases_Bool, cases_eq, cases_lt, lt-ltb, le-ltb}
use Rattle.a429_slots.specs.Tables.{SlotTable, buses_of, frame_of, cells_of}
use Rattle.a429_slots.specs.Events.{Event, Cell, Frame}
use Rattle.a429_slots.specs.History.{Opening, current, cell_due, cells_since, is_cell, is_frame, newest_table}
use Rattle.a429_slots.specs.FrameStates.{FrameState, after_cell, fits_next, next_cell}
use Rattle.a429_slots.specs.GoingOn.{after_frame, stands_after}
use Rattle.a429_slots.proofs.Answered.{cell_event, due_is, event_at}
use Rattle.a429_slots.proofs.GoingOn.{cells_count, frames_turn, others_pass, next_cell_is}
use Rattle.a429_slots.proofs.Histories.{take_following}
use Rattle.a429_slots.proofs.Taking.{frame_event}
use Rattle.a429_core.specs.Histories.{history_of}
use Rattle.a429_core.specs.Latency.{AnswersOn, KeepsBus, next_on, next_slot_on}

-- ---- numbers

-- a count goes on within a row, or to the next row
record IsWithinRow (n m : ℕ) : Type 0 where
  pub less : suc (n % m) < m
  pub row : (n + 1) / m ≡ n / m
  pub rest : (n + 1) % m ≡ n % m + 1

record EndsRow (n m : ℕ) : Type 0 where
  pub last : n % m + 1 ≡ m
  pub row : (n + 1) / m ≡ n / m + 1
  pub rest : (n + 1) % m ≡ 0

row_next : (n m : ℕ) → 0 < m → IsWithinRow n m ⊎ EndsRow n m
row_next n m some =
    let parts : n % m + n / m * m ≡ n = mod-add-div' n m in
    let below : n % m < m = mod-lt n some in
    elim (cases_lt (n % m + 1) m) [
      | inl less ↦
          let on : n + 1 ≡ n / m * m + (n % m + 1) = omega (arith, parts) in
          inl (record {
            less = omega (arith, less);
            row = ap (λ (k : ℕ). k / m) on ∙ div-mul-add (n / m) m (n % m + 1) less;
            rest = ap (λ (k : ℕ). k % m) on ∙ mod-mul-add (n / m) m (n % m + 1) less;
          })
      | inr end ↦
          let more : (n / m + 1) * m ≡ n / m * m + m = omega arith in
          let on : n + 1 ≡ (n / m + 1) * m + 0 = omega (arith, parts, end, below, more) in
          inr (record {
            last = omega (arith, end, below);
            row = ap (λ (k : ℕ). k / m) on ∙ div-mul-add (n / m + 1) m 0 some;
            rest = ap (λ (k : ℕ). k % m) on ∙ mod-mul-add (n / m + 1) m 0 some;
          })
    ]

-- how many cells of a bus are among a frame's first n
abbrev tock : ℕ → ℕ → ℕ → ℕ
tock a b bus = a + (if nat_lt bus b then 1 else 0)

tock_low : (a b bus : ℕ) → b ≤ bus → tock a b bus ≡ a
tock_low a b bus low = rw (le-ltb bus b low) (omega arith)

tock_high : (a b bus : ℕ) → bus < b → tock a b bus ≡ a + 1
tock_high a b bus high = rw (lt-ltb bus b high) refl

-- one more cell, on this bus
record Ticks (n m bus : ℕ) : Type 0 where
  pub now : tock (n / m) (n % m) bus ≡ n / m
  pub next : tock ((n + 1) / m) ((n + 1) % m) bus ≡ n / m + 1

ticks : (n m bus : ℕ) → bus < m → n % m ≡ bus → Ticks n m bus
ticks n m bus below here = record {
  now = tock_low (n / m) (n % m) bus (omega (arith, here));
  next = elim (row_next n m (omega (arith, below))) [
    | inl W ↦
        let row : (n + 1) / m ≡ n / m = W.row in
        let rest : (n + 1) % m ≡ n % m + 1 = W.rest in
        tock_high ((n + 1) / m) ((n + 1) % m) bus (omega (arith, rest, here)) ∙ ap (λ (k : ℕ). k + 1) row
    | inr L ↦
        let row : (n + 1) / m ≡ n / m + 1 = L.row in
        let rest : (n + 1) % m ≡ 0 = L.rest in
        tock_low ((n + 1) / m) ((n + 1) % m) bus (omega (arith, rest)) ∙ row
  ];
}

-- or on another one
waits : (n m bus : ℕ) → bus < m → (n % m ≡ bus → ⊥) → tock ((n + 1) / m) ((n + 1) % m) bus ≡ tock (n / m) (n % m) bus
waits n m bus below other = elim (cases_lt bus (n % m)) [
  | inl high ↦ elim (row_next n m (omega (arith, below))) [
    | inl W ↦
        let row : (n + 1) / m ≡ n / m = W.row in
        let rest : (n + 1) % m ≡ n % m + 1 = W.rest in
        tock_high ((n + 1) / m) ((n + 1) % m) bus (omega (arith, rest, high)) ∙ (ap (λ (k : ℕ). k + 1) row ∙ sym (tock_high (n / m) (n % m) bus high))
    | inr L ↦
        let row : (n + 1) / m ≡ n / m + 1 = L.row in
        let rest : (n + 1) % m ≡ 0 = L.rest in
        tock_low ((n + 1) / m) ((n + 1) % m) bus (omega (arith, rest)) ∙ (row ∙ sym (tock_high (n / m) (n % m) bus high))
  ]
  | inr low ↦ elim (cases_eq (n % m) bus) [
    | inl same ↦ absurd (other same)
    | inr differs ↦ elim (row_next n m (omega (arith, below))) [
      | inl W ↦
          let row : (n + 1) / m ≡ n / m = W.row in
          let rest : (n + 1) % m ≡ n % m + 1 = W.rest in
          tock_low ((n + 1) / m) ((n + 1) % m) bus (omega (arith, rest, low, differs)) ∙ (row ∙ sym (tock_low (n / m) (n % m) bus low))
      | inr L ↦
          let last : n % m + 1 ≡ m = L.last in
          absurd (omega (arith, last, low, differs, below))
    ]
  ]
]

-- ---- one event

-- the next cell is on this bus
record IsOn (s : FrameState) (bus : ℕ) : Type 0 where
  pub due : next_cell s ≡ Some (bus, s.sent / buses_of s.table)
  pub now : next_on s bus ≡ s.first + s.sent / buses_of s.table
  pub next : next_on (after_cell s) bus ≡ next_on s bus + 1

cell_step : (s : FrameState) (bus : ℕ) → bus < buses_of s.table → (next_on (after_cell s) bus ≡ next_on s bus) ⊎ IsOn s bus
cell_step s bus inside =
    let n = s.sent in
    let m = buses_of s.table in
    elim (cases_lt n (cells_of s.table)) [
      | inr over ↦ inl (rw (le-ltb n (cells_of s.table) over) refl)
      | inl lt ↦
          let due : next_cell s ≡ Some (n % m, n / m) = rw (lt-ltb n (cells_of s.table) lt) refl in
          let on : next_on (after_cell s) bus ≡ s.first + tock ((n + 1) / m) ((n + 1) % m) bus = rw (lt-ltb n (cells_of s.table) lt) refl in
          elim (cases_eq (n % m) bus) [
            | inl here ↦
                let T = ticks n m bus inside here in
                let now : tock (n / m) (n % m) bus ≡ n / m = T.now in
                let next : tock ((n + 1) / m) ((n + 1) % m) bus ≡ n / m + 1 = T.next in
                let is : next_on s bus ≡ s.first + n / m = ap (λ (k : ℕ). s.first + k) now in
                inr (record {
                  due = due ∙ ap (λ (b : ℕ). Some (b, n / m)) here;
                  now = is;
                  next = on ∙ (ap (λ (k : ℕ). s.first + k) next ∙ omega (arith, is));
                })
            | inr other ↦ inl (on ∙ ap (λ (k : ℕ). s.first + k) (waits n m bus inside other))
          ]
    ]

frame_step : (s : FrameState) (now : SlotTable) (bus : ℕ) → s.sent ≤ cells_of s.table → bus < buses_of s.table → next_on (after_frame s now) bus ≡ next_on s bus
frame_step s now bus few inside =
    let n = s.sent in
    let m = buses_of s.table in
    let H = frame_of s.table in
    elim (cases_lt n (cells_of s.table)) [
      | inl lt ↦ rw (lt-ltb n (cells_of s.table) lt) refl
      | inr over ↦ elim (cases_Bool (fits_next s now)) [
        | inr full ↦ rw (le-ltb n (cells_of s.table) over, full) refl
        | inl fits ↦
            let some : 0 < m = omega (arith, inside) in
            let all : n ≡ H * m + 0 = omega (arith, few, over, mul_comm m H) in
            let row : n / m ≡ H = ap (λ (k : ℕ). k / m) all ∙ div-mul-add H m 0 some in
            let rest : n % m ≡ 0 = ap (λ (k : ℕ). k % m) all ∙ mod-mul-add H m 0 some in
            let before : next_on s bus ≡ s.first + H = ap (λ (k : ℕ). s.first + k) (tock_low (n / m) (n % m) bus (omega (arith, rest)) ∙ row) in
            let none : 0 % buses_of now ≡ 0 = zero-mod (buses_of now) in
            let start : tock (0 / buses_of now) (0 % buses_of now) bus ≡ 0 = tock_low (0 / buses_of now) (0 % buses_of now) bus (omega (arith, none)) ∙ zero-div (buses_of now) in
            let turns : after_frame s now ≡ record { table = now; first = s.first + H; sent = 0 } = rw (le-ltb n (cells_of s.table) over, fits) refl in
            ap (λ (z : FrameState). next_on z bus) turns ∙ (ap (λ (k : ℕ). s.first + H + k) start ∙ (omega arith ∙ sym before))
      ]
    ]

-- the group answers its next cell on the bus
pub record IsTick (o : Opening) (g : ℕ) (p : SlotTable) (E : List Event) (k bus : ℕ) : Type 0 where
  pub asked : slice_get E k ≡ Some (Cell g)
  pub in_frame : ℕ
  pub due : cell_due g (current o g p (take k E)) ≡ Some (bus, in_frame)
  pub now : next_slot_on (history_of o g p E) k bus ≡ (current o g p (take k E)).first + in_frame
  pub next : next_slot_on (history_of o g p E) (suc k) bus ≡ next_slot_on (history_of o g p E) k bus + 1

abbrev pub Goes : Opening → ℕ → SlotTable → List Event → ℕ → ℕ → Type 0
Goes o g p E k bus = (next_slot_on (history_of o g p E) (suc k) bus ≡ next_slot_on (history_of o g p E) k bus) ⊎ IsTick o g p E k bus

pub goes : (o : Opening) (g : ℕ) (p : SlotTable) (E : List Event) (k bus : ℕ) → k < length E → bus < buses_of (current o g p (take k E)).table → Goes o g p E k bus
goes o g p E k bus below inside =
    let (e, there) = event_at E k below in
    let F = take k E in
    let s = stands_after o g p F in
    let on : next_slot_on (history_of o g p E) (suc k) bus ≡ next_on (stands_after o g p (F ++ e ∷ [])) bus = ap (λ (G : List Event). next_on (stands_after o g p G) bus) (take_following E k e there) in
    elim (cases_Bool (is_cell g e)) [
      | inl cell ↦
          let is : e ≡ Cell g = cell_event g e cell in
          let after : next_on (stands_after o g p (F ++ e ∷ [])) bus ≡ next_on (after_cell s) bus =
          ap (λ (x : Event). next_on (stands_after o g p (F ++ x ∷ [])) bus) is ∙ ap (λ (z : FrameState). next_on z bus) (cells_count o g p F) in
          elim (cell_step s bus inside) [
            | inl same ↦ inl (on ∙ (after ∙ same))
            | inr T ↦
                let now : next_on s bus ≡ s.first + s.sent / buses_of s.table = T.now in
                let next : next_on (after_cell s) bus ≡ next_on s bus + 1 = T.next in
                inr (record {
                  asked = there ∙ ap (λ (x : Event). Some x) is;
                  in_frame = s.sent / buses_of s.table;
                  due = next_cell_is g (current o g p F) ∙ T.due;
                  now = now;
                  next = on ∙ (after ∙ next);
                })
          ]
      | inr other ↦ elim (cases_Bool (is_frame g e)) [
        | inl frame ↦
            let is : e ≡ Frame g = frame_event g e frame in
            let few : s.sent ≤ cells_of s.table = omega arith in
            inl (on ∙ (ap (λ (x : Event). next_on (stands_after o g p (F ++ x ∷ [])) bus) is
            ∙ (ap (λ (z : FrameState). next_on z bus) (frames_turn o g p F) ∙ frame_step s (newest_table o g p F) bus few inside)))
        | inr none ↦ inl (on ∙ ap (λ (z : FrameState). next_on z bus) (others_pass o g p F e none other))
      ]
    ]

-- if a cell on this bus is due
record IsDueOn (o : Opening) (g : ℕ) (p : SlotTable) (E : List Event) (k bus in_frame : ℕ) : Type 0 where
  pub sent : (stands_after o g p (take k E)).sent ≡ cells_since g (current o g p (take k E))
  pub due : cells_since g (current o g p (take k E)) < cells_of (current o g p (take k E)).table
  pub rest : cells_since g (current o g p (take k E)) % buses_of (current o g p (take k E)).table ≡ bus
  pub row : cells_since g (current o g p (take k E)) / buses_of (current o g p (take k E)).table ≡ in_frame

due_on : (o : Opening) (g : ℕ) (p : SlotTable) (E : List Event) (k bus in_frame : ℕ) → cell_due g (current o g p (take k E)) ≡ Some (bus, in_frame) → IsDueOn o g p E k bus in_frame
due_on o g p E k bus in_frame due =
    let D = due_is g (current o g p (take k E)) (bus, in_frame) due in
    let below : cells_since g (current o g p (take k E)) < cells_of (current o g p (take k E)).table = D.due in
    record { sent = omega (arith, below); due = below; rest = sym D.bus; row = sym D.slot }

-- its slot is the next one on the bus
pub next_is : (o : Opening) (g : ℕ) (p : SlotTable) (E : List Event) (k bus in_frame : ℕ) → cell_due g (current o g p (take k E)) ≡ Some (bus, in_frame)
    → next_slot_on (history_of o g p E) k bus ≡ (current o g p (take k E)).first + in_frame
next_is o g p E k bus in_frame due =
    let f = current o g p (take k E) in
    let D = due_on o g p E k bus in_frame due in
    let c = cells_since g f in
    let m = buses_of f.table in
    let rest : c % m ≡ bus = D.rest in
    ap (λ (n : ℕ). f.first + tock (n / m) (n % m) bus) D.sent ∙ ap (λ (n : ℕ). f.first + n) (tock_low (c / m) (c % m) bus (omega (arith, rest)) ∙ D.row)

-- and when it is answered, the slot after it is
pub next_after : (o : Opening) (g : ℕ) (p : SlotTable) (E : List Event) (k bus in_frame : ℕ) → slice_get E k ≡ Some (Cell g) → bus < buses_of (current o g p (take k E)).table
    → cell_due g (current o g p (take k E)) ≡ Some (bus, in_frame) → next_slot_on (history_of o g p E) (suc k) bus ≡ (current o g p (take k E)).first + in_frame + 1
next_after o g p E k bus in_frame asked inside due =
    let F = take k E in
    let f = current o g p F in
    let s = stands_after o g p F in
    let D = due_on o g p E k bus in_frame due in
    let c = cells_since g f in
    let m = buses_of f.table in
    let T = ticks c m bus inside D.rest in
    let more : after_cell s ≡ record s { sent = s.sent + 1 } = let below : s.sent < cells_of f.table = omega (arith, D.sent, D.due) in rw (lt-ltb s.sent (cells_of f.table) below) refl in
    let next : tock ((c + 1) / m) ((c + 1) % m) bus ≡ c / m + 1 = T.next in
    let row : c / m ≡ in_frame = D.row in
    ap (λ (G : List Event). next_on (stands_after o g p G) bus) (take_following E k (Cell g) asked)
    ∙ (ap (λ (z : FrameState). next_on z bus) (cells_count o g p F ∙ more)
    ∙ (ap (λ (n : ℕ). f.first + tock ((n + 1) / m) ((n + 1) % m) bus) D.sent ∙ omega (arith, next, row)))

-- ---- many events

-- slots do not go back, and each that passes was answered
pub record Passed (o : Opening) (g : ℕ) (p : SlotTable) (E : List Event) (i k bus : ℕ) : Type 0 where
  pub later : next_slot_on (history_of o g p E) i bus ≤ next_slot_on (history_of o g p E) k bus
  pub all : (slot : ℕ) → next_slot_on (history_of o g p E) i bus ≤ slot → slot < next_slot_on (history_of o g p E) k bus → AnswersOn (history_of o g p E) i k bus slot

sooner : (o : Opening) (g : ℕ) (p : SlotTable) (E : List Event) (i k bus slot : ℕ) → AnswersOn (history_of o g p E) i k bus slot → AnswersOn (history_of o g p E) i (suc k) bus slot
sooner o g p E i k bus slot A =
    let early : A.place < k = A.before in
    record { place = A.place; from = A.from; before = omega (arith, early); asked = A.asked; in_frame = A.in_frame; due = A.due; counted = A.counted }

passed_next : (o : Opening) (g : ℕ) (p : SlotTable) (E : List Event) (i k bus : ℕ) → i ≤ k → Passed o g p E i k bus → Goes o g p E k bus → Passed o g p E i (suc k) bus
passed_next o g p E i k bus after P (inl same) =
    let later : next_slot_on (history_of o g p E) i bus ≤ next_slot_on (history_of o g p E) k bus = P.later in
    record {
      later = omega (arith, later, same);
      all = λ slot low high. sooner o g p E i k bus slot (P.all slot low (omega (arith, high, same)));
    }
passed_next o g p E i k bus after P (inr T) =
    let later : next_slot_on (history_of o g p E) i bus ≤ next_slot_on (history_of o g p E) k bus = P.later in
    let next : next_slot_on (history_of o g p E) (suc k) bus ≡ next_slot_on (history_of o g p E) k bus + 1 = T.next in
    let now : next_slot_on (history_of o g p E) k bus ≡ (current o g p (take k E)).first + T.in_frame = T.now in
    record {
      later = omega (arith, later, next);
      all = λ slot low high. elim (cases_lt slot (next_slot_on (history_of o g p E) k bus)) [
        | inl old ↦ sooner o g p E i k bus slot (P.all slot low old)
        | inr new ↦ record {
          place = k;
          from = after;
          before = omega arith;
          asked = T.asked;
          in_frame = T.in_frame;
          due = T.due;
          counted = omega (arith, high, new, next, now);
        }
      ];
    }

passed_by : (o : Opening) (g : ℕ) (p : SlotTable) (E : List Event) (i d bus : ℕ) → d + i ≤ length E → KeepsBus (history_of o g p E) i (d + i) bus → Passed o g p E i (d + i) bus
passed_by o g p E i zero bus few keeps =
    let same : zero + i ≡ i = omega arith in
    subst (λ (k : ℕ). Passed o g p E i k bus) (sym same) (record { later = omega arith; all = λ slot low high. absurd (omega (arith, low, high)) })
passed_by o g p E i (suc d) bus few keeps =
    let on : suc d + i ≡ suc (d + i) = omega arith in
    let before = passed_by o g p E i d bus (omega (arith, few)) (λ j from below. keeps j from (omega (arith, below))) in
    let inside = keeps (d + i) (omega arith) (omega arith) in
    subst (λ (k : ℕ). Passed o g p E i k bus) (sym on)
    (passed_next o g p E i (d + i) bus (omega arith) before (goes o g p E (d + i) bus (omega (arith, few)) inside))

pub passed : (o : Opening) (g : ℕ) (p : SlotTable) (E : List Event) (i k bus : ℕ) → i ≤ k → k ≤ length E → KeepsBus (history_of o g p E) i k bus → Passed o g p E i k bus
passed o g p E i k bus after few keeps =
    let rest : (k - i) + i ≡ k = omega (arith, after) in
    subst (λ (n : ℕ). Passed o g p E i n bus) rest
    (passed_by o g p E i (k - i) bus (omega (arith, few, rest)) (λ j from below. keeps j from (omega (arith, below, rest))))
