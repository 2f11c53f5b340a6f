-- Cells of a frame that are counted up by bus and slot.
use Rattle.std.proofs.Common.{◌≡◌, ◌≢◌, ℕ, suc, false, ◌+◌, ◌*◌, ◌/◌, ◌%◌, ◌<◌, ◌≤◌, ⊎_elim, true, ◌&&◌, ltb, Some, refl, ap, ◌∙◌, arith, inl, inr, sym}
use Rattle.std.proofs.Math.Nat.{mul-le-mul_right}
use Rattle.std.proofs.lemmas.Nat.{mod-mul-add, div-mul-add}
use Rattle.std.proofs.lemmas.Bool.{lt-ltb, le-ltb, ltb-true, cases_lt}
use Rattle.a429_slots.specs.Tables.{SlotTable, buses_of, cells_of, frame_of}
use Rattle.a429_slots.specs.FrameStates.{FrameState, after_cell, cells_before, next_cell, IsNextCell}

-- cells of slots before the frame's end are cells of the frame
inside : (n f bus slot : ℕ) → bus < n → slot < f → slot * n + bus < n * f
inside n f bus slot below before =
    let next : suc slot * n ≤ f * n = mul-le-mul_right {m = suc slot} {n = f} n before in
    let turned : f * n ≡ n * f = omega arith in
    omega (arith, next, turned)

-- whether a cell is left
pub mid_frame : (t : SlotTable) (bus slot : ℕ) → IsNextCell t bus slot → (ltb bus (buses_of t) && ltb slot (frame_of t)) ≡ ltb (cells_before t bus slot) (cells_of t)
mid_frame t bus slot h =
    let n : ℕ = buses_of t in
    let f : ℕ = frame_of t in
    elim (cases_lt bus n) [
      | inl below ↦ elim (cases_lt slot f) [
        | inl before ↦ rw (lt-ltb bus n below, lt-ltb slot f before, lt-ltb (slot * n + bus) (n * f) (inside n f bus slot below before)) refl
        | inr over ↦
            let none : bus ≡ 0 = ⊎_elim (λ less. absurd (omega arith)) (λ end. end.1) h.slot_of in
            let end : slot ≡ f = ⊎_elim (λ less. absurd (omega arith)) (λ last. last.0) h.slot_of in
            let all : slot * n ≡ n * f = ap (λ k. k * n) end ∙ omega arith in
            rw (lt-ltb bus n below, le-ltb slot f over, le-ltb (slot * n + bus) (n * f) (omega (arith, all))) refl
      ]
      | inr past ↦
          let none : bus ≡ 0 = ⊎_elim (λ zero_. zero_) (λ less. absurd (omega arith)) h.bus_of in
          let no_bus : n ≡ 0 = omega arith in
          let nothing : n * f ≡ 0 = ap (λ k. k * f) no_bus ∙ omega arith in
          rw (le-ltb bus n past, le-ltb (slot * n + bus) (n * f) (omega (arith, nothing))) refl
    ]

-- a cell that is left has a bus
pub has_bus : (t : SlotTable) (bus slot : ℕ) → IsNextCell t bus slot → ltb (cells_before t bus slot) (cells_of t) ≡ true → bus < buses_of t
has_bus t bus slot h mid =
    let n : ℕ = buses_of t in
    elim (cases_lt bus n) [
      | inl below ↦ below
      | inr past ↦
          let none : bus ≡ 0 = ⊎_elim (λ zero_. zero_) (λ less. absurd (omega arith)) h.bus_of in
          let no_bus : n ≡ 0 = omega arith in
          let nothing : n * frame_of t ≡ 0 = ap (λ k. k * frame_of t) no_bus ∙ omega arith in
          absurd (omega (arith, nothing, ltb-true (cells_before t bus slot) (cells_of t) mid))
    ]

-- and a slot
pub has_slot : (t : SlotTable) (bus slot : ℕ) → IsNextCell t bus slot → ltb (cells_before t bus slot) (cells_of t) ≡ true → slot < frame_of t
has_slot t bus slot h mid =
    let n : ℕ = buses_of t in
    let left = ltb-true (cells_before t bus slot) (cells_of t) mid in
    ⊎_elim (λ before. before) (λ end. absurd (let all : slot * n ≡ n * frame_of t = ap (λ k. k * n) end.0 ∙ omega arith in omega (arith, all, left))) h.slot_of

pub next_in_slot : (t : SlotTable) (bus slot : ℕ) → slot < frame_of t → bus < buses_of t → bus + 1 ≢ buses_of t → IsNextCell t (bus + 1) slot
next_in_slot t bus slot before below more = record { bus_of = inr (omega arith); slot_of = inl before }

pub begins_slot : (t : SlotTable) (slot : ℕ) → slot < frame_of t → IsNextCell t 0 (slot + 1)
begins_slot t slot before =
    record {
      bus_of = inl refl;
      slot_of = elim (cases_lt (slot + 1) (frame_of t)) [ inl less ↦ inl less | inr over ↦ inr (omega arith, refl) ];
    }

-- its bus and its slot
pub bus_of_cell : (n bus slot : ℕ) → bus < n → (slot * n + bus) % n ≡ bus
bus_of_cell n bus slot below = mod-mul-add slot n bus below

pub slot_of_cell : (n bus slot : ℕ) → bus < n → (slot * n + bus) / n ≡ slot
slot_of_cell n bus slot below = div-mul-add slot n bus below

-- after the last bus of a slot comes the next slot
pub next_slot : (n bus slot : ℕ) → bus + 1 ≡ n → (slot + 1) * n + 0 ≡ slot * n + bus + 1
next_slot n bus slot last =
    let more : (slot + 1) * n ≡ slot * n + n = omega arith in
    omega (arith, more, last)

pub next_is : (s : FrameState) (bus slot : ℕ) → bus < buses_of s.table → s.sent ≡ slot * buses_of s.table + bus → ltb s.sent (cells_of s.table) ≡ true → Some (bus, slot) ≡ next_cell s
next_is s bus slot below is mid =
    let n : ℕ = buses_of s.table in
    let its_bus : s.sent % n ≡ bus = ap (λ k. k % n) is ∙ bus_of_cell n bus slot below in
    let its_slot : s.sent / n ≡ slot = ap (λ k. k / n) is ∙ slot_of_cell n bus slot below in
    rw (mid, its_bus, its_slot) refl

-- a sent cell is counted
pub counted : (t : SlotTable) (first sent next : ℕ) (s : FrameState) → record { table = t; first = first; sent = sent } ≡ s → true ≡ ltb s.sent (cells_of s.table) → next ≡ sent + 1
    → record { table = t; first = first; sent = next } ≡ after_cell s
counted t first sent next s view mid is =
    let here : true ≡ ltb sent (cells_of t) = mid ∙ ap (λ (s : FrameState). ltb s.sent (cells_of s.table)) (sym view) in
    let step : record { table = t; first = first; sent = next } ≡ after_cell (record { table = t; first = first; sent = sent }) = rw (← here, is) refl in
    step ∙ ap after_cell view

pub none_counted : (s : FrameState) → false ≡ ltb s.sent (cells_of s.table) → s ≡ after_cell s
none_counted s ended = rw (← ended) refl
