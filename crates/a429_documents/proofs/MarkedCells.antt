-- A mark of an image is a cell of the plan, and each cell that is drawn has its mark.
use Rattle.std.proofs.Common.{◌≡◌, ℕ, zero, suc, ◌+◌, ◌<◌, ◌≤◌, List, [], ◌∷◌, ◌++◌, length, Option, Some, None, ap, sym, refl, subst, arith, inl, inr, ◌⊎◌, ◌∙◌}
use Rattle.std.specs.Prelude.{option_map, slice_get}
use Rattle.std.specs.List.{IsAmong, flat_map, range_with_len}
use Rattle.std.specs.Option.{option_map_or, option_to_list}
use Rattle.std.proofs.lemmas.Bool.{cases_lt}
use Rattle.std.proofs.lemmas.Option.{slice_get_within}
use Rattle.a429_slots.specs.Tables.{SlotTable, PlanTable, buses_of, cell_at, groups_of}
use Rattle.a429_documents.specs.Drawing.{IsDrawn, IsMarkIn, MarksAreCells, bus_marks, cell_marks, first_drawn, group_marks, groups_drawn, marks_at, slots_of}
use Rattle.a429_documents.specs.declared.drawing.DrawingForm.{DrawingForm}
use Rattle.a429_documents.specs.declared.drawing.marks.CellMark.{CellMark}

-- ---- an item of a list

module _ {X : Type 0} (v : X) where
  from_head : (x : X) (xs : List X) → IsAmong (x ∷ xs) v → (v ≡ x) ⊎ IsAmong xs v
  from_head x xs (zero, (below, is)) = inl is
  from_head x xs (suc i, (below, is)) = inr (i, (omega (arith, below), is))

  at_head : (x : X) (xs : List X) → v ≡ x → IsAmong (x ∷ xs) v
  at_head x xs is = (0, (omega arith, is))

  below_head : (x : X) (xs : List X) → IsAmong xs v → IsAmong (x ∷ xs) v
  below_head x xs h = (suc h.0, (omega (arith, h.1.0), h.1.1))

  nothing_there : IsAmong [] v → ⊥
  nothing_there h = omega (arith, h.1.0)

  -- two lists, one after the other
  from_both : (xs ys : List X) → IsAmong (xs ++ ys) v → IsAmong xs v ⊎ IsAmong ys v
  from_both [] ys h = inr h
  from_both (x ∷ xs) ys h = elim (from_head x (xs ++ ys) h) [
    | inl is ↦ inl (at_head x xs is)
    | inr rest ↦ elim (from_both xs ys rest) [
      | inl one ↦ inl (below_head x xs one)
      | inr other ↦ inr other
    ]
  ]

  in_first : (xs ys : List X) → IsAmong xs v → IsAmong (xs ++ ys) v
  in_first [] ys h = absurd (nothing_there h)
  in_first (x ∷ xs) ys h = elim (from_head x xs h) [
    | inl is ↦ at_head x (xs ++ ys) is
    | inr rest ↦ below_head x (xs ++ ys) (in_first xs ys rest)
  ]

  in_second : (xs ys : List X) → IsAmong ys v → IsAmong (xs ++ ys) v
  in_second [] ys h = h
  in_second (x ∷ xs) ys h = below_head x (xs ++ ys) (in_second xs ys h)

  -- what the numbers of a range give
  from_each : (f : ℕ → List X) (a n : ℕ) → IsAmong (flat_map f (range_with_len a n)) v → (k : ℕ) × (a ≤ k) × (k < a + n) × IsAmong (f k) v
  from_each f a zero h = absurd (nothing_there h)
  from_each f a (suc n) h = elim (from_both (f a) (flat_map f (range_with_len (a + 1) n)) h) [
    | inl one ↦ (a, omega arith, omega arith, one)
    | inr rest ↦ let later = from_each f (a + 1) n rest in (later.0, omega (arith, later.1), omega (arith, later.2), later.3)
  ]

  in_each : (f : ℕ → List X) (a n k : ℕ) → a ≤ k → k < a + n → IsAmong (f k) v → IsAmong (flat_map f (range_with_len a n)) v
  in_each f a zero k least most h = absurd (omega (arith, least, most))
  in_each f a (suc n) k least most h = elim (cases_lt a k) [
    | inl later ↦ in_second (f a) (flat_map f (range_with_len (a + 1) n)) (in_each f (a + 1) n k (omega (arith, later)) (omega (arith, most)) h)
    | inr first ↦ let same : k ≡ a = omega (arith, least, first) in in_first (f a) (flat_map f (range_with_len (a + 1) n)) (subst (λ (j : ℕ). IsAmong (f j) v) same h)
  ]

-- ---- the marks

-- a mark of a table that may not be there
from_table : (m : CellMark) (f : SlotTable → List CellMark) (o : Option SlotTable) → IsAmong (option_map_or f o []) m → (t : SlotTable) × (o ≡ Some t) × IsAmong (f t) m
from_table m f None h = absurd (nothing_there m h)
from_table m f (Some t) h = (t, refl, h)

module _ (m : CellMark) (g bus slot : ℕ) where
  abbrev mark : ℕ → CellMark
  mark o = record { group = g; bus = bus; slot = slot; output = o }

  -- the mark of a cell
  mark_is : (o : Option ℕ) → IsAmong (option_to_list (option_map mark o)) m → (m.group ≡ g) × (m.bus ≡ bus) × (m.slot ≡ slot) × (o ≡ Some m.output)
  mark_is None h = absurd (nothing_there m h)
  mark_is (Some o) h = elim (from_head m (mark o) [] h) [
    | inl is ↦ (ap (λ (m : CellMark). m.group) is, ap (λ (m : CellMark). m.bus) is, ap (λ (m : CellMark). m.slot) is, ap (λ (m : CellMark). Some m.output) (sym is))
    | inr none ↦ absurd (nothing_there m none)
  ]

module _ (form : DrawingForm) (t : SlotTable) (m : CellMark) where
  -- the marks of a group
  is_cell : (g : ℕ) → IsAmong (group_marks g t (slots_of form t)) m → (m.group ≡ g) × IsMarkIn form t m
  is_cell g h =
      let bus = from_each m (bus_marks g t (slots_of form t)) 0 (buses_of t) h in
      let slot = from_each m (cell_marks g t bus.0) 0 (slots_of form t) bus.3 in
      let is = mark_is m g bus.0 slot.0 (cell_at t bus.0 slot.0) slot.3 in
      let has_output : cell_at t m.bus m.slot ≡ Some m.output =
      subst (λ (b : ℕ). cell_at t b m.slot ≡ Some m.output) (sym is.1) (subst (λ (s : ℕ). cell_at t bus.0 s ≡ Some m.output) (sym is.2) is.3) in
      (is.0, (omega (arith, is.2, slot.2), omega (arith, is.1, bus.2), has_output))

  has_mark : IsMarkIn form t m → IsAmong (group_marks m.group t (slots_of form t)) m
  has_mark is =
      let cell : IsAmong (cell_marks m.group t m.bus m.slot) m =
      subst (λ (o : Option ℕ). IsAmong (option_to_list (option_map (mark m m.group m.bus m.slot) o)) m) (sym is.2) (at_head m m [] refl) in
      in_each m (bus_marks m.group t (slots_of form t)) 0 (buses_of t) m.bus (omega arith) (omega (arith, is.1))
      (in_each m (cell_marks m.group t m.bus) 0 (slots_of form t) m.slot (omega arith) (omega (arith, is.0)) cell)

-- the groups that are drawn, by their place among them
is_drawn : (p : PlanTable) (group : Option ℕ) (k : ℕ) → k < 0 + groups_drawn group p → (g : ℕ) → g ≡ first_drawn group + k → IsDrawn group g
is_drawn p None k below g is = tt
is_drawn p (Some group) k below g is = omega (arith, below, is)

drawn_place : (p : PlanTable) (group : Option ℕ) (g : ℕ) → IsDrawn group g → g < length (groups_of p) → (k : ℕ) × (k < 0 + groups_drawn group p) × (g ≡ first_drawn group + k)
drawn_place p None g drawn below = (g, omega (arith, below), omega arith)
drawn_place p (Some group) g drawn below = (0, omega arith, omega (arith, drawn))

pub marks_are_cells : MarksAreCells
marks_are_cells p form group m =
    let marks : ℕ → List CellMark = λ k. marks_at form p (first_drawn group + k) in
    let group_of : SlotTable → List CellMark = λ t. group_marks m.group t (slots_of form t) in (
      λ h.
          let place = from_each m marks 0 (groups_drawn group p) h in
          let g = first_drawn group + place.0 in
          let table = from_table m (λ t. group_marks g t (slots_of form t)) (slice_get (groups_of p) g) place.3 in
          let is = is_cell form table.0 m g table.2 in
          (table.0, is_drawn p group place.0 place.2 m.group is.0, ap (slice_get (groups_of p)) is.0 ∙ table.1, is.1),
      λ is.
          let t = is.0 in
          let place = drawn_place p group m.group is.1 (slice_get_within (groups_of p) m.group t is.2) in
          let here : IsAmong (marks_at form p m.group) m = subst (λ (o : Option SlotTable). IsAmong (option_map_or group_of o []) m) (sym is.2) (has_mark form t m is.3) in
          in_each m marks 0 (groups_drawn group p) place.0 (omega arith) place.1 (subst (λ (g : ℕ). IsAmong (marks_at form p g) m) place.2 here),
    )
