-- One call more, over every list of calls that a transmitter stands for.
use Rattle.std.proofs.Common.{◌≡◌, ℕ, ◌+◌, ◌/◌, ◌%◌, ◌<◌, ◌≤◌, Bool, true, false, List, [], ◌∷◌, ◌++◌, length, ◌∙◌, sym, ap, subst, refl, inl, inr, arith, append_assoc}
use Rattle.std.specs.Prelude.{Some, None, if◌then◌else◌, nat_lt}
use Rattle.std.specs.List.{AllByRecursion}
use Rattle.std.proofs.lemmas.Option.{none-some, cond_some}
use Rattle.std.proofs.lemmas.Bool.{cases_Bool, ltb-true}
use Rattle.a429_word.proofs.Lists.{in_frame, div_more}
use Rattle.a429_equipment.specs.declared.loads.Load.{Load}
use Rattle.a429_slots.specs.Tables.{SlotTable, cells_of, buses_of, frame_of}
use Rattle.a429_slots.specs.FrameStates.{FrameState, next_cell, after_cell, fits_next, turned}
use Rattle.a429_workers.specs.Calls.{Call, GroupState, loads_in, loads_of, IsLawful, before_calls, after}
use Rattle.a429_workers.specs.Transmitting.{Transmitting, Outset, IsSameGroup, IsReached, IsAt, HasMade, led_by}
use Rattle.a429_workers.proofs.Beginning.{all_append}
use Rattle.a429_workers.proofs.Growing.{lawful_push, loads_push, standing_push}

-- ---- one call more

-- each load is of a source of the hub's station
abbrev pub AreKnown : Transmitting → List Load → Type 0
AreKnown v loads = AllByRecursion (λ l. l.source < length v.transmitter.at.station.sources) loads

-- a call was made: these loads were made in it, and it leads there
pub record IsMade (b : Outset) (calls : List Call) (v w : Transmitting) (c : Call) : Type 0 where
  pub same : IsSameGroup v w
  pub lawful : IsLawful b.group b.table (led_by b calls) c
  pub loads : w.transmitter.loads ≡ v.transmitter.loads ++ loads_in c
  pub known : AreKnown v (loads_in c)
  pub at : IsAt b (after b.group b.table (led_by b calls) c) w

pub one_more : (b : Outset) (calls : List Call) (v w : Transmitting) (c : Call) → HasMade b calls v → IsMade b calls v w c → HasMade b (calls ++ c ∷ []) w
one_more b calls v w c M N = record {
  opens = M.opens;
  lawful = lawful_push b.group b.table (before_calls b.opened b.table b.first) calls c M.lawful N.lawful;
  loads = N.loads
      ∙ (ap (λ (ls : List Load). ls ++ loads_in c) M.loads
      ∙ (append_assoc b.before (loads_of calls) (loads_in c) ∙ ap (λ (ls : List Load). b.before ++ ls) (sym (loads_push calls c))));
  known = subst (AreKnown w) (sym (loads_push calls c))
      (subst (λ (n : ℕ). AllByRecursion (λ l. l.source < n) (loads_of calls ++ loads_in c)) (ap (λ at. length at.station.sources) (sym N.same.hub))
      (all_append (λ (l : Load). l.source < length v.transmitter.at.station.sources) (loads_of calls) (loads_in c) M.known N.known));
  at = subst (λ (s : GroupState). IsAt b s w) (sym (standing_push b.group b.table (before_calls b.opened b.table b.first) calls c)) N.at;
}

-- ---- slots go on

pub reached_cell : (f : FrameState) (slot : ℕ) → IsReached f slot → IsReached (after_cell f) slot
reached_cell f slot R = go (nat_lt f.sent (cells_of f.table))
  where
    go : (b : Bool) → IsReached (if b then record f { sent = f.sent + 1 } else f) slot
    go true = record { passed = omega (arith, R.passed, div_more f.sent (buses_of f.table)); in_frame = R.in_frame }
    go false = R

pub reached_turn : (f : FrameState) (t : SlotTable) (slot : ℕ) → IsReached f slot → IsReached (turned f t) slot
reached_turn f t slot R = go (fits_next f t)
  where
    go : (b : Bool) → IsReached (if b then record { table = t; first = f.first + frame_of f.table; sent = 0 } else f) slot
    go true = record { passed = omega (arith, R.in_frame); in_frame = omega (arith, R.in_frame) }
    go false = R

-- a cell that is due: cells are left, and this is its place
pub record IsDue (f : FrameState) (cell : ℕ × ℕ) : Type 0 where
  pub left : nat_lt f.sent (cells_of f.table) ≡ true
  pub place : (f.sent % buses_of f.table, f.sent / buses_of f.table) ≡ cell

pub due_is : (f : FrameState) (cell : ℕ × ℕ) → next_cell f ≡ Some cell → IsDue f cell
due_is f cell is =
    let both = cond_some (nat_lt f.sent (cells_of f.table)) (f.sent % buses_of f.table, f.sent / buses_of f.table) cell is in
    record { left = both.0; place = both.1 }

pub none_due : (f : FrameState) → next_cell f ≡ None → nat_lt f.sent (cells_of f.table) ≡ false
none_due f none = elim (cases_Bool (nat_lt f.sent (cells_of f.table))) [
  | inl lt ↦
      let some : next_cell f ≡ Some (f.sent % buses_of f.table, f.sent / buses_of f.table) = rw lt refl in
      absurd (none-some (f.sent % buses_of f.table, f.sent / buses_of f.table) (sym none ∙ some))
  | inr ge ↦ ge
]

-- the slot of a due cell is not before what was reached, and it is reached once the cell is answered
pub slot_after : (f : FrameState) (cell : ℕ × ℕ) (slot : ℕ) → next_cell f ≡ Some cell → IsReached f slot → slot ≤ f.first + cell.1
slot_after f cell slot is R =
    let at : f.sent / buses_of f.table ≡ cell.1 = ap (λ (x : ℕ × ℕ). x.1) (due_is f cell is).place in
    omega (arith, at, R.passed)

pub reached_own : (f : FrameState) (cell : ℕ × ℕ) → next_cell f ≡ Some cell → IsReached (after_cell f) (f.first + cell.1)
reached_own f cell is =
    let D = due_is f cell is in
    let at : f.sent / buses_of f.table ≡ cell.1 = ap (λ (x : ℕ × ℕ). x.1) D.place in
    let low = in_frame f.sent (buses_of f.table) (frame_of f.table) (ltb-true f.sent (cells_of f.table) D.left) in
    reached_cell f (f.first + cell.1) (record { passed = omega (arith, at); in_frame = omega (arith, at, low) })

pub same_table : (f : FrameState) → (after_cell f).table ≡ f.table
same_table f = go (nat_lt f.sent (cells_of f.table))
  where
    go : (b : Bool) → (if b then record f { sent = f.sent + 1 } else f).table ≡ f.table
    go true = refl
    go false = refl
