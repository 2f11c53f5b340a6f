-- A refused event changes nothing that a state keeps.
use Rattle.std.proofs.Common.{◌≡◌, ◌∙◌, ◌+◌, ◌-◌, ◌^◌, ◌/◌, ◌%◌, ℕ, zero, suc, List, [], ◌∷◌, refl, sym, ap}
use Rattle.std.specs.Prelude.{Bool, true, false, Option, Some, None, Result, Ok, Err, if◌then◌else◌, nat_lt, nat_le, length, slice_get, slice_set, option_and_then, option_map}
use Rattle.std.specs.Option.{option_map_or}
use Rattle.std.proofs.lemmas.Option.{same_Some, none-some}
use Rattle.a429_equipment.specs.declared.arrivals.ArrivalRefusal.{ArrivalRefusal}
use Rattle.a429_equipment.specs.Arrivals.{sorted}
use Rattle.a429_equipment.specs.SameStation.{same_station}
use Rattle.a429_slots.specs.Tables.{SlotTable, groups_of, cells_of, buses_of, frame_of, output_in}
use Rattle.a429_slots.specs.Events.{Event, Arrive, Cell, Frame, Publish}
use Rattle.a429_slots.specs.declared.senders.Due.{Due}
use Rattle.a429_slots.specs.declared.answers.Answer.{Answer}
use Rattle.a429_slots.specs.declared.answers.Answer.TheVariants.{Accepted, Sent, Changed, Published, Refused}
use Rattle.a429_slots.specs.declared.answers.Refusal.TheVariants.{NoSuch, CountSpent, MidFrame, SlotsSpent, StationDiffers}
use Rattle.a429_slots.specs.FrameStates.{due_of, FrameState, next_cell, after_cell, fits_next, turned}
use Rattle.a429_core.specs.MachineStates.{MachineState}
use Rattle.a429_core.specs.MachineSteps.{kept_at, count_at, put_word, placed_cell, sent_due, sent_in, asked_cell, after_asked, frame_of_both, frame_at, stepped}

abbrev pub IsRefused : Answer → Type 0
IsRefused (Accepted source) = ⊥
IsRefused (Sent bus slot word) = ⊥
IsRefused (Changed n) = ⊥
IsRefused (Published n) = ⊥
IsRefused (Refused r) = Unit {0}

either : {X : Type 0} (b : Bool) (x y : Answer × X) (v : X) → (IsRefused x.0 → x.1 ≡ v) → (IsRefused y.0 → y.1 ≡ v) → IsRefused (if b then x else y).0 → (if b then x else y).1 ≡ v
either true x y v p q r = p r
either false x y v p q r = q r

set_same : (ss : List FrameState) (g : ℕ) (s : FrameState) → slice_get ss g ≡ Some s → slice_set ss g s ≡ ss
set_same [] g s h = absurd (none-some s h)
set_same (x ∷ ss) zero s h = ap (λ (y : FrameState). y ∷ ss) (sym (same_Some x s h))
set_same (x ∷ ss) (suc g) s h = ap (λ (ys : List FrameState). x ∷ ys) (set_same ss g s h)

put_unmoved : (C : ℕ) (v : MachineState) (raw : ℕ) (s : Result ℕ ArrivalRefusal) → IsRefused (put_word C v raw s).0 → (put_word C v raw s).1 ≡ v
put_unmoved C v raw (Err why) r = refl
put_unmoved C v raw (Ok i) r =
    either (nat_lt (count_at v.sources i) (2 ^ C - 1)) (Accepted i, record v { sources = kept_at v.sources i raw }) (Refused CountSpent, v) v (λ r. absurd r) (λ _. refl) r

due_sent : (v : MachineState) (g bus slot : ℕ) (x : Option Due) → IsRefused (sent_due v g bus slot x).0 → ⊥
due_sent v g bus slot None r = r
due_sent v g bus slot (Some due) r = r

none_sent : (v : MachineState) (g : ℕ) (x : Option (ℕ × ℕ × Option Due)) → IsRefused (sent_in v g x).0 → (sent_in v g x).1 ≡ v
none_sent v g None r = refl
none_sent v g (Some c) r = absurd (due_sent v g c.0 c.1 c.2 r)

cell_by : (v : MachineState) (ss : List FrameState) (g : ℕ) (s t : FrameState) (c : ℕ × ℕ) (b : Bool) → slice_get ss g ≡ Some s
    → IsRefused (sent_in v g (placed_cell s (if b then Some c else None))).0 → slice_set ss g (if b then t else s) ≡ ss
cell_by v ss g s t c true h r = absurd (due_sent v g c.0 (s.first + c.1) (option_map due_of (output_in s.table c.0 c.1)) r)
cell_by v ss g s t c false h r = set_same ss g s h

asked_by : (v : MachineState) (ss : List FrameState) (g : ℕ) (x : Option FrameState) → slice_get ss g ≡ x
    → IsRefused (sent_in v g (option_and_then (λ s. placed_cell s (next_cell s)) x)).0 → option_map_or (λ s. slice_set ss g (after_cell s)) x ss ≡ ss
asked_by v ss g None h r = refl
asked_by v ss g (Some s) h r =
    cell_by v ss g s (record s { sent = s.sent + 1 }) (s.sent % buses_of s.table, s.sent / buses_of s.table) (nat_lt s.sent (cells_of s.table)) h r

turn_by : (ss : List FrameState) (g number : ℕ) (s t : FrameState) (b : Bool) → slice_get ss g ≡ Some s
    → IsRefused (if b then Changed number else Refused SlotsSpent) → slice_set ss g (if b then t else s) ≡ ss
turn_by ss g number s t true h r = absurd r
turn_by ss g number s t false h r = set_same ss g s h

pick_by : (ss : List FrameState) (g : ℕ) (b : Bool) (x y : Answer × FrameState) → (IsRefused x.0 → slice_set ss g x.1 ≡ ss) → (IsRefused y.0 → slice_set ss g y.1 ≡ ss)
    → IsRefused (if b then x else y).0 → slice_set ss g (if b then x else y).1 ≡ ss
pick_by ss g true x y p q r = p r
pick_by ss g false x y p q r = q r

frame_by : (ss : List FrameState) (number g : ℕ) (x : Option FrameState) (y : Option SlotTable) → slice_get ss g ≡ x
    → IsRefused (frame_of_both ss number g x y).0 → (frame_of_both ss number g x y).1 ≡ ss
frame_by ss number g None y h r = refl
frame_by ss number g (Some s) None h r = refl
frame_by ss number g (Some s) (Some newest) h r =
    pick_by ss g (nat_lt s.sent (cells_of s.table)) (Refused MidFrame, s) ((if fits_next s newest then Changed number else Refused SlotsSpent), turned s newest)
    (λ _. set_same ss g s h)
    (turn_by ss g number s (record { table = newest; first = s.first + frame_of s.table; sent = 0 }) (fits_next s newest) h) r

pub unmoved : (C : ℕ) (v : MachineState) (e : Event) → IsRefused (stepped C v e).0 → (stepped C v e).1 ≡ v
unmoved C v (Arrive receiver raw) r =
    either (nat_le (length v.station.receivers) receiver) (Refused NoSuch, v) (put_word C v raw (sorted v.station receiver raw)) v (λ _. refl) (put_unmoved C v raw (sorted v.station receiver raw)) r
unmoved C v (Cell g) r =
    let w = record v { groups = after_asked v.groups g } in
    either (nat_lt g (length v.groups)) (sent_in w g (asked_cell v.groups g)) (Refused NoSuch, v) v
    (λ r. none_sent w g (asked_cell v.groups g) r ∙ ap (λ (ss : List FrameState). record v { groups = ss }) (asked_by w v.groups g (slice_get v.groups g) refl r)) (λ _. refl) r
unmoved C v (Frame g) r =
    either (nat_lt g (length v.groups)) ((frame_at v.groups v.newest g).0, record v { groups = (frame_at v.groups v.newest g).1 }) (Refused NoSuch, v) v
    (λ r. ap (λ (ss : List FrameState). record v { groups = ss }) (frame_by v.groups v.newest.number g (slice_get v.groups g) (slice_get (groups_of v.newest) g) refl r)) (λ _. refl) r
unmoved C v (Publish q) r =
    either (same_station v.station q.station)
    (if nat_lt v.newest.number (2 ^ 64 - 1) then (Published (v.newest.number + 1), record v { newest = record q.plan { number = v.newest.number + 1 } }) else (Refused CountSpent, v))
    (Refused StationDiffers, v) v
    (either (nat_lt v.newest.number (2 ^ 64 - 1)) (Published (v.newest.number + 1), record v { newest = record q.plan { number = v.newest.number + 1 } }) (Refused CountSpent, v) v (λ r. absurd r) (λ _. refl))
    (λ _. refl) r
