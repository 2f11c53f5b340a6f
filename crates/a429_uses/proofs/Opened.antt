-- The ends of a station, once they are opened.
use Rattle.std.proofs.Common.{◌≡◌, ◌∙◌, ◌<◌, ℕ, List, [], ◌∷◌, length, refl, sym, subst, ap, arith}
use Rattle.std.specs.Prelude.{Some, slice_get}
use Rattle.std.specs.List.{AllByRecursion}
use Rattle.a429_equipment.specs.TableRecord.{TableRecord}
use Rattle.a429_equipment.specs.Sound.{IsSound}
use Rattle.a429_slots.specs.Tables.{PlanTable, SlotTable, groups_of}
use Rattle.a429_slots.specs.Planned.{IsPlanOf}
use Rattle.a429_board.specs.Lists.{Planning, Watched, beginner}
use Rattle.a429_values.specs.Ends.{ReceiverEnd, TransmitterEnd}
use Rattle.a429_workers.specs.Transmitting.{BeginsWith, IsKnownPlan, Transmitting}
use Rattle.a429_workers.proofs.Known.{plan_known}
use Rattle.a429_uses.specs.Stations.{AreFresh, GroupIsBegun, EndsAreReady}

first_of : {X : Type 0} (xs : List X) → 0 < length xs → (x : X) × (slice_get xs 0 ≡ Some x)
first_of [] some = absurd (omega (arith, some))
first_of (x ∷ xs) some = (x, refl)

pub begun : (end : TransmitterEnd) (p : Planning) (w : Watched) (v : Transmitting) → w ≡ beginner p → end.number ≡ 0 → end.loads ≡ [] → 0 < length (groups_of p.last)
    → BeginsWith end w 0 v → v.frame.sent ≡ 0 → v.transmitter ≡ end → v.watcher ≡ w → GroupIsBegun end p v
begun end p w v is number none some begins first values watcher =
    let same : groups_of w.opened ≡ groups_of p.last = ap (λ (x : Watched). groups_of x.opened) is in
    let found = first_of (groups_of w.opened) (omega (arith, some, ap (λ (xs : List SlotTable). length xs) same)) in
    record {
      outset = record { opened = w.opened; group = end.number; table = found.0; first = 0; before = end.loads };
      nothing_loaded = none;
      begins = begins found.0 (ap (λ (k : ℕ). slice_get (groups_of w.opened) k) number ∙ found.1);
      first_cell = first;
      values = values;
      watcher = watcher ∙ is;
    }

pub ready : (t : TableRecord) (receiver : ReceiverEnd) (end : TransmitterEnd) (p : Planning) (plan : PlanTable) (v : Transmitting) → IsSound t → IsPlanOf t plan → p.list ≡ plan ∷ [] → AreFresh t receiver end
    → GroupIsBegun end p v → EndsAreReady t receiver v p
ready t receiver end p plan v sound planned list fresh begun = record {
  transmitter = end;
  fresh = fresh;
  begun = begun;
  plans = subst (AllByRecursion (IsKnownPlan t)) (sym list) (plan_known t t plan refl sound planned, tt);
}
