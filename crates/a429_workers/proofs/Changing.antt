-- One more change, meeting or list of plans from the planner, over every list of calls that a transmitter stands for.
use Rattle.std.proofs.Common.{◌≡◌, ℕ, zero, suc, ◌+◌, ◌<◌, ◌≤◌, Bool, true, false, List, [], ◌∷◌, ◌++◌, length, drop, replicate, ◌∙◌, sym, ap, subst, refl, arith, append-nil}
use Rattle.std.specs.Prelude.{Option, Some, if◌then◌else◌, nat_lt, filter, map, slice_get}
use Rattle.std.specs.List.{AllByRecursion, range_with_len}
use Rattle.std.proofs.Math.Seq.{drop-append_seam}
use mathlib.Core.List.{IsPrefix}
use Rattle.a429_word.proofs.Lists.{all_beginning, all_front, prefix_on, prefix_self}
use Rattle.a429_equipment.specs.declared.loads.Load.{Load}
use Rattle.a429_equipment.specs.TableRecord.{TableRecord}
use Rattle.a429_equipment.specs.Agreement.{CountsNoLess, is_of, load_after, loads_of_all, sources_of}
use Rattle.a429_slots.specs.Tables.{SlotTable, PlanTable, groups_of, cells_of}
use Rattle.a429_slots.specs.FrameStates.{FrameState, begun, fits_next, turned}
use Rattle.a429_slots.specs.Recalling.{Recent, Recalls, never}
use Rattle.a429_slots.proofs.Remembering.{AreRecalled}
use Rattle.a429_values.specs.Ends as ends
use Rattle.a429_board.specs.Lists.{Watched}
use Rattle.a429_workers.specs.Calls.{Call, Turns, Meets, Takes, StaysMid, StaysSpent, GroupState, number_of, table_of, turn}
use Rattle.a429_workers.specs.Transmitting.{Transmitting, Outset, IsSameGroup, IsKnownPlan, IsKnownTable, IsReached, RemembersLoads, HasMade, led_by, loads_since}
use Rattle.a429_workers.proofs.Calling.{AreKnown, one_more, reached_turn}

-- ---- plans

pub first_known : (t : TableRecord) (plans : List PlanTable) (q : PlanTable) → IsPrefix (q ∷ []) plans → AllByRecursion (IsKnownPlan t) plans → IsKnownPlan t q
first_known t plans q P all = (all_beginning (IsKnownPlan t) (q ∷ []) plans P all).0

-- ---- changes

-- what is kept goes on if neither loads nor earlier cells change
kept_by : (ls : List Load) (s r : GroupState) (i : ℕ) (x : Option Recent) → r.earlier ≡ s.earlier → ((slot : ℕ) → IsReached s.frame slot → IsReached r.frame slot) → RemembersLoads ls s i x → RemembersLoads ls r i x
kept_by ls s r i x same on R = record {
  recent = R.recent;
  there = R.there;
  recalls = subst (λ cs. Recalls cs i R.recent) (sym same) R.recalls;
  counted = R.counted;
  reached = on R.recent.slot R.reached;
}

IsSameGroup-same_board : (v : Transmitting) (w : Watched) → w.book ≡ v.watcher.book → w.opened ≡ v.watcher.opened → IsSameGroup v (record v { watcher = w })
IsSameGroup-same_board v w book opened = record { hub = refl; group = refl; board = book; opened = opened }

pub change_mid : (b : Outset) (calls : List Call) (v : Transmitting) → nat_lt v.frame.sent (cells_of v.frame.table) ≡ true → HasMade b calls v → HasMade b (calls ++ Turns v.watcher.list StaysMid ∷ []) v
change_mid b calls v mid M =
    let s = led_by b calls in
    let plans = v.watcher.list in
    one_more b calls v v (Turns plans StaysMid) M (record {
      same = record { hub = refl; group = refl; board = refl; opened = refl };
      lawful = (M.at.seen, subst (λ (f : FrameState). StaysMid ≡ turn b.group b.table (record s { frame = f }) plans) M.at.frame (rw mid refl));
      loads = sym (append-nil v.transmitter.loads);
      known = tt;
      at = record {
        group = M.at.group;
        opened = M.at.opened;
        frame = M.at.frame;
        number = M.at.number;
        seen = prefix_self plans;
        sources = M.at.sources;
        sends = λ i low. kept_by v.transmitter.loads s (record s { seen = plans }) i (slice_get v.sends i) refl (λ slot R. R) (M.at.sends i low);
      };
    })

-- the frame is over, and the watcher has seen these plans, of which the newest has this table
pub record IsOver (b : Outset) (v : Transmitting) (w : Watched) (t : SlotTable) : Type 0 where
  pub over : nat_lt v.frame.sent (cells_of v.frame.table) ≡ false
  pub grows : IsPrefix v.watcher.list w.list
  pub book : w.book ≡ v.watcher.book
  pub opened : w.opened ≡ v.watcher.opened
  pub table : t ≡ table_of b.group b.table w.list
  pub known : IsKnownTable v.transmitter.at.station t

pub change_spent : (b : Outset) (calls : List Call) (v : Transmitting) (w : Watched) (t : SlotTable) → IsOver b v w t → fits_next v.frame t ≡ false → HasMade b calls v
    → HasMade b (calls ++ Turns w.list StaysSpent ∷ []) (record v { watcher = w; frame = turned v.frame t })
change_spent b calls v w t O full M =
    let s = led_by b calls in
    let stays : turned v.frame t ≡ v.frame = rw full refl in
    let full' : fits_next v.frame (table_of b.group b.table w.list) ≡ false = ap (fits_next v.frame) (sym O.table) ∙ full in
    subst (λ (f : FrameState). HasMade b (calls ++ Turns w.list StaysSpent ∷ []) (record v { watcher = w; frame = f })) (sym stays)
    (one_more b calls v (record v { watcher = w }) (Turns w.list StaysSpent) M (record {
      same = IsSameGroup-same_board v w O.book O.opened;
      lawful = (
        prefix_on s.seen v.watcher.list w.list M.at.seen O.grows,
        subst (λ (f : FrameState). StaysSpent ≡ turn b.group b.table (record s { frame = f }) w.list) M.at.frame (rw (O.over, full') refl),
      );
      loads = sym (append-nil v.transmitter.loads);
      known = tt;
      at = record {
        group = M.at.group;
        opened = O.opened ∙ M.at.opened;
        frame = M.at.frame;
        number = M.at.number;
        seen = prefix_self w.list;
        sources = M.at.sources;
        sends = λ i low. kept_by v.transmitter.loads s (record s { seen = w.list }) i (slice_get v.sends i) refl (λ slot R. R) (M.at.sends i low);
      };
    }))

pub change_taken : (b : Outset) (calls : List Call) (v : Transmitting) (w : Watched) (t : SlotTable) (n : ℕ) → IsOver b v w t → n ≡ number_of w.list → fits_next v.frame t ≡ true → HasMade b calls v
    → HasMade b (calls ++ Turns w.list (Takes n) ∷ []) (record v { watcher = w; frame = turned v.frame t; number = n })
change_taken b calls v w t n O number room M =
    let s = led_by b calls in
    let now = table_of b.group b.table w.list in
    let room' : fits_next v.frame now ≡ true = ap (fits_next v.frame) (sym O.table) ∙ room in
    let began : (turned v.frame t).table ≡ t = rw room refl in
    one_more b calls v (record v { watcher = w; frame = turned v.frame t; number = n }) (Turns w.list (Takes n)) M (record {
      same = record { hub = refl; group = refl; board = O.book; opened = O.opened };
      lawful = (
        prefix_on s.seen v.watcher.list w.list M.at.seen O.grows,
        subst (λ (f : FrameState). Takes n ≡ turn b.group b.table (record s { frame = f }) w.list) M.at.frame (rw (O.over, room') (ap Takes number)),
      );
      loads = sym (append-nil v.transmitter.loads);
      known = tt;
      at = record {
        group = M.at.group;
        opened = O.opened ∙ M.at.opened;
        frame = ap (λ (f : FrameState). turned f t) M.at.frame ∙ ap (turned s.frame) O.table;
        number = refl;
        seen = prefix_self w.list;
        sources = subst (IsKnownTable v.transmitter.at.station) (sym began) O.known;
        sends = λ i low. kept_by v.transmitter.loads s (record s { frame = turned s.frame now; number = n; seen = w.list }) i (slice_get v.sends i) refl (λ slot R. reached_turn s.frame now slot R) (M.at.sends i low);
      };
    })

-- ---- meetings

since_is : (ls more all : List Load) → all ≡ ls ++ more → drop (length ls) all ≡ more
since_is ls more all is = ap (drop (length ls)) is ∙ drop-append_seam ls more

-- the loads of all sources of a receiver are of sources of the station
pub loads_known : (t : TableRecord) (r : ℕ) (A : List (ℕ × ℕ)) → AllByRecursion (λ (l : Load). l.source < length t.sources) (loads_of_all t r A)
loads_known t r A = each (sources_of t r) (filter_below (range_with_len 0 (length t.sources)) (range_below 0 (length t.sources) (omega arith)))
  where
    each : (is : List ℕ) → AllByRecursion (λ i. i < length t.sources) is → AllByRecursion (λ (l : Load). l.source < length t.sources) (map (λ i. load_after i A) is)
    each [] all = tt
    each (i ∷ is) all = (all.0, each is all.1)

    range_below : (from many : ℕ) → from + many ≤ length t.sources → AllByRecursion (λ i. i < length t.sources) (range_with_len from many)
    range_below from zero within = tt
    range_below from (suc many) within = (omega arith, range_below (from + 1) many (omega arith))

    keep : (b : Bool) (i : ℕ) (is : List ℕ) → i < length t.sources → AllByRecursion (λ k. k < length t.sources) is → AllByRecursion (λ k. k < length t.sources) (if b then i ∷ is else is)
    keep true i is low all = (low, all)
    keep false i is low all = all

    filter_below : (is : List ℕ) → AllByRecursion (λ i. i < length t.sources) is → AllByRecursion (λ i. i < length t.sources) (filter (is_of t r) is)
    filter_below [] all = tt
    filter_below (i ∷ is) all = keep (is_of t r i) i (filter (is_of t r) is) all.0 (filter_below is all.1)

pub meet_more : (b : Outset) (calls : List Call) (v : Transmitting) (t : ends.TransmitterEnd) (more : List Load) → t ≡ ends.with_loads v.transmitter more → AreKnown v more → HasMade b calls v
    → HasMade b (calls ++ Meets (loads_since v (record v { transmitter = t })) ∷ []) (record v { transmitter = t })
meet_more b calls v t more is known M =
    let s = led_by b calls in
    let all : t.loads ≡ v.transmitter.loads ++ more = ap (λ (x : ends.TransmitterEnd). x.loads) is in
    let hub : t.at ≡ v.transmitter.at = ap (λ (x : ends.TransmitterEnd). x.at) is in
    let group : t.number ≡ v.transmitter.number = ap (λ (x : ends.TransmitterEnd). x.number) is in
    subst (λ (ls : List Load). HasMade b (calls ++ Meets ls ∷ []) (record v { transmitter = t })) (sym (since_is v.transmitter.loads more t.loads all))
    (one_more b calls v (record v { transmitter = t }) (Meets more) M (record {
      same = record { hub = hub; group = group; board = refl; opened = refl };
      lawful = tt;
      loads = all;
      known = known;
      at = record {
        group = group ∙ M.at.group;
        opened = M.at.opened;
        frame = M.at.frame;
        number = M.at.number;
        seen = M.at.seen;
        sources = subst (λ (x : ends.Place). IsKnownTable x.station v.frame.table) (sym hub) M.at.sources;
        sends = λ i low.
            let R = M.at.sends i (subst (λ (x : ends.Place). i < length x.station.sources) hub low) in
            record {
              recent = R.recent;
              there = R.there;
              recalls = R.recalls;
              counted = λ l own h. R.counted l own (all_front (λ (m : Load). m.source ≡ l.source → m.count ≤ l.count) v.transmitter.loads more (subst (λ (xs : List Load). CountsNoLess xs l) all h));
              reached = R.reached;
            };
      };
    }))

-- ---- tellings

pub told_more : (b : Outset) (calls : List Call) (v : Transmitting) (w : Watched) → IsPrefix v.watcher.list w.list → w.opened ≡ v.watcher.opened → HasMade b calls v → HasMade b (calls ++ []) (record v { watcher = w })
told_more b calls v w grows opened M = subst (λ (cs : List Call). HasMade b cs (record v { watcher = w })) (sym (append-nil calls)) (record {
  opens = M.opens;
  lawful = M.lawful;
  loads = M.loads;
  known = M.known;
  at = record {
    group = M.at.group;
    opened = opened ∙ M.at.opened;
    frame = M.at.frame;
    number = M.at.number;
    seen = prefix_on (led_by b calls).seen v.watcher.list w.list M.at.seen grows;
    sources = M.at.sources;
    sends = M.at.sends;
  };
})

-- ---- the beginning

get_replicate : (n i : ℕ) → i < n → slice_get (replicate n never) i ≡ Some never
get_replicate zero i low = absurd (omega arith)
get_replicate (suc n) zero low = refl
get_replicate (suc n) (suc i) low = get_replicate n i (omega arith)

pub nothing_made : AreRecalled → (t : ends.TransmitterEnd) (w : Watched) (p : SlotTable) (first : ℕ) (rs : List Recent) → slice_get (groups_of w.opened) t.number ≡ Some p → IsPrefix (w.opened ∷ []) w.list
    → rs ≡ replicate (length t.at.station.sources) never → IsKnownTable t.at.station p
    → HasMade (record { opened = w.opened; group = t.number; table = p; first = first; before = t.loads }) [] (record { transmitter = t; watcher = w; frame = begun first p; number = w.opened.number; sends = rs })
nothing_made law t w p first rs opens begins unsent known = record {
  opens = opens;
  lawful = tt;
  loads = sym (append-nil t.loads);
  known = tt;
  at = record {
    group = refl;
    opened = refl;
    frame = refl;
    number = refl;
    seen = begins;
    sources = known;
    sends = λ i low. record {
      recent = never;
      there = ap (λ (xs : List Recent). slice_get xs i) unsent ∙ get_replicate (length t.at.station.sources) i low;
      recalls = law.none i;
      counted = λ l own h. omega arith;
      reached = record { passed = omega arith; in_frame = omega arith };
    };
  };
}
