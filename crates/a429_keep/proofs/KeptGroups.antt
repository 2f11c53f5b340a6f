-- Groups whose outputs keep their places, one after another.
use Rattle.std.proofs.Common.{◌≡◌, ◌∙◌, ◌+◌, ◌^◌, ◌<◌, ◌≤◌, ℕ, List, true, ap, arith, get_or, inl, inr, length, map, refl, subst, sym}
use Rattle.std.specs.Prelude.{◌&&◌, Some, nat_le, nat_lt, slice_get}
use Rattle.std.specs.List.{range_with_len}
use Rattle.std.proofs.lemmas.Bool.{and_parts, cases_lt, leb-true, ltb-true}
use Rattle.std.proofs.lemmas.List.{get_or-map, length-map}
use Rattle.std.proofs.lemmas.List.FromFn.{fill_by_all}
use Rattle.std.proofs.lemmas.List.Sums.{AllPass-from_list_all}
use Rattle.std.proofs.lemmas.Option.{same_Some, slice_get_within}
use Rattle.std.proofs.lemmas.Simd.{map-map}
use Rattle.std.proofs.Math.Pow.{pow-lt}
use Rattle.a429_word.proofs.Lists.{get_set_other, get_set_same}
use Rattle.a429_equipment.specs.TableRecord.{TableRecord}
use Rattle.a429_slots.specs.Proposed.{Proposed}
use Rattle.a429_slots.specs.Tables.{Placed, SlotTable, buses_of, frame_of, groups_of, outputs_of, placed_at, unplaced}
use Rattle.a429_slots.specs.declared.group_plan.SlotPlace.{SlotPlace}
use Rattle.a429_slots.specs.Moves.{AreFor, AreInside, IsInside, IsMoved, IsReplaced}
use Rattle.a429_slots.proofs.Replaced.{length_set}
use Rattle.a429_keep.specs.declared.blocks.Stand.{Stand}
use Rattle.a429_keep.specs.Keeping.{ArePlaces, IsGroupKept}
use Rattle.a429_keep.specs.KeptPlans.{CannotHave, KeepsGroup, KeepsTable, are_inside, is_inside, kept_places, kept_stands, places_of}
use Rattle.a429_keep.specs.Places.{frame_period, place_at, start_at}
use Rattle.a429_keep.specs.Rows.{Listed}

-- ---- the places of one group

-- the period of each output is the table's
pub periods_are : (t : SlotTable) (frame : ℕ) (stands : List Stand) → map (λ (p : SlotPlace). p.period) (places_of t frame stands) ≡ map (λ (o : Placed). o.place.period) (outputs_of t)
periods_are t frame stands =
    map-map (λ (p : SlotPlace). p.period) (λ o. place_at frame (placed_at t o).place.period (start_at stands o)) (range_with_len 0 (length (outputs_of t)))
    ∙ sym (fill_by_all (λ o. (placed_at t o).place.period) (map (λ (o : Placed). o.place.period) (outputs_of t)) (length (outputs_of t)) 0 (length-map (outputs_of t) (λ (o : Placed). o.place.period)) (λ k below.
    get_or-map (λ (o : Placed). o.place.period) (outputs_of t) k unplaced 0 below))

-- a place that passes the test is on one of the buses
inside_by : (t : SlotTable) (p : SlotPlace) → is_inside (buses_of t) (frame_of t) p ≡ true → IsInside t.frame t.buses p
inside_by t p passed =
    let (bus, rest) = and_parts (nat_lt p.bus (buses_of t)) (nat_lt p.offset (2 ^ p.period) && nat_le (2 ^ p.period) (frame_of t)) passed in
    let (offset, fits) = and_parts (nat_lt p.offset (2 ^ p.period)) (nat_le (2 ^ p.period) (frame_of t)) rest in
    let most : 2 ^ p.period ≤ 2 ^ t.frame = leb-true (2 ^ p.period) (2 ^ t.frame) fits in (
      ltb-true p.bus (buses_of t) bus,
      ltb-true p.offset (2 ^ p.period) offset,
      elim (cases_lt t.frame p.period) [
        | inl longer ↦ let above : 2 ^ t.frame < 2 ^ p.period = pow-lt {i = t.frame} {j = p.period} longer in absurd (omega (arith, above, most))
        | inr short ↦ short
      ],
    )

pub inside : (t : SlotTable) (places : List SlotPlace) → are_inside t places ≡ true → AreInside t places
inside t places passed k d below = inside_by t (get_or places k d) (AllPass-from_list_all (is_inside (buses_of t) (frame_of t)) places passed k d below)

-- the places are given to the table of the group
pub are_for : (rows : List Listed) (p : Proposed) (k : ℕ) (t : SlotTable) (places : List SlotPlace) → ArePlaces rows p k places → slice_get (groups_of p.plan) k ≡ Some t → are_inside t places ≡ true → AreFor p.plan k places
are_for rows p k t places A there passed =
    let same : A.table ≡ t = same_Some A.table t (sym A.there ∙ there) in
    record {
      table = t;
      there = there;
      periods = ap (map (λ (q : SlotPlace). q.period)) A.are ∙ periods_are A.table (frame_period A.table) (kept_stands p.station.sources rows A.group A.table) ∙ ap (λ (u : SlotTable). map (λ (o : Placed). o.place.period) (outputs_of u)) same;
      inside = inside t places passed;
    }

-- a group whose outputs are replaced keeps its places
pub replaced_kept : (rows : List Listed) (p q : Proposed) (k : ℕ) (places : List SlotPlace) → ArePlaces rows p k places → q.station ≡ p.station → IsReplaced p.plan q.plan k places → IsGroupKept rows p q k
replaced_kept rows p q k places A station R =
    let same : R.before ≡ A.table = same_Some R.before A.table (sym R.there ∙ A.there) in
    record {
      station = station;
      count = ap length R.groups ∙ length_set (groups_of p.plan) k R.after;
      group = record {
        group = A.group;
        own = A.table;
        kept = R.after;
        row = A.row;
        before = A.there;
        after = ap (λ (ts : List SlotTable). slice_get ts k) R.groups ∙ get_set_same (groups_of p.plan) k R.after (slice_get_within (groups_of p.plan) k R.before R.there);
        keeps = inl (subst (λ (t : SlotTable). IsMoved t R.after (kept_places p.station.sources rows A.group A.table)) same (subst (IsMoved R.before R.after) A.are R.moved));
      };
      others = λ i other. ap (λ (ts : List SlotTable). slice_get ts i) R.groups ∙ get_set_other (groups_of p.plan) k i R.after other;
    }

-- and one whose outputs cannot have them stays as it is
pub unchanged_kept : (rows : List Listed) (p : Proposed) (k : ℕ) (places : List SlotPlace) → (A : ArePlaces rows p k places) → CannotHave A.table places → IsGroupKept rows p p k
unchanged_kept rows p k places A cannot = record {
  station = refl;
  count = refl;
  group = record { group = A.group; own = A.table; kept = A.table; row = A.row; before = A.there; after = A.there; keeps = inr (refl, subst (CannotHave A.table) A.are cannot) };
  others = λ i other. refl;
}

-- ---- the groups

-- the groups before group i keep their places, and the others are those of the own plan
pub record AreKeptTo (rows : List Listed) (p q : Proposed) (i : ℕ) : Type 0 where
  pub station : q.station ≡ p.station
  pub count : length (groups_of q.plan) ≡ length (groups_of p.plan)
  pub done : (k : ℕ) → k < i → KeepsGroup rows p q k
  pub rest : (k : ℕ) → i ≤ k → slice_get (groups_of q.plan) k ≡ slice_get (groups_of p.plan) k

pub none_kept : (rows : List Listed) (p : Proposed) → AreKeptTo rows p p 0
none_kept rows p = record { station = refl; count = refl; done = λ k below. absurd (omega (arith, below)); rest = λ k past. refl }

module _ (rows : List Listed) (p q r : Proposed) (i : ℕ) (before : AreKeptTo rows p q i) (next : IsGroupKept rows q r i) where
  -- a group that was kept before
  still : (k : ℕ) → k < i → KeepsGroup rows p r k
  still k below =
      let g = before.done k below in
      record {
        group = g.group;
        own = g.own;
        kept = g.kept;
        row = g.row;
        before = g.before;
        after = next.others k (λ same. absurd (omega (arith, below, same))) ∙ g.after;
        keeps = g.keeps;
      }

  -- the one that is kept now
  here : KeepsGroup rows p r i
  here =
      let g = next.group in
      record {
        group = g.group;
        own = g.own;
        kept = g.kept;
        row = ap (λ (e : TableRecord). slice_get e.groups i) (sym before.station) ∙ g.row;
        before = sym (before.rest i (omega arith)) ∙ g.before;
        after = g.after;
        keeps = subst (λ (e : TableRecord). KeepsTable (kept_places e.sources rows g.group g.own) g.own g.kept) before.station g.keeps;
      }

  pub kept_next : AreKeptTo rows p r (i + 1)
  kept_next = record {
    station = next.station ∙ before.station;
    count = next.count ∙ before.count;
    done = λ k below. elim (cases_lt k i) [
      | inl earlier ↦ still k earlier
      | inr past ↦ subst (KeepsGroup rows p r) (let same : i ≡ k = omega (arith, below, past) in same) here
    ];
    rest = λ k past. next.others k (λ same. absurd (omega (arith, past, same))) ∙ before.rest k (omega (arith, past));
  }
