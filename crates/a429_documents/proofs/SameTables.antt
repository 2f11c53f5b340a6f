-- Two slot tables of which `diff` has no row state the same.
use Rattle.std.proofs.Common.{◌≡◌, ℕ, ◌-◌, ◌/◌, ◌^◌, ◌<◌, ◌≤◌, Bool, true, false, List, [], ◌∷◌, ◌++◌, length, map, Option, Some, ap, ap₂, sym, subst, refl, arith, inl, inr, ◌⊎◌, ◌∙◌}
use Rattle.std.specs.Prelude.{codes, is_some, option_map, slice_get, slice_index, sum}
use Rattle.std.specs.List.{AllZip}
use Rattle.std.specs.Option.{option_map_or}
use Rattle.std.specs.Str.{bytes_eq}
use Rattle.std.proofs.Math.Nat.{pow-le-pow_right}
use Rattle.std.proofs.lemmas.List.{length-map}
use Rattle.std.proofs.lemmas.List.Quantifiers.{position-Some}
use Rattle.std.proofs.lemmas.Nat.{le-div, pow_pos}
use Rattle.std.proofs.lemmas.Option.{get_or_from_slice_get, same_Some, slice_get-get_or, slice_get-map, slice_get_within}
use Rattle.std.proofs.lemmas.Simd.{map-map}
use Rattle.std.proofs.lemmas.Slice.Eq.{bytes_eq-Decides}
use Rattle.a429_word.proofs.Lists.{all_at, clash, get_within, same_power}
use Rattle.a429_equipment.specs.Sound.{HaveOwnSources, IsSound}
use Rattle.a429_equipment.specs.TableRecord.{TableRecord}
use Rattle.a429_equipment.specs.declared.rows.GroupRow.{GroupRow}
use Rattle.a429_equipment.specs.declared.rows.OutputRow.{OutputRow}
use Rattle.a429_equipment.specs.declared.rows.SourceRow.{SourceRow}
use Rattle.a429_pack.specs.Demands.{demand_at, exponent_of}
use Rattle.a429_pack.specs.Orders.{NamesEachOnce}
use Rattle.a429_pack.specs.declared.demands.Demand.{Demand}
use Rattle.a429_pack.proofs.Entries.{below_frame}
use Rattle.a429_pack.proofs.Orders.{names_each_once}
use Rattle.a429_slots.specs.declared.group_plan.SlotPlace.{SlotPlace}
use Rattle.a429_slots.specs.Planned.{HaveSources, IsPlannedFor, IsServed, asked_by, asked_of}
use Rattle.a429_slots.specs.Tables.{Placed, SlotTable, buses_of, demands_of, frame_of, order_of, outputs_of, placed_at, share_of, unplaced}
use Rattle.a429_slots.proofs.Cells.{output_is}
use Rattle.a429_cert.specs.PlanText.{listing_of, placed_listing, source_name, stated_of}
use Rattle.a429_cert.specs.Spelling.{Listing}
use Rattle.a429_documents.specs.declared.diff.sides.Compared.{Compared}
use Rattle.a429_documents.specs.Diff.{Both, Sent, both_rows, change_row, change_rows, compared_at, compared_change, each_of, only_rows, has_moved, is_moved, kept_rows, kept_subject, moved_in, name_at, no_gap, number_named, of_group, of_output, other_of, output_named, outputs_rows, size_change, size_rows, with_number}
use Rattle.a429_documents.proofs.PlannedGroups.{served_length}
use Rattle.a429_documents.proofs.Findings.{paired}
use Rattle.a429_documents.proofs.Losses.{found_or_not}
use Rattle.a429_documents.proofs.NoRows.{compared_is, none_counted, none_each, none_number, none_parts, one_none, row_none}
use Rattle.a429_documents.proofs.SameOrder.{Found, Finds, Laid, Same, laid_from, same_order, share}

-- ---- the outputs of a group that both have

-- a group with these sources and rows, and this slot table
abbrev pub sent : List SourceRow → List OutputRow → SlotTable → Sent
sent sources rows t = record { sources = sources; rows = rows; table = t }

pub output_is_named : (s : Sent) (name : List ℕ) (p : ℕ) → output_named s name ≡ Some p → (p < length (outputs_of s.table)) × (name_at s p ≡ name)
unfolding number_named
output_is_named s name p h =
    let facts = position-Some (λ (x : Placed). bytes_eq (source_name s.sources x.source) name) (outputs_of s.table) p unplaced h in
    (facts.0, (bytes_eq-Decides (name_at s p) name).0 facts.1)

-- an output of the first, and the one of the second in which nothing differs
pub record IsKept (g : Both) (o p : ℕ) : Type 0 where
  pub below : p < length (outputs_of g.second.table)
  pub name : name_at g.first o ≡ name_at g.second p
  pub compared : compared_at g.first o ≡ compared_at g.second p

-- they have one name, one place and one hold
pub kept_same : (g : Both) (o p : ℕ) → IsKept g o p → Same g.first.sources g.second.sources (placed_at g.first.table o) (placed_at g.second.table p)
kept_same g o p K =
    let x : Placed = placed_at g.first.table o in
    let y : Placed = placed_at g.second.table p in
    let period : x.place.period ≡ y.place.period = same_power x.place.period y.place.period (same_Some _ _ (ap (λ (c : Compared). c.period) K.compared)) in
    let bus : x.place.bus ≡ y.place.bus = same_Some _ _ (ap (λ (c : Compared). c.bus) K.compared) in
    let offset : x.place.offset ≡ y.place.offset = same_Some _ _ (ap (λ (c : Compared). c.offset) K.compared) in
    record {
      name = K.name;
      place = λ i. record { bus = bus i; offset = offset i; period = period i };
      hold = ap (λ (c : Compared). c.hold) K.compared;
    }

-- an output without a row that it is the only one has one of its name
has_other : (change group : List ℕ) (s u : Sent) (o : ℕ) → only_rows change group s u o ≡ [] → is_some (output_named u (name_at s o)) ≡ true
has_other change group s u o = one_none (is_some (output_named u (name_at s o))) (change_row (of_output group (name_at s o) no_gap) change)

-- an output of the first without a row is kept, unless it has moved
kept : (all has_gap : Bool) (g : Both) (o : ℕ) → kept_rows all has_gap g o ≡ [] → only_rows (codes "removed") g.name g.first g.second o ≡ [] → (all ≡ true) ⊎ (is_moved g o ≡ false) → (p : ℕ) × IsKept g o p
kept all has_gap g o row gone still = elim (found_or_not (other_of g o)) [
  | inl none ↦ absurd (clash (sym (ap is_some none) ∙ has_other (codes "removed") g.name g.first g.second o gone))
  | inr (p, found) ↦
      let named = output_is_named g.second (name_at g.first o) p found in
      let here : change_rows (kept_subject has_gap g o p) (compared_change all (compared_at g.first o) (compared_at g.second p)) ≡ [] =
      sym (ap (λ (q : Option ℕ). option_map_or (λ p. change_rows (kept_subject has_gap g o p) (compared_change all (compared_at g.first o) (compared_at g.second p))) q []) found) ∙ row in
      let stays : (all ≡ true) ⊎ (has_moved (compared_at g.first o) (compared_at g.second p) ≡ false) = elim still [
        | inl is ↦ inl is
        | inr stayed ↦ inr (sym (ap (λ (q : Option ℕ). option_map_or (λ p. has_moved (compared_at g.first o) (compared_at g.second p)) q false) found) ∙ stayed)
      ] in
      let silent = row_none (kept_subject has_gap g o p) (compared_change all (compared_at g.first o) (compared_at g.second p)) here in
      (p, record { below = named.0; name = sym named.1; compared = compared_is all (compared_at g.first o) (compared_at g.second p) silent stays })
]

-- an output of the second without a row has one of the first with its name
not_added : (g : Both) (p : ℕ) → only_rows (codes "added") g.name g.second g.first p ≡ [] → (o : ℕ) × (o < length (outputs_of g.first.table)) × (name_at g.first o ≡ name_at g.second p)
not_added g p row = elim (found_or_not (output_named g.first (name_at g.second p))) [
  | inl none ↦ absurd (clash (sym (ap is_some none) ∙ has_other (codes "added") g.name g.second g.first p row))
  | inr (o, found) ↦
      let named = output_is_named g.first (name_at g.second p) o found in
      (o, named.0, named.1)
]

-- ---- names of outputs

-- a slot table that is planned for these rows of a table
pub record IsPlanned (e : TableRecord) (rate : ℕ) (rows : List OutputRow) (t : SlotTable) : Type 0 where
  pub sound : IsSound e
  pub planned : IsPlannedFor rate e.sources rows t
  pub known : HaveSources e.sources rows
  pub own : HaveOwnSources rows

module _ (e : TableRecord) (rate : ℕ) (rows : List OutputRow) (t : SlotTable) (P : IsPlanned e rate rows t) where
  pub row_of : (p : ℕ) → p < length (outputs_of t) → (row : OutputRow) × (slice_get rows p ≡ Some row) × ((placed_at t p).source ≡ row.source) × ((placed_at t p).limits.hold ≡ row.hold)
  row_of p below =
      let row = get_within rows p (omega (arith, below, served_length rate rows (outputs_of t) P.planned.served)) in
      let served = paired (IsServed rate) rows (outputs_of t) p row.0 P.planned.served row.1 in
      let same : served.0 ≡ placed_at t p = same_Some _ _ (sym served.1 ∙ output_is t p below) in
      (row.0, row.1, subst (λ (x : Placed). x.source ≡ row.0.source) same served.2.0, subst (λ (x : Placed). x.limits.hold ≡ row.0.hold) same served.2.2)

  pub source_of_row : (row : OutputRow) (p : ℕ) → slice_get rows p ≡ Some row → (s : SourceRow) × (slice_get e.sources row.source ≡ Some s) × (source_name e.sources row.source ≡ s.name)
  source_of_row row p there =
      let s = get_within e.sources row.source (all_at (λ (o : OutputRow). o.source < length e.sources) rows p row P.known there) in
      (s.0, s.1, ap (λ (r : Option SourceRow). option_map_or (λ (s : SourceRow). s.name) r []) s.1)

  pub one_named : (p q : ℕ) → p < length (outputs_of t) → q < length (outputs_of t) → name_at (sent e.sources rows t) p ≡ name_at (sent e.sources rows t) q → p ≡ q
  one_named p q below under same =
      let a = row_of p below in
      let b = row_of q under in
      let s = source_of_row a.0 p a.1 in
      let u = source_of_row b.0 q b.1 in
      let names : s.0.name ≡ u.0.name = sym s.2 ∙ ap (source_name e.sources) (sym a.2) ∙ same ∙ ap (source_name e.sources) b.2 ∙ u.2 in
      P.own p q a.0 b.0 a.1 b.1 (P.sound.own_names a.0.source b.0.source s.0 u.0 s.1 u.1 names)

  pub each_once : NamesEachOnce (length (outputs_of t)) (order_of t)
  each_once = names_each_once (length (outputs_of t)) (order_of t) P.planned.order

  pub period_fits : (o : ℕ) → o < length (outputs_of t) → 2 ^ (placed_at t o).place.period ≤ 2 ^ t.frame
  period_fits o below =
      let ds : List Demand = asked_of e.sources t in
      let asked : slice_get ds o ≡ Some (asked_by e.sources (placed_at t o)) = slice_get-map (asked_by e.sources) (outputs_of t) o ∙ ap (option_map (asked_by e.sources)) (output_is t o below) in
      let same : demand_at ds o ≡ asked_by e.sources (placed_at t o) = get_or_from_slice_get ds o (asked_by e.sources (placed_at t o)) _ asked in
      let most : (placed_at t o).place.period ≤ t.frame = omega (arith, below_frame ds o, ap exponent_of same, P.planned.frame) in
      let two : 0 < 2 = omega arith in
      pow-le-pow_right {n = 2} two {i = (placed_at t o).place.period} {j = t.frame} most

  some_share : (o : ℕ) → o < length (outputs_of t) → 1 ≤ share_of t o
  some_share o below =
      let powers = period_fits o below in
      le-div 1 (2 ^ t.frame) (2 ^ (placed_at t o).place.period) (pow_pos (placed_at t o).place.period) (omega (arith, powers))

  pub laid : Laid t.frame 0 (map (placed_at t) (order_of t))
  laid =
      laid_from t 0 (order_of t) (λ none. omega arith)
      (λ k below. P.planned.follow k (omega (arith, below, each_once.length)))
      (λ k below. some_share (slice_index (order_of t) k) (each_once.below k (omega (arith, below, each_once.length))))

-- ---- the outputs in the order of their blocks

placed_in : (t : SlotTable) (n : ℕ) → NamesEachOnce n (order_of t) → (o : ℕ) → o < n → (k : ℕ) × (slice_get (map (placed_at t) (order_of t)) k ≡ Some (placed_at t o))
placed_in t n once o below =
    let place = once.place o below in
    let here : slice_get (order_of t) place.0 ≡ Some o = slice_get-get_or (order_of t) place.0 0 (omega (arith, place.1, once.length)) ∙ ap (λ (k : ℕ). Some k) place.2 in
    (place.0, slice_get-map (placed_at t) (order_of t) place.0 ∙ ap (option_map (placed_at t)) here)

placed_from : (t : SlotTable) (n : ℕ) → NamesEachOnce n (order_of t) → (i : ℕ) (x : Placed) → slice_get (map (placed_at t) (order_of t)) i ≡ Some x → (o : ℕ) × (o < n) × (placed_at t o ≡ x)
placed_from t n once i x there =
    let below : i < length (order_of t) = omega (arith, slice_get_within (map (placed_at t) (order_of t)) i x there, length-map (order_of t) (placed_at t)) in
    let o = get_within (order_of t) i below in
    let same : slice_index (order_of t) i ≡ o.0 = get_or_from_slice_get (order_of t) i o.0 0 o.1 in (
      o.0,
      subst (λ (k : ℕ). k < n) same (once.below i (omega (arith, below, once.length))),
      same_Some _ _ (sym (slice_get-map (placed_at t) (order_of t) i ∙ ap (option_map (placed_at t)) o.1) ∙ there),
    )

same_listings : (version : ℕ) (own others : List SourceRow) (xs ys : List Placed) → AllZip (Same own others) xs ys
    → map (λ (x : Placed). placed_listing version (source_name own x.source) x.place x.limits.hold) xs ≡ map (λ (x : Placed). placed_listing version (source_name others x.source) x.place x.limits.hold) ys
same_listings version own others [] [] all = refl
same_listings version own others [] (y ∷ ys) all = absurd all
same_listings version own others (x ∷ xs) [] all = absurd all
same_listings version own others (x ∷ xs) (y ∷ ys) all =
    ap₂ (λ (l : Listing) (ls : List Listing). l ∷ ls)
    (ap (λ (n : List ℕ). placed_listing version n x.place x.limits.hold) all.0.name
    ∙ ap (λ (p : SlotPlace). placed_listing version (source_name others y.source) p x.limits.hold) all.0.place
    ∙ ap (λ (h : Option ℕ). placed_listing version (source_name others y.source) y.place h) all.0.hold)
    (same_listings version own others xs ys all.1)

same_shares : (h : ℕ) (own others : List SourceRow) (xs ys : List Placed) → AllZip (Same own others) xs ys → map (share h) xs ≡ map (share h) ys
same_shares h own others [] [] all = refl
same_shares h own others [] (y ∷ ys) all = absurd all
same_shares h own others (x ∷ xs) [] all = absurd all
same_shares h own others (x ∷ xs) (y ∷ ys) all =
    ap₂ (λ (n : ℕ) (ns : List ℕ). n ∷ ns) (ap (λ (p : SlotPlace). 2 ^ h / 2 ^ p.period) all.0.place) (same_shares h own others xs ys all.1)

-- ---- what the tables state

-- a group that both tables have, with its bit rate in each
abbrev pub group_of : List ℕ → ℕ → ℕ → TableRecord → List OutputRow → SlotTable → TableRecord → List OutputRow → SlotTable → Both
group_of name rate new_rate a rows t b others u =
    record { name = name; rate = rate; new_rate = new_rate; first = sent a.sources rows t; second = sent b.sources others u }

-- two planned tables of a group, of which `diff` has no row
pub record IsUnchanged (a b : TableRecord) (rate : ℕ) (rows others : List OutputRow) (t u : SlotTable) : Type 0 where
  pub all : Bool
  pub has_gap : Bool
  pub name : List ℕ
  pub own_rate : ℕ
  pub new_rate : ℕ
  pub first : IsPlanned a rate rows t
  pub second : IsPlanned b rate others u
  pub no_row : both_rows all has_gap (group_of name own_rate new_rate a rows t b others u) ≡ []
  pub still : (all ≡ true) ⊎ (moved_in (group_of name own_rate new_rate a rows t b others u) ≡ 0)

module _ (a b : TableRecord) (rate : ℕ) (rows others : List OutputRow) (t u : SlotTable) (U : IsUnchanged a b rate rows others t u) where
  abbrev g : Both
  g = group_of U.name U.own_rate U.new_rate a rows t b others u

  parts : (size_rows g ≡ []) × (outputs_rows U.all U.has_gap g ≡ [])
  parts = none_parts (size_rows g) (outputs_rows U.all U.has_gap g) U.no_row

  size : size_change g ≡ []
  size = row_none (of_group g.name) (size_change g) parts.0

  abbrev to_rate : List ℕ
  to_rate = with_number (codes "rate") (Some g.rate) (Some g.new_rate) []

  framed : (Some (frame_of t) ≡ Some (frame_of u)) × (with_number (codes "buses") (Some (buses_of t)) (Some (buses_of u)) to_rate ≡ [])
  framed = none_number (codes "frame_slots") (Some (frame_of t)) (Some (frame_of u)) (with_number (codes "buses") (Some (buses_of t)) (Some (buses_of u)) to_rate) (omega arith) size

  frames : t.frame ≡ u.frame
  frames = same_power t.frame u.frame (same_Some (frame_of t) (frame_of u) framed.0)

  buses : buses_of t ≡ buses_of u
  buses = same_Some (buses_of t) (buses_of u) (none_number (codes "buses") (Some (buses_of t)) (Some (buses_of u)) to_rate (omega arith) framed.1).0

  old : (each_of (length (outputs_of t)) (kept_rows U.all U.has_gap g) ≡ []) × (each_of (length (outputs_of t)) (only_rows (codes "removed") g.name g.first g.second) ++ each_of (length (outputs_of u)) (only_rows (codes "added") g.name g.second g.first) ≡ [])
  old = none_parts (each_of (length (outputs_of t)) (kept_rows U.all U.has_gap g)) (each_of (length (outputs_of t)) (only_rows (codes "removed") g.name g.first g.second) ++ each_of (length (outputs_of u)) (only_rows (codes "added") g.name g.second g.first)) parts.1

  only : (each_of (length (outputs_of t)) (only_rows (codes "removed") g.name g.first g.second) ≡ []) × (each_of (length (outputs_of u)) (only_rows (codes "added") g.name g.second g.first) ≡ [])
  only = none_parts (each_of (length (outputs_of t)) (only_rows (codes "removed") g.name g.first g.second)) (each_of (length (outputs_of u)) (only_rows (codes "added") g.name g.second g.first)) old.1

  kept_of : (o : ℕ) → o < length (outputs_of t) → (p : ℕ) × IsKept g o p
  kept_of o below =
      let stays : (U.all ≡ true) ⊎ (is_moved g o ≡ false) = elim U.still [
        | inl is ↦ inl is
        | inr none ↦ inr (none_counted (is_moved g) (length (outputs_of t)) none o below)
      ] in
      kept U.all U.has_gap g o (none_each (kept_rows U.all U.has_gap g) (length (outputs_of t)) old.0 o below) (none_each (only_rows (codes "removed") g.name g.first g.second) (length (outputs_of t)) only.0 o below) stays

  match_of : (o : ℕ) → o < length (outputs_of t) → (p : ℕ) × (p < length (outputs_of u)) × Same a.sources b.sources (placed_at t o) (placed_at u p)
  match_of o below = let found = kept_of o below in (found.0, found.1.below, kept_same g o found.0 found.1)

  matched_by : (p : ℕ) → p < length (outputs_of u) → (o : ℕ) × (o < length (outputs_of t)) × Same a.sources b.sources (placed_at t o) (placed_at u p)
  matched_by p below =
      let old = not_added g p (none_each (only_rows (codes "added") g.name g.second g.first) (length (outputs_of u)) only.1 p below) in
      let back = match_of old.0 old.1 in
      let one : back.0 ≡ p = one_named b rate others u U.second back.0 p back.1 below (sym back.2.name ∙ old.2) in
      (old.0, old.1, subst (λ (k : ℕ). Same a.sources b.sources (placed_at t old.0) (placed_at u k)) one back.2)

  -- outputs of one source have one interval
  pub same_interval : a.sources ≡ b.sources → (o p : ℕ) (x y : OutputRow) → slice_get rows o ≡ Some x → slice_get others p ≡ Some y → x.source ≡ y.source → (x.min_us ≡ y.min_us) × (x.max_us ≡ y.max_us)
  same_interval sources o p x y here there source =
      let below : o < length (outputs_of t) = omega (arith, slice_get_within rows o x here, served_length rate rows (outputs_of t) U.first.planned.served) in
      let under : p < length (outputs_of u) = omega (arith, slice_get_within others p y there, served_length rate others (outputs_of u) U.second.planned.served) in
      let found = kept_of o below in
      let mine = row_of a rate rows t U.first o below in
      let theirs = row_of b rate others u U.second p under in
      let my_source : (placed_at t o).source ≡ x.source = mine.2 ∙ ap (λ (r : OutputRow). r.source) (same_Some mine.0 x (sym mine.1 ∙ here)) in
      let their_source : (placed_at u p).source ≡ y.source = theirs.2 ∙ ap (λ (r : OutputRow). r.source) (same_Some theirs.0 y (sym theirs.1 ∙ there)) in
      let name : name_at (sent b.sources others u) found.0 ≡ name_at (sent b.sources others u) p =
      sym found.1.name ∙ ap₂ (λ (ss : List SourceRow) (n : ℕ). source_name ss n) sources (my_source ∙ source ∙ sym their_source) in
      let one : found.0 ≡ p = one_named b rate others u U.second found.0 p found.1.below under name in
      let at : slice_get others found.0 ≡ Some y = ap (λ (k : ℕ). slice_get others k) one ∙ there in
      let min_us : Some x.min_us ≡ Some y.min_us = sym (ap (option_map (λ (r : OutputRow). r.min_us)) here) ∙ ap (λ (c : Compared). c.min_us) found.1.compared ∙ ap (option_map (λ (r : OutputRow). r.min_us)) at in
      let max_us : Some x.max_us ≡ Some y.max_us = sym (ap (option_map (λ (r : OutputRow). r.max_us)) here) ∙ ap (λ (c : Compared). c.max_us) found.1.compared ∙ ap (option_map (λ (r : OutputRow). r.max_us)) at in
      (same_Some x.min_us y.min_us min_us, same_Some x.max_us y.max_us max_us)

  finds : Finds a.sources b.sources t.frame (map (placed_at t) (order_of t)) (map (placed_at u) (order_of u))
  finds i x there =
      let from = placed_from t (length (outputs_of t)) (each_once a rate rows t U.first) i x there in
      let match = match_of from.0 from.1 in
      let place = placed_in u (length (outputs_of u)) (each_once b rate others u U.second) match.0 match.1 in
      (place.0, placed_at u match.0, place.1, subst (λ (x : Placed). Same a.sources b.sources x (placed_at u match.0)) from.2 match.2)

  found : Found a.sources b.sources t.frame (map (placed_at t) (order_of t)) (map (placed_at u) (order_of u))
  found j y there =
      let from = placed_from u (length (outputs_of u)) (each_once b rate others u U.second) j y there in
      let match = matched_by from.0 from.1 in
      let place = placed_in t (length (outputs_of t)) (each_once a rate rows t U.first) match.0 match.1 in
      (place.0, placed_at t match.0, place.1, subst (λ (y : Placed). Same a.sources b.sources (placed_at t match.0) y) from.2 match.2)

  pairs : AllZip (Same a.sources b.sources) (map (placed_at t) (order_of t)) (map (placed_at u) (order_of u))
  pairs =
      same_order a.sources b.sources t.frame 0 0 (map (placed_at t) (order_of t)) (map (placed_at u) (order_of u)) (laid a rate rows t U.first)
      (subst (λ (h : ℕ). Laid h 0 (map (placed_at u) (order_of u))) (sym frames) (laid b rate others u U.second)) finds found

  pub stated_is : (version : ℕ) (row : GroupRow) → stated_of version a.sources row t ≡ stated_of version b.sources row u
  stated_is version row =
      let listings : map (listing_of version a.sources t) (order_of t) ≡ map (listing_of version b.sources u) (order_of u) =
      sym (map-map (λ (x : Placed). placed_listing version (source_name a.sources x.source) x.place x.limits.hold) (placed_at t) (order_of t))
      ∙ same_listings version a.sources b.sources (map (placed_at t) (order_of t)) (map (placed_at u) (order_of u)) pairs
      ∙ map-map (λ (x : Placed). placed_listing version (source_name b.sources x.source) x.place x.limits.hold) (placed_at u) (order_of u) in
      let demands : demands_of t ≡ demands_of u =
      sym (map-map (share t.frame) (placed_at t) (order_of t)) ∙ same_shares t.frame a.sources b.sources (map (placed_at t) (order_of t)) (map (placed_at u) (order_of u)) pairs
      ∙ ap (λ (h : ℕ). map (share h) (map (placed_at u) (order_of u))) frames ∙ map-map (share u.frame) (placed_at u) (order_of u) in
      λ i. record {
        heading = record { name = row.name; rate = (stated_of version a.sources row t).heading.rate; frame = 2 ^ frames i; buses = buses i };
        outputs = listings i;
        bound = record { demand = sum (demands i); full_buses = buses i - 1; frame = 2 ^ frames i };
      }
