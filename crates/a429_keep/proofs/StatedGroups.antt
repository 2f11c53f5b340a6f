-- The lines of a group give its outputs places of their own, on its buses.
use Rattle.std.proofs.Common.{◌≡◌, ◌≢◌, ◌∙◌, inl, inr, ℕ, zero, suc, ◌+◌, ◌%◌, ◌^◌, ◌<◌, ◌≤◌, List, [], ◌∷◌, ap, arith, drop, get_or, length, map, refl, set, subst, sym, take}
use Rattle.std.specs.Prelude.{Contains, Option, Some, All, slice_get}
use Rattle.std.specs.List.{AllByRecursion, filter_map}
use Rattle.std.specs.Option.{option_map_or}
use Rattle.std.proofs.Math.Nat.{pow-le-pow_right}
use Rattle.std.proofs.lemmas.Bool.{cases_lt}
use Rattle.std.proofs.lemmas.List.{get_or-map, get_or-set_other, get_or-set_same, get_or-take, get_or_default, length-map, length-set, length-take}
use Rattle.std.proofs.lemmas.Simd.{map-map}
use Rattle.std.proofs.lemmas.Option.{get_or_from_slice_get, same_Some, slice_get_within}
use Rattle.std.proofs.lemmas.Slice.Zip.{AllZip-long}
use Rattle.a429_word.proofs.Lists.{all_at, get_within, read_is, zipped_at}
use Rattle.a429_equipment.specs.Sound.{HaveOwn, HaveOwnSources}
use Rattle.a429_equipment.specs.TableRecord.{TableRecord}
use Rattle.a429_equipment.specs.declared.rows.GroupRow.{GroupRow}
use Rattle.a429_equipment.specs.declared.rows.OutputRow.{OutputRow}
use Rattle.a429_equipment.specs.declared.rows.SourceRow.{SourceRow}
use Rattle.a429_pack.specs.Demanded.{AreFewestBuses}
use Rattle.a429_slots.specs.declared.group_plan.SlotPlace.{SlotPlace}
use Rattle.a429_slots.specs.Moves.{HasCell, HaveCommonCell, IsInside, IsMoved, place_in}
use Rattle.a429_slots.specs.Planned.{IsPlannedFor, IsServed}
use Rattle.a429_slots.specs.Spacing.{IsSpacedTable}
use Rattle.a429_slots.specs.Tables.{Placed, SlotTable, outputs_of, placed_at, unplaced}
use Rattle.a429_slots.proofs.OnePlan.{OneCount, same_exponents}
use Rattle.a429_cert.specs.Checked.{CellsAreApart, Fills, IsPlaced}
use Rattle.a429_cert.specs.Judged.{StatesFewest}
use Rattle.a429_cert.specs.Lines.{line_at}
use Rattle.a429_cert.specs.PlanText.{source_name}
use Rattle.a429_cert.specs.Reading.{output_line}
use Rattle.a429_cert.specs.Spelling.{Listing}
use Rattle.a429_cert.proofs.DueOutputs.{grid_same}
use Rattle.a429_keep.specs.Followed.{IsStatedTable, StandsAsListed}
use Rattle.a429_keep.specs.Following.{AreSetByLines, IsOutputNamed, IsSetByLine, ListsOutput, listed_place}
use Rattle.a429_keep.proofs.NamedOutputs.{IsNamedIn, Names, all_named, each_read, kept_by_set, pair_at}

-- ---- places after one more line

pub set_more : (version : ℕ) (sources : List SourceRow) (rows : List OutputRow) (lines : List (List ℕ)) (old mid new : List SlotPlace) (n j : ℕ) → AreSetByLines version sources rows lines old n mid
    → IsSetByLine version sources rows (line_at lines n) mid new j → AreSetByLines version sources rows lines old (n + 1) new
set_more version sources rows lines old mid new n j before step =
    let next : n + 1 ≡ suc n = omega arith in
    let all : AreSetByLines version sources rows lines old (suc n) new = (mid, j, before, step) in
    subst (λ (k : ℕ). AreSetByLines version sources rows lines old k new) (sym next) all

-- a group of a table, its lines, and its own slot table
pub record IsStatedGroup (e : TableRecord) (group : GroupRow) (rows : List OutputRow) (lines : List (List ℕ)) (t : SlotTable) : Type 0 where
  pub names : HaveOwn (λ s. s.name) e.sources
  pub sources : HaveOwnSources rows
  pub planned : IsPlannedFor group.rate e.sources rows t
  pub spaced : IsSpacedTable t
  pub one : OneCount
  pub states : StatesFewest e group rows lines

-- the row has a source of the name that the line says
record IsOfName (sources : List SourceRow) (row : OutputRow) (l : Listing) : Type 0 where
  pub source : SourceRow
  pub there : slice_get sources row.source ≡ Some source
  pub named : source.name ≡ l.source

one_name : (sources : List SourceRow) (row : OutputRow) (k l : Listing) → IsOfName sources row k → IsOfName sources row l → k.source ≡ l.source
one_name sources row k l h g =
    let same : h.source ≡ g.source = same_Some h.source g.source (sym h.there ∙ g.there) in
    sym h.named ∙ ap (λ (s : SourceRow). s.name) same ∙ g.named

module _ (e : TableRecord) (group : GroupRow) (rows : List OutputRow) (lines : List (List ℕ)) (t : SlotTable) (G : IsStatedGroup e group rows lines t) where
  abbrev listings : List Listing
  listings = G.states.plan.stated.outputs

  count : length listings ≡ length rows
  count = G.states.plan.checked.count

  pub table_count : length (outputs_of t) ≡ length rows
  table_count = AllZip-long (IsServed group.rate) rows (outputs_of t) G.planned.served

  -- ---- names

  -- an output has one name
  pub own : (name : List ℕ) (i j : ℕ) → IsOutputNamed e.sources rows name i → IsOutputNamed e.sources rows name j → i ≡ j
  own name i j a b = G.sources i j a.row b.row a.there b.there (G.names a.row.source b.row.source a.source b.source a.its_source b.its_source (a.named ∙ sym b.named))

  placed_name : (l : Listing) (p : IsPlaced e group.rate rows G.states.plan.stated.heading.buses l) → (o : ℕ) × (slice_get rows o ≡ Some p.row) × IsOutputNamed e.sources rows l.source o
  placed_name l p =
      let (o, below, at) = p.there in
      let there : slice_get rows o ≡ Some p.row = read_is rows o p.row below (sym at) in
      (o, there, record { row = p.row; source = p.source; there = there; its_source = p.its_source; named = sym p.name })

  named_rows : (ls : List Listing) → AllByRecursion (IsPlaced e group.rate rows G.states.plan.stated.heading.buses) ls → AllByRecursion (Names (IsOfName e.sources) rows) ls
  named_rows [] placed = tt
  named_rows (l ∷ ls) placed =
      let p = placed.0 in
      ((p.row, p.there, record { source = p.source; there = p.its_source; named = sym p.name }), named_rows ls placed.1)

  -- ---- the line of an output

  -- line k lists this
  pub record IsLine (k : ℕ) (l : Listing) : Type 0 where
    pub there : slice_get listings k ≡ Some l
    pub read : output_line e.version (line_at (drop 1 lines) k) ≡ Some l
    pub placed : IsPlaced e group.rate rows G.states.plan.stated.heading.buses l

  pub line_of : (k : ℕ) → k < length rows → (l : Listing) × IsLine k l
  line_of k below =
      let front : List (List ℕ) = take (length rows) (drop 1 lines) in
      let is : filter_map (output_line e.version) front ≡ listings = G.states.plan.outputs in
      let (l, there) = get_within listings k (omega (arith, below, count)) in
      let long : length front ≤ length (filter_map (output_line e.version) front) = omega (arith, length-take (length rows) (drop 1 lines), ap length is, count) in
      let r = each_read (output_line e.version) front k l long (ap (λ (ls : List Listing). slice_get ls k) is ∙ there) in
      let at : line_at (drop 1 lines) k ≡ r.from = sym (get_or-take (length rows) (drop 1 lines) k [] below) ∙ get_or_from_slice_get front k r.from [] r.there in (
        l,
        record {
          there = there;
          read = ap (output_line e.version) at ∙ r.read;
          placed = all_at (IsPlaced e group.rate rows G.states.plan.stated.heading.buses) listings k l G.states.plan.checked.placed there;
        },
      )

  pub lists : (k : ℕ) → k < length rows → ListsOutput e.version e.sources rows (line_at (drop 1 lines) k)
  lists k below =
      let (l, L) = line_of k below in
      let (o, there, named) = placed_name l L.placed in
      let (m, low, is) = L.placed.period.0 in
      let two : 0 < 2 = omega arith in
      let most : 2 ^ m ≤ 2 ^ 13 = pow-le-pow_right {n = 2} two {i = m} {j = 13} low in
      record {
        listing = l;
        read = L.read;
        output = o;
        known = named;
        bus = omega (arith, L.placed.bus, G.states.plan.checked.few_buses);
        offset = omega (arith, L.placed.offset, is, most);
      }

  -- an output and the line that lists it
  pub record HasLine (o : ℕ) : Type 0 where
    pub place : ℕ
    pub listing : Listing
    pub line : IsLine place listing
    pub named : IsOutputNamed e.sources rows listing.source o

  pub has_line : (o : ℕ) → o < length rows → HasLine o
  has_line o below =
      let (row, there) = get_within rows o below in
      let at : Contains rows row = (o, below, get_or_from_slice_get rows o row row there) in
      let found : IsNamedIn (IsOfName e.sources) listings row =
      all_named (IsOfName e.sources) (one_name e.sources) rows listings (omega (arith, count)) (named_rows listings G.states.plan.checked.placed) G.states.plan.checked.once row at in
      let (l, (k, low, is), has) = found in
      let (m, L) = line_of k (omega (arith, low, count)) in
      let same : m ≡ l = same_Some m l (sym L.there ∙ read_is listings k l low (sym is)) in
      record { place = k; listing = l; line = subst (IsLine k) same L; named = record { row = row; source = has.source; there = there; its_source = has.there; named = has.named } }

  -- what is due of an output is what its line says
  pub period_is : (o : ℕ) (h : HasLine o) → 2 ^ (placed_at t o).place.period ≡ h.listing.period
  period_is o h =
      let p = h.line.placed in
      let (j, there, named) = placed_name h.listing p in
      let same : j ≡ o = own h.listing.source j o named h.named in
      let below : o < length rows = slice_get_within rows o h.named.row h.named.there in
      let at : get_or rows o p.row ≡ p.row = get_or_from_slice_get rows o p.row p.row (subst (λ (i : ℕ). slice_get rows i ≡ Some p.row) same there) in
      let served : IsServed group.rate p.row (placed_at t o) =
      subst (λ (r : OutputRow). IsServed group.rate r (placed_at t o)) at (zipped_at (IsServed group.rate) rows (outputs_of t) o p.row unplaced below G.planned.served) in
      grid_same p.row.min_us p.row.max_us group.rate (2 ^ (placed_at t o).place.period) h.listing.period served.1 p.period

  -- no other line lists the output
  apart_names : (i j : ℕ) (k l : Listing) → slice_get listings i ≡ Some k → slice_get listings j ≡ Some l → i < j → k.source ≢ l.source
  apart_names i j k l here there less = pair_at (λ k l. k.source ≢ l.source) listings i j k l G.states.plan.checked.once less here there

  -- ---- after some lines

  pub record AreSetTo (n : ℕ) (old new : List SlotPlace) : Type 0 where
    pub long : length new ≡ length old
    pub periods : map (λ (p : SlotPlace). p.period) new ≡ map (λ p. p.period) old
    pub at : (k o : ℕ) (l : Listing) → k < n → slice_get listings k ≡ Some l → IsOutputNamed e.sources rows l.source o → ((place_in new o).bus ≡ l.bus) × ((place_in new o).offset ≡ l.offset)

  set_next : (n : ℕ) (old mid new : List SlotPlace) (j : ℕ) → n < length rows → length old ≡ length rows → AreSetTo n old mid
      → IsSetByLine e.version e.sources rows (line_at (drop 1 lines) n) mid new j → AreSetTo (suc n) old new
  set_next n old mid new j below many B S =
      let (l, L) = line_of n below in
      let same : S.listing ≡ l = same_Some S.listing l (sym S.read ∙ L.read) in
      let there : slice_get listings n ≡ Some S.listing = subst (λ (m : Listing). slice_get listings n ≡ Some m) (sym same) L.there in
      let within : j < length mid = omega (arith, slice_get_within rows j S.known.row S.known.there, B.long, many) in
      let put : SlotPlace = listed_place (place_in mid j) S.listing in
      record {
        long = ap length S.set ∙ length-set mid j put ∙ B.long;
        periods = ap (map (λ (p : SlotPlace). p.period)) S.set ∙ kept_by_set (λ (p : SlotPlace). p.period) mid j put unplaced.place refl ∙ B.periods;
        at = λ k o m low here named. elim (cases_lt k n) [
          | inl earlier ↦
              let other : o ≢ j = λ one. apart_names k n m S.listing here there earlier (names_one m S.listing o j one named S.known) in
              let kept : place_in new o ≡ place_in mid o = ap (λ (ps : List SlotPlace). place_in ps o) S.set ∙ get_or-set_other mid j o put unplaced.place other in
              let before = B.at k o m earlier here named in
              (ap (λ (p : SlotPlace). p.bus) kept ∙ before.0, ap (λ (p : SlotPlace). p.offset) kept ∙ before.1)
          | inr past ↦
              let now : k ≡ n = omega (arith, low, past) in
              let one : S.listing ≡ m = same_Some S.listing m (sym there ∙ subst (λ (i : ℕ). slice_get listings i ≡ Some m) now here) in
              let output : j ≡ o = own m.source j o (subst (λ (z : Listing). IsOutputNamed e.sources rows z.source j) one S.known) named in
              let is : place_in new o ≡ put = ap (λ (ps : List SlotPlace). place_in ps o) S.set ∙ ap (λ (i : ℕ). place_in (set mid j put) i) (sym output) ∙ get_or-set_same mid j put unplaced.place within in
              (ap (λ (p : SlotPlace). p.bus) is ∙ ap (λ (z : Listing). z.bus) one, ap (λ (p : SlotPlace). p.offset) is ∙ ap (λ (z : Listing). z.offset) one)
        ];
      }
    where
      names_one : (k l : Listing) (o j : ℕ) → o ≡ j → IsOutputNamed e.sources rows k.source o → IsOutputNamed e.sources rows l.source j → k.source ≡ l.source
      names_one k l o j one a b =
          let row : a.row ≡ b.row = same_Some a.row b.row (sym a.there ∙ ap (λ (i : ℕ). slice_get rows i) one ∙ b.there) in
          let source : a.source ≡ b.source = same_Some a.source b.source (sym a.its_source ∙ ap (λ (r : OutputRow). slice_get e.sources r.source) row ∙ b.its_source) in
          sym a.named ∙ ap (λ (s : SourceRow). s.name) source ∙ b.named

  pub set_to : (n : ℕ) (old new : List SlotPlace) → n ≤ length rows → length old ≡ length rows → AreSetByLines e.version e.sources rows (drop 1 lines) old n new → AreSetTo n old new
  set_to zero old new low many set = record { long = ap length set; periods = ap (map (λ (p : SlotPlace). p.period)) set; at = λ k o l none. absurd (omega (arith, none)) }
  set_to (suc n) old new low many (mid, j, before, step) = set_next n old mid new j (omega arith) many (set_to n old mid (omega arith) many before) step

  -- ---- after all lines

  abbrev own_places : List SlotPlace
  own_places = map (λ (o : Placed). o.place) (outputs_of t)

  module _ (places : List SlotPlace) (S : AreSetByLines e.version e.sources rows (drop 1 lines) own_places (length rows) places) where
    own_count : length own_places ≡ length rows
    own_count = length-map (outputs_of t) (λ (o : Placed). o.place) ∙ table_count

    all : AreSetTo (length rows) own_places places
    all = set_to (length rows) own_places places (omega arith) own_count S

    long : length places ≡ length rows
    long = all.long ∙ own_count

    pub periods : map (λ (p : SlotPlace). p.period) places ≡ map (λ (o : Placed). o.place.period) (outputs_of t)
    periods = all.periods ∙ map-map (λ (p : SlotPlace). p.period) (λ (o : Placed). o.place) (outputs_of t)

    -- an output has the place that its line says, at its period
    record Stands (o : ℕ) : Type 0 where
      pub has : HasLine o
      pub bus : (place_in places o).bus ≡ has.listing.bus
      pub offset : (place_in places o).offset ≡ has.listing.offset
      pub own : (place_in places o).period ≡ (placed_at t o).place.period
      pub period : 2 ^ (place_in places o).period ≡ has.listing.period

    stands : (o : ℕ) → o < length rows → Stands o
    stands o below =
        let h = has_line o below in
        let low : h.place < length rows = omega (arith, slice_get_within listings h.place h.listing h.line.there, count) in
        let at = all.at h.place o h.listing low h.line.there h.named in
        let here : get_or (map (λ (p : SlotPlace). p.period) places) o 0 ≡ (place_in places o).period = get_or-map (λ (p : SlotPlace). p.period) places o unplaced.place 0 (omega (arith, below, long)) in
        let there : get_or (map (λ (q : Placed). q.place.period) (outputs_of t)) o 0 ≡ (placed_at t o).place.period = get_or-map (λ (q : Placed). q.place.period) (outputs_of t) o unplaced 0 (omega (arith, below, table_count)) in
        let same : (place_in places o).period ≡ (placed_at t o).place.period = sym here ∙ ap (λ (ns : List ℕ). get_or ns o 0) periods ∙ there in
        record { has = h; bus = at.0; offset = at.1; own = same; period = ap (λ (n : ℕ). 2 ^ n) same ∙ period_is o h }

    -- the group has as many buses as the lines say
    buses : G.states.plan.stated.heading.buses ≡ t.buses
    buses =
        let f = G.states.fewest in
        let s = G.planned.fewest in
        G.one s.exponents G.states.plan.stated.heading.buses t.buses (subst (λ (ks : List ℕ). AreFewestBuses ks G.states.plan.stated.heading.buses) (same_exponents group.rate rows f.exponents s.exponents f.fit s.fit) f.fewest) s.fewest

    pub inside : All (IsInside t.frame t.buses) places
    inside o d below =
        let known : o < length rows = omega (arith, below, long) in
        let s = stands o known in
        let p = s.has.line.placed in
        let is : place_in places o ≡ get_or places o d = get_or_default places o unplaced.place d below in
        let (x, there) = get_within (outputs_of t) o (omega (arith, known, table_count)) in
        let fits : (placed_at t o).place.period ≤ t.frame = subst (λ (y : Placed). y.place.period ≤ t.frame) (sym (get_or_from_slice_get (outputs_of t) o x unplaced there)) (G.spaced.fits o x there) in
        subst (IsInside t.frame t.buses) is (omega (arith, s.bus, p.bus, buses), omega (arith, s.offset, p.offset, s.period), omega (arith, s.own, fits))

    fills : (o bus slot : ℕ) (s : Stands o) → HasCell places o bus slot → Fills s.has.listing bus slot
    fills o bus slot s cell = record { on_bus = sym cell.0 ∙ s.bus; at_offset = ap (λ (n : ℕ). slot % n) (sym s.period) ∙ cell.1 ∙ s.offset }

    pub apart : HaveCommonCell places → ⊥
    apart c =
        let a = stands c.first (omega (arith, c.first_known, long)) in
        let b = stands c.second (omega (arith, c.second_known, long)) in
        let first = fills c.first c.bus c.slot a c.in_first in
        let second = fills c.second c.bus c.slot b c.in_second in
        elim (cases_lt a.has.place b.has.place) [
          | inl less ↦ pair_at CellsAreApart listings a.has.place b.has.place a.has.listing b.has.listing G.states.plan.checked.apart less a.has.line.there b.has.line.there c.bus c.slot first second
          | inr past ↦ elim (cases_lt b.has.place a.has.place) [
            | inl more ↦ pair_at CellsAreApart listings b.has.place a.has.place b.has.listing a.has.listing G.states.plan.checked.apart more b.has.line.there a.has.line.there c.bus c.slot second first
            | inr equal ↦
                let one : a.has.place ≡ b.has.place = omega (arith, past, equal) in
                let same : a.has.listing ≡ b.has.listing = same_Some a.has.listing b.has.listing (sym a.has.line.there ∙ ap (λ (i : ℕ). slice_get listings i) one ∙ b.has.line.there) in
                c.other (own b.has.listing.source c.first c.second (subst (λ (l : Listing). IsOutputNamed e.sources rows l.source c.first) same a.has.named) b.has.named)
          ]
        ]

    pub stated : (u : SlotTable) → IsMoved t u places → IsStatedTable e group rows lines u
    stated u M = record { plan = G.states.plan; placed = λ o d below. as_listed o d below }
      where
        many : length (outputs_of u) ≡ length rows
        many = sym (length-map (outputs_of u) (λ (x : Placed). x.place)) ∙ ap length M.at ∙ long

        as_listed : (o : ℕ) (d : Placed) → o < length (outputs_of u) → StandsAsListed e.sources listings (get_or (outputs_of u) o d)
        as_listed o d below =
            let known : o < length rows = omega (arith, below, many) in
            let s = stands o known in
            let x : Placed = get_or (outputs_of u) o d in
            let place : x.place ≡ place_in places o = sym (get_or-map (λ (y : Placed). y.place) (outputs_of u) o d unplaced.place below) ∙ ap (λ (ps : List SlotPlace). place_in ps o) M.at in
            let source : x.source ≡ (placed_at t o).source
            = sym (get_or-map (λ (y : Placed). y.source) (outputs_of u) o d 0 below) ∙ ap (λ (ns : List ℕ). get_or ns o 0) M.sources ∙ get_or-map (λ (y : Placed). y.source) (outputs_of t) o unplaced 0 (omega (arith, known, table_count)) in
            let row : OutputRow = s.has.named.row in
            let at : get_or rows o row ≡ row = get_or_from_slice_get rows o row row s.has.named.there in
            let served : IsServed group.rate row (placed_at t o) =
            subst (λ (r : OutputRow). IsServed group.rate r (placed_at t o)) at (zipped_at (IsServed group.rate) rows (outputs_of t) o row unplaced known G.planned.served) in
            let name : source_name e.sources x.source ≡ s.has.listing.source
            = ap (source_name e.sources) (source ∙ served.0) ∙ ap (λ (m : Option SourceRow). option_map_or (λ z. z.name) m []) s.has.named.its_source ∙ s.has.named.named in
            let line : Contains listings s.has.listing = (s.has.place, slice_get_within listings s.has.place s.has.listing s.has.line.there, get_or_from_slice_get listings s.has.place s.has.listing s.has.listing s.has.line.there) in
            record {
              line = s.has.listing;
              there = line;
              source = sym name;
              bus = ap (λ (p : SlotPlace). p.bus) place ∙ s.bus;
              offset = ap (λ (p : SlotPlace). p.offset) place ∙ s.offset;
              period = ap (λ (p : SlotPlace). 2 ^ p.period) place ∙ s.period;
            }
