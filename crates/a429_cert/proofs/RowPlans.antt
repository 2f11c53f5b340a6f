-- A plan that is checked against what is due of a table is checked against the table's rows.
use Rattle.std.proofs.Common.{◌≡◌, ◌≢◌, ℕ, zero, suc, ◌+◌, ◌-◌, ◌*◌, ◌/◌, ◌<◌, ◌≤◌, max, Bool, true, false, List, [], ◌∷◌, length, get_or, map, take, drop, Option, Some, refl, sym, ap, subst, ◌∙◌, arith, inl, inr}
use Rattle.std.specs.Prelude.{◌⊎◌, if◌then◌else◌, Contains, option_map, option_and_then}
use Rattle.std.specs.List.{AllZip, AllByRecursion, find, filter_map, fold, sum_by, zip}
use Rattle.std.specs.Str.{bytes_eq}
use Rattle.std.proofs.lemmas.Bool.{cases_lt}
use Rattle.std.proofs.lemmas.List.Sums.{sum_by-cons}
use Rattle.std.proofs.lemmas.Option.{same_Some, none-some}
use Rattle.std.proofs.lemmas.Slice.Zip.{AllZip-long}
use Rattle.a429_equipment.specs.TableRecord.{TableRecord}
use Rattle.a429_equipment.specs.Sound.{IsSound}
use Rattle.a429_equipment.specs.declared.rows.GroupRow.{GroupRow}
use Rattle.a429_equipment.specs.declared.rows.OutputRow.{OutputRow}
use Rattle.a429_grid.specs.Grid.{IsPeriod, IsGridPeriod}
use Rattle.a429_cert.specs.declared.due.DueGroup.{DueGroup}
use Rattle.a429_cert.specs.declared.due.DueOutput.{DueOutput}
use Rattle.a429_cert.specs.declared.due.DueTable.{DueTable}
use Rattle.a429_cert.specs.Due.{IsDueOutput, IsDueGroup, IsDue}
use Rattle.a429_cert.specs.Faults.{demand, frame, hold_of}
use Rattle.a429_cert.specs.Lines.{line_at, lines_of, lines_of_groups}
use Rattle.a429_cert.specs.Reading.{output_line, bound_line}
use Rattle.a429_cert.specs.Spelling.{Listing, Bounding, said_in}
use Rattle.a429_cert.specs.Checked.{EachPair, IsGreatestPeriod, IsPlaced, StatesPlan, stated_demand}
use Rattle.a429_cert.specs.Judged.{StatesFewest, StateFewest, ShowsFewest}
use Rattle.a429_cert.proofs.CheckedFewest.{checked_is_fewest}
use Rattle.a429_cert.proofs.CheckedPlans.{same_bytes}
use Rattle.a429_cert.proofs.DueOutputs.{grid_same}
use Rattle.a429_cert.proofs.DuePlans.{IsPlacedAsDue, StatesAsDue, StateAsDue}
use Rattle.a429_cert.proofs.OnGrid.{FewestByDemand, IsOnGrid, IsShortList, group_on_grid, period_some}

-- ---- the greatest of the periods

abbrev greatest_from : ℕ → List DueOutput → ℕ
greatest_from a os = fold (λ a o. max a o.period) a os

at_least : (os : List DueOutput) (a : ℕ) → a ≤ greatest_from a os
at_least [] a = omega arith
at_least (o ∷ os) a = let rest = at_least os (max a o.period) in omega (arith, rest)

none_above : (e : TableRecord) (rate : ℕ) (rows : List OutputRow) (os : List DueOutput) (a : ℕ) → AllZip (IsDueOutput e rate) rows os
    → (row : OutputRow) (p k : ℕ) → k < length rows → get_or rows k row ≡ row → IsGridPeriod row.min_us row.max_us rate p → p ≤ greatest_from a os
none_above e rate [] os a due row p k below at has = absurd (omega arith)
none_above e rate (r ∷ rows) [] a due row p k below at has = absurd due
none_above e rate (r ∷ rows) (o ∷ os) a due row p zero below at has =
    let here : IsGridPeriod row.min_us row.max_us rate o.period = subst (λ (x : OutputRow). IsGridPeriod x.min_us x.max_us rate o.period) at due.0.period in
    let same : o.period ≡ p = grid_same row.min_us row.max_us rate o.period p here has in
    omega (arith, same, at_least os (max a o.period))
none_above e rate (r ∷ rows) (o ∷ os) a due row p (suc k) below at has =
    none_above e rate rows os (max a o.period) due.1 row p k (omega arith) at has

-- one of the rows has it
abbrev HasRow : ℕ → List OutputRow → ℕ → Type 0
HasRow rate rows h = (row : OutputRow) × Contains rows row × IsGridPeriod row.min_us row.max_us rate h

one_more : (rate : ℕ) (r : OutputRow) (rows : List OutputRow) (h : ℕ) → HasRow rate rows h → HasRow rate (r ∷ rows) h
one_more rate r rows h (row, (k, below, at), has) = (row, (suc k, omega arith, at), has)

first_one : (rate : ℕ) (r : OutputRow) (rows : List OutputRow) (h : ℕ) → IsGridPeriod r.min_us r.max_us rate h → HasRow rate (r ∷ rows) h
first_one rate r rows h has = (r, (0, omega arith, refl), has)

one_has : (e : TableRecord) (rate : ℕ) (rows : List OutputRow) (os : List DueOutput) (a : ℕ) → AllZip (IsDueOutput e rate) rows os
    → (greatest_from a os ≡ a) ⊎ HasRow rate rows (greatest_from a os)
one_has e rate [] [] a due = inl refl
one_has e rate [] (o ∷ os) a due = absurd due
one_has e rate (r ∷ rows) [] a due = absurd due
one_has e rate (r ∷ rows) (o ∷ os) a due =
    elim (one_has e rate rows os (max a o.period) due.1) [
      | inl same ↦ elim (cases_lt a o.period) [
        | inl less ↦
            let is : o.period ≡ greatest_from (max a o.period) os = omega (arith, same, less) in
            inr (first_one rate r rows (greatest_from (max a o.period) os) (subst (IsGridPeriod r.min_us r.max_us rate) is due.0.period))
        | inr most ↦ inl (omega (arith, same, most))
      ]
      | inr later ↦ inr (one_more rate r rows (greatest_from (max a o.period) os) later)
    ]

greatest_is : (e : TableRecord) (rate : ℕ) (rows : List OutputRow) (g : DueGroup) → 1 ≤ length rows → IsOnGrid g → AllZip (IsDueOutput e rate) rows g.outputs.items
    → IsGreatestPeriod rate rows (frame g)
greatest_is e rate rows g some on due =
    let found : HasRow rate rows (frame g) = there rows g.outputs.items some on.periods due in
    record {
      none_above = λ row p has-row has. none_above e rate rows g.outputs.items 0 due row p has-row.0 has-row.1 has-row.2 has;
      row = found.0;
      there = found.1;
      has = found.2;
    }
  where
    there : (rows : List OutputRow) (os : List DueOutput) → 1 ≤ length rows → AllByRecursion (λ o. IsPeriod o.period) os → AllZip (IsDueOutput e rate) rows os
        → HasRow rate rows (greatest_from 0 os)
    there [] os some periods due = absurd (omega arith)
    there (r ∷ rows) [] some periods due = absurd due
    there (r ∷ rows) (o ∷ os) some periods due = elim (one_has e rate (r ∷ rows) (o ∷ os) 0 due) [
      | inl none ↦ absurd (omega (arith, none, period_some o.period periods.0, at_least os (max 0 o.period)))
      | inr found ↦ found
    ]

-- ---- the row that a line lists

record IsFound (e : TableRecord) (rate : ℕ) (rows : List OutputRow) (os : List DueOutput) (name : List ℕ) (p : ℕ) : Type 0 where
  row : OutputRow
  due : DueOutput
  there : Contains rows row
  is : IsDueOutput e rate row due
  first : find (λ o. bytes_eq o.source name) os ≡ Some due
  named : due.source ≡ name
  period : due.period ≡ p

found : (e : TableRecord) (rate : ℕ) (rows : List OutputRow) (os : List DueOutput) (name : List ℕ) (p : ℕ) → AllZip (IsDueOutput e rate) rows os
    → option_map (λ o. o.period) (find (λ o. bytes_eq o.source name) os) ≡ Some p → IsFound e rate rows os name p
found e rate [] [] name p due h = absurd (none-some p h)
found e rate [] (o ∷ os) name p due h = absurd due
found e rate (r ∷ rows) [] name p due h = absurd due
found e rate (r ∷ rows) (o ∷ os) name p due h = by_test (λ h. found e rate rows os name p due.1 h) (bytes_eq o.source name) refl
  where
    by_test : (option_map (λ (o : DueOutput). o.period) (find (λ o. bytes_eq o.source name) os) ≡ Some p → IsFound e rate rows os name p)
        → (t : Bool) → bytes_eq o.source name ≡ t → IsFound e rate (r ∷ rows) (o ∷ os) name p
    by_test later true is =
        record {
          row = r;
          due = o;
          there = (0, omega arith, refl);
          is = due.0;
          first = rw is refl;
          named = same_bytes o.source name is;
          period = same_Some o.period p (rw is at h);
        }
    by_test later false is =
        let rest : IsFound e rate rows os name p = later (rw is at h) in
        record {
          row = rest.row;
          due = rest.due;
          there = (suc rest.there.0, omega (arith, rest.there.1), rest.there.2);
          is = rest.is;
          first = rw is rest.first;
          named = rest.named;
          period = rest.period;
        }

placed : (e : TableRecord) (rate : ℕ) (rows : List OutputRow) (g : DueGroup) (buses : ℕ) (l : Listing) → AllZip (IsDueOutput e rate) rows g.outputs.items
    → IsPlacedAsDue e.version g buses l → IsPlaced e rate rows buses l
placed e rate rows g buses l due at =
    let f : IsFound e rate rows g.outputs.items l.source l.period = found e rate rows g.outputs.items l.source l.period due at.listed in
    let hold : hold_of g l.source ≡ f.row.hold = ap (option_and_then (λ (o : DueOutput). o.hold)) f.first ∙ f.is.hold in
    record {
      row = f.row;
      source = f.is.source;
      there = f.there;
      its_source = f.is.there;
      name = sym f.named ∙ f.is.name;
      period = subst (IsGridPeriod f.row.min_us f.row.max_us rate) f.period f.is.period;
      hold = at.hold ∙ ap (λ (h : Option ℕ). said_in e.version h) hold;
      bus = at.bus;
      offset = at.offset;
    }

all_placed : (e : TableRecord) (rate : ℕ) (rows : List OutputRow) (g : DueGroup) (buses : ℕ) (ls : List Listing) → AllZip (IsDueOutput e rate) rows g.outputs.items
    → AllByRecursion (IsPlacedAsDue e.version g buses) ls → AllByRecursion (IsPlaced e rate rows buses) ls
all_placed e rate rows g buses [] due at = tt
all_placed e rate rows g buses (l ∷ ls) due at = (placed e rate rows g buses l due at.0, all_placed e rate rows g buses ls due at.1)

-- ---- the demand of the lines is what is due

abbrev period_in : List DueOutput → List ℕ → Option ℕ
period_in os name = option_map (λ o. o.period) (find (λ o. bytes_eq o.source name) os)

-- what is left when the output of this name is taken out
record IsRemoved (h : ℕ) (os : List DueOutput) (name : List ℕ) (p : ℕ) : Type 0 where
  rest : List DueOutput
  count : length os ≡ suc (length rest)
  sum : sum_by (λ o. h / o.period) os ≡ h / p + sum_by (λ o. h / o.period) rest
  others : (other : List ℕ) → name ≢ other → period_in rest other ≡ period_in os other

other_name : (xs ys zs : List ℕ) → bytes_eq xs ys ≡ true → ys ≢ zs → bytes_eq xs zs ≡ false
other_name xs ys zs same apart = by_test (bytes_eq xs zs) refl
  where
    by_test : (t : Bool) → bytes_eq xs zs ≡ t → bytes_eq xs zs ≡ false
    by_test true is = absurd (apart (sym (same_bytes xs ys same) ∙ same_bytes xs zs is))
    by_test false is = is

removed : (h : ℕ) (os : List DueOutput) (name : List ℕ) (p : ℕ) → period_in os name ≡ Some p → IsRemoved h os name p
removed h [] name p there = absurd (none-some p there)
removed h (o ∷ os) name p there = by_test (λ there. removed h os name p there) (bytes_eq o.source name) refl
  where
    first : (t : Bool) (x y : Option DueOutput) → t ≡ false → option_map (λ (o : DueOutput). o.period) y ≡ option_map (λ o. o.period) (if t then x else y)
    first true x y is = absurd cc
    first false x y is = refl

    second : (t : Bool) (x : Option DueOutput) (y z : Option DueOutput) → option_map (λ (o : DueOutput). o.period) y ≡ option_map (λ o. o.period) z
        → option_map (λ (o : DueOutput). o.period) (if t then x else y) ≡ option_map (λ o. o.period) (if t then x else z)
    second true x y z same = refl
    second false x y z same = same

    by_test : (period_in os name ≡ Some p → IsRemoved h os name p) → (t : Bool) → bytes_eq o.source name ≡ t → IsRemoved h (o ∷ os) name p
    by_test later true is =
        let same : o.period ≡ p = same_Some o.period p (rw is at there) in
        record {
          rest = os;
          count = refl;
          sum = sum_by-cons (λ (o : DueOutput). h / o.period) o os ∙ ap (λ (q : ℕ). h / q + sum_by (λ o. h / o.period) os) same;
          others = λ other apart. first (bytes_eq o.source other) (Some o) (find (λ o. bytes_eq o.source other) os) (other_name o.source name other is apart);
        }
    by_test later false is =
        let r : IsRemoved h os name p = later (rw is at there) in
        record {
          rest = o ∷ r.rest;
          count = ap suc r.count;
          sum = omega (arith, sum_by-cons (λ (o : DueOutput). h / o.period) o os, sum_by-cons (λ (o : DueOutput). h / o.period) o r.rest, r.sum);
          others = λ other apart. second (bytes_eq o.source other) (Some o) (find (λ o. bytes_eq o.source other) r.rest) (find (λ o. bytes_eq o.source other) os) (r.others other apart);
        }

abbrev AreListed : List DueOutput → List Listing → Type 0
AreListed os ls = AllByRecursion (λ l. period_in os l.source ≡ Some l.period) ls

still_listed : (os rest : List DueOutput) (name : List ℕ) (ls : List Listing) → ((other : List ℕ) → name ≢ other → period_in rest other ≡ period_in os other)
    → AllByRecursion (λ l. name ≢ l.source) ls → AreListed os ls → AreListed rest ls
still_listed os rest name [] others apart listed = tt
still_listed os rest name (l ∷ ls) others apart listed = (others l.source apart.0 ∙ listed.0, still_listed os rest name ls others apart.1 listed.1)

cells_same : (h : ℕ) (ls : List Listing) (os : List DueOutput) → length ls ≡ length os → AreListed os ls → EachPair (λ k l. k.source ≢ l.source) ls
    → sum_by (λ l. h / l.period) ls ≡ sum_by (λ o. h / o.period) os
cells_same h [] [] many listed once = refl
cells_same h [] (o ∷ os) many listed once = absurd (omega arith)
cells_same h (l ∷ ls) os many listed once =
    let r : IsRemoved h os l.source l.period = removed h os l.source l.period listed.0 in
    let rest : sum_by (λ (l : Listing). h / l.period) ls ≡ sum_by (λ o. h / o.period) r.rest =
    cells_same h ls r.rest (omega (arith, many, r.count)) (still_listed os r.rest l.source ls r.others once.0 listed.1) once.1 in
    omega (arith, sum_by-cons (λ (l : Listing). h / l.period) l ls, rest, r.sum)

listed_as_due : (version : ℕ) (g : DueGroup) (buses : ℕ) (ls : List Listing) → AllByRecursion (IsPlacedAsDue version g buses) ls → AreListed g.outputs.items ls
listed_as_due version g buses [] at = tt
listed_as_due version g buses (l ∷ ls) at = (at.0.listed, listed_as_due version g buses ls at.1)

-- ---- a group

states : (e : TableRecord) (group : GroupRow) (rows : List OutputRow) (g : DueGroup) (lines : List (List ℕ)) → IsOnGrid g → IsDueGroup e (group.rate, rows) g → g.name ≡ group.name
    → StatesAsDue e.version g lines → StatesPlan e group rows lines
states e group rows g lines on due named plan =
    let s = plan.stated in
    let c = plan.checked in
    let many : length g.outputs.items ≡ length rows = AllZip-long (IsDueOutput e group.rate) rows g.outputs.items due.outputs in
    let cells : stated_demand s ≡ demand g
    = ap (λ (h : ℕ). sum_by (λ (l : Listing). h / l.period) s.outputs) c.greatest ∙ cells_same (frame g) s.outputs g.outputs.items c.count (listed_as_due e.version g s.heading.buses s.outputs c.placed) c.once in
    record {
      stated = s;
      heading = plan.heading;
      outputs = subst (λ (n : ℕ). filter_map (output_line e.version) (take n (drop 1 lines)) ≡ s.outputs) many plan.outputs;
      bound = subst (λ (n : ℕ). bound_line (line_at lines (n + 1)) ≡ Some s.bound) many plan.bound;
      checked = record {
        name = c.name ∙ named;
        rate = c.rate ∙ ap (λ (rate : ℕ). said_in e.version rate) due.rate;
        greatest = subst (IsGreatestPeriod group.rate rows) (sym c.greatest) (greatest_is e group.rate rows g (omega (arith, many, on.some)) on due.outputs);
        some_bus = c.some_bus;
        few_buses = c.few_buses;
        count = c.count ∙ many;
        placed = all_placed e group.rate rows g s.heading.buses s.outputs due.outputs c.placed;
        once = c.once;
        apart = c.apart;
        above = subst (λ (d : ℕ). (s.heading.buses - 1) * s.heading.frame < d) (sym cells) c.above;
        within = subst (λ (d : ℕ). d ≤ s.heading.buses * s.heading.frame) (sym cells) c.within;
        bound = plan.states ∙ ap (λ (d : ℕ). bounding d (s.heading.buses - 1) (frame g)) (sym cells) ∙ ap (bounding (stated_demand s) (s.heading.buses - 1)) (sym c.greatest);
      };
    }
  where
    bounding : ℕ → ℕ → ℕ → Bounding
    bounding d full frame = record { demand = d; full_buses = full; frame = frame }

states_fewest : (e : TableRecord) (group : GroupRow) (rows : List OutputRow) (g : DueGroup) (lines : List (List ℕ)) → FewestByDemand → IsOnGrid g → IsDueGroup e (group.rate, rows) g
    → g.name ≡ group.name → StatesAsDue e.version g lines → StatesFewest e group rows lines
states_fewest e group rows g lines by_demand on due named plan =
    let shown : StatesPlan e group rows lines = states e group rows g lines on due named plan in
    record { plan = shown; fewest = checked_is_fewest by_demand e group rows shown.stated shown.checked }

-- ---- group by group

groups_fewest : (e : TableRecord) (groups : List GroupRow) (rowss : List (List OutputRow)) (gs : List DueGroup) (lines : List (List ℕ)) → FewestByDemand → AllByRecursion IsShortList rowss
    → AllZip (IsDueGroup e) (zip (map (λ row. row.rate) groups) rowss) gs → map (λ g. g.name) gs ≡ map (λ row. row.name) groups
    → StateAsDue e.version gs lines → StateFewest e (zip groups rowss) lines
groups_fewest e [] rowss [] lines by_demand short due names plans = plans
groups_fewest e [] rowss (g ∷ gs) lines by_demand short due names plans = absurd due
groups_fewest e (row ∷ groups) [] [] lines by_demand short due names plans = plans
groups_fewest e (row ∷ groups) [] (g ∷ gs) lines by_demand short due names plans = absurd due
groups_fewest e (row ∷ groups) (rows ∷ rowss) [] lines by_demand short due names plans = absurd due
groups_fewest e (row ∷ groups) (rows ∷ rowss) (g ∷ gs) lines by_demand short due names plans =
    let named : g.name ≡ row.name = cc in
    let others : map (λ (g : DueGroup). g.name) gs ≡ map (λ (r : GroupRow). r.name) groups = cc in
    let many : length g.outputs.items ≡ length rows = AllZip-long (IsDueOutput e row.rate) rows g.outputs.items due.0.outputs in
    let rest : StateAsDue e.version gs (drop (length rows + 2) lines) = subst (λ (n : ℕ). StateAsDue e.version gs (drop (n + 2) lines)) many plans.1 in
    (states_fewest e row rows g lines by_demand (group_on_grid e row.rate rows g short.0 due.0) due.0 named plans.0, groups_fewest e groups rowss gs _ by_demand short.1 due.1 others rest)

pub shows_fewest : (e : TableRecord) (t : DueTable) (text : List ℕ) → FewestByDemand → IsSound e → IsDue e t
    → StateAsDue t.version t.groups.items (lines_of_groups t.rate (lines_of text)) → ShowsFewest e text
shows_fewest e t text by_demand sound due plans =
    let versioned : StateAsDue e.version t.groups.items (lines_of_groups t.rate (lines_of text)) =
    subst (λ (v : ℕ). StateAsDue v t.groups.items (lines_of_groups t.rate (lines_of text))) due.version plans in
    let rated : StateAsDue e.version t.groups.items (lines_of_groups e.rate (lines_of text)) =
    subst (λ (r : Option ℕ). StateAsDue e.version t.groups.items (lines_of_groups r (lines_of text))) due.rate versioned in
    groups_fewest e e.groups e.outputs t.groups.items (lines_of_groups e.rate (lines_of text)) by_demand sound.some_outputs due.groups due.names rated
