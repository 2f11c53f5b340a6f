-- Plans of a station send only its sources, and stay in order when one more is published.
use Rattle.std.proofs.Common.{◌≡◌, ℕ, zero, suc, ◌+◌, ◌<◌, ◌≤◌, ◌^◌, true, List, [], ◌∷◌, ◌++◌, length, map, ◌∙◌, sym, ap, subst, refl, arith, append-nil, append_assoc}
use Rattle.std.specs.Prelude.{Some, IsTrue, slice_get, ◌==◌, ◌&&◌}
use Rattle.std.specs.List.{AllByRecursion, AllZip, zip}
use Rattle.std.proofs.lemmas.Bool.{and_parts, eqb-true}
use Rattle.std.proofs.lemmas.List.{length-append, map-append}
use Rattle.std.proofs.lemmas.Option.{none-some, same_Some}
use Rattle.a429_word.proofs.Lists.{all_push}
use Rattle.a429_equipment.specs.TableRecord.{TableRecord}
use Rattle.a429_equipment.specs.Sound.{HaveOwnSources, IsSound}
use Rattle.a429_equipment.specs.SameStation.{same_station, all_agree, same_receiver, same_source, same_group}
use Rattle.a429_equipment.specs.declared.rows.GroupRow.{GroupRow}
use Rattle.a429_equipment.specs.declared.rows.OutputRow.{OutputRow}
use Rattle.a429_equipment.specs.declared.rows.SourceRow.{SourceRow}
use Rattle.a429_slots.specs.Tables.{SlotTable, PlanTable, frame_of, groups_of}
use Rattle.a429_slots.specs.Planned.{IsPlannedAt, IsPlanOf, rated_outputs}
use Rattle.a429_slots.specs.Proposed.{Proposed}
use Rattle.a429_slots.specs.Spacing.{IsOwnPlan, IsSpacedTable, PlannedTablesAreSpaced}
use Rattle.a429_board.specs.Lists.{Planning, numbered}
use Rattle.a429_workers.specs.Runs.{ArePublished, plans_of}
use Rattle.a429_workers.specs.SentWords.{IsSpacedPlan}
use Rattle.a429_workers.specs.Transmitting.{IsKnownPlan}
use Rattle.a429_board.specs.Refused.{IsWhy}
use Rattle.a429_board.specs.declared.planner.BoardFault.{BoardFault}
use Rattle.a429_board.specs.declared.planner.BoardFault.TheVariants.{CountSpent, NoMemory}
use Rattle.a429_station.specs.Resubmitting.{GoesOn, HasFewSlots, IsLed, IsPlanned, IsReplanFault, Publishes, Running, of_board, opening}
use Rattle.a429_workers.proofs.Known.{plan_known}

-- ---- sources

same_sources : (a b : TableRecord) → same_station a b ≡ true → length a.sources ≡ length b.sources
unfolding same_station
same_sources a b h =
    let more = (and_parts (all_agree same_receiver a.receivers b.receivers) (all_agree same_source a.sources b.sources && all_agree same_group a.groups b.groups) h).1 in
    let sources = (and_parts (all_agree same_source a.sources b.sources) (all_agree same_group a.groups b.groups) more).0 in
    eqb-true (length a.sources) (length b.sources) (and_parts (length a.sources == length b.sources) _ sources).0

-- ---- slots

tables_small : (sources : List SourceRow) (rated : List (ℕ × List OutputRow)) (ts : List SlotTable) → AllZip (IsPlannedAt sources) rated ts → AllByRecursion (λ t. frame_of t ≤ 8192) ts
tables_small sources [] [] planned = tt
tables_small sources [] (u ∷ ts) planned = absurd planned
tables_small sources (r ∷ rated) [] planned = absurd planned
tables_small sources (r ∷ rated) (u ∷ ts) planned = (planned.0.few_slots, tables_small sources rated ts planned.1)

pub plan_small : (e : TableRecord) (p : PlanTable) → IsPlanOf e p → HasFewSlots p
plan_small e p planned = tables_small e.sources (rated_outputs e) (groups_of p) planned.groups

-- ---- spacing

module _ (law : PlannedTablesAreSpaced) where
  tables_spaced : (sources : List SourceRow) (rates : List ℕ) (rowss : List (List OutputRow)) (ts : List SlotTable) → AllZip (IsPlannedAt sources) (zip rates rowss) ts → AllByRecursion HaveOwnSources rowss
      → AllByRecursion IsSpacedTable ts
  tables_spaced sources [] rowss [] planned own = tt
  tables_spaced sources [] rowss (u ∷ ts) planned own = absurd planned
  tables_spaced sources (rate ∷ rates) [] [] planned own = tt
  tables_spaced sources (rate ∷ rates) [] (u ∷ ts) planned own = absurd planned
  tables_spaced sources (rate ∷ rates) (rows ∷ rowss) [] planned own = absurd planned
  tables_spaced sources (rate ∷ rates) (rows ∷ rowss) (u ∷ ts) planned own = (law rate sources rows u planned.0 own.0, tables_spaced sources rates rowss ts planned.1 own.1)

  plan_spaced : (e : TableRecord) (p : PlanTable) → AllZip (IsPlannedAt e.sources) (rated_outputs e) (groups_of p) → AllByRecursion HaveOwnSources e.outputs → IsSpacedPlan p
  plan_spaced e p planned own = tables_spaced e.sources (map (λ (g : GroupRow). g.rate) e.groups) e.outputs (groups_of p) planned own

  later_spaced : (later : List Proposed) → AllByRecursion IsOwnPlan later → AllByRecursion IsSpacedPlan (map (λ (q : Proposed). q.plan) later)
  later_spaced [] own = tt
  later_spaced (q ∷ later) own = (plan_spaced q.station q.plan own.0.plan.groups own.0.own, later_spaced later own.1)

  pub plans_spaced : (t : TableRecord) (opened : PlanTable) (later : List Proposed) → IsPlanOf t opened → AllByRecursion HaveOwnSources t.outputs → AllByRecursion IsOwnPlan later
      → AllByRecursion IsSpacedPlan (plans_of (opening t opened) later)
  plans_spaced t opened later planned own all = (plan_spaced t opened planned.groups own, later_spaced later all)

-- ---- the planner's list

numbered_on : (base : ℕ) (later : List Proposed) (q : Proposed) → ((k : ℕ) (x : Proposed) → slice_get later k ≡ Some x → x.plan.number ≡ base + (k + 1)) → q.plan.number ≡ base + (length later + 1)
    → (k : ℕ) (x : Proposed) → slice_get (later ++ q ∷ []) k ≡ Some x → x.plan.number ≡ base + (k + 1)
numbered_on base [] q each next zero x h = let same : q ≡ x = same_Some q x h in ap (λ (y : Proposed). y.plan.number) (sym same) ∙ next
numbered_on base [] q each next (suc k) x h = absurd (none-some x h)
numbered_on base (y ∷ ys) q each next zero x h = each zero x h
numbered_on base (y ∷ ys) q each next (suc k) x h =
    let on = numbered_on (base + 1) ys q (λ j z e. let was = each (suc j) z e in omega (arith, was)) (omega (arith, next)) k x h in
    omega (arith, on)

-- if the board begins with the station's plan
pub led_first : (t : TableRecord) (v : Planning) → IsSound t → IsPlanOf t v.last → v.list ≡ v.last ∷ [] → IsLed (record { station = t; planner = v })
led_first t v sound planned first = record {
  opened = v.last;
  later = [];
  plans = first;
  published = record { of_station = tt; numbered = λ k q h. absurd (none-some q h); countable = omega (arith, planned.number) };
  own = tt;
  own_sources = sound.own_sources;
  last = omega arith;
  known = subst (AllByRecursion (IsKnownPlan t)) (sym first) (plan_known t t v.last refl sound planned, tt);
  small = subst (AllByRecursion HasFewSlots) (sym first) (plan_small t v.last planned, tt);
}

-- a plan of a sound table is its own, under any number
own_but_number : (e : TableRecord) (p : PlanTable) (n : ℕ) → IsSound e → IsPlanOf e p → IsOwnPlan (record { station = e; plan = numbered p n })
own_but_number e p n sound planned = record { plan = record { number = refl; count = planned.count; groups = planned.groups }; own = sound.own_sources }

-- if one more is published
pub led_on : (old new : Running) (bytes : List ℕ) (n : ℕ) (P : Publishes old bytes n new) → n < 2 ^ 64 → IsLed old → IsLed new
led_on old new bytes n P fits L =
    let q : Proposed = record { station = P.of.record_of; plan = numbered P.of.plan n } in
    let o = opening old.station L.opened in
    let plans : new.planner.list ≡ plans_of o (L.later ++ q ∷ []) =
    P.list ∙ (ap (λ (l : List PlanTable). l ++ q.plan ∷ []) L.plans ∙ ap (λ (l : List PlanTable). L.opened ∷ l) (sym (map-append (λ (x : Proposed). x.plan) L.later (q ∷ [])))) in
    let next : n ≡ L.opened.number + (length L.later + 1) = P.next ∙ omega (arith, L.last) in
    let long : length (L.later ++ q ∷ []) ≡ length L.later + 1 = length-append L.later (q ∷ []) in
    let last : new.planner.last.number ≡ n = ap (λ (p : PlanTable). p.number) P.last in
    let station = P.station in
    record {
      opened = L.opened;
      later = L.later ++ q ∷ [];
      plans = subst (λ (t : TableRecord). new.planner.list ≡ plans_of (opening t L.opened) (L.later ++ q ∷ [])) (sym station) plans;
      published = subst (λ (t : TableRecord). ArePublished (opening t L.opened) (L.later ++ q ∷ [])) (sym station) (record {
        of_station = all_push (λ (x : Proposed). IsTrue (same_station old.station x.station)) L.later q L.published.of_station P.same;
        numbered = numbered_on L.opened.number L.later q L.published.numbered next;
        countable = omega (arith, long, next, fits);
      });
      own = all_push IsOwnPlan L.later q L.own (own_but_number P.of.record_of P.of.plan n P.of.sound P.of.planned);
      own_sources = subst (λ (t : TableRecord). AllByRecursion HaveOwnSources t.outputs) (sym station) L.own_sources;
      last = omega (arith, last, next, long);
      known = subst (λ (t : TableRecord). AllByRecursion (IsKnownPlan t) new.planner.list) (sym station) (
          subst (AllByRecursion (IsKnownPlan old.station)) (sym P.list) (
          all_push (IsKnownPlan old.station) old.planner.list (numbered P.of.plan n) L.known (plan_known old.station P.of.record_of P.of.plan (same_sources old.station P.of.record_of P.same) P.of.sound P.of.planned)));
      small = subst (AllByRecursion HasFewSlots) (sym P.list) (all_push HasFewSlots old.planner.list (numbered P.of.plan n) L.small (plan_small P.of.record_of P.of.plan P.of.planned));
    }

-- ---- plans follow one another

pub GoesOn-refl : (v : Running) → GoesOn v v
GoesOn-refl v = record { station = refl; book = refl; plans = ([], append-nil v.planner.list) }

pub goes_further : (u v w : Running) → GoesOn u v → GoesOn v w → GoesOn u w
goes_further u v w p q = record {
  station = q.station ∙ p.station;
  book = q.book ∙ p.book;
  plans = (p.plans.0 ++ q.plans.0, sym (append_assoc u.planner.list p.plans.0 q.plans.0) ∙ (ap (λ (l : List PlanTable). l ++ q.plans.0) p.plans.1 ∙ q.plans.1));
}

pub one_further : (old new : Running) (bytes : List ℕ) (n : ℕ) → Publishes old bytes n new → GoesOn old new
one_further old new bytes n P = record { station = P.station; book = P.book; plans = (numbered P.of.plan n ∷ [], sym P.list) }

-- ---- a table that is submitted again

-- its plan was published
pub publishes : (old new : Running) (bytes : List ℕ) (of : IsPlanned bytes) (p : PlanTable) (n : ℕ) → same_station old.station of.record_of ≡ true → p ≡ of.plan
    → n ≡ old.planner.last.number + 1 → new.planner.list ≡ old.planner.list ++ numbered p n ∷ [] → new.planner.last ≡ numbered p n → new.planner.book ≡ old.planner.book → new.station ≡ old.station
    → Publishes old bytes n new
publishes old new bytes of p n same is next list last book station = record {
  of = of;
  same = same;
  next = next;
  list = list ∙ ap (λ (q : PlanTable). old.planner.list ++ numbered q n ∷ []) is;
  last = last ∙ ap (λ (q : PlanTable). numbered q n) is;
  book = book;
  station = station;
}

-- it was not
pub refused : (v : Running) (bytes : List ℕ) (of : IsPlanned bytes) → same_station v.station of.record_of ≡ true → (f : BoardFault) → IsWhy f v.planner.last.number → IsReplanFault v bytes (of_board f)
refused v bytes of same CountSpent why = (of, same, why)
refused v bytes of same NoMemory why = tt
