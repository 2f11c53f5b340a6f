use Rattle.std.proofs.Common.{◌≡◌, ◌∙◌, ℕ, Bool, List, true, ap, ap₂, arith, subst, sym, map}
use Rattle.std.specs.Prelude.{Some, slice_get}
use Rattle.std.specs.List.{list_all}
use Rattle.a429_slots.specs.declared.group_plan.SlotPlace.{SlotPlace}
use Rattle.a429_slots.specs.Moves.{AreFor}
use Rattle.a429_slots.specs.Tables.{PlanTable, SlotTable, buses_of, frame_of, groups_of}
use Rattle.a429_keep.specs.KeptPlans.{are_inside, is_inside}
use Rattle.a429_keep.specs.Rows.{row_view}
use Rattle.a429_keep.proofs.KeptGroups.{are_for}
use Rattle.a429_keep.proofs.keeping.keep_group.Goals as goal

-- the test of the places, as it was asked for
tested : (t : SlotTable) (buses slots : ℕ) (seen places : List SlotPlace) (r : Bool) → buses ≡ buses_of t → slots ≡ frame_of t → seen ≡ places → r ≡ list_all (is_inside buses slots) seen → r ≡ are_inside t places
tested t buses slots seen places r first second third is =
    is ∙ ap (λ (ps : List SlotPlace). list_all (is_inside buses slots) ps) third ∙ ap₂ (λ (b s : ℕ). list_all (is_inside b s) places) first second

pub place-requires : goal.place-requires
place-requires c =
    let t : SlotTable = c.group-table.result.now in
    let places : List SlotPlace = c.in_ok-places.places.items in
    let there : slice_get (groups_of c.args.proposal.now.plan) c.args.group ≡ Some t = ap (λ (p : PlanTable). slice_get (groups_of p) c.args.group) (sym c.plan.ensures.plan) ∙ c.group-table.ensures in
    let test : c.are_inside.result ≡ are_inside t places = tested t c.buses.result c.frame.result c.deref.result.now places c.are_inside.result c.buses.ensures.value c.frame.ensures.value c.deref.ensures.value c.are_inside.ensures in
    let passed : are_inside t places ≡ true = sym test ∙ c.if-not-are_inside.false in
    (omega arith, (subst (AreFor c.args.proposal.now.plan c.args.group) (sym c.deref-2.ensures.value) (are_for (map row_view c.args.rows.now) c.args.proposal.now c.args.group t places c.in_ok-places.ensures there passed), omega arith))
