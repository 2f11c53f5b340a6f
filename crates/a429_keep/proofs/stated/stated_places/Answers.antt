use Rattle.std.proofs.Common.{◌≡◌, ◌∙◌, ◌+◌, ◌++◌, ℕ, List, ap, arith, drop, length, map, refl, subst, sym, take}
use Rattle.std.proofs.lemmas.List.{length-set, take-append-le, take_all}
use Rattle.a429_slots.specs.declared.group_plan.SlotPlace.{SlotPlace}
use Rattle.a429_slots.specs.Moves.{place_in}
use Rattle.a429_slots.specs.Tables.{Placed, outputs_of}
use Rattle.a429_cert.specs.Lines.{line_at}
use Rattle.a429_cert.proofs.Walk.{line_from, rest_from}
use Rattle.a429_keep.specs.Following.{AreSetByLines, IsSetByLine, ListsOutput, listed_place, rest_lines}
use Rattle.a429_keep.proofs.StatedGroups.{set_more}
use Rattle.a429_keep.proofs.stated.stated_places.Goals as goal

pub loop-line-init : goal.loop-line-init
loop-line-init c = record { first = omega arith; set = c.in_ok-places.ensures; rest = refl }

pub put_by_line-first-requires-clause-first : goal.put_by_line-first-requires-clause-first
put_by_line-first-requires-clause-first c = c.loop-line.invariant.first

pub put_by_line-first-requires-clause-line : goal.put_by_line-first-requires-clause-line
put_by_line-first-requires-clause-line c =
    let lines = rest_lines c.args.lines.now in
    let i : ℕ = c.loop-line._line in
    let text : c.next_line-text.result.now ≡ line_at lines i
    = c.next_line-text.ensures.line ∙ ap (λ (ls : List (List ℕ)). line_at ls 0) c.loop-line.invariant.rest ∙ line_from lines i in
    subst (ListsOutput c.args.version c.args.sources.now c.args.rows.now) (sym text) (c.requires.lines i (omega arith))

pub loop-line-preserved : goal.loop-line-preserved
loop-line-preserved c =
    let lines = rest_lines c.args.lines.now in
    let i : ℕ = c.loop-line._line in
    let o : ℕ = c.put_by_line-first.result in
    let old : List SlotPlace = c.loop-line.places.items in
    let new : List SlotPlace = c.put_by_line-first.new.places in
    let own : List SlotPlace = map (λ (x : Placed). x.place) (outputs_of c.args.table.now) in
    let before = c.loop-line.invariant in
    let text : c.next_line-text.result.now ≡ line_at lines i
    = c.next_line-text.ensures.line ∙ ap (λ (ls : List (List ℕ)). line_at ls 0) before.rest ∙ line_from lines i in
    let by_text : IsSetByLine c.args.version c.args.sources.now c.args.rows.now (line_at lines i) c.deref_mut.result.now new o =
    subst (λ (l : List ℕ). IsSetByLine c.args.version c.args.sources.now c.args.rows.now l c.deref_mut.result.now new o) text c.put_by_line-first.ensures.set in
    let S : IsSetByLine c.args.version c.args.sources.now c.args.rows.now (line_at lines i) old new o =
    subst (λ (ps : List SlotPlace). IsSetByLine c.args.version c.args.sources.now c.args.rows.now (line_at lines i) ps new o) c.deref_mut.ensures.value by_text in
    let long : length new ≡ c.loop-line.places.len = ap length S.set ∙ length-set old o (listed_place (place_in old o) S.listing) ∙ sym c.loop-line.places.ok.0 in
    let all : take c.loop-line.places.len (new ++ drop (length new) old) ≡ new
    = take-append-le c.loop-line.places.len new (drop (length new) old) (omega (arith, long)) ∙ take_all c.loop-line.places.len new (omega (arith, long)) in
    record {
      first = omega (arith, c.put_by_line-first.ensures.known);
      set = subst (λ (ps : List SlotPlace). AreSetByLines c.args.version c.args.sources.now c.args.rows.now lines own (i + 1) ps) (sym all)
          (set_more c.args.version c.args.sources.now c.args.rows.now lines own old new i o before.set S);
      rest = c.next_line-text.ensures.rest ∙ ap (drop 1) before.rest ∙ rest_from lines i;
    }
