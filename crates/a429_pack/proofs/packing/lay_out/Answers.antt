use Rattle.std.proofs.Common.{◌≡◌, ℕ, List, length, take, sum, arith, rules, ap, ◌∙◌, sym, subst}
use Rattle.a429_pack.specs.declared.demands.Demand.{Demand}
use Rattle.a429_pack.specs.declared.entry.Entry.{Entry}
use Rattle.a429_pack.specs.Entries.{inputs_of, demands_of}
use Rattle.a429_pack.specs.Kept.{padded}
use Rattle.a429_pack.specs.Layout.{IsLaidOut}
use Rattle.a429_pack.proofs.Packings.{packing_of, within, quotients, sound, kept_in, sum_small, length-order}
use Rattle.a429_pack.proofs.packing.lay_out.Goals as goal

pub sums_of-requires : goal.sums_of-requires
sums_of-requires g c =
    let ds : List Demand = c.args.demands.now in
    let es : List Entry = c.args.entries.now in
    let h : ℕ = c.args.frame in (
      search rules,
      (
        omega (arith, length-order ds es c.requires.order, c.requires.room),
        (
          within h ds es c.requires.order c.requires.frame,
          sum_small h (sum (demands_of h es)) c.args.needed c.requires.short c.requires.needed c.requires.few,
        ),
      ),
    )

pub invariant_of-result : goal.invariant_of-result
invariant_of-result g c =
    let ds : List Demand = c.args.demands.now in
    let es : List Entry = c.args.entries.now in
    let is : List ℕ = inputs_of es in
    let h : ℕ = c.args.frame in
    let buses : ℕ = c.args.needed in
    let p = packing_of h ds es (c.blocks_are_periodic.ensures h) c.requires.order c.requires.frame in
    let front : take (length c.sums_of.result) c.inputs_in.result ≡ is = kept_in g.row.N h es c.sums_of.result c.inputs_in.result c.sums_of.ensures c.inputs_in.ensures in
    let laid : IsLaidOut (record { frame = h; buses = buses; inputs = is; demands = demands_of h es }) =
    sound h (length ds) ds is (demands_of h es) buses p c.requires.needed c.requires.some c.requires.short c.requires.few in (
      c.inputs_in.ensures ∙ ap (padded 0 g.row.N) (sym front),
      subst (λ (xs : List ℕ). IsLaidOut (record { frame = h; buses = buses; inputs = xs; demands = c.sums_of.result })) (sym front)
          (subst (λ (xs : List ℕ). IsLaidOut (record { frame = h; buses = buses; inputs = is; demands = xs })) (sym c.sums_of.ensures) laid),
    )

pub returns-clause-inputs : goal.returns-clause-inputs
returns-clause-inputs g c = kept_in g.row.N c.args.frame c.args.entries.now c.sums_of.result c.inputs_in.result c.sums_of.ensures c.inputs_in.ensures

pub returns-clause-demands : goal.returns-clause-demands
returns-clause-demands g c = c.sums_of.ensures ∙ quotients c.args.frame c.args.demands.now c.args.entries.now c.requires.order c.requires.frame
