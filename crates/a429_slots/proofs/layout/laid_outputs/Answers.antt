use prog.Memory.{size}
use denote.Param.{layout, number, param}
use Rattle.a429_pack.specs.contracts.sums.SumTable.{the_row}
use Rattle.std.proofs.Common.{◌≡◌, ◌<◌, ◌∙◌, ◌^◌, ℕ, List, ap, arith, get_or, length, map, sym}
use Rattle.std.specs.List.{range_with_len}
use Rattle.std.proofs.lemmas.List.{take_all}
use Rattle.std.proofs.lemmas.List.Sorted.{length_permutation}
use Rattle.std.proofs.lemmas.List.FromFn.{get_or-range_with_len, length-range_with_len}
use Rattle.a429_pack.specs.Kept.{padded}
use Rattle.a429_pack.specs.Layout.{Layout}
use Rattle.a429_pack.specs.Sums.{start_of}
use Rattle.a429_slots.specs.declared.group_plan.LaidOutput.{LaidOutput}
use Rattle.a429_slots.specs.Laid.{laid_at, nothing_laid}
use Rattle.a429_slots.proofs.Columns.{mapped_more}
use Rattle.a429_slots.proofs.layout.laid_outputs.Goals as goal
use Rattle.a429_slots.proofs.layout.laid_outputs.Goals.{Start}

-- the running sums take less than half of the addresses, as the layout that they are a part of
sums_fit : (g : _) → Start g → size (layout (the_row (param 0 (number g.row.N)))) < 2 ^ 63
sums_fit g c = omega arith

pub start-requires : goal.start-requires
start-requires g c =
    let ds : List ℕ = c.args.packed.now.demands in
    let all : length c.args.packed.now.inputs ≡ length ds =
    length_permutation (range_with_len 0 (length ds)) c.args.packed.now.inputs c.sums.ensures.laid_out.inputs ∙ length-range_with_len 0 (length ds) in
    (sums_fit g c.before.before.before.before.before, omega (arith, ap length c.sums.ensures.value, all))

same_laid : (a b x y : ℕ) → a ≡ b → x ≡ y → ◌≡◌ {A = LaidOutput} (record { output = a; begin = x }) (record { output = b; begin = y })
same_laid a b x y outputs begins = λ i. record { output = outputs i; begin = begins i }

pub loop-place-preserved : goal.loop-place-preserved
loop-place-preserved g c =
    let l : Layout = c.args.packed.now in
    let places : List ℕ = range_with_len 0 (length l.inputs) in
    let here : get_or places c.loop-place.place 0 ≡ c.loop-place.place = get_or-range_with_len 0 (length l.inputs) c.loop-place.place 0 (omega arith) ∙ omega arith in
    mapped_more nothing_laid g.row.N (laid_at l) c.loop-place.laid places c.loop-place.place (record { output = c.input.result; begin = c.start.result }) 0 (omega arith)
    (omega (arith, length-range_with_len 0 (length l.inputs))) c.loop-place.invariant
    (same_laid _ _ _ _ c.input.ensures.value (c.start.ensures ∙ ap (λ (xs : List ℕ). start_of xs c.loop-place.place) c.sums.ensures.value) ∙ ap (laid_at l) (sym here))

pub returns : goal.returns
returns g c =
    let places : List ℕ = range_with_len 0 (length c.args.packed.now.inputs) in
    c.loop-place.invariant ∙ ap (λ (xs : List ℕ). padded nothing_laid g.row.N (map (laid_at c.args.packed.now) xs)) (take_all c.loop-place.place places (omega (arith, length-range_with_len 0 (length c.args.packed.now.inputs))))
