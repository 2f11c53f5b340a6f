use Rattle.std.proofs.Common.{◌≡◌, ◌+◌, ◌<◌, ℕ, List, [], Option, Result, arith, get_or, length, refl, subst, sym, take}
use Rattle.std.specs.Prelude.{IfErr, IsErrAnd, MatchOption, Err, Ok, Some, slice_get}
use Rattle.std.specs.List.{AllByRecursion, AllZip}
use Rattle.std.proofs.lemmas.List.{take_all}
use Rattle.std.proofs.lemmas.Option.{slice_get-get_or}
use Rattle.std.proofs.lemmas.Result.{IfOk-from_err}
use Rattle.a429_word.proofs.Lists.{all_at, zip_next}
use Rattle.a429_grid.specs.Grid.{HasNoGridPeriod}
use Rattle.a429_equipment.specs.TableRecord.{TableRecord}
use Rattle.a429_equipment.specs.declared.rows.OutputRow.{OutputRow}
use Rattle.a429_slots.proofs.Rows.{blank}
use Rattle.a429_cert.specs.declared.due.DueOutput.{DueOutput}
use Rattle.a429_cert.specs.declared.judging.NoVerdict.{NoVerdict}
use Rattle.a429_cert.specs.declared.judging.NoVerdict.TheVariants as judge
use Rattle.a429_cert.specs.Judged.{IsGroupUnfit}
use Rattle.a429_cert.specs.Due.{IsDueOutput}
use Rattle.a429_cert.proofs.Gathered.{fits_of}
use Rattle.a429_cert.proofs.due.due_outputs.Goals as goal

-- an allocation that failed says nothing of the outputs
memory_is_no_unfit : {A : Type 0} (e : TableRecord) (rate g : ℕ) (r : Result A NoVerdict) → IsErrAnd r (λ none. none ≡ judge.NoMemory) → IfErr r (IsGroupUnfit e rate g)
memory_is_no_unfit e rate g (Ok x) h = tt
memory_is_no_unfit e rate g (Err judge.NoMemory) h = tt
memory_is_no_unfit e rate g (Err (judge.Unfit group o)) h = absurd cc

pub returns-in-None-clause-fault : goal.returns-in-None-clause-fault
returns-in-None-clause-fault c =
    let e : TableRecord = c.args.equipment.now in
    let rows : List OutputRow = c.outputs-rows.result.now in
    let row : OutputRow = get_or rows c.loop-output.output blank in
    let unfit : HasNoGridPeriod row.min_us row.max_us c.args.rate = subst (λ (found : Option DueOutput). MatchOption found (HasNoGridPeriod row.min_us row.max_us c.args.rate) (IsDueOutput e c.args.rate row)) c.in-None.is c.due_output.ensures in (
      refl,
      (
        rows,
        c.outputs-rows.ensures.rows,
        record {
          row = row;
          there = slice_get-get_or rows c.loop-output.output blank (omega arith);
          unfit = unfit;
          earlier = fits_of e c.args.rate (take c.loop-output.output rows) c.loop-output.outputs.items c.loop-output.invariant;
        },
      ),
    )

pub loop-output-preserved : goal.loop-output-preserved
loop-output-preserved c =
    let e : TableRecord = c.args.equipment.now in
    let rows : List OutputRow = c.outputs-rows.result.now in
    let row : OutputRow = get_or rows c.loop-output.output blank in
    let there : slice_get rows c.loop-output.output ≡ Some row = slice_get-get_or rows c.loop-output.output blank (omega arith) in
    let is_due : IsDueOutput e c.args.rate row c.in-Some.due = subst (λ (found : Option DueOutput). MatchOption found (HasNoGridPeriod row.min_us row.max_us c.args.rate) (IsDueOutput e c.args.rate row)) c.in-Some.is c.due_output.ensures in
    subst (λ (os : List DueOutput). AllZip (IsDueOutput e c.args.rate) (take (c.loop-output.output + 1) rows) os) (sym c.in_ok-push-in-Some.ensures.items)
    (zip_next (IsDueOutput e c.args.rate) rows c.loop-output.outputs.items c.loop-output.output row c.in-Some.due there c.loop-output.invariant is_due)

pub outputs-rows-requires : goal.outputs-rows-requires
outputs-rows-requires c = c.requires

pub loop-output-init : goal.loop-output-init
loop-output-init c = subst (λ (os : List DueOutput). AllZip (IsDueOutput c.args.equipment.now c.args.rate) [] os) (sym c.new-outputs.ensures.items) tt

pub bounds-rows-output : goal.bounds-rows-output
bounds-rows-output c = c.loop-output-test.true

pub due_output-requires : goal.due_output-requires
due_output-requires c =
    let e : TableRecord = c.args.equipment.now in
    let rows : List OutputRow = c.outputs-rows.result.now in
    let known : AllByRecursion (λ o. o.source < length e.sources) rows =
    all_at (AllByRecursion (λ o. o.source < length e.sources)) e.outputs c.args.group rows c.rows_are_sound.ensures.known_sources c.outputs-rows.ensures.rows in
    all_at (λ (o : OutputRow). o.source < length e.sources) rows c.loop-output.output (get_or rows c.loop-output.output blank) known (slice_get-get_or rows c.loop-output.output blank c.loop-output-test.true)

pub returns-in_err-push-in-Some-clause-due : goal.returns-in_err-push-in-Some-clause-due
returns-in_err-push-in-Some-clause-due c = IfOk-from_err _ _ c.from_residual.ensures.0

pub returns-in_err-push-in-Some-clause-fault : goal.returns-in_err-push-in-Some-clause-fault
returns-in_err-push-in-Some-clause-fault c = memory_is_no_unfit c.args.equipment.now c.args.rate c.args.group c.from_residual.result c.from_residual.ensures.1

pub returns-in-None-clause-due : goal.returns-in-None-clause-due
returns-in-None-clause-due c = tt

pub returns-clause-due : goal.returns-clause-due
returns-clause-due c =
    let rows : List OutputRow = c.outputs-rows.result.now in (
      rows,
      c.outputs-rows.ensures.rows,
      subst (λ (rs : List OutputRow). AllZip (IsDueOutput c.args.equipment.now c.args.rate) rs c.loop-output.outputs.items) (take_all c.loop-output.output rows c.loop-output-test.false) c.loop-output.invariant,
    )

pub returns-clause-fault : goal.returns-clause-fault
returns-clause-fault c = tt
