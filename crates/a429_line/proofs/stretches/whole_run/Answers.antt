use Rattle.std.proofs.Common.{◌≡◌, ap₂, sym, subst, ◌∙◌, ◌+◌, []}
use Rattle.std.specs.Simd.Lanes.{chunk}
use Rattle.a429_line.specs.Stretches.{Takes, places}
use Rattle.a429_line.specs.declared.stage.Stage.TheVariants.{Between, Within}
use Rattle.a429_line.proofs.Passed.{whole_taken}
use Rattle.a429_line.proofs.stretches.whole_run.Goals as goal

pub returns-then-ones-zeros-eq4294967295 : goal.returns-then-ones-zeros-eq4294967295
returns-then-ones-zeros-eq4294967295 c = λ nulls gap.
    let bytes = c.args.bytes.now in
    let from = c.args.from in
    let ones = c.places_of-ones.ensures.places in
    let all : places 49 (chunk from 32 bytes) + places 48 (chunk from 32 bytes) ≡ 0xffff_ffff =
    sym (ap₂ (λ a b. a + b) ones c.places_of-zeros.ensures.places) ∙ c.if-ones-zeros-eq4294967295.true in
    subst (λ raw. Takes bytes from (Between nulls) [] (from + 32) (Within 32 raw)) (sym ones) (whole_taken bytes from c.requires all nulls gap)
