use Rattle.std.proofs.Common.{eqb, ◌<◌, ◌^◌, subst, sym, arith, w8}
use Rattle.std.proofs.lemmas.Simd.{bitmask_splat}
use Rattle.a429_line.proofs.Passed.{places_lt}
use Rattle.a429_line.proofs.stretches.places_of.Goals as goal

pub returns-clause-places : goal.returns-clause-places
returns-clause-places c = bitmask_splat w8 eqb c.args.run 32 c.args.byte c.fits-run.0 (omega arith)

pub returns-clause-few : goal.returns-clause-few
returns-clause-few c = subst (λ n. n < 2 ^ 32) (sym (bitmask_splat w8 eqb c.args.run 32 c.args.byte c.fits-run.0 (omega arith))) (places_lt c.args.byte c.args.run c.fits-run.0)
