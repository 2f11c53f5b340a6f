use Rattle.std.proofs.Common.{◌≡◌, ◌∙◌, ◌-◌, ◌^◌, ◌<◌, ◌≤◌, ◌++◌, ◌∷◌, [], ℕ, List, ap, arith, length, sum, sym, take}
use Rattle.std.proofs.lemmas.List.{length-map, length-take-le}
use Rattle.a429_pack.proofs.Tables.{sum-push}
use Rattle.a429_slots.specs.Kept.{steps_from}
use Rattle.a429_slots.specs.Moves.{block_at}
use Rattle.a429_slots.specs.declared.moves.Block.{Block}
use Rattle.a429_slots.proofs.Moving.{apart_more, ends_of, last_more, overlap, steps_more}
use Rattle.a429_slots.proofs.Stretches.{length-steps}
use Rattle.a429_slots.proofs.moves.stretches_of.Goals as goal

pub loop-block-init : goal.loop-block-init
loop-block-init g c = record { sums = c.new-sums.ensures; total = ap sum c.new-sums.ensures; apart = λ k none. absurd (omega (arith, none)) }

pub returns-then-block-total-clause-overlap : goal.returns-then-block-total-clause-overlap
returns-then-block-total-clause-overlap g c none =
    overlap c.args.blocks.now c.loop-block.block-index c.total.result c.loop-block-test.true (c.total.ensures ∙ c.loop-block.invariant.total) c.if-block-total.true

count : (blocks : List Block) (i : ℕ) → i ≤ length blocks → length (steps_from 0 (ends_of (take i blocks))) ≡ i
count blocks i few = length-steps 0 (ends_of (take i blocks)) ∙ length-map (take i blocks) (λ (b : Block). b.end) ∙ length-take-le i blocks few

pub push-requires : goal.push-requires
push-requires g c =
    let i : ℕ = c.loop-block.block-index in
    let b : Block = block_at c.args.blocks.now i in
    let below : i < length c.args.blocks.now = c.loop-block-test.true in
    let some : b.begin < b.end = c.requires.some i _ below in
    let few : b.end < 2 ^ 32 = c.requires.few i _ below in
    (assumption, (omega (arith, ap length c.loop-block.invariant.sums, count c.args.blocks.now i (omega (arith, below)), c.requires.room, below), (omega (arith, some, c.total-in-loop-block.ensures, c.total.ensures, c.if-block-total.false), omega (arith, few, c.total-in-loop-block.ensures, c.total.ensures, c.if-block-total.false, some))))

pub loop-block-preserved : goal.loop-block-preserved
loop-block-preserved g c =
    let i : ℕ = c.loop-block.block-index in
    let blocks : List Block = c.args.blocks.now in
    let b : Block = block_at blocks i in
    let below : i < length blocks = c.loop-block-test.true in
    let total : c.total-in-loop-block.result ≡ sum c.loop-block.sums = c.total-in-loop-block.ensures in
    let some : b.begin < b.end = c.requires.some i _ below in
    let is : c.push.new.self ≡ c.loop-block.sums ++ (b.end - c.total-in-loop-block.result) ∷ [] = c.push.ensures in
    record {
      sums = is
          ∙ ap (λ (zs : List ℕ). zs ++ (b.end - c.total-in-loop-block.result) ∷ []) c.loop-block.invariant.sums
          ∙ sym (steps_more blocks i c.total-in-loop-block.result below (total ∙ c.loop-block.invariant.total));
      total = ap sum is ∙ sum-push c.loop-block.sums (b.end - c.total-in-loop-block.result) ∙ omega (arith, total, some, c.total.ensures, c.if-block-total.false) ∙ sym (last_more blocks i below);
      apart = apart_more blocks i c.total.result below (c.total.ensures ∙ c.loop-block.invariant.total) c.if-block-total.false c.loop-block.invariant.apart;
    }
