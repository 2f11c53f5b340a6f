use Rattle.std.proofs.Common.{◌≡◌, ◌∙◌, ◌+◌, ◌<◌, ℕ, List, length, get_or, ap, arith, sym}
use Rattle.std.specs.Prelude.{Some, nat_lt, slice_set}
use Rattle.std.specs.Option.{option_map_or}
use Rattle.std.proofs.lemmas.Bool.{lt-ltb, le-ltb}
use Rattle.std.proofs.lemmas.List.{set-get_or}
use Rattle.a429_word.proofs.Lists.{read_is}
use Rattle.a429_core.specs.declared.sources.Kept.{Kept}
use Rattle.a429_core.specs.MachineSteps.{count_at}
use Rattle.a429_core.proofs.sources.keep.Goals as goal

count_is : (ks : List Kept) (i : ℕ) (kept : Kept) → i < length ks → kept ≡ get_or ks i kept → kept.count ≡ count_at ks i
count_is ks i kept inside read = sym (ap (λ x. option_map_or (λ (k : Kept). k.count) x 0) (read_is ks i kept inside read))

pub overflow_add-kept : goal.overflow_add-kept
overflow_add-kept c = record { fits = omega (arith, c.ranges.limit.fits) }

pub returns-then-kept-limit-clause-room : goal.returns-then-kept-limit-clause-room
returns-then-kept-limit-clause-room c =
    let kept = c.index_mut-kept.result.now in
    sym (le-ltb kept.count c.args.limit c.if-kept-limit.true)
    ∙ ap (λ (n : ℕ). nat_lt n c.args.limit) (count_is c.args.sources.now.items c.args.source kept c.requires c.index_mut-kept.ensures.value)

pub returns-then-kept-limit-clause-kept : goal.returns-then-kept-limit-clause-kept
returns-then-kept-limit-clause-kept c =
    let kept = c.index_mut-kept.result.now in
    ap (slice_set c.args.sources.now.items c.args.source) c.index_mut-kept.ensures.value ∙ set-get_or c.args.sources.now.items c.args.source kept

pub returns-clause-room : goal.returns-clause-room
returns-clause-room c =
    let kept = c.index_mut-kept.result.now in
    sym (lt-ltb kept.count c.args.limit c.if-kept-limit.false)
    ∙ ap (λ (n : ℕ). nat_lt n c.args.limit) (count_is c.args.sources.now.items c.args.source kept c.requires c.index_mut-kept.ensures.value)

pub returns-clause-kept : goal.returns-clause-kept
returns-clause-kept c =
    let sources = c.args.sources.now.items in
    let kept = c.index_mut-kept.result.now in
    ap (λ (n : ℕ). slice_set sources c.args.source (record { count = n + 1; last = Some c.args.word })) (count_is sources c.args.source kept c.requires c.index_mut-kept.ensures.value)
