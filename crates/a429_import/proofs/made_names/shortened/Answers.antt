use Rattle.std.proofs.Common.{◌≡◌, ◌∙◌, ◌+◌, ◌++◌, List, ℕ, [], ap, arith, drop, false, sym, take}
use Rattle.std.proofs.lemmas.List.{append-nil, at_drop_more, drop_all}
use Rattle.a429_import.specs.MadeNames.{dashed, without_last_dash}
use Rattle.a429_import.proofs.made_names.shortened.Goals as goal

pub loop-byte-init : goal.loop-byte-init
loop-byte-init c = ap (λ (name : List ℕ). name ++ dashed false c.from_kept-kept.result.now) c.new-name.ensures.items

pub loop-byte-preserved : goal.loop-byte-preserved
loop-byte-preserved c =
    let kept : List ℕ = c.from_kept-kept.result.now in
    c.in_ok-is_apart.ensures (drop (c.loop-byte.byte-index + 1) kept)
    ∙ sym (at_drop_more (λ (text : List ℕ). c.loop-byte.name.items ++ dashed c.loop-byte.is_apart text) kept c.loop-byte.byte-index _ c.loop-byte-test.true) ∙ c.loop-byte.invariant

pub returns : goal.returns
returns c =
    let kept : List ℕ = c.from_kept-kept.result.now in
    let name : List ℕ = c.loop-byte.name.items in
    let rest : drop c.loop-byte.byte-index kept ≡ [] = drop_all c.loop-byte.byte-index kept (omega arith) in
    let all : name ≡ dashed false kept = sym (append-nil name) ∙ ap (λ (xs : List ℕ). name ++ dashed c.loop-byte.is_apart xs) (sym rest) ∙ c.loop-byte.invariant in
    c.cut.ensures ∙ ap (λ (xs : List ℕ). without_last_dash (take 16 xs)) (all ∙ ap (dashed false) c.from_kept-kept.ensures)
