use Rattle.std.proofs.Common.{◌≡◌, ◌∙◌, ◌∷◌, [], ℕ, List, Bor, ap, drop, get_or, inl, map, append-nil, ◌+◌}
use Rattle.std.specs.Prelude.{Err}
use Rattle.std.proofs.Math.ListN.{drop_of_length-le}
use Rattle.std.proofs.lemmas.List.{drop_more, map-append}
use Rattle.std.proofs.lemmas.Result.{err_from_is_err_and}
use Rattle.a429_console.proofs.ReadingParts.{read_then, read_weaker}
use Rattle.a429_console.specs.FileReadings.{IsFileRefusalIn, IsFirstUnreadIn}
use Rattle.a429_console.specs.RefusalText.{OrMemory}
use Rattle.a429_console.specs.declared.refusals.CommandRefusal.TheVariants as refused
use Rattle.a429_console.proofs.Refused.{or_memory_weaker, failed}
use Rattle.a429_console.proofs.SoFar.{one_more}
use Rattle.a429_console.proofs.files.reading.read_all_up_to.Goals as goal

abbrev none : Bor (List ℕ)
none = record { ref_ptr = (0, 0); now = [] }

pub loop-name-preserved : goal.loop-name-preserved
loop-name-preserved g c =
    let names = map (λ (n : Bor (List ℕ)). n.now) c.args.names.now in
    let name = get_or c.args.names.now c.loop-name.name-index none in
    let left = drop (c.loop-name.name-index + 1) c.args.names.now in
    let more : drop c.loop-name.name-index c.args.names.now ≡ name ∷ left = drop_more c.args.names.now c.loop-name.name-index none c.loop-name-test.true in
    read_then c.loop-name.invariant c.in_ok-read_up_to.ensures
    (λ file so_far is. rw (c.in_ok-push.ensures.items, map-append) (one_more c.args.most names (map (λ n. n.now) left) (map g.C.Contents.text c.loop-name.all.items) name.now (g.C.Contents.text c.in_ok-read_up_to.field-0) file (rw more at so_far) is))

pub returns-in_err-read_up_to : goal.returns-in_err-read_up_to
returns-in_err-read_up_to g c =
    let names = map (λ (n : Bor (List ℕ)). n.now) c.args.names.now in
    let name = get_or c.args.names.now c.loop-name.name-index none in
    let e = c.in_err-read_up_to.field-0.0 in
    let p = err_from_is_err_and c.from_residual.result c.from_residual.ensures.1 in
    let more = drop_more c.args.names.now c.loop-name.name-index none c.loop-name-test.true in
    read_then c.loop-name.invariant c.in_err-read_up_to.ensures
    (λ file so_far bad. failed c.from_residual.result _ (OrMemory (IsFirstUnreadIn c.args.most file names)) e (p.1 ∙ ap Err p.2)
    (or_memory_weaker (IsFileRefusalIn c.args.most file name.now) (IsFirstUnreadIn c.args.most file names) e (λ one. so_far.0 e (rw more (inl one))) bad))

pub returns-in_err-push : goal.returns-in_err-push
returns-in_err-push g c =
    let p = err_from_is_err_and c.from_residual-in_err-push.result c.from_residual-in_err-push.ensures.1 in
    read_then c.loop-name.invariant c.in_ok-read_up_to.ensures
    (λ file so_far is. failed c.from_residual-in_err-push.result _ (OrMemory (IsFirstUnreadIn c.args.most file (map (λ n. n.now) c.args.names.now))) refused.Memory (p.1 ∙ ap Err p.2) tt)

pub returns : goal.returns
returns g c =
    let none_left : drop c.loop-name.name-index c.args.names.now ≡ [] = drop_of_length-le c.args.names.now c.loop-name-test.false in
    read_weaker c.loop-name.invariant (λ file so_far. rw (append-nil (map g.C.Contents.text c.loop-name.all.items)) at (so_far.1 [] (rw none_left tt)))
