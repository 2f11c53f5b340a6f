use Rattle.std.proofs.Common.{◌++◌, ◌≤◌, ◌∙◌, ap, append-nil, arith, length, map, string_bytes, sym, ℕ, List}
use Rattle.std.specs.List.{flat_map}
use Rattle.std.proofs.lemmas.List.{take_all}
use Rattle.std.proofs.lemmas.Result.{IfOk-from_err}
use Rattle.a429_slots.specs.Tables.{order_of}
use Rattle.a429_cert.specs.Spelling.{output_text}
use Rattle.a429_cert.specs.PlanText.{listing_of}
use Rattle.a429_cert.proofs.PlanLines.{outputs_more}
use Rattle.a429_cert.proofs.text.write_outputs.Goals as goal

pub loop-place-preserved : goal.loop-place-preserved
loop-place-preserved c =
    outputs_more (string_bytes c.loop-place.text) (string_bytes c.write_output.new.text) (string_bytes c.args.text.now) (listing_of c.args.version c.args.sources.now c.args.table.now) (order_of c.args.table.now) c.loop-place.place c.output_at_place.result
    c.output_at_place.ensures.value c.loop-place.invariant c.in_ok-write_output.ensures

pub returns : goal.returns
returns c =
    let past : length (order_of c.args.table.now) ≤ c.loop-place.place = omega (arith, c.loop-place-test.false, c.outputs-place-end.ensures.ordered) in
    c.loop-place.invariant
    ∙ ap (λ (order : List ℕ). string_bytes c.args.text.now ++ flat_map output_text (map (listing_of c.args.version c.args.sources.now c.args.table.now) order)) (take_all c.loop-place.place (order_of c.args.table.now) past)

pub loop-place-init : goal.loop-place-init
loop-place-init c = sym (append-nil (string_bytes c.args.text.now))

pub write_output-requires-clause-known : goal.write_output-requires-clause-known
write_output-requires-clause-known c = c.output_at_place.ensures.known

pub returns-in_err-write_output : goal.returns-in_err-write_output
returns-in_err-write_output c = IfOk-from_err _ _ c.from_residual.ensures.0
