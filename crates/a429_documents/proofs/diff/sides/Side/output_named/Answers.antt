use Rattle.std.proofs.Common.{◌≡◌, ◌<◌, ◌≤◌, ◌∙◌, true, false, ap, length, subst, sym, Bool, ℕ, List, Some}
use Rattle.std.specs.List.{AllByRecursion}
use Rattle.std.specs.Str.{bytes_eq}
use Rattle.std.proofs.lemmas.List.{take_all}
use Rattle.a429_slots.proofs.Cells.{output_is}
use Rattle.a429_slots.specs.Tables.{Placed, outputs_of, placed_at}
use Rattle.a429_cert.specs.PlanText.{source_name}
use Rattle.a429_documents.specs.Diff.{name_at, number_named}
use Rattle.a429_documents.proofs.Changes.{position_first, position_nowhere}
use Rattle.a429_documents.proofs.diff.sides.Side.output_named.Goals as goal

pub returns-then-eq-clause-number : goal.returns-then-eq-clause-number
unfolding number_named
returns-then-eq-clause-number c =
    let s = c.args.self.now in
    let i = c.loop-number.number in
    let test : Placed → Bool = λ x. bytes_eq (source_name s.sources x.source) c.args.name.now in
    let below : i < length (outputs_of s.table) = subst (λ (n : ℕ). i < n) c.outputs-number-end.ensures.count c.loop-number-test.true in
    let named : c.name.result.now ≡ source_name s.sources (placed_at s.table i).source = c.name.ensures ∙ ap (λ (o : ℕ). name_at s o) c.new-output.ensures in
    let passes : test (placed_at s.table i) ≡ true = ap (λ (n : List ℕ). bytes_eq n c.args.name.now) (sym named) ∙ sym c.eq.ensures ∙ c.if-eq.true in
    ap (λ (n : ℕ). Some n) c.new-output.ensures ∙ sym (position_first test (outputs_of s.table) i (placed_at s.table i) c.loop-number.invariant (output_is s.table i below) passes)

pub returns-clause-number : goal.returns-clause-number
unfolding number_named
returns-clause-number c =
    let s = c.args.self.now in
    let test : Placed → Bool = λ x. bytes_eq (source_name s.sources x.source) c.args.name.now in
    let past : length (outputs_of s.table) ≤ c.loop-number.number = subst (λ (n : ℕ). n ≤ c.loop-number.number) c.outputs-number-end.ensures.count c.loop-number-test.false in
    let none : AllByRecursion (λ x. test x ≡ false) (outputs_of s.table) = subst (λ (xs : List Placed). AllByRecursion (λ x. test x ≡ false) xs) (take_all c.loop-number.number (outputs_of s.table) past) c.loop-number.invariant in
    sym (position_nowhere test (outputs_of s.table) none)
