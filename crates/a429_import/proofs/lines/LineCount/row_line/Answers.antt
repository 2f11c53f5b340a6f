use Rattle.std.proofs.Common.{◌≡◌, ◌∙◌, ◌≤◌, ℕ, Bool, List, ap, ap₂, arith, drop, get_or, length, refl, sym, true, false}
use Rattle.std.specs.Prelude.{◌&&◌}
use Rattle.csv.specs.Machine.{is_end, step}
use Rattle.csv.specs.declared.parser.Config.{Config}
use Rattle.csv.specs.declared.parser.State.{State}
use Rattle.a429_import.specs.declared.lines.Part.TheVariants as part
use Rattle.a429_import.specs.Imports.{separated}
use Rattle.a429_import.specs.ImportSteps.{state_of}
use Rattle.a429_import.specs.LineCounts.{begins_with_end, is_between, row_end}
use Rattle.a429_import.proofs.RowLines.{not_begun, part_passed, row_at_end, row_ends, row_ended_at, row_goes_on}
use Rattle.a429_import.proofs.lines.LineCount.row_line.Goals as goal

pub loop-self-init : goal.loop-self-init
loop-self-init c = record { counted = c.pass_ends.ensures.counted; row = refl; begun = not_begun (is_between (state_of c.pass_ends.new.self.part)) c.pass_ends.ensures.none }

pub pass_byte-requires-clause-counted : goal.pass_byte-requires-clause-counted
pass_byte-requires-clause-counted c = c.loop-self.invariant.counted

pub returns-then-is_between-clause-row : goal.returns-then-is_between-clause-row
returns-then-is_between-clause-row c =
    let text : List ℕ = c.args.text.now in
    let i : ℕ = c.loop-self.self.at in
    let s : State = state_of c.loop-self.self.part in
    let ends : is_end (step (separated c.args.separator) s (get_or text i 0)).1 ≡ true =
    row_ended_at c.args.separator c.loop-self.self.part text i c.loop-self-test.true c.loop-self.invariant.begun ∙ ap is_between (sym c.pass-part.ensures) ∙ sym c.is_between.ensures ∙ c.if-is_between.true in
    sym (c.pass_ends.ensures.row c.args.separator) ∙ sym c.loop-self.invariant.row ∙ row_ends c.args.separator s text i c.loop-self-test.true ends
    ∙ ap₂ (λ (t : State) (n : ℕ). (t, drop n text)) (sym c.pass-part.ensures) (sym c.pass_byte.ensures.at)

pub returns-then-is_between-clause-counted : goal.returns-then-is_between-clause-counted
returns-then-is_between-clause-counted c = part_passed c.args.text.now c.pass_byte.new.self c.pass-part.result c.pass_byte.ensures.counted

pub loop-self-preserved : goal.loop-self-preserved
loop-self-preserved c =
    let cfg : Config = separated c.args.separator in
    let text : List ℕ = c.args.text.now in
    let i : ℕ = c.loop-self.self.at in
    let s : State = state_of c.loop-self.self.part in
    let goes_on : is_between (state_of c.pass-part.result) ≡ false = sym c.is_between.ensures ∙ c.if-is_between.false in
    let ends : is_end (step cfg s (get_or text i 0)).1 ≡ false =
    row_ended_at c.args.separator c.loop-self.self.part text i c.loop-self-test.true c.loop-self.invariant.begun ∙ ap is_between (sym c.pass-part.ensures) ∙ goes_on in
    record {
      counted = part_passed text c.pass_byte.new.self c.pass-part.result c.pass_byte.ensures.counted;
      row =
          ap₂ (λ (t : State) (n : ℕ). row_end cfg t (drop n text)) c.pass-part.ensures c.pass_byte.ensures.at
          ∙ sym (row_goes_on c.args.separator s text i c.loop-self-test.true ends) ∙ c.loop-self.invariant.row;
      begun = ap (λ (b : Bool). b && begins_with_end (drop c.pass_byte.new.self.at text)) goes_on;
    }

pub returns-clause-counted : goal.returns-clause-counted
returns-clause-counted c = part_passed c.args.text.now c.loop-self.self part.Row c.loop-self.invariant.counted

pub returns-clause-row : goal.returns-clause-row
returns-clause-row c =
    let past : length c.args.text.now ≤ c.loop-self.self.at = omega (arith, c.loop-self-test.false) in
    sym (c.pass_ends.ensures.row c.args.separator) ∙ sym c.loop-self.invariant.row ∙ row_at_end c.args.separator (state_of c.loop-self.self.part) c.args.text.now c.loop-self.self.at past
