use Rattle.std.proofs.Common.{◌≡◌, ◌∙◌, ◌+◌, ◌<◌, ℕ, List, ap, arith, drop, length, refl, sym, true, false}
use Rattle.csv.specs.declared.parser.State.TheVariants as st
use Rattle.a429_import.specs.declared.lines.Part.TheVariants as part
use Rattle.a429_import.specs.Imports.{separated}
use Rattle.a429_import.specs.ImportSteps.{state_of}
use Rattle.a429_import.specs.LineCounts.{begins_with_end, row_end}
use Rattle.a429_import.specs.RowLines.{from_row}
use Rattle.a429_import.proofs.RowLines.{begins_within, end_passed, ends_passed, part_passed, row_here}
use Rattle.a429_import.proofs.lines.LineCount.pass_ends.Goals as goal

pub loop-self-init : goal.loop-self-init
loop-self-init c = record { counted = c.requires.counted; between = c.requires.between; rest = refl; row = λ separator. refl }

pub pass_byte-requires-clause-counted : goal.pass_byte-requires-clause-counted
pass_byte-requires-clause-counted c = c.loop-self.invariant.counted

pub pass_byte-requires-clause-below : goal.pass_byte-requires-clause-below
pass_byte-requires-clause-below c = begins_within c.args.text.now c.loop-self.self.at (sym c.is_at_end.ensures ∙ c.loop-self-test.true)

pub loop-self-smaller : goal.loop-self-smaller
loop-self-smaller c =
    let below : c.loop-self.self.at < length c.args.text.now = begins_within c.args.text.now c.loop-self.self.at (sym c.is_at_end.ensures ∙ c.loop-self-test.true) in
    let at = c.pass_byte.ensures.at in
    omega (arith, below, at)

pub loop-self-preserved : goal.loop-self-preserved
loop-self-preserved c =
    let text : List ℕ = c.args.text.now in
    let i : ℕ = c.loop-self.self.at in
    let inv = c.loop-self.invariant in
    let is : begins_with_end (drop i text) ≡ true = sym c.is_at_end.ensures ∙ c.loop-self-test.true in
    let at : c.pass_byte.new.self.at ≡ i + 1 = c.pass_byte.ensures.at in
    record {
      counted = part_passed text c.pass_byte.new.self part.Row c.pass_byte.ensures.counted;
      between = refl;
      rest = ap (λ (n : ℕ). from_row (drop n text)) at ∙ sym (end_passed text i is) ∙ inv.rest;
      row = λ separator.
          ap (λ (n : ℕ). row_end (separated separator) st.StartRecord (drop n text)) at
          ∙ sym (ends_passed separator (state_of c.loop-self.self.part) text i inv.between is) ∙ inv.row separator;
    }

pub returns-clause-counted : goal.returns-clause-counted
returns-clause-counted c = c.loop-self.invariant.counted

pub returns-clause-rest : goal.returns-clause-rest
returns-clause-rest c =
    let none : begins_with_end (drop c.loop-self.self.at c.args.text.now) ≡ false = sym c.is_at_end.ensures ∙ c.loop-self-test.false in
    row_here (drop c.loop-self.self.at c.args.text.now) none ∙ c.loop-self.invariant.rest

pub returns-clause-none : goal.returns-clause-none
returns-clause-none c = sym c.is_at_end.ensures ∙ c.loop-self-test.false

pub returns-clause-row : goal.returns-clause-row
returns-clause-row c = c.loop-self.invariant.row
