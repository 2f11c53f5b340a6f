use Rattle.std.proofs.Common.{◌≡◌, ◌∙◌, ◌<◌, ◌+◌, ◌∷◌, [], ◌++◌, ℕ, length, rules, refl, sym}
use Rattle.std.specs.Prelude.{Some, None}
use Rattle.a429_console.specs.Lines.{entries_of, first_entry}
use Rattle.a429_console.specs.declared.files.lines.LinesFault.TheVariants as fault
use Rattle.a429_console.proofs.EntryLines.{entries_before-nil, entries_next, entries_step}
use Rattle.a429_console.proofs.files.lines.read_lines.Goals as goal

pub loop-left-init : goal.loop-left-init
unfolding entries_of
loop-left-init g c = rw c.new-entries.ensures.items (sym (entries_before-nil _))

-- the number of the first line that states nothing
same_line : (m n : ℕ) → fault.Line m ≡ fault.Line n → m ≡ n
same_line m n same = cc

pub returns-in_default : goal.returns-in_default
returns-in_default g c = λ n is.
    let states = g.F.LineForm.states c.args.form.now in
    let some : 0 < length c.loop-left.left.now = search rules in
    let none : first_entry states c.loop-left.left.now ≡ None = search rules in
    let step = entries_step states (length c.loop-left.entries.items) c.loop-left.left.now some in
    let counted : c.len.result ≡ length c.loop-left.entries.items = search rules in
    let line = same_line (c.len.result + 1) n is in
    rw (← line, c.loop-left.invariant, step, none, counted) refl

pub loop-left-preserved : goal.loop-left-preserved
loop-left-preserved g c =
    let states = g.F.LineForm.states c.args.form.now in
    let first : first_entry states c.loop-left.left.now ≡ Some (c.in-Some.first.0, c.in-Some.first.1.now) = search rules in
    let pushed : c.push.new.self.items ≡ c.loop-left.entries.items ++ c.in-Some.first.0 ∷ [] = search rules in
    rw pushed (c.loop-left.invariant ∙ entries_next states c.loop-left.entries.items c.in-Some.first.0 c.loop-left.left.now c.in-Some.first.1.now first)
