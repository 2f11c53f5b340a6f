use Rattle.std.proofs.Common.{rules, ◌≡◌, ◌∷◌, [], ◌++◌, ◌+◌, ℕ, length}
use Rattle.std.specs.Prelude.{Some, None}
use Rattle.a429_console.specs.Lines.{first_entry}
use Rattle.a429_console.specs.declared.files.lines.LinesFault.TheVariants as fault
use Rattle.a429_replay.specs.Script.{line_event}
use Rattle.a429_replay.proofs.reading.keep_entry.Goals as goal

-- the number of the first line that states nothing
same_line : (m n : ℕ) → fault.Line m ≡ fault.Line n → n ≡ m
same_line m n same = cc

pub returns-in_default-clause-fault : goal.returns-in_default-clause-fault
returns-in_default-clause-fault c = λ n is.
    let none : first_entry (line_event c.args.form.now.names.now c.args.form.now.further) c.args.text.now ≡ None = search rules in
    let counted : c.len-lines.result ≡ length c.args.kept.now.items = search rules in
    let line : n ≡ c.len-lines.result + 1 = same_line (c.len-lines.result + 1) n is in
    (rw counted at line, none)

pub returns-in-Ok-clause-entry : goal.returns-in-Ok-clause-entry
returns-in-Ok-clause-entry c =
    let first : first_entry (line_event c.args.form.now.names.now c.args.form.now.further) c.args.text.now ≡ Some (c.in-Some.event, c.in-Some.rest.now) = search rules in
    let pushed : c.push.new.self.items ≡ c.args.kept.now.items ++ c.of.result ∷ [] = search rules in
    record {
      event = c.in-Some.event;
      states = first;
      table = c.in-Some.ensures.fits.0;
      shorter = c.in-Some.ensures.shorter;
      last = record { kept = c.of.result; pushed = pushed; is = c.of.ensures };
    }
