use Rattle.std.proofs.Common.{◌≡◌, ◌∙◌, Bool, List, ap, false, sym, ℕ}
use Rattle.std.specs.Prelude.{◌&&◌, ◌||◌, not}
use Rattle.csv.specs.Records.{fields_of}
use Rattle.a429_import.specs.declared.notes.Notes.{Notes}
use Rattle.a429_import.specs.ImportRows.{has_label}
use Rattle.a429_import.proofs.ImportNotes.{held_taken, is_note, note_taken, row_taken}
use Rattle.a429_import.proofs.reading.take_row_or_note.Goals as goal

pub returns-then-may_take-clause-taken : goal.returns-then-may_take-clause-taken
returns-then-may_take-clause-taken c = λ below known.
    let heading : List (List ℕ) = fields_of c.args.heading.now.line.fields in
    let old : Notes = c.args.read.now.notes in
    let note = is_note old.is_labelled c.has_label-is_labelled.result (sym c.may_take.ensures ∙ c.if-may_take.true) in
    let none : has_label heading c.args.line.now ≡ false = sym c.has_label-is_labelled.ensures ∙ note.1 in
    let hold = c.in_ok-hold.ensures in
    note_taken heading below c.args.line.now c.args.read.now.known old known c.hold.new.self hold.count hold.labelled (hold.held none) note.0 none

pub take_below-requires : goal.take_below-requires
take_below-requires c = c.requires.1.knows

pub returns-in-Some-clause-taken : goal.returns-in-Some-clause-taken
returns-in-Some-clause-taken c = λ below known.
    let heading : List (List ℕ) = fields_of c.args.heading.now.line.fields in
    let old : Notes = c.args.read.now.notes in
    let none : (old.is_labelled && not (has_label heading c.args.line.now)) ≡ false = ap (λ (b : Bool). old.is_labelled && not b) (sym c.has_label-is_labelled.ensures) ∙ sym c.may_take.ensures ∙ c.if-may_take.false in
    held_taken heading below c.args.line.now c.args.read.now.known old known c.in-Some.fault c.args.read.now.known c.end.new.self (sym c.end.ensures.fault ∙ c.in-Some.is) none

pub returns-in-None-clause-taken : goal.returns-in-None-clause-taken
returns-in-None-clause-taken c = λ below known.
    let heading : List (List ℕ) = fields_of c.args.heading.now.line.fields in
    let old : Notes = c.args.read.now.notes in
    let none : (old.is_labelled && not (has_label heading c.args.line.now)) ≡ false = ap (λ (b : Bool). old.is_labelled && not b) (sym c.has_label-is_labelled.ensures) ∙ sym c.may_take.ensures ∙ c.if-may_take.false in
    row_taken heading below c.args.line.now c.args.read.now.known old known c.take_below.result c.take_below.new.known c.end.new.self (sym c.end.ensures.fault ∙ c.in-None.is) none
    c.end.ensures.held c.end.ensures.count (c.end.ensures.labelled ∙ ap (λ (b : Bool). old.is_labelled || b) c.has_label-is_labelled.ensures) (c.take_below.ensures known.agree)
