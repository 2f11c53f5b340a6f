-- What a text that shows the fewest buses states of each group.
use Rattle.std.proofs.Common.{◌≡◌, ◌∙◌, ℕ, zero, suc, ◌+◌, List, [], ◌∷◌, length, sym, subst, ap}
use Rattle.std.specs.Prelude.{Option, Some, None, drop, slice_get}
use Rattle.std.specs.List.{zip}
use Rattle.std.proofs.lemmas.List.{get_or-drop}
use Rattle.std.proofs.lemmas.Option.{none-some, same_Some}
use Rattle.a429_equipment.specs.TableRecord.{TableRecord}
use Rattle.a429_equipment.specs.declared.rows.GroupRow.{GroupRow}
use Rattle.a429_equipment.specs.declared.rows.OutputRow.{OutputRow}
use Rattle.a429_slots.specs.Planned.{AreFewestBusesFor}
use Rattle.a429_cert.specs.Judged.{ShowsFewest, StateFewest, StatesFewest}
use Rattle.a429_cert.specs.Lines.{line_at, lines_of, lines_of_groups}
use Rattle.a429_cert.specs.Reading.{group_line}
use Rattle.a429_cert.specs.Spelling.{Heading}
use Rattle.a429_callers.specs.Serving.{StatesFewestBuses}
use Rattle.a429_callers.proofs.Served.{none_fewer}

-- a group's heading, some lines on
record IsStated (version : ℕ) (row : GroupRow) (rows : List OutputRow) (lines : List (List ℕ)) : Type 0 where
  pub line : ℕ
  pub heading : Heading
  pub read : group_line version (line_at lines line) ≡ Some heading
  pub name : heading.name ≡ row.name
  pub fewest : AreFewestBusesFor row.rate rows heading.buses

later : (version : ℕ) (row : GroupRow) (rows : List OutputRow) (n : ℕ) (lines : List (List ℕ)) → IsStated version row rows (drop n lines) → IsStated version row rows lines
later version row rows n lines s =
    record { line = n + s.line; heading = s.heading; read = ap (group_line version) (sym (get_or-drop n lines s.line [])) ∙ s.read; name = s.name; fewest = s.fewest }

stated_at : (e : TableRecord) (groups : List GroupRow) (outputs : List (List OutputRow)) (lines : List (List ℕ)) → StateFewest e (zip groups outputs) lines
    → (g : ℕ) (row : GroupRow) (rows : List OutputRow) → slice_get groups g ≡ Some row → slice_get outputs g ≡ Some rows → IsStated e.version row rows lines
stated_at e [] outputs lines all g row rows here there = absurd (none-some row here)
stated_at e (x ∷ groups) [] lines all g row rows here there = absurd (none-some rows there)
stated_at e (x ∷ groups) (xs ∷ outputs) lines all zero row rows here there =
    let s : StatesFewest e row rows lines =
    subst (λ (ys : List OutputRow). StatesFewest e row ys lines) (same_Some xs rows there) (subst (λ (y : GroupRow). StatesFewest e y xs lines) (same_Some x row here) all.0) in
    record { line = 0; heading = s.plan.stated.heading; read = s.plan.heading; name = s.plan.checked.name; fewest = s.fewest }
stated_at e (x ∷ groups) (xs ∷ outputs) lines all (suc g) row rows here there =
    later e.version row rows (length xs + 2) lines (stated_at e groups outputs (drop (length xs + 2) lines) all.1 g row rows here there)

-- after the lines of the version and the bit rate
behind : (version : ℕ) (row : GroupRow) (rows : List OutputRow) (rate : Option ℕ) (lines : List (List ℕ)) → IsStated version row rows (lines_of_groups rate lines) → IsStated version row rows lines
behind version row rows None lines s = later version row rows 1 lines s
behind version row rows (Some rate) lines s = later version row rows 2 lines s

pub shown : (e : TableRecord) (text : List ℕ) → ShowsFewest e text → StatesFewestBuses e text
shown e text all g row rows there =
    let s : IsStated e.version row rows (lines_of text) =
    behind e.version row rows e.rate (lines_of text) (stated_at e e.groups e.outputs (lines_of_groups e.rate (lines_of text)) all g row rows there.group there.outputs) in
    (s.heading, record { line = s.line; read = s.read; named = s.name }, none_fewer row.rate rows s.heading.buses s.fewest)
