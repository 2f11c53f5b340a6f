-- The text of a table's own plan has no fault.
use Rattle.std.proofs.Common.{◌≡◌, ℕ, ◌≤◌, List, [], ◌∷◌, ◌++◌, length, map, Option, Some, None, refl, ap, ap₂, ◌∙◌, arith, inl, inr, eq-eqb, append_assoc}
use Rattle.std.specs.Prelude.{◌⊎◌, IfSome}
use Rattle.std.specs.List.{AllZip, AllByRecursion, flat_map, zip}
use Rattle.std.specs.Option.{option_map_or}
use Rattle.a429_equipment.specs.TableRecord.{TableRecord}
use Rattle.a429_equipment.specs.declared.rows.GroupRow.{GroupRow}
use Rattle.a429_equipment.specs.declared.rows.OutputRow.{OutputRow}
use Rattle.a429_equipment.specs.Sound.{HaveOwnSources, IsRate, IsHold, IsGroupRow, IsSound}
use Rattle.a429_slots.specs.Tables.{SlotTable, PlanTable, groups_of}
use Rattle.a429_slots.specs.Planned.{IsPlannedAt, IsPlanOf}
use Rattle.a429_cert.specs.declared.verdicts.Verdict.TheVariants as verdicts
use Rattle.a429_cert.specs.declared.due.DueGroup.{DueGroup}
use Rattle.a429_cert.specs.declared.due.DueTable.{DueTable}
use Rattle.a429_cert.specs.Due.{IsDueGroup, IsDue}
use Rattle.a429_cert.specs.Faults.{groups_faults, rate_faults, first_no, plan_fault, rate_fault}
use Rattle.a429_cert.specs.Lines.{line_at, lines_of, lines_of_groups}
use Rattle.a429_cert.specs.Spelling.{IsShort, version_text, rate_text}
use Rattle.a429_cert.specs.Checked.{stated_text}
use Rattle.a429_cert.specs.PlanText.{stated_groups, plan_text_of}
use Rattle.a429_cert.specs.Verdicts.{verdict, verdict_of}
use Rattle.a429_cert.proofs.Answered.{EachMatches, groups_pass}
use Rattle.a429_cert.proofs.LineLaws.{plan_again, rate_again}
use Rattle.a429_cert.proofs.LinesOfText.{version_is_line, rate_is_line}
use Rattle.a429_cert.proofs.OwnGroups.{FewestCarry, rate_short, own_matches}

-- ---- the groups

-- the rows of the groups that are left
record AreOwnRows (e : TableRecord) (rowss : List (List OutputRow)) (groups : List GroupRow) : Type 0 where
  some : AllByRecursion (λ rows. (1 ≤ length rows) × (length rows ≤ 128)) rowss
  holds : AllByRecursion (AllByRecursion IsHold) rowss
  own : AllByRecursion HaveOwnSources rowss
  words : AllByRecursion IsGroupRow groups

-- what is left of the outputs with their bit rates
abbrev rated : List GroupRow → List (List OutputRow) → List (ℕ × List OutputRow)
rated groups rowss = zip (map (λ g. g.rate) groups) rowss

groups_match : (e : TableRecord) (groups : List GroupRow) (rowss : List (List OutputRow)) (ts : List SlotTable) (gs : List DueGroup) → FewestCarry → IsSound e → AreOwnRows e rowss groups
    → AllZip (IsPlannedAt e.sources) (rated groups rowss) ts → AllZip (IsDueGroup e) (rated groups rowss) gs → map (λ g. g.name) gs ≡ map (λ g. g.name) groups
    → EachMatches e.version gs (stated_groups e.version e.sources groups ts)
groups_match e [] rowss ts [] law sound own planned due names = tt
groups_match e [] rowss ts (g ∷ gs) law sound own planned due names = absurd cc
groups_match e (row ∷ groups) rowss ts [] law sound own planned due names = absurd cc
groups_match e (row ∷ groups) [] ts (g ∷ gs) law sound own planned due names = absurd due
groups_match e (row ∷ groups) (rows ∷ rowss) [] (g ∷ gs) law sound own planned due names = absurd planned
groups_match e (row ∷ groups) (rows ∷ rowss) (t ∷ ts) (g ∷ gs) law sound own planned due names =
    let named : g.name ≡ row.name = cc in
    let others : map (λ (g : DueGroup). g.name) gs ≡ map (λ (r : GroupRow). r.name) groups = cc in (
      own_matches e row rows t g law (record {
        planned = planned.0;
        due = due.0.outputs;
        rated = due.0.rate;
        named = named;
        name = own.words.0;
        some = own.some.0.0;
        holds = own.holds.0;
        own = own.own.0;
        names = sound.own_names;
        words = sound.source_rows;
      }),
      groups_match e groups rowss ts gs law sound (record { some = own.some.1; holds = own.holds.1; own = own.own.1; words = own.words.1 }) planned.1 due.1 others,
    )

-- ---- the head

version_short : (version : ℕ) → (version ≡ 1) ⊎ (version ≡ 2) → IsShort version
version_short version (inl one) = omega arith
version_short version (inr two) = omega arith

one_rate_short : (rate : Option ℕ) → IfSome rate IsRate → IfSome rate IsShort
one_rate_short None h = tt
one_rate_short (Some rate) h = rate_short rate h

version_passes : (version : ℕ) → IsShort version → plan_fault version (version_text version) ≡ None
unfolding plan_fault
version_passes version short = rw (plan_again version short, eq-eqb version version refl) refl

rate_passes : (rate : ℕ) → IsShort rate → rate_fault rate (rate_text rate) ≡ None
unfolding rate_fault
rate_passes rate short = rw (rate_again rate short, eq-eqb rate rate refl) refl

head_passes : (version : ℕ) (rate : Option ℕ) (gs : List DueGroup) (text : List ℕ) (lines : List (List ℕ)) → IsShort version → IfSome rate IsShort
    → lines ≡ lines_of ((version_text version ++ option_map_or rate_text rate []) ++ text) → ((number : ℕ) → first_no number (groups_faults version gs (lines_of text)) ≡ None)
    → first_no 1 (plan_fault version (line_at lines 0) ∷ (rate_faults rate (line_at lines 1) ++ groups_faults version gs (lines_of_groups rate lines))) ≡ None
head_passes version None gs text lines short h e rest =
    let split : lines ≡ version_text version ∷ lines_of text = e ∙ ap lines_of (append_assoc (version_text version) [] text) ∙ version_is_line version short text in
    rw (split, version_passes version short) (rest 2)
head_passes version (Some rate) gs text lines short h e rest =
    let split : lines ≡ version_text version ∷ (rate_text rate ∷ lines_of text)
    = e ∙ ap lines_of (append_assoc (version_text version) (rate_text rate) text) ∙ version_is_line version short (rate_text rate ++ text)
    ∙ ap (λ (ls : List (List ℕ)). version_text version ∷ ls) (rate_is_line rate h text) in
    rw (split, version_passes version short, rate_passes rate h) (rest 3)

pub own_text : FewestCarry → (e : TableRecord) (p : PlanTable) (t : DueTable) → IsSound e → IsPlanOf e p → IsDue e t → verdict t (plan_text_of e p) ≡ verdicts.Fewest
own_text law e p t sound planned due =
    let gs : List DueGroup = t.groups.items in
    let ss = stated_groups e.version e.sources e.groups (groups_of p) in
    let text : List ℕ = flat_map stated_text ss in
    let lines : List (List ℕ) = lines_of (plan_text_of e p) in
    let rows : AreOwnRows e e.outputs e.groups = record { some = sound.some_outputs; holds = sound.holds; own = sound.own_sources; words = sound.group_rows } in
    let matches = groups_match e e.groups e.outputs (groups_of p) gs law sound rows planned.groups due.groups due.names in
    let head = head_passes e.version e.rate gs text lines (version_short e.version sound.version) (one_rate_short e.rate sound.rate) refl
    (λ number. groups_pass e.version gs ss number (lines_of text) matches refl) in
    let same = ap₂ (λ (v : ℕ) (r : Option ℕ). first_no 1 (plan_fault v (line_at lines 0) ∷ (rate_faults r (line_at lines 1) ++ groups_faults v gs (lines_of_groups r lines)))) due.version due.rate in
    ap verdict_of (same ∙ head)
