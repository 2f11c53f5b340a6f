-- The rows of judgements (profile: docs/FORMATS.md, Output of `judge`).
use Rattle.std.specs.Prelude.{◌==◌, ℕ, List, [], ◌∷◌, ◌++◌, if◌then◌else◌, flat_map, length, slice_index_or, Option, None, Some, codes}
use Rattle.a429_text.specs.Fields.{Field, Text, Number, Absent}
use Rattle.std.specs.List.{range_with_len}
use Rattle.a429_judge.specs.declared.duties.Duty.{Duty}
use Rattle.a429_judge.specs.Judgements.{judgement_of}
use Rattle.a429_judge.specs.Recordings.{Recording, duty_at, foreign_of}
use Rattle.a429_judge.specs.declared.judgements.Judgement.{Judgement}
use Rattle.a429_judge.specs.declared.judgements.Verdict.{Verdict}
use Rattle.a429_judge.specs.declared.judgements.Verdict.TheVariants as verdict

-- a figure that may be missing
abbrev pub figure_field : Option ℕ → Field
figure_field None = Absent
figure_field (Some number) = Number number

abbrev pub verdict_text : Verdict → List ℕ
verdict_text verdict.Ok = codes "ok"
verdict_text verdict.NotSent = codes "not-sent"
verdict_text verdict.Alike = codes "alike"
verdict_text verdict.Bad = codes "bad"
verdict_text verdict.TooShort = codes "too-short"

-- the row of an output, by the names of its group and its source: group, source, sent, known, least_us, greatest_us, late_us, wrong, stale,
-- soon, late, again, silent, missed, tolerance_us, verdict
unfoldable pub output_row : List ℕ → List ℕ → Judgement → List Field
output_row group source j =
    Text group ∷ Text source ∷ Number j.sent ∷ Number j.known ∷ figure_field j.least ∷ figure_field j.greatest ∷ figure_field j.delay
    ∷ Number j.wrong ∷ Number j.stale ∷ Number j.soon ∷ Number j.late ∷ Number j.again ∷ Number j.silent ∷ Number j.missed
    ∷ Number j.tolerance ∷ Text (verdict_text j.verdict) ∷ []

-- the verdict on a group's foreign words, by their number
abbrev pub foreign_verdict : ℕ → Verdict
foreign_verdict count = if count == 0 then verdict.Ok else verdict.Bad

-- the row of a group for its words that are of no output, by their number
unfoldable pub foreign_row : List ℕ → ℕ → List Field
foreign_row group count =
    Text group ∷ Text (codes "foreign") ∷ Number count ∷ Absent ∷ Absent ∷ Absent ∷ Absent ∷ Absent ∷ Absent ∷ Absent ∷ Absent ∷ Absent
    ∷ Absent ∷ Absent ∷ Absent ∷ Text (verdict_text (foreign_verdict count)) ∷ []

-- the name at a place, or none
abbrev pub name_at : List (List ℕ) → ℕ → List ℕ
name_at names k = slice_index_or names k []

-- the row of an output of a group with these outputs
abbrev pub row_at : List ℕ → List (List ℕ) → List Duty → Recording → ℕ → List (List Field)
row_at group names duties r k = output_row group (name_at names k) (judgement_of duties (duty_at duties k) r) ∷ []

-- the rows of a group: of its outputs in order, with the names of their sources, and then of its words that are of none
unfoldable pub group_rows : ℕ → List ℕ → List (List ℕ) → List Duty → Recording → List (List Field)
group_rows number group names duties r =
    flat_map (row_at group names duties r) (range_with_len 0 (length duties)) ++ foreign_row group (length (foreign_of duties number r.sent)) ∷ []
