-- The names of a station are short.
use Rattle.std.proofs.Common.{◌≤◌, ℕ, zero, suc, List, [], ◌∷◌, length, map, arith}
use Rattle.std.specs.Prelude.{IsTrue}
use Rattle.std.specs.List.{AllByRecursion}
use Rattle.std.proofs.lemmas.Bool.{and_parts, leb-true}
use Rattle.a429_equipment.specs.NameForm.{is_name}
use Rattle.a429_equipment.specs.Sound.{IsGroupRow, IsReceiverRow, IsSound, IsSourceRow}
use Rattle.a429_equipment.specs.TableRecord.{TableRecord}
use Rattle.a429_equipment.specs.declared.rows.GroupRow.{GroupRow}
use Rattle.a429_equipment.specs.declared.rows.ReceiverRow.{ReceiverRow}
use Rattle.a429_equipment.specs.declared.rows.SourceRow.{SourceRow}
use Rattle.a429_console.specs.Names.{name_at, naming_of}

abbrev AreShort : List (List ℕ) → Type 0
AreShort names = AllByRecursion (λ n. length n ≤ 16) names

name_short : (name : List ℕ) → IsTrue (is_name name) → length name ≤ 16
unfolding is_name
name_short name h =
    let p = and_parts _ _ h in
    let q = and_parts _ _ p.0 in
    leb-true (length name) 16 q.1

short_at : (names : List (List ℕ)) (i : ℕ) → AreShort names → length (name_at names i) ≤ 16
short_at [] i all = omega arith
short_at (n ∷ ns) zero all = all.0
short_at (n ∷ ns) (suc i) all = short_at ns i all.1

receivers_short : (rows : List ReceiverRow) → AllByRecursion IsReceiverRow rows → AreShort (map (λ r. r.name) rows)
receivers_short [] all = tt
receivers_short (r ∷ rows) all = (name_short r.name all.0.0, receivers_short rows all.1)

sources_short : (rows : List SourceRow) → AllByRecursion IsSourceRow rows → AreShort (map (λ s. s.name) rows)
sources_short [] all = tt
sources_short (s ∷ rows) all = (name_short s.name all.0.0, sources_short rows all.1)

groups_short : (rows : List GroupRow) → AllByRecursion IsGroupRow rows → AreShort (map (λ g. g.name) rows)
groups_short [] all = tt
groups_short (g ∷ rows) all = (name_short g.name all.0.0, groups_short rows all.1)

pub receiver_short : (t : TableRecord) (i : ℕ) → IsSound t → length (name_at (naming_of t).receivers i) ≤ 16
receiver_short t i sound = short_at (naming_of t).receivers i (receivers_short t.receivers sound.receiver_rows)

pub source_short : (t : TableRecord) (i : ℕ) → IsSound t → length (name_at (naming_of t).sources i) ≤ 16
source_short t i sound = short_at (naming_of t).sources i (sources_short t.sources sound.source_rows)

pub group_short : (t : TableRecord) (i : ℕ) → IsSound t → length (name_at (naming_of t).groups i) ≤ 16
group_short t i sound = short_at (naming_of t).groups i (groups_short t.groups sound.group_rows)
