-- What the soundness of a record says of each of its rows, and of a word.
use Rattle.std.proofs.Common.{◌≡◌, ℕ, ◌<◌, ◌≤◌, length, Some}
use Rattle.std.proofs.lemmas.Bool.{and_parts}
use Rattle.std.specs.List.{AllByRecursion, slice_get}
use Rattle.std.specs.Prelude.{IsTrue}
use Rattle.a429_word.proofs.Lists.{all_at}
use Rattle.a429_equipment.specs.declared.rows.SourceRow.{SourceRow}
use Rattle.a429_equipment.specs.TableRecord.{TableRecord}
use Rattle.a429_equipment.specs.Arrivals.{accepts}
use Rattle.a429_equipment.specs.Sound.{HaveOwnSources, IsSound, IsInterval, IsHold, IsReceiverRow, IsSourceRow, IsGroupRow, OfEach}

pub one_accepts : (t : TableRecord) → IsSound t → (a : ℕ × ℕ) (i j : ℕ) (s u : SourceRow) → slice_get t.sources i ≡ Some s → slice_get t.sources j ≡ Some u
    → IsTrue (accepts t s a) → IsTrue (accepts t u a) → i ≡ j
one_accepts t sound a i j s u e f by_s by_u =
    let for_s = and_parts _ _ (and_parts _ _ by_s).1 in
    let for_u = and_parts _ _ (and_parts _ _ by_u).1 in
    sound.apart a.0 a.1 i j s u e f for_s.1 for_u.1

pub of_receivers : (t : TableRecord) → IsSound t → OfEach IsReceiverRow t.receivers
of_receivers t sound i r e = all_at IsReceiverRow t.receivers i r sound.receiver_rows e

pub of_sources : (t : TableRecord) → IsSound t → OfEach (λ s. IsSourceRow s × (s.receiver < length t.receivers)) t.sources
of_sources t sound i s e = (all_at IsSourceRow t.sources i s sound.source_rows e, all_at (λ s. s.receiver < length t.receivers) t.sources i s sound.known_receivers e)

pub of_groups : (t : TableRecord) → IsSound t → OfEach IsGroupRow t.groups
of_groups t sound i g e = all_at IsGroupRow t.groups i g sound.group_rows e

pub of_outputs : (t : TableRecord) → IsSound t
    → OfEach (λ os. (1 ≤ length os) × (length os ≤ 128) × OfEach (λ o. (o.source < length t.sources) × IsInterval o) os) t.outputs
of_outputs t sound g os e =
    let known = all_at (AllByRecursion (λ o. o.source < length t.sources)) t.outputs g os sound.known_sources e in
    let kept = all_at (AllByRecursion IsInterval) t.outputs g os sound.intervals e in
    let (some, few) = all_at (λ os. (1 ≤ length os) × (length os ≤ 128)) t.outputs g os sound.some_outputs e in
    (some, few, λ j o f. (all_at (λ o. o.source < length t.sources) os j o known f, all_at IsInterval os j o kept f))

pub of_holds : (t : TableRecord) → IsSound t → OfEach (OfEach IsHold) t.outputs
of_holds t sound g os e = λ j o f. all_at IsHold os j o (all_at (AllByRecursion IsHold) t.outputs g os sound.holds e) f

pub of_own_sources : (t : TableRecord) → IsSound t → OfEach HaveOwnSources t.outputs
of_own_sources t sound g os e = all_at HaveOwnSources t.outputs g os sound.own_sources e
