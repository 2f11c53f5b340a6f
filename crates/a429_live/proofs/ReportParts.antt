-- The lines of a report, one more at a time.
use Rattle.std.proofs.Common.{◌≡◌, ◌∙◌, ◌+◌, ◌∷◌, [], ◌++◌, ◌≤◌, ℕ, List, ap, sym, refl, zero, suc, drop, length, append_assoc, append-nil}
use Rattle.std.specs.Prelude.{Some, None, slice_get}
use Rattle.std.proofs.Math.ListN.{drop_of_length-le}
use Rattle.std.specs.List.{concat}
use Rattle.a429_word.proofs.Lists.{drop_at}
use Rattle.a429_equipment.specs.declared.rows.ReceiverRow.{ReceiverRow}
use Rattle.a429_equipment.specs.declared.rows.GroupRow.{GroupRow}
use Rattle.a429_workers.specs.declared.receiving.ReceiveTotals.{ReceiveTotals}
use Rattle.a429_workers.specs.declared.sending.SendTotals.{SendTotals}
use Rattle.a429_live.specs.LiveReplies.{group_line, group_lines, receiver_line, receiver_lines}

drop_past : {X : Type 0} (xs : List X) (i : ℕ) → slice_get xs i ≡ None → drop i xs ≡ []
drop_past [] zero none = refl
drop_past [] (suc i) none = refl
drop_past (x ∷ xs) zero none = absurd (cc none)
drop_past (x ∷ xs) (suc i) none = drop_past xs i none

no_receivers : (rows : List ReceiverRow) → receiver_lines rows [] ≡ []
no_receivers [] = refl
no_receivers (row ∷ rows) = refl

no_groups : (rows : List GroupRow) → group_lines rows [] ≡ []
no_groups [] = refl
no_groups (row ∷ rows) = refl

pub receivers_more : (rows : List ReceiverRow) (totals : List ReceiveTotals) (i : ℕ) (row : ReceiverRow) (t : ReceiveTotals) → slice_get rows i ≡ Some row → slice_get totals i ≡ Some t
    → receiver_lines (drop i rows) (drop i totals) ≡ receiver_line row.name t ++ receiver_lines (drop (i + 1) rows) (drop (i + 1) totals)
receivers_more rows totals i row t at at' = rw (drop_at rows i row at, drop_at totals i t at') refl

pub receivers_over : (rows : List ReceiverRow) (totals : List ReceiveTotals) (i : ℕ) → slice_get totals i ≡ None → receiver_lines (drop i rows) (drop i totals) ≡ []
receivers_over rows totals i none = rw (drop_past totals i none) (no_receivers (drop i rows))

pub groups_more : (rows : List GroupRow) (totals : List SendTotals) (i : ℕ) (row : GroupRow) (t : SendTotals) → slice_get rows i ≡ Some row → slice_get totals i ≡ Some t
    → group_lines (drop i rows) (drop i totals) ≡ group_line row.name t ++ group_lines (drop (i + 1) rows) (drop (i + 1) totals)
groups_more rows totals i row t at at' = rw (drop_at rows i row at, drop_at totals i t at') refl

pub groups_over : (rows : List GroupRow) (totals : List SendTotals) (i : ℕ) → slice_get totals i ≡ None → group_lines (drop i rows) (drop i totals) ≡ []
groups_over rows totals i none = rw (drop_past totals i none) (no_groups (drop i rows))

pub receivers_end : (rows : List ReceiverRow) (totals : List ReceiveTotals) (i : ℕ) → length rows ≤ i → receiver_lines (drop i rows) (drop i totals) ≡ []
receivers_end rows totals i past = rw (drop_of_length-le rows past) (none_of (drop i totals))
  where
    none_of : (ts : List ReceiveTotals) → receiver_lines [] ts ≡ []
    none_of ts = refl

pub groups_end : (rows : List GroupRow) (totals : List SendTotals) (i : ℕ) → length rows ≤ i → group_lines (drop i rows) (drop i totals) ≡ []
groups_end rows totals i past = rw (drop_of_length-le rows past) (none_of (drop i totals))
  where
    none_of : (ts : List SendTotals) → group_lines [] ts ≡ []
    none_of ts = refl

pub concat_push : (lines : List (List ℕ)) (line : List ℕ) → concat (lines ++ line ∷ []) ≡ concat lines ++ line
concat_push [] line = append-nil line
concat_push (x ∷ lines) line = ap (λ rest. x ++ rest) (concat_push lines line) ∙ sym (append_assoc x (concat lines) line)
