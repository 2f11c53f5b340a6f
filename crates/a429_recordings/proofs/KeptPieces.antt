-- Logs that are read piece by piece: their items.
use Rattle.std.proofs.Common.{◌≡◌, ◌∙◌, ◌≤◌, ℕ, List, Vec, Global, [], length, drop, append-nil, ap, sym}
use Rattle.std.specs.Prelude.{Option, Result, Ok}
use Rattle.std.proofs.Math.ListN.{drop_of_length-le}
use Rattle.a429_console.specs.Files.{bytes_of}
use Rattle.a429_console.specs.Lines.{entries_before}
use Rattle.a429_console.specs.declared.refusals.CommandRefusal.{CommandRefusal}
use Rattle.a429_logs.specs.LogRows.{Stated}
use Rattle.a429_logs.specs.LogsLeft.{entries_at, reading_at, tail_at_point, titles_at}
use Rattle.a429_logs.specs.declared.reading.Reading.{Reading}
use Rattle.a429_recordings.specs.LogItems.{LogLeft, PiecesEnd, Refuses, items_from, left_at}
use Rattle.a429_recordings.specs.declared.logs.keeping.PieceEnd.{PieceEnd}
use Rattle.a429_recordings.proofs.LogLines.{refuses_later}

module _ {A : Type 0} (item : Stated → Option (List A)) where
  -- one piece more
  pub pieces_more : (all : LogLeft) (pieces : List (Vec ℕ Global)) (old now new : List A) (end next : PieceEnd) → PiecesEnd item all pieces old now end
      → PiecesEnd item (left_at end.point (bytes_of (drop end.next pieces))) (drop end.next pieces) now new next → PiecesEnd item all (drop end.next pieces) old new next
  pieces_more all pieces old now new end next so is = record {
    kept = so.kept ∙ is.kept;
    after = is.after ∙ so.after;
    tail = is.tail ∙ so.tail;
    titles = is.titles ∙ so.titles;
    begun = is.begun;
    within = is.within;
  }

  -- a line of it is faulty
  pub pieces_fault : (all : LogLeft) (pieces : List (Vec ℕ Global)) (old now : List A) (end : PieceEnd) (e : CommandRefusal) → PiecesEnd item all pieces old now end
      → Refuses item (entries_at end.point (bytes_of (drop end.next pieces))) e → Refuses item all.entries e
  pieces_fault all pieces old now end e so bad = refuses_later item all.entries (entries_at end.point (bytes_of (drop end.next pieces))) old now e so.kept bad

  -- no piece is left
  none_left : (pieces : List (Vec ℕ Global)) (end : PieceEnd) → length pieces ≤ end.next → drop end.next pieces ≡ []
  none_left pieces end most = drop_of_length-le pieces most

  pub all_kept : (all : LogLeft) (pieces : List (Vec ℕ Global)) (old new : List A) (end : PieceEnd) → PiecesEnd item all pieces old new end → length pieces ≤ end.next
      → entries_before old (items_from item all.entries) ≡ Ok new
  all_kept all pieces old new end so most =
      so.kept
      ∙ ap (λ (left : List (Vec ℕ Global)). entries_before new (items_from item (entries_at end.point (bytes_of left)))) (none_left pieces end most)
      ∙ ap Ok (append-nil new)

  pub all_after : (all : LogLeft) (pieces : List (Vec ℕ Global)) (old new : List A) (end : PieceEnd) → PiecesEnd item all pieces old new end → length pieces ≤ end.next
      → reading_at end.point [] ≡ all.after
  all_after all pieces old new end so most =
      sym (ap (λ (left : List (Vec ℕ Global)). reading_at end.point (bytes_of left)) (none_left pieces end most)) ∙ so.after

  pub all_tail : (all : LogLeft) (pieces : List (Vec ℕ Global)) (old new : List A) (end : PieceEnd) → PiecesEnd item all pieces old new end → length pieces ≤ end.next
      → tail_at_point end.point [] ≡ all.tail
  all_tail all pieces old new end so most =
      sym (ap (λ (left : List (Vec ℕ Global)). tail_at_point end.point (bytes_of left)) (none_left pieces end most)) ∙ so.tail
