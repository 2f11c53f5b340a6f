-- Flags that a loop sets row by row, each by the words that earlier rows took.
use Rattle.std.proofs.Common.{◌≡◌, ◌∙◌, ◌+◌, ◌∷◌, [], ◌++◌, ◌<◌, ◌≤◌, ℕ, Bool, List, ap, append-nil, append_assoc, arith, drop, get_or, length, map, slice_set, sym, take}
use Rattle.std.proofs.lemmas.List.{at_drop_all, at_drop_more, length-set, take_all, take_more_set}
use Rattle.a429_table.specs.declared.repeats.Words.{Words}
use Rattle.a429_table.specs.Repeats.{free, is_taken, repeats_among, repeats_from, with_words}

-- the flags of the rows before this one are set, and what they took gives the others
pub record AreFlagged {A : Type 0} (words : A → Words) (xs : List A) (places row : ℕ) (taken : List ℕ) (flags : List Bool) : Type 0 where
  pub all_places : length taken ≡ places
  pub all_rows : length flags ≡ length xs
  pub so_far : take row flags ++ repeats_from taken (map words (drop row xs)) ≡ repeats_among places (map words xs)

pub none_flagged : {A : Type 0} (words : A → Words) (xs : List A) (places : ℕ) (taken : List ℕ) (flags : List Bool) → length taken ≡ places → length flags ≡ length xs → taken ≡ free places → AreFlagged words xs places 0 taken flags
none_flagged words xs places taken flags sized as_long none = record { all_places = sized; all_rows = as_long; so_far = ap (λ t. repeats_from t (map words xs)) none }

pub one_flagged : {A : Type 0} (words : A → Words) (xs : List A) (places i : ℕ) (d : A) (w : Words) (taken then : List ℕ) (flags more : List Bool) → i < length xs → w ≡ words (get_or xs i d)
    → more ≡ slice_set flags i (is_taken taken w) → then ≡ with_words taken w → AreFlagged words xs places i taken flags → AreFlagged words xs places (i + 1) then more
one_flagged words xs places i d w taken then flags more below is flagged noted before =
    let rest = map words (drop (i + 1) xs) in
    let fits : i < length flags = omega arith in
    record {
      all_places = rw (noted, length-set) before.all_places;
      all_rows = rw (flagged, length-set) before.all_rows;
      so_far = rw (flagged, noted, take_more_set flags i (is_taken taken w) fits)
          (append_assoc (take i flags) (is_taken taken w ∷ []) (repeats_from (with_words taken w) rest)
          ∙ ap (λ v. take i flags ++ repeats_from taken (v ∷ rest)) is
          ∙ sym (at_drop_more (λ ys. take i flags ++ repeats_from taken (map words ys)) xs i d below)
          ∙ before.so_far);
    }

pub all_flagged : {A : Type 0} (words : A → Words) (xs : List A) (places i : ℕ) (taken : List ℕ) (flags : List Bool) → length xs ≤ i → AreFlagged words xs places i taken flags → flags ≡ repeats_among places (map words xs)
all_flagged words xs places i taken flags past are =
    let whole : length flags ≤ i = omega arith in
    sym (take_all i flags whole) ∙ sym (append-nil (take i flags)) ∙ sym (at_drop_all (λ ys. take i flags ++ repeats_from taken (map words ys)) xs i past) ∙ are.so_far
