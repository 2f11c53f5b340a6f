-- Files of which a first part was read.
use Rattle.std.proofs.Common.{◌≡◌, ◌++◌, ◌∷◌, [], ℕ, List, append_assoc, inr}
use Rattle.std.specs.Prelude.{Option, Some}
use Rattle.a429_console.specs.FileReadings.{AreReadIn, IsFirstUnreadIn, readable_in}
use Rattle.a429_console.specs.declared.refusals.CommandRefusal.{CommandRefusal}

-- of all the names these are left, and these are the bytes of the files before
abbrev pub IsReadSoFar : ℕ → List (List ℕ) → List (List ℕ) → List (List ℕ) → (List ℕ → Option (List ℕ)) → Type 0
IsReadSoFar most names left all file =
    ((refusal : CommandRefusal) → IsFirstUnreadIn most file left refusal → IsFirstUnreadIn most file names refusal)
    × ((rest : List (List ℕ)) → AreReadIn most file left rest → AreReadIn most file names (all ++ rest))

pub none_so_far : (most : ℕ) (names : List (List ℕ)) (file : List ℕ → Option (List ℕ)) → IsReadSoFar most names names [] file
none_so_far most names file = ((λ refusal unread. unread), (λ rest are. are))

pub one_more : (most : ℕ) (names left all : List (List ℕ)) (name bytes : List ℕ) (file : List ℕ → Option (List ℕ)) → IsReadSoFar most names (name ∷ left) all file → readable_in most (file name) ≡ Some bytes
    → IsReadSoFar most names left (all ++ bytes ∷ []) file
one_more most names left all name bytes file so_far is = (
  (λ refusal unread. so_far.0 refusal (inr (bytes, is, unread))),
  (λ rest are. rw append_assoc (so_far.1 (bytes ∷ rest) (is, are))),
)
