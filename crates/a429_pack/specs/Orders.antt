-- Lists that put the numbers below n in an order (vocabulary of contracts).
use Rattle.std.specs.Prelude.{◌≡◌, ℕ, ◌<◌, List, length, slice_index}

-- each number below n is at exactly one place of the list, and the list has only such numbers
pub record NamesEachOnce (n : ℕ) (order : List ℕ) : Type 0 where
  pub length : length order ≡ n
  pub below : (k : ℕ) → k < n → slice_index order k < n
  pub place : (o : ℕ) → o < n → (k : ℕ) × (k < n) × (slice_index order k ≡ o)
  pub once : (i j : ℕ) → i < n → j < n → slice_index order i ≡ slice_index order j → i ≡ j
