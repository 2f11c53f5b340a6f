-- What a group asks of its layout, and the order that its outputs are laid out in (profile: layout).
use Rattle.std.specs.Prelude.{◌≡◌, ℕ, ◌+◌, ◌<◌, ◌^◌, None, IsSome, List, [], ◌∷◌, length, map, max, unwrap_or, slice_index, slice_index_or}
use Rattle.std.specs.List.{range_with_len}
use Rattle.std.specs.List.Sorted.{IsPermutation}
use Rattle.std.specs.Option.{option_cmp}
use Rattle.std.specs.declared.cmp.Ordering.{Ordering}
use Rattle.std.specs.declared.cmp.Ordering.TheVariants.{Less}
use Rattle.std.specs.Ordering.{nat_cmp, ordering_then}
use Rattle.a429_pack.specs.declared.demands.Demand.{Demand}

-- what is asked for an input; after the last one, nothing
abbrev pub demand_at : List Demand → ℕ → Demand
demand_at demands i = slice_index_or demands i (record { period = None; label = 0; sdi = None })

-- the exponent of a period in slots; an output without a period is never laid out
abbrev pub exponent_of : Demand → ℕ
exponent_of d = unwrap_or d.period 0

-- how many slots its period has
abbrev pub period_of : Demand → ℕ
period_of d = 2 ^ exponent_of d

-- the exponents of the periods of a group's outputs
abbrev pub exponents_of : List Demand → List ℕ
exponents_of demands = map exponent_of demands

-- each output has a grid period
abbrev pub AreFit : List Demand → Type 0
AreFit demands = (i : ℕ) → i < length demands → IsSome (demand_at demands i).period

-- output i is the first that has none
pub record IsFirstUnfitDemand (demands : List Demand) (i : ℕ) : Type 0 where
  pub there : i < length demands
  pub unfit : (demand_at demands i).period ≡ None
  pub earlier : (j : ℕ) → j < i → IsSome (demand_at demands j).period

-- the greatest of some numbers
abbrev pub greatest : List ℕ → ℕ
greatest [] = 0
greatest (x ∷ xs) = max x (greatest xs)

-- the frame of a group is its greatest period: its exponent
abbrev pub frame_of : List Demand → ℕ
frame_of demands = greatest (exponents_of demands)

-- by period, then label as a number, then SDI with any before 0, then place in the table
abbrev pub layout_cmp : List Demand → ℕ → ℕ → Ordering
layout_cmp demands i j =
    ordering_then (nat_cmp (exponent_of (demand_at demands i)) (exponent_of (demand_at demands j)))
    (ordering_then (nat_cmp (demand_at demands i).label (demand_at demands j).label)
    (ordering_then (option_cmp nat_cmp (demand_at demands i).sdi (demand_at demands j).sdi) (nat_cmp i j)))

-- each input once, and each before the next
pub record IsLayoutOrder (demands : List Demand) (inputs : List ℕ) : Type 0 where
  pub all : IsPermutation (range_with_len 0 (length demands)) inputs
  pub rising : (k : ℕ) → k + 1 < length inputs → layout_cmp demands (slice_index inputs k) (slice_index inputs (k + 1)) ≡ Less
