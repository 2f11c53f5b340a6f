-- The best spot in a block, by what is known of the whole block.
use Rattle.std.proofs.Common.{◌≡◌, ◌+◌, ◌-◌, ◌*◌, ◌^◌, ℕ, zero, suc, List, Option, Some, None, ◌≢◌, refl, ◌∙◌, sym, ap, arith}
use Rattle.std.proofs.Math.Nat.{pow-suc}
use Rattle.std.specs.Prelude.{unwrap_or}
use Rattle.a429_keep.specs.declared.blocks.Stand.{Stand}
use Rattle.a429_keep.specs.declared.spots.Spot.{Spot}
use Rattle.a429_keep.specs.Spots.{better, spot_in, spot_of_whole, spot_on}

pub whole_is : (digits start cells : ℕ) (stands : List Stand) (spot : Option Spot) → spot_of_whole (record { cells = 2 ^ digits; start = start }) cells stands ≡ Some spot
    → spot ≡ spot_in digits start cells stands
unfolding spot_in
whole_is zero start cells stands spot known = sym (ap (λ (w : Option (Option Spot)). unwrap_or w None) known)
whole_is (suc digits) start cells stands spot known =
    sym (ap (λ (w : Option (Option Spot)). unwrap_or w (better (spot_in digits start cells stands) (spot_in digits (start + 2 ^ digits) cells stands))) known)

pub none_is : (digits start cells : ℕ) (stands : List Stand) → spot_of_whole (record { cells = 2 ^ digits; start = start }) cells stands ≡ None → digits ≡ 0
    → None ≡ spot_in digits start cells stands
unfolding spot_in
none_is zero start cells stands known least = sym (ap (λ (w : Option (Option Spot)). unwrap_or w None) known)
none_is (suc digits) start cells stands known least = absurd (omega (arith, least))

pub halves_are : (digits start cells : ℕ) (stands : List Stand) → spot_of_whole (record { cells = 2 ^ digits; start = start }) cells stands ≡ None → digits ≢ 0
    → better (spot_in (digits - 1) start cells stands) (spot_in (digits - 1) (start + 2 ^ (digits - 1)) cells stands) ≡ spot_in digits start cells stands
unfolding spot_in
halves_are zero start cells stands known more = absurd (more refl)
halves_are (suc digits) start cells stands known more =
    let less : suc digits - 1 ≡ digits = omega arith in
    ap (λ d. better (spot_in d start cells stands) (spot_in d (start + 2 ^ d) cells stands)) less
    ∙ sym (ap (λ (w : Option (Option Spot)). unwrap_or w (better (spot_in digits start cells stands) (spot_in digits (start + 2 ^ digits) cells stands))) known)

pub half_of : (digits : ℕ) → digits ≢ 0 → 2 ^ digits ≡ 2 ^ (digits - 1) + 2 ^ (digits - 1)
half_of zero more = absurd (more refl)
half_of (suc digits) more =
    let less : suc digits - 1 ≡ digits = omega arith in
    let twice : 2 ^ suc digits ≡ 2 ^ digits * 2 = pow-suc 2 digits in
    let same : 2 ^ (suc digits - 1) ≡ 2 ^ digits = ap (λ d. 2 ^ d) less in
    omega (arith, twice, same)

pub spot_on_none : (frame cells : ℕ) (stands : List Stand) → None ≡ spot_on 0 frame cells stands
unfolding spot_on
spot_on_none frame cells stands = refl

pub spot_on_more : (bus frame cells : ℕ) (stands : List Stand)
    → better (spot_on bus frame cells stands) (spot_in frame (bus * 2 ^ frame) cells stands) ≡ spot_on (bus + 1) frame cells stands
unfolding spot_on
spot_on_more bus frame cells stands =
    let same : suc bus ≡ bus + 1 = omega arith in
    ap (λ n. spot_on n frame cells stands) same
