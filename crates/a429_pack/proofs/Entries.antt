-- Entries one after another: what is kept of the first ones.
use Rattle.std.proofs.Common.{◌≡◌, ℕ, zero, suc, ◌+◌, ◌-◌, ◌*◌, ◌^◌, ◌<◌, ◌≤◌, max, None, List, [], ◌∷◌, ◌++◌, length, take, get_or, map, sum, Less, Equal, Greater, cond, sym, ap, ◌∙◌, arith, inl, inr}
use Rattle.std.specs.Int.{div_ceil}
use Rattle.std.specs.Cmp.{nat_cmp_is}
use Rattle.std.specs.Ordering.{nat_cmp, is_lt, ord_max}
use Rattle.std.proofs.Math.ListN.{set}
use Rattle.std.proofs.Math.Nat.{le-max_left, le-max_right, lt_of_mul-lt-mul_right, pow-le-pow_right}
use Rattle.std.proofs.lemmas.Bool.{cases_lt}
use Rattle.std.proofs.lemmas.Grind.{div_ceil_times}
use Rattle.std.proofs.lemmas.List.{length-map, length-take, map_more, take_more, take-map}
use Rattle.std.proofs.lemmas.List.Sums.{sum_by-take-le}
use Rattle.std.proofs.lemmas.Nat.{pow_pos}
use Rattle.a429_pack.specs.declared.demands.Demand.{Demand}
use Rattle.a429_pack.specs.declared.entry.Entry.{Entry}
use Rattle.a429_pack.specs.Demands.{demand_at, exponent_of, greatest, frame_of}
use Rattle.a429_pack.specs.Entries.{entry_of, entries_from, inputs_of, demands_of}
use Rattle.a429_pack.specs.Kept.{padded}
use Rattle.a429_pack.proofs.Tables.{padded-set, sum-push}

-- the entry that a read past the end gives
abbrev pub blank : Entry
blank = record { exponent = 0; label = 0; sdi = None; input = 0 }

-- ---- from demands

entries_from-push : (input : ℕ) (xs : List Demand) (d : Demand) → entries_from input (xs ++ d ∷ []) ≡ entries_from input xs ++ entry_of (input + length xs) d ∷ []
entries_from-push input [] d = let same : input ≡ input + 0 = omega arith in ap (λ i. entry_of i d ∷ []) same
entries_from-push input (x ∷ xs) d =
    let place : input + 1 + length xs ≡ input + length (x ∷ xs) = omega arith in
    ap (λ es. entry_of input x ∷ es) (entries_from-push (input + 1) xs d ∙ ap (λ i. entries_from (input + 1) xs ++ entry_of i d ∷ []) place)

pub entries_more : (ds : List Demand) (i : ℕ) (d : Demand) → i < length ds → entries_from 0 (take (i + 1) ds) ≡ entries_from 0 (take i ds) ++ entry_of i (get_or ds i d) ∷ []
entries_more ds i d below =
    let count : 0 + length (take i ds) ≡ i = omega (arith, length-take i ds) in
    ap (entries_from 0) (take_more ds i d below) ∙ entries_from-push 0 (take i ds) (get_or ds i d)
    ∙ ap (λ n. entries_from 0 (take i ds) ++ entry_of n (get_or ds i d) ∷ []) count

-- the greatest of two numbers is their `max`
pub greater_is : (a b : ℕ) → ord_max nat_cmp a b ≡ max a b
greater_is a b = elim (cases_lt b a) [
  | inl less ↦ let cmp : Less ≡ nat_cmp b a = nat_cmp_is b a Less less in ap (λ r. cond (is_lt r) a b) (sym cmp) ∙ omega arith
  | inr most ↦ elim (cases_lt a b) [
    | inl greater ↦ let cmp : Greater ≡ nat_cmp b a = nat_cmp_is b a Greater greater in ap (λ r. cond (is_lt r) a b) (sym cmp) ∙ omega arith
    | inr same ↦ let cmp : Equal ≡ nat_cmp b a = nat_cmp_is b a Equal (omega arith) in ap (λ r. cond (is_lt r) a b) (sym cmp) ∙ omega arith
  ]
]

pub greatest-push : (xs : List ℕ) (x : ℕ) → greatest (xs ++ x ∷ []) ≡ max (greatest xs) x
greatest-push [] x = omega arith
greatest-push (y ∷ xs) x = ap (max y) (greatest-push xs x) ∙ omega arith

pub greatest_more : (ds : List Demand) (i : ℕ) (d : Demand) → i < length ds
    → greatest (map exponent_of (take (i + 1) ds)) ≡ max (greatest (map exponent_of (take i ds))) (exponent_of (get_or ds i d))
greatest_more ds i d below = ap greatest (map_more exponent_of ds i d below) ∙ greatest-push (map exponent_of (take i ds)) (exponent_of (get_or ds i d))

pub up_to_greatest : (xs : List ℕ) (i : ℕ) → i < length xs → get_or xs i 0 ≤ greatest xs
up_to_greatest [] i below = absurd (omega arith)
up_to_greatest (x ∷ xs) zero below = le-max_left x (greatest xs)
up_to_greatest (x ∷ xs) (suc i) below = omega (arith, up_to_greatest xs i (omega arith), le-max_right x (greatest xs))

-- no output has a longer period than the frame
pub below_frame : (ds : List Demand) (i : ℕ) → exponent_of (demand_at ds i) ≤ frame_of ds
below_frame [] i = omega arith
below_frame (d ∷ ds) zero = le-max_left (exponent_of d) (frame_of ds)
below_frame (d ∷ ds) (suc i) = omega (arith, below_frame ds i, le-max_right (exponent_of d) (frame_of ds))

-- ---- inputs and demands of entries

pub inputs_more : (n : ℕ) (xs : List ℕ) (es : List Entry) (i : ℕ) → i < length es → length es ≤ n → xs ≡ padded 0 n (inputs_of (take i es))
    → set xs i (get_or es i blank).input ≡ padded 0 n (inputs_of (take (i + 1) es))
inputs_more n xs es i below room same =
    let front : List ℕ = inputs_of (take i es) in
    let v : ℕ = (get_or es i blank).input in
    let long : length front ≡ i = length-map (take i es) (λ e. e.input) ∙ omega (arith, length-take i es) in
    ap (λ ys. set ys i v) same ∙ ap (λ k. set (padded 0 n front) k v) (sym long) ∙ padded-set 0 n front v (omega arith)
    ∙ ap (padded 0 n) (sym (map_more (λ e. e.input) es i blank below))

pub length-demands : (h i : ℕ) (es : List Entry) → i ≤ length es → length (demands_of h (take i es)) ≡ i
length-demands h i es few = length-map (take i es) (λ e. 2 ^ (h - e.exponent)) ∙ omega (arith, length-take i es)

pub sum_more : (h : ℕ) (es : List Entry) (i : ℕ) → i < length es
    → sum (demands_of h (take (i + 1) es)) ≡ sum (demands_of h (take i es)) + 2 ^ (h - (get_or es i blank).exponent)
sum_more h es i below =
    ap sum (map_more (λ e. 2 ^ (h - e.exponent)) es i blank below) ∙ sum-push (demands_of h (take i es)) (2 ^ (h - (get_or es i blank).exponent))

pub sum_part : (h : ℕ) (es : List Entry) (i : ℕ) → sum (demands_of h (take i es)) ≤ sum (demands_of h es)
sum_part h es i = omega (arith, sum_by-take-le (λ x. x) (demands_of h es) i, ap sum (take-map (λ (e : Entry). 2 ^ (h - e.exponent)) i es))

pub demand_few : (h e : ℕ) → 2 ^ (h - e) ≤ 2 ^ h
demand_few h e = let one : 0 < 2 = omega arith in pow-le-pow_right {n = 2} one {i = h - e} {j = h} (omega arith)

-- as many buses as outputs are enough
pub buses_few : (total n frame h buses : ℕ) → frame ≡ 2 ^ h → total ≤ n * 2 ^ h → buses ≡ div_ceil total frame → buses ≤ n
buses_few total n frame h buses is-frame few is =
    let some : 0 < frame = omega (arith, is-frame, pow_pos h) in
    let tight : div_ceil total frame * frame < total + frame = (div_ceil_times total frame some).1 in
    let product : n * 2 ^ h ≡ n * frame = ap (λ z. n * z) (sym is-frame) in
    let more : (n + 1) * frame ≡ n * frame + frame = omega arith in
    let least : div_ceil total frame < n + 1 = lt_of_mul-lt-mul_right frame {m = div_ceil total frame} {n = n + 1} (omega arith) in
    omega arith
