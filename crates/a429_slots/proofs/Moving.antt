-- The blocks of outputs at other places.
use Rattle.std.proofs.Common.{◌≡◌, ℕ, zero, suc, ◌+◌, ◌-◌, ◌*◌, ◌/◌, ◌%◌, ◌^◌, ◌<◌, ◌≤◌, List, [], ◌∷◌, ◌++◌, length, take, get_or, map, refl, sym, ap, ap₂, ◌∙◌, arith, inl, inr}
use Rattle.std.specs.Prelude.{◌↔◌}
use Rattle.std.proofs.lemmas.List.{map-append, take_more}
use Rattle.std.proofs.lemmas.Bool.{cases_lt}
use Rattle.std.proofs.lemmas.Nat.{div-mul-add, pow-add}
use Rattle.std.proofs.Math.Nat.{mod-eq_of_lt, mul-add-mod_self_right, pow-le-pow_right}
use Rattle.a429_grid.specs.Blocks.{HasPeriodicBlocks}
use Rattle.a429_grid.specs.Reversal.{reversed}
use Rattle.a429_grid.proofs.Reversing.{reversed_back, reversed_below, reversed_none, reversed_split}
use Rattle.a429_pack.proofs.Packings.{demand_over}
use Rattle.a429_slots.specs.Kept.{steps_from}
use Rattle.a429_slots.specs.Moves.{HasOverlap, block_at}
use Rattle.a429_slots.specs.declared.moves.Block.{Block}

-- ---- stretches, one after another

-- the last of these ends, s if there is none
abbrev pub last_end : ℕ → List ℕ → ℕ
last_end s [] = s
last_end s (e ∷ ends) = last_end e ends

pub steps-push : (s : ℕ) (ends : List ℕ) (e : ℕ) → steps_from s (ends ++ e ∷ []) ≡ steps_from s ends ++ (e - last_end s ends) ∷ []
steps-push s [] e = refl
steps-push s (x ∷ ends) e = ap (λ (zs : List ℕ). (x - s) ∷ zs) (steps-push x ends e)

last-push : (s : ℕ) (ends : List ℕ) (e : ℕ) → last_end s (ends ++ e ∷ []) ≡ e
last-push s [] e = refl
last-push s (x ∷ ends) e = last-push x ends e

last_at : (s : ℕ) (ends : List ℕ) (k : ℕ) → length ends ≡ suc k → last_end s ends ≡ get_or ends k 0
last_at s [] k long = absurd (omega arith)
last_at s (x ∷ []) zero long = refl
last_at s (x ∷ []) (suc k) long = absurd (omega arith)
last_at s (x ∷ y ∷ ends) zero long = absurd (omega arith)
last_at s (x ∷ y ∷ ends) (suc k) long = last_at x (y ∷ ends) k (omega arith)

abbrev pub ends_of : List Block → List ℕ
ends_of blocks = map (λ b. b.end) blocks

abbrev pub no_block : Block
no_block = record { begin = 0; end = 0; output = 0 }

-- the ends of one block more
pub ends_more : (blocks : List Block) (i : ℕ) → i < length blocks → ends_of (take (i + 1) blocks) ≡ ends_of (take i blocks) ++ (block_at blocks i).end ∷ []
ends_more blocks i below = ap ends_of (take_more blocks i no_block below) ∙ map-append (λ (b : Block). b.end) (take i blocks) (block_at blocks i ∷ [])

pub steps_more : (blocks : List Block) (i total : ℕ) → i < length blocks → total ≡ last_end 0 (ends_of (take i blocks))
    → steps_from 0 (ends_of (take (i + 1) blocks)) ≡ steps_from 0 (ends_of (take i blocks)) ++ ((block_at blocks i).end - total) ∷ []
steps_more blocks i total below is =
    ap (steps_from 0) (ends_more blocks i below) ∙ steps-push 0 (ends_of (take i blocks)) (block_at blocks i).end
    ∙ ap (λ (z : ℕ). steps_from 0 (ends_of (take i blocks)) ++ ((block_at blocks i).end - z) ∷ []) (sym is)

pub last_more : (blocks : List Block) (i : ℕ) → i < length blocks → last_end 0 (ends_of (take (i + 1) blocks)) ≡ (block_at blocks i).end
last_more blocks i below = ap (last_end 0) (ends_more blocks i below) ∙ last-push 0 (ends_of (take i blocks)) (block_at blocks i).end

-- before the next block ends the one that comes before it
pub last_is : (blocks : List Block) (k : ℕ) → k < length blocks → last_end 0 (ends_of (take (k + 1) blocks)) ≡ (block_at blocks k).end
last_is blocks k below = last_more blocks k below

-- the first block that begins before that end overlaps it
pub overlap : (blocks : List Block) (i total : ℕ) → i < length blocks → total ≡ last_end 0 (ends_of (take i blocks)) → (block_at blocks i).begin < total → HasOverlap blocks
overlap blocks zero total below is early = absurd (omega (arith, is, early))
overlap blocks (suc k) total below is early =
    let next : suc k ≡ k + 1 = omega arith in
    let last : total ≡ (block_at blocks k).end = is ∙ ap (λ j. last_end 0 (ends_of (take j blocks))) next ∙ last_is blocks k (omega (arith, below)) in
    (k, omega (arith, below), omega (arith, early, last, ap (λ j. (block_at blocks j).begin) next))

-- and one that does not is apart from it
pub apart_more : (blocks : List Block) (i total : ℕ) → i < length blocks → total ≡ last_end 0 (ends_of (take i blocks)) → total ≤ (block_at blocks i).begin
    → ((k : ℕ) → k + 1 < i → (block_at blocks k).end ≤ (block_at blocks (k + 1)).begin) → (k : ℕ) → k + 1 < i + 1 → (block_at blocks k).end ≤ (block_at blocks (k + 1)).begin
apart_more blocks i total below is late old k low = elim (cases_lt (k + 1) i) [
  | inl before ↦ old k before
  | inr past ↦
      let same : i ≡ k + 1 = omega (arith, low, past) in
      let last : total ≡ (block_at blocks k).end = is ∙ ap (λ j. last_end 0 (ends_of (take j blocks))) same ∙ last_is blocks k (omega (arith, below, same)) in
      omega (arith, last, late, ap (λ j. (block_at blocks j).begin) same)
]

-- ---- the cells of a block

-- the cells whose places are in the block of an output are those of its bus at its offset
pub block_cells : (f bus offset period : ℕ) → HasPeriodicBlocks f → period ≤ f → offset < 2 ^ period → (row slot : ℕ)
    → ((bus * 2 ^ f + reversed f offset ≤ row * 2 ^ f + reversed f (slot % 2 ^ f)) × (row * 2 ^ f + reversed f (slot % 2 ^ f) < bus * 2 ^ f + reversed f offset + 2 ^ f / 2 ^ period))
    ↔ ((row ≡ bus) × (slot % 2 ^ period ≡ offset))
block_cells f bus offset period B few within row slot =
    let size : ℕ = f - period in
    let digits : period + size ≡ f = omega arith in
    let share : 2 ^ f / 2 ^ period ≡ 2 ^ size = demand_over f period few in
    let whole : 2 ^ f ≡ 2 ^ period * 2 ^ size = ap (λ z. 2 ^ z) (sym digits) ∙ pow-add 2 period size in
    let value : 0 * 2 ^ period + offset ≡ offset = omega arith in
    let turned : reversed f offset ≡ reversed period offset * 2 ^ size =
    ap (λ n. reversed n offset) (sym digits) ∙ ap (reversed (period + size)) (sym value) ∙ reversed_split size period 0 offset within
    ∙ ap (λ n. reversed period offset * 2 ^ size + n) (reversed_none size) ∙ omega arith in
    let q : ℕ = bus * 2 ^ period + reversed period offset in
    let begin : q * 2 ^ size ≡ bus * 2 ^ f + reversed f offset =
    expand bus (2 ^ period) (reversed period offset) (2 ^ size) ∙ ap₂ (λ x y. bus * x + y) (sym whole) (sym turned) in
    let low : reversed f offset < 2 ^ f = reversed_below f offset in
    let first : q * 2 ^ size / 2 ^ f ≡ bus = ap (λ z. z / 2 ^ f) begin ∙ div-mul-add bus (2 ^ f) (reversed f offset) low in
    let rest : q * 2 ^ size % 2 ^ f ≡ reversed f offset = ap (λ z. z % 2 ^ f) begin ∙ remainder bus (2 ^ f) (reversed f offset) low in
    let small : offset < 2 ^ f = omega (arith, within, pow-le-pow_right {n = 2} (omega arith) {i = period} {j = f} few) in
    let second : reversed f (q * 2 ^ size % 2 ^ f) ≡ offset = ap (reversed f) rest ∙ reversed_back f offset small in
    let back : f - size ≡ period = omega arith in
    let of = B.slots size q row slot (omega arith) in (
      (λ inside.
          let both = of.0 (omega (arith, inside.0, begin), omega (arith, inside.1, begin, share)) in
          (both.0 ∙ first, ap (λ z. slot % 2 ^ z) (sym back) ∙ both.1 ∙ second)),
      (λ is.
          let inside = of.1 (is.0 ∙ sym first, ap (λ z. slot % 2 ^ z) back ∙ is.1 ∙ sym second) in
          (omega (arith, inside.0, begin), omega (arith, inside.1, begin, share))),
    )
  where
    expand : (b p r z : ℕ) → (b * p + r) * z ≡ b * (p * z) + r * z
    expand b p r z = omega arith

    remainder : (b h r : ℕ) → r < h → (b * h + r) % h ≡ r
    remainder b h r low = mul-add-mod_self_right b h r ∙ mod-eq_of_lt {n = r} {m = h} low
