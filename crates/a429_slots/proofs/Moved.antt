-- A slot table with the same outputs at other places.
use Rattle.std.proofs.Common.{◌≡◌, ℕ, ◌+◌, ◌*◌, ◌/◌, ◌%◌, ◌^◌, ◌<◌, ◌≤◌, List, [], ◌∷◌, length, get_or, map, sum, refl, sym, ap, ap₂, ◌∙◌, subst, arith}
use Rattle.std.specs.Prelude.{All}
use Rattle.std.specs.List.{range_with_len, sum_by}
use Rattle.std.specs.List.Sorted.{IsNonDecreasingBy, IsPermutation}
use Rattle.std.proofs.lemmas.List.{ext_get_or, get_or-map, length-map}
use Rattle.std.proofs.lemmas.List.Elements.{All-get_or, All-from_get_or}
use Rattle.std.proofs.lemmas.List.FromFn.{get_or-map-range_with_len, get_or-range_with_len, length-map-range_with_len, length-range_with_len}
use Rattle.std.proofs.lemmas.List.Sorted.{All-permutation, IsPermutation-map, length_permutation, sum_by-IsPermutation}
use Rattle.std.proofs.lemmas.List.Sums.{sum-map}
use Rattle.std.proofs.lemmas.Simd.{map-map}
use Rattle.std.proofs.lemmas.Nat.{le-div, mul-add-lt, pow_pos}
use Rattle.std.proofs.Math.Nat.{div-le_self, mod-eq_of_lt, pow-le-pow_right}
use Rattle.a429_grid.specs.Blocks.{HasPeriodicBlocks}
use Rattle.a429_grid.specs.Reversal.{reversed}
use Rattle.a429_grid.proofs.Reversing.{reversed_below}
use Rattle.a429_pack.specs.Kept.{padded}
use Rattle.a429_pack.specs.Orders.{NamesEachOnce}
use Rattle.a429_pack.specs.Schedules.{IsExactlyPeriodic}
use Rattle.a429_pack.proofs.Tables.{kept_read, padded-front}
use Rattle.a429_slots.specs.declared.group_plan.GroupPlan.TheInside.{Inside}
use Rattle.a429_slots.specs.declared.group_plan.LaidOutput.{LaidOutput}
use Rattle.a429_slots.specs.declared.group_plan.SendLimits.{SendLimits}
use Rattle.a429_slots.specs.declared.group_plan.SlotPlace.{SlotPlace}
use Rattle.a429_slots.specs.declared.moves.Block.{Block}
use Rattle.a429_slots.specs.Columns.{AreColumns, placed_in, table_in}
use Rattle.a429_slots.specs.Kept.{HoldsJustItsCells, IsTable, begin_of, end_of, steps_from}
use Rattle.a429_slots.specs.Laid.{laid_by, laid_in, nothing_laid}
use Rattle.a429_slots.specs.Moves.{AreApart, AreInside, HasOverlap, HaveCommonCell, IsInside, IsMoved, block_at, block_of, blocks_of, place_in}
use Rattle.a429_slots.specs.Tables.{Placed, SlotTable, demands_of, placed_at, share_of, unlimited, unplaced}
use Rattle.a429_slots.proofs.Columns.{length-table, map_where, mapped_at, placed_kept}
use Rattle.a429_slots.proofs.Moving.{block_cells, ends_of, no_block}
use Rattle.a429_slots.proofs.Stretches.{length-steps}

-- ---- blocks in order

-- the block of one of the outputs
pub record IsBlock (frame : ℕ) (places : List SlotPlace) (b : Block) : Type 0 where
  pub known : b.output < length places
  pub is : b ≡ block_of frame b.output (place_in places b.output)

-- what is known of blocks that were sorted
pub record AreSorted (frame : ℕ) (places : List SlotPlace) (blocks : List Block) : Type 0 where
  pub moved : IsPermutation (blocks_of frame places) blocks
  pub rising : IsNonDecreasingBy (λ b. b.begin) blocks
  pub names : (n : ℕ) (order : List ℕ) → IsPermutation (range_with_len 0 n) order → NamesEachOnce n order

module _ (frame : ℕ) (places : List SlotPlace) (blocks : List Block) (S : AreSorted frame places blocks) where
  pub many : length blocks ≡ length places
  many = length_permutation (blocks_of frame places) blocks S.moved ∙ length-map-range_with_len (λ o. block_of frame o (place_in places o)) 0 (length places)

  each_first : All (IsBlock frame places) (blocks_of frame places)
  each_first = All-from_get_or (IsBlock frame places) (blocks_of frame places) no_block (λ i below.
      let inside : i < length places = omega (arith, below, length-map-range_with_len (λ o. block_of frame o (place_in places o)) 0 (length places)) in
      let here : get_or (blocks_of frame places) i no_block ≡ block_of frame i (place_in places i) =
      get_or-map-range_with_len (λ o. block_of frame o (place_in places o)) 0 (length places) i i no_block inside (omega arith) in
      subst (IsBlock frame places) (sym here) (record { known = inside; is = refl }))

  each_block : All (IsBlock frame places) blocks
  each_block = All-permutation (IsBlock frame places) (blocks_of frame places) blocks S.moved each_first

  pub block_is : (k : ℕ) → k < length places → IsBlock frame places (block_at blocks k)
  block_is k below = All-get_or (IsBlock frame places) blocks k no_block (omega (arith, below, many)) each_block

  abbrev numbers : List ℕ
  numbers = map (λ (b : Block). b.output) blocks

  first_numbers : map (λ (b : Block). b.output) (blocks_of frame places) ≡ range_with_len 0 (length places)
  first_numbers = map-map (λ (b : Block). b.output) (λ o. block_of frame o (place_in places o)) (range_with_len 0 (length places)) ∙ map_same (range_with_len 0 (length places))
    where
      map_same : (xs : List ℕ) → map (λ (o : ℕ). o) xs ≡ xs
      map_same [] = refl
      map_same (x ∷ xs) = ap (λ (zs : List ℕ). x ∷ zs) (map_same xs)

  pub order_is : IsPermutation (range_with_len 0 (length places)) numbers
  order_is = subst (λ (xs : List ℕ). IsPermutation xs numbers) first_numbers (IsPermutation-map (λ (b : Block). b.output) (blocks_of frame places) blocks S.moved)

  pub number_at : (k : ℕ) → k < length places → get_or numbers k 0 ≡ (block_at blocks k).output
  number_at k below = get_or-map (λ (b : Block). b.output) blocks k no_block 0 (omega (arith, below, many))

  -- a block has a place, and ends with the last bus at most
  block_spans : frame ≤ 13 → All (IsInside frame 16) places → (k : ℕ) → k < length places → ((block_at blocks k).begin < (block_at blocks k).end) × ((block_at blocks k).end < 2 ^ 32)
  block_spans few inside k below =
      let b = block_is k below in
      let q : SlotPlace = place_in places (block_at blocks k).output in
      let in_q : IsInside frame 16 q = All-get_or (IsInside frame 16) places (block_at blocks k).output unplaced.place b.known inside in
      let begin : (block_at blocks k).begin ≡ q.bus * 2 ^ frame + reversed frame q.offset = ap (λ (z : Block). z.begin) b.is in
      let end : (block_at blocks k).end ≡ q.bus * 2 ^ frame + reversed frame q.offset + 2 ^ frame / 2 ^ q.period = ap (λ (z : Block). z.end) b.is in
      let fits : 2 ^ q.period ≤ 2 ^ frame = pow-le-pow_right {n = 2} (omega arith) {i = q.period} {j = frame} in_q.2 in
      let some : 1 ≤ 2 ^ frame / 2 ^ q.period = le-div 1 (2 ^ frame) (2 ^ q.period) (pow_pos q.period) (omega (arith, fits)) in
      let slots : 2 ^ frame ≤ 8192 = pow-le-pow_right {n = 2} (omega arith) {i = frame} {j = 13} few in
      let place : q.bus * 2 ^ frame + reversed frame q.offset < 2 ^ frame * 16 = mul-add-lt q.bus (2 ^ frame) (reversed frame q.offset) 16 in_q.0 (reversed_below frame q.offset) in
      (omega (arith, begin, end, some), omega (arith, end, place, slots, div-le_self (2 ^ frame) (2 ^ q.period)))

  pub each_span : frame ≤ 13 → All (IsInside frame 16) places → All (λ b. b.begin < b.end) blocks
  each_span few inside = All-from_get_or (λ (b : Block). b.begin < b.end) blocks no_block (λ k below. (block_spans few inside k (omega (arith, below, many))).0)

  pub each_end : frame ≤ 13 → All (IsInside frame 16) places → All (λ b. b.end < 2 ^ 32) blocks
  each_end few inside = All-from_get_or (λ (b : Block). b.end < 2 ^ 32) blocks no_block (λ k below. (block_spans few inside k (omega (arith, below, many))).1)

  -- two blocks that overlap belong to outputs with a common cell
  pub common_cell : HasPeriodicBlocks frame → All (IsInside frame 16) places → HasOverlap blocks → HaveCommonCell places
  common_cell B inside overlap =
      let (k, below, early) = overlap in
      let next : k + 1 < length places = omega (arith, below, many) in
      let here : k < length places = omega (arith, next) in
      let a = block_is k here in
      let b = block_is (k + 1) next in
      let x : ℕ = (block_at blocks k).output in
      let y : ℕ = (block_at blocks (k + 1)).output in
      let p : SlotPlace = place_in places x in
      let q : SlotPlace = place_in places y in
      let in_p : IsInside frame 16 p = All-get_or (IsInside frame 16) places x unplaced.place a.known inside in
      let in_q : IsInside frame 16 q = All-get_or (IsInside frame 16) places y unplaced.place b.known inside in
      let low : q.offset < 2 ^ frame = omega (arith, in_q.1, pow-le-pow_right {n = 2} (omega arith) {i = q.period} {j = frame} in_q.2) in
      let slot : q.offset % 2 ^ frame ≡ q.offset = mod-eq_of_lt {n = q.offset} {m = 2 ^ frame} low in
      let at : q.bus * 2 ^ frame + reversed frame (q.offset % 2 ^ frame) ≡ (block_at blocks (k + 1)).begin = ap (λ s. q.bus * 2 ^ frame + reversed frame s) slot ∙ ap (λ (z : Block). z.begin) (sym b.is) in
      let first : (block_at blocks k).begin ≡ p.bus * 2 ^ frame + reversed frame p.offset = ap (λ (z : Block). z.begin) a.is in
      let last : (block_at blocks k).end ≡ p.bus * 2 ^ frame + reversed frame p.offset + 2 ^ frame / 2 ^ p.period = ap (λ (z : Block). z.end) a.is in
      let up : (block_at blocks k).begin ≤ (block_at blocks (k + 1)).begin = S.rising k (k + 1) no_block (omega arith) below in
      let cell = (block_cells frame p.bus p.offset p.period B in_p.2 in_p.1 q.bus q.offset).0 (omega (arith, at, first, up), omega (arith, at, last, early)) in
      let once = S.names (length places) numbers order_is in
      record {
        first = x;
        second = y;
        other = λ same. absurd (omega (arith, once.once k (k + 1) here next (number_at k here ∙ same ∙ sym (number_at (k + 1) next))));
        first_known = a.known;
        second_known = b.known;
        bus = q.bus;
        slot = q.offset;
        in_first = (sym cell.0, cell.1);
        in_second = (refl, mod-eq_of_lt {n = q.offset} {m = 2 ^ q.period} in_q.1);
      }

-- ---- the columns

-- the columns of a table with other places, and its blocks in order
abbrev pub moved_in : {n : ℕ} → Inside n → List SlotPlace → List Block → Inside n
moved_in {n} p places blocks = record p {
  sums = steps_from 0 (ends_of blocks);
  laid = padded nothing_laid n (map laid_by blocks);
  on_bus = padded 0 n (map (λ (q : SlotPlace). q.bus) places);
  offsets = padded 0 n (map (λ (q : SlotPlace). q.offset) places);
}

-- what is known when the places of a table are changed
pub record AreMoved (n : ℕ) (p : Inside n) (places : List SlotPlace) (blocks : List Block) : Type 0 where
  pub old : AreColumns n p
  pub periods : map (λ (q : SlotPlace). q.period) places ≡ map (λ (o : Placed). o.place.period) (table_in p).outputs
  pub inside : AreInside (table_in p) places
  pub sorted : AreSorted p.frame places blocks
  pub apart : AreApart blocks
  pub blocks_periodic : HasPeriodicBlocks p.frame

module _ (n : ℕ) (p : Inside n) (places : List SlotPlace) (blocks : List Block) (M : AreMoved n p places blocks) where
  abbrev t : SlotTable
  t = table_in p

  abbrev u : SlotTable
  u = table_in (moved_in p places blocks)

  count : length places ≡ length p.sums
  count = sym (length-map places (λ (q : SlotPlace). q.period)) ∙ ap length M.periods ∙ length-map t.outputs (λ (o : Placed). o.place.period) ∙ length-table p

  count_blocks : length blocks ≡ length places
  count_blocks = many p.frame places blocks M.sorted

  count_sums : length (steps_from 0 (ends_of blocks)) ≡ length p.sums
  count_sums = length-steps 0 (ends_of blocks) ∙ length-map blocks (λ (b : Block). b.end) ∙ count_blocks ∙ count

  long : length u.outputs ≡ length places
  long = length-table (moved_in p places blocks) ∙ count_sums ∙ sym count

  long_old : length t.outputs ≡ length places
  long_old = length-table p ∙ sym count

  -- ---- the outputs

  place_at : (o : ℕ) → o < length places → (placed_at u o).place ≡ place_in places o
  place_at o below =
      let x : Placed = placed_in (moved_in p places blocks) o in
      let q : SlotPlace = place_in places o in
      let is : placed_at u o ≡ x = placed_kept (moved_in p places blocks) o (omega (arith, below, count_sums, count)) in
      let bus : x.place.bus ≡ q.bus =
      kept_read 0 n (map (λ (q : SlotPlace). q.bus) places) o (omega (arith, below, length-map places (λ (q : SlotPlace). q.bus))) ∙ get_or-map (λ (q : SlotPlace). q.bus) places o unplaced.place 0 below in
      let offset : x.place.offset ≡ q.offset =
      kept_read 0 n (map (λ (q : SlotPlace). q.offset) places) o (omega (arith, below, length-map places (λ (q : SlotPlace). q.offset))) ∙ get_or-map (λ (q : SlotPlace). q.offset) places o unplaced.place 0 below in
      let period : x.place.period ≡ q.period =
      ap (λ (y : Placed). y.place.period) (sym (placed_kept p o (omega (arith, below, count))))
      ∙ sym (mapped_at (λ (q : SlotPlace). q.period) (λ (y : Placed). y.place.period) places t.outputs o unplaced.place unplaced M.periods below (omega (arith, below, long_old))) in
      ap (λ (y : Placed). y.place) is ∙ (λ i. record { bus = bus i; offset = offset i; period = period i })

  at : map (λ (x : Placed). x.place) u.outputs ≡ places
  at = ext_get_or unplaced.place (map (λ (x : Placed). x.place) u.outputs) places (length-map u.outputs (λ (x : Placed). x.place) ∙ long) (λ o below.
      let inside : o < length places = omega (arith, below, length-map u.outputs (λ (x : Placed). x.place), long) in
      get_or-map (λ (x : Placed). x.place) u.outputs o unplaced unplaced.place (omega (arith, inside, long)) ∙ place_at o inside)

  same_part : {A : Type 0} (f : Placed → A) → ((o : ℕ) → f (placed_in (moved_in p places blocks) o) ≡ f (placed_in p o)) → map f u.outputs ≡ map f t.outputs
  same_part {A} f same =
      map-map f (placed_in (moved_in p places blocks)) (range_with_len 0 (length (steps_from 0 (ends_of blocks))))
      ∙ each (range_with_len 0 (length (steps_from 0 (ends_of blocks))))
      ∙ ap (λ (k : ℕ). map (λ o. f (placed_in p o)) (range_with_len 0 k)) count_sums
      ∙ sym (map-map f (placed_in p) (range_with_len 0 (length p.sums)))
    where
      each : (xs : List ℕ) → map (λ o. f (placed_in (moved_in p places blocks) o)) xs ≡ map (λ o. f (placed_in p o)) xs
      each [] = refl
      each (x ∷ xs) = ap₂ (λ (z : A) (zs : List A). z ∷ zs) (same x) (each xs)

  sources : map (λ (x : Placed). x.source) u.outputs ≡ map (λ (x : Placed). x.source) t.outputs
  sources = same_part (λ (x : Placed). x.source) (λ o. refl)

  limits : map (λ (x : Placed). x.limits) u.outputs ≡ map (λ (x : Placed). x.limits) t.outputs
  limits = same_part (λ (x : Placed). x.limits) (λ o. refl)

  periods : map (λ (x : Placed). x.place.period) u.outputs ≡ map (λ (x : Placed). x.place.period) t.outputs
  periods = same_part (λ (x : Placed). x.place.period) (λ o. refl)

  pub is_moved : IsMoved t u places
  is_moved = record { frame = refl; buses = refl; sources = sources; at = at; limits = limits }

  -- ---- the blocks

  order : u.order ≡ map (λ (b : Block). b.output) blocks
  order =
      ap (map (λ (x : LaidOutput). x.output))
      (padded-front nothing_laid n (map laid_by blocks) (length (steps_from 0 (ends_of blocks))) (length-map blocks laid_by ∙ count_blocks ∙ count ∙ sym count_sums))
      ∙ map-map (λ (x : LaidOutput). x.output) laid_by blocks

  order_at : (k : ℕ) → k < length places → get_or u.order k 0 ≡ (block_at blocks k).output
  order_at k below = ap (λ (xs : List ℕ). get_or xs k 0) order ∙ number_at p.frame places blocks M.sorted k below

  begin_at : (k : ℕ) → k < length places → begin_of u (block_at blocks k).output ≡ (block_at blocks k).begin
  begin_at k below =
      let b = block_is p.frame places blocks M.sorted k below in
      ap (λ (q : SlotPlace). q.bus * 2 ^ p.frame + reversed p.frame q.offset) (place_at (block_at blocks k).output b.known) ∙ ap (λ (z : Block). z.begin) (sym b.is)

  end_at : (k : ℕ) → k < length places → end_of u (block_at blocks k).output ≡ (block_at blocks k).end
  end_at k below =
      let b = block_is p.frame places blocks M.sorted k below in
      ap (λ (q : SlotPlace). q.bus * 2 ^ p.frame + reversed p.frame q.offset + 2 ^ p.frame / 2 ^ q.period) (place_at (block_at blocks k).output b.known) ∙ ap (λ (z : Block). z.end) (sym b.is)

  -- what is so of the block of each output, in the order of the blocks
  each_in_order : {A : Type 0} (d : A) (f : ℕ → A) (part : Block → A) → ((k : ℕ) → k < length places → f (block_at blocks k).output ≡ part (block_at blocks k)) → map f u.order ≡ map part blocks
  each_in_order d f part same =
      let long_order : length u.order ≡ length places = ap length order ∙ length-map blocks (λ (b : Block). b.output) ∙ count_blocks in
      ext_get_or d (map f u.order) (map part blocks) (length-map u.order f ∙ long_order ∙ sym (length-map blocks part ∙ count_blocks)) (λ k below.
      let inside : k < length places = omega (arith, below, length-map u.order f, long_order) in
      get_or-map f u.order k 0 d (omega (arith, inside, long_order)) ∙ ap f (order_at k inside) ∙ same k inside
      ∙ sym (get_or-map part blocks k no_block d (omega (arith, inside, count_blocks))))

  laid : map (laid_in u) u.order ≡ map laid_by blocks
  laid = each_in_order nothing_laid (laid_in u) laid_by (λ k below. ap (λ (x : ℕ). record { output = (block_at blocks k).output; begin = x }) (begin_at k below))

  ends : map (end_of u) u.order ≡ ends_of blocks
  ends = each_in_order 0 (end_of u) (λ (b : Block). b.end) end_at

  -- ---- the table

  in_place : (o : ℕ) → o < length places → IsInside p.frame p.buses (place_in places o)
  in_place o below = All-get_or (IsInside p.frame p.buses) places o unplaced.place below M.inside

  order_moved : IsPermutation (range_with_len 0 (length u.outputs)) u.order
  order_moved =
      subst (λ (m : ℕ). IsPermutation (range_with_len 0 m) u.order) (sym long)
      (subst (λ (is : List ℕ). IsPermutation (range_with_len 0 (length places)) is) (sym order) (order_is p.frame places blocks M.sorted))

  -- a block has just the cells of its place
  abbrev HoldsAt : SlotPlace → Type 0
  HoldsAt z =
      IsExactlyPeriodic
      (λ row slot.
      (z.bus * 2 ^ p.frame + reversed p.frame z.offset ≤ row * 2 ^ p.frame + reversed p.frame (slot % 2 ^ p.frame))
      × (row * 2 ^ p.frame + reversed p.frame (slot % 2 ^ p.frame) < z.bus * 2 ^ p.frame + reversed p.frame z.offset + 2 ^ p.frame / 2 ^ z.period))
      z.bus z.offset (2 ^ z.period)

  periodic : (o : ℕ) → o < length places → HoldsJustItsCells u o
  periodic o below =
      let q : SlotPlace = place_in places o in
      let in_q = in_place o below in
      subst (λ (z : SlotPlace). HoldsAt z) (sym (place_at o below)) (record {
        within = in_q.1;
        cells = λ row slot. block_cells p.frame q.bus q.offset q.period M.blocks_periodic in_q.2 in_q.1 row slot;
      })

  pub is_table : IsTable n u
  is_table = record {
    room = omega (arith, long, long_old, M.old.table.room);
    frame = M.old.table.frame;
    few = M.old.table.few;
    order = order_moved;
    within = λ o below. subst (λ (q : SlotPlace). q.period ≤ p.frame) (sym (place_at o (omega (arith, below, long)))) (in_place o (omega (arith, below, long))).2;
    on_bus = λ o below. subst (λ (q : SlotPlace). q.bus < p.buses) (sym (place_at o (omega (arith, below, long)))) (in_place o (omega (arith, below, long))).0;
    spaced = λ o below.
        let same : (placed_at u o).limits ≡ (placed_at t o).limits =
        mapped_at (λ (x : Placed). x.limits) (λ (x : Placed). x.limits) u.outputs t.outputs o unplaced unplaced limits below (omega (arith, below, long, long_old)) in
        subst (λ (l : SendLimits). 1 ≤ l.spacing) (sym same) (M.old.table.spaced o (omega (arith, below, long, long_old)));
    periodic = λ o below. periodic o (omega (arith, below, long));
    follow = λ k below.
        let next : k + 1 < length places = omega (arith, below, long) in
        let here : k < length places = omega (arith, next) in
        omega (arith, ap (end_of u) (order_at k here), end_at k here, ap (begin_of u) (order_at (k + 1) next), begin_at (k + 1) next, M.apart k (omega (arith, next, count_blocks)));
  }

  -- the cells of a frame that are filled
  shares : (o : ℕ) → o < length places → share_of u o ≡ share_of t o
  shares o below =
      ap (λ e. 2 ^ p.frame / 2 ^ e)
      (mapped_at (λ (x : Placed). x.place.period) (λ (x : Placed). x.place.period) u.outputs t.outputs o unplaced unplaced periods (omega (arith, below, long)) (omega (arith, below, long_old)))

  all_shares : map (share_of u) (range_with_len 0 (length places)) ≡ map (share_of t) (range_with_len 0 (length places))
  all_shares =
      map_where (share_of u) (share_of t) (range_with_len 0 (length places)) (λ k below.
      let inside : k < length places = omega (arith, below, length-range_with_len 0 (length places)) in
      let here : get_or (range_with_len 0 (length places)) k 0 ≡ k = get_or-range_with_len 0 (length places) k 0 inside ∙ omega arith in
      ap (share_of u) here ∙ shares k inside ∙ sym (ap (share_of t) here))

  filled : sum (demands_of u) ≡ sum (demands_of t)
  filled =
      sum-map (share_of u) u.order ∙ sum_by-IsPermutation (share_of u) (range_with_len 0 (length u.outputs)) u.order order_moved
      ∙ ap (λ (m : ℕ). sum_by (share_of u) (range_with_len 0 m)) long
      ∙ sym (sum-map (share_of u) (range_with_len 0 (length places))) ∙ ap sum all_shares ∙ sum-map (share_of t) (range_with_len 0 (length places))
      ∙ ap (λ (m : ℕ). sum_by (share_of t) (range_with_len 0 m)) (sym long_old)
      ∙ sym (sum-map (share_of t) t.order ∙ sum_by-IsPermutation (share_of t) (range_with_len 0 (length t.outputs)) t.order M.old.table.order)

  pub are_columns : AreColumns n (moved_in p places blocks)
  are_columns = record {
    kept = λ i. record {
      frame = p.frame;
      buses = p.buses;
      sums = ap (steps_from 0) ends i;
      filled = (filled ∙ ap (λ (q : Inside n). q.filled) M.old.kept) i;
      laid = ap (padded nothing_laid n) laid i;
      sources = (ap (padded 0 n) sources ∙ ap (λ (q : Inside n). q.sources) M.old.kept) i;
      on_bus = ap (padded 0 n) (column (λ (q : SlotPlace). q.bus)) i;
      offsets = ap (padded 0 n) (column (λ (q : SlotPlace). q.offset)) i;
      periods = (ap (padded 0 n) periods ∙ ap (λ (q : Inside n). q.periods) M.old.kept) i;
      limits = (ap (padded unlimited n) limits ∙ ap (λ (q : Inside n). q.limits) M.old.kept) i;
    };
    table = is_table;
  }
    where
      column : (f : SlotPlace → ℕ) → map (λ (x : Placed). f x.place) u.outputs ≡ map f places
      column f = sym (map-map f (λ (x : Placed). x.place) u.outputs) ∙ ap (map f) at
