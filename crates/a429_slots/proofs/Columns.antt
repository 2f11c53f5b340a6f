-- Arrays that are written place by place, and the table that a `GroupPlan` keeps in them.
use Rattle.std.proofs.Common.{◌≡◌, ℕ, suc, ◌+◌, ◌-◌, ◌<◌, ◌≤◌, List, ◌∷◌, [], ◌++◌, length, take, get_or, map, replicate, arith, refl, ap, ◌∙◌, sym, inl, inr, length-append}
use Rattle.std.specs.Prelude.{Some, option_map, slice_get}
use Rattle.std.specs.List.{range_with_len}
use Rattle.std.proofs.Math.ListN.{set}
use Rattle.std.proofs.lemmas.Bool.{cases_eq, cases_lt}
use Rattle.std.proofs.lemmas.List.{ext_get_or, get_or-append_right, get_or-map, get_or-replicate, get_or-take, get_or_past, get_or-set_same, get_or-set_other, length-map, length-replicate, length-take-le, map_more, take_more}
use Rattle.std.proofs.lemmas.List.FromFn.{fill_by_all, get_or-map-range_with_len, length-map-range_with_len}
use Rattle.std.proofs.lemmas.Option.{same_Some, slice_get-get_or}
use Rattle.std.proofs.lemmas.Simd.{map-map}
use Rattle.a429_pack.specs.Kept.{padded}
use Rattle.a429_pack.specs.Orders.{NamesEachOnce}
use Rattle.a429_pack.proofs.Tables.{kept_read, padded-set}
use Rattle.a429_slots.specs.declared.group_plan.GroupPlan.TheInside.{Inside}
use Rattle.a429_slots.specs.Columns.{AreColumns, placed_in, table_in}
use Rattle.a429_slots.specs.Kept.{stretches_of}
use Rattle.a429_slots.specs.Laid.{laid_in, nothing_laid}
use Rattle.a429_slots.specs.Tables.{Placed, SlotTable, placed_at, unplaced}

-- ---- lists of equal length

pub map_where : (f g : ℕ → ℕ) (xs : List ℕ) → ((k : ℕ) → k < length xs → f (get_or xs k 0) ≡ g (get_or xs k 0)) → map f xs ≡ map g xs
map_where f g [] same = refl
map_where f g (x ∷ xs) same = ap (λ z. z ∷ map f xs) (same 0 (omega arith)) ∙ ap (λ zs. g x ∷ zs) (map_where f g xs (λ k below. same (suc k) (omega arith)))

pub mapped_at : {A B C : Type 0} (f : A → C) (g : B → C) (xs : List A) (ys : List B) (i : ℕ) (d : A) (e : B) → map f xs ≡ map g ys → i < length xs → i < length ys
    → f (get_or xs i d) ≡ g (get_or ys i e)
mapped_at f g xs ys i d e same here there = sym (get_or-map f xs i d (f d) here) ∙ ap (λ zs. get_or zs i (f d)) same ∙ get_or-map g ys i e (f d) there

-- a value that is there is the same under any default
pub one_value : {A : Type 0} (xs : List A) (i : ℕ) (d e : A) → i < length xs → get_or xs i d ≡ get_or xs i e
one_value xs i d e below = same_Some (get_or xs i d) (get_or xs i e) (sym (slice_get-get_or xs i d below) ∙ slice_get-get_or xs i e below)

-- ---- arrays that are filled from the front

-- one value more after the first i
pub padded_more : {A : Type 0} (d : A) (n : ℕ) (xs ys : List A) (i : ℕ) (x : A) → i < n → length ys ≡ i → xs ≡ padded d n ys → set xs i x ≡ padded d n (ys ++ x ∷ [])
padded_more d n xs ys i x room long same = ap (λ zs. set zs i x) same ∙ ap (λ k. set (padded d n ys) k x) (sym long) ∙ padded-set d n ys x (omega arith)

pub copied_more : (n : ℕ) (xs ys : List ℕ) (i x : ℕ) → i < n → i < length ys → xs ≡ padded 0 n (take i ys) → x ≡ get_or ys i 0 → set xs i x ≡ padded 0 n (take (i + 1) ys)
copied_more n xs ys i x room there old is =
    padded_more 0 n xs (take i ys) i x room (length-take-le i ys (omega arith)) old
    ∙ ap (λ z. padded 0 n (take i ys ++ z ∷ [])) is ∙ ap (padded 0 n) (sym (take_more ys i 0 there))

pub mapped_more : {A B : Type 0} (b : B) (n : ℕ) (f : A → B) (xs : List B) (ys : List A) (i : ℕ) (x : B) (d : A) → i < n → i < length ys → xs ≡ padded b n (map f (take i ys)) → x ≡ f (get_or ys i d)
    → set xs i x ≡ padded b n (map f (take (i + 1) ys))
mapped_more b n f xs ys i x d room there old is =
    padded_more b n xs (map f (take i ys)) i x room (length-map (take i ys) f ∙ length-take-le i ys (omega arith)) old
    ∙ ap (λ z. padded b n (map f (take i ys) ++ z ∷ [])) is ∙ ap (padded b n) (sym (map_more f ys i d there))

-- ---- arrays that are filled in another order

-- one more number at the place that the order says, for the place i
pub placed_more : (n : ℕ) (order xs : List ℕ) (f : ℕ → ℕ) (i o x : ℕ) → NamesEachOnce n order → i < n → o ≡ get_or order i 0 → o < length xs → x ≡ f i
    → ((k : ℕ) → k < i → get_or xs (get_or order k 0) 0 ≡ f k) → (k : ℕ) → k < i + 1 → get_or (set xs o x) (get_or order k 0) 0 ≡ f k
placed_more n order xs f i o x each below is inside value old k less = elim (cases_eq k i) [
  | inl same ↦
      let here : get_or order k 0 ≡ o = ap (λ z. get_or order z 0) same ∙ sym is in
      ap (λ z. get_or (set xs o x) z 0) here ∙ get_or-set_same xs o x 0 inside ∙ value ∙ ap f (sym same)
  | inr other ↦
      get_or-set_other xs o (get_or order k 0) x 0 (λ same. other (each.once k i (omega arith) below (same ∙ is))) ∙ old k (omega arith)
]

-- no place from this one on is written
abbrev pub AreZeroFrom : ℕ → List ℕ → Type 0
AreZeroFrom count xs = (k : ℕ) → count ≤ k → get_or xs k 0 ≡ 0

pub zeros : (n k : ℕ) → get_or (replicate {A = ℕ} n 0) k 0 ≡ 0
zeros n k = elim (cases_lt k n) [
  | inl below ↦ get_or-replicate {A = ℕ} n k 0 0 below
  | inr past ↦ get_or_past (replicate {A = ℕ} n 0) k 0 (omega (arith, length-replicate {A = ℕ} n 0))
]

pub zeros_more : (count : ℕ) (xs : List ℕ) (o x : ℕ) → o < count → AreZeroFrom count xs → AreZeroFrom count (set xs o x)
zeros_more count xs o x below old k past = get_or-set_other xs o k x 0 (λ same. absurd (omega (arith, same))) ∙ old k past

pub kept_from_zeros : (n count : ℕ) (xs : List ℕ) → length xs ≡ n → count ≤ n → AreZeroFrom count xs → xs ≡ padded 0 n (take count xs)
kept_from_zeros n count xs long few rest =
    let front : length (take count xs) ≡ count = length-take-le count xs (omega arith) in
    let same : length xs ≡ length (padded 0 n (take count xs)) =
    omega (arith, long, front, length-append (take count xs) (replicate (n - length (take count xs)) 0), length-replicate {A = ℕ} (n - length (take count xs)) 0) in
    ext_get_or 0 xs (padded 0 n (take count xs)) same (λ k below. elim (cases_lt k count) [
      | inl used ↦ sym (kept_read 0 n (take count xs) k (omega arith) ∙ get_or-take count xs k 0 used)
      | inr past ↦
          rest k past
          ∙ sym (get_or-append_right (take count xs) (replicate (n - length (take count xs)) 0) count k 0 front past ∙ zeros (n - length (take count xs)) (k - count))
    ])

-- ---- the table in the columns

pub length-table : {n : ℕ} (p : Inside n) → length (table_in p).outputs ≡ length p.sums
length-table p = length-map-range_with_len (placed_in p) 0 (length p.sums)

pub placed_kept : {n : ℕ} (p : Inside n) (o : ℕ) → o < length p.sums → placed_at (table_in p) o ≡ placed_in p o
placed_kept p o below = get_or-map-range_with_len (placed_in p) 0 (length p.sums) o o unplaced below (omega arith)

pub output_kept : {n : ℕ} (p : Inside n) (o : ℕ) → o < length p.sums → slice_get (table_in p).outputs o ≡ Some (placed_in p o)
output_kept p o below =
    slice_get-get_or (table_in p).outputs o unplaced (omega (arith, length-table p)) ∙ ap (λ x. Some x) (placed_kept p o below)

-- the same of the table that contracts see
pub count_kept : {n : ℕ} (p : Inside n) (t : SlotTable) → table_in p ≡ t → length p.sums ≡ length t.outputs
count_kept p t is = sym (length-table p) ∙ ap (λ (u : SlotTable). length u.outputs) is

pub part_kept : {n : ℕ} {A : Type 0} (f : Placed → A) (p : Inside n) (t : SlotTable) (o : ℕ) → table_in p ≡ t → o < length p.sums → option_map f (slice_get t.outputs o) ≡ Some (f (placed_in p o))
part_kept f p t o is below = ap (λ (u : SlotTable). option_map f (slice_get u.outputs o)) (sym is) ∙ ap (option_map f) (output_kept p o below)

-- the running sums are those of the table's stretches
pub sums_kept : {n : ℕ} (p : Inside n) → AreColumns n p → p.sums ≡ stretches_of (table_in p)
sums_kept {n} p w = sym (ap (λ (q : Inside n). q.sums) w.kept)

-- the output at a place of the order, and the begin of its block
pub laid_kept : {n : ℕ} (p : Inside n) → AreColumns n p → (k : ℕ) → k < length (table_in p).order
    → get_or p.laid k nothing_laid ≡ laid_in (table_in p) (get_or (table_in p).order k 0)
laid_kept {n} p w k below =
    ap (λ (q : Inside n). get_or q.laid k nothing_laid) (sym w.kept)
    ∙ kept_read nothing_laid n (map (laid_in (table_in p)) (table_in p).order) k (omega (arith, below, length-map (table_in p).order (laid_in (table_in p))))
    ∙ get_or-map (laid_in (table_in p)) (table_in p).order k 0 nothing_laid below

-- the values of a column are the parts of the outputs
pub column_is : {A : Type 0} (d : A) (n count : ℕ) (f : Placed → A) (at : ℕ → Placed) (xs ys : List A) → ((o : ℕ) → f (at o) ≡ get_or xs o d) → xs ≡ padded d n ys → length ys ≡ count
    → map f (map at (range_with_len 0 count)) ≡ ys
column_is d n count f at xs ys part same long =
    map-map f at (range_with_len 0 count)
    ∙ sym (fill_by_all (λ o. f (at o)) ys count d long (λ k below. sym (part k ∙ ap (λ zs. get_or zs k d) same ∙ kept_read d n ys k (omega arith))))
