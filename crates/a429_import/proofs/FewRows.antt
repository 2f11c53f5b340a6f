-- Rows with not too much of anything are taken one after the other.
use Rattle.std.proofs.Common.{◌≡◌, ◌∙◌, ℕ, ◌+◌, ◌≤◌, Bool, true, false, cond, List, [], ◌∷◌, ◌++◌, append-nil, append_assoc, length, length-append, None, ap, arith, le-ltb, refl, subst, sym}
use Rattle.std.specs.Prelude.{◌&&◌, filter, nat_lt}
use Rattle.std.specs.List.{count_by}
use Rattle.std.proofs.lemmas.List.Elements.{filter-append}
use Rattle.std.proofs.lemmas.List.Sums.{sum_by_push}
use Rattle.a429_import.specs.declared.firsts.Part.{Part}
use Rattle.a429_import.specs.declared.firsts.Part.TheVariants.{Groups, Receivers, Sources}
use Rattle.a429_import.specs.declared.rows.ImportRow.{ImportRow}
use Rattle.a429_import.specs.ImportLimits.{has_too_many_filters, too_many}
use Rattle.a429_import.specs.ImportTables.{firsts, groups_of, has_group, same_name, unless_known}
use Rattle.a429_import.proofs.Knowing.{firsts_push}

-- rows have as many receivers, sources and groups as a table may have
pub record HasFew (rows : List ImportRow) : Type 0 where
  pub receivers : length (firsts Receivers rows) ≤ 16
  pub sources : length (firsts Sources rows) ≤ 256
  pub groups : length (groups_of rows) ≤ 8

-- what does not fall with one more row does not fall with more rows
grows : (size : List ImportRow → ℕ) → ((xs : List ImportRow) (y : ImportRow) → size xs ≤ size (xs ++ y ∷ [])) → (xs ys : List ImportRow) → size xs ≤ size (xs ++ ys)
grows size each xs [] = subst (λ (zs : List ImportRow). size xs ≤ size zs) (sym (append-nil xs)) (omega arith)
grows size each xs (y ∷ ys) =
    let here = each xs y in
    let rest = grows size each (xs ++ y ∷ []) ys in
    subst (λ (zs : List ImportRow). size xs ≤ size zs) (append_assoc xs (y ∷ []) ys) (omega (arith, here, rest))

first_more : (part : Part) (rows : List ImportRow) (row : ImportRow) → length (firsts part rows) ≤ length (firsts part (rows ++ row ∷ []))
first_more part rows row =
    let long : length (firsts part (rows ++ row ∷ [])) ≡ length (firsts part rows) + length (unless_known part rows row) =
    ap length (firsts_push part rows row) ∙ length-append (firsts part rows) (unless_known part rows row) in
    omega (arith, long)

group_more : (rows : List ImportRow) (row : ImportRow) → length (groups_of rows) ≤ length (groups_of (rows ++ row ∷ []))
group_more rows row =
    let new : List ImportRow = filter has_group (unless_known Groups rows row) in
    let long : length (groups_of (rows ++ row ∷ [])) ≡ length (groups_of rows) + length new =
    ap length (ap (filter has_group) (firsts_push Groups rows row) ∙ filter-append has_group (firsts Groups rows) (unless_known Groups rows row)) ∙ length-append (groups_of rows) new in
    omega (arith, long)

output_more : (group : ImportRow) (rows : List ImportRow) (row : ImportRow) → count_by (same_name Groups group) rows ≤ count_by (same_name Groups group) (rows ++ row ∷ [])
output_more group rows row =
    let more : count_by (same_name Groups group) (rows ++ row ∷ []) ≡ count_by (same_name Groups group) rows + cond (same_name Groups group row) 1 0 =
    sum_by_push (λ r. cond (same_name Groups group r) 1 0) rows row in
    omega (arith, more)

none_above : (b : Bool) → (b && false) ≡ false
none_above true = refl
none_above false = refl

-- none of these rows is one too many, and each is taken after those before it
pub none_too_many : (earlier : List ImportRow) (row : ImportRow) (rest : List ImportRow) → HasFew ((earlier ++ row ∷ []) ++ rest) → count_by (same_name Groups row) ((earlier ++ row ∷ []) ++ rest) ≤ 128
    → has_too_many_filters row ≡ false → too_many (earlier ++ row ∷ []) row ≡ None
unfolding too_many
none_too_many earlier row rest few outputs filters =
    let all : List ImportRow = earlier ++ row ∷ [] in
    let receivers : nat_lt 16 (length (firsts Receivers all)) ≡ false = let more = grows (λ xs. length (firsts Receivers xs)) (first_more Receivers) all rest in le-ltb 16 _ (omega (arith, more, few.receivers)) in
    let sources : nat_lt 256 (length (firsts Sources all)) ≡ false = let more = grows (λ xs. length (firsts Sources xs)) (first_more Sources) all rest in le-ltb 256 _ (omega (arith, more, few.sources)) in
    let groups : nat_lt 8 (length (groups_of all)) ≡ false = let more = grows (λ xs. length (groups_of xs)) group_more all rest in le-ltb 8 _ (omega (arith, more, few.groups)) in
    let own : nat_lt 128 (count_by (same_name Groups row) all) ≡ false = let more = grows (λ xs. count_by (same_name Groups row) xs) (output_more row) all rest in le-ltb 128 _ (omega (arith, more, outputs)) in
    rw (receivers, sources, groups, own, none_above (has_group row), filters) refl
