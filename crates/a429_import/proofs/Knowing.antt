-- What is known of the names of rows, with one more row.
use Rattle.std.proofs.Common.{◌≡◌, ◌∙◌, ℕ, zero, suc, ◌+◌, ◌<◌, ◌||◌, Bool, true, false, cond, List, [], ◌∷◌, ◌++◌, append_assoc, map, get_or, length, Option, None, Some, option_map, ap, ap₂, arith, inl, inr, ◌⊎◌, refl, subst, sym}
use Rattle.std.specs.Prelude.{is_some, position, slice_get, string_bytes, String}
use Rattle.std.specs.declared.alloc.Global.{Global}
use Rattle.std.specs.List.{AllZip, list_any, position_from}
use Rattle.std.specs.Option.{option_or}
use Rattle.std.specs.Str.{bytes_eq}
use Rattle.std.proofs.lemmas.Iterator.Adapters.{position_from-zero}
use Rattle.indexmap.proofs.CallerLemmas.{insert_entry-new}
use Rattle.indexmap.specs.IndexMap.{get, get_by_text, insert_entry, keys}
use Rattle.std.proofs.lemmas.List.{append-nil, length-map, map-append}
use Rattle.std.proofs.lemmas.Map.Text.{hash_map_text_same}
use Rattle.std.specs.String.{string_eq}
use Rattle.std.proofs.lemmas.Option.{same_Some, slice_get-map, slice_get_within}
use Rattle.std.proofs.lemmas.Slice.Eq.{bytes_eq-Decides}
use Rattle.std.proofs.Math.ListN.{get_or-append}
use Rattle.std.proofs.Math.Seq.{get_or-append_seam}
use Rattle.a429_word.proofs.Lists.{get_within}
use Rattle.a429_import.specs.declared.firsts.Part.{Part}
use Rattle.a429_import.specs.declared.firsts.Part.TheVariants.{Receivers, Sources, Groups}
use Rattle.a429_import.specs.declared.indexed_rows.IndexedRows.{IndexedRows}
use Rattle.a429_import.specs.declared.indexed_rows.NamedRows.{NamedRows}
use Rattle.a429_import.specs.declared.rows.ImportRow.{ImportRow}
use Rattle.a429_import.specs.ImportTables.{firsts, firsts_after, is_known, name_in, unless_known}
use Rattle.a429_import.specs.IndexedRows.{IsIndexed, IndexesFirsts, IndexesMore, first_from, named_of, names_of, numbers_of, place_of}
use Rattle.a429_import.proofs.FirstRows.{bytes_eq-flip, position_from-push}

-- ---- the first rows, with one more row

firsts_after-push : (part : Part) (earlier rows : List ImportRow) (row : ImportRow) → firsts_after part earlier (rows ++ row ∷ []) ≡ firsts_after part earlier rows ++ unless_known part (earlier ++ rows) row
firsts_after-push part earlier [] row =
    append-nil (unless_known part earlier row) ∙ ap (λ (es : List ImportRow). unless_known part es row) (sym (append-nil earlier))
firsts_after-push part earlier (r ∷ rows) row =
    ap (λ (rs : List ImportRow). unless_known part earlier r ++ rs)
    (firsts_after-push part (earlier ++ r ∷ []) rows row ∙ ap (λ (es : List ImportRow). firsts_after part (earlier ++ r ∷ []) rows ++ unless_known part es row) (append_assoc earlier (r ∷ []) rows))
    ∙ sym (append_assoc (unless_known part earlier r) (firsts_after part (earlier ++ r ∷ []) rows) (unless_known part (earlier ++ r ∷ rows) row))

pub firsts_push : (part : Part) (rows : List ImportRow) (row : ImportRow) → firsts part (rows ++ row ∷ []) ≡ firsts part rows ++ unless_known part rows row
firsts_push part rows row = firsts_after-push part [] rows row

any_is_some : {X : Type 0} (p q : X → Bool) → ((x : X) → p x ≡ q x) → (i : ℕ) (xs : List X) → list_any p xs ≡ is_some (position_from q i xs)
any_is_some p q same i [] = refl
any_is_some p q same i (x ∷ xs) = ap (λ b. b || list_any p xs) (same x) ∙ by (q x) (any_is_some p q same (i + 1) xs)
  where
    by : (b : Bool) → list_any p xs ≡ is_some (position_from q (i + 1) xs) → (b || list_any p xs) ≡ is_some (cond b (Some i) (position_from q (i + 1) xs))
    by true rest = refl
    by false rest = rest

known_if : (part : Part) (rows : List ImportRow) (row : ImportRow) → is_known part rows row ≡ is_some (first_from part (name_in part row) 0 rows)
known_if part rows row =
    any_is_some (λ r. bytes_eq (name_in part r) (name_in part row)) (λ r. bytes_eq (name_in part row) (name_in part r)) (λ r. bytes_eq-flip (name_in part r) (name_in part row)) 0 rows

pub firsts_new : (part : Part) (rows : List ImportRow) (row : ImportRow) → first_from part (name_in part row) 0 rows ≡ None → firsts part (rows ++ row ∷ []) ≡ firsts part rows ++ row ∷ []
firsts_new part rows row none =
    firsts_push part rows row ∙ ap (λ (b : Bool). firsts part rows ++ cond b [] (row ∷ [])) (known_if part rows row ∙ ap is_some none)

pub firsts_old : (part : Part) (rows : List ImportRow) (row : ImportRow) (k : ℕ) → first_from part (name_in part row) 0 rows ≡ Some k → firsts part (rows ++ row ∷ []) ≡ firsts part rows
firsts_old part rows row k there =
    firsts_push part rows row ∙ ap (λ (b : Bool). firsts part rows ++ cond b [] (row ∷ [])) (known_if part rows row ∙ ap is_some there) ∙ append-nil (firsts part rows)

-- ---- lists

slice_get-more : {X : Type 0} (xs : List X) (y x : X) (i : ℕ) → slice_get xs i ≡ Some x → slice_get (xs ++ y ∷ []) i ≡ Some x
slice_get-more [] y x i h = cc
slice_get-more (z ∷ xs) y x zero h = h
slice_get-more (z ∷ xs) y x (suc i) h = slice_get-more xs y x i h

slice_get-last : {X : Type 0} (xs : List X) (y : X) → slice_get (xs ++ y ∷ []) (length xs) ≡ Some y
slice_get-last [] y = refl
slice_get-last (x ∷ xs) y = slice_get-last xs y

pub last_or_before : {X : Type 0} (xs : List X) (y x : X) (i : ℕ) → slice_get (xs ++ y ∷ []) i ≡ Some x → (slice_get xs i ≡ Some x) ⊎ ((i ≡ length xs) × (y ≡ x))
last_or_before [] y x zero h = inr (refl, same_Some y x h)
last_or_before [] y x (suc i) h = cc
last_or_before (z ∷ xs) y x zero h = inl h
last_or_before (z ∷ xs) y x (suc i) h = elim (last_or_before xs y x i h) [
  | inl before ↦ inl before
  | inr here ↦ inr (ap suc here.0, here.1)
]

pub zip_push : {A B : Type 0} (R : A → B → Type 0) (xs : List A) (ys : List B) (x : A) (y : B) → AllZip R xs ys → R x y → AllZip R (xs ++ x ∷ []) (ys ++ y ∷ [])
zip_push R [] [] x y all here = (here, tt)
zip_push R [] (b ∷ ys) x y all here = absurd all
zip_push R (a ∷ xs) [] x y all here = absurd all
zip_push R (a ∷ xs) (b ∷ ys) x y all here = (all.0, zip_push R xs ys x y all.1 here)

listed_more : (rows : List ImportRow) (row : ImportRow) (numbers : List ℕ) (fs : List ImportRow) → AllZip (λ k r. slice_get rows k ≡ Some r) numbers fs → AllZip (λ k r. slice_get (rows ++ row ∷ []) k ≡ Some r) numbers fs
listed_more rows row [] [] all = tt
listed_more rows row [] (f ∷ fs) all = absurd all
listed_more rows row (k ∷ numbers) [] all = absurd all
listed_more rows row (k ∷ numbers) (f ∷ fs) all = (slice_get-more rows row f k all.0, listed_more rows row numbers fs all.1)

listed_at : (rows : List ImportRow) (numbers : List ℕ) (fs : List ImportRow) (i : ℕ) (f : ImportRow) → AllZip (λ k r. slice_get rows k ≡ Some r) numbers fs → slice_get fs i ≡ Some f → slice_get rows (get_or numbers i 0) ≡ Some f
listed_at rows [] [] i f all h = cc
listed_at rows [] (g ∷ fs) i f all h = absurd all
listed_at rows (k ∷ numbers) [] i f all h = absurd all
listed_at rows (k ∷ numbers) (g ∷ fs) zero f all h = all.0 ∙ h
listed_at rows (k ∷ numbers) (g ∷ fs) (suc i) f all h = listed_at rows numbers fs i f all.1 h

zip_length : {A B : Type 0} (R : A → B → Type 0) (xs : List A) (ys : List B) → AllZip R xs ys → length xs ≡ length ys
zip_length R [] [] all = refl
zip_length R [] (b ∷ ys) all = absurd all
zip_length R (a ∷ xs) [] all = absurd all
zip_length R (a ∷ xs) (b ∷ ys) all = ap suc (zip_length R xs ys all.1)

-- what a search finds
pub record FoundHere {X : Type 0} (p : X → Bool) (n : ℕ) (xs : List X) (m : ℕ) : Type 0 where
  pub at : ℕ
  pub counted : m ≡ n + at
  pub element : X
  pub there : slice_get xs at ≡ Some element
  pub passes : p element ≡ true

pub found_here : {X : Type 0} (p : X → Bool) (n : ℕ) (xs : List X) (m : ℕ) → position_from p n xs ≡ Some m → FoundHere p n xs m
found_here p n [] m h = cc
found_here {X} p n (x ∷ xs) m h = by (p x) refl h (found_here p (n + 1) xs m)
  where
    by : (b : Bool) → p x ≡ b → cond b (Some n) (position_from p (n + 1) xs) ≡ Some m → (position_from p (n + 1) xs ≡ Some m → FoundHere p (n + 1) xs m) → FoundHere p n (x ∷ xs) m
    by true e k rest = let same : n ≡ m = same_Some n m k in record { at = 0; counted = omega arith; element = x; there = refl; passes = e }
    by false e k rest = let later = rest k in record { at = suc later.at; counted = omega (arith, later.counted); element = later.element; there = later.there; passes = later.passes }

-- the first row at a place
pub first_there : (part : Part) (named : NamedRows) (rows : List ImportRow) (place : ℕ) → IndexesFirsts part named rows → place < length (names_of named)
    → (row : ImportRow) × (slice_get (firsts part rows) place ≡ Some row) × (slice_get rows (get_or (numbers_of named) place 0) ≡ Some row)
first_there part named rows place known within =
    let many : length (names_of named) ≡ length (firsts part rows) = ap length known.names ∙ length-map (firsts part rows) (name_in part) in
    let (row, first) = get_within (firsts part rows) place (omega arith) in
    (row, first, listed_at rows (numbers_of named) (firsts part rows) place row known.listed first)

-- ---- a name that is known

pub record IsKnownAt (part : Part) (named : NamedRows) (rows : List ImportRow) (name : List ℕ) (place : ℕ) : Type 0 where
  pub row : ImportRow
  pub first : slice_get (firsts part rows) place ≡ Some row
  pub there : slice_get rows (get_or (numbers_of named) place 0) ≡ Some row
  pub is_named : name_in part row ≡ name
  pub number : first_from part name 0 rows ≡ Some (get_or (numbers_of named) place 0)

pub known_at : (part : Part) (named : NamedRows) (rows : List ImportRow) (name : List ℕ) (place : ℕ) → IndexesFirsts part named rows → position_from (bytes_eq name) 0 (names_of named) ≡ Some place → IsKnownAt part named rows name place
known_at part named rows name place known h =
    let f = found_here (bytes_eq name) 0 (names_of named) place h in
    let at : f.at ≡ place = let k = f.counted in omega (arith, k) in
    let mapped : slice_get (map (name_in part) (firsts part rows)) place ≡ Some f.element = ap (λ (ns : List (List ℕ)). slice_get ns place) (sym known.names) ∙ ap (slice_get (names_of named)) (sym at) ∙ f.there in
    let few = slice_get_within (names_of named) f.at f.element f.there in
    let (row, first, there) = first_there part named rows place known (omega (arith, few, at)) in
    let element : name_in part row ≡ f.element = same_Some _ _ (sym (slice_get-map (name_in part) (firsts part rows) place ∙ ap (option_map (name_in part)) first) ∙ mapped) in
    record {
      row = row;
      first = first;
      there = there;
      is_named = element ∙ sym ((bytes_eq-Decides name f.element).0 f.passes);
      number = sym (known.first name) ∙ ap (option_map (λ p. get_or (numbers_of named) p 0)) h;
    }

pub unknown : (part : Part) (named : NamedRows) (rows : List ImportRow) (name : List ℕ) → IndexesFirsts part named rows → position_from (bytes_eq name) 0 (names_of named) ≡ None → first_from part name 0 rows ≡ None
unknown part named rows name known h = sym (known.first name) ∙ ap (option_map (λ p. get_or (numbers_of named) p 0)) h

some_place : (numbers : List ℕ) (o : Option ℕ) → is_some o ≡ is_some (option_map (λ p. get_or numbers p 0) o)
some_place numbers None = refl
some_place numbers (Some place) = refl

-- a name that is found is that of an earlier row
pub found_is_known : (part : Part) (named : NamedRows) (rows : List ImportRow) (row : ImportRow) → IndexesFirsts part named rows → is_some (place_of named (name_in part row)) ≡ is_known part rows row
found_is_known part named rows row known =
    some_place (numbers_of named) (place_of named (name_in part row)) ∙ ap is_some (known.first (name_in part row)) ∙ sym (known_if part rows row)

-- ---- one more row

or_kept : (a : Option ℕ) (k : ℕ) (b : Option ℕ) → a ≡ Some k → option_or a b ≡ a
or_kept None k b h = cc
or_kept (Some n) k b h = refl

never_more : (b : Bool) (n : ℕ) (o : Option ℕ) → (b ≡ true → (k : ℕ) × (o ≡ Some k)) → option_or o (cond b (Some n) None) ≡ o
never_more true n o h = let some = h refl in or_kept o some.0 (Some n) some.1
never_more false n None h = refl
never_more false n (Some k) h = refl

pub known_kept : (part : Part) (named : NamedRows) (rows : List ImportRow) (row : ImportRow) (k : ℕ) → IndexesFirsts part named rows → first_from part (name_in part row) 0 rows ≡ Some k → IndexesFirsts part named (rows ++ row ∷ [])
known_kept part named rows row k known there =
    let same : firsts part (rows ++ row ∷ []) ≡ firsts part rows = firsts_old part rows row k there in
    record {
      names = known.names ∙ ap (map (name_in part)) (sym same);
      apart = known.apart;
      listed = subst (AllZip (λ n r. slice_get (rows ++ row ∷ []) n ≡ Some r) (numbers_of named)) (sym same) (listed_more rows row (numbers_of named) (firsts part rows) known.listed);
      first = λ name.
          known.first name
          ∙ sym (position_from-push (λ r. bytes_eq name (name_in part r)) 0 (length rows) rows row (omega arith)
          ∙ never_more (bytes_eq name (name_in part row)) (length rows) (first_from part name 0 rows) (λ e.
          (k, ap (λ (n : List ℕ). first_from part n 0 rows) ((bytes_eq-Decides name (name_in part row)).0 e) ∙ there)));
    }

some_or_last : (numbers : List ℕ) (n many : ℕ) (o : Option ℕ) (b : Bool) → length numbers ≡ many → ((p : ℕ) → o ≡ Some p → p < many)
    → option_map (λ p. get_or (numbers ++ n ∷ []) p 0) (option_or o (cond b (Some many) None)) ≡ option_or (option_map (λ p. get_or numbers p 0) o) (cond b (Some n) None)
some_or_last numbers n many None true long low = ap (λ (m : ℕ). Some (get_or (numbers ++ n ∷ []) m 0)) (sym long) ∙ ap (λ (m : ℕ). Some m) (get_or-append_seam numbers n [] 0)
some_or_last numbers n many None false long low = refl
some_or_last numbers n many (Some p) b long low = let few : p < many = low p refl in ap (λ (m : ℕ). Some m) (get_or-append numbers (n ∷ []) 0 p (omega (arith, few, long)))

pub known_added : (part : Part) (old new : NamedRows) (rows : List ImportRow) (row : ImportRow) → IndexesFirsts part old rows → names_of new ≡ names_of old ++ name_in part row ∷ []
    → numbers_of new ≡ numbers_of old ++ length rows ∷ [] → first_from part (name_in part row) 0 rows ≡ None → position_from (bytes_eq (name_in part row)) 0 (names_of old) ≡ None → IndexesFirsts part new (rows ++ row ∷ [])
known_added part old new rows row known named numbered none nowhere =
    let names = names_of old in
    let numbers = numbers_of old in
    let own = name_in part row in
    let all = rows ++ row ∷ [] in
    let grown : firsts part all ≡ firsts part rows ++ row ∷ [] = firsts_new part rows row none in
    let long : length numbers ≡ length names =
    zip_length _ numbers (firsts part rows) known.listed ∙ sym (ap length known.names ∙ length-map (firsts part rows) (name_in part)) in
    let listed : AllZip (λ n r. slice_get all n ≡ Some r) (numbers ++ length rows ∷ []) (firsts part rows ++ row ∷ []) =
    zip_push (λ n r. slice_get all n ≡ Some r) numbers (firsts part rows) (length rows) row (listed_more rows row numbers (firsts part rows) known.listed) (slice_get-last rows row) in
    let searched : (name : List ℕ) → position_from (bytes_eq name) 0 (names ++ own ∷ []) ≡ option_or (position_from (bytes_eq name) 0 names) (cond (bytes_eq name own) (Some (length names)) None) =
    λ name. position_from-push (bytes_eq name) 0 (length names) names own (omega arith) in
    let apart : (place : ℕ) (name : List ℕ) → slice_get (names ++ own ∷ []) place ≡ Some name → position_from (bytes_eq name) 0 (names ++ own ∷ []) ≡ Some place =
    λ place name there. elim (last_or_before names own name place there) [
      | inl before ↦ searched name ∙ ap (λ o. option_or o (cond (bytes_eq name own) (Some (length names)) None)) (known.apart place name before)
      | inr here ↦
          subst (λ (n : List ℕ). position_from (bytes_eq n) 0 (names ++ own ∷ []) ≡ Some place) here.1
          (searched own ∙ ap₂ (λ o b. option_or o (cond b (Some (length names)) None)) nowhere ((bytes_eq-Decides own own).1 refl) ∙ ap (λ (m : ℕ). Some m) (sym here.0))
    ] in
    let first : (name : List ℕ) → option_map (λ p. get_or (numbers ++ length rows ∷ []) p 0) (position_from (bytes_eq name) 0 (names ++ own ∷ [])) ≡ first_from part name 0 all =
    λ name.
    ap (option_map (λ p. get_or (numbers ++ length rows ∷ []) p 0)) (searched name)
    ∙ some_or_last numbers (length rows) (length names) (position_from (bytes_eq name) 0 names) (bytes_eq name own) long (λ p h. let f = found_here (bytes_eq name) 0 names p h in let k = slice_get_within names f.at f.element f.there in let c = f.counted in omega (arith, k, c))
    ∙ ap (λ o. option_or o (cond (bytes_eq name own) (Some (length rows)) None)) (known.first name)
    ∙ sym (position_from-push (λ r. bytes_eq name (name_in part r)) 0 (length rows) rows row (omega arith)) in
    record {
      names = named ∙ ap (λ ns. ns ++ own ∷ []) known.names ∙ sym (map-append (name_in part) (firsts part rows) (row ∷ [])) ∙ ap (map (name_in part)) (sym grown);
      apart = subst (λ (ns : List (List ℕ)). (place : ℕ) (name : List ℕ) → slice_get ns place ≡ Some name → position_from (bytes_eq name) 0 ns ≡ Some place) (sym named) apart;
      listed = subst (λ (ks : List ℕ). AllZip (λ n r. slice_get all n ≡ Some r) ks (firsts part all)) (sym numbered) (subst (AllZip (λ n r. slice_get all n ≡ Some r) (numbers ++ length rows ∷ [])) (sym grown) listed);
      first = λ name.
          ap₂ (λ (ks : List ℕ) (ns : List (List ℕ)). option_map (λ p. get_or ks p 0) (position_from (bytes_eq name) 0 ns)) numbered named ∙ first name;
    }

-- ---- names in their map

place_among : (name : List ℕ) (n : ℕ) (ks : List (String Global)) → position_from (λ k. bytes_eq name (string_bytes k)) n ks ≡ position_from (bytes_eq name) n (map string_bytes ks)
place_among name n [] = refl
place_among name n (k ∷ ks) = ap (cond (bytes_eq name (string_bytes k)) (Some n)) (place_among name (n + 1) ks)

pub place_found : (named : NamedRows) (name : List ℕ) → position (λ k. bytes_eq name (string_bytes k)) (keys named.firsts) ≡ place_of named name
place_found named name = position_from-zero (λ k. bytes_eq name (string_bytes k)) (keys named.firsts) ∙ place_among name 0 (keys named.firsts)

no_place : (o : Option ℕ) → is_some o ≡ false → o ≡ None
no_place None none = refl
no_place (Some place) none = cc none

some_place_of : (o : Option ℕ) → is_some o ≡ true → (place : ℕ) × (o ≡ Some place)
some_place_of None some = cc some
some_place_of (Some place) some = (place, refl)

pub known_again : (named : NamedRows) (name : List ℕ) (number : ℕ) → is_some (place_of named name) ≡ true → IndexesMore named named name number
known_again named name number some = λ part rows row own same known.
    let (place, there) = some_place_of (place_of named name) some in
    let at : place_of named (name_in part row) ≡ Some place = ap (place_of named) (sym own) ∙ there in
    known_kept part named rows row _ known (known_at part named rows (name_in part row) place known at).number

pub known_more : (old new : NamedRows) (key : String Global) (name : List ℕ) (number : ℕ) → is_some (place_of old name) ≡ false → is_some (get_by_text old.firsts name) ≡ false → string_bytes key ≡ name
    → new.firsts.entries ≡ insert_entry string_eq old.firsts.entries key number → IndexesMore old new name number
known_more old new key name number none absent is inserted = λ part rows row own same known.
    let nowhere = no_place (place_of old name) none in
    let at : place_of old (name_in part row) ≡ None = ap (place_of old) (sym own) ∙ nowhere in
    let free : get string_eq old.firsts key ≡ None = (hash_map_text_same key name old.firsts.entries (sym is)).0 ∙ no_place (get_by_text old.firsts name) absent in
    let more : new.firsts.entries ≡ old.firsts.entries ++ (key, number) ∷ [] = inserted ∙ insert_entry-new string_eq old.firsts key number free in
    let names : names_of new ≡ names_of old ++ string_bytes key ∷ [] =
    ap (λ es. map string_bytes (map (λ e. e.0) es)) more ∙ ap (map string_bytes) (map-append (λ e. e.0) old.firsts.entries ((key, number) ∷ [])) ∙ map-append string_bytes (keys old.firsts) (key ∷ []) in
    let numbers : numbers_of new ≡ numbers_of old ++ number ∷ [] = ap (map (λ e. e.1)) more ∙ map-append (λ e. e.1) old.firsts.entries ((key, number) ∷ []) in
    known_added part old new rows row known (names ∙ ap (λ n. names_of old ++ n ∷ []) (is ∙ own)) (numbers ∙ ap (λ (n : ℕ). numbers_of old ++ n ∷ []) same)
    (unknown part old rows (name_in part row) known at) at

pub place_within : (named : NamedRows) (name : List ℕ) (place : ℕ) → place_of named name ≡ Some place → place < length (names_of named)
place_within named name place found =
    let f = found_here (bytes_eq name) 0 (names_of named) place found in
    let few = slice_get_within (names_of named) f.at f.element f.there in
    let at = f.counted in
    omega (arith, few, at)

-- ---- all parts

pub knows_part : (part : Part) (known : IndexedRows) → IsIndexed known → IndexesFirsts part (named_of part known) known.rows.items
knows_part Receivers known knows = knows.receivers
knows_part Sources known knows = knows.sources
knows_part Groups known knows = knows.groups
