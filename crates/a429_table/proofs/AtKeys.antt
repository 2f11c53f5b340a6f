-- The values at the keys of a table without these kinds of fault.
use Rattle.std.proofs.Common.{codes, ◌≡◌, ℕ, zero, suc, ◌+◌, ◌^◌, ◌<◌, ℤ, pos, negsuc, Bool, true, false, not, ◌&&◌, List, [], ◌∷◌, ◌++◌, length, map, take, drop, get_or, Option, Some, None, is_none, option_map, unwrap_or, refl, sym, ap, ◌∙◌, subst, arith, ⊎_elim, drop-cons}
use Rattle.std.specs.Prelude.{slice_get, is_some, if◌then◌else◌}
use Rattle.std.proofs.lemmas.List.{take-append-drop}
use Rattle.std.specs.List.{list_any, list_all, position_from, AllByRecursion}
use Rattle.std.specs.Option.{option_map_or, option_and_then}
use Rattle.std.specs.Str.{bytes_eq}
use Rattle.std.proofs.lemmas.Bool.{or_parts, or_cases, and_parts, not-false, eqb-true}
use Rattle.std.proofs.lemmas.Slice.Eq.{bytes_eq-Decides}
use Rattle.toml.specs.Data.{Data, Items, string, integer, float, boolean, datetime, array, table, get, as_integer}
use Rattle.a429_word.specs.Texts.{label_value, octal, octal_number}
use Rattle.a429_table.specs.Columns.{Column, must, columns}
use Rattle.a429_table.specs.declared.columns.Shape.TheVariants.{Integer, Text, Texts, Tables}
use Rattle.a429_equipment.specs.declared.version.TableVersion.{TableVersion}
use Rattle.a429_table.specs.declared.fault.TablePlace.{TablePlace}
use Rattle.a429_filter.specs.FilterTexts.{filter_of, filter_read, is_filter}
use Rattle.a429_table.specs.Names.{name_of, number_named}
use Rattle.a429_table.specs.Tree.{elements, is_table, text_of, text_at, integer_at, rows_of, rows_at}
use Rattle.a429_table.specs.Faults.{has_shape, is_text, misfits, lacks_key, has_wrong_kind, is_within, is_rate, is_hold, is_sdi, sdi_of}
use Rattle.a429_table.specs.Stated.{natural, filter_row, rate_at}
use Rattle.a429_table.specs.AsWritten.{HasText, HasInteger, AreOf, HasRows, HasSdi, HasHold, HasFilters, IsFilterText}
use Rattle.a429_table.proofs.Absence.{all_from}
use Rattle.a429_word.proofs.LabelTexts.{written}
use Rattle.a429_table.proofs.SoundValues.{natural-pos, within}

-- ---- the value at a key

text_in : (o : Option Data) (key : List ℕ) (d : Data) → get key d ≡ o → is_none o ≡ false → option_map_or (λ v. not (has_shape Text v)) o false ≡ false → HasText key d (text_at key d)
unfolding text_at
text_in None key d e some fits = cc
text_in (Some (string s)) key d e some fits = rw e refl
text_in (Some (integer z)) key d e some fits = cc
text_in (Some (float f)) key d e some fits = cc
text_in (Some (boolean b)) key d e some fits = cc
text_in (Some (datetime t)) key d e some fits = cc
text_in (Some (array ds)) key d e some fits = cc
text_in (Some (table ms)) key d e some fits = cc

integer_in : (o : Option Data) (key : List ℕ) (d : Data) → get key d ≡ o → is_none o ≡ false → option_map_or (λ v. not (has_shape Integer v)) o false ≡ false → get key d ≡ Some (integer (integer_at key d))
unfolding integer_at
integer_in None key d e some fits = cc
integer_in (Some (string s)) key d e some fits = cc
integer_in (Some (integer z)) key d e some fits = rw e refl
integer_in (Some (float f)) key d e some fits = cc
integer_in (Some (boolean b)) key d e some fits = cc
integer_in (Some (datetime t)) key d e some fits = cc
integer_in (Some (array ds)) key d e some fits = cc
integer_in (Some (table ms)) key d e some fits = cc

-- the value is an array, whose elements are the rows
pub record HasArray (key : List ℕ) (d : Data) : Type 0 where
  pub rows : Items
  pub there : get key d ≡ Some (array rows)
  pub are : rows_at key d ≡ elements rows

array_in : (o : Option Data) (key : List ℕ) (d : Data) → get key d ≡ o → is_none o ≡ false → option_map_or (λ v. not (has_shape Tables v)) o false ≡ false → HasArray key d
unfolding rows_at
array_in None key d e some fits = cc
array_in (Some (string s)) key d e some fits = cc
array_in (Some (integer z)) key d e some fits = cc
array_in (Some (float f)) key d e some fits = cc
array_in (Some (boolean b)) key d e some fits = cc
array_in (Some (datetime t)) key d e some fits = cc
array_in (Some (array ds)) key d e some fits = record { rows = ds; there = e; are = rw e refl }
array_in (Some (table ms)) key d e some fits = cc

-- a number in range is the one that is written there
pub number_in : (limit low high : ℕ) (z : ℤ) → high < limit → is_within low high z ≡ true → z ≡ pos (natural limit z)
number_in limit low high (negsuc n) room h = cc
number_in limit low high (pos n) room h = let r = within low high n h in ap (λ (k : ℕ). pos k) (sym (natural-pos limit n (omega arith)))

-- ---- the columns of a table

pub none_of : (p : Column → Bool) (cs : List Column) → list_any p cs ≡ false → (i : ℕ) (c : Column) → slice_get cs i ≡ Some c → p c ≡ false
none_of p [] h i c e = cc
none_of p (x ∷ cs) h zero c e = let q = or_parts (p x) (list_any p cs) h in let same : x ≡ c = cc in subst (λ (y : Column). p y ≡ false) same q.0
none_of p (x ∷ cs) h (suc i) c e = let q = or_parts (p x) (list_any p cs) h in none_of p cs q.1 i c e

-- each required key is there, and each value has its shape
pub record IsShaped (v : TableVersion) (place : TablePlace) (d : Data) : Type 0 where
  pub present : list_any (λ c. c.required && is_none (get c.key d)) (columns v place) ≡ false
  pub fitting : list_any (misfits d) (columns v place) ≡ false

pub shaped : (v : TableVersion) (place : TablePlace) (d : Data) → lacks_key v place d ≡ false → has_wrong_kind v place d ≡ false → IsShaped v place d
unfolding lacks_key has_wrong_kind
shaped v place d lacks wrong =
    let parts = or_parts (not (is_table d)) (list_any (misfits d) (columns v place)) wrong in
    let is : is_table d ≡ true = not-false _ parts.0 in
    record { present = rw is at lacks; fitting = parts.1 }

module _ (v : TableVersion) (place : TablePlace) (d : Data) (s : IsShaped v place d) (i : ℕ) (key : List ℕ) where
  pub text_stands : slice_get (columns v place) i ≡ Some (must key Text) → HasText key d (text_at key d)
  text_stands e = text_in (get key d) key d refl (none_of (λ c. c.required && is_none (get c.key d)) (columns v place) s.present i (must key Text) e) (none_of (misfits d) (columns v place) s.fitting i (must key Text) e)

  pub integer_stands : slice_get (columns v place) i ≡ Some (must key Integer) → get key d ≡ Some (integer (integer_at key d))
  integer_stands e = integer_in (get key d) key d refl (none_of (λ c. c.required && is_none (get c.key d)) (columns v place) s.present i (must key Integer) e) (none_of (misfits d) (columns v place) s.fitting i (must key Integer) e)

  pub array_stands : slice_get (columns v place) i ≡ Some (must key Tables) → HasArray key d
  array_stands e = array_in (get key d) key d refl (none_of (λ c. c.required && is_none (get c.key d)) (columns v place) s.present i (must key Tables) e) (none_of (misfits d) (columns v place) s.fitting i (must key Tables) e)

-- ---- rows and the tables that they are of

are_of : {X : Type 0} (f : Data → X) (P : Data → X → Type 0) (ds : List Data) → AllByRecursion (λ d. P d (f d)) ds → AreOf P ds (map f ds)
are_of f P [] h = tt
are_of f P (d ∷ ds) h = (h.0, are_of f P ds h.1)

pub rows_of_array : {X : Type 0} (key : List ℕ) (d : Data) (f : Data → X) (P : Data → X → Type 0) → HasArray key d → ((n : ℕ) (e : Data) → slice_get (rows_at key d) n ≡ Some e → P e (f e)) → HasRows key d P (map f (rows_at key d))
rows_of_array key d f P stands each =
    (stands.rows, stands.there, subst (λ (es : List Data). AreOf P es (map f (rows_at key d))) stands.are (are_of f P (rows_at key d) (all_from (λ e. P e (f e)) (rows_at key d) each)))

pub get_mapped : {X Y : Type 0} (f : X → Y) (xs : List X) (i : ℕ) (x : X) → slice_get xs i ≡ Some x → slice_get (map f xs) i ≡ Some (f x)
get_mapped f [] i x e = cc
get_mapped f (y ∷ xs) zero x e = let same : y ≡ x = cc in ap (λ z. Some (f z)) same
get_mapped f (y ∷ xs) (suc i) x e = get_mapped f xs i x e

-- the table at a position that was found
record FoundAt {X : Type 0} (p : X → Bool) (n k : ℕ) (xs : List X) : Type 0 where
  index : ℕ
  from : k ≡ n + index
  pub element : X
  pub there : slice_get xs index ≡ Some element
  passes : p element ≡ true

found_at : {X : Type 0} (p : X → Bool) (n k : ℕ) (xs : List X) → position_from p n xs ≡ Some k → FoundAt p n k xs
found_at p n k [] h = cc
found_at p n k (x ∷ xs) h = go (p x) refl (λ e. found_at p (n + 1) k xs e)
  where
    go : (b : Bool) → p x ≡ b → (position_from p (n + 1) xs ≡ Some k → FoundAt p (n + 1) k xs) → FoundAt p n k (x ∷ xs)
    go true e rest = let same : n ≡ k = let f : Some n ≡ Some k = rw e at h in cc in record { index = 0; from = omega arith; element = x; there = refl; passes = e }
    go false e rest = let r = rest (rw e at h) in record { index = suc r.index; from = omega (arith, r.from); element = r.element; there = r.there; passes = r.passes }

-- the table that a name stands for
pub record NamedAt (name : List ℕ) (ds : List Data) (k : ℕ) : Type 0 where
  pub element : Data
  pub there : slice_get ds k ≡ Some element
  pub named : name_of element ≡ name

pub named_at : (name : List ℕ) (ds : List Data) → is_none (number_named name ds) ≡ false → NamedAt name ds (unwrap_or (number_named name ds) 0)
unfolding number_named
named_at name ds known = go (position_from (λ d. bytes_eq name (name_of d)) 0 ds) refl known
  where
    go : (o : Option ℕ) → position_from (λ d. bytes_eq name (name_of d)) 0 ds ≡ o → is_none o ≡ false → NamedAt name ds (unwrap_or o 0)
    go None e some = cc
    go (Some k) e some =
        let f = found_at (λ d. bytes_eq name (name_of d)) 0 k ds e in
        record {
          element = f.element;
          there = ap (slice_get ds) (omega (arith, f.from)) ∙ f.there;
          named = sym ((bytes_eq-Decides name (name_of f.element)).0 f.passes);
        }

-- ---- values

rate_number : (z : ℤ) → is_rate z ≡ true → z ≡ pos (natural (2 ^ 32) z)
rate_number z h = ⊎_elim (number_in (2 ^ 32) 100000 100000 z (omega arith)) (number_in (2 ^ 32) 12000 14500 z (omega arith)) (or_cases (is_within 100000 100000 z) (is_within 12000 14500 z) h)

pub rate_stands : (d : Data) → get (codes "rate") d ≡ Some (integer (integer_at (codes "rate") d)) → not (is_rate (integer_at (codes "rate") d)) ≡ false → HasInteger (codes "rate") d (rate_at d)
rate_stands d e h = e ∙ ap (λ (z : ℤ). Some (integer z)) (rate_number (integer_at (codes "rate") d) (not-false _ h))

pub written_label : (text : List ℕ) (o : Option ℕ) → label_value text ≡ o → is_none o ≡ false → text ≡ octal (unwrap_or o 0)
written_label text None e some = cc
written_label text (Some n) e some = (written text n e).1

pub sdi_in : (o : Option Data) (d : Data) → get (codes "sdi") d ≡ o → is_sdi o ≡ true → HasSdi d (option_map (natural 4) (sdi_of o))
sdi_in None d e h = cc
sdi_in (Some (integer z)) d e h = e ∙ ap (λ (n : ℤ). Some (integer n)) (number_in 4 0 3 z (omega arith) h)
sdi_in (Some (string s)) d e h = e ∙ ap (λ (t : List ℕ). Some (string t)) ((bytes_eq-Decides s (codes "any")).0 h)
sdi_in (Some (float f)) d e h = cc
sdi_in (Some (boolean b)) d e h = cc
sdi_in (Some (datetime t)) d e h = cc
sdi_in (Some (array ds)) d e h = cc
sdi_in (Some (table ms)) d e h = cc

pub hold_in : (o : Option Data) (d : Data) → get (codes "hold") d ≡ o → option_map_or (λ v. not (has_shape Integer v)) o false ≡ false → not (is_hold (option_and_then as_integer o)) ≡ false
    → HasHold d (option_map (natural (2 ^ 32)) (option_and_then as_integer o))
hold_in None d e fits h = e
hold_in (Some (integer z)) d e fits h = e ∙ ap (λ (n : ℤ). Some (integer n)) (number_in (2 ^ 32) 1 1000000 z (omega arith) (not-false _ h))
hold_in (Some (string s)) d e fits h = cc
hold_in (Some (float f)) d e fits h = cc
hold_in (Some (boolean b)) d e fits h = cc
hold_in (Some (datetime t)) d e fits h = cc
hold_in (Some (array ds)) d e fits h = cc
hold_in (Some (table ms)) d e fits h = cc

some_label : (text : List ℕ) → is_some (label_value text) ≡ true → text ≡ octal (octal_number text)
unfolding octal_number
some_label text h = go (label_value text) refl h
  where
    go : (o : Option ℕ) → label_value text ≡ o → is_some o ≡ true → text ≡ octal (unwrap_or o 0)
    go None e some = cc
    go (Some n) e some = (written text n e).1

filter_text : (s : List ℕ) → is_filter s ≡ true → s ≡ octal (octal_number (take 3 s)) ++ 47 ∷ octal (octal_number (drop 4 s))
unfolding is_filter
filter_text s h =
    let p = and_parts _ _ h in
    let q = and_parts _ _ p.0 in
    let r = and_parts _ _ p.1 in
    let long : length s ≡ 7 = eqb-true (length s) 7 q.0 in
    let slash : get_or s 3 0 ≡ 47 = eqb-true (get_or s 3 0) 47 q.1 in
    let label = some_label (take 3 s) r.0 in
    let mask = some_label (drop 4 s) r.1 in
    let rest : drop 3 s ≡ 47 ∷ octal (octal_number (drop 4 s)) = drop-cons s 3 0 (omega (arith, long)) ∙ (λ i. slash i ∷ mask i) in
    sym (take-append-drop 3 s) ∙ (λ i. label i ++ rest i)

filter_stated : (s : List ℕ) → is_filter s ≡ true → filter_of s ≡ record { label = octal_number (take 3 s); mask = octal_number (drop 4 s) }
unfolding filter_of filter_read
filter_stated s h = rw h refl

each_filter : (ds : List Data) → list_all is_text ds ≡ true → list_any (λ f. not (is_filter (text_of (Some f)))) ds ≡ false → AreOf IsFilterText ds (map filter_row ds)
each_filter [] texts good = tt
each_filter (string s ∷ ds) texts good =
    let q = or_parts (not (is_filter s)) (list_any (λ f. not (is_filter (text_of (Some f)))) ds) good in
    let is = not-false _ q.0 in
    (subst (IsFilterText (string s)) (sym (filter_stated s is)) (ap (λ (t : List ℕ). string t) (filter_text s is)), each_filter ds texts q.1)
each_filter (integer z ∷ ds) texts good = cc
each_filter (float f ∷ ds) texts good = cc
each_filter (boolean b ∷ ds) texts good = cc
each_filter (datetime t ∷ ds) texts good = cc
each_filter (array es ∷ ds) texts good = cc
each_filter (table ms ∷ ds) texts good = cc

pub filters_in : (o : Option Data) (d : Data) → get (codes "filters") d ≡ o → option_map_or (λ v. not (has_shape Texts v)) o false ≡ false
    → list_any (λ f. not (is_filter (text_of (Some f)))) (rows_of o) ≡ false → HasFilters d (if is_none o then None else Some (map filter_row (rows_of o)))
filters_in None d e fits good = e
filters_in (Some (array ds)) d e fits good = (ds, e, each_filter (elements ds) (not-false _ fits) good)
filters_in (Some (integer z)) d e fits good = cc
filters_in (Some (string s)) d e fits good = cc
filters_in (Some (float f)) d e fits good = cc
filters_in (Some (boolean b)) d e fits good = cc
filters_in (Some (datetime t)) d e fits good = cc
filters_in (Some (table ms)) d e fits good = cc
