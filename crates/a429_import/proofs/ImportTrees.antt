-- The tree that rows state: how it is built, and how deep it is.
use Rattle.std.proofs.Common.{codes, ◌≡◌, ◌==◌, ◌+◌, ◌++◌, append-nil, append_assoc, drop, length, sym, ℕ, ◌≤◌, Bool, true, false, List, [], ◌∷◌, map, Option, None, Some, String, Global, string_bytes, Ordering, Less, Equal, Greater, arith, ap, refl, ◌∙◌}
use Rattle.std.specs.Prelude.{filter, slice_get}
use Rattle.std.specs.Ordering.{is_lt, match_ordering}
use Rattle.std.specs.BTreeMap.{insert_entry}
use Rattle.std.specs.String.{string_cmp}
use Rattle.std.proofs.lemmas.List.{drop_all, map-append}
use Rattle.std.proofs.lemmas.List.Elements.{filter-append}
use Rattle.toml.specs.Data.{Data, Members, no_members, member, string, depth, items_depth, members_depth, is_before}
use Rattle.toml.specs.View.{items_of, members_view, view}
use Rattle.toml.specs.declared.value.Value.{Value}
use Rattle.a429_word.proofs.Lists.{clash, drop_at}
use Rattle.a429_import.specs.declared.rows.ImportRow.{ImportRow}
use Rattle.a429_import.specs.declared.firsts.Part.{Part}
use Rattle.a429_import.specs.declared.firsts.Part.TheVariants.{Receivers, Sources, Groups}
use Rattle.a429_import.specs.ImportTables.{groups_of, is_stated, listed, part_tree, part_trees, with_filters, with_hold, sdi_data, number, words, firsts, rows_of_group, receiver_tree, source_tree, output_tree, group_tree, root_members}

abbrev Entry : Type 0
Entry = String Global × Value

placed : (o : Ordering) (k : String Global) (v : Value) (e : Entry) (es rest : List Entry) → is_lt o ≡ true
    → members_view (match_ordering o ((k, v) ∷ e ∷ es) ((e.0, v) ∷ es) (e ∷ rest)) ≡ member (string_bytes k) (view v) (members_view (e ∷ es))
placed Less k v e es rest h = refl
placed Equal k v e es rest h = cc
placed Greater k v e es rest h = cc

inserted : (k : String Global) (v : Value) (es : List Entry) → is_before (string_bytes k) (members_view es) ≡ true
    → members_view (insert_entry string_cmp es k v) ≡ member (string_bytes k) (view v) (members_view es)
inserted k v [] h = refl
inserted k v (e ∷ es) h = placed (string_cmp k e.0) k v e es _ h

-- a key that comes before the others goes to the front
pub put_front : (k : String Global) (name : List ℕ) (v : Value) (es : List Entry) → string_bytes k ≡ name → is_before name (members_view es) ≡ true
    → members_view (insert_entry string_cmp es k v) ≡ member name (view v) (members_view es)
put_front k name v es same before = rw (← same) (inserted k v es (rw same before))

-- ---- depth

listed_depth : {X : Type 0} (f : X → Data) (n : ℕ) → ((x : X) → depth (f x) ≤ n) → (xs : List X) → items_depth (items_of (map f xs)) ≤ n
listed_depth f n each [] = omega arith
listed_depth f n each (x ∷ xs) = let here = each x in let others = listed_depth f n each xs in omega arith

filters_depth : (ws : List (List ℕ)) (rest : Members) → members_depth rest ≤ 1 → members_depth (with_filters ws rest) ≤ 1
filters_depth [] rest h = h
filters_depth (w ∷ ws) rest h = let texts : items_depth (items_of (map (λ t. string t) (w ∷ ws))) ≤ 0 = listed_depth (λ t. string t) 0 (λ t. omega arith) (w ∷ ws) in omega arith

hold_depth : (hold : Option ℕ) (rest : Members) → members_depth rest ≤ 1 → members_depth (with_hold hold rest) ≤ 1
hold_depth None rest h = h
hold_depth (Some n) rest h = omega arith

sdi_depth : (sdi : Option ℕ) → depth (sdi_data sdi) ≤ 0
sdi_depth None = omega arith
sdi_depth (Some n) = omega arith

pub receiver_depth : (row : ImportRow) → depth (receiver_tree row) ≤ 2
unfolding receiver_tree
receiver_depth row =
    let rest : Members = member (codes "name") (string row.texts.receiver) no_members in
    let few : members_depth rest ≤ 1 = omega arith in
    let inside : members_depth (with_filters (words row.texts.filters) rest) ≤ 1 = filters_depth (words row.texts.filters) rest few in
    omega arith

pub source_depth : (row : ImportRow) → depth (source_tree row) ≤ 2
unfolding source_tree
source_depth row = let sdi = sdi_depth row.numbers.sdi in omega arith

pub output_depth : (row : ImportRow) → depth (output_tree row) ≤ 2
unfolding output_tree
output_depth row =
    let rest : Members = member (codes "max_us") (number row.numbers.max_us) (member (codes "min_us") (number row.numbers.min_us) (member (codes "source") (string row.texts.source) no_members)) in
    let few : members_depth rest ≤ 1 = omega arith in
    let inside : members_depth (with_hold row.numbers.hold rest) ≤ 1 = hold_depth row.numbers.hold rest few in
    omega arith

pub group_depth : (rows : List ImportRow) (row : ImportRow) → depth (group_tree rows row) ≤ 4
unfolding group_tree
group_depth rows row = let outputs = listed_depth output_tree 2 output_depth (rows_of_group rows row) in omega arith

-- the tree is no deeper than TOML may be
pub root_depth : (rows : List ImportRow) → members_depth (root_members rows) ≤ 80
unfolding root_members
root_depth rows =
    let groups = listed_depth (group_tree rows) 4 (group_depth rows) (groups_of rows) in
    let receivers = listed_depth receiver_tree 2 receiver_depth (firsts Receivers rows) in
    let sources = listed_depth source_tree 2 source_depth (firsts Sources rows) in
    omega arith

-- ---- a table that is built

-- one key more in front
pub put_next : (key : List ℕ) (value : Data) (old new rest : Members) → old ≡ rest → is_before key rest ≡ true → (is_before key old ≡ true → new ≡ member key value old) → new ≡ member key value rest
put_next key value old new rest same before put = put (rw same before) ∙ ap (member key value) same

-- ---- words

-- the filters of a receiver that has at least one
pub filters_put : (ws : List (List ℕ)) (values : List Value) (old new : Members) → map view values ≡ map (λ w. string w) ws → (length values == 0) ≡ false
    → new ≡ member (codes "filters") (listed (map view values)) old → new ≡ with_filters ws old
filters_put [] [] old new same some put = absurd (clash (sym some))
filters_put [] (v ∷ values) old new same some put = cc
filters_put (w ∷ ws) values old new same some put = put ∙ ap (λ (ds : List Data). member (codes "filters") (listed ds) old) same

-- ---- receivers, sources and groups

filter_all : {X : Type 0} (xs : List X) → filter (λ x. true) xs ≡ xs
filter_all [] = refl
filter_all {X} (x ∷ xs) = ap (λ (ys : List X). x ∷ ys) (filter_all xs)

-- the tables of all are those of the first rows that state them
pub trees_are : (part : Part) (rows : List ImportRow) → part_trees part rows ≡ map (part_tree part rows) (filter (is_stated part) (firsts part rows))
trees_are Receivers rows = ap (map receiver_tree) (sym (filter_all (firsts Receivers rows)))
trees_are Sources rows = ap (map source_tree) (sym (filter_all (firsts Sources rows)))
trees_are Groups rows = refl

-- one more row, whose table is added if it passes
pub picked_more : {X Y : Type 0} (p : X → Bool) (f : X → Y) (rows : List X) (k : ℕ) (row : X) (old new whole : List Y) → slice_get rows k ≡ Some row
    → old ++ map f (filter p (drop k rows)) ≡ whole → new ≡ old ++ map f (filter p (row ∷ [])) → new ++ map f (filter p (drop (k + 1) rows)) ≡ whole
picked_more {X} {Y} p f rows k row old new whole there so now =
    let first : List Y = map f (filter p (row ∷ [])) in
    let others : List Y = map f (filter p (drop (k + 1) rows)) in
    let left : map f (filter p (drop k rows)) ≡ first ++ others =
    ap (λ (rs : List X). map f (filter p rs)) (drop_at rows k row there)
    ∙ ap (map f) (filter-append p (row ∷ []) (drop (k + 1) rows))
    ∙ map-append f (filter p (row ∷ [])) (filter p (drop (k + 1) rows)) in
    ap (λ (ds : List Y). ds ++ others) now ∙ append_assoc old first others ∙ ap (λ (ds : List Y). old ++ ds) (sym left) ∙ so

-- no row is left
pub picked_all : {X Y : Type 0} (p : X → Bool) (f : X → Y) (rows : List X) (k : ℕ) (old whole : List Y) → length rows ≤ k → old ++ map f (filter p (drop k rows)) ≡ whole → old ≡ whole
picked_all {X} {Y} p f rows k old whole past so = sym (append-nil old) ∙ ap (λ (rs : List X). old ++ map f (filter p rs)) (sym (drop_all k rows past)) ∙ so
