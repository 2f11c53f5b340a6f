-- No two receivers, sources or groups of a table without faults have one name, and no two outputs of a group one source.
use Rattle.std.proofs.Common.{◌≡◌, ℕ, zero, suc, ◌<◌, ⊎_elim, ℤ, Bool, true, false, List, [], ◌∷◌, length, map, take, codes, Option, Some, None, is_none, unwrap_or, refl, sym, ap, ◌∙◌, arith}
use Rattle.std.proofs.lemmas.Bool.{and_from, both_ways, cases_order}
use Rattle.std.proofs.lemmas.Bool.Decides.{Decides-int_eq}
use Rattle.std.proofs.lemmas.Slice.Eq.{bytes_eq-Decides}
use Rattle.std.specs.List.{list_any, slice_get, AllByRecursion}
use Rattle.std.specs.Option.{option_and_then}
use Rattle.std.specs.Str.{bytes_eq}
use Rattle.toml.specs.Data.{Data}
use Rattle.a429_table.specs.declared.fault.FaultKind.TheVariants.{DuplicateName, DuplicateOutput, UnknownName}
use Rattle.a429_table.specs.declared.fault.TablePlace.{TablePlace}
use Rattle.a429_table.specs.declared.fault.TablePlace.TheVariants.{Receiver, Source, Group, Output}
use Rattle.a429_table.specs.declared.walk.Rows.TheVariants.{Receivers, Sources, Outputs}
use Rattle.a429_table.specs.Tree.{text_at, rows_at}
use Rattle.a429_table.specs.Names.{name_of, number_named}
use Rattle.a429_table.specs.Walk.{earlier, numbered}
use Rattle.a429_table.specs.Faults.{stands, is_named, repeats_name, repeats_output, names_nothing, source_of, same_words, same_sdi, sdi_at}
use Rattle.a429_table.specs.Least.{StandsAtNone}
use Rattle.a429_table.specs.Stated.{receiver_row, source_row, group_row, output_row, output_rows}
use Rattle.a429_equipment.specs.Sound.{HaveOwn, HaveOwnSources}
use Rattle.a429_table.proofs.Absence.{IsAbsent, row_holds, group_holds, all_from}
use Rattle.a429_table.proofs.Apart.{not_among, mapped_at, some_of}
use Rattle.a429_table.proofs.Places.{number-lt-length}

-- ---- any rows

-- rows of one key would meet, and no row meets an earlier one
own_by : {D X K : Type 0} (f : D → X) (key : X → K) (meets : D → D → Bool) (ds : List D)
    → ((i j : ℕ) (a b : D) → slice_get ds i ≡ Some a → slice_get ds j ≡ Some b → key (f a) ≡ key (f b) → meets a b ≡ true)
    → ((j : ℕ) (b : D) → slice_get ds j ≡ Some b → list_any (λ a. meets a b) (take j ds) ≡ false)
    → HaveOwn key (map f ds)
own_by f key meets ds meet never i j x y at_i at_j same =
    let (a, at_a, is_a) = mapped_at f ds i x at_i in
    let (b, at_b, is_b) = mapped_at f ds j y at_j in
    let one : key (f a) ≡ key (f b) = ap key is_a ∙ same ∙ sym (ap key is_b) in
    ⊎_elim (λ equal. equal)
    (⊎_elim
    (λ below. absurd (both_ways (meets a b) (not_among (λ c. meets c b) i j ds a (never j b at_b) below at_a) (meet i j a b at_a at_b one)))
    (λ above. absurd (both_ways (meets b a) (not_among (λ c. meets c a) j i ds b (never i a at_a) above at_b) (meet j i b a at_b at_a (sym one)))))
    (cases_order i j)

-- ---- names

abbrev same_name : Data → Data → Bool
same_name a b = bytes_eq (name_of b) (name_of a)

one_name_meets : (a b : Data) → name_of a ≡ name_of b → same_name a b ≡ true
one_name_meets a b same = (bytes_eq-Decides (name_of b) (name_of a)).1 (sym same)

names_before : (root : Data) (place : TablePlace) (d : Data) → is_named place ≡ true → stands root DuplicateName (place, d) ≡ false
    → list_any (λ e. same_name e d) (earlier root place) ≡ false
unfolding stands repeats_name
names_before root place d named h = rw named at h

pub own_receivers : (root : Data) → IsAbsent root DuplicateName → HaveOwn (λ r. r.name) (map receiver_row (rows_at (codes "receiver") root))
unfolding receiver_row earlier
own_receivers root h =
    let ds = rows_at (codes "receiver") root in
    own_by receiver_row (λ r. r.name) same_name ds (λ i j a b e f same. one_name_meets a b same)
    (λ j b at_b. names_before root (Receiver j) b refl (row_holds Receivers (λ s. stands root DuplicateName s ≡ false) 0 j j ds b (omega arith) h.at_receivers at_b))

pub own_names : (root : Data) → IsAbsent root DuplicateName → HaveOwn (λ s. s.name) (map (source_row root) (rows_at (codes "source") root))
unfolding source_row earlier
own_names root h =
    let ds = rows_at (codes "source") root in
    own_by (source_row root) (λ s. s.name) same_name ds (λ i j a b e f same. one_name_meets a b same)
    (λ j b at_b. names_before root (Source j) b refl (row_holds Sources (λ s. stands root DuplicateName s ≡ false) 0 j j ds b (omega arith) h.at_sources at_b))

pub own_groups : (root : Data) (rate : Option ℕ) → IsAbsent root DuplicateName → HaveOwn (λ g. g.name) (map (group_row rate) (rows_at (codes "group") root))
unfolding group_row earlier
own_groups root rate h =
    let ds = rows_at (codes "group") root in
    own_by (group_row rate) (λ g. g.name) same_name ds (λ i j a b e f same. one_name_meets a b same)
    (λ j b at_b. names_before root (Group j) b refl (group_holds (λ s. stands root DuplicateName s ≡ false) 0 j j ds b (omega arith) h.at_groups at_b).0)

-- ---- outputs

same_sdi_itself : (o : Option ℤ) → same_sdi o o ≡ true
same_sdi_itself None = refl
same_sdi_itself (Some z) = (Decides-int_eq z z).1 refl

same_words_itself : (o : Option Data) → is_none o ≡ false → same_words o o ≡ true
same_words_itself None h = cc
same_words_itself (Some d) h =
    and_from _ _ ((bytes_eq-Decides (text_at (codes "label") d) (text_at (codes "label") d)).1 refl) (same_sdi_itself (sdi_at d))

there_at : {X : Type 0} (xs : List X) (n : ℕ) → n < length xs → is_none (slice_get xs n) ≡ false
there_at [] n below = absurd (omega arith)
there_at (x ∷ xs) zero below = refl
there_at (x ∷ xs) (suc n) below = there_at xs n (omega arith)

pub number_is : (root d : Data) → is_none (number_named (text_at (codes "source") d) (rows_at (codes "source") root)) ≡ false
    → source_of root d ≡ slice_get (rows_at (codes "source") root) (output_row root d).source
unfolding output_row
number_is root d known =
    let ds = rows_at (codes "source") root in
    let o = number_named (text_at (codes "source") d) ds in
    ap (option_and_then (slice_get ds)) (some_of o (unwrap_or o 0) known refl)

one_source_meets : (root a b : Data) → is_none (number_named (text_at (codes "source") a) (rows_at (codes "source") root)) ≡ false
    → is_none (number_named (text_at (codes "source") b) (rows_at (codes "source") root)) ≡ false
    → (output_row root a).source ≡ (output_row root b).source → same_words (source_of root a) (source_of root b) ≡ true
unfolding output_row
one_source_meets root a b known_a known_b same =
    let ds = rows_at (codes "source") root in
    let n = (output_row root b).source in
    let of_a : source_of root a ≡ slice_get ds n = number_is root a known_a ∙ ap (slice_get ds) same in
    let of_b : source_of root b ≡ slice_get ds n = number_is root b known_b in
    rw (of_a, of_b) (same_words_itself (slice_get ds n) (there_at ds n (number-lt-length (text_at (codes "source") b) ds known_b)))

pub known_at : (root : Data) (n j : ℕ) (d : Data) → stands root UnknownName (Output n j, d) ≡ false → is_none (number_named (text_at (codes "source") d) (rows_at (codes "source") root)) ≡ false
unfolding stands names_nothing
known_at root n j d h = h

outputs_before : (root : Data) (n j : ℕ) (g d : Data) → slice_get (rows_at (codes "group") root) n ≡ Some g → stands root DuplicateOutput (Output n j, d) ≡ false
    → list_any (λ e. same_words (source_of root e) (source_of root d)) (take j (rows_at (codes "output") g)) ≡ false
unfolding stands repeats_output earlier
outputs_before root n j g d at_g h = rw at_g at h

own_of : (root : Data) (n : ℕ) (g : Data) → slice_get (rows_at (codes "group") root) n ≡ Some g
    → StandsAtNone root (numbered (Outputs n) (rows_at (codes "output") g)) UnknownName → StandsAtNone root (numbered (Outputs n) (rows_at (codes "output") g)) DuplicateOutput
    → HaveOwnSources (output_rows root g)
own_of root n g at_g known none =
    let ds = rows_at (codes "output") g in
    let each : (j : ℕ) (d : Data) → slice_get ds j ≡ Some d → is_none (number_named (text_at (codes "source") d) (rows_at (codes "source") root)) ≡ false = λ j d at_d.
    known_at root n j d (row_holds (Outputs n) (λ s. stands root UnknownName s ≡ false) 0 j j ds d (omega arith) known at_d) in
    own_by (output_row root) (λ o. o.source) (λ a b. same_words (source_of root a) (source_of root b)) ds
    (λ i j a b at_a at_b same. one_source_meets root a b (each i a at_a) (each j b at_b) same)
    (λ j b at_b. outputs_before root n j g b at_g (row_holds (Outputs n) (λ s. stands root DuplicateOutput s ≡ false) 0 j j ds b (omega arith) none at_b))

pub own_sources : (root : Data) → IsAbsent root UnknownName → IsAbsent root DuplicateOutput → AllByRecursion HaveOwnSources (map (output_rows root) (rows_at (codes "group") root))
own_sources root names duplicates =
    let gs = rows_at (codes "group") root in
    all_from HaveOwnSources (map (output_rows root) gs) (λ n os at_n.
    let (g, at_g, is_g) = mapped_at (output_rows root) gs n os at_n in
    let known = group_holds (λ s. stands root UnknownName s ≡ false) 0 n n gs g (omega arith) names.at_groups at_g in
    let none = group_holds (λ s. stands root DuplicateOutput s ≡ false) 0 n n gs g (omega arith) duplicates.at_groups at_g in
    rw (sym is_g) (own_of root n g at_g known.1 none.1))
