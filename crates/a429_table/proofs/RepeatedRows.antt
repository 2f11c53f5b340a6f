-- The repeats among the rows of the record are those that the format states, if the table has no fault of an earlier
-- kind.
use Rattle.std.proofs.Common.{◌≡◌, ℕ, zero, suc, ◌+◌, ◌^◌, ◌<◌, ◌≤◌, min, max, ℤ, pos, Bool, true, false, not, ◌&&◌, ◌||◌, eqb, List, [], ◌∷◌, ◌++◌, length, map, take, filter, get_or, replicate, codes, Option, Some, None, IfSome, option_map, is_none, bit_and, bit_or, inl, inr, refl, sym, ap, ◌∙◌, arith, Global, Vec}
use Rattle.std.specs.Int.Bits.{and_self, and_zero_l, or_add_and}
use Rattle.std.proofs.lemmas.Bool.{cases_eq, cases_lt, eq-eqb, ne_eqb}
use Rattle.std.proofs.lemmas.Bool.Decides.{Decides-and, Decides-eqb, Decides-int_eq, Decides-like, nat_tests, same_from_decides}
use Rattle.std.proofs.lemmas.Grind.{flat_map-append}
use Rattle.std.proofs.lemmas.List.{get_or-replicate, get_or-set_other, get_or-set_same, get_or_past, length-replicate, length-set}
use Rattle.std.proofs.lemmas.Nat.{and_comm, le_or_l, le_or_r, pow_apart}
use Rattle.std.proofs.lemmas.Nat.Bits.{bit_at_and, bit_at_or, same_from_bits}
use Rattle.std.proofs.lemmas.Option.{same_Some, slice_get-map}
use Rattle.std.proofs.lemmas.Slice.Eq.{bytes_eq-Decides}
use Rattle.std.proofs.lemmas.Simd.{map-map}
use Rattle.std.proofs.Math.Bool.{or-false}
use Rattle.std.specs.Bool.{Decides}
use Rattle.std.specs.Int.{bit_at}
use Rattle.std.specs.List.{AllByRecursion, enumerate_from, flat_map, list_any, slice_get}
use Rattle.std.specs.Option.{option_map_or, option_or}
use Rattle.std.specs.Ordering.{int_eq}
use Rattle.toml.specs.Data.{Data}
use Rattle.a429_word.proofs.Lists.{all_at, false_unless, get_within}
use Rattle.a429_word.proofs.LabelTexts.{octal_number-below}
use Rattle.a429_equipment.specs.declared.rows.OutputRow.{OutputRow}
use Rattle.a429_table.specs.declared.fault.FaultKind.{FaultKind}
use Rattle.a429_table.specs.declared.fault.FaultKind.TheVariants.{Version, UnknownKey, MissingKey, WrongKind, Rate, TooMany, Name, DuplicateName, Label, Sdi, Interval, UnknownName, DuplicateSource, DuplicateOutput, EmptyGroup, Hold}
use Rattle.a429_table.specs.declared.fault.TablePlace.TheVariants.{Source, Group, Output}
use Rattle.a429_table.specs.declared.repeats.Repeats.{Repeats}
use Rattle.a429_table.specs.declared.repeats.Words.{Words}
use Rattle.a429_table.specs.declared.walk.Rows.{Rows}
use Rattle.a429_table.specs.declared.walk.Rows.TheVariants.{Receivers, Sources, Outputs}
use Rattle.a429_table.specs.Repeats.{AreRepeatsIn, bits_of, found, free, is_found, is_taken, output_flag, output_words, repeats_among, repeats_from, sent_words, source_flag, source_words, with_words}
use Rattle.a429_table.specs.Faults.{faults, first, kinds, repeats_output, repeats_source, same_sdi, same_words, sdi_at, sdis_meet, source_of, sources_meet, stands}
use Rattle.a429_table.specs.Stated.{output_row, output_rows, source_row, stated}
use Rattle.a429_table.specs.Walk.{Stop, earlier, group_stops, numbered, numbered_from, row_place, walk}
use Rattle.a429_table.specs.Names.{number_named}
use Rattle.a429_table.specs.Tree.{rows_at, text_at}
use Rattle.a429_table.proofs.Apart.{IsSource, as_stated, row_sdi, same_label, same_receiver, source_sdi}
use Rattle.a429_table.proofs.Own.{known_at, number_is}
use Rattle.a429_table.proofs.Absence.{group_holds, is_absent, none_stand, rows_hold}
use Rattle.a429_table.proofs.Firsts.{first_append}
use Rattle.a429_table.proofs.Soundness.{few, good_sources}
use Rattle.a429_table.proofs.SoundRows.{sdi_below}
use Rattle.a429_table.proofs.Places.{number-lt-length}

-- ---- bits

spread : (x y z : ℕ) → min (max x y) z ≡ max (min x z) (min y z)
spread x y z = omega arith

and_or : (a b m : ℕ) → bit_and (bit_or a b) m ≡ bit_or (bit_and a m) (bit_and b m)
and_or a b m =
    same_from_bits _ _ (λ i.
    bit_at_and (bit_or a b) m i ∙ ap (λ n. min n (bit_at m i)) (bit_at_or a b i) ∙ spread (bit_at a i) (bit_at b i) (bit_at m i)
    ∙ sym (bit_at_or (bit_and a m) (bit_and b m) i ∙ ap (λ n. max n (bit_at (bit_and b m) i)) (bit_at_and a m i) ∙ ap (λ n. max (min (bit_at a i) (bit_at m i)) n) (bit_at_and b m i)))

either_bit : (x y : ℕ) → not (eqb (bit_or x y) 0) ≡ (not (eqb y 0) || not (eqb x 0))
either_bit x y =
    let sum = or_add_and x y in
    let left = le_or_l x y in
    let right = le_or_r x y in
    grind (arith, nat_tests)

-- ---- one row after another

-- words meet at one place, by a bit
abbrev pub meet : Words → Words → Bool
meet e w = eqb e.place w.place && not (eqb (bit_and e.bits w.bits) 0)

none_taken : (n : ℕ) (w : Words) → is_taken (free n) w ≡ false
unfolding free
none_taken n w =
    let nothing : get_or (replicate n 0) w.place 0 ≡ 0 =
    elim (cases_lt w.place n) [ inl below ↦ get_or-replicate n w.place 0 0 below | inr past ↦ get_or_past (replicate n 0) w.place 0 (omega (arith, length-replicate {A = ℕ} n 0)) ] in
    ap (λ t. not (eqb (bit_and t w.bits) 0)) nothing ∙ ap (λ t. not (eqb t 0)) (and_zero_l w.bits)

more_taken : (taken : List ℕ) (x w : Words) → x.place < length taken → is_taken (with_words taken x) w ≡ (meet x w || is_taken taken w)
more_taken taken x w small =
    let t = get_or taken x.place 0 in
    elim (cases_eq x.place w.place) [
      | inl same ↦
          rw (← same, get_or-set_same, eq-eqb x.place x.place refl)
          (ap (λ n. not (eqb n 0)) (and_or t x.bits w.bits) ∙ either_bit (bit_and t w.bits) (bit_and x.bits w.bits))
      | inr other ↦ rw (get_or-set_other taken x.place w.place (bit_or t x.bits) 0 (λ e. other (sym e)), ne_eqb x.place w.place other) refl
    ]

-- rows of the kind P have their words at these places, and meet by them as a test says
record MeetByWords {X : Type 0} (places : ℕ) (words : X → Words) (P : X → Type 0) (test : X → X → Bool) : Type 0 where
  small : (x : X) → P x → (words x).place < places
  alike : (x y : X) → P x → P y → meet (words x) (words y) ≡ test x y

turned : (a b c : Bool) → (a || (b || c)) ≡ ((b || a) || c)
turned true true c = refl
turned true false c = refl
turned false true c = refl
turned false false c = refl

flag_from : {X : Type 0} (places : ℕ) (words : X → Words) (P : X → Type 0) (test : X → X → Bool) → MeetByWords places words P test
    → (taken : List ℕ) (xs : List X) (i : ℕ) (x : X) → length taken ≡ places → AllByRecursion P xs → P x → slice_get xs i ≡ Some x
    → get_or (repeats_from taken (map words xs)) i false ≡ (list_any (λ y. test y x) (take i xs) || is_taken taken (words x))
flag_from places words P test m taken [] i x size all good e = cc
flag_from places words P test m taken (z ∷ zs) zero x size all good e = let same : z ≡ x = cc in ap (λ y. is_taken taken (words y)) same
flag_from places words P test m taken (z ∷ zs) (suc i) x size all good e =
    let small = m.small z all.0 in
    flag_from places words P test m (with_words taken (words z)) zs i x (length-set taken (words z).place _ ∙ size) all.1 good e
    ∙ ap (λ b. list_any (λ y. test y x) (take i zs) || b) (more_taken taken (words z) (words x) (omega (arith, size)) ∙ ap (λ b. b || is_taken taken (words x)) (m.alike z x all.0 good))
    ∙ turned (list_any (λ y. test y x) (take i zs)) (test z x) (is_taken taken (words x))

-- a row repeats an earlier one, if one before it passes the test
flag_at : {X : Type 0} (places : ℕ) (words : X → Words) (P : X → Type 0) (test : X → X → Bool) → MeetByWords places words P test → (xs : List X) (i : ℕ) (x : X) → AllByRecursion P xs → slice_get xs i ≡ Some x
    → get_or (repeats_among places (map words xs)) i false ≡ list_any (λ y. test y x) (take i xs)
unfolding free
flag_at places words P test m xs i x all e =
    flag_from places words P test m (replicate places 0) xs i x (length-replicate places 0) all (all_at P xs i x all e) e
    ∙ ap (λ b. list_any (λ y. test y x) (take i xs) || b) (none_taken places (words x)) ∙ or-false _

-- ---- SDIs

one_bit : (n : ℕ) → n < 4 → (eqb (bit_and 15 (2 ^ n)) 0 ≡ false) × (eqb (2 ^ n) 0 ≡ false)
one_bit zero h = (refl, refl)
one_bit (suc zero) h = (refl, refl)
one_bit (suc (suc zero)) h = (refl, refl)
one_bit (suc (suc (suc zero))) h = (refl, refl)
one_bit (suc (suc (suc (suc n)))) h = absurd (omega arith)

two_bits : (m n : ℕ) → m < 4 → not (eqb (bit_and (2 ^ m) (2 ^ n)) 0) ≡ int_eq (pos m) (pos n)
two_bits m n h =
    elim (cases_eq m n) [
      | inl same ↦ rw (← same, and_self (2 ^ m), (one_bit m h).1) (sym ((Decides-int_eq (pos m) (pos m)).1 refl))
      | inr other ↦ rw (pow_apart m n other) (sym (false_unless (int_eq (pos m) (pos n)) (λ e. let same = (Decides-int_eq (pos m) (pos n)).0 e in other cc)))
    ]

bits_meet : (o u : Option ℕ) → IfSome o (λ m. m < 4) → IfSome u (λ n. n < 4)
    → not (eqb (bit_and (bits_of 15 o) (bits_of 15 u)) 0) ≡ sdis_meet (as_stated o) (as_stated u)
bits_meet None None h k = refl
bits_meet None (Some n) h k = rw (one_bit n k).0 refl
bits_meet (Some m) None h k = rw (and_comm (2 ^ m) 15, (one_bit m h).0) refl
bits_meet (Some m) (Some n) h k = two_bits m n h

same_bits : (o u : Option ℕ) → IfSome o (λ m. m < 4) → IfSome u (λ n. n < 4)
    → not (eqb (bit_and (bits_of 16 o) (bits_of 16 u)) 0) ≡ same_sdi (as_stated o) (as_stated u)
same_bits None None h k = refl
same_bits None (Some n) h k = rw (pow_apart 4 n (λ same. omega arith)) refl
same_bits (Some m) None h k = rw (pow_apart m 4 (λ same. omega arith)) refl
same_bits (Some m) (Some n) h k = two_bits m n h

-- ---- sources and outputs

of_rows : (test : Option ℤ → Option ℤ → Bool) (root a b : Data) → IsSource root a → IsSource root b
    → test (as_stated (row_sdi (sdi_at a))) (as_stated (row_sdi (sdi_at b))) ≡ test (sdi_at a) (sdi_at b)
of_rows test root a b s t = ap (λ o. test o (as_stated (row_sdi (sdi_at b)))) (sym (source_sdi root a s)) ∙ ap (test (sdi_at a)) (sym (source_sdi root b t))

-- sources without a fault of their own meet by the words of their rows
source_alike : (root a b : Data) → length (rows_at (codes "receiver") root) ≤ 16 → IsSource root a → IsSource root b
    → meet (source_words (source_row root a)) (source_words (source_row root b)) ≡ sources_meet a b
unfolding source_row
source_alike root a b few s t =
    let receiver_a = text_at (codes "receiver") a in
    let receiver_b = text_at (codes "receiver") b in
    let label_a = text_at (codes "label") a in
    let label_b = text_at (codes "label") b in
    let receivers = rows_at (codes "receiver") root in
    let below_a = number-lt-length receiver_a receivers s.known in
    let below_b = number-lt-length receiver_b receivers t.known in
    let small_a = octal_number-below label_a in
    let small_b = octal_number-below label_b in
    let placed = Decides-eqb (source_words (source_row root a)).place (source_words (source_row root b)).place in
    let named = Decides-and _ _ (bytes_eq-Decides receiver_a receiver_b) (bytes_eq-Decides label_a label_b) in
    let places : Decides (eqb (source_words (source_row root a)).place (source_words (source_row root b)).place) ((receiver_a ≡ receiver_b) × (label_a ≡ label_b)) =
    Decides-like _ (λ e. (same_receiver root a b s t (omega arith), same_label root a b s t (omega arith))) (λ e. rw (e.0, e.1) refl) placed in
    rw (same_from_decides _ _ places named, bits_meet (row_sdi (sdi_at a)) (row_sdi (sdi_at b)) (sdi_below (sdi_at a)) (sdi_below (sdi_at b)), of_rows sdis_meet root a b s t) refl

-- and they are sent alike
sent_alike : (root a b : Data) → IsSource root a → IsSource root b → meet (sent_words (source_row root a)) (sent_words (source_row root b)) ≡ same_words (Some a) (Some b)
unfolding source_row
sent_alike root a b s t =
    let labelled = bytes_eq-Decides (text_at (codes "label") a) (text_at (codes "label") b) in
    let labels = Decides-like _ (same_label root a b s t) (λ e. rw e refl) (Decides-eqb (source_row root a).label (source_row root b).label) in
    rw (same_from_decides _ _ labels labelled, same_bits (row_sdi (sdi_at a)) (row_sdi (sdi_at b)) (sdi_below (sdi_at a)) (sdi_below (sdi_at b)), of_rows same_sdi root a b s t) refl

-- an output with its source, and the words of that
record Sent (root d : Data) : Type 0 where
  source : Data
  is : source_of root d ≡ Some source
  good : IsSource root source
  words : output_words (map (source_row root) (rows_at (codes "source") root)) (output_row root d) ≡ sent_words (source_row root source)

sent : (root d : Data) → AllByRecursion (IsSource root) (rows_at (codes "source") root)
    → is_none (number_named (text_at (codes "source") d) (rows_at (codes "source") root)) ≡ false → Sent root d
unfolding output_row
sent root d good known =
    let ds = rows_at (codes "source") root in
    let n = (output_row root d).source in
    let (s, at_n) = get_within ds n (number-lt-length (text_at (codes "source") d) ds known) in
    record {
      source = s;
      is = number_is root d known ∙ at_n;
      good = all_at (IsSource root) ds n s good at_n;
      words = rw (slice_get-map (source_row root) ds n, at_n) refl;
    }

-- ---- what is found is what there is

-- no kind that is asked before repeats is at any place
record IsFine (root : Data) : Type 0 where
  few : length (rows_at (codes "receiver") root) ≤ 16
  sources : AllByRecursion (IsSource root) (rows_at (codes "source") root)
  outputs : (g : ℕ) (group : Data) → slice_get (rows_at (codes "group") root) g ≡ Some group → AllByRecursion (Sent root) (rows_at (codes "output") group)

source_found : (root : Data) (repeats : Repeats) → AreRepeatsIn (stated root).sources (stated root).outputs repeats → IsFine root
    → (i : ℕ) (d : Data) → slice_get (rows_at (codes "source") root) i ≡ Some d → source_flag repeats (Source i) ≡ repeats_source root (Source i) d
unfolding stated repeats_source earlier source_row
source_found root repeats are fine i d at_i =
    let ds = rows_at (codes "source") root in
    ap (λ flags. get_or flags i false) (are.of_sources ∙ ap (repeats_among 4096) (map-map source_words (source_row root) ds))
    ∙ flag_at 4096 (λ e. source_words (source_row root e)) (IsSource root) sources_meet (record {
      small = λ e good. let small = octal_number-below (text_at (codes "label") e) in omega arith;
      alike = λ a b. source_alike root a b fine.few;
    }) ds i d fine.sources at_i

flags_of : (o : Option (Vec Bool Global)) (flags : List Bool) (j : ℕ) → option_map (λ v. v.items) o ≡ Some flags → option_map_or (λ v. get_or v.items j false) o false ≡ get_or flags j false
flags_of None flags j e = cc
flags_of (Some v) flags j e = ap (λ xs. get_or xs j false) (same_Some v.items flags e)

output_found : (root : Data) (repeats : Repeats) → AreRepeatsIn (stated root).sources (stated root).outputs repeats → IsFine root
    → (g j : ℕ) (group d : Data) → slice_get (rows_at (codes "group") root) g ≡ Some group → slice_get (rows_at (codes "output") group) j ≡ Some d
    → output_flag repeats (Output g j) ≡ repeats_output root (Output g j) d
unfolding stated repeats_output earlier source_row
output_found root repeats are fine g j group d at_g at_j =
    let sources = map (source_row root) (rows_at (codes "source") root) in
    let words = λ (e : Data). output_words sources (output_row root e) in
    let test = λ (a b : Data). same_words (source_of root a) (source_of root b) in
    let ds = rows_at (codes "output") group in
    let f = λ (os : List OutputRow). repeats_among 256 (map (output_words sources) os) in
    let at : option_map (λ v. v.items) (slice_get repeats.outputs.items g) ≡ Some (repeats_among 256 (map words ds)) =
    sym (slice_get-map (λ v. v.items) repeats.outputs.items g) ∙ ap (λ fs. slice_get fs g) are.of_outputs
    ∙ slice_get-map f (map (output_rows root) (rows_at (codes "group") root)) g
    ∙ ap (option_map f) (slice_get-map (output_rows root) (rows_at (codes "group") root) g)
    ∙ ap (λ o. option_map f (option_map (output_rows root) o)) at_g
    ∙ ap (λ ws. Some (repeats_among 256 ws)) (map-map (output_words sources) (output_row root) ds) in
    rw at_g
    (flags_of (slice_get repeats.outputs.items g) (repeats_among 256 (map words ds)) j at
    ∙ flag_at 256 words (Sent root) test (record {
      small = λ e s. rw s.words (octal_number-below (text_at (codes "label") s.source));
      alike = λ a b s t. rw (s.words, t.words, s.is, t.is) (sent_alike root s.source t.source s.good t.good);
    }) ds j d (fine.outputs g group at_g) at_j)

-- ---- the walk

all_both : {X : Type 0} (P : X → Type 0) (xs ys : List X) → AllByRecursion P xs → AllByRecursion P ys → AllByRecursion P (xs ++ ys)
all_both P [] ys h k = k
all_both P (x ∷ xs) ys h k = (h.0, all_both P xs ys h.1 k)

all_rows : (array : Rows) (P : Stop → Type 0) (n : ℕ) (ds : List Data) → ((i k : ℕ) (d : Data) → k ≡ n + i → slice_get ds i ≡ Some d → P (row_place array k, d)) → AllByRecursion P (numbered_from array n ds)
all_rows array P n [] h = tt
all_rows array P n (d ∷ ds) h = (h 0 n d (omega arith) refl, all_rows array P (n + 1) ds (λ i k e at_k f. h (suc i) k e (omega arith) f))

all_groups : (P : Stop → Type 0) (n : ℕ) (gs : List Data) → ((i k : ℕ) (g : Data) → k ≡ n + i → slice_get gs i ≡ Some g → P (Group k, g) × AllByRecursion P (numbered (Outputs k) (rows_at (codes "output") g)))
    → AllByRecursion P (flat_map group_stops (enumerate_from n gs))
all_groups P n [] h = tt
all_groups P n (g ∷ gs) h =
    let own = h 0 n g (omega arith) refl in
    (own.0, all_both P (numbered (Outputs n) (rows_at (codes "output") g)) _ own.1 (all_groups P (n + 1) gs (λ i k e at_k f. h (suc i) k e (omega arith) f)))

-- at a place the repeats that are found are those that there are
abbrev IsFoundThere : Data → Repeats → Stop → Type 0
IsFoundThere root repeats s =
    (is_found repeats root DuplicateSource s ≡ stands root DuplicateSource s) × (is_found repeats root DuplicateOutput s ≡ stands root DuplicateOutput s)

all_found : (root : Data) (repeats : Repeats) → AreRepeatsIn (stated root).sources (stated root).outputs repeats → IsFine root → AllByRecursion (IsFoundThere root repeats) (walk root)
unfolding walk is_found stands repeats_source repeats_output
all_found root repeats are fine =
    let P = IsFoundThere root repeats in
    let receivers = all_rows Receivers P 0 (rows_at (codes "receiver") root) (λ i k d at_k at_i. (refl, refl)) in
    let sources = all_rows Sources P 0 (rows_at (codes "source") root) (λ i k d at_k at_i. let same : k ≡ i = omega arith in (rw same (source_found root repeats are fine i d at_i), refl)) in
    let groups = all_groups P 0 (rows_at (codes "group") root) (λ i k g at_k at_i.
    let same : k ≡ i = omega arith in
    ((refl, refl), all_rows (Outputs k) P 0 (rows_at (codes "output") g) (λ j m d at_m at_j. let own : m ≡ j = omega arith in (refl, rw (same, own) (output_found root repeats are fine i j g d at_i at_j))))) in
    ((refl, refl), all_both P _ _ (all_both P _ _ receivers sources) groups)

-- ---- the first fault

filters_alike : {X : Type 0} (p q r s : X → Bool) (xs : List X) → AllByRecursion (λ x. (p x ≡ q x) × (r x ≡ s x)) xs → (filter p xs ≡ filter q xs) × (filter r xs ≡ filter s xs)
filters_alike p q r s [] h = (refl, refl)
filters_alike p q r s (x ∷ xs) h = let rest = filters_alike p q r s xs h.1 in (rw (h.0.0, rest.0) refl, rw (h.0.1, rest.1) refl)

or_alike : {X : Type 0} (o : Option X) (a b : Option X) → (o ≡ None → a ≡ b) → option_or o a ≡ option_or o b
or_alike None a b h = h refl
or_alike (Some x) a b h = refl

earlier_kinds : List FaultKind
earlier_kinds = Version ∷ UnknownKey ∷ MissingKey ∷ WrongKind ∷ Rate ∷ TooMany ∷ Name ∷ DuplicateName ∷ Label ∷ Sdi ∷ Interval ∷ UnknownName ∷ []

later_kinds : List FaultKind
later_kinds = DuplicateSource ∷ DuplicateOutput ∷ EmptyGroup ∷ Hold ∷ []

is_fine : (root : Data) → first (flat_map (found (stands root) (walk root)) earlier_kinds) ≡ None → IsFine root
unfolding earlier_kinds
is_fine root h =
    let n = none_stand root earlier_kinds h in
    let many = n.1.1.1.1.1.0 in
    let labels = n.1.1.1.1.1.1.1.1.0 in
    let sdis = n.1.1.1.1.1.1.1.1.1.0 in
    let names = n.1.1.1.1.1.1.1.1.1.1.1.0 in
    let good = good_sources root names labels sdis in
    record {
      few = (few root (is_absent root TooMany many).at_root).receivers;
      sources = good;
      outputs = λ g group at_g.
          let known = group_holds (λ s. stands root UnknownName s ≡ false) 0 g g (rows_at (codes "group") root) group (omega arith) (is_absent root UnknownName names).at_groups at_g in
          rows_hold (Outputs g) _ (Sent root) (λ j d e. sent root d good (known_at root g j d e)) 0 (rows_at (codes "output") group) known.1;
    }

-- the first of what is found is the first fault
pub first_found : (root : Data) (repeats : Repeats) → AreRepeatsIn (stated root).sources (stated root).outputs repeats → first (flat_map (found (is_found repeats root) (walk root)) kinds) ≡ first (faults root)
unfolding kinds faults earlier_kinds later_kinds is_found
first_found root repeats are =
    let f = found (is_found repeats root) (walk root) in
    let g = found (stands root) (walk root) in
    let early = first (flat_map g earlier_kinds) in
    ap first (flat_map-append f earlier_kinds later_kinds) ∙ first_append (flat_map f earlier_kinds) (flat_map f later_kinds)
    ∙ or_alike early (first (flat_map f later_kinds)) (first (flat_map g later_kinds)) (λ none.
    let alike = filters_alike _ _ _ _ (walk root) (all_found root repeats are (is_fine root none)) in
    rw (alike.0, alike.1) refl)
    ∙ sym (ap first (flat_map-append g earlier_kinds later_kinds) ∙ first_append (flat_map g earlier_kinds) (flat_map g later_kinds))
