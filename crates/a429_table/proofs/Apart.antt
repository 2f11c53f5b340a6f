-- The sources of a table without faults are apart.
use Rattle.std.proofs.Common.{◌≡◌, ◌==◌, ℕ, zero, suc, ◌<◌, ⊎_elim, ℤ, pos, negsuc, Bool, true, false, List, [], ◌∷◌, map, take, codes, Option, Some, None, option_map, is_none, unwrap_or, refl, sym, ap, subst, ◌∙◌, arith}
use Rattle.std.proofs.lemmas.Bool.{or_parts, and_parts, and_from, eqb-true, both_ways, cases_order}
use Rattle.std.proofs.lemmas.Bool.Decides.{Decides-int_eq}
use Rattle.std.proofs.lemmas.Option.{same_Some}
use Rattle.std.proofs.lemmas.Slice.Eq.{bytes_eq-Decides}
use Rattle.std.specs.List.{list_any, slice_get, AllByRecursion}
use Rattle.std.specs.Option.{option_map_or}
use Rattle.std.specs.Prelude.{IsTrue}
use Rattle.a429_word.specs.Bits.{label_of as word_label, sdi_of as word_sdi}
use Rattle.toml.specs.Data.{Data, string, integer, float, boolean, datetime, array, table, get}
use Rattle.a429_word.proofs.Lists.{all_at}
use Rattle.a429_equipment.specs.declared.rows.SourceRow.{SourceRow}
use Rattle.a429_table.specs.declared.fault.FaultKind.TheVariants.{DuplicateSource}
use Rattle.a429_table.specs.declared.walk.Rows.TheVariants.{Sources}
use Rattle.a429_table.specs.Tree.{text_at, rows_at}
use Rattle.a429_word.specs.Texts.{label_value, octal_number}
use Rattle.a429_word.proofs.LabelTexts.{one_label}
use Rattle.a429_table.specs.Names.{number_named}
use Rattle.a429_table.specs.Walk.{earlier, numbered}
use Rattle.a429_table.specs.Faults.{stands, is_sdi, sdi_of, sdi_at, sdis_meet, sources_meet, repeats_source}
use Rattle.a429_table.specs.Least.{StandsAtNone}
use Rattle.a429_table.specs.Stated.{natural, source_row}
use Rattle.a429_equipment.specs.Arrivals.{is_for, SourcesAreApart}
use Rattle.a429_table.proofs.SoundValues.{natural-pos, within}
use Rattle.a429_table.proofs.Absence.{row_holds}
use Rattle.a429_table.proofs.Places.{one_name}

-- ---- two sources that a word is for meet

pub some_of : (o : Option ℕ) (x : ℕ) → is_none o ≡ false → unwrap_or o 0 ≡ x → o ≡ Some x
some_of None x h e = cc
some_of (Some y) x h e = ap (λ n. Some n) e

-- the number of an SDI that is right
abbrev pub row_sdi : Option ℤ → Option ℕ
row_sdi o = option_map (natural 4) o

abbrev pub as_stated : Option ℕ → Option ℤ
as_stated o = option_map (λ n. pos n) o

sdi_is : (o : Option Data) → is_sdi o ≡ true → sdi_of o ≡ as_stated (row_sdi (sdi_of o))
sdi_is None h = refl
sdi_is (Some (string s)) h = refl
sdi_is (Some (integer (pos n))) h = let (low, high) = within 0 3 n h in rw (natural-pos 4 n (omega arith)) refl
sdi_is (Some (integer (negsuc n))) h = cc
sdi_is (Some (float f)) h = refl
sdi_is (Some (boolean b)) h = refl
sdi_is (Some (datetime d)) h = refl
sdi_is (Some (array ds)) h = refl
sdi_is (Some (table ms)) h = refl

-- an SDI of a source, or any, that agrees with an SDI of a word
abbrev Agrees : Option ℕ → ℕ → Type 0
Agrees o x = option_map_or (λ k. k == x) o true ≡ true

sdis_meet_at : (o u : Option ℕ) (x : ℕ) → Agrees o x → Agrees u x → sdis_meet (as_stated o) (as_stated u) ≡ true
sdis_meet_at None u x a b = refl
sdis_meet_at (Some m) None x a b = refl
sdis_meet_at (Some m) (Some n) x a b = (Decides-int_eq (pos m) (pos n)).1 (ap (λ i. pos i) (eqb-true m x a ∙ sym (eqb-true n x b)))

-- a source without a fault of its own
pub record IsSource (root : Data) (d : Data) : Type 0 where
  pub known : is_none (number_named (text_at (codes "receiver") d) (rows_at (codes "receiver") root)) ≡ false
  pub label : is_none (label_value (text_at (codes "label") d)) ≡ false
  pub sdi : is_sdi (get (codes "sdi") d) ≡ true

pub source_sdi : (root d : Data) → IsSource root d → sdi_at d ≡ as_stated (row_sdi (sdi_at d))
source_sdi root d s = sdi_is (get (codes "sdi") d) s.sdi

-- sources with one number of a receiver have one receiver
pub same_receiver : (root a b : Data) → IsSource root a → IsSource root b → (source_row root a).receiver ≡ (source_row root b).receiver → text_at (codes "receiver") a ≡ text_at (codes "receiver") b
unfolding source_row
same_receiver root a b s t same =
    let receivers = rows_at (codes "receiver") root in
    let name_a = text_at (codes "receiver") a in
    let name_b = text_at (codes "receiver") b in
    let r = (source_row root b).receiver in
    one_name name_a name_b receivers r (some_of (number_named name_a receivers) r s.known same) (some_of (number_named name_b receivers) r t.known refl)

-- and those with one number of a label have one label
pub same_label : (root a b : Data) → IsSource root a → IsSource root b → (source_row root a).label ≡ (source_row root b).label → text_at (codes "label") a ≡ text_at (codes "label") b
unfolding source_row octal_number
same_label root a b s t same =
    let label_a = text_at (codes "label") a in
    let label_b = text_at (codes "label") b in
    let n = (source_row root b).label in
    one_label label_a label_b n (some_of (label_value label_a) n s.label same) (some_of (label_value label_b) n t.label refl)

meet : (root a b : Data) (r raw : ℕ) → IsSource root a → IsSource root b → IsTrue (is_for r raw (source_row root a)) → IsTrue (is_for r raw (source_row root b)) → sources_meet a b ≡ true
unfolding source_row
meet root a b r raw s t f g =
    let (receiver_a, rest_a) = and_parts _ _ f in
    let (label_a, agrees_a) = and_parts _ _ rest_a in
    let (receiver_b, rest_b) = and_parts _ _ g in
    let (label_b, agrees_b) = and_parts _ _ rest_b in
    let receivers = same_receiver root a b s t (eqb-true _ r receiver_a ∙ sym (eqb-true _ r receiver_b)) in
    let labels = same_label root a b s t (eqb-true _ (word_label raw) label_a ∙ sym (eqb-true _ (word_label raw) label_b)) in
    let names = (bytes_eq-Decides (text_at (codes "receiver") a) (text_at (codes "receiver") b)).1 receivers in
    let digits = (bytes_eq-Decides (text_at (codes "label") a) (text_at (codes "label") b)).1 labels in
    let sdis = sdis_meet_at (row_sdi (sdi_at a)) (row_sdi (sdi_at b)) (word_sdi raw) agrees_a agrees_b in
    and_from _ _ (and_from _ _ names digits) (rw (source_sdi root a s, source_sdi root b t) sdis)

-- ---- no two sources meet

pub not_among : {X : Type 0} (p : X → Bool) (i j : ℕ) (xs : List X) (x : X) → list_any p (take j xs) ≡ false → i < j → slice_get xs i ≡ Some x → p x ≡ false
not_among p i j [] x h below e = cc
not_among p i zero (y ∷ ys) x h below e = absurd (omega arith)
not_among p zero (suc j) (y ∷ ys) x h below e = let same : y ≡ x = cc in subst (λ z. p z ≡ false) same (or_parts (p y) _ h).0
not_among p (suc i) (suc j) (y ∷ ys) x h below e = not_among p i j ys x (or_parts (p y) _ h).1 (omega arith) e

never_meet : (root : Data) (i j : ℕ) (a b : Data) → StandsAtNone root (numbered Sources (rows_at (codes "source") root)) DuplicateSource → i < j
    → slice_get (rows_at (codes "source") root) i ≡ Some a → slice_get (rows_at (codes "source") root) j ≡ Some b → sources_meet a b ≡ false
unfolding stands repeats_source earlier
never_meet root i j a b h below e f =
    not_among (λ c. sources_meet c b) i j (rows_at (codes "source") root) a (row_holds Sources (λ s. stands root DuplicateSource s ≡ false) 0 j j (rows_at (codes "source") root) b (omega arith) h f) below e

-- the element that a mapped one is of
pub mapped_at : {X Y : Type 0} (f : X → Y) (xs : List X) (i : ℕ) (y : Y) → slice_get (map f xs) i ≡ Some y → (x : X) × (slice_get xs i ≡ Some x) × (f x ≡ y)
mapped_at f [] i y h = cc
mapped_at f (x ∷ xs) zero y h = (x, refl, same_Some (f x) y h)
mapped_at f (x ∷ xs) (suc i) y h = mapped_at f xs i y h

apart_below : (root : Data) → AllByRecursion (IsSource root) (rows_at (codes "source") root) → StandsAtNone root (numbered Sources (rows_at (codes "source") root)) DuplicateSource
    → (r raw i j : ℕ) (s t : SourceRow) → slice_get (map (source_row root) (rows_at (codes "source") root)) i ≡ Some s → slice_get (map (source_row root) (rows_at (codes "source") root)) j ≡ Some t
    → IsTrue (is_for r raw s) → IsTrue (is_for r raw t) → i < j → ⊥
apart_below root good none r raw i j s t e f for_s for_t below =
    let ds = rows_at (codes "source") root in
    let (a, at_a, is_a) = mapped_at (source_row root) ds i s e in
    let (b, at_b, is_b) = mapped_at (source_row root) ds j t f in
    let met = meet root a b r raw (all_at (IsSource root) ds i a good at_a) (all_at (IsSource root) ds j b good at_b) (rw is_a for_s) (rw is_b for_t) in
    both_ways (sources_meet a b) (never_meet root i j a b none below at_a at_b) met

pub are_apart : (root : Data) → AllByRecursion (IsSource root) (rows_at (codes "source") root) → StandsAtNone root (numbered Sources (rows_at (codes "source") root)) DuplicateSource
    → SourcesAreApart (map (source_row root) (rows_at (codes "source") root))
are_apart root good none r raw i j s t e f for_s for_t =
    ⊎_elim (λ same. same)
    (⊎_elim (λ below. absurd (apart_below root good none r raw i j s t e f for_s for_t below)) (λ above. absurd (apart_below root good none r raw j i t s f e for_t for_s above)))
    (cases_order i j)
