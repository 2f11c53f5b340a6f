-- The record of a table without faults says what is written in the document.
use Rattle.std.proofs.Common.{codes, ◌≡◌, ℕ, ◌^◌, ℤ, pos, Bool, true, false, not, ◌||◌, List, [], ◌∷◌, map, Option, Some, None, is_none, option_map, unwrap_or, Ok, refl, sym, ap, ◌∙◌, subst, arith, ⊎_elim}
use Rattle.std.specs.Prelude.{IfSome, slice_get, if◌then◌else◌}
use Rattle.std.specs.Ordering.{int_eq}
use Rattle.std.proofs.lemmas.Bool.{or_cases, and_parts, not-false}
use Rattle.std.proofs.lemmas.Bool.Decides.{Decides-int_eq}
use Rattle.toml.specs.Data.{Data, string, integer, get}
use Rattle.a429_table.specs.declared.fault.FaultKind.{FaultKind}
use Rattle.a429_table.specs.declared.fault.FaultKind.TheVariants.{Version, MissingKey, WrongKind, Rate, Label, Sdi, Interval, UnknownName, Hold}
use Rattle.a429_table.specs.declared.fault.TablePlace.{TablePlace}
use Rattle.a429_table.specs.declared.fault.TablePlace.TheVariants.{Root, Receiver, Source, Group, Output}
use Rattle.a429_equipment.specs.declared.rows.ReceiverRow.{ReceiverRow}
use Rattle.a429_equipment.specs.declared.rows.SourceRow.{SourceRow}
use Rattle.a429_equipment.specs.declared.version.TableVersion.{TableVersion}
use Rattle.a429_equipment.specs.declared.version.TableVersion.TheVariants.{One, Two}
use Rattle.a429_table.specs.declared.walk.Rows.TheVariants.{Receivers, Sources, Outputs}
use Rattle.a429_equipment.specs.TableRecord.{TableRecord}
use Rattle.a429_table.specs.Columns.{may, columns}
use Rattle.a429_table.specs.declared.columns.Shape.TheVariants.{Integer, Texts}
use Rattle.a429_table.specs.Tree.{text_at, integer_at, get_integer, rows_at}
use Rattle.a429_word.specs.Texts.{label_value, octal, octal_number}
use Rattle.a429_table.specs.Names.{name_of, number_named}
use Rattle.a429_equipment.specs.Version.{version_number}
use Rattle.a429_table.specs.Version.{version_of}
use Rattle.a429_table.specs.Walk.{numbered}
use Rattle.a429_table.specs.Faults.{stands, first, faults, misfits, has_wrong_version, has_wrong_rate, has_bad_label, has_bad_sdi, has_bad_interval, has_bad_hold, names_nothing, is_within, is_interval, sdi_at}
use Rattle.a429_table.specs.Least.{StandsAtNone}
use Rattle.a429_table.specs.Stated.{stated, natural, number_of, receiver_row, source_row, group_row, output_row, output_rows, rate_at, rate_of, hold_of, filters_of}
use Rattle.a429_table.specs.Reading.{document, reading, judged, root_of, read_root}
use Rattle.a429_table.specs.AsWritten.{HasText, HasInteger, HasRows, HasSdi, HasHold, HasFilters, IsReceiverOf, IsSourceOf, IsGroupOf, IsOutputOf, IsAsWritten}
use Rattle.a429_table.proofs.Absence.{IsAbsent, is_faultless, is_absent, row_holds, group_holds}
use Rattle.a429_table.proofs.AtKeys.{HasArray, IsShaped, none_of, shaped, text_stands, integer_stands, array_stands, rows_of_array, get_mapped, named_at, rate_stands, written_label, sdi_in, hold_in, filters_in, number_in}

-- ---- what the kinds say at one place

shaped_at : (root : Data) (place : TablePlace) (d : Data) → stands root MissingKey (place, d) ≡ false → stands root WrongKind (place, d) ≡ false → IsShaped (version_of root) place d
unfolding stands
shaped_at root place d missing wrong = shaped (version_of root) place d missing wrong

receiver_at : (v : TableVersion) (n : ℕ) (d : Data) → IsShaped v (Receiver n) d → HasText (codes "name") d (name_of d) × (misfits d (may (codes "filters") Texts) ≡ false)
unfolding columns
receiver_at v n d s = (text_stands v (Receiver n) d s 0 (codes "name") refl, none_of (misfits d) (columns v (Receiver n)) s.fitting 1 (may (codes "filters") Texts) refl)

record SourceTexts (d : Data) : Type 0 where
  name : HasText (codes "name") d (name_of d)
  receiver : HasText (codes "receiver") d (text_at (codes "receiver") d)
  label : HasText (codes "label") d (text_at (codes "label") d)

source_at : (v : TableVersion) (n : ℕ) (d : Data) → IsShaped v (Source n) d → SourceTexts d
unfolding columns
source_at v n d s = record {
  name = text_stands v (Source n) d s 0 (codes "name") refl;
  receiver = text_stands v (Source n) d s 1 (codes "receiver") refl;
  label = text_stands v (Source n) d s 2 (codes "label") refl;
}

group_at : (v : TableVersion) (n : ℕ) (d : Data) → IsShaped v (Group n) d → HasText (codes "name") d (name_of d) × HasArray (codes "output") d
unfolding columns
group_at One n d s = (text_stands One (Group n) d s 0 (codes "name") refl, array_stands One (Group n) d s 1 (codes "output") refl)
group_at Two n d s = (text_stands Two (Group n) d s 0 (codes "name") refl, array_stands Two (Group n) d s 2 (codes "output") refl)

group_rate_at : (n : ℕ) (d : Data) → IsShaped Two (Group n) d → has_wrong_rate Two (Group n) d ≡ false → HasInteger (codes "rate") d (rate_at d)
unfolding columns has_wrong_rate
group_rate_at n d s h = rate_stands d (integer_stands Two (Group n) d s 1 (codes "rate") refl) h

record OutputValues (d : Data) : Type 0 where
  source : HasText (codes "source") d (text_at (codes "source") d)
  least : get (codes "min_us") d ≡ Some (integer (integer_at (codes "min_us") d))
  most : get (codes "max_us") d ≡ Some (integer (integer_at (codes "max_us") d))

output_at : (v : TableVersion) (n j : ℕ) (d : Data) → IsShaped v (Output n j) d → OutputValues d
unfolding columns
output_at One n j d s = record {
  source = text_stands One (Output n j) d s 0 (codes "source") refl;
  least = integer_stands One (Output n j) d s 1 (codes "min_us") refl;
  most = integer_stands One (Output n j) d s 2 (codes "max_us") refl;
}
output_at Two n j d s = record {
  source = text_stands Two (Output n j) d s 0 (codes "source") refl;
  least = integer_stands Two (Output n j) d s 1 (codes "min_us") refl;
  most = integer_stands Two (Output n j) d s 2 (codes "max_us") refl;
}

hold_fits : (n j : ℕ) (d : Data) → IsShaped Two (Output n j) d → misfits d (may (codes "hold") Integer) ≡ false
unfolding columns
hold_fits n j d s = none_of (misfits d) (columns Two (Output n j)) s.fitting 3 (may (codes "hold") Integer) refl

record RootArrays (root : Data) : Type 0 where
  version : get (codes "version") root ≡ Some (integer (integer_at (codes "version") root))
  receivers : HasArray (codes "receiver") root
  sources : HasArray (codes "source") root
  groups : HasArray (codes "group") root

root_at : (v : TableVersion) (root : Data) → IsShaped v Root root → RootArrays root
unfolding columns
root_at One root s = record {
  version = integer_stands One Root root s 0 (codes "version") refl;
  receivers = array_stands One Root root s 2 (codes "receiver") refl;
  sources = array_stands One Root root s 3 (codes "source") refl;
  groups = array_stands One Root root s 4 (codes "group") refl;
}
root_at Two root s = record {
  version = integer_stands Two Root root s 0 (codes "version") refl;
  receivers = array_stands Two Root root s 1 (codes "receiver") refl;
  sources = array_stands Two Root root s 2 (codes "source") refl;
  groups = array_stands Two Root root s 3 (codes "group") refl;
}

root_rate_at : (root : Data) → IsShaped One Root root → has_wrong_rate One Root root ≡ false → HasInteger (codes "rate") root (rate_at root)
unfolding columns has_wrong_rate
root_rate_at root s h = rate_stands root (integer_stands One Root root s 1 (codes "rate") refl) h

-- the row that a name stands for has that name
receiver_named : (root d : Data) → is_none (number_named (text_at (codes "receiver") d) (rows_at (codes "receiver") root)) ≡ false → HasText (codes "receiver") d (text_at (codes "receiver") d)
    → (r : ReceiverRow) × (slice_get (map receiver_row (rows_at (codes "receiver") root)) (number_of (text_at (codes "receiver") d) (rows_at (codes "receiver") root)) ≡ Some r) × HasText (codes "receiver") d r.name
unfolding receiver_row
receiver_named root d known text =
    let ds = rows_at (codes "receiver") root in
    let n = named_at (text_at (codes "receiver") d) ds known in
    (receiver_row n.element, get_mapped receiver_row ds (number_of (text_at (codes "receiver") d) ds) n.element n.there, text ∙ ap (λ (t : List ℕ). Some (string t)) (sym n.named))

source_named : (root d : Data) → is_none (number_named (text_at (codes "source") d) (rows_at (codes "source") root)) ≡ false → HasText (codes "source") d (text_at (codes "source") d)
    → (s : SourceRow) × (slice_get (map (source_row root) (rows_at (codes "source") root)) (number_of (text_at (codes "source") d) (rows_at (codes "source") root)) ≡ Some s) × HasText (codes "source") d s.name
unfolding source_row
source_named root d known text =
    let ds = rows_at (codes "source") root in
    let n = named_at (text_at (codes "source") d) ds known in
    (source_row root n.element, get_mapped (source_row root) ds (number_of (text_at (codes "source") d) ds) n.element n.there, text ∙ ap (λ (t : List ℕ). Some (string t)) (sym n.named))

-- ---- the rows

known_receiver : (root : Data) (n : ℕ) (d : Data) → stands root UnknownName (Source n, d) ≡ false → is_none (number_named (text_at (codes "receiver") d) (rows_at (codes "receiver") root)) ≡ false
unfolding stands names_nothing
known_receiver root n d h = h

known_source : (root : Data) (n j : ℕ) (d : Data) → stands root UnknownName (Output n j, d) ≡ false → is_none (number_named (text_at (codes "source") d) (rows_at (codes "source") root)) ≡ false
unfolding stands names_nothing
known_source root n j d h = h

filters_stand : (root : Data) (n : ℕ) (d : Data) → misfits d (may (codes "filters") Texts) ≡ false → stands root Label (Receiver n, d) ≡ false → HasFilters d (filters_of d)
unfolding stands has_bad_label rows_at
filters_stand root n d fits good = filters_in (get (codes "filters") d) d refl fits good

receiver_is : (root : Data) (n : ℕ) (d : Data) → IsShaped (version_of root) (Receiver n) d → stands root Label (Receiver n, d) ≡ false → IsReceiverOf d (receiver_row d)
unfolding receiver_row
receiver_is root n d s good = let r = receiver_at (version_of root) n d s in record { name = r.0; filters = filters_stand root n d r.1 good }

label_stands : (root : Data) (n : ℕ) (d : Data) → HasText (codes "label") d (text_at (codes "label") d) → stands root Label (Source n, d) ≡ false → HasText (codes "label") d (octal (octal_number (text_at (codes "label") d)))
unfolding stands has_bad_label octal_number
label_stands root n d text good = text ∙ ap (λ (t : List ℕ). Some (string t)) (written_label (text_at (codes "label") d) (label_value (text_at (codes "label") d)) refl good)

sdi_stands : (root : Data) (n : ℕ) (d : Data) → stands root Sdi (Source n, d) ≡ false → HasSdi d (option_map (natural 4) (sdi_at d))
unfolding stands has_bad_sdi
sdi_stands root n d good = sdi_in (get (codes "sdi") d) d refl (not-false _ good)

source_is : (root : Data) (n : ℕ) (d : Data) (t : TableRecord) → t.receivers ≡ map receiver_row (rows_at (codes "receiver") root) → IsShaped (version_of root) (Source n) d → stands root Label (Source n, d) ≡ false → stands root Sdi (Source n, d) ≡ false
    → stands root UnknownName (Source n, d) ≡ false → IsSourceOf t d (source_row root d)
unfolding source_row
source_is root n d t rows s good_label good_sdi known =
    let texts = source_at (version_of root) n d s in
    let k : ℕ = number_of (text_at (codes "receiver") d) (rows_at (codes "receiver") root) in
    record {
      name = texts.name;
      receiver = subst (λ (rs : List ReceiverRow). (r : ReceiverRow) × (slice_get rs k ≡ Some r) × HasText (codes "receiver") d r.name) (sym rows) (receiver_named root d (known_receiver root n d known) texts.receiver);
      label = label_stands root n d texts.label good_label;
      sdi = sdi_stands root n d good_sdi;
    }

group_rates : (v : TableVersion) (root : Data) (n : ℕ) (d : Data) → IsShaped v Root root → IsShaped v (Group n) d → has_wrong_rate v Root root ≡ false → has_wrong_rate v (Group n) d ≡ false
    → (version_number v ≡ 1 → HasInteger (codes "rate") root (unwrap_or (rate_of v root) (rate_at d))) × (version_number v ≡ 2 → HasInteger (codes "rate") d (unwrap_or (rate_of v root) (rate_at d)))
group_rates One root n d s u h k = ((λ _. root_rate_at root s h), λ e. absurd (omega arith))
group_rates Two root n d s u h k = ((λ e. absurd (omega arith)), λ _. group_rate_at n d u k)

group_is : (root : Data) (n : ℕ) (d : Data) (t : TableRecord) → t.version ≡ version_number (version_of root) → IsShaped (version_of root) Root root → IsShaped (version_of root) (Group n) d
    → stands root Rate (Root, root) ≡ false → stands root Rate (Group n, d) ≡ false → IsGroupOf root t d (group_row (rate_of (version_of root) root) d)
unfolding group_row stands
group_is root n d t version s u h k =
    let g = group_at (version_of root) n d u in
    let rates = group_rates (version_of root) root n d s u h k in
    record { name = g.0; root_rate = λ e. rates.0 (sym version ∙ e); own_rate = λ e. rates.1 (sym version ∙ e) }

interval_parts : (least most : ℤ) → not (is_interval least most) ≡ false → (least ≡ pos (natural (2 ^ 32) least)) × (most ≡ pos (natural (2 ^ 32) most))
interval_parts least most h =
    let p = and_parts _ _ (not-false _ h) in
    let q = and_parts (is_within 1 30000000 least) (is_within 1 30000000 most) p.0 in
    (number_in (2 ^ 32) 1 30000000 least (omega arith) q.0, number_in (2 ^ 32) 1 30000000 most (omega arith) q.1)

interval_at : (root : Data) (n j : ℕ) (d : Data) → stands root Interval (Output n j, d) ≡ false
    → (integer_at (codes "min_us") d ≡ pos (natural (2 ^ 32) (integer_at (codes "min_us") d))) × (integer_at (codes "max_us") d ≡ pos (natural (2 ^ 32) (integer_at (codes "max_us") d)))
unfolding stands has_bad_interval
interval_at root n j d h = interval_parts (integer_at (codes "min_us") d) (integer_at (codes "max_us") d) h

hold_stands : (v : TableVersion) (n j : ℕ) (d : Data) → IsShaped v (Output n j) d → has_bad_hold (Output n j) d ≡ false → version_number v ≡ 2 → HasHold d (hold_of v d)
unfolding has_bad_hold get_integer
hold_stands One n j d s h e = absurd (omega arith)
hold_stands Two n j d s h e = hold_in (get (codes "hold") d) d refl (hold_fits n j d s) h

hold_at : (root : Data) (n j : ℕ) (d : Data) → IsShaped (version_of root) (Output n j) d → stands root Hold (Output n j, d) ≡ false → version_number (version_of root) ≡ 2 → HasHold d (hold_of (version_of root) d)
unfolding stands
hold_at root n j d s h e = hold_stands (version_of root) n j d s h e

output_is : (root : Data) (n j : ℕ) (d : Data) (t : TableRecord) → t.sources ≡ map (source_row root) (rows_at (codes "source") root) → t.version ≡ version_number (version_of root) → IsShaped (version_of root) (Output n j) d
    → stands root UnknownName (Output n j, d) ≡ false → stands root Interval (Output n j, d) ≡ false → stands root Hold (Output n j, d) ≡ false → IsOutputOf t d (output_row root d)
unfolding output_row
output_is root n j d t rows version s known good_interval good_hold =
    let values = output_at (version_of root) n j d s in
    let parts = interval_at root n j d good_interval in
    let k : ℕ = number_of (text_at (codes "source") d) (rows_at (codes "source") root) in
    record {
      source = subst (λ (ss : List SourceRow). (s : SourceRow) × (slice_get ss k ≡ Some s) × HasText (codes "source") d s.name) (sym rows) (source_named root d (known_source root n j d known) values.source);
      least = values.least ∙ ap (λ (z : ℤ). Some (integer z)) parts.0;
      most = values.most ∙ ap (λ (z : ℤ). Some (integer z)) parts.1;
      hold = λ e. hold_at root n j d s good_hold (sym version ∙ e);
    }

-- ---- the version

version_in : (root : Data) (z : ℤ) → integer_at (codes "version") root ≡ z → not (int_eq z (pos 1) || int_eq z (pos 2)) ≡ false → z ≡ pos (version_number (version_of root))
unfolding version_of
version_in root z is h = go (int_eq z (pos 2)) refl
  where
    go : (b : Bool) → int_eq z (pos 2) ≡ b → z ≡ pos (version_number (if int_eq (integer_at (codes "version") root) (pos 2) then Two else One))
    go true e = rw (is, e) ((Decides-int_eq z (pos 2)).0 e)
    go false e = rw (is, e) (⊎_elim (λ a. (Decides-int_eq z (pos 1)).0 a) (λ b. absurd (let clash : false ≡ true = sym e ∙ b in cc)) (or_cases (int_eq z (pos 1)) (int_eq z (pos 2)) (not-false _ h)))

version_stands : (root : Data) → get (codes "version") root ≡ Some (integer (integer_at (codes "version") root)) → stands root Version (Root, root) ≡ false → HasInteger (codes "version") root (version_number (version_of root))
unfolding stands has_wrong_version
version_stands root there h = there ∙ ap (λ (z : ℤ). Some (integer z)) (version_in root (integer_at (codes "version") root) refl h)

root_rate_is : (v : TableVersion) (root : Data) → IsShaped v Root root → has_wrong_rate v Root root ≡ false → IfSome (rate_of v root) (HasInteger (codes "rate") root)
root_rate_is One root s h = root_rate_at root s h
root_rate_is Two root s h = tt

root_rate : (root : Data) → IsShaped (version_of root) Root root → stands root Rate (Root, root) ≡ false → IfSome (rate_of (version_of root) root) (HasInteger (codes "rate") root)
unfolding stands
root_rate root s h = root_rate_is (version_of root) root s h

-- ---- the whole table

module _ (root : Data) (k : FaultKind) (absent : IsAbsent root k) where
  at_receiver : (n : ℕ) (d : Data) → slice_get (rows_at (codes "receiver") root) n ≡ Some d → stands root k (Receiver n, d) ≡ false
  at_receiver n d e = row_holds Receivers (λ s. stands root k s ≡ false) 0 n n (rows_at (codes "receiver") root) d (omega arith) absent.at_receivers e

  at_source : (n : ℕ) (d : Data) → slice_get (rows_at (codes "source") root) n ≡ Some d → stands root k (Source n, d) ≡ false
  at_source n d e = row_holds Sources (λ s. stands root k s ≡ false) 0 n n (rows_at (codes "source") root) d (omega arith) absent.at_sources e

  at_group : (n : ℕ) (g : Data) → slice_get (rows_at (codes "group") root) n ≡ Some g → (stands root k (Group n, g) ≡ false) × StandsAtNone root (numbered (Outputs n) (rows_at (codes "output") g)) k
  at_group n g e = group_holds (λ s. stands root k s ≡ false) 0 n n (rows_at (codes "group") root) g (omega arith) absent.at_groups e

  at_output : (n j : ℕ) (g d : Data) → slice_get (rows_at (codes "group") root) n ≡ Some g → slice_get (rows_at (codes "output") g) j ≡ Some d → stands root k (Output n j, d) ≡ false
  at_output n j g d e f = row_holds (Outputs n) (λ s. stands root k s ≡ false) 0 j j (rows_at (codes "output") g) d (omega arith) (at_group n g e).1 f

as_written : (root : Data) → first (faults root) ≡ None → IsAsWritten root (stated root)
unfolding stated
as_written root none =
    let h = is_faultless root none in
    let missing = is_absent root MissingKey h.missing_key in
    let wrong = is_absent root WrongKind h.wrong_kind in
    let labels = is_absent root Label h.label in
    let sdis = is_absent root Sdi h.sdi in
    let names = is_absent root UnknownName h.unknown_name in
    let rates = is_absent root Rate h.rate in
    let intervals = is_absent root Interval h.interval in
    let holds = is_absent root Hold h.hold in
    let versions = is_absent root Version h.version in
    let shape : IsShaped (version_of root) Root root = shaped_at root Root root missing.at_root wrong.at_root in
    let arrays = root_at (version_of root) root shape in
    let of_group : (n : ℕ) (g : Data) → slice_get (rows_at (codes "group") root) n ≡ Some g → IsShaped (version_of root) (Group n) g = λ n g e.
    shaped_at root (Group n) g (at_group root MissingKey missing n g e).0 (at_group root WrongKind wrong n g e).0 in
    record {
      version = version_stands root arrays.version versions.at_root;
      rate = root_rate root shape rates.at_root;
      receivers = rows_of_array (codes "receiver") root receiver_row IsReceiverOf arrays.receivers (λ n d e.
          receiver_is root n d (shaped_at root (Receiver n) d (at_receiver root MissingKey missing n d e) (at_receiver root WrongKind wrong n d e)) (at_receiver root Label labels n d e));
      sources = rows_of_array (codes "source") root (source_row root) (IsSourceOf (stated root)) arrays.sources (λ n d e.
          source_is root n d (stated root) refl (shaped_at root (Source n) d (at_source root MissingKey missing n d e) (at_source root WrongKind wrong n d e)) (at_source root Label labels n d e) (at_source root Sdi sdis n d e) (at_source root UnknownName names n d e));
      groups = rows_of_array (codes "group") root (group_row (rate_of (version_of root) root)) (IsGroupOf root (stated root)) arrays.groups (λ n g e.
          group_is root n g (stated root) refl shape (of_group n g e) rates.at_root (at_group root Rate rates n g e).0);
      outputs = rows_of_array (codes "group") root (output_rows root) (λ g. HasRows (codes "output") g (IsOutputOf (stated root))) arrays.groups (λ n g e.
          rows_of_array (codes "output") g (output_row root) (IsOutputOf (stated root)) (group_at (version_of root) n g (of_group n g e)).1 (λ j d f.
          output_is root n j d (stated root) refl refl (shaped_at root (Output n j) d (at_output root MissingKey missing n j g d e f) (at_output root WrongKind wrong n j g d e f))
          (at_output root UnknownName names n j g d e f) (at_output root Interval intervals n j g d e f) (at_output root Hold holds n j g d e f)));
    }

judged_so : (root : Data) (fs : List (FaultKind × TablePlace)) (t : TableRecord) → faults root ≡ fs → judged root fs ≡ Ok t → IsAsWritten root t
judged_so root [] t none is = let same : stated root ≡ t = cc in subst (IsAsWritten root) same (as_written root (ap (λ fs. first fs) none))
judged_so root (f ∷ fs) t some is = cc

pub is_as_written : (bytes : List ℕ) (t : TableRecord) → reading bytes ≡ Ok t → (root : Data) × (document bytes ≡ Some root) × IsAsWritten root t
unfolding reading
is_as_written bytes t is = go (document bytes) refl is
  where
    go : (o : Option Data) → document bytes ≡ o → read_root (root_of o) ≡ Ok t → (root : Data) × (document bytes ≡ Some root) × IsAsWritten root t
    go None e h = cc
    go (Some root) e h = (root, e, judged_so root (faults root) t refl h)
