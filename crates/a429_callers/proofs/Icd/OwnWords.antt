-- No two outputs of a group of a table that is read are of sources with one label and SDI.
use Rattle.std.proofs.Common.{◌≡◌, ◌∙◌, ℕ, ⊎_elim, ℤ, pos, true, false, List, [], ◌∷◌, map, take, codes, Option, None, Some, is_none, option_map, unwrap_or, Ok, ap, ap₂, subst, sym, refl, arith}
use Rattle.std.specs.List.{AllByRecursion, list_any, slice_get}
use Rattle.std.specs.Option.{option_and_then}
use Rattle.std.specs.Str.{bytes_eq}
use Rattle.std.proofs.lemmas.Bool.{and_from, both_ways, cases_order}
use Rattle.std.proofs.lemmas.Bool.Decides.{Decides-int_eq}
use Rattle.std.proofs.lemmas.Option.{same_Some}
use Rattle.toml.specs.Data.{Data, array, boolean, datetime, float, get, integer, string, table}
use Rattle.a429_word.specs.Texts.{label_value, octal_number}
use Rattle.a429_word.proofs.LabelTexts.{one_label}
use Rattle.a429_word.proofs.Lists.{not_false}
use Rattle.a429_equipment.specs.Sound.{IsSound}
use Rattle.a429_equipment.specs.TableRecord.{TableRecord}
use Rattle.a429_equipment.specs.declared.rows.OutputRow.{OutputRow}
use Rattle.a429_equipment.specs.declared.rows.SourceRow.{SourceRow}
use Rattle.a429_table.specs.declared.fault.FaultKind.{FaultKind}
use Rattle.a429_table.specs.declared.fault.FaultKind.TheVariants.{DuplicateOutput, Label, Sdi, UnknownName}
use Rattle.a429_table.specs.declared.fault.TablePlace.{TablePlace}
use Rattle.a429_table.specs.declared.fault.TablePlace.TheVariants.{Output, Source}
use Rattle.a429_table.specs.declared.walk.Rows.TheVariants.{Outputs, Sources}
use Rattle.a429_table.specs.Faults.{faults, first, has_bad_label, has_bad_sdi, is_sdi, is_within, names_nothing, repeats_output, same_sdi, same_words, sdi_at, sdi_of, source_of, stands}
use Rattle.a429_table.specs.Least.{StandsAtNone}
use Rattle.a429_table.specs.Names.{number_named}
use Rattle.a429_table.specs.Reading.{document, judged, read_root, reading, root_of}
use Rattle.a429_table.specs.Stated.{natural, output_row, output_rows, source_row, stated}
use Rattle.a429_table.specs.Tree.{rows_at, text_at}
use Rattle.a429_table.specs.Walk.{earlier, numbered}
use Rattle.a429_table.proofs.Absence.{all_from, group_holds, is_absent, is_faultless, row_holds}
use Rattle.a429_table.proofs.Apart.{mapped_at, not_among, some_of}
use Rattle.a429_table.proofs.AtKeys.{number_in}
use Rattle.a429_table.proofs.Soundness.{is_sound}
use Rattle.a429_cert.proofs.Again.{same_again}

-- no two of these outputs are of sources with one label and SDI, for any receivers
abbrev pub HaveOwnWords : List SourceRow → List OutputRow → Type 0
HaveOwnWords sources outputs =
    (i j : ℕ) (o p : OutputRow) (s u : SourceRow) → slice_get outputs i ≡ Some o → slice_get outputs j ≡ Some p
    → slice_get sources o.source ≡ Some s → slice_get sources p.source ≡ Some u → s.label ≡ u.label → s.sdi ≡ u.sdi → i ≡ j

-- ---- SDIs

sdi_within : (o : Option Data) (z : ℤ) → is_sdi o ≡ true → sdi_of o ≡ Some z → is_within 0 3 z ≡ true
sdi_within None z h e = cc
sdi_within (Some (string s)) z h e = cc
sdi_within (Some (integer y)) z h e = let same : y ≡ z = cc in subst (λ (x : ℤ). is_within 0 3 x ≡ true) same h
sdi_within (Some (float f)) z h e = cc
sdi_within (Some (boolean b)) z h e = cc
sdi_within (Some (datetime d)) z h e = cc
sdi_within (Some (array ds)) z h e = cc
sdi_within (Some (table ms)) z h e = cc

same_numbers : (o u : Option ℤ) → ((z : ℤ) → o ≡ Some z → is_within 0 3 z ≡ true) → ((z : ℤ) → u ≡ Some z → is_within 0 3 z ≡ true) → option_map (natural 4) o ≡ option_map (natural 4) u → same_sdi o u ≡ true
same_numbers None None h k e = refl
same_numbers None (Some y) h k e = cc
same_numbers (Some z) None h k e = cc
same_numbers (Some z) (Some y) h k e =
    let same : natural 4 z ≡ natural 4 y = same_Some (natural 4 z) (natural 4 y) e in
    (Decides-int_eq z y).1 (number_in 4 0 3 z (omega arith) (h z refl) ∙ ap (λ (n : ℕ). pos n) same ∙ sym (number_in 4 0 3 y (omega arith) (k y refl)))

-- ---- what no fault says of a row

known_output : (root : Data) (n j : ℕ) (d : Data) → stands root UnknownName (Output n j, d) ≡ false → is_none (number_named (text_at (codes "source") d) (rows_at (codes "source") root)) ≡ false
unfolding stands names_nothing
known_output root n j d h = h

known_label : (root : Data) (i : ℕ) (d : Data) → stands root Label (Source i, d) ≡ false → is_none (label_value (text_at (codes "label") d)) ≡ false
unfolding stands has_bad_label
known_label root i d h = h

known_sdi : (root : Data) (i : ℕ) (d : Data) → stands root Sdi (Source i, d) ≡ false → is_sdi (get (codes "sdi") d) ≡ true
unfolding stands has_bad_sdi
known_sdi root i d h = not_false _ h

other_words : (root : Data) (n j : ℕ) (g d : Data) → slice_get (rows_at (codes "group") root) n ≡ Some g → stands root DuplicateOutput (Output n j, d) ≡ false
    → list_any (λ e. same_words (source_of root e) (source_of root d)) (take j (rows_at (codes "output") g)) ≡ false
unfolding stands repeats_output earlier
other_words root n j g d at_g h = rw at_g at h

source_of_output : (root d : Data) → is_none (number_named (text_at (codes "source") d) (rows_at (codes "source") root)) ≡ false
    → source_of root d ≡ slice_get (rows_at (codes "source") root) (output_row root d).source
unfolding output_row
source_of_output root d known =
    let ds = rows_at (codes "source") root in
    let o = number_named (text_at (codes "source") d) ds in
    ap (option_and_then (slice_get ds)) (some_of o (unwrap_or o 0) known refl)

-- ---- outputs

module _ (root : Data) (labels : (i : ℕ) (d : Data) → slice_get (rows_at (codes "source") root) i ≡ Some d → is_none (label_value (text_at (codes "label") d)) ≡ false)
    (sdis : (i : ℕ) (d : Data) → slice_get (rows_at (codes "source") root) i ≡ Some d → is_sdi (get (codes "sdi") d) ≡ true) where
  abbrev ss : List Data
  ss = rows_at (codes "source") root

  -- an output, with its source
  record IsOf (d : Data) (o : OutputRow) (s : SourceRow) : Type 0 where
    row : output_row root d ≡ o
    known : is_none (number_named (text_at (codes "source") d) ss) ≡ false
    source : slice_get (map (source_row root) ss) o.source ≡ Some s

  meet : (c d : Data) (o p : OutputRow) (s u : SourceRow) → IsOf c o s → IsOf d p u → s.label ≡ u.label → s.sdi ≡ u.sdi → same_words (source_of root c) (source_of root d) ≡ true
  unfolding source_row octal_number
  meet c d o p s u C D label sdi =
      let a = mapped_at (source_row root) ss o.source s C.source in
      let b = mapped_at (source_row root) ss p.source u D.source in
      let of_c : source_of root c ≡ Some a.0 = source_of_output root c C.known ∙ ap (λ (r : OutputRow). slice_get ss r.source) C.row ∙ a.1 in
      let of_d : source_of root d ≡ Some b.0 = source_of_output root d D.known ∙ ap (λ (r : OutputRow). slice_get ss r.source) D.row ∙ b.1 in
      let text_a : List ℕ = text_at (codes "label") a.0 in
      let text_b : List ℕ = text_at (codes "label") b.0 in
      let numbers : unwrap_or (label_value text_a) 0 ≡ unwrap_or (label_value text_b) 0 = ap (λ (r : SourceRow). r.label) a.2 ∙ label ∙ sym (ap (λ (r : SourceRow). r.label) b.2) in
      let v : ℕ = unwrap_or (label_value text_b) 0 in
      let texts : text_a ≡ text_b =
      one_label text_a text_b v (some_of (label_value text_a) v (labels o.source a.0 a.1) numbers) (some_of (label_value text_b) v (labels p.source b.0 b.1) refl) in
      let number : option_map (natural 4) (sdi_at a.0) ≡ option_map (natural 4) (sdi_at b.0) = ap (λ (r : SourceRow). r.sdi) a.2 ∙ sdi ∙ sym (ap (λ (r : SourceRow). r.sdi) b.2) in
      let same : same_sdi (sdi_at a.0) (sdi_at b.0) ≡ true =
      same_numbers (sdi_at a.0) (sdi_at b.0) (λ z e. sdi_within (get (codes "sdi") a.0) z (sdis o.source a.0 a.1) e) (λ z e. sdi_within (get (codes "sdi") b.0) z (sdis p.source b.0 b.1) e) number in
      ap₂ (λ (x y : Option Data). same_words x y) of_c of_d ∙ and_from (bytes_eq text_a text_b) (same_sdi (sdi_at a.0) (sdi_at b.0)) (same_again text_a text_b texts) same

  own_in : (n : ℕ) (g : Data) → slice_get (rows_at (codes "group") root) n ≡ Some g
      → StandsAtNone root (numbered (Outputs n) (rows_at (codes "output") g)) UnknownName → StandsAtNone root (numbered (Outputs n) (rows_at (codes "output") g)) DuplicateOutput
      → HaveOwnWords (map (source_row root) ss) (output_rows root g)
  own_in n g at_g known none i j o p s u at_o at_p at_s at_u label sdi =
      let ds = rows_at (codes "output") g in
      let x = mapped_at (output_row root) ds i o at_o in
      let y = mapped_at (output_row root) ds j p at_p in
      let stands_at : (k : ℕ) (d : Data) → slice_get ds k ≡ Some d → is_none (number_named (text_at (codes "source") d) ss) ≡ false =
      λ k d at_d. known_output root n k d (row_holds (Outputs n) (λ s. stands root UnknownName s ≡ false) 0 k k ds d (omega arith) known at_d) in
      let others : (k : ℕ) (d : Data) → slice_get ds k ≡ Some d → list_any (λ e. same_words (source_of root e) (source_of root d)) (take k ds) ≡ false =
      λ k d at_d. other_words root n k g d at_g (row_holds (Outputs n) (λ s. stands root DuplicateOutput s ≡ false) 0 k k ds d (omega arith) none at_d) in
      let X : IsOf x.0 o s = record { row = x.2; known = stands_at i x.0 x.1; source = at_s } in
      let Y : IsOf y.0 p u = record { row = y.2; known = stands_at j y.0 y.1; source = at_u } in
      ⊎_elim (λ equal. equal)
      (⊎_elim
      (λ below. absurd (both_ways (same_words (source_of root x.0) (source_of root y.0)) (not_among (λ c. same_words (source_of root c) (source_of root y.0)) i j ds x.0 (others j y.0 y.1) below x.1) (meet x.0 y.0 o p s u X Y label sdi)))
      (λ above.
      absurd (both_ways (same_words (source_of root y.0) (source_of root x.0)) (not_among (λ c. same_words (source_of root c) (source_of root x.0)) j i ds y.0 (others i x.0 x.1) above y.1)
      (meet y.0 x.0 p o u s Y X (sym label) (sym sdi)))))
      (cases_order i j)

-- ---- a table that is read

own_words : (root : Data) → first (faults root) ≡ None → AllByRecursion (HaveOwnWords (stated root).sources) (stated root).outputs
unfolding stated
own_words root none =
    let h = is_faultless root none in
    let ss = rows_at (codes "source") root in
    let gs = rows_at (codes "group") root in
    let names = is_absent root UnknownName h.unknown_name in
    let repeated = is_absent root DuplicateOutput h.duplicate_output in
    let labels = is_absent root Label h.label in
    let sdis = is_absent root Sdi h.sdi in
    all_from (HaveOwnWords (map (source_row root) ss)) (map (output_rows root) gs)
    (λ n os at_n.
    let g = mapped_at (output_rows root) gs n os at_n in
    let known = group_holds (λ s. stands root UnknownName s ≡ false) 0 n n gs g.0 (omega arith) names.at_groups g.1 in
    let apart = group_holds (λ s. stands root DuplicateOutput s ≡ false) 0 n n gs g.0 (omega arith) repeated.at_groups g.1 in
    subst (HaveOwnWords (map (source_row root) ss)) g.2
    (own_in root
    (λ i d at. known_label root i d (row_holds Sources (λ s. stands root Label s ≡ false) 0 i i ss d (omega arith) labels.at_sources at))
    (λ i d at. known_sdi root i d (row_holds Sources (λ s. stands root Sdi s ≡ false) 0 i i ss d (omega arith) sdis.at_sources at))
    n g.0 g.1 known.1 apart.1))

-- what is read of a table that is not refused
pub record IsReadTable (t : TableRecord) : Type 0 where
  pub sound : IsSound t
  pub words : AllByRecursion (HaveOwnWords t.sources) t.outputs

of_judged : (root : Data) (fs : List (FaultKind × TablePlace)) (t : TableRecord) → judged root fs ≡ Ok t → (first fs ≡ None) × (stated root ≡ t)
of_judged root [] t h = (refl, cc)
of_judged root (f ∷ fs) t h = cc

of_document : (d : Option Data) (t : TableRecord) → read_root (root_of d) ≡ Ok t → IsReadTable t
of_document None t h = cc
of_document (Some root) t h =
    let parts = of_judged root (faults root) t h in
    subst IsReadTable parts.1 (record { sound = is_sound root parts.0; words = own_words root parts.0 })

pub read_table_is : (bytes : List ℕ) (t : TableRecord) → reading bytes ≡ Ok t → IsReadTable t
unfolding reading
read_table_is bytes t h = of_document (document bytes) t h
