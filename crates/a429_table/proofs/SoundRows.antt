-- The rows of a table without faults are of their forms.
use Rattle.std.proofs.Common.{◌≡◌, ℕ, ◌<◌, ◌≤◌, take, drop, ℤ, pos, negsuc, true, false, cond, List, [], ◌∷◌, length, map, codes, is_none, Bool, Option, Some, None, option_map, unwrap_or, ltb, refl, sym, arith}
use Rattle.std.proofs.lemmas.Bool.{ltb-true, not-false}
use Rattle.std.proofs.Math.ListN.{length-map}
use Rattle.std.specs.List.{AllByRecursion}
use Rattle.std.specs.Prelude.{IfSome, IsTrue}
use Rattle.toml.specs.Data.{Data, get}
use Rattle.a429_word.proofs.Lists.{all_mapped}
use Rattle.a429_filter.specs.Filters.{filters_of as listed}
use Rattle.a429_table.specs.declared.fault.FaultKind.TheVariants.{Name}
use Rattle.a429_table.specs.declared.fault.TablePlace.{TablePlace}
use Rattle.a429_table.specs.declared.walk.Rows.TheVariants.{Receivers, Sources}
use Rattle.a429_table.specs.Tree.{rows_at, text_of}
use Rattle.a429_equipment.specs.NameForm.{is_name}
use Rattle.a429_filter.specs.FilterTexts.{filter_of, filter_read, is_filter}
use Rattle.a429_table.specs.Names.{name_of}
use Rattle.a429_table.specs.Faults.{stands, is_named, has_bad_name, sdi_at}
use Rattle.a429_table.specs.Stated.{natural, filter_row, receiver_row, source_row, rate_at, group_row}
use Rattle.a429_equipment.specs.Sound.{IsRate, IsFilter, IsReceiverRow, IsSourceRow, IsGroupRow}
use Rattle.a429_table.proofs.Absence.{IsAbsent, rows_hold, groups_hold}
use Rattle.a429_word.proofs.LabelTexts.{octal_number-below}

-- ---- labels and SDIs

text_below : (text : List ℕ) (b : Bool) → is_filter text ≡ b → IsFilter (filter_of text)
unfolding filter_of filter_read
text_below text true e = rw e (octal_number-below (take 3 text), octal_number-below (drop 4 text))
text_below text false e = rw e (omega arith, omega arith)

filter_is : (d : Data) → IsFilter (filter_row d)
filter_is d = text_below (text_of (Some d)) (is_filter (text_of (Some d))) refl

filters_are : (ds : List Data) → AllByRecursion IsFilter (map filter_row ds)
filters_are [] = tt
filters_are (d ∷ ds) = (filter_is d, filters_are ds)

cut_below : (n : ℕ) (b : Bool) → b ≡ ltb n 4 → cond b n 0 < 4
cut_below n true e = ltb-true n 4 (sym e)
cut_below n false e = omega arith

natural_below : (z : ℤ) → natural 4 z < 4
natural_below (pos n) = cut_below n (ltb n 4) refl
natural_below (negsuc n) = omega arith

pub sdi_below : (o : Option ℤ) → IfSome (option_map (natural 4) o) (λ k. k < 4)
sdi_below None = tt
sdi_below (Some z) = natural_below z

-- ---- names

name_at : (root : Data) (place : TablePlace) (d : Data) → is_named place ≡ true → stands root Name (place, d) ≡ false → IsTrue (is_name (name_of d))
unfolding stands has_bad_name
name_at root place d named h = not-false _ (rw named at h)

-- ---- rows

few_listed : (b : Bool) (ds : List Data) → length ds ≤ 32
    → (length (listed (cond b None (Some (map filter_row ds)))) ≤ 32) × AllByRecursion IsFilter (listed (cond b None (Some (map filter_row ds))))
few_listed true ds h = (omega arith, tt)
few_listed false ds h = (rw length-map h, filters_are ds)

receiver_is : (d : Data) → IsTrue (is_name (name_of d)) → length (rows_at (codes "filters") d) ≤ 32 → IsReceiverRow (receiver_row d)
unfolding receiver_row
receiver_is d named few =
    let (count, each) = few_listed (is_none (get (codes "filters") d)) (rows_at (codes "filters") d) few in
    (named, count, each)

pub receivers_are : (ds : List Data) → AllByRecursion (λ d. IsTrue (is_name (name_of d))) ds → AllByRecursion (λ d. length (rows_at (codes "filters") d) ≤ 32) ds
    → AllByRecursion IsReceiverRow (map receiver_row ds)
receivers_are [] h i = tt
receivers_are (d ∷ ds) h i = (receiver_is d h.0 i.0, receivers_are ds h.1 i.1)

source_is : (root : Data) (d : Data) → IsTrue (is_name (name_of d)) → IsSourceRow (source_row root d)
unfolding source_row
source_is root d named = (named, octal_number-below _, sdi_below (sdi_at d))

group_is : (rate : Option ℕ) (d : Data) → IsTrue (is_name (name_of d)) → IsRate (unwrap_or rate (rate_at d)) → IsGroupRow (group_row rate d)
unfolding group_row
group_is rate d named rated = (named, rated)

groups_are : (rate : Option ℕ) (ds : List Data) → AllByRecursion (λ d. IsTrue (is_name (name_of d))) ds → AllByRecursion (λ d. IsRate (unwrap_or rate (rate_at d))) ds
    → AllByRecursion IsGroupRow (map (group_row rate) ds)
groups_are rate [] h i = tt
groups_are rate (d ∷ ds) h i = (group_is rate d h.0 i.0, groups_are rate ds h.1 i.1)

pub receiver_names : (root : Data) → IsAbsent root Name → AllByRecursion (λ d. IsTrue (is_name (name_of d))) (rows_at (codes "receiver") root)
receiver_names root h = rows_hold Receivers _ _ (λ n d e. name_at root _ d refl e) 0 (rows_at (codes "receiver") root) h.at_receivers

pub group_names : (root : Data) → IsAbsent root Name → AllByRecursion (λ d. IsTrue (is_name (name_of d))) (rows_at (codes "group") root)
group_names root h = groups_hold _ (λ g. IsTrue (is_name (name_of g))) (λ n g e _. name_at root _ g refl e) 0 (rows_at (codes "group") root) h.at_groups

pub source_rows_are : (root : Data) → IsAbsent root Name → AllByRecursion IsSourceRow (map (source_row root) (rows_at (codes "source") root))
source_rows_are root h =
    all_mapped (source_row root) IsSourceRow (rows_at (codes "source") root)
    (rows_hold Sources _ (λ d. IsSourceRow (source_row root d)) (λ n d e. source_is root d (name_at root _ d refl e)) 0 (rows_at (codes "source") root) h.at_sources)

pub group_rows_are : (root : Data) (rate : Option ℕ) → IsAbsent root Name → AllByRecursion (λ d. IsRate (unwrap_or rate (rate_at d))) (rows_at (codes "group") root)
    → AllByRecursion IsGroupRow (map (group_row rate) (rows_at (codes "group") root))
group_rows_are root rate h rates =
    groups_are rate (rows_at (codes "group") root) (group_names root h) rates
