-- A text that is printed piece by piece, with comments between the pieces, reads back as the tables that it has.
use Rattle.std.proofs.Common.{codes, ◌≡◌, ℕ, zero, suc, ◌+◌, ◌-◌, ◌<◌, ◌≤◌, Bool, true, false, ◌==◌, List, [], ◌∷◌, ◌++◌, length, map, Option, Some, None, option_and_then, refl, sym, ap, ◌∙◌, inl, inr, arith, append_assoc, append-nil, length-append, subst}
use Rattle.std.specs.List.{enumerate_from}
use Rattle.std.specs.Prelude.{filter, slice_get}
use Rattle.std.proofs.lemmas.List.{length-map}
use Rattle.std.proofs.lemmas.Bool.{cases_Bool, and_parts}
use Rattle.std.proofs.lemmas.Bool.Decides.{nat_tests}
use Rattle.std.proofs.lemmas.Option.{none-some, same_Some}
use Rattle.toml_parser.specs.Lexical.{first, skip_blank}
use Rattle.toml_parser.proofs.LexicalLemmas.{skip_from-nil}
use Rattle.toml.specs.Data.{Data, string, integer, float, boolean, datetime, table, array, Items, item, no_items, Members, member, no_members, is_before, depth, items_depth, members_depth, has_valid_dates, items_have_valid_dates, members_have_valid_dates, is_sorted, items_are_sorted, members_are_sorted}
use Rattle.toml.specs.View.{items_of}
use Rattle.toml.specs.Tables.{Nodes, no_nodes, define, Expression, Document, key_value, along_header}
use Rattle.toml.specs.Parse.{skip_bom, line, lines, parse_document}
use Rattle.toml.specs.Text.{IsLinesText, IsDocumentText, expressions, is_section, are_tables, needs_header, pairs, sections, section, elements}
use Rattle.toml.proofs.Turns.{document_some, lines_end, lines_more, lines_refused}
use Rattle.toml.proofs.Blanks.{skip_newline, skip_within}
use Rattle.toml.proofs.ReadLines.{run, AllPrinted, line_turn}
use Rattle.toml.proofs.Fill.{roots, body_from, run_sections}
use Rattle.toml.proofs.Filled.{fill_filled}
use Rattle.a429_import.specs.declared.firsts.Part.{Part}
use Rattle.a429_import.specs.declared.firsts.Part.TheVariants.{Receivers, Sources, Groups}
use Rattle.a429_import.specs.declared.rows.ImportRow.{ImportRow}
use Rattle.a429_import.specs.ImportTables.{firsts, group_tree, groups_of, is_stated, listed, name_in, number, output_tree, part_tree, part_trees, receiver_tree, root_members, rows_of_group, sdi_data, source_tree, with_filters, with_hold, words}
use Rattle.a429_import.specs.declared.indexed_rows.IndexedRows.{IndexedRows}
use Rattle.a429_import.specs.IndexedRows.{IsIndexed, names_of}
use Rattle.a429_import.specs.PrintedTables.{IsSkipped, IsWithTables, PrintsTables, alone, head_members, with_empty}
use Rattle.a429_import.specs.TableTexts.{IsTableText, is_placed, piece_of, pieces}
use Rattle.a429_import.proofs.ImportTrees.{group_depth, output_depth, receiver_depth, source_depth, trees_are}

-- ---- tables that TOML can print

record IsFit (d : Data) : Type 0 where
  members : Members
  is : d ≡ table members
  deep : depth d ≤ 4
  valid : has_valid_dates d ≡ true
  sorted : is_sorted d ≡ true

abbrev AreFit : List Data → Type 0
AreFit [] = Unit {0}
AreFit (d ∷ ds) = IsFit d × AreFit ds

are_fit : {X : Type 0} (f : X → Data) → ((x : X) → IsFit (f x)) → (xs : List X) → AreFit (map f xs)
are_fit f each [] = tt
are_fit f each (x ∷ xs) = (each x, are_fit f each xs)

fit_deep : (ds : List Data) → AreFit ds → items_depth (items_of ds) ≤ 4
fit_deep [] h = omega arith
fit_deep (d ∷ ds) (here, more) = let this = here.deep in let others = fit_deep ds more in omega arith

fit_valid : (ds : List Data) → AreFit ds → items_have_valid_dates (items_of ds) ≡ true
fit_valid [] h = refl
fit_valid (d ∷ ds) (here, more) = rw (here.valid, fit_valid ds more) refl

fit_sorted : (ds : List Data) → AreFit ds → items_are_sorted (items_of ds) ≡ true
fit_sorted [] h = refl
fit_sorted (d ∷ ds) (here, more) = rw (here.sorted, fit_sorted ds more) refl

fit_tables : (ds : List Data) → AreFit ds → are_tables (items_of ds) ≡ true
fit_tables [] h = refl
fit_tables (d ∷ ds) (here, more) = rw here.is (fit_tables ds more)

texts_valid : (ws : List (List ℕ)) → items_have_valid_dates (items_of (map (λ w. string w) ws)) ≡ true
texts_valid [] = refl
texts_valid (w ∷ ws) = texts_valid ws

texts_sorted : (ws : List (List ℕ)) → items_are_sorted (items_of (map (λ w. string w) ws)) ≡ true
texts_sorted [] = refl
texts_sorted (w ∷ ws) = texts_sorted ws

filters_valid : (ws : List (List ℕ)) (name : List ℕ) → members_have_valid_dates (with_filters ws (member (codes "name") (string name) no_members)) ≡ true
filters_valid [] name = refl
filters_valid (w ∷ ws) name = rw (texts_valid ws) refl

filters_sorted : (ws : List (List ℕ)) (name : List ℕ) → members_are_sorted (with_filters ws (member (codes "name") (string name) no_members)) ≡ true
filters_sorted [] name = refl
filters_sorted (w ∷ ws) name = rw (texts_sorted ws) refl

receiver_fit : (row : ImportRow) → IsFit (receiver_tree row)
unfolding receiver_tree
receiver_fit row =
    let shallow = receiver_depth row in
    record {
      members = with_filters (words row.texts.filters) (member (codes "name") (string row.texts.receiver) no_members);
      is = refl;
      deep = omega arith;
      valid = filters_valid (words row.texts.filters) row.texts.receiver;
      sorted = filters_sorted (words row.texts.filters) row.texts.receiver;
    }

sdi_valid : (sdi : Option ℕ) → has_valid_dates (sdi_data sdi) ≡ true
sdi_valid None = refl
sdi_valid (Some n) = refl

sdi_sorted : (sdi : Option ℕ) → is_sorted (sdi_data sdi) ≡ true
sdi_sorted None = refl
sdi_sorted (Some n) = refl

source_fit : (row : ImportRow) → IsFit (source_tree row)
unfolding source_tree
source_fit row =
    let shallow = source_depth row in
    record { members = _; is = refl; deep = omega arith; valid = rw (sdi_valid row.numbers.sdi) refl; sorted = rw (sdi_sorted row.numbers.sdi) refl }

hold_valid : (hold : Option ℕ) (rest : Members) → members_have_valid_dates rest ≡ true → members_have_valid_dates (with_hold hold rest) ≡ true
hold_valid None rest h = h
hold_valid (Some n) rest h = h

hold_sorted : (hold : Option ℕ) (n m : ℕ) (source : List ℕ) → members_are_sorted (with_hold hold (member (codes "max_us") (number n) (member (codes "min_us") (number m) (member (codes "source") (string source) no_members)))) ≡ true
hold_sorted None n m source = refl
hold_sorted (Some h) n m source = refl

output_fit : (row : ImportRow) → IsFit (output_tree row)
unfolding output_tree
output_fit row =
    let shallow = output_depth row in
    record { members = _; is = refl; deep = omega arith; valid = hold_valid row.numbers.hold _ refl; sorted = hold_sorted row.numbers.hold row.numbers.max_us row.numbers.min_us row.texts.source }

group_fit : (rows : List ImportRow) (row : ImportRow) → IsFit (group_tree rows row)
unfolding group_tree
group_fit rows row =
    let shallow = group_depth rows row in
    let outputs = are_fit output_tree output_fit (rows_of_group rows row) in
    record { members = _; is = refl; deep = omega arith; valid = rw (fit_valid _ outputs) refl; sorted = rw (fit_sorted _ outputs) refl }

trees_fit : (part : Part) (rows : List ImportRow) → AreFit (part_trees part rows)
trees_fit Receivers rows = are_fit (part_tree Receivers rows) receiver_fit (firsts Receivers rows)
trees_fit Sources rows = are_fit (part_tree Sources rows) source_fit (firsts Sources rows)
trees_fit Groups rows = are_fit (group_tree rows) (group_fit rows) (groups_of rows)

root_valid : (rows : List ImportRow) → members_have_valid_dates (root_members rows) ≡ true
unfolding root_members
root_valid rows = rw (fit_valid _ (trees_fit Groups rows), fit_valid _ (trees_fit Receivers rows), fit_valid _ (trees_fit Sources rows)) refl

root_sorted : (rows : List ImportRow) → members_are_sorted (root_members rows) ≡ true
unfolding root_members
root_sorted rows = rw (fit_sorted _ (trees_fit Groups rows), fit_sorted _ (trees_fit Receivers rows), fit_sorted _ (trees_fit Sources rows)) refl

-- ---- expressions that are printed (the library `toml`)

AllPrinted-append : (es fs : List Expression) → AllPrinted es → AllPrinted fs → AllPrinted (es ++ fs)
AllPrinted-append [] fs a b = b
AllPrinted-append (e ∷ es) fs a b = (a.0, AllPrinted-append es fs a.1 b)

pairs_printed : (ms : Members) → members_depth ms ≤ 80 → members_have_valid_dates ms ≡ true → AllPrinted (pairs ms)
pairs_printed no_members deep valid = tt
pairs_printed (member k d ms) deep valid =
    let (here, more) = and_parts (has_valid_dates d) (members_have_valid_dates ms) valid in
    let deep_here : depth d ≤ 80 = grind (arith, nat_tests) in
    let deep_more : members_depth ms ≤ 80 = grind (arith, nat_tests) in
    elim (cases_Bool (is_section d)) [
      | inl in_section ↦ rw in_section (pairs_printed ms deep_more more)
      | inr pair ↦ rw pair ((refl, deep_here, here), pairs_printed ms deep_more more)
    ]

mutual
  sections_printed : (ms : Members) (p : List (List ℕ)) → length p + members_depth ms ≤ 80 → members_have_valid_dates ms ≡ true → AllPrinted (sections p ms)
  sections_printed no_members p deep valid = tt
  sections_printed (member k d ms) p deep valid =
      let (here, more) = and_parts (has_valid_dates d) (members_have_valid_dates ms) valid in
      let deep_here : length p + depth d ≤ 80 = grind (arith, nat_tests) in
      let deep_more : length p + members_depth ms ≤ 80 = grind (arith, nat_tests) in
      AllPrinted-append _ _ (section_printed d p k deep_here here) (sections_printed ms p deep_more more)

  section_printed : (d : Data) (p : List (List ℕ)) (k : List ℕ) → length p + depth d ≤ 80 → has_valid_dates d ≡ true → AllPrinted (section (p, k) d)
  section_printed (string x) p k deep valid = tt
  section_printed (integer x) p k deep valid = tt
  section_printed (float x) p k deep valid = tt
  section_printed (boolean x) p k deep valid = tt
  section_printed (datetime x) p k deep valid = tt
  section_printed (array ds) p k deep valid =
      elim (cases_Bool (are_tables ds)) [
        | inl all ↦ rw all (elements_printed ds p k deep valid)
        | inr other ↦ rw other tt
      ]
  section_printed (table ms) p k deep valid =
      let lines_below = AllPrinted-append _ _ (pairs_printed ms (omega arith) valid) (sections_printed ms (p ++ k ∷ []) (omega (arith, length-append p (k ∷ []))) valid) in
      elim (cases_Bool (needs_header ms)) [
        | inl needed ↦ rw needed (omega arith, lines_below)
        | inr none ↦ rw none lines_below
      ]

  elements_printed : (ds : Items) (p : List (List ℕ)) (k : List ℕ) → length p + suc (items_depth ds) ≤ 80 → items_have_valid_dates ds ≡ true → AllPrinted (elements (p, k) ds)
  elements_printed no_items p k deep valid = tt
  elements_printed (item (string x) ds) p k deep valid = elements_printed ds p k (grind (arith, nat_tests)) valid
  elements_printed (item (integer x) ds) p k deep valid = elements_printed ds p k (grind (arith, nat_tests)) valid
  elements_printed (item (float x) ds) p k deep valid = elements_printed ds p k (grind (arith, nat_tests)) valid
  elements_printed (item (boolean x) ds) p k deep valid = elements_printed ds p k (grind (arith, nat_tests)) valid
  elements_printed (item (datetime x) ds) p k deep valid = elements_printed ds p k (grind (arith, nat_tests)) (and_parts _ _ valid).1
  elements_printed (item (array xs) ds) p k deep valid = elements_printed ds p k (grind (arith, nat_tests)) (and_parts _ _ valid).1
  elements_printed (item (table ms) ds) p k deep valid =
      let (here, more) = and_parts (members_have_valid_dates ms) (items_have_valid_dates ds) valid in
      let deep_here : length p + suc (suc (members_depth ms)) ≤ 80 = grind (arith, nat_tests) in
      let deep_more : length p + suc (items_depth ds) ≤ 80 = grind (arith, nat_tests) in
      (omega arith, AllPrinted-append _ _ (AllPrinted-append _ _ (pairs_printed ms (omega arith) here) (sections_printed ms (p ++ k ∷ []) (omega (arith, length-append p (k ∷ []))) here)) (elements_printed ds p k deep_more more))

document_printed : (ms : Members) → members_depth ms ≤ 80 → members_have_valid_dates ms ≡ true → AllPrinted (expressions ms)
document_printed ms deep valid = AllPrinted-append _ _ (pairs_printed ms deep valid) (sections_printed ms [] (omega arith) valid)

-- ---- expressions that are read

-- a text that skips to the same as this one has these expressions to its end
abbrev Reads : List Expression → List ℕ → Type 0
Reads es text = (x : List ℕ) (doc : Document) (m : ℕ) → skip_blank x ≡ skip_blank text → length x < m → lines m doc x ≡ run doc es

-- the text has these expressions, before any others
abbrev Runs : List Expression → List ℕ → Type 0
Runs es text = (fs : List Expression) (rest : List ℕ) → Reads fs rest → Reads (es ++ fs) (text ++ rest)

reads_end : Reads [] []
reads_end x doc m skip room = lines_end m doc x (omega arith) (rw (skip, skip_from-nil true false) refl)

runs_skipped : (text : List ℕ) → IsSkipped text → Runs [] text
runs_skipped text skipped fs rest reads x doc m skip room = reads x doc m (skip ∙ skipped rest) room

runs_append : (es fs : List Expression) (t u : List ℕ) → Runs es t → Runs fs u → Runs (es ++ fs) (t ++ u)
runs_append es fs t u a b gs rest reads = rw (append_assoc es fs gs, append_assoc t u rest) (a (fs ++ gs) (u ++ rest) (b gs rest reads))

read_step : (m : ℕ) (doc : Document) (x : List ℕ) (e : Expression) (after : List ℕ) (es : List Expression) (defined : Option Document) → defined ≡ define doc e → 0 < m → (length (skip_blank x) == 0) ≡ false
    → line (skip_blank x) ≡ Some (e, after) → ((next : Document) → lines (m - 1) next after ≡ option_and_then (λ n. run n es) (Some next)) → lines m doc x ≡ option_and_then (λ n. run n es) defined
read_step m doc x e after es None same some other read more = lines_refused m doc x e after some other read (sym same)
read_step m doc x e after es (Some next) same some other read more = lines_more m doc next x e after some other read (sym same) ∙ more next

runs_lines : (started : Bool) (es : List Expression) (text : List ℕ) → IsLinesText false started es text → AllPrinted es → Runs es text
runs_lines started [] text h ok fs rest reads x doc m skip room = subst (λ t. Reads fs (t ++ rest)) (sym h) reads x doc m skip room
runs_lines started (e ∷ es) text h ok fs rest reads x doc m skip room =
    let (this, others, whole, line_text, more) = h in
    let left = others ++ rest in
    let (s, at_start, read, some, shorter, not_bom) = line_turn false started e.0 e.1 this left line_text ok.0 in
    let split : text ++ rest ≡ this ++ left = ap (λ (t : List ℕ). t ++ rest) whole ∙ append_assoc this others rest in
    let same : skip_blank x ≡ s = skip ∙ ap skip_blank split ∙ at_start in
    let other : (length (skip_blank x) == 0) ≡ false = rw same (grind (arith, nat_tests)) in
    let within = skip_within x in
    read_step m doc x e (10 ∷ left) (es ++ fs) (define doc e) refl (omega arith) other (rw same read)
    (λ next. runs_lines true es others more ok.1 fs rest reads (10 ∷ left) next (m - 1) (skip_newline left) (omega (arith, ap length same)))

-- ---- tables at a key

abbrev tables_of : List ℕ → List Data → List Expression
tables_of key ds = elements ([], key) (items_of ds)

one_more : (key : List ℕ) (ms : Members) (ds : List Data) → tables_of key (table ms ∷ ds) ≡ expressions (alone key (table ms)) ++ tables_of key ds
one_more key ms ds = simp (append_assoc, append-nil) refl

one_table : (key : List ℕ) (d : Data) (ds : List Data) → IsFit d → tables_of key (d ∷ ds) ≡ expressions (alone key d) ++ tables_of key ds
one_table key d ds fit = subst (λ x. tables_of key (x ∷ ds) ≡ expressions (alone key x) ++ tables_of key ds) (sym fit.is) (one_more key fit.members ds)

abbrev tables_in : List (List ℕ × Data) → List Data
tables_in ps = map (λ p. p.1) ps

runs_tables : (key : List ℕ) (ps : List (List ℕ × Data)) (text : List ℕ) → AreFit (tables_in ps) → PrintsTables key ps text → Runs (tables_of key (tables_in ps)) text
runs_tables key [] text fit h = subst (Runs []) (sym h) (runs_skipped [] (λ rest. refl))
runs_tables key ((above, d) ∷ ps) text (here, more) (piece, rest, whole, skipped, printed, left) =
    let ds : List Data = tables_in ps in
    let deep : members_depth (alone key d) ≤ 80 = let shallow = here.deep in omega arith in
    let valid : members_have_valid_dates (alone key d) ≡ true = rw here.valid refl in
    let piece_runs = runs_lines false (expressions (alone key d)) piece printed (document_printed (alone key d) deep valid) in
    let both = runs_append (expressions (alone key d)) (tables_of key ds) piece rest piece_runs (runs_tables key ps rest more left) in
    let all = runs_append [] (expressions (alone key d) ++ tables_of key ds) above (piece ++ rest) (runs_skipped above skipped) both in
    subst (λ es. Runs es text) (sym (one_table key d ds here)) (subst (Runs (expressions (alone key d) ++ tables_of key ds)) (sym whole) all)

-- the same for the tables of rows
runs_pieces : (part : Part) (rows : List ImportRow) (ps : List (List ℕ × Data)) (key text : List ℕ) → tables_in ps ≡ part_trees part rows → PrintsTables key ps text → Runs (tables_of key (part_trees part rows)) text
runs_pieces part rows ps key text same h =
    subst (λ (ds : List Data). Runs (tables_of key ds) text) same (runs_tables key ps text (subst AreFit (sym same) (trees_fit part rows)) h)

-- ---- the pairs above the tables

pairs_with : (key : List ℕ) (ds : List Data) (a b : Members) → AreFit ds → pairs a ≡ pairs b → pairs (member key (listed ds) a) ≡ pairs (with_empty key ds b)
pairs_with key [] a b fit same = ap (λ (es : List Expression). (([], key), key_value (listed [])) ∷ es) same
pairs_with key (d ∷ ds) a b fit same = rw (fit_tables (d ∷ ds) fit) same

sections_with : (key : List ℕ) (ds : List Data) (a : Members) → AreFit ds → sections [] (member key (listed ds) a) ≡ tables_of key ds ++ sections [] a
sections_with key ds a fit = rw (fit_tables ds fit) refl

sections_without : (key : List ℕ) (ds : List Data) (a : Members) → sections [] (with_empty key ds a) ≡ sections [] a
sections_without key [] a = refl
sections_without key (d ∷ ds) a = refl

empty_deep : (key : List ℕ) (ds : List Data) (a : Members) → members_depth a ≤ 1 → members_depth (with_empty key ds a) ≤ 1
empty_deep key [] a h = omega arith
empty_deep key (d ∷ ds) a h = h

empty_valid : (key : List ℕ) (ds : List Data) (a : Members) → members_have_valid_dates a ≡ true → members_have_valid_dates (with_empty key ds a) ≡ true
empty_valid key [] a h = h
empty_valid key (d ∷ ds) a h = h

abbrev HasPair : Members → Type 0
HasPair ms = (e : Expression) × (es : List Expression) × (pairs ms ≡ e ∷ es)

empty_pair : (key : List ℕ) (ds : List Data) (a : Members) → HasPair a → HasPair (with_empty key ds a)
empty_pair key [] a h = (_, _, refl)
empty_pair key (d ∷ ds) a h = h

not_bom : (e : Expression) (es : List Expression) (text rest : List ℕ) → IsLinesText false false (e ∷ es) text → AllPrinted (e ∷ es) → (first (text ++ rest) == 239) ≡ false
not_bom e es text rest (this, others, whole, line_text, more) ok =
    let turn = line_turn false false e.0 e.1 this (others ++ rest) line_text ok.0 in
    let split : text ++ rest ≡ this ++ (others ++ rest) = ap (λ (t : List ℕ). t ++ rest) whole ∙ append_assoc this others rest in
    rw split turn.5

head_not_bom : (ms : Members) (text rest : List ℕ) → HasPair ms → IsDocumentText false ms text → AllPrinted (expressions ms) → (first (text ++ rest) == 239) ≡ false
head_not_bom ms text rest (e, es, same) h ok =
    let first_of : expressions ms ≡ e ∷ (es ++ sections [] ms) = ap (λ (p : List Expression). p ++ sections [] ms) same in
    not_bom e (es ++ sections [] ms) text rest (subst (λ p. IsLinesText false false p text) first_of h) (subst AllPrinted first_of ok)

-- ---- a document

no_skip : (text : List ℕ) → (first text == 239) ≡ false → skip_bom text ≡ text
unfolding skip_bom
no_skip text h = rw h

from_roots : (o : Option Document) (n : Nodes) → roots o ≡ Some n → (doc : Document) × (o ≡ Some doc) × (doc.0 ≡ n)
from_roots None n e = absurd (none-some n e)
from_roots (Some doc) n e = (doc, refl, same_Some doc.0 n e)

document_reads : (ms : Members) (text : List ℕ) → Runs (expressions ms) text → (first text == 239) ≡ false → members_are_sorted ms ≡ true → parse_document text ≡ Some ms
unfolding along_header
document_reads ms text runs no_mark sorted =
    let es = expressions ms in
    let read : lines (suc (length text)) (no_nodes, []) text ≡ run (no_nodes, []) (es ++ []) = runs [] [] reads_end text (no_nodes, []) (suc (length text)) (ap skip_blank (sym (append-nil text))) (omega arith) in
    let skipped = no_skip text no_mark in
    let (n, filled, closed) = fill_filled ms sorted in
    let body = body_from ms [] no_nodes refl (λ root s there. run_sections ms [] root s there) in
    let (doc, ran, same) = from_roots (run (no_nodes, []) es) n (body ∙ filled) in
    document_some text doc (rw skipped (read ∙ ap (run (no_nodes, [])) (append-nil es) ∙ ran)) ∙ rw (same, closed)

root_expressions : (rows : List ImportRow) → expressions (root_members rows)
    ≡ expressions (head_members rows) ++ (tables_of (codes "group") (part_trees Groups rows) ++ (tables_of (codes "receiver") (part_trees Receivers rows) ++ tables_of (codes "source") (part_trees Sources rows)))
unfolding root_members
root_expressions rows =
    let gs : List Data = part_trees Groups rows in
    let rs : List Data = part_trees Receivers rows in
    let ss : List Data = part_trees Sources rows in
    let version : Members = member (codes "version") (number 2) no_members in
    let s_pairs = pairs_with (codes "source") ss version version (trees_fit Sources rows) refl in
    let r_pairs = pairs_with (codes "receiver") rs (member (codes "source") (listed ss) version) (with_empty (codes "source") ss version) (trees_fit Receivers rows) s_pairs in
    let g_pairs = pairs_with (codes "group") gs (member (codes "receiver") (listed rs) (member (codes "source") (listed ss) version)) (with_empty (codes "receiver") rs (with_empty (codes "source") ss version)) (trees_fit Groups rows) r_pairs in
    let s_below : sections [] (member (codes "source") (listed ss) version) ≡ tables_of (codes "source") ss = sections_with (codes "source") ss version (trees_fit Sources rows) ∙ append-nil (tables_of (codes "source") ss) in
    let r_below = sections_with (codes "receiver") rs (member (codes "source") (listed ss) version) (trees_fit Receivers rows) ∙ ap (λ (es : List Expression). tables_of (codes "receiver") rs ++ es) s_below in
    let g_below = sections_with (codes "group") gs (member (codes "receiver") (listed rs) (member (codes "source") (listed ss) version)) (trees_fit Groups rows) ∙ ap (λ (es : List Expression). tables_of (codes "group") gs ++ es) r_below in
    let none : sections [] (head_members rows) ≡ [] =
    sections_without (codes "group") gs (with_empty (codes "receiver") rs (with_empty (codes "source") ss version))
    ∙ sections_without (codes "receiver") rs (with_empty (codes "source") ss version) ∙ sections_without (codes "source") ss version in
    rw (g_pairs, g_below, none, append-nil (pairs (head_members rows))) refl

-- ---- the tables of pieces

numbered_trees : (kept : List ℕ → List ℕ) (before : Option (List ImportRow)) (part : Part) (rows : List ImportRow) (n : ℕ) (xs : List ImportRow)
    → tables_in (map (piece_of kept before part rows) (filter (is_placed part) (enumerate_from n xs))) ≡ map (part_tree part rows) (filter (is_stated part) xs)
numbered_trees kept before part rows n [] = refl
numbered_trees kept before part rows n (x ∷ xs) = elim (cases_Bool (is_stated part x)) [
  | inl stated ↦ rw stated (ap (λ (ds : List Data). part_tree part rows x ∷ ds) (numbered_trees kept before part rows (n + 1) xs))
  | inr other ↦ rw other (numbered_trees kept before part rows (n + 1) xs)
]

pub pieces_trees : (kept : List ℕ → List ℕ) (before : Option (List ImportRow)) (part : Part) (rows : List ImportRow) → tables_in (pieces kept before part rows) ≡ part_trees part rows
pieces_trees kept before part rows = numbered_trees kept before part rows 0 (firsts part rows) ∙ sym (trees_are part rows)

pub numbered_at : (rows : List ImportRow) (place : ℕ) (row : ImportRow) → slice_get rows place ≡ Some row → slice_get (enumerate_from 0 rows) place ≡ Some (place, row)
numbered_at rows place row there = from 0 rows place there ∙ ap (λ (k : ℕ). Some (k, row)) (omega arith)
  where
    from : (n : ℕ) (xs : List ImportRow) (i : ℕ) → slice_get xs i ≡ Some row → slice_get (enumerate_from n xs) i ≡ Some (n + i, row)
    from n [] i there = absurd (none-some row there)
    from n (x ∷ xs) zero there = ap (λ (r : ImportRow). Some (n, r)) (same_Some x row there) ∙ ap (λ (k : ℕ). Some (k, row)) (omega arith)
    from n (x ∷ xs) (suc i) there = from (n + 1) xs i there ∙ ap (λ (k : ℕ). Some (k, row)) (omega arith)

-- the pieces that are printed read back as the tables of rows
pub pieces_read : (kept : List ℕ → List ℕ) (before : Option (List ImportRow)) (rows : List ImportRow) (text : List ℕ) → IsTableText kept before rows text → parse_document text ≡ Some (root_members rows)
pieces_read kept before rows text is =
    let head : List ℕ = is.head in
    let groups : List ℕ = is.groups in
    let receivers : List ℕ = is.receivers in
    let sources : List ℕ = is.sources in
    let printed = is.pairs in
    let whole = is.whole in
    let gs : List Data = part_trees Groups rows in
    let rs : List Data = part_trees Receivers rows in
    let ss : List Data = part_trees Sources rows in
    let version : Members = member (codes "version") (number 2) no_members in
    let with_sources : Members = with_empty (codes "source") ss version in
    let with_receivers : Members = with_empty (codes "receiver") rs with_sources in
    let deep = empty_deep (codes "group") gs with_receivers (empty_deep (codes "receiver") rs with_sources (empty_deep (codes "source") ss version (omega arith))) in
    let valid = empty_valid (codes "group") gs with_receivers (empty_valid (codes "receiver") rs with_sources (empty_valid (codes "source") ss version refl)) in
    let pair = empty_pair (codes "group") gs with_receivers (empty_pair (codes "receiver") rs with_sources (empty_pair (codes "source") ss version (_, _, refl))) in
    let ok : AllPrinted (expressions (head_members rows)) = document_printed (head_members rows) (omega arith) valid in
    let head_runs = runs_lines false (expressions (head_members rows)) head printed ok in
    let g_runs = runs_pieces Groups rows (pieces kept before Groups rows) (codes "group") groups (pieces_trees kept before Groups rows) is.groups_are in
    let r_runs = runs_pieces Receivers rows (pieces kept before Receivers rows) (codes "receiver") receivers (pieces_trees kept before Receivers rows) is.receivers_are in
    let s_runs = runs_pieces Sources rows (pieces kept before Sources rows) (codes "source") sources (pieces_trees kept before Sources rows) is.sources_are in
    let all = runs_append _ _ head (groups ++ (receivers ++ sources)) head_runs (runs_append _ _ groups (receivers ++ sources) g_runs (runs_append _ _ receivers sources r_runs s_runs)) in
    let runs : Runs (expressions (root_members rows)) (head ++ (groups ++ (receivers ++ sources))) = subst (λ es. Runs es (head ++ (groups ++ (receivers ++ sources)))) (sym (root_expressions rows)) all in
    let no_mark = head_not_bom (head_members rows) head (groups ++ (receivers ++ sources)) pair printed ok in
    subst (λ t. parse_document t ≡ Some (root_members rows)) (sym whole) (document_reads (root_members rows) (head ++ (groups ++ (receivers ++ sources))) runs no_mark (root_sorted rows))

-- ---- what is printed, table by table

PrintsTables-append : (key : List ℕ) (ps qs : List (List ℕ × Data)) (t u : List ℕ) → PrintsTables key ps t → PrintsTables key qs u → PrintsTables key (ps ++ qs) (t ++ u)
PrintsTables-append key [] qs t u a b = subst (λ x. PrintsTables key qs (x ++ u)) (sym a) b
PrintsTables-append key ((above, d) ∷ ps) qs t u (piece, rest, whole, skipped, printed, left) b =
    (piece, rest ++ u, ap (λ (x : List ℕ). x ++ u) whole ∙ append_assoc above (piece ++ rest) u ∙ ap (λ (x : List ℕ). above ++ x) (append_assoc piece rest u), skipped, printed, PrintsTables-append key ps qs rest u left b)

pub with_more : (key : List ℕ) (ps qs : List (List ℕ × Data)) (a b c : List ℕ) → IsWithTables a b key ps → IsWithTables b c key qs → IsWithTables a c key (ps ++ qs)
with_more key ps qs a b c (t, first_whole, first_printed) (u, whole, printed) =
    (t ++ u, whole ∙ ap (λ (x : List ℕ). x ++ u) first_whole ∙ append_assoc a t u, PrintsTables-append key ps qs t u first_printed printed)

pub with_none : (key : List ℕ) (a : List ℕ) → IsWithTables a a key []
with_none key a = ([], sym (append-nil a), refl)

pub with_table : (key : List ℕ) (d : Data) (ms : Members) (old middle new above : List ℕ) → middle ≡ old ++ above → IsSkipped above → (piece : List ℕ) → new ≡ middle ++ piece → IsDocumentText false ms piece → ms ≡ alone key d
    → IsWithTables old new key ((above, d) ∷ [])
with_table key d ms old middle new above before skipped piece whole printed same = (
  above ++ (piece ++ []),
  whole ∙ ap (λ (x : List ℕ). x ++ piece) before ∙ append_assoc old above piece ∙ ap (λ (x : List ℕ). old ++ (above ++ x)) (sym (append-nil piece)),
  (piece, [], refl, skipped, subst (λ x. IsDocumentText false x piece) same printed, refl),
)

-- ---- the pairs above all tables

pub empty_put : (key : List ℕ) (ds : List Data) (count : ℕ) (old new rest : Members) → old ≡ rest → is_before key rest ≡ true → count ≡ length ds
    → (is_before key old ≡ true → (xs : List Data) → count ≡ length xs → new ≡ with_empty key xs old) → new ≡ with_empty key ds rest
empty_put key ds count old new rest same before counted put = put (rw same before) ds counted ∙ ap (with_empty key ds) same

before_empty : (k key : List ℕ) (ds : List Data) (rest : Members) → is_before k rest ≡ true → is_before k (member key (listed []) rest) ≡ true → is_before k (with_empty key ds rest) ≡ true
before_empty k key [] rest later here = here
before_empty k key (d ∷ ds) rest later here = later

pub empty_there : (key : List ℕ) (ds : List Data) (old : Members) (count : ℕ) → (count == 0) ≡ true → count ≡ length ds → member key (listed []) old ≡ with_empty key ds old
empty_there key [] old count none counted = refl
empty_there key (d ∷ ds) old count none counted = absurd (grind (arith, nat_tests))

pub empty_absent : (key : List ℕ) (ds : List Data) (old : Members) (count : ℕ) → (count == 0) ≡ false → count ≡ length ds → old ≡ with_empty key ds old
empty_absent key [] old count some counted = absurd (grind (arith, nat_tests))
empty_absent key (d ∷ ds) old count some counted = refl

abbrev version_alone : Members
version_alone = member (codes "version") (number 2) no_members

count_of : {X Y : Type 0} (f : X → Y) (g : X → Data) (names : List Y) (xs : List X) (count : ℕ) → count ≡ length names → names ≡ map f xs → count ≡ length (map g xs)
count_of f g names xs count counted same = counted ∙ ap length same ∙ length-map xs f ∙ sym (length-map xs g)

pub head_is : (known : IndexedRows) (a b c d : Members) (sources receivers groups : ℕ) → IsIndexed known → a ≡ version_alone
    → sources ≡ length (names_of known.sources) → receivers ≡ length (names_of known.receivers) → groups ≡ length (groups_of known.rows.items)
    → (is_before (codes "source") a ≡ true → (xs : List Data) → sources ≡ length xs → b ≡ with_empty (codes "source") xs a)
    → (is_before (codes "receiver") b ≡ true → (xs : List Data) → receivers ≡ length xs → c ≡ with_empty (codes "receiver") xs b)
    → (is_before (codes "group") c ≡ true → (xs : List Data) → groups ≡ length xs → d ≡ with_empty (codes "group") xs c)
    → d ≡ head_members known.rows.items
head_is known a b c d sources receivers groups knows first_is s_count r_count g_count s r g =
    let rows : List ImportRow = known.rows.items in
    let gs : List Data = part_trees Groups rows in
    let rs : List Data = part_trees Receivers rows in
    let ss : List Data = part_trees Sources rows in
    let with_sources : Members = with_empty (codes "source") ss version_alone in
    let with_receivers : Members = with_empty (codes "receiver") rs with_sources in
    let s_all = count_of (name_in Sources) (part_tree Sources rows) (names_of known.sources) (firsts Sources rows) sources s_count knows.sources.names in
    let r_all = count_of (name_in Receivers) (part_tree Receivers rows) (names_of known.receivers) (firsts Receivers rows) receivers r_count knows.receivers.names in
    let g_all : groups ≡ length gs = g_count ∙ sym (length-map (groups_of rows) (group_tree rows)) in
    let b_is = empty_put (codes "source") ss sources a b version_alone first_is refl s_all s in
    let c_is = empty_put (codes "receiver") rs receivers b c with_sources b_is (before_empty (codes "receiver") (codes "source") ss version_alone refl refl) r_all r in
    empty_put (codes "group") gs groups c d with_receivers c_is
    (before_empty (codes "group") (codes "receiver") rs with_sources (before_empty (codes "group") (codes "source") ss version_alone refl refl) refl) g_all g

pub with_stated : (key : List ℕ) (p : ℕ × ImportRow → Bool) (f : ℕ × ImportRow → List ℕ × Data) (x : ℕ × ImportRow) (old new : List ℕ) → p x ≡ true → IsWithTables old new key (f x ∷ []) → IsWithTables old new key (map f (filter p (x ∷ [])))
with_stated key p f x old new stated h = rw stated h

pub with_unstated : (key : List ℕ) (p : ℕ × ImportRow → Bool) (f : ℕ × ImportRow → List ℕ × Data) (x : ℕ × ImportRow) (old : List ℕ) → p x ≡ false → IsWithTables old old key (map f (filter p (x ∷ [])))
with_unstated key p f x old none = rw none (with_none key old)

pub pieces_whole : (a b c d e head groups receivers sources : List ℕ) → a ≡ [] → b ≡ a ++ head → c ≡ b ++ groups → d ≡ c ++ receivers → e ≡ d ++ sources → e ≡ head ++ (groups ++ (receivers ++ sources))
pieces_whole a b c d e head groups receivers sources none first_is then later last =
    last ∙ ap (λ (x : List ℕ). x ++ sources) (later ∙ ap (λ (x : List ℕ). x ++ receivers) (then ∙ ap (λ (x : List ℕ). x ++ groups) (first_is ∙ ap (λ (x : List ℕ). x ++ head) none)))
    ∙ simp append_assoc refl
