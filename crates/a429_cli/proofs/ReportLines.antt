-- What is printed of the reports of a line, one after another.
use Rattle.std.proofs.Common.{◌≡◌, ◌∙◌, ◌+◌, ◌-◌, ◌≤◌, ◌∷◌, [], ◌++◌, ℕ, List, Bool, true, false, ap, arith, refl, sym, length, take, slice_range, append_assoc, append-nil, inl, inr}
use Rattle.std.specs.Prelude.{Option, Some, None, filter, filter_map}
use Rattle.std.proofs.lemmas.Grind.{flat_map-append}
use Rattle.std.proofs.lemmas.List.{length-map, map-append}
use Rattle.std.proofs.lemmas.List.Elements.{filter-append, filter_map-append}
use Rattle.std.proofs.Math.Seq.{take-add, take-append_seam, take-length}
use Rattle.std.specs.List.{flat_map}
use Rattle.a429_line.specs.Reports.{first_piece, later_pieces, reports, runs, runs_from}
use Rattle.a429_line.specs.declared.found.Found.{Found}
use Rattle.a429_line.specs.declared.found.Symbol.{Symbol}
use Rattle.a429_filter.specs.Filters.{filters_of}
use Rattle.a429_filter.specs.Receiving.{accepts}
use Rattle.a429_filter.specs.Sources.{raw_found}
use Rattle.a429_filter.specs.declared.filters.Filter.{Filter}
use Rattle.a429_filter.specs.FilterTexts.{filter_of}
use Rattle.a429_line.specs.LineBytes.{symbol_of, symbols_of}
use Rattle.a429_cli.specs.LineReports.{ending_in, found_in, printed, received, rows_head, word_in}
use Rattle.a429_cli.specs.LineReplies.{IsPrinted, IsTold, IsToldInPart, filter_list}
use Rattle.a429_console.specs.Outputs.{status_of}
use Rattle.a429_text.specs.declared.sheets.SheetForm.{SheetForm}

-- ---- reports

pub printed-nil : (form : SheetForm) (filters : Option (List Filter)) → printed form filters [] ≡ []
printed-nil form None = refl
printed-nil form (Some fs) = refl

pub printed-append : (form : SheetForm) (filters : Option (List Filter)) (xs ys : List Found) → printed form filters (xs ++ ys) ≡ printed form filters xs ++ printed form filters ys
printed-append form None xs ys = flat_map-append (found_in form) xs ys
printed-append form (Some fs) xs ys =
    ap (flat_map (word_in form)) (ap (filter (accepts (Some fs))) (filter_map-append raw_found xs ys) ∙ filter-append (accepts (Some fs)) (filter_map raw_found xs) (filter_map raw_found ys))
    ∙ flat_map-append (word_in form) (received (Some fs) xs) (received (Some fs) ys)

-- of a line without symbols
pub no_reports : reports (symbols_of []) ≡ []
unfolding reports runs runs_from first_piece later_pieces
no_reports = refl

pub symbols-append : (xs ys : List ℕ) → symbols_of (xs ++ ys) ≡ symbols_of xs ++ symbols_of ys
symbols-append xs ys = filter_map-append symbol_of xs ys

pub symbols_cut : (bytes past left : List ℕ) → bytes ≡ past ++ left → symbols_of bytes ≡ symbols_of past ++ symbols_of left
symbols_cut bytes past left is = ap symbols_of is ∙ symbols-append past left

-- of a line of which some bytes more were taken
pub symbols_taken : (bytes seen : List ℕ) (a b : ℕ) → seen ≡ bytes → a ≤ b → symbols_of (take a bytes) ++ symbols_of (slice_range seen a b) ≡ symbols_of (take b bytes)
symbols_taken bytes seen a b same h =
    let end : a + (b - a) ≡ b = omega arith in
    ap (λ (xs : List ℕ). symbols_of (take a bytes) ++ symbols_of (slice_range xs a b)) same
    ∙ (sym (symbols-append (take a bytes) (slice_range bytes a b)) ∙ ap symbols_of (sym (take-add a (b - a) bytes) ∙ ap (λ (n : ℕ). take n bytes) end))

pub taken_whole : (bytes seen : List ℕ) (n : ℕ) → seen ≡ bytes → n ≡ length seen → symbols_of (take n bytes) ≡ symbols_of bytes
taken_whole bytes seen n same all = ap symbols_of (ap (λ (k : ℕ). take k bytes) (all ∙ ap length same) ∙ take-length bytes)

-- all reports of a first part
pub told_before : (form : SheetForm) (filters : Option (List Filter)) (line first later : List Symbol) → line ≡ first ++ later → IsToldInPart form filters line (printed form filters (reports first))
told_before form filters line first later is = (length first, length (reports first), rw (is, take-append_seam first later, take-length (reports first)) refl)

-- with what is before the lines, and with their end
pub told_ended : (form : SheetForm) (filters : Option (List Filter)) (line : List Symbol) (all : Bool) (lines : List ℕ) → IsPrinted form filters line all lines
    → IsTold form filters line (status_of all) (rows_head form ++ (lines ++ ending_in form all))
told_ended form filters line true lines is = inl (ap (λ (bs : List ℕ). rows_head form ++ bs) (append-nil lines ∙ is), refl)
told_ended form filters line false lines part = inr (lines, part, refl, refl)

-- ---- filters

pub filter_list-push : (texts : List (List ℕ)) (text : List ℕ) → Some (filters_of (filter_list texts) ++ filter_of text ∷ []) ≡ filter_list (texts ++ text ∷ [])
filter_list-push [] text = refl
filter_list-push (t ∷ ts) text = ap (λ (fs : List Filter). Some (filter_of t ∷ fs)) (sym (map-append filter_of ts (text ∷ [])))

pub length-filter_list : (texts : List (List ℕ)) → length (filters_of (filter_list texts)) ≡ length texts
length-filter_list [] = refl
length-filter_list (t ∷ ts) = length-map (t ∷ ts) filter_of
