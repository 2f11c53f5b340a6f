-- Nothing is above the heading of a text that begins with it.
use Rattle.std.proofs.Common.{◌≡◌, ◌∙◌, ◌-◌, [], ℕ, false, List, ap, arith, length, map, refl, take}
use Rattle.std.specs.List.{list_any}
use Rattle.csv.specs.Machine.{next_record}
use Rattle.csv.specs.Reading.{records, records_from, strip_bom}
use Rattle.csv.specs.declared.parser.Config.{Config}
use Rattle.a429_import.specs.FaultLines.{first_row, has_data, is_data}
use Rattle.a429_import.specs.ImportForms.{from_heading, separator_in}
use Rattle.a429_import.specs.ImportMaps.{names_by}
use Rattle.a429_import.specs.ImportQuotes.{text_before}
use Rattle.a429_import.specs.ImportWords.{trimmed}
use Rattle.a429_import.specs.Imports.{has_row_above, separated}

pub nothing_before : (text : List ℕ) → text_before text text ≡ []
nothing_before text = let none : length text - length text ≡ 0 = omega arith in ap (λ (n : ℕ). take n text) none

no_records : (cfg : Config) → records cfg (strip_bom []) ≡ []
unfolding strip_bom records_from next_record
no_records cfg = refl

module _ (maps : List (List ℕ)) (text : List ℕ) (first : from_heading maps text ≡ text) where
  nothing_above : text_before (from_heading maps text) text ≡ []
  nothing_above = ap (λ (rest : List ℕ). text_before rest text) first ∙ nothing_before text

  pub no_row_above : has_row_above maps text ≡ false
  no_row_above =
      let cfg : Config = separated (separator_in maps text) in
      let heading : List (List ℕ) = names_by maps (first_row cfg (from_heading maps text)) in
      ap (has_data cfg heading) nothing_above ∙ ap (list_any (λ (row : List (List ℕ)). is_data heading (map trimmed row))) (no_records cfg)
