-- The lines of a group's outputs so far, as the code holds them (vocabulary of contracts).
use Rattle.std.specs.Prelude.{◌≡◌, ◌≤◌, ◌<◌, ℕ, List, map, length, Bool, false, Some, slice_index_or, All}
use Rattle.a429_cert.specs.declared.due.DueOutput.{DueOutput}
use Rattle.a429_cert.specs.declared.due.DueGroup.{DueGroup}
use Rattle.a429_cert.specs.declared.earlier.Earlier.{Earlier}
use Rattle.a429_cert.specs.declared.output_lines.CheckedLine.{CheckedLine}
use Rattle.a429_cert.specs.Spelling.{Listing}
use Rattle.a429_cert.specs.Reading.{output_line}
use Rattle.a429_cert.specs.Views.{listing}
use Rattle.a429_cert.specs.Faults.{is_listed, place_of}

-- a flag for each output says whether one of these lines lists it
abbrev pub AreListed : List DueOutput → List Bool → List Listing → Type 0
AreListed os flags lines = (source : List ℕ) (place : ℕ) → place_of source os ≡ Some place → slice_index_or flags place false ≡ is_listed lines source

-- these are lines of a group with these outputs
pub record AreNoted (os : List DueOutput) (e : Earlier) : Type 0 where
  pub count : length e.listed.items ≡ length os
  pub last : e.last ≤ length os
  pub listed : AreListed os e.listed.items (map listing e.lines.items)
  pub periods : All (λ l. 0 < l.period) e.lines.items

-- the line lists the output at this place, with a period
pub record IsNextLine (version : ℕ) (g : DueGroup) (line : List ℕ) (c : CheckedLine) : Type 0 where
  pub said : output_line version line ≡ Some (listing c.said)
  pub period : 0 < c.said.period
  pub place : place_of c.said.source.now g.outputs.items ≡ Some c.place
