use Rattle.std.proofs.Common.{◌≡◌, ◌∙◌, ◌+◌, ◌∷◌, ℕ, List, length, map, rules, sym, ap, arith}
use Rattle.std.specs.List.{enumerate_from}
use Rattle.a429_text.specs.Renames.{renamed}
use Rattle.a429_logs.specs.LogFields.{fields_left}
use Rattle.a429_logs.specs.LogColumns.{found_by, found_in, found_next, found_with, names_of, places_in}
use Rattle.a429_logs.specs.declared.cells.Found.{Found}
use Rattle.a429_logs.proofs.FoundColumns.{fields_few, found-end, found-next, names-none}
use Rattle.a429_logs.proofs.columns.Heading.find.Goals as goal

pub loop-place-init : goal.loop-place-init
unfolding found_in
loop-place-init c = record {
  found =
      ap (λ (fields : List (List ℕ)). found_by (places_in c.args.column (enumerate_from 0 (names_of (map (λ text. text.now) c.args.self.now.renames.now) fields))))
      c.of-fields.ensures;
  counted = omega (arith, ap (λ (fields : List (List ℕ)). length fields) c.of-fields.ensures);
}

pub loop-place-preserved : goal.loop-place-preserved
loop-place-preserved c =
    let column = c.args.column in
    let found = c.loop-place.found in
    let place : ℕ = c.loop-place.place in
    let texts = map (λ text. text.now) c.args.self.now.renames.now in
    let field = c.in-Some.name.now in
    let name = renamed texts field in
    let rest = names_of texts (fields_left c.next.new.self) in
    let taken : fields_left c.loop-place.fields ≡ field ∷ fields_left c.next.new.self = search rules in
    let after : c.after-found.result ≡ found_next column found place name = search rules in
    record {
      found =
          ap (λ (f : Found). found_with f (places_in column (enumerate_from (place + 1) rest))) after
          ∙ found-next column found place name rest
          ∙ ap (λ (fields : List (List ℕ)). found_with found (places_in column (enumerate_from place (names_of texts fields)))) (sym taken)
          ∙ c.loop-place.invariant.found;
      counted = omega (arith, ap (λ (fields : List (List ℕ)). length fields) taken, c.loop-place.invariant.counted);
    }

pub returns : goal.returns
returns c =
    let heading = c.args.self.now in
    let place : ℕ = c.loop-place.place in
    let last : place ≡ length heading.line.now + 1 = search rules in
    let none : length (fields_left c.loop-place.fields) ≡ 0 =
    omega (arith, last, c.loop-place.invariant.counted, fields_few heading.separator heading.line.now) in
    let texts = map (λ text. text.now) heading.renames.now in
    let named = names-none texts (fields_left c.loop-place.fields) none in
    found-end c.args.column c.loop-place.found place (names_of texts (fields_left c.loop-place.fields)) named ∙ c.loop-place.invariant.found
