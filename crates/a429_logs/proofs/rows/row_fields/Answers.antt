use Rattle.std.proofs.Common.{◌≡◌, ◌∙◌, ◌<◌, ◌∷◌, [], ℕ, List, drop, rules, sym, ap, arith}
use Rattle.a429_logs.specs.LogFields.{fields_left, fields_of}
use Rattle.a429_logs.specs.LogRows.{caught, word_place}
use Rattle.a429_logs.proofs.CaughtFields.{caught-other, caught-row, drop-field, drop-rest, left-none, left-some, seen-next, seen-none}
use Rattle.a429_logs.proofs.rows.row_fields.Goals as goal

pub loop-place-init : goal.loop-place-init
loop-place-init c =
    let fields = fields_of c.args.separator c.args.line.now in
    record {
      left = sym c.of-fields.ensures;
      within = omega arith;
      time = seen-none c.args.places.now.time fields;
      name = seen-none c.args.places.now.name fields;
      word = seen-none (word_place c.args.places.now.word) fields;
    }

pub returns-in_err-field : goal.returns-in_err-field
returns-in_err-field c =
    let fields = fields_of c.args.separator c.args.line.now in
    let places = c.args.places.now in
    let none : fields_left c.loop-place.fields ≡ [] = search rules in
    let below : c.loop-place.place < c.args.count = search rules in
    let few = left-none c.loop-place.place fields (c.loop-place.invariant.left ∙ none) c.loop-place.invariant.within in
    search (rules, caught-other c.args.count places fields (λ all. omega (arith, all, few, below)))

pub loop-place-preserved : goal.loop-place-preserved
loop-place-preserved c =
    let fields = fields_of c.args.separator c.args.line.now in
    let places = c.args.places.now in
    let place : ℕ = c.loop-place.place in
    let field = c.in_ok-field.field.now in
    let rest = fields_left c.next.new.self in
    let taken : fields_left c.loop-place.fields ≡ field ∷ rest = search rules in
    let first : drop place fields ≡ field ∷ rest = c.loop-place.invariant.left ∙ taken in
    let here = drop-field place fields field rest first in
    record {
      left = drop-rest place fields field rest first;
      within = omega (arith, left-some place fields field rest first);
      time = c.caught-time.ensures ∙ ap (λ (old : List ℕ). caught places.time place field old) c.loop-place.invariant.time ∙ seen-next places.time place field fields here;
      name = c.caught-name.ensures ∙ ap (λ (old : List ℕ). caught places.name place field old) c.loop-place.invariant.name ∙ seen-next places.name place field fields here;
      word =
          c.caught-word.ensures
          ∙ ap (λ (k : ℕ). caught k place field c.loop-place.word.now) c.word_place.ensures
          ∙ ap (λ (old : List ℕ). caught (word_place places.word) place field old) c.loop-place.invariant.word
          ∙ seen-next (word_place places.word) place field fields here;
    }

pub returns-in-None : goal.returns-in-None
returns-in-None c =
    let fields = fields_of c.args.separator c.args.line.now in
    let places = c.args.places.now in
    let place : ℕ = c.loop-place.place in
    let last : place ≡ c.args.count = search rules in
    let none : fields_left c.loop-place.fields ≡ [] = search rules in
    let all = left-none place fields (c.loop-place.invariant.left ∙ none) c.loop-place.invariant.within in
    rw (c.loop-place.invariant.time, c.loop-place.invariant.name, c.loop-place.invariant.word) (caught-row c.args.count places fields place last all)
