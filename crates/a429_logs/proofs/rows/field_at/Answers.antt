use Rattle.std.proofs.Common.{◌≡◌, ◌∙◌, ◌∷◌, ℕ, drop, rules, arith}
use Rattle.a429_logs.specs.LogFields.{fields_left, fields_of}
use Rattle.a429_logs.proofs.CaughtFields.{drop-rest, left-some}
use Rattle.a429_logs.proofs.rows.field_at.Goals as goal

pub loop-passed-preserved : goal.loop-passed-preserved
loop-passed-preserved c =
    let fields = fields_of c.args.separator c.args.line.now in
    let passed : ℕ = c.loop-passed.passed in
    let field = c.in-Some._field.now in
    let rest = fields_left c.next.new.self in
    let taken : fields_left c.loop-passed.fields ≡ field ∷ rest = search rules in
    let first : drop passed fields ≡ field ∷ rest = c.loop-passed.invariant.left ∙ taken in
    record {
      left = drop-rest passed fields field rest first;
      within = omega (arith, left-some passed fields field rest first);
    }
