use Rattle.std.proofs.Common.{rules, ◌≡◌, ◌∙◌, ◌++◌, ◌∷◌, [], List, refl, length, ap, subst, sym, take, drop, take-append-drop, append-nil, arith, true, false}
use Rattle.std.specs.Prelude.{Option, None}
use Rattle.std.specs.Option.{option_to_list}
use Rattle.std.specs.Io.KnownBytes.{append_known}
use Rattle.a429_line.specs.LineBytes.{symbols_of}
use Rattle.a429_line.specs.Reports.{reports, rest}
use Rattle.a429_line.specs.KeptLines.{StandsForLine}
use Rattle.a429_line.specs.declared.found.Found.{Found}
use Rattle.a429_line.specs.declared.found.Symbol.{Symbol}
use Rattle.a429_cli.specs.LineReports.{printed, rest_in}
use Rattle.a429_replay.proofs.PutLines.{Appends-same, Appends-text, Appends-then}
use Rattle.a429_cli.proofs.ReportLines.{no_reports, printed-append, printed-nil, symbols_cut, symbols_taken, taken_whole, told_before}
use Rattle.a429_cli.proofs.lines.print_line.Goals as goal

pub loop-found-init : goal.loop-found-init
loop-found-init g c = record {
  within = omega arith;
  stands = c.new-reader.ensures;
  printed = rw (no_reports, printed-nil c.args.form c.args.line.now.filters) (Appends-same (append_known (g.O.Output.contents c.args.out.now) c.args.lines.now.items));
  kept = refl;
}

pub returns-then-not-branch-clause-printed : goal.returns-then-not-branch-clause-printed
returns-then-not-branch-clause-printed g c =
    let was = c.loop-found.invariant in
    let bytes = c.args.line.now.bytes.items in
    let form = c.args.form in
    let filters = c.args.line.now.filters in
    let past = take c.loop-found.at bytes in
    let left = drop c.loop-found.at bytes in
    let told = printed form filters (reports (symbols_of past)) in
    let refused : c.in_ok-print_report.field-0 ≡ false = search rules in
    let none = rw refused at c.in_ok-print_report.ensures.printed in (
      told,
      told_before form filters (symbols_of bytes) (symbols_of past) (symbols_of left) (symbols_cut bytes past left (sym (take-append-drop c.loop-found.at bytes))),
      rw (append-nil told) at (Appends-then _ _ _ told [] was.printed none),
    )

pub loop-found-preserved : goal.loop-found-preserved
loop-found-preserved g c =
    let was = c.loop-found.invariant in
    let bytes = c.args.line.now.bytes.items in
    let form = c.args.form in
    let filters = c.args.line.now.filters in
    let past = symbols_of (take c.loop-found.at bytes) in
    let one : List Found = c.in-Some.found ∷ [] in
    let next = c.in-Some.ensures in
    let taken = symbols_taken bytes c.as_slice-bytes.result.now c.loop-found.at c.next.new.from c.as_slice-bytes.ensures.value next.forward.0 in
    let sufficed : c.in_ok-print_report.field-0 ≡ true = search rules in
    let said = rw sufficed at c.in_ok-print_report.ensures.printed in
    let reported : reports (symbols_of (take c.next.new.from bytes)) ≡ reports past ++ one = ap reports (sym taken) ∙ next.reports past was.stands in
    record {
      within = omega (arith, ap length c.as_slice-bytes.ensures.value, next.forward.1);
      stands = subst (λ (x : List Symbol). StandsForLine x c.next.new.self) taken (next.stands past was.stands);
      printed = rw (reported, printed-append form filters (reports past) one) (Appends-then _ _ _ (printed form filters (reports past)) (printed form filters one) was.printed said);
      kept = c.in_ok-print_report.ensures.faults ∙ was.kept;
    }

pub returns-in_default-push_rest-clause-printed : goal.returns-in_default-push_rest-clause-printed
returns-in_default-push_rest-clause-printed g c =
    let was = c.loop-found.invariant in
    let bytes = c.args.line.now.bytes.items in
    let form = c.args.form in
    let filters = c.args.line.now.filters in
    let past = take c.loop-found.at bytes in
    let left = drop c.loop-found.at bytes in
    let kept : c.push_rest.new.lines.items ≡ c.loop-found.lines.items = c.in_default-push_rest.ensures.kept in (
      printed form filters (reports (symbols_of past)),
      told_before form filters (symbols_of bytes) (symbols_of past) (symbols_of left) (symbols_cut bytes past left (sym (take-append-drop c.loop-found.at bytes))),
      rw kept was.printed,
    )

pub returns-clause-printed : goal.returns-clause-printed
returns-clause-printed g c =
    let was = c.loop-found.invariant in
    let bytes = c.args.line.now.bytes.items in
    let form = c.args.form in
    let filters = c.args.line.now.filters in
    let past = symbols_of (take c.loop-found.at bytes) in
    let next = c.next.ensures in
    let none : c.next.result ≡ None = search rules in
    let same = c.as_slice-bytes.ensures.value in
    let taken = symbols_taken bytes c.as_slice-bytes.result.now c.loop-found.at c.next.new.from same next.forward.0 in
    let whole = taken ∙ taken_whole bytes c.as_slice-bytes.result.now c.next.new.from same (next.end none) in
    let reported : reports (symbols_of bytes) ≡ reports past =
    ap reports (sym whole) ∙ (next.reports past was.stands ∙ (ap (λ (o : Option Found). reports past ++ option_to_list o) none ∙ append-nil (reports past))) in
    let bits : c.rest.result ≡ rest (symbols_of bytes) = c.rest.ensures (symbols_of bytes) (subst (λ (x : List Symbol). StandsForLine x c.next.new.self) whole (next.stands past was.stands)) in
    let said : c.push_rest.new.lines.items ≡ c.loop-found.lines.items ++ rest_in form filters c.rest.result = c.in-Ok.ensures.line in
    let told = printed form filters (reports past) in
    let last = rest_in form filters c.rest.result in (
      told ++ last,
      rw (reported, ← bits) refl,
      rw said (Appends-then _ _ _ told last was.printed (Appends-text (g.O.Output.contents c.loop-found.out) c.loop-found.lines.items last)),
    )
