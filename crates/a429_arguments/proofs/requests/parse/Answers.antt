use Rattle.std.proofs.Common.{◌≡◌, ◌∙◌, [], Bool, List, ap, sym, subst, true, map}
use Rattle.std.specs.Prelude.{Option, not}
use Rattle.std.proofs.lemmas.Result.{err_from_is_err_and}
use Rattle.clap.proofs.FaultLemmas.{first_fails}
use Rattle.clap.specs.Words.{App, HasKind, HasMatchesOf, Kinds, Row, Text, fault_of, is_simple_and_free, kind_of, subcommand_of, takes}
use Rattle.clap.specs.Kinds.{or_else}
use Rattle.clap.specs.declared.error.Error.{Error}
use Rattle.clap.specs.declared.error.kind.ErrorKind.TheVariants.{OutOfMemory}
use Rattle.a429_arguments.specs.CommandLine.{command_line}
use Rattle.a429_arguments.specs.RequestRows.{AsksFor, IsFound}
use Rattle.a429_arguments.specs.Usage.{ComesTo, found_kinds, is_live, is_run}
use Rattle.a429_arguments.proofs.CommandWords.{is_free_here, is_simple_here}
use Rattle.a429_arguments.proofs.requests.parse.Goals as goal

pub returns-in_err-matches : goal.returns-in_err-matches
unfolding AsksFor
returns-in_err-matches c =
    let words = map (λ w. w.now) c.args.words.now in
    let e = c.in_err-matches.field-0.0 in
    let made = c.in_ok-command.ensures in
    let passes = subst (λ (x : App). takes x words ≡ true → kind_of e ≡ OutOfMemory) made c.in_err-matches.ensures.passes in
    let fault = subst (λ (x : App). is_simple_and_free x ≡ true → HasKind (fault_of x words) e) made c.in_err-matches.ensures.kinds is_free_here in
    let p = err_from_is_err_and c.from_residual-in_err-matches.result c.from_residual-in_err-matches.ensures.1 in
    let kinds = λ (others : Kinds). subst (λ (x : Error). HasKind (or_else (fault_of command_line words) others) x) (sym p.2) (first_fails (fault_of command_line words) others (kind_of e) fault) in
    record {
      asked = λ r asks. rw p.1 (ap kind_of p.2 ∙ passes asks.0);
      kinds = rw p.1 (kinds (found_kinds (subcommand_of command_line words) (is_live (subcommand_of command_line words))));
      live_kinds = rw p.1 (kinds (found_kinds (subcommand_of command_line words) (not (is_live (subcommand_of command_line words)))));
    }

pub returns : goal.returns
unfolding AsksFor
returns c =
    let words = map (λ w. w.now) c.args.words.now in
    let made = c.in_ok-command.ensures in
    let none = subst (λ (x : App). is_simple_and_free x ≡ true → fault_of x words ≡ []) made c.in_ok-matches.ensures.kinds is_free_here in
    let met = (subst (λ (x : App). HasMatchesOf x words c.in_ok-matches.matches) made c.in_ok-matches.ensures.matches is_simple_here).1 in
    let kinds = λ (is_other : Bool → Bool). subst (λ (f : Option (Text × List Row)). ComesTo (found_kinds f (is_other (is_live f))) (λ verb. is_other (is_run verb)) c.read_matches.result)
    met (c.read_matches.ensures.kinds is_other) in
    record {
      asked = λ r asks. c.read_matches.ensures.asked r (subst (λ (f : Option (Text × List Row)). IsFound f r) (sym met) asks.1);
      kinds = rw none (kinds (λ b. b));
      live_kinds = rw none (kinds not);
    }
