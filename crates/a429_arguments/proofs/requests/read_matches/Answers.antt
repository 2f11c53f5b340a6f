use Rattle.std.proofs.Common.{◌≡◌, ◌∙◌, ◌∷◌, [], Bool, List, ap, codes, refl, subst, sym, false, true}
use Rattle.std.specs.Prelude.{Option, Some, if◌then◌else◌, is_some}
use Rattle.std.specs.Str.{bytes_eq}
use Rattle.clap.specs.Words.{HasKind, Kinds, Row, Text, found_of, rows_of, subcommand_rows_of}
use Rattle.clap.specs.declared.error.kind.ErrorKind.TheVariants.{InvalidValue}
use Rattle.a429_arguments.specs.CommandLine.{row_of}
use Rattle.a429_arguments.specs.RequestRows.{IsFound}
use Rattle.a429_arguments.specs.Requests.{AskedBytes}
use Rattle.a429_arguments.specs.Given.{are_refused, given_in}
use Rattle.a429_arguments.specs.Usage.{elsewhere, found_kinds, is_live, is_run}
use Rattle.a429_arguments.specs.declared.forms.Verb.TheVariants as verb
use Rattle.a429_arguments.specs.declared.forms.Verb.{Verb}
use Rattle.a429_arguments.proofs.AskedWords.{verb_found}
use Rattle.a429_arguments.proofs.requests.read_matches.Goals as goal

live_is : (v : Verb) → bytes_eq (row_of v).name (codes "live") ≡ is_run v
live_is verb.Word = refl
live_is _ = refl

-- the kinds of errors of a command that was found, by whether it breaks a rule
kinds_found : (sub : Option (Text × List Row)) (v : Verb) (rows : List Row) (b : Bool) → sub ≡ Some ((row_of v).name, rows) → are_refused v (given_in rows) ≡ b → (is_other : Bool → Bool)
    → found_kinds sub (is_other (is_live sub)) ≡ (if b then InvalidValue ∷ [] else elsewhere (is_other (is_run v)))
kinds_found sub v rows b is refused is_other = rw (is, verb_found v, refused, live_is v) refl

pub returns-in-None : goal.returns-in-None
returns-in-None c =
    let q = c.in_ok-asked.asked in
    let allowed = sym c.fault_of.ensures ∙ ap is_some c.in-None.is in
    let kinds = kinds_found (subcommand_rows_of c.args.matches.now) q.verb (rows_of (found_of q.found)) false c.in_ok-asked.ensures.found allowed in
    record { asked = c.in_ok-asked.ensures.asked; kinds = kinds }

-- a request breaks no rule
pub returns : goal.returns
returns c =
    let q = c.in_ok-asked.asked in
    let refused = sym c.fault_of.ensures ∙ ap is_some c.in-Some.is in
    let kinds = kinds_found (subcommand_rows_of c.args.matches.now) q.verb (rows_of (found_of q.found)) true c.in_ok-asked.ensures.found refused in
    record {
      asked = λ r found.
          let is = subst (λ (f : Option (Text × List Row)). IsFound f r) c.in_ok-asked.ensures.found found in
          let taken = ap (λ (x : AskedBytes). are_refused x.verb x.given) (c.in_ok-asked.ensures.asked r found) ∙ is.1.taken in
          absurd (cc (sym refused ∙ taken));
      kinds = λ is_other. subst (λ (ks : Kinds). HasKind ks c.words_error.result) (sym (kinds is_other)) c.words_error.ensures;
    }
