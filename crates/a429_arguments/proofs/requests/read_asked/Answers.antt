use mathlib.Core.Path.{fun_ext}
use Rattle.std.proofs.Common.{◌≡◌, ◌∙◌, ℕ, List, [], ap, refl, subst, sym}
use Rattle.std.proofs.lemmas.Option.{option_and_then_some, same_Some}
use Rattle.std.specs.Prelude.{None, Option, Some, option_map, unwrap_or}
use Rattle.clap.specs.Words.{Row, Text, first_of, found_of, rows_of}
use Rattle.a429_arguments.specs.CommandLine.{CommandRow, form_row, most_frames, name_id, number_up_to, row_of}
use Rattle.a429_arguments.specs.RequestRows.{AreGivenTexts, IsFound, IsGivenNumber, IsGivenText}
use Rattle.a429_arguments.proofs.AskedWords.{same_verb}
use Rattle.a429_arguments.proofs.requests.read_asked.Goals as goal

-- the number of a text that is there
number_is : (rows : List Row) (argument : Option Text) (text : Text) (n : ℕ) → ((t : Text) → IsGivenText rows argument t → text ≡ t) → IsGivenNumber rows argument n
    → unwrap_or (number_up_to most_frames text) 0 ≡ n
unfolding number_up_to
number_is rows None text n named none = rw (named [] refl, none) refl
number_is rows (Some id) text n named is = option_and_then_some (number_up_to most_frames) (first_of id rows) n is (λ t at read. rw (named t at, read) refl)

-- what was met, by its two parts
met_parts : {S : Type 0} (sub : Option S) (name_of : S → Text) (rows_of : S → List Row) (name : Text) (rows : List Row) → Some name ≡ option_map name_of sub
    → Some rows ≡ option_map (λ (p : Text × List Row). p.1) (option_map {U = Text × List Row} (λ b. (name_of b, rows_of b)) sub) → option_map {U = Text × List Row} (λ b. (name_of b, rows_of b)) sub ≡ Some (name, rows)
met_parts None name_of rows_of name rows named found = absurd (cc named)
met_parts (Some b) name_of rows_of name rows named found = rw (same_Some name (name_of b) named, same_Some rows (rows_of b) found) refl

pub returns-clause-asked : goal.returns-clause-asked
returns-clause-asked c = λ r found.
    let form = c.in-Some-command_named.form in
    let rows = rows_of (found_of c.in-Some.found) in
    let is_row = c.in-Some-command_named.ensures.0 in
    let here = met_parts _ _ _ c.in-Some.name.now rows c.in-Some.ensures.name c.in-Some.ensures.rows in
    let (named, is) = subst (λ (f : Option (Text × List Row)). IsFound f r) here found in
    let own : form.name.now ≡ (row_of form.verb).name = ap (λ (x : CommandRow). x.name) is_row in
    let same : r.verb ≡ form.verb = same_verb r.verb form.verb (sym named ∙ (sym c.in-Some-command_named.ensures.1 ∙ own)) in
    let row : row_of r.verb ≡ form_row form = ap row_of same ∙ sym is_row in
    let first = c.name_in.ensures r.first (subst (λ (x : CommandRow). first_of x.first rows ≡ Some r.first) row is.first) in
    let second = c.name_in-2.ensures r.second (subst (λ (x : CommandRow). IsGivenText rows x.second r.second) row is.second) in
    let number = c.unwrap_or.ensures ∙ ap (λ x. unwrap_or x 0) c.short_number_up_to.ensures
    ∙ number_is rows (name_id form.number) _ r.number c.name_in-3.ensures (subst (λ (x : CommandRow). IsGivenNumber rows x.number r.number) row is.number) in
    let more = c.in_ok-more.ensures r.more (subst (λ (x : CommandRow). AreGivenTexts rows x.more r.more) row is.more) in
    rw (sym same, first, second, number, more, fun_ext is.options) refl
