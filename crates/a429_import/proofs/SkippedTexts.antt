-- Texts between the tables of a document, which a reader skips: comments and empty lines.
use Rattle.std.proofs.Common.{codes, ◌≡◌, ℕ, Bool, true, false, cond, List, [], ◌∷◌, ◌++◌, Option, Some, None, refl, sym, ap, ◌∙◌, inl, inr, arith, append_assoc, append-nil, subst}
use Rattle.std.specs.List.{flat_map, list_all}
use Rattle.std.specs.Option.{option_map_or}
use Rattle.std.specs.Str.{bytes_eq}
use Rattle.std.proofs.lemmas.Bool.{cases_Bool, and_parts}
use Rattle.std.proofs.lemmas.Bool.Decides.{nat_tests}
use Rattle.toml_parser.specs.Lexical.{first, is_non_eol, skip_blank, skip_from, skip_turn}
use Rattle.toml.proofs.Blanks.{skip_newline}
use Rattle.a429_text.specs.CutText.{cut}
use Rattle.a429_text.proofs.CutLines.{lines-cut}
use Rattle.a429_import.specs.declared.firsts.Part.{Part}
use Rattle.a429_import.specs.declared.firsts.Part.TheVariants.{Receivers, Sources, Groups}
use Rattle.a429_import.specs.declared.rows.ImportRow.{ImportRow}
use Rattle.a429_import.specs.ImportFields.{utf8_in}
use Rattle.a429_import.specs.ImportTables.{name_in}
use Rattle.a429_import.specs.KeptFields.{comment_line, comment_of, kept_comments, shown}
use Rattle.a429_import.specs.PrintedTables.{IsSkipped}
use Rattle.a429_import.specs.Renamed.{text_of}
use Rattle.a429_import.specs.TableTexts.{above_of, column_comments, made_comment, name_comment}

in_comment : (line rest : List ℕ) → list_all is_non_eol line ≡ true → skip_from true true (line ++ 10 ∷ rest) ≡ skip_blank rest
unfolding skip_from
in_comment [] rest all = refl
in_comment (c ∷ cs) rest all =
    let (here, more) = and_parts (is_non_eol c) (list_all is_non_eol cs) all in
    let turn : skip_turn true true c (first (cs ++ 10 ∷ rest)) ≡ Some true = grind (arith, nat_tests) in
    rw turn (in_comment cs rest more)

skipped_none : IsSkipped []
skipped_none rest = refl

skipped_both : (a b : List ℕ) → IsSkipped a → IsSkipped b → IsSkipped (a ++ b)
skipped_both a b first_skipped skipped rest = ap skip_blank (append_assoc a b rest) ∙ first_skipped (b ++ rest) ∙ skipped rest

comment_skipped : (line : List ℕ) → list_all is_non_eol line ≡ true → IsSkipped (35 ∷ (line ++ 10 ∷ []))
unfolding skip_from
comment_skipped line all rest = ap (λ (x : List ℕ). skip_from true true x) (append_assoc line (10 ∷ []) rest) ∙ in_comment line rest all

text_skipped : (line : List ℕ) → IsSkipped (comment_of line)
text_skipped line = elim (cases_Bool (list_all is_non_eol line)) [
  | inl is ↦ subst (λ (b : Bool). IsSkipped (cond b (35 ∷ (line ++ 10 ∷ [])) [])) (sym is) (comment_skipped line is)
  | inr other ↦ subst (λ (b : Bool). IsSkipped (cond b (35 ∷ (line ++ 10 ∷ [])) [])) (sym other) skipped_none
]

line_skipped : (line : List ℕ) → IsSkipped (comment_line line)
unfolding comment_line
line_skipped line = by (utf8_in line)
  where
    by : (o : Option (List ℕ)) → IsSkipped (option_map_or comment_of o [])
    by None = skipped_none
    by (Some text) = text_skipped text

name_skipped : (text name : List ℕ) → IsSkipped (name_comment text name)
name_skipped text name = elim (cases_Bool (bytes_eq text name)) [
  | inl same ↦ subst (λ (b : Bool). IsSkipped (cond b [] (comment_line (32 ∷ shown false text)))) (sym same) skipped_none
  | inr other ↦ subst (λ (b : Bool). IsSkipped (cond b [] (comment_line (32 ∷ shown false text)))) (sym other) (line_skipped (32 ∷ shown false text))
]

made_skipped : (part : Part) (before : Option ImportRow) (row : ImportRow) → IsSkipped (made_comment part before row)
made_skipped part None row = skipped_none
made_skipped part (Some before) row = name_skipped (text_of part before) (name_in part row)

lines_skipped : (f : List ℕ → List ℕ) (lines : List (List ℕ)) → IsSkipped (flat_map (λ line. comment_line (f line)) lines)
lines_skipped f [] = skipped_none
lines_skipped f (line ∷ lines) = skipped_both (comment_line (f line)) (flat_map (λ l. comment_line (f l)) lines) (line_skipped (f line)) (lines_skipped f lines)

columns_skipped : (kept : List ℕ → List ℕ) (part : Part) (before : Option ImportRow) (row : ImportRow) → IsSkipped (column_comments kept part before row)
columns_skipped kept Receivers before row = skipped_none
columns_skipped kept Groups before row = skipped_none
columns_skipped kept Sources before row = lines_skipped (λ line. codes ": " ++ (row.texts.source ++ (codes " | " ++ line))) _

pub above_skipped : (kept : List ℕ → List ℕ) (part : Part) (before : Option ImportRow) (row : ImportRow) → IsSkipped (above_of kept part before row)
above_skipped kept part before row rest =
    let below : List ℕ = made_comment part before row ++ column_comments kept part before row in
    skip_newline (below ++ rest) ∙ skipped_both (made_comment part before row) (column_comments kept part before row) (made_skipped part before row) (columns_skipped kept part before row) rest

-- ---- a comment for each line

abbrev comment_for : List ℕ → List ℕ → List ℕ
comment_for name line = comment_line (codes ": " ++ (name ++ (codes " | " ++ line)))

pub comment_added : (name old new text line next : List ℕ) → cut 10 text ≡ Some (line, next) → new ≡ old ++ comment_for name line → new ++ kept_comments name next ≡ old ++ kept_comments name text
comment_added name old new text line next is added =
    ap (λ (x : List ℕ). x ++ kept_comments name next) added ∙ append_assoc old (comment_for name line) (kept_comments name next)
    ∙ ap (λ (x : List ℕ). old ++ x) (sym (ap (λ (p : List (List ℕ) × List ℕ). flat_map (comment_for name) p.0) (lines-cut text) ∙ rw is refl))

pub comments_ended : (name old text : List ℕ) → cut 10 text ≡ None → old ≡ old ++ kept_comments name text
comments_ended name old text none =
    sym (ap (λ (x : List ℕ). old ++ x) (ap (λ (p : List (List ℕ) × List ℕ). flat_map (comment_for name) p.0) (lines-cut text) ∙ rw none refl) ∙ append-nil old)
