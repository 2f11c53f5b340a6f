-- What the comments of a table say, line by line.
use Rattle.std.proofs.Common.{◌≡◌, ◌∙◌, ◌++◌, ◌∷◌, [], ℕ, List, ap, refl, sym}
use Rattle.std.specs.Prelude.{Option, Some, None, filter_map}
use Rattle.std.proofs.lemmas.List.{append_assoc}
use Rattle.a429_text.specs.CutText.{cut}
use Rattle.a429_text.proofs.CutLines.{lines-cut}
use Rattle.a429_documents.specs.KeptColumns.{Said, all_lines, kept_in}

lines_on : (text line next : List ℕ) → cut 10 text ≡ Some (line, next) → all_lines text ≡ line ∷ all_lines next
lines_on text line next e = rw (lines-cut text, e) refl

lines_end : (text : List ℕ) → cut 10 text ≡ None → all_lines text ≡ text ∷ []
lines_end text e = rw (lines-cut text, e) refl

split_first : {X Y : Type 0} (f : X → Option Y) (x : X) (xs : List X) (o : Option Y) → f x ≡ o → filter_map f (x ∷ xs) ≡ filter_map f (x ∷ []) ++ filter_map f xs
split_first f x xs None e = rw e refl
split_first f x xs (Some y) e = rw e refl

-- a line is added
pub line_added : (before after all : List Said) (text line next : List ℕ) → cut 10 text ≡ Some (line, next) → before ++ filter_map kept_in (all_lines text) ≡ all
    → after ≡ before ++ filter_map kept_in (line ∷ []) → after ++ filter_map kept_in (all_lines next) ≡ all
line_added before after all text line next e known added =
    let joined : before ++ (filter_map kept_in (line ∷ []) ++ filter_map kept_in (all_lines next)) ≡ all =
    ap (λ xs. before ++ xs) (sym (split_first kept_in line (all_lines next) (kept_in line) refl)) ∙ (ap (λ ls. before ++ filter_map kept_in ls) (sym (lines_on text line next e)) ∙ known) in
    rw added (append_assoc before (filter_map kept_in (line ∷ [])) (filter_map kept_in (all_lines next)) ∙ joined)

-- the last one is added
pub last_added : (before after all : List Said) (text : List ℕ) → cut 10 text ≡ None → before ++ filter_map kept_in (all_lines text) ≡ all
    → after ≡ before ++ filter_map kept_in (text ∷ []) → after ≡ all
last_added before after all text e known added = added ∙ (ap (λ ls. before ++ filter_map kept_in ls) (sym (lines_end text e)) ∙ known)
