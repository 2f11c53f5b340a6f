-- The quotes of what the library `csv` writes are right.
use Rattle.std.proofs.Common.{◌≡◌, ◌∙◌, ◌∷◌, ◌++◌, ℕ, suc, Bool, true, false, List, [], ap, append_assoc, inl, inr, length, refl, subst, sym}
use Rattle.std.specs.Prelude.{◌==◌, ◌||◌}
use Rattle.std.specs.List.{flat_map, list_any}
use Rattle.std.proofs.lemmas.Bool.{cases_Bool, eqb-true, ne_eqb}
use Rattle.csv.specs.Reading.{default_config}
use Rattle.csv.specs.Writing.{default_writer, escaped, field_text, fields_text, is_blank, needs_byte, row_text}
use Rattle.csv.specs.declared.parser.State.{State}
use Rattle.csv.specs.declared.parser.State.TheVariants as st
use Rattle.a429_import.specs.ImportQuotes.{is_misquoted_from}

-- the quotes of rows are wrong, in a text that begins in this state
abbrev misquotes : State → List ℕ → Bool
misquotes s xs = is_misquoted_from true default_config s xs

left_false : (a b : Bool) → (a || b) ≡ false → a ≡ false
left_false false b e = refl
left_false true b e = cc e

right_false : (a b : Bool) → (a || b) ≡ false → b ≡ false
right_false false b e = e
right_false true b e = cc e

not_true : (x : Bool) → (x ≡ true → ⊥) → x ≡ false
not_true true n = absurd (n refl)
not_true false n = refl

-- a byte that calls for no quotes is no mark of the format
plain_byte : (b : ℕ) → needs_byte default_writer b ≡ false → ((b == 44) ≡ false) × ((b == 34) ≡ false) × ((b == 13) ≡ false) × ((b == 10) ≡ false)
plain_byte b e =
    let a = not_true (b == 44) (λ t. cc (rw t at e)) in
    let q = not_true (b == 34) (λ t. cc (rw (a, t) at e)) in
    let r = not_true (b == 13) (λ t. cc (rw (a, q, t) at e)) in
    let n = not_true (b == 10) (λ t. cc (rw (a, q, r, t) at e)) in
    (a, q, r, n)

-- ---- one field

plain_run : (x tail : List ℕ) → list_any (needs_byte default_writer) x ≡ false → misquotes st.InField (x ++ tail) ≡ misquotes st.InField tail
unfolding is_misquoted_from
plain_run [] tail e = refl
plain_run (b ∷ rest) tail e =
    let q = plain_byte b (left_false _ _ e) in
    rw (q.0, q.2, q.3) (plain_run rest tail (right_false _ _ e))

escaped_plain : (b : ℕ) (rest : List ℕ) → (b == 34) ≡ false → escaped default_writer (b ∷ rest) ≡ b ∷ escaped default_writer rest
unfolding escaped
escaped_plain b rest n = rw n refl

inside_plain : (b : ℕ) (tail : List ℕ) → (b == 34) ≡ false → misquotes st.InQuoted (b ∷ tail) ≡ misquotes st.InQuoted tail
unfolding is_misquoted_from
inside_plain b tail n = rw n refl

-- the bytes of a field between quotes, and the quote that ends them
quoted_run : (x tail : List ℕ) → misquotes st.InQuoted (escaped default_writer x ++ (34 ∷ tail)) ≡ misquotes st.AfterQuote tail
unfolding is_misquoted_from escaped
quoted_run [] tail = refl
quoted_run (b ∷ rest) tail = elim (cases_Bool (b == 34)) [
  | inl same ↦
      subst (λ (z : ℕ). misquotes st.InQuoted (escaped default_writer (z ∷ rest) ++ (34 ∷ tail)) ≡ misquotes st.AfterQuote tail) (sym (eqb-true b 34 same)) (quoted_run rest tail)
  | inr other ↦ rw (escaped_plain b rest other) (inside_plain b (escaped default_writer rest ++ (34 ∷ tail)) other ∙ quoted_run rest tail)
]

-- what comes after a field: the end of the row, or a comma and the other fields
abbrev mark_before : List (List ℕ) → ℕ
mark_before [] = 10
mark_before (y ∷ ys) = 44

abbrev after_mark : List (List ℕ) → List ℕ → List ℕ
after_mark [] tail = tail
after_mark (y ∷ ys) tail = (field_text default_writer y ++ fields_text default_writer ys) ++ (10 ∷ tail)

text_after : (rest : List (List ℕ)) (tail : List ℕ) → fields_text default_writer rest ++ (10 ∷ tail) ≡ mark_before rest ∷ after_mark rest tail
unfolding fields_text
text_after [] tail = refl
text_after (y ∷ ys) tail = refl

after_quote : (rest : List (List ℕ)) (tail : List ℕ) → misquotes st.AfterQuote (mark_before rest ∷ tail) ≡ misquotes st.InField (mark_before rest ∷ tail)
unfolding is_misquoted_from
after_quote [] tail = refl
after_quote (y ∷ ys) tail = refl

empty_field : (rest : List (List ℕ)) (tail : List ℕ) → misquotes st.StartField (mark_before rest ∷ tail) ≡ misquotes st.InField (mark_before rest ∷ tail)
unfolding is_misquoted_from
empty_field [] tail = refl
empty_field (y ∷ ys) tail = refl

plain_start : (b : ℕ) (tail : List ℕ) → (b == 34) ≡ false → misquotes st.StartField (b ∷ tail) ≡ misquotes st.InField (b ∷ tail)
unfolding is_misquoted_from
plain_start b tail n = rw n refl

quoted_start : (tail : List ℕ) → misquotes st.StartField (34 ∷ tail) ≡ misquotes st.InQuoted tail
unfolding is_misquoted_from
quoted_start tail = refl

plain_field : (x : List ℕ) (rest : List (List ℕ)) (tail : List ℕ) → list_any (needs_byte default_writer) x ≡ false
    → misquotes st.StartField (x ++ (mark_before rest ∷ tail)) ≡ misquotes st.InField (mark_before rest ∷ tail)
plain_field [] rest tail e = empty_field rest tail
plain_field (b ∷ x) rest tail e =
    let q = plain_byte b (left_false _ _ e) in
    plain_start b (x ++ (mark_before rest ∷ tail)) q.1 ∙ plain_run (b ∷ x) (mark_before rest ∷ tail) e

field_run : (x : List ℕ) (rest : List (List ℕ)) (tail : List ℕ) → misquotes st.StartField (field_text default_writer x ++ (mark_before rest ∷ tail)) ≡ misquotes st.InField (mark_before rest ∷ tail)
field_run x rest tail = elim (cases_Bool (list_any (needs_byte default_writer) x)) [
  | inl needs ↦
      let c : ℕ = mark_before rest in
      let text : field_text default_writer x ++ (c ∷ tail) ≡ 34 ∷ (escaped default_writer x ++ (34 ∷ c ∷ tail)) =
      rw needs (ap (λ (t : List ℕ). 34 ∷ t) (append_assoc (escaped default_writer x) (34 ∷ []) (c ∷ tail))) in
      rw text (quoted_start (escaped default_writer x ++ (34 ∷ c ∷ tail)) ∙ quoted_run x (c ∷ tail) ∙ after_quote rest tail)
  | inr plain ↦
      let text : field_text default_writer x ≡ x = rw plain refl in
      rw text (plain_field x rest tail plain)
]

-- ---- one row

comma_passed : (tail : List ℕ) → misquotes st.InField (44 ∷ tail) ≡ misquotes st.StartField tail
unfolding is_misquoted_from
comma_passed tail = refl

end_passed : (tail : List ℕ) → misquotes st.InField (10 ∷ tail) ≡ misquotes st.StartRecord tail
unfolding is_misquoted_from
end_passed tail = refl

-- the rest of a row, after a field
rest_run : (rest : List (List ℕ)) (tail : List ℕ) → misquotes st.InField (mark_before rest ∷ after_mark rest tail) ≡ misquotes st.StartRecord tail
rest_run [] tail = end_passed tail
rest_run (y ∷ ys) tail =
    let text : (field_text default_writer y ++ fields_text default_writer ys) ++ (10 ∷ tail) ≡ field_text default_writer y ++ (mark_before ys ∷ after_mark ys tail) =
    append_assoc (field_text default_writer y) (fields_text default_writer ys) (10 ∷ tail) ∙ ap (λ (t : List ℕ). field_text default_writer y ++ t) (text_after ys tail) in
    comma_passed ((field_text default_writer y ++ fields_text default_writer ys) ++ (10 ∷ tail))
    ∙ ap (misquotes st.StartField) text ∙ field_run y ys (after_mark ys tail) ∙ rest_run ys tail

-- a row begins as a field does, if its text does not begin with a line end
row_start : (b : ℕ) (tail : List ℕ) → (b == 13) ≡ false → (b == 10) ≡ false → misquotes st.StartRecord (b ∷ tail) ≡ misquotes st.StartField (b ∷ tail)
unfolding is_misquoted_from
row_start b tail r n = rw (r, n) refl

quoted_row : (x tail : List ℕ) → list_any (needs_byte default_writer) x ≡ true → misquotes st.StartRecord (field_text default_writer x ++ tail) ≡ misquotes st.StartField (field_text default_writer x ++ tail)
quoted_row x tail needs = rw needs (row_start 34 ((escaped default_writer x ++ (34 ∷ [])) ++ tail) refl refl)

plain_row : (b : ℕ) (x tail : List ℕ) → list_any (needs_byte default_writer) (b ∷ x) ≡ false → misquotes st.StartRecord ((b ∷ x) ++ tail) ≡ misquotes st.StartField ((b ∷ x) ++ tail)
plain_row b x tail plain = let q = plain_byte b (left_false _ _ plain) in row_start b (x ++ tail) q.2 q.3

field_starts : (b : ℕ) (x tail : List ℕ) → misquotes st.StartRecord (field_text default_writer (b ∷ x) ++ tail) ≡ misquotes st.StartField (field_text default_writer (b ∷ x) ++ tail)
field_starts b x tail = elim (cases_Bool (list_any (needs_byte default_writer) (b ∷ x))) [
  | inl needs ↦ quoted_row (b ∷ x) tail needs
  | inr plain ↦
      let text : field_text default_writer (b ∷ x) ≡ b ∷ x = rw plain refl in
      rw text (plain_row b x tail plain)
]

-- a row that is not blank, by its fields
row_is : (x : List ℕ) (rest : List (List ℕ)) (tail : List ℕ) → is_blank default_writer (x ∷ rest) ≡ false
    → row_text default_writer (x ∷ rest) ++ tail ≡ field_text default_writer x ++ (mark_before rest ∷ after_mark rest tail)
row_is x rest tail b =
    rw b (append_assoc (field_text default_writer x ++ fields_text default_writer rest) (10 ∷ []) tail ∙ append_assoc (field_text default_writer x) (fields_text default_writer rest) (10 ∷ tail)
    ∙ ap (λ (t : List ℕ). field_text default_writer x ++ t) (text_after rest tail))

filled : (b : ℕ) (x : List ℕ) → (length (field_text default_writer (b ∷ x)) == 0) ≡ false
filled b x = elim (cases_Bool (list_any (needs_byte default_writer) (b ∷ x))) [
  | inl needs ↦ rw needs (ne_eqb (suc (length (escaped default_writer (b ∷ x) ++ (34 ∷ [])))) 0 (λ z. cc z))
  | inr plain ↦ rw plain (ne_eqb (suc (length x)) 0 (λ z. cc z))
]

no_fields : (tail : List ℕ) → misquotes st.StartRecord (row_text default_writer [] ++ tail) ≡ misquotes st.StartRecord tail
unfolding is_blank is_misquoted_from
no_fields tail = refl

one_empty : (tail : List ℕ) → misquotes st.StartRecord (row_text default_writer ([] ∷ []) ++ tail) ≡ misquotes st.StartRecord tail
unfolding is_blank is_misquoted_from fields_text
one_empty tail = refl

row_passed : (row : List (List ℕ)) (tail : List ℕ) → misquotes st.StartRecord (row_text default_writer row ++ tail) ≡ misquotes st.StartRecord tail
unfolding is_blank
row_passed [] tail = no_fields tail
row_passed ([] ∷ []) tail = one_empty tail
row_passed ((b ∷ x) ∷ []) tail =
    ap (misquotes st.StartRecord) (row_is (b ∷ x) [] tail (filled b x)) ∙ field_starts b x (10 ∷ tail) ∙ field_run (b ∷ x) [] tail ∙ rest_run [] tail
row_passed ([] ∷ y ∷ ys) tail =
    let rest : List (List ℕ) = y ∷ ys in
    ap (misquotes st.StartRecord) (row_is [] rest tail refl) ∙ row_start 44 (after_mark rest tail) refl refl ∙ empty_field rest (after_mark rest tail) ∙ rest_run rest tail
row_passed ((b ∷ x) ∷ y ∷ ys) tail =
    let rest : List (List ℕ) = y ∷ ys in
    ap (misquotes st.StartRecord) (row_is (b ∷ x) rest tail refl) ∙ field_starts b x (44 ∷ after_mark rest tail) ∙ field_run (b ∷ x) rest (after_mark rest tail) ∙ rest_run rest tail

-- ---- all rows

nothing_left : misquotes st.StartRecord [] ≡ false
unfolding is_misquoted_from
nothing_left = refl

pub written_right : (rows : List (List (List ℕ))) → is_misquoted_from true default_config st.StartRecord (flat_map (row_text default_writer) rows) ≡ false
written_right [] = nothing_left
written_right (row ∷ rows) = row_passed row (flat_map (row_text default_writer) rows) ∙ written_right rows
