-- The lines of a text that is spelled line by line.
use Rattle.std.proofs.Common.{◌≡◌, ℕ, Bool, true, false, cond, eqb, not, ◌&&◌, ◌||◌, List, [], ◌∷◌, ◌++◌, map, refl, ap, ◌∙◌, append_assoc}
use Rattle.std.specs.Prelude.{codes, Option, Some, None, IfSome}
use Rattle.std.specs.List.{AllByRecursion, list_all, onto_first, flat_map}
use Rattle.std.specs.Fmt.{decimal}
use Rattle.std.proofs.lemmas.List.Concat.{flat_map-cons}
use Rattle.a429_cert.specs.Spelling.{Heading, Listing, Bounding, is_break, IsShort, IsShortLimit, version_text, rate_text, rate_before, limit_text, hold_before, group_text, output_text, bound_text, FitsHeading, FitsListing, FitsBounding}
use Rattle.a429_cert.specs.Lines.{lines_of}
use Rattle.a429_cert.specs.Checked.{Stated, stated_text}
use Rattle.a429_cert.proofs.Fields.{decimal_word}
use Rattle.a429_cert.proofs.Again.{FitsStated}

-- it is the first line, before any others
abbrev pub IsLineText : List ℕ → Type 0
IsLineText line = (rest : List ℕ) → lines_of (line ++ rest) ≡ line ∷ lines_of rest

line_end : IsLineText (codes "\n")
line_end rest = refl

onto_line : (t : Bool) (b : ℕ) (l rest : List ℕ) (lines : List (List ℕ)) → not t ≡ true → lines ≡ l ∷ lines_of rest → cond t ((b ∷ []) ∷ lines) (onto_first b lines) ≡ (b ∷ l) ∷ lines_of rest
onto_line true b l rest lines t e = absurd cc
onto_line false b l rest lines t e = rw e refl

both : (a b : Bool) → (a && b) ≡ true → (a ≡ true) × (b ≡ true)
both true b e = (refl, e)
both false b e = absurd cc

-- no line feed among them
abbrev no_feed : List ℕ → Bool
no_feed w = list_all (λ b. not (eqb b 10)) w

line_word : (w l : List ℕ) → no_feed w ≡ true → IsLineText l → IsLineText (w ++ l)
line_word [] l h is rest = is rest
line_word (b ∷ bs) l h is rest =
    let p = both _ _ h in
    onto_line (eqb b 10) b (bs ++ l) rest (lines_of ((bs ++ l) ++ rest)) p.0 (line_word bs l p.1 is rest)

no_break : (a b : Bool) → (a || b) ≡ false → not b ≡ true
no_break a true e = elim a as (λ (x : Bool). (x || true) ≡ false → not true ≡ true) [ true ↦ λ h. absurd (let k : true ≡ false = h in cc) | false ↦ λ h. absurd (let k : true ≡ false = h in cc) ] e
no_break a false e = refl

word_feed : (w : List ℕ) → AllByRecursion (λ b. is_break b ≡ false) w → no_feed w ≡ true
word_feed [] h = refl
word_feed (b ∷ bs) h = rw (no_break (eqb b 32) (eqb b 10) h.0, word_feed bs h.1) refl

number_feed : (n : ℕ) → IsShort n → no_feed (decimal n) ≡ true
number_feed n h = word_feed (decimal n) (decimal_word n h).unbroken

pub version_is_line : (version : ℕ) → IsShort version → IsLineText (version_text version)
version_is_line version short = line_word (codes "plan ") _ refl (line_word (decimal version) _ (number_feed version short) line_end)

pub rate_is_line : (rate : ℕ) → IsShort rate → IsLineText (rate_text rate)
rate_is_line rate short = line_word (codes "rate ") _ refl (line_word (decimal rate) _ (number_feed rate short) line_end)

line_rate : (said : Option ℕ) (l : List ℕ) → IfSome said IsShort → IsLineText l → IsLineText (rate_before said l)
line_rate None l h is = is
line_rate (Some rate) l h is = line_word (codes " rate ") _ refl (line_word (decimal rate) _ (number_feed rate h) is)

limit_feed : (limit : Option ℕ) → IsShortLimit limit → no_feed (limit_text limit) ≡ true
limit_feed None h = refl
limit_feed (Some limit) h = number_feed limit h

line_hold : (said : Option (Option ℕ)) (l : List ℕ) → IfSome said IsShortLimit → IsLineText l → IsLineText (hold_before said l)
line_hold None l h is = is
line_hold (Some hold) l h is = line_word (codes " hold ") _ refl (line_word (limit_text hold) _ (limit_feed hold h) is)

pub group_is_line : (version : ℕ) (h : Heading) → FitsHeading version h → IsLineText (group_text h)
group_is_line version h f =
    line_word (codes "group ") _ refl (line_word h.name _ (word_feed h.name f.name.unbroken) (line_rate h.rate _ f.rate.holds
    (line_word (codes " frame ") _ refl (line_word (decimal h.frame) _ (number_feed h.frame f.frame)
    (line_word (codes " buses ") _ refl (line_word (decimal h.buses) _ (number_feed h.buses f.buses) line_end))))))

pub output_is_line : (version : ℕ) (l : Listing) → FitsListing version l → IsLineText (output_text l)
output_is_line version l f =
    line_word (codes "output ") _ refl (line_word l.source _ (word_feed l.source f.source.unbroken) (line_word (codes " period ") _ refl (line_word (decimal l.period) _ (number_feed l.period f.period)
    (line_word (codes " bus ") _ refl (line_word (decimal l.bus) _ (number_feed l.bus f.bus) (line_word (codes " offset ") _ refl (line_word (decimal l.offset) _ (number_feed l.offset f.offset) (line_hold l.hold _ f.hold.holds line_end))))))))

pub bound_is_line : (b : Bounding) → FitsBounding b → IsLineText (bound_text b)
bound_is_line b f =
    line_word (codes "bound ") _ refl (line_word (decimal b.demand) _ (number_feed b.demand f.demand) (line_word (codes " > ") _ refl (line_word (decimal b.full_buses) _ (number_feed b.full_buses f.full_buses)
    (line_word (codes " * ") _ refl (line_word (decimal b.frame) _ (number_feed b.frame f.frame) line_end)))))

outputs_lines : (version : ℕ) (ls : List Listing) (rest : List ℕ) → AllByRecursion (FitsListing version) ls → lines_of (flat_map output_text ls ++ rest) ≡ map output_text ls ++ lines_of rest
outputs_lines version [] rest f = refl
outputs_lines version (l ∷ ls) rest f =
    ap lines_of (ap (λ (x : List ℕ). x ++ rest) (flat_map-cons output_text l ls) ∙ append_assoc (output_text l) (flat_map output_text ls) rest) ∙ (output_is_line version l f.0 (flat_map output_text ls ++ rest) ∙ ap (λ (x : List (List ℕ)). output_text l ∷ x) (outputs_lines version ls rest f.1))

pub group_lines : (version : ℕ) (s : Stated) (rest : List ℕ) → FitsStated version s → lines_of (stated_text s ++ rest) ≡ group_text s.heading ∷ (map output_text s.outputs ++ bound_text s.bound ∷ lines_of rest)
group_lines version s rest f =
    ap lines_of (append_assoc (group_text s.heading) (flat_map output_text s.outputs ++ bound_text s.bound) rest ∙ ap (λ (x : List ℕ). group_text s.heading ++ x) (append_assoc (flat_map output_text s.outputs) (bound_text s.bound) rest))
    ∙ group_is_line version s.heading f.heading (flat_map output_text s.outputs ++ (bound_text s.bound ++ rest))
    ∙ ap (λ (x : List (List ℕ)). group_text s.heading ∷ x) (outputs_lines version s.outputs (bound_text s.bound ++ rest) f.outputs ∙ ap (λ (x : List (List ℕ)). map output_text s.outputs ++ x) (bound_is_line s.bound f.bound rest))
