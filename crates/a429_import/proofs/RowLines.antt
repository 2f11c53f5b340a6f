-- On which line of a file a row begins.
use mir.Val.{bool_byte}
use Rattle.std.proofs.Common.{◌≡◌, ◌∙◌, ◌+◌, ◌-◌, ◌<◌, ◌≤◌, ℕ, zero, suc, Bool, true, false, cond, List, [], ◌∷◌, ◌++◌, Option, None, Some, ap, arith, drop, get_or, inl, inr, length, not, refl, subst, sym, take}
use Rattle.std.specs.Prelude.{◌==◌, ◌&&◌, ◌||◌}
use Rattle.std.specs.List.{find}
use Rattle.std.specs.Option.{option_map, option_map_or, option_or}
use Rattle.std.proofs.lemmas.Bool.{cases_lt}
use Rattle.std.proofs.lemmas.List.{drop_all, drop_more, length-drop}
use Rattle.std.proofs.lemmas.Option.{none-some, same_Some}
use Rattle.csv.specs.Machine.{Read, ends_at_end, field_after, fields_after, in_field, is_end, next_record, start_field, start_record, step}
use Rattle.csv.specs.Reading.{Reached}
use Rattle.csv.specs.declared.parser.Config.{Config}
use Rattle.csv.specs.declared.parser.Action.{Action}
use Rattle.csv.specs.declared.parser.Action.TheVariants as act
use Rattle.csv.specs.declared.parser.State.{State}
use Rattle.csv.specs.declared.parser.State.TheVariants as st
use Rattle.a429_text.specs.CutText.{without_byte_order_mark}
use Rattle.a429_import.specs.declared.lines.LineCount.{LineCount}
use Rattle.a429_import.specs.declared.lines.Part.{Part}
use Rattle.a429_import.specs.declared.lines.Part.TheVariants as part
use Rattle.a429_import.specs.ImportForms.{count_before, ends_line, from_heading, from_line, heading_among, heading_of, is_heading, later_lines, quoted_len, separators}
use Rattle.a429_import.specs.ImportSteps.{state_of}
use Rattle.a429_import.specs.Imports.{separated}
use Rattle.a429_import.specs.LineCounts.{HasCounted, IsEnd, after_return, begins_with_end, is_between, row_end}
use Rattle.a429_import.specs.RowLines.{and_next, ends_from, ends_here, from_row, line_of, lines_from}

-- ---- line ends

pub ends_more : (a : Bool) (text : List ℕ) (i : ℕ) → i < length text
    → ends_from a (take (suc i) text) ≡ ends_from a (take i text) + cond (ends_here (after_return a (take i text)) (get_or text i 0)) 1 0
unfolding ends_from after_return
ends_more a [] i below = absurd (omega (arith, below))
ends_more a (b ∷ text) zero below = omega arith
ends_more a (b ∷ text) (suc i) below =
    let more = ends_more (b == 13) text i (omega (arith, below)) in
    omega (arith, more)

pub after_more : (a : Bool) (text : List ℕ) (i : ℕ) → i < length text → after_return a (take (suc i) text) ≡ (get_or text i 0 == 13)
unfolding after_return
after_more a [] i below = absurd (omega (arith, below))
after_more a (b ∷ text) zero below = refl
after_more a (b ∷ text) (suc i) below = after_more (b == 13) text i (omega (arith, below))

-- the place in a row makes no difference
pub part_passed : (text : List ℕ) (count : LineCount) (part : Part) → HasCounted text count → HasCounted text (record count { part = part })
part_passed text count part counted = record { within = counted.within; ended = counted.ended; after = counted.after; few = counted.few }

-- ---- line ends before a row

pub begins_within : (text : List ℕ) (i : ℕ) → begins_with_end (drop i text) ≡ true → i < length text
begins_within [] zero is = cc is
begins_within [] (suc i) is = cc is
begins_within (b ∷ text) zero is = omega arith
begins_within (b ∷ text) (suc i) is = let less = begins_within text i is in omega (arith, less)

from_here : (bytes : List ℕ) → begins_with_end bytes ≡ false → from_row bytes ≡ bytes
unfolding from_row
from_here [] is = refl
from_here (b ∷ bytes) is = ap (λ (t : Bool). cond t (from_row bytes) (b ∷ bytes)) is

pub row_here : (bytes : List ℕ) → begins_with_end bytes ≡ false → bytes ≡ from_row bytes
row_here bytes is = sym (from_here bytes is)

-- one line end is passed
from_next : (b : ℕ) (bytes : List ℕ) → ends_line b ≡ true → from_row (b ∷ bytes) ≡ from_row bytes
unfolding from_row
from_next b bytes is = ap (λ (t : Bool). cond t (from_row bytes) (b ∷ bytes)) is

pub end_passed : (text : List ℕ) (i : ℕ) → begins_with_end (drop i text) ≡ true → from_row (drop i text) ≡ from_row (drop (i + 1) text)
end_passed text i is =
    let at : drop i text ≡ get_or text i 0 ∷ drop (i + 1) text = drop_more text i 0 (begins_within text i is) in
    let own : ends_line (get_or text i 0) ≡ true = sym (ap begins_with_end at) ∙ is in
    ap from_row at ∙ from_next (get_or text i 0) (drop (i + 1) text) own

-- ---- the state after a row

crlf : (b : ℕ) → ends_line b ≡ true → ((b == 13) || (b == 10)) ≡ true
crlf b is = swapped (b == 10) (b == 13) is
  where
    swapped : (s t : Bool) → (s || t) ≡ true → (t || s) ≡ true
    swapped true true is = refl
    swapped true false is = refl
    swapped false true is = refl
    swapped false false is = is

-- before a row a line end does nothing
starts : (separator b : ℕ) → ends_line b ≡ true → start_record (separated separator) b ≡ (st.StartRecord, act.Skip)
starts separator b is = ap (λ (t : Bool). cond t (st.StartRecord, act.Skip) (start_field (separated separator) b)) (crlf b is)

either : (t : Bool) (p q : State × Action) → p ≡ q → cond t q p ≡ q
either true p q same = refl
either false p q same = same

passes_end : (separator : ℕ) (s : State) (b : ℕ) → is_between s ≡ true → ends_line b ≡ true → step (separated separator) s b ≡ (st.StartRecord, act.Skip)
passes_end separator st.StartRecord b between is = starts separator b is
passes_end separator st.AfterCr b between is = either (b == 10) (start_record (separated separator) b) (st.StartRecord, act.Skip) (starts separator b is)
passes_end separator st.StartField b between is = cc between
passes_end separator st.InField b between is = cc between
passes_end separator st.InQuoted b between is = cc between
passes_end separator st.AfterQuote b between is = cc between
passes_end separator st.InEscape b between is = cc between
passes_end separator st.InComment b between is = cc between

row_step : (cfg : Config) (s : State) (b : ℕ) (bytes : List ℕ) → row_end cfg s (b ∷ bytes) ≡ cond (is_end (step cfg s b).1) ((step cfg s b).0, bytes) (row_end cfg (step cfg s b).0 bytes)
unfolding row_end
row_step cfg s b bytes = refl

pub ends_passed : (separator : ℕ) (s : State) (text : List ℕ) (i : ℕ) → is_between s ≡ true → begins_with_end (drop i text) ≡ true
    → row_end (separated separator) s (drop i text) ≡ row_end (separated separator) st.StartRecord (drop (i + 1) text)
ends_passed separator s text i between is =
    let b : ℕ = get_or text i 0 in
    let rest : List ℕ = drop (i + 1) text in
    let at : drop i text ≡ b ∷ rest = drop_more text i 0 (begins_within text i is) in
    let own : ends_line b ≡ true = sym (ap begins_with_end at) ∙ is in
    ap (row_end (separated separator) s) at ∙ row_step (separated separator) s b rest
    ∙ ap (λ (p : State × Action). cond (is_end p.1) (p.0, rest) (row_end (separated separator) p.0 rest)) (passes_end separator s b between own)

-- one more byte of a row
pub row_ends : (separator : ℕ) (s : State) (text : List ℕ) (i : ℕ) → i < length text → is_end (step (separated separator) s (get_or text i 0)).1 ≡ true
    → row_end (separated separator) s (drop i text) ≡ ((step (separated separator) s (get_or text i 0)).0, drop (i + 1) text)
row_ends separator s text i below is =
    let b : ℕ = get_or text i 0 in
    let rest : List ℕ = drop (i + 1) text in
    ap (row_end (separated separator) s) (drop_more text i 0 below) ∙ row_step (separated separator) s b rest
    ∙ ap (λ (t : Bool). cond t ((step (separated separator) s b).0, rest) (row_end (separated separator) (step (separated separator) s b).0 rest)) is

pub row_goes_on : (separator : ℕ) (s : State) (text : List ℕ) (i : ℕ) → i < length text → is_end (step (separated separator) s (get_or text i 0)).1 ≡ false
    → row_end (separated separator) s (drop i text) ≡ row_end (separated separator) (step (separated separator) s (get_or text i 0)).0 (drop (i + 1) text)
row_goes_on separator s text i below is =
    let b : ℕ = get_or text i 0 in
    let rest : List ℕ = drop (i + 1) text in
    ap (row_end (separated separator) s) (drop_more text i 0 below) ∙ row_step (separated separator) s b rest
    ∙ ap (λ (t : Bool). cond t ((step (separated separator) s b).0, rest) (row_end (separated separator) (step (separated separator) s b).0 rest)) is

pub row_at_end : (separator : ℕ) (s : State) (text : List ℕ) (i : ℕ) → length text ≤ i → row_end (separated separator) s (drop i text) ≡ (st.StartRecord, drop i text)
unfolding row_end
row_at_end separator s text i past =
    let none : drop i text ≡ [] = drop_all i text past in
    rw none refl

-- outside line ends before a row, a byte ends a row exactly if no byte of the next one was passed then
abbrev field_step : Bool → Bool → Bool → State × Action
field_step x y z = cond x (st.StartField, act.EndField) (cond (y || z) (cond y st.AfterCr st.StartRecord, act.EndRecord) (st.InField, act.Copy))

field_ends : (separator b : ℕ) → is_end (in_field (separated separator) b).1 ≡ is_between (in_field (separated separator) b).0
field_ends separator b = by (b == separator) (b == 13) (b == 10)
  where
    by : (x y z : Bool) → is_end (field_step x y z).1 ≡ is_between (field_step x y z).0
    by true y z = refl
    by false true z = refl
    by false false true = refl
    by false false false = refl

or_field : (t : Bool) (p q : State × Action) → is_end p.1 ≡ is_between p.0 → is_end q.1 ≡ is_between q.0 → is_end (cond t p q).1 ≡ is_between (cond t p q).0
or_field true p q first second = first
or_field false p q first second = second

first_ends : (separator b : ℕ) → is_end (start_field (separated separator) b).1 ≡ is_between (start_field (separated separator) b).0
first_ends separator b = or_field (b == 34) (st.InQuoted, act.Skip) (in_field (separated separator) b) refl (field_ends separator b)

no_crlf : (b : ℕ) → ends_line b ≡ false → ((b == 13) || (b == 10)) ≡ false
no_crlf b is = swapped (b == 10) (b == 13) is
  where
    swapped : (s t : Bool) → (s || t) ≡ false → (t || s) ≡ false
    swapped true true is = is
    swapped true false is = is
    swapped false true is = is
    swapped false false is = refl

no_feed : (b : ℕ) → ends_line b ≡ false → (b == 10) ≡ false
no_feed b is = first (b == 10) (b == 13) is
  where
    first : (s t : Bool) → (s || t) ≡ false → s ≡ false
    first true t is = is
    first false t is = refl

row_starts : (separator b : ℕ) → ends_line b ≡ false → is_end (start_record (separated separator) b).1 ≡ is_between (start_record (separated separator) b).0
row_starts separator b is =
    let q = start_field (separated separator) b in
    ap (λ (t : Bool). is_end (cond t (st.StartRecord, act.Skip) q).1) (no_crlf b is) ∙ first_ends separator b
    ∙ sym (ap (λ (t : Bool). is_between (cond t (st.StartRecord, act.Skip) q).0) (no_crlf b is))

pub row_ended : (separator : ℕ) (at : Part) (b : ℕ) → (is_between (state_of at) && ends_line b) ≡ false
    → is_end (step (separated separator) (state_of at) b).1 ≡ is_between (step (separated separator) (state_of at) b).0
row_ended separator part.Row b none = row_starts separator b none
row_ended separator part.Return b none =
    let q = start_record (separated separator) b in
    ap (λ (t : Bool). is_end (cond t (st.StartRecord, act.Skip) q).1) (no_feed b none) ∙ row_starts separator b none
    ∙ sym (ap (λ (t : Bool). is_between (cond t (st.StartRecord, act.Skip) q).0) (no_feed b none))
row_ended separator part.Field b none = first_ends separator b
row_ended separator part.Text b none = field_ends separator b
row_ended separator part.Quoted b none = or_field (b == 34) (st.AfterQuote, act.Skip) (st.InQuoted, act.Copy) refl refl
row_ended separator part.Quote b none = or_field (b == 34) (st.InQuoted, act.Copy) (in_field (separated separator) b) refl (field_ends separator b)

pub not_begun : (b : Bool) {t : Bool} → t ≡ false → (b && t) ≡ false
not_begun true is = is
not_begun false is = refl

-- the same for a byte of a text
pub row_ended_at : (separator : ℕ) (at : Part) (text : List ℕ) (i : ℕ) → i < length text → (is_between (state_of at) && begins_with_end (drop i text)) ≡ false
    → is_end (step (separated separator) (state_of at) (get_or text i 0)).1 ≡ is_between (step (separated separator) (state_of at) (get_or text i 0)).0
row_ended_at separator at text i below none =
    row_ended separator at (get_or text i 0) (ap (λ (bytes : List ℕ). is_between (state_of at) && begins_with_end bytes) (sym (drop_more text i 0 below)) ∙ none)

-- ---- the record that is read

at_end : (t : Bool) (r p : Read) → cond t (Some r) None ≡ Some p → ◌≡◌ {A = State × List ℕ} (r.1, r.2) (p.1, p.2)
at_end true r p found = ap (λ (q : Read). (q.1, q.2)) (same_Some _ _ found)
at_end false r p found = absurd (none-some p found)

or_later : (t : Bool) (r p : Read) (more : Option Read) (later : State × List ℕ) → (more ≡ Some p → later ≡ (p.1, p.2)) → cond t (Some r) more ≡ Some p → ◌≡◌ {A = State × List ℕ} (cond t (r.1, r.2) later) (p.1, p.2)
or_later true r p more later same found = ap (λ (q : Read). (q.1, q.2)) (same_Some _ _ found)
or_later false r p more later same found = same found

pub row_is : (cfg : Config) (xs : List ℕ) (s : State) (fields : List (List ℕ)) (field : List ℕ) (p : Read) → next_record cfg s fields field xs ≡ Some p → row_end cfg s xs ≡ (p.1, p.2)
unfolding next_record row_end
row_is cfg [] s fields field p found = at_end (ends_at_end s) (fields ++ field ∷ [], st.StartRecord, []) p found
row_is cfg (c ∷ rest) s fields field p found =
    let next : State = (step cfg s c).0 in
    let after : List (List ℕ) = fields_after (step cfg s c).1 fields field in
    let own : List ℕ = field_after (step cfg s c).1 c field in
    or_later (is_end (step cfg s c).1) (after, next, rest) p (next_record cfg next after own rest) (row_end cfg next rest) (λ more. row_is cfg rest next after own p more) found

-- ---- the lines of rows

-- the last of some rows
pub record LastRow (cfg : Config) (s : State) (ys : List ℕ) (s2 : State) (zs : List ℕ) : Type 0 where
  pub read : Read
  pub found : next_record cfg s [] [] ys ≡ Some read
  pub state : read.1 ≡ s2
  pub rest : read.2 ≡ zs

pub last_row : (cfg : Config) (rows : List (List (List ℕ))) (row : List (List ℕ)) (s0 s s2 : State) (xs ys zs : List ℕ) → Reached cfg s0 xs rows s ys → Reached cfg s0 xs (rows ++ row ∷ []) s2 zs → LastRow cfg s ys s2 zs
unfolding Reached
last_row cfg [] row s0 s s2 xs ys zs reached more =
    record {
      read = more.0;
      found = rw (sym reached.0, sym reached.1) more.1;
      state = more.3.0;
      rest = more.3.1;
    }
last_row cfg (r ∷ rows) row s0 s s2 xs ys zs reached more =
    let same : reached.0 ≡ more.0 = same_Some _ _ (sym reached.1 ∙ more.1) in
    last_row cfg rows row reached.0.1 s s2 reached.0.2 ys zs reached.3 (subst (λ (p : Read). Reached cfg p.1 p.2 (rows ++ row ∷ []) s2 zs) (sym same) more.3)

pub lines_more : (cfg : Config) (text : List ℕ) (rows : List (List (List ℕ))) (s0 s : State) (xs ys : List ℕ) (p : Read) → Reached cfg s0 xs rows s ys → next_record cfg s [] [] ys ≡ Some p
    → lines_from cfg text (suc (length rows)) s0 xs ≡ lines_from cfg text (length rows) s0 xs ++ line_of text (from_row ys) ∷ []
unfolding Reached lines_from
lines_more cfg text [] s0 s xs ys p reached found =
    let here : next_record cfg s0 [] [] xs ≡ Some p = rw (reached.0, reached.1) found in
    ap (and_next (line_of text (from_row xs)) (lines_from cfg text 0)) here ∙ ap (λ (zs : List ℕ). line_of text (from_row zs) ∷ []) reached.1
lines_more cfg text (r ∷ rows) s0 s xs ys p reached found =
    let line : ℕ = line_of text (from_row xs) in
    ap (and_next line (lines_from cfg text (suc (length rows)))) reached.1
    ∙ ap (λ (ls : List ℕ). line ∷ ls) (lines_more cfg text rows reached.0.1 s reached.0.2 ys p reached.3 found)
    ∙ sym (ap (λ (o : Option Read). and_next line (lines_from cfg text (length rows)) o ++ line_of text (from_row ys) ∷ []) reached.1)

-- ---- the end of a text

drop_nothing : (m : ℕ) → ◌≡◌ {A = List ℕ} (drop m []) []
drop_nothing zero = refl
drop_nothing (suc m) = refl

pub drop_drop : (n k : ℕ) (text : List ℕ) → drop n (drop k text) ≡ drop (k + n) text
drop_drop n zero text = ap (λ (m : ℕ). drop m text) (omega arith)
drop_drop n (suc k) [] = drop_nothing n ∙ sym (drop_nothing (suc k + n))
drop_drop n (suc k) (b ∷ text) =
    let sum : suc (k + n) ≡ suc k + n = omega arith in
    drop_drop n k text ∙ ap (λ (m : ℕ). drop m (b ∷ text)) sum

pub end_of_end : (n : ℕ) (text end : List ℕ) → IsEnd text end → IsEnd text (drop n end)
end_of_end n text end is = (is.0 + n, ap (drop n) is.1 ∙ drop_drop n is.0 text)

pub end_of : (text end more : List ℕ) → IsEnd text end → IsEnd end more → IsEnd text more
end_of text end more is own = (is.0 + own.0, own.1 ∙ ap (drop own.0) is.1 ∙ drop_drop own.0 is.0 text)

pub whole_end : (text : List ℕ) → IsEnd text text
whole_end text = (0, refl)

pub mark_end : (text : List ℕ) → IsEnd text (without_byte_order_mark text)
mark_end [] = (0, refl)
mark_end (a ∷ []) = (0, refl)
mark_end (a ∷ b ∷ []) = (0, refl)
mark_end (a ∷ b ∷ c ∷ text) = by (a == 239 && (b == 187 && c == 191))
  where
    by : (t : Bool) → IsEnd (a ∷ b ∷ c ∷ text) (cond t text (a ∷ b ∷ c ∷ text))
    by true = (3, refl)
    by false = (0, refl)

-- an end begins at the place that its length says
pub end_place : (text end : List ℕ) → IsEnd text end → drop (length text - length end) text ≡ end
end_place text end is =
    let long : length end ≡ length text - is.0 = ap length is.1 ∙ length-drop is.0 text in
    elim (cases_lt is.0 (length text)) [
      | inl within ↦
          let place : length text - length end ≡ is.0 = omega (arith, long, within) in
          ap (λ (n : ℕ). drop n text) place ∙ sym is.1
      | inr past ↦
          let place : length text - length end ≡ length text = omega (arith, long, past) in
          ap (λ (n : ℕ). drop n text) place ∙ drop_all (length text) text (omega arith) ∙ sym (is.1 ∙ drop_all is.0 text past)
    ]

-- a line begins after what comes before it
pub later_end : (text end : List ℕ) → IsEnd text end → IsEnd text (later_lines end)
later_end text end is =
    let line : List ℕ = drop (quoted_len end) end in
    let rest : List ℕ = drop (count_before ends_line line) line in
    end_of_end (count_before (λ b. not (ends_line b)) rest) text rest (end_of_end (count_before ends_line line) text line (end_of_end (quoted_len end) text end is))

here_or_later : (text end : List ℕ) (found : ℕ × List ℕ) (o : Option ℕ) (later : Option (ℕ × List ℕ)) → IsEnd text end → (later ≡ Some found → IsEnd text found.1)
    → option_or (option_map (λ separator. (separator, end)) o) later ≡ Some found → IsEnd text found.1
here_or_later text end found None later is rest there = rest there
here_or_later text end found (Some separator) later is rest there = subst (λ (f : ℕ × List ℕ). IsEnd text f.1) (same_Some (separator, end) found there) is

heading_end : (maps : List (List ℕ)) (lines : ℕ) (text end : List ℕ) (found : ℕ × List ℕ) → IsEnd text end → heading_among maps lines end ≡ Some found → IsEnd text found.1
unfolding heading_among
heading_end maps zero text end found is there = absurd (none-some found there)
heading_end maps (suc lines) text end found is there =
    here_or_later text end found (find (is_heading maps end) separators) (heading_among maps lines (later_lines end)) is (heading_end maps lines text (later_lines end) found (later_end text end is)) there

pub from_heading_end : (maps : List (List ℕ)) (text : List ℕ) → IsEnd text (from_heading maps text)
from_heading_end maps text = by (heading_of maps text) refl
  where
    by : (o : Option (ℕ × List ℕ)) → heading_of maps text ≡ o → IsEnd text (option_map_or (λ h. h.1) o text)
    by None there = whole_end text
    by (Some found) there =
        let line : List ℕ = without_byte_order_mark text in
        heading_end maps 11 text (from_line line) found (end_of_end (count_before (λ b. not (ends_line b)) line) text line (mark_end text)) there

pub one_is : (b : Bool) → bool_byte b ≡ cond b 1 0
one_is true = refl
one_is false = refl
