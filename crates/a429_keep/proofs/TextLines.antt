-- The lines of a text, and how they are read one by one.
use Rattle.std.proofs.Common.{Bool, true, false, cond, eqb, ◌≡◌, ◌≢◌, ◌∙◌, ℕ, List, [], ◌∷◌, ap, drop, length, refl, sym}
use Rattle.std.specs.Prelude.{Result, Ok, Err}
use Rattle.std.specs.List.{onto_first}
use Rattle.a429_cert.specs.Lines.{line_at, lines_of}
use Rattle.a429_equipment.specs.TableRecord.{TableRecord}
use Rattle.a429_keep.specs.declared.fault.KeepFault.{KeepFault}
use Rattle.a429_keep.specs.declared.fault.KeepReason.{KeepReason}
use Rattle.a429_keep.specs.declared.fault.LineStop.{LineStop}
use Rattle.a429_keep.specs.declared.fault.LineStop.TheVariants as stops
use Rattle.a429_keep.specs.declared.reading.TextForm.{TextForm}
use Rattle.a429_keep.specs.Readings.{IsReadFault, Read, TakesLine, after_line, fault_at, go_on, number_after, refused, rows_in}
use Rattle.a429_keep.specs.Rows.{Listed}

cons_more : (t : Bool) (b : ℕ) (lines : List (List ℕ))
    → cond t ((b ∷ []) ∷ lines) (onto_first b lines) ≡ line_at (cond t ((b ∷ []) ∷ lines) (onto_first b lines)) 0 ∷ drop 1 (cond t ((b ∷ []) ∷ lines) (onto_first b lines))
cons_more true b lines = refl
cons_more false b [] = refl
cons_more false b (line ∷ lines) = refl

pub lines_cons : (text : List ℕ) → length text ≢ 0 → lines_of text ≡ line_at (lines_of text) 0 ∷ drop 1 (lines_of text)
lines_cons [] some = absurd (some refl)
lines_cons (b ∷ bs) some = cons_more (eqb b 10) b (lines_of bs)

pub lines_none : (text : List ℕ) → length text ≡ 0 → lines_of text ≡ []
lines_none [] none = refl
lines_none (b ∷ bs) none = absurd cc

module _ (e : TableRecord) (f : TextForm) (number : ℕ) (r : Read) where
  pub rows_end : (lines : List (List ℕ)) → lines ≡ [] → rows_in e f number r lines ≡ Ok r.rows
  unfolding rows_in
  rows_end lines none = ap (rows_in e f number r) none

  pub rows_more : (lines rest : List (List ℕ)) (line : List ℕ) (next : Read) → lines ≡ line ∷ rest → after_line e f r line ≡ Ok next
      → rows_in e f number r lines ≡ rows_in e f (number_after number) next rest
  unfolding rows_in
  rows_more lines rest line next whole taken =
      ap (rows_in e f number r) whole ∙ ap (go_on f number (λ (n : Read). rows_in e f (number_after number) n rest)) taken

  pub rows_refused : (lines rest : List (List ℕ)) (line : List ℕ) (reason : KeepReason) → lines ≡ line ∷ rest → after_line e f r line ≡ Err reason
      → rows_in e f number r lines ≡ refused f number reason
  unfolding rows_in
  rows_refused lines rest line reason whole taken =
      ap (rows_in e f number r) whole ∙ ap (go_on f number (λ (n : Read). rows_in e f (number_after number) n rest)) taken

  pub read_stops : (lines rest : List (List ℕ)) (line : List ℕ) (new : Read) (stop : LineStop) (due : Result (List Listed) KeepFault) → lines ≡ line ∷ rest
      → TakesLine (after_line e f r line) new (Err stop) → rows_in e f number r lines ≡ due → IsReadFault due (fault_at f number stop)
  read_stops lines rest line new (stops.Refused reason) due whole taken so = sym so ∙ rows_refused lines rest line reason whole taken
  read_stops lines rest line new stops.Memory due whole taken so = tt
