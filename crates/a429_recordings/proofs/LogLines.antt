-- Logs that are read one after another: their items.
use Rattle.std.proofs.Common.{◌≡◌, ◌∙◌, ◌+◌, ◌<◌, ℕ, inl, inr, List, [], ◌∷◌, ◌++◌, length, refl, sym, ap, subst, append-nil, append_assoc, drop, Vec, Global}
use Rattle.std.specs.Prelude.{Option, Some, None, Result, Ok, Err, option_map, slice_index_or}
use Rattle.std.proofs.lemmas.List.{drop_more}
use Rattle.a429_logs.specs.LogRows.{Stated}
use Rattle.a429_logs.specs.Logs.{WordAt, and_then, joined, log_entries, reading_after, series_entries}
use Rattle.a429_logs.specs.declared.reader.LogFault.{LogFault}
use Rattle.a429_logs.specs.declared.reading.Reading.{Reading}
use Rattle.a429_console.specs.Files.{bytes_of, logs_of}
use Rattle.a429_console.specs.Lines.{entries_before}
use Rattle.a429_console.specs.RefusalText.{OrMemory}
use Rattle.a429_console.specs.declared.refusals.CommandRefusal.{CommandRefusal}
use Rattle.a429_console.specs.declared.refusals.CommandRefusal.TheVariants as refused
use Rattle.a429_console.proofs.EntryLines.{entries_before-nil}
use Rattle.a429_recordings.specs.LogItems.{AreKept, IsItemFault, IsKept, Refuses, RefusesLog, items_from, items_of, items_then}
use Rattle.a429_recordings.specs.LogViews.{items_by, one_item}
use Rattle.a429_recordings.specs.declared.logs.keeping.KeepFault.{KeepFault}
use Rattle.a429_recordings.specs.declared.logs.keeping.KeepFault.TheVariants as fault

module _ {A : Type 0} (item : Stated → Option (List A)) where
  entries_more : (done xs : List A) (r : Result (List A) ℕ) → entries_before done (entries_before xs r) ≡ entries_before (done ++ xs) r
  entries_more done xs (Ok later) = ap Ok (sym (append_assoc done xs later))
  entries_more done xs (Err n) = refl

  -- the items of one word more
  pub kept_more : (all : Result (List A) ℕ) (done new : List A) (w : WordAt) (later : List (Result WordAt LogFault))
      → all ≡ entries_before done (items_from item (Ok w ∷ later)) → (xs : List A) × (item w.word ≡ Some xs) × (new ≡ done ++ xs)
      → all ≡ entries_before new (items_from item later)
  kept_more all done new w later before (xs, is, added) =
      before
      ∙ ap (λ (o : Option (List A)). entries_before done (items_then w.line o (items_from item later))) is
      ∙ entries_more done xs (items_from item later)
      ∙ ap (λ (l : List A). entries_before l (items_from item later)) (sym added)

  -- a word that is refused
  kept_none : (all : Result (List A) ℕ) (done : List A) (w : WordAt) (later : List (Result WordAt LogFault))
      → all ≡ entries_before done (items_from item (Ok w ∷ later)) → item w.word ≡ None → all ≡ Err w.line
  kept_none all done w later before is = before ∙ ap (λ (o : Option (List A)). entries_before done (items_then w.line o (items_from item later))) is

  -- a fault after some items is one without them
  fault_left : (done : List A) (r : Result (List A) ℕ) (n : ℕ) → entries_before done r ≡ Err n → r ≡ Err n
  fault_left done (Ok items) n is = absurd (cc is)
  fault_left done (Err m) n is = is

  -- a word that is refused
  pub refuses_word : (es : List (Result WordAt LogFault)) (start done : List A) (w : WordAt) (later : List (Result WordAt LogFault)) (e : CommandRefusal)
      → entries_before start (items_from item es) ≡ entries_before done (items_from item (Ok w ∷ later))
      → item w.word ≡ None → e ≡ refused.LogLine w.line → Refuses item es e
  refuses_word es start done w later e before is named =
      let all = items_from item es in
      inr (w.line, named, fault_left start all w.line (kept_none (entries_before start all) done w later before is))

  -- a line that is faulty
  pub refuses_line : (es : List (Result WordAt LogFault)) (start done : List A) (fault : LogFault) (later : List (Result WordAt LogFault)) (e : CommandRefusal)
      → entries_before start (items_from item es) ≡ entries_before done (items_from item (Err fault ∷ later))
      → e ≡ refused.LogLine fault.line → Refuses item es e
  refuses_line es start done fault later e before named = inr (fault.line, named, fault_left start (items_from item es) fault.line before)

  -- one of those that are left is refused
  pub refuses_later : (es later : List (Result WordAt LogFault)) (start done : List A) (e : CommandRefusal)
      → entries_before start (items_from item es) ≡ entries_before done (items_from item later) → Refuses item later e → Refuses item es e
  refuses_later es later start done e before (inl is) = inl is
  refuses_later es later start done e before (inr (n, named, bad)) =
      inr (n, named, fault_left start (items_from item es) n (before ∙ ap (entries_before done) bad))

  -- nothing is left
  pub kept_all : (es left : List (Result WordAt LogFault)) (start done : List A)
      → entries_before start (items_from item es) ≡ entries_before done (items_from item left) → left ≡ [] → entries_before start (items_from item es) ≡ Ok done
  kept_all es left start done before none =
      before ∙ ap (λ (rest : List (Result WordAt LogFault)). entries_before done (items_from item rest)) none ∙ ap Ok (append-nil done)

  -- some items and then others, or the first fault
  abbrev chained : Result (List A) ℕ → Result (List A) ℕ → Result (List A) ℕ
  chained (Ok items) later = entries_before items later
  chained (Err n) later = Err n

  chained_before : (done : List A) (r later : Result (List A) ℕ) → entries_before done (chained r later) ≡ chained (entries_before done r) later
  chained_before done (Ok more) (Ok later) = ap Ok (sym (append_assoc done more later))
  chained_before done (Ok more) (Err n) = refl
  chained_before done (Err n) later = refl

  chained_item : (n : ℕ) (o : Option (List A)) (r later : Result (List A) ℕ) → items_then n o (chained r later) ≡ chained (items_then n o r) later
  chained_item n None r later = refl
  chained_item n (Some xs) r later = chained_before xs r later

  items_chained : (es later : List (Result WordAt LogFault)) → items_from item (and_then es later) ≡ chained (items_from item es) (items_from item later)
  items_chained [] later = sym (entries_before-nil (items_from item later))
  items_chained (Err bad ∷ es) later = refl
  items_chained (Ok w ∷ es) later =
      ap (items_then w.line (item w.word)) (items_chained es later) ∙ chained_item w.line (item w.word) (items_from item es) (items_from item later)

  -- the items so far, before those of the logs that are left
  abbrev pub AreBefore : Reading → List (List ℕ) → Reading → List (List ℕ) → List A → Type 0
  AreBefore first all next left done = items_of item first all ≡ entries_before done (items_of item next left)

  -- one log more
  pub before_more : (first : Reading) (all : List (List ℕ)) (next after : Reading) (text : List ℕ) (left : List (List ℕ)) (done new : List A) → AreBefore first all next (text ∷ left) done
      → (after ≡ reading_after next text) × (entries_before done (items_from item (log_entries next text)) ≡ Ok new) → AreBefore first all after left new
  before_more first all next after text left done new before (is, added) =
      before
      ∙ ap (entries_before done) (items_chained (log_entries next text) (series_entries (reading_after next text) left))
      ∙ chained_before done (items_from item (log_entries next text)) (items_of item (reading_after next text) left)
      ∙ ap (λ (r : Result (List A) ℕ). chained r (items_of item (reading_after next text) left)) added
      ∙ ap (λ (r : Reading). entries_before new (items_of item r left)) (sym is)

  -- the first faulty line
  pub before_fault : (first : Reading) (all : List (List ℕ)) (next : Reading) (text : List ℕ) (left : List (List ℕ)) (done : List A) (e : CommandRefusal) → AreBefore first all next (text ∷ left) done
      → RefusesLog item next text e → OrMemory (IsItemFault item first all) e
  before_fault first all next text left done e before (inl is) = subst (OrMemory (IsItemFault item first all)) (sym is) tt
  before_fault first all next text left done e before (inr (n, is, bad)) =
      subst (OrMemory (IsItemFault item first all)) (sym is)
      (before
      ∙ ap (entries_before done)
      (items_chained (log_entries next text) (series_entries (reading_after next text) left)
      ∙ ap (λ (r : Result (List A) ℕ). chained r (items_of item (reading_after next text) left)) bad))

-- the one item of a word
pub kept_one : {A B : Type 0} (item : Stated → Option A) (w : Stated) (old new : List A) (r : Result B KeepFault) → IsKept (item w) old new r
    → AreKept (one_item item w) old new r
kept_one {A} item w old new (Ok b) (x, its, added) = (x ∷ [], ap (option_map (λ (a : A). a ∷ [])) its, added)
kept_one {A} item w old new (Err (fault.Line why)) none = ap (option_map (λ (a : A). a ∷ [])) none
kept_one item w old new (Err fault.NoMemory) kept = tt

module _ {A B : Type 0} (items : Stated → Option (List A)) where
  -- what is kept of a word, as it is taken
  pub kept_items : (v : Option Stated) (w : Stated) (old new : List A) (r : Result B KeepFault) → v ≡ Some w → AreKept (items w) old new r
      → AreKept (items_by items v) old new r
  kept_items v w old new r is kept = subst (λ (o : Option Stated). AreKept (items_by items o) old new r) (sym is) kept

  -- nothing, if it is passed over
  pub kept_nothing : (v : Option Stated) (old : List A) (b : B) → v ≡ None → AreKept {B = B} (items_by items v) old old (Ok b)
  kept_nothing v old b is = ([], ap (items_by items) is, sym (append-nil old))

-- the texts of the logs that are left, from one on
pub logs_left : (logs : List (Vec (Vec ℕ Global) Global)) (k : ℕ) (log : Vec (Vec ℕ Global) Global) (text : List ℕ) → k < length logs → log ≡ slice_index_or logs k log
    → text ≡ joined (bytes_of log.items) → logs_of (drop k logs) ≡ text ∷ logs_of (drop (k + 1) logs)
logs_left logs k log text within is same =
    ap logs_of (drop_more logs k log within) ∙ ap (λ (v : Vec (Vec ℕ Global) Global). joined (bytes_of v.items) ∷ logs_of (drop (k + 1) logs)) (sym is)
    ∙ ap (λ (t : List ℕ). t ∷ logs_of (drop (k + 1) logs)) (sym same)
