-- What a run of a station says of its totals.
use Rattle.std.proofs.Common.{◌≡◌, ◌∙◌, ◌+◌, ◌≤◌, ◌∷◌, [], ◌++◌, ℕ, zero, suc, Bool, true, false, List, length, map, ap, subst, sym, refl, arith, append-nil}
use Rattle.std.specs.Prelude.{Some, ◌&&◌}
use Rattle.std.specs.List.{range_with_len}
use Rattle.std.proofs.lemmas.Option.{same_Some}
use Rattle.a429_equipment.specs.TableRecord.{TableRecord}
use Rattle.a429_filter.specs.Sources.{Memory, all_given, at_start, has_none}
use Rattle.a429_station.specs.Numbered.{AllNumbered, AllOfThree}
use Rattle.a429_station.specs.Course.{Course, IsHeardIn, fresh}
use Rattle.a429_workers.specs.Receives.{Gives, answers_to, totals_of}
use Rattle.a429_workers.specs.declared.receiving.ReceiveTotals.{ReceiveTotals}
use Rattle.a429_live.specs.LiveReplies.{IsHeard}
use Rattle.a429_live.specs.WordsFile.{words_for}
use Rattle.a429_live.specs.declared.words.Arrival.{Arrival}

-- ---- a line in memory

abbrev pub GivesFrom : Memory → List ℕ → Memory → Type 0
GivesFrom = Gives (λ (line : Memory). line.given) (λ (line : Memory). Some line.left)

none_left : (end : Bool) (left : List ℕ) → (end && has_none left) ≡ true → left ≡ []
none_left end [] all = refl
none_left true (raw ∷ words) all = absurd (cc all)
none_left false (raw ∷ words) all = absurd (cc all)

-- at its end it gave what it began with
came_whole : (words came : List ℕ) (after : Memory) → GivesFrom (at_start words) came after → all_given after ≡ true → came ≡ words
came_whole words came after gave end =
    sym (same_Some words (came ++ after.left) gave.kept ∙ (ap (λ (more : List ℕ). came ++ more) (none_left after.at_end after.left end) ∙ append-nil came))

-- ---- the receivers, one after another

each_heard : (P : ℕ → Memory → Memory → ReceiveTotals → Type 0) (Q : ℕ → ReceiveTotals → Type 0) (f : ℕ → Memory) (i : ℕ)
    → ((k : ℕ) (after : Memory) (x : ReceiveTotals) → P k (f (i + k)) after x → Q k x)
    → (n : ℕ) (after : List Memory) (totals : List ReceiveTotals) → AllOfThree P (map f (range_with_len i n)) after totals → AllNumbered Q totals
each_heard P Q f i each zero [] [] all = tt
each_heard P Q f i each zero [] (x ∷ xs) all = absurd all
each_heard P Q f i each zero (a ∷ after) totals all = absurd all
each_heard P Q f i each (suc n) [] totals all = absurd all
each_heard P Q f i each (suc n) (a ∷ after) [] all = absurd all
each_heard P Q f i each (suc n) (a ∷ after) (x ∷ xs) (one, all) =
    let here : i ≡ i + 0 = omega arith in
    let next : (k : ℕ) → i + 1 + k ≡ i + suc k = λ k. omega arith in (
      each 0 a x (subst (λ (m : ℕ). P 0 (f m) a x) here one),
      each_heard (λ k. P (suc k)) (λ k. Q (suc k)) f (i + 1) (λ k b y is. each (suc k) b y (subst (λ (m : ℕ). P (suc k) (f m) b y) (next k) is)) n after xs all,
    )

pub heard_rows : (t : TableRecord) (course : Course) (arrivals : List Arrival) (n : ℕ) (after : List Memory) (totals : List ReceiveTotals)
    → AllOfThree (IsHeardIn GivesFrom all_given t course) (map (λ r. at_start (words_for arrivals r)) (range_with_len 0 n)) after totals → AllNumbered (IsHeard t arrivals) totals
heard_rows t course arrivals = each_heard (IsHeardIn GivesFrom all_given t course) (IsHeard t arrivals) (λ r. at_start (words_for arrivals r)) 0
    (λ k after x heard.
    let same : 0 + k ≡ k = omega arith in
    let came : course.came k ≡ words_for arrivals k = came_whole (words_for arrivals (0 + k)) (course.came k) after heard.gave heard.at_end ∙ ap (λ (r : ℕ). words_for arrivals r) same in
    (heard.hub, heard.station, heard.counted ∙ ap (λ (words : List ℕ). totals_of (answers_to (fresh heard.hub k) words)) came, subst (λ (words : List ℕ). length words ≤ 1000000) came heard.few))

pub as_many : {X Y Z : Type 0} (P : ℕ → X → Y → Z → Type 0) (xs : List X) (ys : List Y) (zs : List Z) → AllOfThree P xs ys zs → length zs ≡ length xs
as_many P [] [] [] all = refl
as_many P [] [] (z ∷ zs) all = absurd all
as_many P [] (y ∷ ys) zs all = absurd all
as_many P (x ∷ xs) [] zs all = absurd all
as_many P (x ∷ xs) (y ∷ ys) [] all = absurd all
as_many P (x ∷ xs) (y ∷ ys) (z ∷ zs) (one, all) = ap suc (as_many (λ k. P (suc k)) xs ys zs all)
