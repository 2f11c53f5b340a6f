-- Words of logs that are noted one after another, and the outputs that they are judged by.
use Rattle.std.proofs.Common.{◌≡◌, ◌∙◌, ◌+◌, ◌-◌, ◌<◌, ◌≤◌, ℕ, Bool, true, List, Vec, Global, [], ◌∷◌, ◌++◌, length, map, ap, arith, refl, sym, subst}
use Rattle.std.specs.Prelude.{Ok, Option, Some, None, false, if◌then◌else◌, slice_get}
use Rattle.std.specs.List.{fold, range_with_len}
use Rattle.std.proofs.lemmas.Bool.{le-leb}
use Rattle.std.proofs.lemmas.List.{length-map, map-append}
use Rattle.std.proofs.lemmas.List.FromFn.{get_or-map-range_with_len, length-range_with_len}
use Rattle.std.proofs.lemmas.List.Sums.{fold-append}
use Rattle.a429_word.proofs.Lists.{get_within}
use Rattle.a429_equipment.specs.Agreement.{last_of}
use Rattle.a429_equipment.specs.TableRecord.{TableRecord}
use Rattle.a429_equipment.proofs.Cutting.{last_push}
use Rattle.a429_judge.specs.Recordings.{AreOfGroups, JudgedLogs, Recording, duty_at, group_at, lists_of, no_duty, nothing_noted}
use Rattle.a429_judge.specs.declared.duties.Duty.{Duty}
use Rattle.a429_slots.specs.Proposed.{Proposed}
use Rattle.a429_slots.specs.Tables.{groups_of, outputs_of}
use Rattle.a429_logs.specs.LogRows.{Stated}
use Rattle.a429_logs.specs.declared.reading.Reading.{Reading}
use Rattle.a429_console.specs.Names.{Naming}
use Rattle.a429_recordings.specs.BoxLogs.{AreFrom, AreNoted, AreOrdered, box_word, has_place, hears, mixed_word, notes, other_log, part_word, part_word_by, place_named, recording_of, sends, span_of, with_time}
use Rattle.a429_recordings.specs.JudgedPlans.{all_duties, duties_of, duty_of}
use Rattle.a429_recordings.specs.Timeline.{table_of}
use Rattle.a429_recordings.specs.declared.judge.spans.BoxSpan.{BoxSpan}
use Rattle.a429_recordings.specs.declared.judge.words.BoxLog.{BoxLog}
use Rattle.a429_recordings.specs.declared.judge.words.BoxLog.TheVariants as log
use Rattle.a429_recordings.specs.declared.judge.noted.NotedWords.{NotedWords}
use Rattle.a429_recordings.specs.declared.judge.words.BoxPart.{BoxPart}
use Rattle.a429_recordings.specs.declared.judge.words.BoxWord.{BoxWord}
use Rattle.a429_recordings.specs.declared.judge.words.Place.{Place}
use Rattle.a429_recordings.specs.LogItems.{items_of, reading_behind}
use Rattle.a429_recordings.specs.LogViews.{View, one_item}
use Rattle.a429_recordings.proofs.LogTimes.{AreTimed, HasTime, HaveTime, items_timed, moved_to, none_have, one_has, timed_if}
use Rattle.a429_recordings.proofs.SummedUp.{rows_more}

-- one word more
pub noted_more : (t : TableRecord) (l : BoxLog) (before now next : JudgedLogs) (words : List BoxWord) (w : BoxWord) → now ≡ fold (notes t l) before words
    → next ≡ notes t l now w → next ≡ fold (notes t l) before (words ++ w ∷ [])
noted_more t l before now next words w so is =
    is ∙ ap (λ (j : JudgedLogs). notes t l j w) so ∙ sym (fold-append (notes t l) before words (w ∷ []))

span_pushed : (words : List BoxWord) (w : BoxWord) → span_of (words ++ w ∷ []) ≡ with_time (span_of words) w.time
span_pushed [] w = refl
span_pushed (v ∷ vs) w =
    let last = get_within (v ∷ vs) (length (v ∷ vs) - 1) (omega arith) in
    let pushed : last_of ((v ∷ vs) ++ w ∷ []) ≡ Some w = last_push (v ∷ vs) w in
    rw (pushed, last.1) refl

pub span_more : (words : List BoxWord) (w : BoxWord) (now next : Option BoxSpan) → now ≡ span_of words → next ≡ with_time now w.time → next ≡ span_of (words ++ w ∷ [])
span_more words w now next so is = is ∙ ap (λ (s : Option BoxSpan). with_time s w.time) so ∙ sym (span_pushed words w)

-- the outputs stay
same_duties : (t : TableRecord) (l : BoxLog) (j : JudgedLogs) (words : List BoxWord) → (fold (notes t l) j words).duties ≡ j.duties
same_duties t l j [] = refl
same_duties t log.Heard j (w ∷ words) = same_duties t log.Heard (notes t log.Heard j w) words
same_duties t log.Sent j (w ∷ words) = same_duties t log.Sent (notes t log.Sent j w) words

-- what came in, and what was sent, as a recording
heard_noted : (t : TableRecord) (j : JudgedLogs) (words : List BoxWord) → (fold (notes t log.Heard) j words).noted ≡ fold (hears t) j.noted words
heard_noted t j [] = refl
heard_noted t j (w ∷ words) = heard_noted t (notes t log.Heard j w) words

sent_noted : (t : TableRecord) (j : JudgedLogs) (words : List BoxWord) → (fold (notes t log.Sent) j words).noted ≡ fold sends j.noted words
sent_noted t j [] = refl
sent_noted t j (w ∷ words) = sent_noted t (notes t log.Sent j w) words

-- times that do not fall
heard_in_order : (t : TableRecord) (j : JudgedLogs) (words : List BoxWord) → AreFrom j.noted.last_heard words → j.in_order ≡ true → (fold (notes t log.Heard) j words).in_order ≡ true
heard_in_order t j [] from so = so
heard_in_order t j (w ∷ words) from so =
    heard_in_order t (notes t log.Heard j w) words from.1 (rw (so, le-leb j.noted.last_heard w.time from.0) refl)

sent_in_order : (t : TableRecord) (j : JudgedLogs) (words : List BoxWord) → AreFrom j.noted.last_sent words → j.in_order ≡ true → (fold (notes t log.Sent) j words).in_order ≡ true
sent_in_order t j [] from so = so
sent_in_order t j (w ∷ words) from so =
    sent_in_order t (notes t log.Sent j w) words from.1 (rw (so, le-leb j.noted.last_sent w.time from.0) refl)

hears_keep : (t : TableRecord) (words : List BoxWord) (r : Recording) → (fold (hears t) r words).last_sent ≡ r.last_sent
hears_keep t [] r = refl
hears_keep t (w ∷ words) r = hears_keep t words (hears t r w)

-- both logs
abbrev pub both : TableRecord → List (List Duty) → List BoxWord → List BoxWord → JudgedLogs
both t ds heard sent = fold (notes t log.Sent) (fold (notes t log.Heard) (nothing_noted ds) heard) sent

pub both_noted : (t : TableRecord) (ds : List (List Duty)) (heard sent : List BoxWord) → (both t ds heard sent).noted ≡ recording_of t heard sent
both_noted t ds heard sent =
    let first : JudgedLogs = fold (notes t log.Heard) (nothing_noted ds) heard in
    sent_noted t first sent ∙ ap (λ (r : Recording). fold sends r sent) (heard_noted t (nothing_noted ds) heard)

pub both_duties : (t : TableRecord) (ds : List (List Duty)) (heard sent : List BoxWord) → (both t ds heard sent).duties ≡ ds
both_duties t ds heard sent =
    let first : JudgedLogs = fold (notes t log.Heard) (nothing_noted ds) heard in
    same_duties t log.Sent first sent ∙ same_duties t log.Heard (nothing_noted ds) heard

pub both_in_order : (t : TableRecord) (ds : List (List Duty)) (heard sent : List BoxWord) → AreOrdered heard → AreOrdered sent → (both t ds heard sent).in_order ≡ true
both_in_order t ds heard sent came went =
    let first : JudgedLogs = fold (notes t log.Heard) (nothing_noted ds) heard in
    let begun : first.noted.last_sent ≡ 0 =
    ap (λ (r : Recording). r.last_sent) (heard_noted t (nothing_noted ds) heard) ∙ hears_keep t heard (nothing_noted ds).noted in
    sent_in_order t first sent (subst (λ (n : ℕ). AreFrom n sent) (sym begun) went) (heard_in_order t (nothing_noted ds) heard came refl)

-- ---- the outputs of a plan

pub group_listed : (q : Proposed) (given : List (List ℕ)) (g : ℕ) → g < length (groups_of q.plan) → group_at (all_duties q given) g ≡ duties_of q given g
group_listed q given g below = get_or-map-range_with_len (duties_of q given) 0 (length (groups_of q.plan)) g g [] below (omega arith)

pub groups_listed : (q : Proposed) (given : List (List ℕ)) → length (all_duties q given) ≡ length (groups_of q.plan)
groups_listed q given =
    length-map (range_with_len 0 (length (groups_of q.plan))) (duties_of q given) ∙ length-range_with_len 0 (length (groups_of q.plan))

pub output_listed : (q : Proposed) (given : List (List ℕ)) (g o : ℕ) → o < length (outputs_of (table_of q g)) → duty_at (duties_of q given g) o ≡ duty_of q given g o
output_listed q given g o below = get_or-map-range_with_len (duty_of q given g) 0 (length (outputs_of (table_of q g))) o o no_duty below (omega arith)

pub outputs_listed : (q : Proposed) (given : List (List ℕ)) (g : ℕ) → length (duties_of q given g) ≡ length (outputs_of (table_of q g))
outputs_listed q given g =
    length-map (range_with_len 0 (length (outputs_of (table_of q g)))) (duty_of q given g) ∙ length-range_with_len 0 (length (outputs_of (table_of q g)))

own_group : (q : Proposed) (given : List (List ℕ)) (g o : ℕ) → (duty_of q given g o).group ≡ g
unfolding duty_of
own_group q given g o = refl

pub of_groups : (q : Proposed) (given : List (List ℕ)) → AreOfGroups (all_duties q given)
of_groups q given g o below within =
    let planned : g < length (groups_of q.plan) = omega (arith, below, groups_listed q given) in
    let here : group_at (all_duties q given) g ≡ duties_of q given g = group_listed q given g planned in
    let inside : o < length (outputs_of (table_of q g)) = omega (arith, within, ap (λ (ds : List Duty). length ds) here, outputs_listed q given g) in
    ap (λ (ds : List Duty). (duty_at ds o).group) here ∙ ap (λ (d : Duty). d.group) (output_listed q given g o inside) ∙ own_group q given g o

lists_of_more : (f : ℕ → List Duty) (all : List (Vec Duty Global)) (one : Vec Duty Global) (n : ℕ) → lists_of all ≡ map f (range_with_len 0 n) → one.items ≡ f n
    → lists_of (all ++ one ∷ []) ≡ map f (range_with_len 0 (n + 1))
lists_of_more f all one n so is =
    rows_more f [] (lists_of all) (lists_of (all ++ one ∷ [])) n one.items so (map-append (λ (v : Vec Duty Global). v.items) all (one ∷ [])) is

pub lists_more : (f : ℕ → List Duty) (all : List (Vec Duty Global)) (one : Vec Duty Global) (next : List (Vec Duty Global)) (n : ℕ) → lists_of all ≡ map f (range_with_len 0 n)
    → next ≡ all ++ one ∷ [] → one.items ≡ f n → lists_of next ≡ map f (range_with_len 0 (n + 1))
lists_more f all one next n so added is = ap lists_of added ∙ lists_of_more f all one n so is

-- ---- times of words that are read

abbrev time_of : BoxWord → ℕ
time_of w = w.time

has_time : (names : Naming) (l : BoxLog) (w : Stated) (v : BoxWord) → box_word names l w ≡ Some v → HasTime time_of w.time v
unfolding box_word
has_time names l w v is =
    timed_if time_of w.time (λ (place : Place). record { time = w.time; place = place; raw = w.raw }) (place_named names l w.name) v (λ place. refl) is

own_have : (names : Naming) (l : BoxLog) (w : Stated) (vs : List BoxWord) → one_item (box_word names l) w ≡ Some vs → HaveTime time_of w.time vs
own_have names l w vs is = one_has time_of w.time (box_word names l w) vs (has_time names l w) is

-- all that a word becomes
mixed_by : (own other : Bool) (names : Naming) (l : BoxLog) (w : Stated) (vs : List BoxWord)
    → (if other then (if own then None else Some []) else one_item (box_word names l) w) ≡ Some vs → HaveTime time_of w.time vs
mixed_by own false names l w vs is = own_have names l w vs is
mixed_by false true names l w vs is = none_have time_of w.time vs is
mixed_by true true names l w vs is = absurd (cc is)

mixed_have : (names : Naming) (l : BoxLog) (w : Stated) (vs : List BoxWord) → mixed_word names l w ≡ Some vs → HaveTime time_of w.time vs
unfolding mixed_word
mixed_have names l w vs is = mixed_by (has_place names l w.name) (has_place names (other_log l) w.name) names l w vs is

part_by : (mixed : Bool) (names : Naming) (l : BoxLog) (w : Stated) (vs : List BoxWord)
    → (if mixed then mixed_word names l w else one_item (box_word names l) w) ≡ Some vs → HaveTime time_of w.time vs
part_by false names l w vs is = own_have names l w vs is
part_by true names l w vs is = mixed_have names l w vs is

have_time : (names : Naming) (part : BoxPart) (w : Stated) (vs : List BoxWord) → part_word names part w ≡ Some vs → HaveTime time_of w.time vs
have_time names part w vs is = part_by part.is_mixed names part.log w vs is

are_from : (last : ℕ) (words : List BoxWord) → AreTimed time_of last words → AreFrom last words
are_from last [] are = tt
are_from last (w ∷ words) are = (are.0, are_from w.time words are.2)

are_ordered : (last : ℕ) (words : List BoxWord) → AreTimed time_of last words → AreOrdered words
are_ordered last [] are = tt
are_ordered last (w ∷ words) are = (omega arith, are_from w.time words are.2)

pub words_ordered : (names : Naming) (view : View) (part : BoxPart) (reading : Reading) (texts : List (List ℕ)) (words : List BoxWord)
    → items_of (part_word_by names view part) reading texts ≡ Ok words → AreOrdered words
words_ordered names view part reading texts words is =
    are_ordered (moved_to view reading.clock.last) words (items_timed time_of view (part_word names part) reading texts words (have_time names part) is)

-- logs whose words were noted
pub logs_noted : (t : TableRecord) (names : Naming) (view : View) (part : BoxPart) (reading next : Reading) (texts : List (List ℕ)) (before : JudgedLogs) (kept : NotedWords)
    → ◌≡◌ {A = TableRecord × BoxLog × JudgedLogs} (kept.equipment.now, kept.part.log, kept.before.value) (t, part.log, before) → items_of (part_word_by names view part) reading texts ≡ Ok kept.told
    → next ≡ reading_behind reading texts
    → AreNoted t part.log (part_word_by names view part) reading texts before (record { judge = kept.judge; span = kept.span; next = next })
logs_noted t names view part reading next texts before kept same read is = record {
  words = kept.told;
  read = read;
  judge = kept.noted ∙ ap (λ (x : TableRecord × BoxLog × JudgedLogs). fold (notes x.0 x.1) x.2 kept.told) same;
  span = kept.spanned;
  next = is;
  ordered = words_ordered names view part reading texts kept.told read;
}
