-- What is judged, from the bytes of files up to their names.
use Rattle.std.proofs.Common.{◌≡◌, ◌∙◌, ℕ, Bool, List, Vec, Global, ap, inl, inr, sym}
use Rattle.std.specs.Prelude.{◌==◌, ◌⊎◌, Err, None, Ok, Option, Result, false, if◌then◌else◌, true}
use Rattle.std.specs.List.{fold}
use Rattle.std.proofs.lemmas.List.{length-map}
use Rattle.a429_logs.specs.declared.reading.Reading.{Reading}
use Rattle.a429_slots.specs.Proposed.{Proposed}
use Rattle.a429_console.specs.Files.{logs_of}
use Rattle.a429_console.specs.Names.{Naming, naming_of}
use Rattle.a429_console.specs.declared.refusals.CommandRefusal.{CommandRefusal}
use Rattle.a429_console.specs.declared.refusals.CommandRefusal.TheVariants as refused
use Rattle.a429_console.specs.RefusalText.{OrMemory}
use Rattle.a429_console.proofs.Refused.{or_memory_weaker}
use Rattle.a429_align.specs.declared.search.Alignment.{Alignment}
use Rattle.a429_judge.specs.Recordings.{JudgedLogs, nothing_noted}
use Rattle.a429_recordings.specs.BoxLogs.{AreApartFrom, AreNoted, IsLaterNoting, notes, part_word_by, restarted}
use Rattle.a429_recordings.specs.JudgeReplies.{BoxFiles, IsHeardFault, IsNoRecording, IsRecorded, IsUnjudgedOf, MayBeFound, aligned_by, has_both, heard_by, is_mixed, logs_of_sent, no_group_of}
use Rattle.a429_recordings.specs.JudgedPlans.{all_duties, is_any_wide}
use Rattle.a429_recordings.specs.LogItems.{IsItemFault}
use Rattle.a429_equipment.specs.TableRecord.{TableRecord}
use Rattle.a429_recordings.specs.LogViews.{View, view_after}
use Rattle.a429_recordings.specs.declared.judge.words.BoxLog.TheVariants as log
use Rattle.a429_recordings.specs.declared.judge.noting.NotedLogs.{NotedLogs}
use Rattle.a429_recordings.proofs.NotedBoxes.{both, both_duties, both_in_order, both_noted}

-- there are as many texts as logs
pub same_count : (logs : List (Vec (Vec ℕ Global) Global)) → has_both logs ≡ has_both (logs_of logs)
same_count logs = ap (λ (n : ℕ). n == 0) (sym (length-map logs _))

-- what came in was noted, and then what was sent
pub recorded : (q : Proposed) (i : BoxFiles) (reading : Reading) (heard : NotedLogs) (result : Result JudgedLogs CommandRefusal)
    → AreNoted q.station log.Heard (heard_by q i) reading i.heard (nothing_noted (all_duties q i.terms.tolerances)) heard
    → IsLaterNoting q.station (naming_of q.station) i.terms.sent_view (is_mixed i) heard (logs_of_sent i) result → IsRecorded q i reading result
recorded q i reading heard (Ok j) H L =
    let ds = all_duties q i.terms.tolerances in
    let is : j ≡ both q.station ds H.words L.noted.words = L.judge ∙ L.noted.judge ∙ ap (λ (k : JudgedLogs). fold (notes q.station log.Sent) k L.noted.words) H.judge in
    record {
      recorded = record {
        heard = H.words;
        sent = L.noted.words;
        heard_are = H.read;
        sent_are = rw H.next at L.noted.read;
        common = rw (H.span, L.noted.span) at L.common;
        recorded = ap (λ (k : JudgedLogs). k.noted) is ∙ both_noted q.station ds H.words L.noted.words;
      };
      duties = ap (λ (k : JudgedLogs). k.duties) is ∙ both_duties q.station ds H.words L.noted.words;
      in_order = ap (λ (k : JudgedLogs). k.in_order) is ∙ both_in_order q.station ds H.words L.noted.words H.ordered L.noted.ordered;
    }
recorded q i reading heard (Err e) H bad =
    let item = part_word_by (naming_of q.station) (view_after heard.next i.terms.sent_view) (record { log = log.Sent; is_mixed = is_mixed i }) in
    let first = IsItemFault item (restarted heard.next) (logs_of_sent i) in
    let second = AreApartFrom q.station (naming_of q.station) i.terms.sent_view (is_mixed i) heard (logs_of_sent i) in
    let lost : first e ⊎ second e → IsNoRecording q i reading e = elim [
      | inl fault ↦ inr (inl (H.words, H.read, rw H.next at fault))
      | inr apart ↦ inr (inr (H.words, apart.noted.words, H.read, rw H.next at apart.noted.read, rw (H.span, apart.noted.span) at apart.apart, apart.refused))
    ] in
    or_memory_weaker (λ (refusal : CommandRefusal). first refusal ⊎ second refusal) (IsNoRecording q i reading) e lost bad

-- the logs that have what was sent
pub same_heard : (i : BoxFiles) → is_mixed i ≡ true → i.heard ≡ logs_of_sent i
same_heard i mixed = sym (ap (λ (b : Bool). if b then i.heard else i.sent) mixed)

pub same_sent : (i : BoxFiles) → is_mixed i ≡ false → i.sent ≡ logs_of_sent i
same_sent i apart = sym (ap (λ (b : Bool). if b then i.heard else i.sent) apart)

-- by other names of the same values
pub later_noted : (t u : TableRecord) (names known : Naming) (view moved : View) (mixed both : Bool) (heard : NotedLogs) (texts all : List (List ℕ)) (result : Result JudgedLogs CommandRefusal)
    → t ≡ u → names ≡ known → view ≡ moved → mixed ≡ both → texts ≡ all → IsLaterNoting t names view mixed heard texts result → IsLaterNoting u known moved both heard all result
later_noted t u names known view moved mixed both heard texts all result a b c d e noted = rw (a, b, c, d, e) at noted

-- a line of what came in is faulty
pub unheard : (q : Proposed) (i : BoxFiles) (reading : Reading) (e : CommandRefusal) → OrMemory (IsHeardFault q i reading) e → IsRecorded q i reading (Err e)
unheard q i reading e bad = or_memory_weaker (IsHeardFault q i reading) (IsNoRecording q i reading) e (λ one. inl one) bad

-- each group is there, and no tolerance is too great
pub unprinted : (q : Proposed) (i : BoxFiles) (clock : Option Alignment) (e : CommandRefusal) → no_group_of (naming_of q.station) i.terms.tolerances ≡ None → is_any_wide q i.terms.tolerances ≡ false
    → MayBeFound i clock → OrMemory (IsNoRecording q (aligned_by clock i) i.terms.reading) e → OrMemory (IsUnjudgedOf q i) e
unprinted q i clock e all narrow may bad =
    or_memory_weaker (IsNoRecording q (aligned_by clock i) i.terms.reading) (IsUnjudgedOf q i) e (λ one. inr (all, inr (narrow, (clock, may, one)))) bad
