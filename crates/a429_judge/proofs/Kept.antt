-- The words that a judge keeps, when one more is noted.
use Rattle.std.proofs.Common.{◌≡◌, ℕ, ◌<◌, ◌≤◌, List, [], ◌∷◌, ◌++◌, length, get_or, set, Bool, true, false, refl, sym, ap, subst, ◌∙◌, inl, inr, arith, append-nil, length-set}
use Rattle.std.specs.Prelude.{◌==◌, ◌&&◌, Option, None, Some, if◌then◌else◌, filter, map, nat_le, not, option_map}
use Rattle.std.specs.List.{find, list_any}
use Rattle.std.specs.List.Sorted.{IsNonDecreasingBy}
use Rattle.std.specs.Option.{option_or}
use Rattle.std.proofs.lemmas.Bool.{and_parts, cases_eq, ne_eqb}
use Rattle.std.proofs.lemmas.Bool.Decides.{nat_tests}
use Rattle.std.proofs.lemmas.List.{get_or-set_other, get_or-set_same, map-append}
use Rattle.std.proofs.lemmas.List.Elements.{filter-append}
use Rattle.std.proofs.lemmas.List.Folds.{find-append}
use Rattle.std.proofs.Math.Seq.{map-set_same}
use Rattle.a429_judge.specs.declared.duties.Duty.{Duty}
use Rattle.a429_judge.specs.declared.duties.Heard.{Heard}
use Rattle.a429_judge.specs.declared.duties.Sent.{Sent}
use Rattle.a429_judge.specs.declared.facts.Mark.{Mark}
use Rattle.a429_judge.specs.declared.facts.Span.{Span}
use Rattle.a429_judge.specs.Keeping.{AreAccepted, AreAllBelow, AreGroups, AreKept, AreNoted, Grouped, IsGroup, first_time, marks_if, outputs_of}
use Rattle.a429_judge.specs.Recordings.{IsKept, Recording, accepted_of, duty_at, fits, heard_by, is_foreign, sends_of, span_of}
use Rattle.a429_judge.specs.Judgements.{accepted_by, found_at, found_by, judgement_by, judgement_of, sent_by}
use Rattle.a429_judge.specs.Judging.{no_mark}
use Rattle.a429_judge.proofs.Logs.{kept_heard, kept_sent, taken_rise}

eqb_same : (a b : ℕ) → a ≡ b → (a == b) ≡ true
eqb_same a b e = rw e (grind arith)

-- ---- one more word in a list

filter_one : {X : Type 0} (p : X → Bool) (x : X) (b : Bool) → p x ≡ b → filter p (x ∷ []) ≡ (if b then x ∷ [] else [])
filter_one p x true e = rw e refl
filter_one p x false e = rw e refl

filter_more : {X : Type 0} (p : X → Bool) (xs : List X) (x : X) (b : Bool) → p x ≡ b → filter p (xs ++ x ∷ []) ≡ filter p xs ++ (if b then x ∷ [] else [])
filter_more p xs x b e = filter-append p xs (x ∷ []) ∙ ap (λ (ys : List _). filter p xs ++ ys) (filter_one p x b e)

marked : {X : Type 0} (m : X → Mark) (x : X) (b : Bool) → map m (if b then x ∷ [] else []) ≡ marks_if b (m x)
marked m x true = refl
marked m x false = refl

marks_more : {X : Type 0} (p : X → Bool) (m : X → Mark) (xs : List X) (x : X) (b : Bool) → p x ≡ b → map m (filter p (xs ++ x ∷ [])) ≡ map m (filter p xs) ++ marks_if b (m x)
marks_more {X} p m xs x b e =
    let chosen : List X = (if b then x ∷ [] else []) in
    ap (λ (ys : List X). map m ys) (filter_more p xs x b e) ∙ map-append m (filter p xs) chosen ∙ ap (λ (ms : List Mark). map m (filter p xs) ++ ms) (marked m x b)

sends_more : (d : Duty) (sent : List Sent) (w : Sent) → sends_of d (sent ++ w ∷ []) ≡ sends_of d sent ++ marks_if (fits d w) w.mark
sends_more d sent w = marks_more (fits d) (λ v. v.mark) sent w (fits d w) refl

accepted_more : (source : ℕ) (heard : List Heard) (h : Heard) → accepted_of source (heard ++ h ∷ []) ≡ accepted_of source heard ++ marks_if (h.source == source) h.mark
accepted_more source heard h = marks_more (λ v. v.source == source) (λ v. v.mark) heard h (h.source == source) refl

no_more : {X : Type 0} (xs ys : List X) (p : X → Bool) (x : X) → p x ≡ false → ys ≡ filter p xs → ys ≡ filter p (xs ++ x ∷ [])
no_more {X} xs ys p x e is = is ∙ sym (append-nil (filter p xs)) ∙ sym (filter_more p xs x false e)

-- ---- one more word that was sent

find_one : (w : Sent) (g : ℕ) (b : Bool) → (w.group == g) ≡ b → find (λ v. v.group == g) (w ∷ []) ≡ (if b then Some w else None)
find_one w g true e = rw e refl
find_one w g false e = rw e refl

or_map : (a : Option Sent) (w : Sent) → option_or (option_map (λ v. v.mark.time) a) (Some w.mark.time) ≡ option_map (λ v. v.mark.time) (option_or a (Some w))
or_map None w = refl
or_map (Some a) w = refl

or_none : (a : Option Sent) → option_or a None ≡ a
or_none None = refl
or_none (Some a) = refl

first_more : (g : ℕ) (sent : List Sent) (w : Sent) (first : Option ℕ) → w.group ≡ g → first ≡ option_map (λ v. v.mark.time) (find (λ v. v.group == g) sent)
    → option_or first (Some w.mark.time) ≡ option_map (λ v. v.mark.time) (find (λ v. v.group == g) (sent ++ w ∷ []))
first_more g sent w first own is =
    let found : find (λ v. v.group == g) (sent ++ w ∷ []) ≡ option_or (find (λ v. v.group == g) sent) (Some w) =
    find-append (λ v. v.group == g) sent (w ∷ []) ∙ ap (λ (o : Option Sent). option_or (find (λ v. v.group == g) sent) o) (find_one w g true (eqb_same w.group g own)) in
    ap (λ (o : Option ℕ). option_or o (Some w.mark.time)) is ∙ or_map (find (λ v. v.group == g) sent) w ∙ sym (ap (λ (o : Option Sent). option_map (λ v. v.mark.time) o) found)

-- a word of the group is noted
pub group_more : (w : Sent) (sent : List Sent) (b : Grouped) (sends : List (List Mark)) (foreign : List Sent) (first : Option ℕ) (own : Bool)
    → AreNoted b.outputs w b.sends sends → own ≡ list_any (λ d. fits d w) b.outputs → foreign ≡ b.foreign ++ (if not own then w ∷ [] else []) → first ≡ option_or b.first (Some w.mark.time)
    → IsGroup w.group sent b → IsGroup w.group (sent ++ w ∷ []) (record { outputs = b.outputs; sends = sends; foreign = foreign; first = first })
group_more w sent b sends foreign first own noted any none opens k =
    let here : is_foreign b.outputs w.group w ≡ not own = rw (eqb_same w.group w.group refl) (ap not (sym any)) in
    record {
      own = k.own;
      lists = noted.lists ∙ k.lists;
      sends = λ o lt.
          noted.words o lt ∙ ap (λ (ms : List Mark). ms ++ marks_if (fits (duty_at b.outputs o) w) w.mark) (k.sends o lt) ∙ sym (sends_more (duty_at b.outputs o) sent w);
      foreign = none ∙ ap (λ (ws : List Sent). ws ++ (if not own then w ∷ [] else [])) k.foreign ∙ sym (filter_more (is_foreign b.outputs w.group) sent w (not own) here);
      first = opens ∙ first_more w.group sent w b.first refl k.first;
    }

and_fails : (a b : Bool) → a ≡ false → (a && b) ≡ false
and_fails a b e = rw e refl

-- a word of another group is noted
group_other : (w : Sent) (g : ℕ) (sent : List Sent) (b : Grouped) → (w.group ≡ g → ⊥) → IsGroup g sent b → IsGroup g (sent ++ w ∷ []) b
group_other w g sent b apart k =
    let other : (w.group == g) ≡ false = ne_eqb w.group g apart in
    record {
      own = k.own;
      lists = k.lists;
      sends = λ o lt.
          let d : Duty = duty_at b.outputs o in
          let fails : fits d w ≡ false = and_fails (w.group == d.group) _ (ne_eqb w.group d.group (λ e. apart (e ∙ k.own o lt))) in
          k.sends o lt ∙ sym (append-nil (sends_of d sent)) ∙ sym (marks_more (fits d) (λ v. v.mark) sent w false fails);
      foreign = no_more sent b.foreign (is_foreign b.outputs g) w (and_fails (w.group == g) _ other) k.foreign;
      first = k.first ∙ ap (λ (o : Option Sent). option_map (λ v. v.mark.time) o)
          (sym (find-append (λ v. v.group == g) sent (w ∷ []) ∙ ap (λ (o : Option Sent). option_or (find (λ v. v.group == g) sent) o) (find_one w g false other) ∙ or_none (find (λ v. v.group == g) sent)));
    }

pub groups_more : (w : Sent) (sent : List Sent) (groups : List Grouped) (b : Grouped) → w.group < length groups → IsGroup w.group (sent ++ w ∷ []) b → AreGroups sent groups → AreGroups (sent ++ w ∷ []) (set groups w.group b)
groups_more w sent groups b lt noted k = λ g d less. elim (cases_eq g w.group) [
  | inl same ↦ subst (λ (h : ℕ). IsGroup h (sent ++ w ∷ []) (get_or (set groups w.group b) h d)) (sym same) (subst (λ (c : Grouped). IsGroup w.group (sent ++ w ∷ []) c) (sym (get_or-set_same groups w.group b d lt)) noted)
  | inr apart ↦ subst (λ (c : Grouped). IsGroup g (sent ++ w ∷ []) c) (sym (get_or-set_other groups w.group g b d apart))
      (group_other w g sent (get_or groups g d) (λ e. apart (sym e)) (k g d (omega (arith, less, length-set groups w.group b))))
]

pub groups_past : (w : Sent) (sent : List Sent) (groups : List Grouped) → length groups ≤ w.group → AreGroups sent groups → AreGroups (sent ++ w ∷ []) groups
groups_past w sent groups past k = λ g d less. group_other w g sent (get_or groups g d) (λ e. omega (arith, e, past, less)) (k g d less)

pub outputs_same : (groups : List Grouped) (g : ℕ) (b d : Grouped) → b.outputs ≡ (get_or groups g d).outputs → outputs_of (set groups g b) ≡ outputs_of groups
outputs_same groups g b d same = map-set_same (λ c. c.outputs) groups g b d same

-- ---- one more word that came in

pub accepted_added : (heard : List Heard) (lists : List (List Mark)) (source : ℕ) (m : Mark) (list : List Mark) → source < length lists → list ≡ get_or lists source [] ++ m ∷ []
    → AreAccepted heard lists → AreAccepted (heard ++ heard_by (Some source) m) (set lists source list)
accepted_added heard lists source m list lt is k = λ s less. elim (cases_eq s source) [
  | inl same ↦ rw same
      (get_or-set_same lists source list [] lt ∙ is ∙ ap (λ (ms : List Mark). ms ++ m ∷ []) (k source lt) ∙ sym (marks_more (λ v. v.source == source) (λ v. v.mark) heard (record { source = source; mark = m }) true (eqb_same source source refl)))
  | inr apart ↦ get_or-set_other lists source s list [] apart ∙ k s (omega (arith, less, length-set lists source list)) ∙ sym (append-nil (accepted_of s heard))
      ∙ sym (marks_more (λ v. v.source == s) (λ v. v.mark) heard (record { source = source; mark = m }) false (ne_eqb source s (λ e. apart (sym e))))
]

pub accepted_past : (heard : List Heard) (lists : List (List Mark)) (source : ℕ) (m : Mark) → length lists ≤ source → AreAccepted heard lists → AreAccepted (heard ++ heard_by (Some source) m) lists
accepted_past heard lists source m past k = λ s less.
    k s less ∙ sym (append-nil (accepted_of s heard)) ∙ sym (marks_more (λ v. v.source == s) (λ v. v.mark) heard (record { source = source; mark = m }) false (ne_eqb source s (λ e. omega (arith, e, past, less))))

pub accepted_none : (heard : List Heard) (lists : List (List Mark)) (m : Mark) → AreAccepted heard lists → AreAccepted (heard ++ heard_by None m) lists
accepted_none heard lists m k = λ s less. k s less ∙ ap (accepted_of s) (sym (append-nil heard))

-- ---- the judge

pub judge_heard : (groups : List Grouped) (accepted lists : List (List Mark)) (first : Option ℕ) (in_order now : Bool) (r : Recording) (heard : List Heard) (source : Option ℕ) (m : Mark)
    → heard ≡ r.heard ++ heard_by source m → length lists ≡ length accepted → ((hs : List Heard) → AreAccepted hs accepted → AreAccepted (hs ++ heard_by source m) lists) → now ≡ (in_order && nat_le r.last_heard m.time)
    → AreKept groups accepted first in_order r → AreKept groups lists first now (record { heard = heard; last_heard = m.time; sent = r.sent; last_sent = r.last_sent })
judge_heard groups accepted lists first in_order now r heard source m is long more ordered k = record {
  sent = k.sent;
  below = subst (λ (n : ℕ). AreAllBelow n (outputs_of groups)) (sym long) k.below;
  heard = subst (λ (hs : List Heard). AreAccepted hs lists) (sym is) (more r.heard k.heard);
  opens = k.opens;
  ordered = λ e.
      let parts = and_parts in_order (nat_le r.last_heard m.time) (sym ordered ∙ e) in
      kept_heard r heard source m (k.ordered parts.0) is (grind (arith, nat_tests, parts.1));
}

first_time-more : (sent : List Sent) (w : Sent) → option_or (first_time sent) (Some w.mark.time) ≡ first_time (sent ++ w ∷ [])
first_time-more [] w = refl
first_time-more (v ∷ sent) w = refl

pub judge_sent : (groups next : List Grouped) (accepted : List (List Mark)) (first opens : Option ℕ) (in_order now : Bool) (r : Recording) (sent : List Sent) (w : Sent)
    → sent ≡ r.sent ++ w ∷ [] → outputs_of next ≡ outputs_of groups → ((ws : List Sent) → AreGroups ws groups → AreGroups (ws ++ w ∷ []) next) → opens ≡ option_or first (Some w.mark.time) → now ≡ (in_order && nat_le r.last_sent w.mark.time)
    → AreKept groups accepted first in_order r → AreKept next accepted opens now (record { heard = r.heard; last_heard = r.last_heard; sent = sent; last_sent = w.mark.time })
judge_sent groups next accepted first opens in_order now r sent w is same more time ordered k = record {
  sent = subst (λ (ws : List Sent). AreGroups ws next) (sym is) (more r.sent k.sent);
  below = subst (λ (ds : List (List Duty)). AreAllBelow (length accepted) ds) (sym same) k.below;
  heard = k.heard;
  opens = time ∙ ap (λ (o : Option ℕ). option_or o (Some w.mark.time)) k.opens ∙ first_time-more r.sent w ∙ ap first_time (sym is);
  ordered = λ e.
      let parts = and_parts in_order (nat_le r.last_sent w.mark.time) (sym ordered ∙ e) in
      kept_sent r sent w (k.ordered parts.0) is (grind (arith, nat_tests, parts.1));
}

-- ---- what is said of an output

-- the words of an output's source, and those that it sent, are in the order of their times
pub accepted_rise : (d : Duty) (r : Recording) (words : List Mark) → words ≡ accepted_by d r → IsKept r → IsNonDecreasingBy (λ (a : Mark). a.time) words
accepted_rise d r words is k =
    subst (λ (ms : List Mark). IsNonDecreasingBy (λ (a : Mark). a.time) ms) (sym is)
    (taken_rise (λ (h : Heard). h.source == d.source) (λ h. h.mark) r.heard (record { source = 0; mark = no_mark }) k.heard)

pub sends_rise : (d : Duty) (r : Recording) (words : List Mark) → words ≡ sent_by d r → IsKept r → IsNonDecreasingBy (λ (a : Mark). a.time) words
sends_rise d r words is k =
    subst (λ (ms : List Mark). IsNonDecreasingBy (λ (a : Mark). a.time) ms) (sym is) (taken_rise (fits d) (λ w. w.mark) r.sent (record { group = 0; bus = None; mark = no_mark }) k.sent)

pub found_same : (ds now : List Duty) (d e : Duty) (r : Recording) (span : Span) (accepted sends : List Mark) → now ≡ ds → e ≡ d → span ≡ span_of d.group r → accepted ≡ accepted_by d r → sends ≡ sent_by d r
    → found_by now e span accepted sends ≡ found_at ds d r
found_same ds now d e r span accepted sends list duty shown heard sent = rw (list, duty, shown, heard, sent) refl

pub judgement_same : (ds now : List Duty) (d e : Duty) (r : Recording) (span : Span) (accepted sends : List Mark) → now ≡ ds → e ≡ d → span ≡ span_of d.group r → accepted ≡ accepted_by d r → sends ≡ sent_by d r
    → judgement_by now e span accepted sends (found_by now e span accepted sends) ≡ judgement_of ds d r
judgement_same ds now d e r span accepted sends list duty shown heard sent = rw (list, duty, shown, heard, sent) refl
