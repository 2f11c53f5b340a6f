-- Logs, and the words of them that are an output's.
use Rattle.std.proofs.Common.{◌≡◌, ℕ, ◌-◌, ◌<◌, ◌≤◌, List, [], ◌∷◌, ◌++◌, length, get_or, Bool, Option, None, Some, append-nil, refl, sym, ap, subst, ◌∙◌, arith}
use Rattle.std.specs.Prelude.{filter, map}
use Rattle.std.specs.List.Sorted.{IsNonDecreasingBy}
use Rattle.std.proofs.lemmas.List.{get_or-map, get_or_push, length-map, length_push}
use Rattle.std.proofs.lemmas.List.Kept.{IsNonDecreasingBy-filter}
use Rattle.std.proofs.lemmas.List.Sorted.{IsNonDecreasingBy-push}
use Rattle.a429_judge.specs.declared.duties.Sent.{Sent}
use Rattle.a429_judge.specs.declared.duties.Heard.{Heard}
use Rattle.a429_judge.specs.declared.facts.Mark.{Mark}
use Rattle.a429_judge.specs.Recordings.{IsKept, Recording, heard_by}

-- one more word that came in keeps a recording in order
pub kept_heard : (r : Recording) (heard : List Heard) (source : Option ℕ) (m : Mark) → IsKept r → heard ≡ r.heard ++ heard_by source m → r.last_heard ≤ m.time
    → IsKept (record { heard = heard; last_heard = m.time; sent = r.sent; last_sent = r.last_sent })
kept_heard r heard None m k is le =
    let same : heard ≡ r.heard = is ∙ append-nil r.heard in
    record {
      heard = subst (λ (hs : List Heard). IsNonDecreasingBy (λ (h : Heard). h.mark.time) hs) (sym same) k.heard;
      heard_last = subst (λ (hs : List Heard). (d : Heard) → 1 ≤ length hs → (get_or hs (length hs - 1) d).mark.time ≤ m.time) (sym same) (λ d more. omega (arith, le, k.heard_last d more));
      sent = k.sent;
      sent_last = k.sent_last;
    }
kept_heard r heard (Some source) m k is le =
    let w : Heard = record { source = source; mark = m } in
    record {
      heard = subst (λ (hs : List Heard). IsNonDecreasingBy (λ (h : Heard). h.mark.time) hs) (sym is)
          (IsNonDecreasingBy-push (λ (h : Heard). h.mark.time) r.heard w k.heard (λ d more. omega (arith, le, k.heard_last d (omega (arith, more)))));
      heard_last = λ d more.
          let place : length heard - 1 ≡ length r.heard = omega (arith, ap (λ (hs : List Heard). length hs) is, length_push r.heard w) in
          let last : get_or heard (length heard - 1) d ≡ w =
          ap (λ (n : ℕ). get_or heard n d) place ∙ ap (λ (hs : List Heard). get_or hs (length r.heard) d) is ∙ get_or_push r.heard w d (length r.heard) refl in
          let same : (get_or heard (length heard - 1) d).mark.time ≡ m.time = ap (λ (h : Heard). h.mark.time) last in
          omega (arith, same);
      sent = k.sent;
      sent_last = k.sent_last;
    }

pub kept_sent : (r : Recording) (sent : List Sent) (w : Sent) → IsKept r → sent ≡ r.sent ++ w ∷ [] → r.last_sent ≤ w.mark.time → IsKept (record { heard = r.heard; last_heard = r.last_heard; sent = sent; last_sent = w.mark.time })
kept_sent r sent w k is le = record {
  heard = k.heard;
  heard_last = k.heard_last;
  sent = subst (λ (ws : List Sent). IsNonDecreasingBy (λ (v : Sent). v.mark.time) ws) (sym is)
      (IsNonDecreasingBy-push (λ (v : Sent). v.mark.time) r.sent w k.sent (λ d more. omega (arith, le, k.sent_last d (omega (arith, more)))));
  sent_last = λ d more.
      let place : length sent - 1 ≡ length r.sent = omega (arith, ap (λ (ws : List Sent). length ws) is, length_push r.sent w) in
      let last : get_or sent (length sent - 1) d ≡ w =
      ap (λ (n : ℕ). get_or sent n d) place ∙ ap (λ (ws : List Sent). get_or ws (length r.sent) d) is ∙ get_or_push r.sent w d (length r.sent) refl in
      let same : (get_or sent (length sent - 1) d).mark.time ≡ w.mark.time = ap (λ (v : Sent). v.mark.time) last in
      omega (arith, same);
}

-- ---- filtered lists

-- the times of marks that are taken do not fall
pub taken_rise : {X : Type 0} (p : X → Bool) (m : X → Mark) (xs : List X) (d : X) → IsNonDecreasingBy (λ x. (m x).time) xs → IsNonDecreasingBy (λ (a : Mark). a.time) (map m (filter p xs))
taken_rise p m xs d rise =
    let kept = IsNonDecreasingBy-filter (λ x. (m x).time) p xs rise in
    λ i j e le lt.
    let within : j < length (filter p xs) = omega (arith, lt, length-map (filter p xs) m) in
    let first : get_or (map m (filter p xs)) i e ≡ m (get_or (filter p xs) i d) = get_or-map m (filter p xs) i d e (omega arith) in
    let second : get_or (map m (filter p xs)) j e ≡ m (get_or (filter p xs) j d) = get_or-map m (filter p xs) j d e within in
    rw first (rw second (kept i j d le within))
