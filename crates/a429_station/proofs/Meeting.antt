-- A transmitter meets one receiver after another.
use Rattle.std.proofs.Common.{◌≡◌, ◌∙◌, ℕ, ◌<◌, List, [], ◌∷◌, ◌++◌, length, drop, map, ap, subst, sym, refl, arith, append-nil, append_assoc}
use Rattle.std.specs.List.{AllByRecursion}
use Rattle.std.proofs.Math.Seq.{drop-append_seam}
use Rattle.std.proofs.lemmas.List.{map-append}
use Rattle.a429_word.proofs.Lists.{all_push}
use Rattle.a429_equipment.specs.declared.loads.Load.{Load}
use Rattle.a429_equipment.specs.TableRecord.{TableRecord}
use Rattle.a429_equipment.specs.Agreement.{Agrees, AgreesToTheEnd, loads_of_all}
use Rattle.a429_values.specs.Ends as ends
use Rattle.a429_values.specs.Later.{OthersStayAgreed}
use Rattle.a429_workers.specs.Calls.{Call, Meets}
use Rattle.a429_workers.specs.Transmitting.{Transmitting, GoesOnByCalls, StandsForCalls, loads_since, met}
use mathlib.Core.List.{IsPrefix}
use Rattle.a429_slots.specs.Tables.{PlanTable}
use Rattle.a429_station.specs.Numbered.{AllNumbered}
use Rattle.a429_station.specs.Working.{HasMet, IsJoined, IsReceiverAt, meeting_of, told}

pub met_none : (t : TableRecord) (v : Transmitting) → HasMet t [] v v
met_none t v = record {
  stands = λ b made S. subst (λ (cs : List Call). StandsForCalls b cs v) (sym (append-nil made)) S;
  rest = refl;
  hub = refl;
  agree = tt;
}

others_agree : (t : TableRecord) (k : ℕ) (before after : List Load) (rs : List ends.ReceiverEnd) → OthersStayAgreed t k before after → AllByRecursion (λ r. r.number < k) rs
    → AllByRecursion (λ r. Agrees t r.number r.accepted before) rs → AllByRecursion (λ r. Agrees t r.number r.accepted after) rs
others_agree t k before after [] stay low all = tt
others_agree t k before after (r ∷ rs) stay low all = (
  (all.0.0, stay r.number all.0.0 r.accepted (λ e. omega (arith, low.0, e)) all.0.1),
  others_agree t k before after rs stay low.1 all.1,
)

-- the loads that were made in a meeting
loads_met : (v w : Transmitting) (r : ends.ReceiverEnd) → w ≡ met v r → loads_since v w ≡ loads_of_all v.transmitter.at.station r.number r.accepted
loads_met v w r is =
    let loads : w.transmitter.loads ≡ v.transmitter.loads ++ loads_of_all v.transmitter.at.station r.number r.accepted = ap (λ (x : Transmitting). x.transmitter.loads) is in
    ap (drop (length v.transmitter.loads)) loads ∙ drop-append_seam v.transmitter.loads (loads_of_all v.transmitter.at.station r.number r.accepted)

pub met_more : (t : TableRecord) (rs : List ends.ReceiverEnd) (r : ends.ReceiverEnd) (u v w : Transmitting) → HasMet t rs u v → v.transmitter.at.station ≡ t → AllByRecursion (λ x. x.number < r.number) rs
    → GoesOnByCalls v (Meets (loads_since v w) ∷ []) w → w ≡ met v r → AgreesToTheEnd v.transmitter.at.station r.number r.accepted w.transmitter.loads
    → OthersStayAgreed v.transmitter.at.station r.number v.transmitter.loads w.transmitter.loads → HasMet t (rs ++ r ∷ []) u w
met_more t rs r u v w M here low stands is agrees others =
    let call : Meets (loads_since v w) ≡ meeting_of t r = ap (λ (ls : List Load). Meets ls) (loads_met v w r is) ∙ ap (λ (x : TableRecord). Meets (loads_of_all x r.number r.accepted)) here in
    let calls : map (meeting_of t) rs ++ Meets (loads_since v w) ∷ [] ≡ map (meeting_of t) (rs ++ r ∷ []) =
    ap (λ (c : Call). map (meeting_of t) rs ++ c ∷ []) call ∙ sym (map-append (meeting_of t) rs (r ∷ [])) in
    let one : Agrees t r.number r.accepted w.transmitter.loads = subst (λ (x : TableRecord). Agrees x r.number r.accepted w.transmitter.loads) here (agrees.0, agrees.1) in
    record {
      stands = λ b made S.
          subst (λ (cs : List Call). StandsForCalls b cs w) (append_assoc made (map (meeting_of t) rs) (Meets (loads_since v w) ∷ []) ∙ ap (λ (cs : List Call). made ++ cs) calls)
          (stands b (made ++ map (meeting_of t) rs) (M.stands b made S));
      rest = is ∙ (ap (λ (x : Transmitting). record x { transmitter = (met v r).transmitter }) M.rest ∙ ap (λ (x : Transmitting). record u { transmitter = x.transmitter }) (sym is));
      hub = ap (λ (x : Transmitting). x.transmitter.at) is ∙ M.hub;
      agree = all_push (λ x. Agrees t x.number x.accepted w.transmitter.loads) rs r
          (others_agree t r.number v.transmitter.loads w.transmitter.loads rs (subst (λ (x : TableRecord). OthersStayAgreed x r.number v.transmitter.loads w.transmitter.loads) here others) low M.agree) one;
    }

pub joined_one : (t : TableRecord) (list : List PlanTable) (rs : List ends.ReceiverEnd) (v w z : Transmitting) → IsPrefix v.watcher.list list → GoesOnByCalls v [] w → w ≡ told v list → v.transmitter.at.station ≡ t
    → HasMet w.transmitter.at.station rs w z → IsJoined t list rs v
joined_one t list rs v w z beginning stands is here met = record {
  beginning = beginning;
  stands = subst (GoesOnByCalls v []) is stands;
  end = z;
  met = subst (λ (x : Transmitting). HasMet t rs x z) is (subst (λ (x : TableRecord). HasMet x rs w z) (ap (λ (x : Transmitting). x.transmitter.at.station) is ∙ here) met);
}

pub receivers_there : (at : ends.Place) (list : List PlanTable) (v w : Transmitting) (rs later : List ends.ReceiverEnd) → w ≡ told v list → v.transmitter.at ≡ at → later ≡ rs → AllNumbered (IsReceiverAt at) rs
    → AllNumbered (IsReceiverAt w.transmitter.at) later
receivers_there at list v w rs later is here same all =
    subst (λ (x : ends.Place). AllNumbered (IsReceiverAt x) later) (sym (ap (λ (x : Transmitting). x.transmitter.at) is ∙ here)) (subst (AllNumbered (IsReceiverAt at)) (sym same) all)
