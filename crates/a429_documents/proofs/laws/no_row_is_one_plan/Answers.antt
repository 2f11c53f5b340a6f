use Rattle.a429_documents.proofs.OnePlan.{no_rows}
use Rattle.a429_documents.proofs.SamePlans.{one_interval, one_station, one_text}
use Rattle.a429_documents.proofs.laws.no_row_is_one_plan.Goals as goal

pub returns : goal.returns
returns c = λ a b all P. (
  (λ none. record {
    text = one_text a b all P.sound P.other_sound P.plan P.other_plan none;
    station = one_station a b all P.sound P.other_sound P.plan P.other_plan none;
    intervals = one_interval a b all P.sound P.other_sound P.plan P.other_plan none;
  }),
  (λ one.
      no_rows a b (record { sound = P.sound; plan = P.plan }) (record { sound = P.other_sound; plan = P.other_plan }) c.fewest_by_demand.ensures.only one.text one.station one.intervals all),
)
