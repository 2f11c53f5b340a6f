use Rattle.std.proofs.Common.{refl, subst}
use Rattle.a429_station.specs.Resubmitting.{IsReplanFault}
use Rattle.a429_station.specs.declared.station.ReplanFault.TheVariants as replan
use Rattle.a429_live.proofs.control.answer_of_fault.Goals as goal

pub returns-in-StationDiffers : goal.returns-in-StationDiffers
returns-in-StationDiffers c = λ v table reads why.
    let differs : IsReplanFault v table replan.StationDiffers = subst (λ f. IsReplanFault v table f) c.in-StationDiffers.is why in
    ((record { station = differs.0.record_of; plan = differs.0.plan }, (differs.0.reads, differs.0.planned, differs.0.own), differs.1), refl)
