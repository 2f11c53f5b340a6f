use Rattle.a429_logs.proofs.CalendarDays.{known_dates}
use Rattle.a429_logs.proofs.laws.dates_are_known.Goals as goal

pub returns : goal.returns
returns c = known_dates
