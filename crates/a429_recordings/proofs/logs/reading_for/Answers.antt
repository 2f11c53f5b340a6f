use Rattle.std.proofs.Common.{◌∙◌, ap, refl}
use Rattle.a429_logs.specs.declared.reading.Reading.{Reading}
use Rattle.a429_logs.specs.Logs.{renames_of}
use Rattle.a429_recordings.specs.SimulationReplies.{clock_from}
use Rattle.a429_recordings.proofs.logs.reading_for.Goals as goal

pub returns : goal.returns
returns c =
    let ordered = c.with_order.ensures ∙ ap (λ (x : Reading). record x { order = c.order.result }) c.new.ensures.reading in
    let dated = c.with_dates.ensures ∙ ap (λ (x : Reading). record x { dates = c.dates.result }) ordered in
    let named = c.with_renames.ensures ∙ ap (λ (x : Reading). record x { renames = c.texts.result }) dated in
    record {
      unit = ap (λ (x : Reading). x.unit) named ∙ c.unit.ensures;
      order = ap (λ (x : Reading). x.order) named ∙ c.order.ensures;
      dates = ap (λ (x : Reading). x.dates) named ∙ c.dates.ensures;
      renames = ap renames_of named ∙ c.texts.ensures refl;
      shape = ap (λ (x : Reading). x.shape) named;
      has_rows = ap (λ (x : Reading). x.has_rows) named;
      calendar = ap (λ (x : Reading). x.calendar) named;
      clock = ap (λ (x : Reading). x.clock) named ∙ c.clock_from.ensures ∙ ap clock_from c.origin.ensures;
    }
