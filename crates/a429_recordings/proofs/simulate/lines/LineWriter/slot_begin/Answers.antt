use Rattle.std.proofs.Common.{◌≡◌, ◌∙◌, ◌++◌, ◌+◌, ℕ, List, ap, ap₂, append-nil, append_assoc, arith, drop, refl, sym}
use Rattle.std.specs.Fmt.{decimal}
use Rattle.a429_slots.specs.Times.{slots_us}
use Rattle.a429_console.specs.Names.{name_at, naming_of}
use Rattle.a429_recordings.specs.CellLines.{begin_of, bus_separator}
use Rattle.a429_recordings.specs.Simulating.{separator}
use Rattle.a429_recordings.specs.Timeline.{rate_of}
use Rattle.a429_recordings.proofs.simulate.lines.LineWriter.slot_begin.Goals as goal

pub returns : goal.returns
returns c =
    let q = c.args.self.now.proposal in
    let style = c.args.self.now.style in
    let g : ℕ = c.args.group in
    let t : ℕ = c.args.slot in
    let name = name_at (naming_of q.station).groups g in
    let start : c.micros_of-start.result ≡ slots_us (rate_of q g) t = c.micros_of-start.ensures.value ∙ ap (λ (r : ℕ). slots_us r t) c.rate_of-rate.ensures.rate in
    let end : c.micros_of-end.result ≡ slots_us (rate_of q g) (t + 1) = c.micros_of-end.ensures.value ∙ ap (λ (r : ℕ). slots_us r (t + 1)) c.rate_of-rate.ensures.rate in
    let first : drop c.put_bus_separator-at.result c.put_bus_separator-at.new.room ≡ bus_separator style = c.put_bus_separator-at.ensures.written ∙ append-nil (bus_separator style) in
    let named : drop c.put_text-at.result c.put_text-at.new.room ≡ name ++ bus_separator style = c.put_text-at.ensures.written ∙ ap₂ (λ (x y : List ℕ). x ++ y) c.group_name.ensures.name first in
    let second : drop c.put_separator-at.result c.put_separator-at.new.room ≡ separator style ++ (name ++ bus_separator style) =
    c.put_separator-at.ensures.written ∙ ap (λ (xs : List ℕ). separator style ++ xs) named in
    let whole : begin_of q style g t ≡ decimal (slots_us (rate_of q g) t) ++ (separator style ++ (name ++ bus_separator style)) = simp append_assoc in
    record {
      group = refl;
      slot = refl;
      room = omega (arith, c.put_bus_separator-at.ensures.size, c.put_text-at.ensures.size, c.put_separator-at.ensures.size, c.put_decimal-at.ensures.size);
      within = omega (arith, c.put_bus_separator-at.ensures.start, c.put_text-at.ensures.start, c.put_separator-at.ensures.start, c.put_decimal-at.ensures.start);
      short = omega (arith, c.put_bus_separator-at.ensures.start, c.put_text-at.ensures.start, c.put_separator-at.ensures.start, c.put_decimal-at.ensures.start, c.group_name.ensures.short);
      begin_is = c.put_decimal-at.ensures.written ∙ (ap₂ (λ (n : ℕ) (xs : List ℕ). decimal n ++ xs) start second ∙ sym whole);
      end_is = end;
    }
