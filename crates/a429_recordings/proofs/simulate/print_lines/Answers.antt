use Rattle.std.proofs.Common.{◌++◌, ◌∷◌, [], ℕ, List, inl, inr, refl, subst, sym}
use Rattle.std.specs.Io.KnownBytes.{Appends, append_known}
use Rattle.a429_console.specs.Outputs.{ending, memory_refused}
use Rattle.a429_console.proofs.Refused.{both_ok}
use Rattle.a429_recordings.specs.SimulationReplies.{IsPrinting, heading}
use Rattle.a429_recordings.proofs.SimulationPrinted.{heading_first, printed_ended}
use Rattle.a429_recordings.proofs.simulate.print_lines.Goals as goal

pub returns-in_default-clause-printed : goal.returns-in_default-clause-printed
returns-in_default-clause-printed g c = λ words last B.
    both_ok c.refuse_memory.result _ _ (λ status is put. (memory_refused ++ 10 ∷ [], inr (is, refl), put)) c.refuse_memory.ensures.status c.refuse_memory.ensures.line

pub returns-clause-printed : goal.returns-clause-printed
returns-clause-printed g c = λ words last B.
    let q = c.args.simulation.now.writer.proposal in
    let style = c.args.simulation.now.writer.style in
    let all = c.in_ok-sufficed.sufficed in
    let (bytes, printed, put) = c.in_ok-sufficed.ensures.put words last B in
    let whole = (heading style ++ bytes) ++ ending all in
    let lines : Appends (append_known (g.O.Output.contents c.args.out.now) (heading style)) (append_known (g.O.Output.contents c.put_lines.new.out) c.put_lines.new.lines.text.items) bytes =
    subst (λ (head : List ℕ). Appends (append_known (g.O.Output.contents c.args.out.now) head) (append_known (g.O.Output.contents c.put_lines.new.out) c.put_lines.new.lines.text.items) bytes) c.in-Ok.ensures.text put in
    both_ok c.finish.result _ _ (λ status is sent. (
      whole,
      inl (subst (λ (n : ℕ). IsPrinting q words last style n whole) (sym is) (printed_ended q words last style all bytes printed)),
      heading_first (g.O.Output.contents c.args.out.now) _ _ (heading style) c.put_lines.new.lines.text.items bytes (ending all) lines (rw c.deref.ensures.value at sent),
    ))
    c.finish.ensures.status c.finish.ensures.put
