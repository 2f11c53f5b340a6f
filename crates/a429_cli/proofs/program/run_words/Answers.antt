use Rattle.std.proofs.Common.{◌≡◌, ◌∙◌, ap, inl, map, string_bytes, subst, sym, true, false, ℕ, Bool, List}
use Rattle.std.specs.Prelude.{Option}
use Rattle.a429_arguments.specs.Texts.{texts_of}
use Rattle.a429_console.specs.Ends.{Writing}
use Rattle.a429_cli.specs.ProgramRuns.{IsCallDone, IsDoneOrRefused, Reader, is_live}
use Rattle.a429_cli.proofs.WholeAnswers.{least_trouble}
use Rattle.a429_cli.proofs.program.run_words.Goals as goal

-- a call with other texts that are the same words does what is asked of the words
by_words : {X Y : Type 0} (live : Bool) (texts words : List (List ℕ)) (reader : Reader) (Reads : ((List ℕ → Option (List ℕ)) → Type 0) → Type 0) (out : Writing X) (err : Writing Y) (status : ℕ)
    → texts ≡ words → is_live words ≡ live → IsCallDone live texts reader Reads out err status → IsDoneOrRefused words reader Reads out err status
by_words live texts words reader Reads out err status same is done =
    inl (subst (λ (l : Bool). IsCallDone l words reader Reads out err status) (sym is) (subst (λ (w : List (List ℕ)). IsCallDone live w reader Reads out err status) same done))

pub returns-then-is_live : goal.returns-then-is_live
returns-then-is_live g c =
    let asked : texts_of c.deref.result.now ≡ map string_bytes c.args.words.now = ap texts_of c.deref.ensures.value ∙ c.in-Ok.ensures in
    let words : texts_of c.deref-then-is_live.result.now ≡ map string_bytes c.args.words.now = ap texts_of c.deref-then-is_live.ensures.value ∙ c.in-Ok.ensures in
    by_words true (texts_of c.deref-then-is_live.result.now) (map string_bytes c.args.words.now) _ _ _ _ c.command_live.result words (ap is_live (sym asked) ∙ (sym c.is_live.ensures ∙ c.if-is_live.true))
    record {
      answered = λ r here asks. (least_trouble r.verb c.command_live.result (c.command_live.ensures.asked r here asks), λ tells whole. c.command_live.ensures.replied r here asks tells whole);
      read = c.command_live.ensures.read;
      quiet = c.command_live.ensures.quiet;
      ends = c.command_live.ensures.ends;
    }

pub returns : goal.returns
returns g c =
    let asked : texts_of c.deref.result.now ≡ map string_bytes c.args.words.now = ap texts_of c.deref.ensures.value ∙ c.in-Ok.ensures in
    let words : texts_of c.deref-else-is_live.result.now ≡ map string_bytes c.args.words.now = ap texts_of c.deref-else-is_live.ensures.value ∙ c.in-Ok.ensures in
    by_words false (texts_of c.deref-else-is_live.result.now) (map string_bytes c.args.words.now) _ _ _ _ c.command.result words (ap is_live (sym asked) ∙ (sym c.is_live.ensures ∙ c.if-is_live.false))
    record {
      answered = λ r here asks. (c.command.ensures.asked r here asks, λ tells whole. c.command.ensures.replied r here asks tells whole);
      read = c.command.ensures.read;
      quiet = c.command.ensures.quiet;
      ends = c.command.ensures.ends;
    }
