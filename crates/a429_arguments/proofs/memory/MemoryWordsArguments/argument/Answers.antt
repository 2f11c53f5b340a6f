use Rattle.std.proofs.Common.{◌∙◌, ◌++◌, ℕ, List, Some, ap, drop, length, refl, sym, take}
use Rattle.std.proofs.lemmas.List.{take_at}
use Rattle.std.proofs.lemmas.Option.{slice_get-map, slice_get_read}
use Rattle.std.specs.Borrow.{Bor}
use Rattle.std.specs.Prelude.{option_map}
use Rattle.a429_arguments.proofs.memory.MemoryWordsArguments.argument.Goals as goal

pub returns-clause-given : goal.returns-clause-given
returns-clause-given c =
    let words = c.args.self.now.words.now in
    let word = c.in-Some.word.now in
    let rest = drop (length word.now) c.args.room.now in
    let now = λ (w : Bor (List ℕ)). w.now in
    let read = slice_get_read words (length words) c.args.place word refl c.in-Some.ensures.lookup.3.0 c.in-Some.ensures.lookup.1 in
    let front = ap (λ (bs : List ℕ). take (length word.now) (bs ++ rest)) c.copy_from_slice.ensures.after ∙ take_at word.now rest (length word.now) refl in
    slice_get-map now words c.args.place ∙ (ap (option_map now) read ∙ ap (λ (bs : List ℕ). Some bs) (sym front))
