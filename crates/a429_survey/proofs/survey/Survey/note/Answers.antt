use Rattle.std.proofs.Common.{◌+◌, ◌<◌, ◌++◌, ◌∷◌, [], ◌∙◌, List, refl, ap, sym, subst, arith, rules, length}
use Rattle.std.specs.Prelude.{string_bytes}
use Rattle.a429_survey.specs.Figures.{Noted}
use Rattle.a429_survey.specs.Kept.{IsKept, with_line}
use Rattle.a429_survey.specs.Past.{words_in}
use Rattle.a429_survey.proofs.Kept.{kept_more, kept_order, name_stays, place_stays, words_more}
use Rattle.a429_survey.proofs.survey.Survey.note.Goals as goal

pub note_word-requires : goal.note_word-requires
note_word-requires c = kept_order (words_in c.self.inside.past) c.self.inside.lines.items c.self.inside.count c.self.invariant

pub index-line-requires : goal.index-line-requires
index-line-requires c =
    let within : c.in-Ok.place < length c.note_word.new.lines.items = place_stays (with_line c.args.name.now c.self.inside.lines.items) c.note_word.new.lines.items c.in-Ok.place c.args.time c.args.raw c.args.name.now c.in-Ok.ensures.named c.in-Ok.ensures.noted in
    search rules

pub invariant_of-self-2 : goal.invariant_of-self-2
invariant_of-self-2 c =
    let text = name_stays (with_line c.args.name.now c.self.inside.lines.items) c.note_word.new.lines.items c.in-Ok.place c.args.time c.args.raw c.args.name.now (string_bytes c.name.result.now) c.index-line.result.now c.in-Ok.ensures.named c.in-Ok.ensures.noted c.index-line.ensures c.name.ensures in
    let words = words_more (words_in c.add.new.self) (words_in c.self.inside.past) c.args.time c.args.raw (string_bytes c.name.result.now) c.args.name.now text c.add.ensures in
    subst (λ (ws : List Noted). IsKept ws c.note_word.new.lines.items (c.self.inside.count + 1)) (sym words)
    (kept_more (words_in c.self.inside.past) c.self.inside.lines.items (with_line c.args.name.now c.self.inside.lines.items) c.note_word.new.lines.items c.self.inside.count c.in-Ok.place c.args.time c.args.raw c.args.name.now
    c.self.invariant (grind arith) refl c.in-Ok.ensures.named c.in-Ok.ensures.noted)

pub returns-clause-noted : goal.returns-clause-noted
returns-clause-noted c =
    let text = name_stays (with_line c.args.name.now c.self.inside.lines.items) c.note_word.new.lines.items c.in-Ok.place c.args.time c.args.raw c.args.name.now (string_bytes c.name.result.now) c.index-line.result.now c.in-Ok.ensures.named c.in-Ok.ensures.noted c.index-line.ensures c.name.ensures in
    words_more (words_in c.add.new.self) (words_in c.self.inside.past) c.args.time c.args.raw (string_bytes c.name.result.now) c.args.name.now text c.add.ensures
    ∙ ap (λ (ws : List Noted). ws ++ record { time = c.args.time; name = c.args.name.now; raw = c.args.raw } ∷ []) c.self.view_is
