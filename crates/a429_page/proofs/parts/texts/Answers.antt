use Rattle.std.proofs.Common.{rules, ◌≡◌, ◌∙◌, false, true, ℕ, List, [], Bor, get_or}
use Rattle.std.specs.Str.{IsUtf8, is_utf8}
use Rattle.std.proofs.lemmas.Bool.{false_from_ne_true}
use Rattle.std.proofs.lemmas.List.Folds.{list_all_at, list_all-map}
use Rattle.std.proofs.lemmas.Str.{IsUtf8-from_is_utf8}
use Rattle.a429_page.proofs.parts.texts.Goals as goal

pub returns-in_default-clause-unstated : goal.returns-in_default-clause-unstated
returns-in_default-clause-unstated c is =
    let word : Bor (List ℕ) = get_or c.args.words.now c.loop-word.word-index (record { ref_ptr = (0, 0); now = [] }) in
    let not_text : is_utf8 word.now ≡ false = false_from_ne_true _ (λ e. c.in_default.ensures.cases.0 (IsUtf8-from_is_utf8 word.now e)) in
    list_all-map is_utf8 (λ (w : Bor (List ℕ)). w.now) c.args.words.now
    ∙ list_all_at (λ (w : Bor (List ℕ)). is_utf8 w.now) c.args.words.now c.loop-word.word-index (record { ref_ptr = (0, 0); now = [] }) c.loop-word-test.true not_text
