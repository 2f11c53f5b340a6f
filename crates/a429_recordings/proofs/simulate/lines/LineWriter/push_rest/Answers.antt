use Rattle.std.proofs.Common.{◌≡◌, ◌∙◌, ◌++◌, ◌-◌, ◌+◌, ℕ, List, ap, ap₂, append-nil, append_assoc, arith, drop, length-drop, take}
use Rattle.std.specs.Prelude.{Result, Ok, Err, OnOk, if◌then◌else◌, is_ok}
use Rattle.std.proofs.lemmas.List.{take_all}
use Rattle.a429_slots.specs.Times.{slots_us}
use Rattle.a429_slots.specs.Proposed.{Proposed}
use Rattle.a429_recordings.specs.CellLines.{begin_of, rest_of}
use Rattle.a429_recordings.specs.Simulating.{sent_line}
use Rattle.a429_recordings.specs.Timeline.{rate_of}
use Rattle.a429_recordings.specs.declared.simulate.lines.LineStyle.{LineStyle}
use Rattle.a429_recordings.specs.declared.simulate.lines.LineStyle.TheVariants as style
use Rattle.a429_recordings.specs.declared.simulate.machine.SentWord.{SentWord}
use Rattle.a429_recordings.proofs.simulate.lines.LineWriter.push_rest.Goals as goal

-- the line of a word that is sent, by its two parts
parts_are : (q : Proposed) (style : LineStyle) (s : SentWord)
    → begin_of q style s.group s.send.slot ++ rest_of q style s.bus s.raw s.source (slots_us (rate_of q s.group) (s.send.slot + 1) - s.send.time) ≡ sent_line q style s
parts_are q style.Spaces s = simp append_assoc
parts_are q style.Commas s = simp append_assoc
parts_are q style.Log s = simp append_assoc

gained : {T E : Type 0} (result : Result T E) (old new line other : List ℕ) → new ≡ (if is_ok result then old ++ other else old) → other ≡ line → OnOk result (new ≡ old ++ line)
gained (Ok x) old new line other is same = is ∙ ap (λ (xs : List ℕ). old ++ xs) same
gained (Err e) old new line other is same = tt

pub returns-clause-line : goal.returns-clause-line
returns-clause-line c =
    let q = c.args.self.now.proposal in
    let style = c.args.self.now.style in
    let s = c.args.sent in
    let b = c.args.begin.now in
    let B = c.requires.begin in
    let age : c.saturating_sub-age.result ≡ slots_us (rate_of q s.group) (s.send.slot + 1) - s.send.time = c.saturating_sub-age.ensures ∙ ap (λ (n : ℕ). n - s.send.time) B.end_is in
    let rest : drop c.put_rest-at.result c.put_rest-at.new.room ≡ rest_of q style s.bus s.raw s.source (slots_us (rate_of q s.group) (s.send.slot + 1) - s.send.time) =
    c.put_rest-at.ensures.written ∙ (append-nil (rest_of q style s.bus s.raw s.source c.saturating_sub-age.result) ∙ ap (rest_of q style s.bus s.raw s.source) age) in
    let begin : take (64 - b.at) (drop b.at b.room) ≡ begin_of q style s.group s.send.slot = take_all (64 - b.at) (drop b.at b.room) (omega (arith, length-drop b.at b.room, B.room)) ∙ B.begin_is in
    let all = sent_line q style s in
    let line : drop c.put_text-at.result c.put_text-at.new.room ≡ all = c.put_text-at.ensures.written ∙ (ap₂ (λ (x y : List ℕ). x ++ y) begin rest ∙ parts_are q style s) in
    let at : ℕ = c.put_text-at.result in
    let room = c.put_text-at.new.room in
    let part : take (128 - at) (drop at room) ≡ drop at room =
    take_all (128 - at) (drop at room) (omega (arith, length-drop at room, c.put_text-at.ensures.size, c.put_rest-at.ensures.size)) in
    gained c.extend_from_slice.result c.args.text.now.items c.extend_from_slice.new.self.items all (take (128 - at) (drop at room)) c.extend_from_slice.ensures.items (part ∙ line)
