use Rattle.std.proofs.Common.{◌≡◌, ◌∙◌, ◌++◌, ◌∷◌, [], ℕ, List, ap, refl, sym, subst, append-nil}
use Rattle.std.specs.Io.KnownBytes.{Appends, append_known}
use Rattle.std.proofs.lemmas.List.Concat.{flat_map-append}
use Rattle.a429_recordings.specs.Simulating.{line_of, text_of}
use Rattle.a429_recordings.proofs.Played.{played_part}
use Rattle.a429_replay.proofs.PutLines.{Appends-text, Appends-then}
use Rattle.a429_recordings.proofs.simulate.put_lines.Goals as goal

pub returns-in_default-push-clause-put : goal.returns-in_default-push-clause-put
returns-in_default-push-clause-put g c = λ words last B.
    let q = c.args.writer.now.proposal in
    let style = c.args.writer.now.style in
    let (told, H, put) = c.loop-happening.invariant.put words last B in
    let (M, n, begun, first) = played_part q words last told c.in-Some.happening c.next.new.self (c.in-Some.ensures.told words last told H) in (
      text_of q style told,
      (M, n, begun, ap (text_of q style) first),
      rw c.in_default-push.ensures.kept put,
    )

pub loop-happening-preserved : goal.loop-happening-preserved
loop-happening-preserved g c = record {
  put = λ words last B.
      let q = c.args.writer.now.proposal in
      let style = c.args.writer.now.style in
      let h = c.in-Some.happening in
      let (told, H, put) = c.loop-happening.invariant.put words last B in
      let line = line_of q style h in
      let more : text_of q style (told ++ h ∷ []) ≡ text_of q style told ++ line =
      flat_map-append (line_of q style) told (h ∷ []) ∙ ap (λ (l : List ℕ). text_of q style told ++ l) (append-nil line) in
      let known = λ (out : g.row.O.Denot) (text : List ℕ). append_known (g.O.Output.contents out) text in
      let before = known c.args.out.now c.args.lines.now.text.items in
      let old = known c.loop-happening.out c.loop-happening.lines.text.items in
      let pushed = known c.loop-happening.out c.push.new.lines.text.items in
      let after = known c.put_if_full.new.out c.put_if_full.new.text.items in
      let one : Appends old pushed line = rw c.in-Ok.ensures.line (Appends-text (g.O.Output.contents c.loop-happening.out) c.loop-happening.lines.text.items line) in
      let out : Appends old after line = rw (append-nil line) at (Appends-then old pushed after line [] one c.in_ok-put_if_full.ensures.put) in (
        told ++ h ∷ [],
        c.in-Some.ensures.told words last told H,
        subst (Appends before after) (sym more) (Appends-then before old after (text_of q style told) line put out),
      );
  playable = c.in-Some.ensures.playable;
  begin = c.in-Ok.ensures.begin;
  kept = c.in_ok-put_if_full.ensures.faults ∙ c.loop-happening.invariant.kept;
}

pub returns-clause-put : goal.returns-clause-put
returns-clause-put g c = λ words last B.
    let (told, H, put) = c.loop-happening.invariant.put words last B in
    (text_of c.args.writer.now.proposal c.args.writer.now.style told, (told, c.in_default.ensures.told words last told H, refl), put)
