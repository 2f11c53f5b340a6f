-- A replay of status 0 came to its end.
use Rattle.std.proofs.Common.{inl, inr, ◌≡◌, ℕ, List, [], arith, subst, sym}
use Rattle.std.specs.Prelude.{Option}
use Rattle.std.proofs.lemmas.Option.{same_Some}
use Rattle.a429_arguments.specs.Requests.{asked_by_names}
use Rattle.a429_arguments.specs.declared.forms.Verb.TheVariants as verb
use Rattle.a429_cli.specs.Replies.{IsReplyOrMemory}
use Rattle.a429_replay.specs.Replaying.{IsPlayed}
use Rattle.a429_replay.specs.declared.views.View.{View}
use Rattle.a429_commands.specs.Replayed.{IsPlayedToTheEnd, all_answers}

pub played_to_the_end : (file : List ℕ → Option (List ℕ)) (table script bytes : List ℕ) (status : ℕ) → IsReplyOrMemory file (asked_by_names verb.Replay table script []) status bytes → status ≡ 0
    → IsPlayedToTheEnd file table script bytes
played_to_the_end file table script bytes status (inr memory) done = absurd (omega (arith, memory.0, done))
played_to_the_end file table script bytes status (inl (inl refused)) done = absurd (omega (arith, refused.2, done))
played_to_the_end file table script bytes status (inl (inr (i, read, (q, v, events, viewed, start, inl played)))) done =
    let all : v ≡ all_answers = same_Some v all_answers (sym viewed) in
    record { input = i; proposal = q; events = events; read = read; start = start; played = subst (λ (v : View). IsPlayed i v q events bytes) all played.0 }
played_to_the_end file table script bytes status (inl (inr (i, read, (q, v, events, viewed, start, inr (n, lines, played, one, told))))) done = absurd (omega (arith, one, done))
