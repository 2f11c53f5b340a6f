-- What is put of a command's reply or refusal.
use Rattle.std.proofs.Common.{◌≡◌, ◌≤◌, ℕ, List, inl, inr, sym, subst}
use Rattle.std.specs.Prelude.{Option, Result, Ok, Err, IfOk, OnOk}
use Rattle.std.specs.Io.KnownBytes.{Appends}
use Rattle.a429_console.specs.Outputs.{IsPut}
use Rattle.a429_console.specs.RefusalText.{OrMemory}
use Rattle.a429_console.specs.WholeReplies.{IsReplyBy, IsReplyPut, Replies}
use Rattle.a429_console.specs.declared.refusals.CommandRefusal.{CommandRefusal}
use Rattle.a429_console.specs.declared.reply.Reply.{Reply}
use Rattle.a429_console.proofs.Refused.{or_memory_weaker, told_or_memory}

-- a text was put whole with the status that is due to it
pub done_put : {E : Type 0} (result : Result ℕ E) (Says : ℕ → List ℕ → Type 0) (old new : Option (List ℕ)) (put text : List ℕ) (due : ℕ) → put ≡ text → Says due text
    → IfOk result (λ status. status ≡ due) → OnOk result (Appends old new put) → IfOk result (IsPut Says old new)
done_put (Ok status) Says old new put text due is says one appended =
    (text, subst (λ (n : ℕ). Says n text) (sym one) says, subst (λ (t : List ℕ). Appends old new t) is appended)
done_put (Err e) Says old new put text due is says one appended = tt

pub done_is_few : {E : Type 0} (result : Result ℕ E) (due most : ℕ) → due ≤ most → IfOk result (λ status. status ≡ due) → IfOk result (λ status. status ≤ most)
done_is_few (Ok status) due most few is = subst (λ (n : ℕ). n ≤ most) (sym is) few
done_is_few (Err e) due most few is = tt

-- what is put of a result is what the command prints
pub reply_by : (trouble : ℕ) (Says : ℕ → List ℕ → Type 0) (Stands : CommandRefusal → Type 0) (result : Result Reply CommandRefusal) (status : ℕ) (bytes : List ℕ) → Replies Says Stands result
    → IsReplyPut trouble result status bytes → IsReplyBy trouble Says Stands status bytes
reply_by trouble Says Stands (Ok reply) status bytes says (is, same) =
    inr (subst (λ (n : ℕ). Says n bytes) (sym is) (subst (λ (t : List ℕ). Says reply.status t) (sym same) says))
reply_by trouble Says Stands (Err refusal) status bytes why (told, is, one, line) = inl (told, told_or_memory Stands refusal told is why, one, line)

-- a reply by these is one by those that follow from them
pub replies_weaker : (Says Tells : ℕ → List ℕ → Type 0) (Stands Holds : CommandRefusal → Type 0) (result : Result Reply CommandRefusal)
    → ((status : ℕ) (bytes : List ℕ) → Says status bytes → Tells status bytes) → ((e : CommandRefusal) → Stands e → Holds e) → Replies Says Stands result → Replies Tells Holds result
replies_weaker Says Tells Stands Holds (Ok reply) more other says = more reply.status reply.bytes.items says
replies_weaker Says Tells Stands Holds (Err e) more other why = or_memory_weaker Stands Holds e (other e) why
