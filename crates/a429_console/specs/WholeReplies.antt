-- Commands that print nothing before they have their whole answer: the reply or the refusal, and what is put of it (profile: output).
use Rattle.std.specs.Prelude.{◌≡◌, ◌∷◌, [], ◌++◌, ◌⊎◌, ℕ, List, Bool, Result, MatchResult, Ok, Err, if◌then◌else◌}
use Rattle.a429_console.specs.RefusalText.{IsToldOf, OrMemory, refusal_line}
use Rattle.a429_console.specs.declared.refusals.CommandRefusal.{CommandRefusal}
use Rattle.a429_console.specs.declared.reply.Reply.{Reply}

-- a reply as Says, a relation of status and bytes, has it; or a refusal that `Stands` allows, or that an allocation failed
abbrev pub Replies : (ℕ → List ℕ → Type 0) → (CommandRefusal → Type 0) → Result Reply CommandRefusal → Type 0
Replies Says Stands result = MatchResult result (λ reply. Says reply.status reply.bytes.items) (OrMemory Stands)

-- what a command prints, and its status: what Says has, or the line of a refusal that `Stands` allows, with the status of trouble
abbrev pub IsReplyBy : ℕ → (ℕ → List ℕ → Type 0) → (CommandRefusal → Type 0) → ℕ → List ℕ → Type 0
IsReplyBy trouble Says Stands status bytes =
    ((refusal : CommandRefusal) × OrMemory Stands refusal × (status ≡ trouble) × (bytes ≡ refusal_line refusal ++ 10 ∷ [])) ⊎ Says status bytes

-- what is put of a reply or of a refusal, and the status
abbrev pub IsReplyPut : ℕ → Result Reply CommandRefusal → ℕ → List ℕ → Type 0
IsReplyPut trouble (Ok reply) status bytes = (status ≡ reply.status) × (bytes ≡ reply.bytes.items)
IsReplyPut trouble (Err refusal) status bytes = (told : CommandRefusal) × IsToldOf refusal told × (status ≡ trouble) × (bytes ≡ refusal_line told ++ 10 ∷ [])

-- such bytes, with status 0
abbrev pub IsDone : (List ℕ → Type 0) → ℕ → List ℕ → Type 0
IsDone Says status bytes = Says bytes × (status ≡ 0)

-- 1 if something is found
abbrev pub finding_status : Bool → ℕ
finding_status found = if found then 1 else 0
