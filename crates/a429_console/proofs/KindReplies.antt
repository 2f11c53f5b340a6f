-- What is answered in place of a request, by the kinds that the words may come to.
use Rattle.std.proofs.Common.{◌≡◌, ◌≢◌, ◌⊎◌, [], ◌∷◌, ℕ, List, true, false, subst, inl, inr, arith}
use Rattle.std.specs.List.{list_all, list_any}
use Rattle.std.proofs.lemmas.Bool.{and_parts, or_parts}
use Rattle.clap.specs.Words.{HasKind, IsAmong, Kinds, kind_of}
use Rattle.clap.specs.declared.error.Error.{Error}
use Rattle.clap.specs.declared.error.kind.ErrorKind.{ErrorKind}
use Rattle.clap.specs.declared.error.kind.ErrorKind.TheVariants.{DisplayHelp, DisplayVersion, OutOfMemory}
use Rattle.a429_console.specs.Outputs.{FailedCalls, OrNoMemory}
use Rattle.a429_arguments.specs.Usage.{is_help}
use Rattle.a429_console.specs.UsageReplies.{IsHelpReply, IsReplyOfKind, IsUsageReply}

among_all : (k : ErrorKind) (ks : Kinds) → IsAmong k ks → list_all is_help ks ≡ true → is_help k ≡ true
among_all k [] among all = absurd among
among_all k (x ∷ ks) (inl is) all = rw is (and_parts _ _ all).0
among_all k (x ∷ ks) (inr among) all = among_all k ks among (and_parts _ _ all).1

among_any : (k : ErrorKind) (ks : Kinds) → IsAmong k ks → list_any is_help ks ≡ false → is_help k ≡ false
among_any k [] among none = absurd among
among_any k (x ∷ ks) (inl is) none = rw is (or_parts _ _ none).0
among_any k (x ∷ ks) (inr among) none = among_any k ks among (or_parts _ _ none).1

help_of_kind : (old new : FailedCalls) (k : ErrorKind) (status : ℕ) (bytes : List ℕ) → is_help k ≡ true → IsReplyOfKind old new k status bytes → OrNoMemory IsHelpReply status bytes
help_of_kind old new DisplayHelp status bytes help reply = reply
help_of_kind old new DisplayVersion status bytes help reply = reply
help_of_kind old new _ status bytes help reply = cc

usage_of_kind : (old new : FailedCalls) (k : ErrorKind) (status : ℕ) (bytes : List ℕ) → is_help k ≡ false → IsReplyOfKind old new k status bytes → OrNoMemory (IsUsageReply old new) status bytes
usage_of_kind old new DisplayHelp status bytes none reply = cc
usage_of_kind old new DisplayVersion status bytes none reply = cc
usage_of_kind old new OutOfMemory status bytes none reply = inr reply
usage_of_kind old new _ status bytes none reply = reply

-- of a call for help
pub help_replied : (ks : Kinds) (e : Error) (old new : FailedCalls) → HasKind ks e → list_all is_help ks ≡ true → (status : ℕ) (bytes : List ℕ) → IsReplyOfKind old new (kind_of e) status bytes → OrNoMemory IsHelpReply status bytes
help_replied ks e old new (inl memory) all status bytes reply = inr (subst (λ (k : ErrorKind). IsReplyOfKind old new k status bytes) memory reply)
help_replied ks e old new (inr among) all status bytes reply = help_of_kind old new (kind_of e) status bytes (among_all (kind_of e) ks among all) reply

-- of a mistake
pub mistake_replied : (ks : Kinds) (e : Error) (old new : FailedCalls) → HasKind ks e → list_any is_help ks ≡ false → (status : ℕ) (bytes : List ℕ) → IsReplyOfKind old new (kind_of e) status bytes
    → OrNoMemory (IsUsageReply old new) status bytes
mistake_replied ks e old new (inl memory) none status bytes reply = inr (subst (λ (k : ErrorKind). IsReplyOfKind old new k status bytes) memory reply)
mistake_replied ks e old new (inr among) none status bytes reply = usage_of_kind old new (kind_of e) status bytes (among_any (kind_of e) ks among none) reply

-- the status of a mistake
pub mistake_is_told : (old new : FailedCalls) (status : ℕ) (bytes : List ℕ) → OrNoMemory (IsUsageReply old new) status bytes → status ≢ 0
mistake_is_told old new status bytes (inl (empty, inl told)) = let two : status ≡ 2 = told.0 in λ none. absurd (omega arith)
mistake_is_told old new status bytes (inl (empty, inr untold)) = let one : status ≡ 1 = untold.0 in λ none. absurd (omega arith)
mistake_is_told old new status bytes (inr memory) = let one : status ≡ 1 = memory.0 in λ none. absurd (omega arith)

-- a fact about a mistake, unless another fact holds
pub no_request_or : {A B : Type 0} (ks : Kinds) (e : Error) → HasKind ks e → A ⊎ ((kind_of e ≢ OutOfMemory) × B) → A ⊎ ((ks ≢ []) × B)
no_request_or ks e kind (inl a) = inl a
no_request_or ks e (inl memory) (inr (other, b)) = absurd (other memory)
no_request_or [] e (inr among) (inr (other, b)) = absurd among
no_request_or (k ∷ ks) e (inr among) (inr (other, b)) = inr ((λ empty. cc), b)
