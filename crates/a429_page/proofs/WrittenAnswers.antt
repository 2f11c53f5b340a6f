-- What two empty outputs have after a call of which no output failed.
use Rattle.std.proofs.Common.{◌≡◌, ◌∙◌, ◌++◌, [], ℕ, List, Some, ap, inl, inr, subst, sym}
use Rattle.a429_console.specs.Outputs.{FailedCalls, IsPut, NoneFailed, OrNoMemory}
use Rattle.a429_console.specs.UsageReplies.{IsUsageReply}
use Rattle.a429_console.proofs.Endings.{failure_shows}
use Rattle.a429_page.specs.Calls.{IsMistake}

-- what was put to an output without bytes is all that it has
pub all_is_put : (Says : ℕ → List ℕ → Type 0) (status : ℕ) (old new : List ℕ) → old ≡ [] → IsPut Says (Some old) (Some new) status → Says status new
all_is_put Says status old new none (bytes, says, put) = subst (Says status) (sym (put ∙ ap (λ (bs : List ℕ). bs ++ bytes) none)) says

-- a usage error, if no call failed
pub mistake_without_failure : (old new : FailedCalls) → NoneFailed old new → (status : ℕ) (out : List ℕ) → OrNoMemory (IsUsageReply old new) status out → OrNoMemory IsMistake status out
mistake_without_failure old new none status out (inl (empty, inl (two, same))) = inl (empty, two)
mistake_without_failure old new none status out (inl (empty, inr (one, (fault, counted)))) = absurd (failure_shows fault old new counted none)
mistake_without_failure old new none status out (inr memory) = inr memory
