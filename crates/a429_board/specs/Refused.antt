-- Why a plan is not published after one of this number (profile: docs/RULES.md, Limits).
use Rattle.std.specs.Prelude.{◌≡◌, ℕ, ◌+◌, ◌<◌, ◌^◌}
use Rattle.a429_board.specs.declared.planner.BoardFault.{BoardFault}
use Rattle.a429_board.specs.declared.planner.BoardFault.TheVariants.{CountSpent, NoMemory}

-- the count is spent if and only if 64 bits have no number after this one
abbrev pub IsWhy : BoardFault → ℕ → Type 0
IsWhy CountSpent number = number + 1 ≡ 2 ^ 64
IsWhy NoMemory number = number + 1 < 2 ^ 64
