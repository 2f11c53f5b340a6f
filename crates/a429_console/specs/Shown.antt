-- The line on a terminal that shows how far the work is (profile: docs/FORMATS.md, Hints).
use Rattle.std.specs.Prelude.{ℕ, ◌-◌, ◌*◌, ◌/◌, ◌==◌, ◌++◌, List, codes, if◌then◌else◌}
use Rattle.std.specs.Fmt.{decimal}

-- how much of all is done, in per cent
abbrev pub share_of : ℕ → ℕ → ℕ
share_of done all = if all == 0 then 0 else 100 * done / all

-- how long the rest takes, in seconds, if it goes on as in these milliseconds
abbrev pub left_of : ℕ → ℕ → ℕ → ℕ
left_of done all spent = if done == 0 then 0 else spent * (all - done) / done / 1000

-- the share that is done, and the time that is left
abbrev pub rest_text : ℕ → ℕ → ℕ → List ℕ
rest_text done all spent = decimal (share_of done all) ++ codes " %, " ++ decimal (left_of done all spent) ++ codes " s left"

-- how many MiB of all are done after these milliseconds
abbrev pub done_line : ℕ → ℕ → ℕ → List ℕ
done_line done all spent = decimal (done / 1048576) ++ codes " of " ++ decimal (all / 1048576) ++ codes " MiB, " ++ rest_text done all spent
