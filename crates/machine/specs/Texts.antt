-- The text of what a machine counts. Assumes nothing.
use Rattle.std.specs.Prelude.{ℕ, List, ◌++◌, codes, decimal}

-- counts: the clocks, the waits and the finished instructions, each after its name
abbrev pub counts_text : ℕ → ℕ → ℕ → List ℕ
counts_text clocks waits finished = codes "clocks " ++ (decimal clocks ++ (codes " waits " ++ (decimal waits ++ (codes " finished " ++ decimal finished))))
