-- What a layer that adds to the delays of the memory below it means. Assumes nothing.
use Rattle.std.specs.Prelude.{ℕ, ◌+◌, min, if◌then◌else◌, List, length, nat_lt}
use Rattle.memory.specs.Memory.{Loan}
use Rattle.memory.specs.declared.memory.Memory.{Ghosts}
use Rattle.memory.specs.declared.delays.Slowed.{Slowed}

-- the delays d over the words ws, with more for each word number: a sum above 255 counts as 255, and from the size on there is none
abbrev pub slower : List ℕ → (ℕ → ℕ) → (ℕ → ℕ) → ℕ → ℕ
slower ws d more n = if nat_lt n (length ws) then min 255 (d n + more n) else 0

-- the rule after a read or write of word number n: what an accepted one makes of it, or as before where it was refused
abbrev pub rule_after : {R : Type 0} → (R → ℕ → R) → List ℕ → R → ℕ → R
rule_after accepted ws rule n = if nat_lt n (length ws) then accepted rule n else rule

module _ {M R : Type 0} (below : Ghosts M) where
  -- the words are those of the memory below
  abbrev pub slowed_words : Slowed M R → List ℕ
  slowed_words s = below.words s.below

  -- its delays, and the rule's extra
  abbrev pub slowed_delay : (R → ℕ → ℕ) → Slowed M R → ℕ → ℕ
  slowed_delay extra s = slower (below.words s.below) (below.delay s.below) (extra s.rule)

  -- what is lent to the memory below
  abbrev pub slowed_frame : Slowed M R → List Loan
  slowed_frame s = below.frame s.below
