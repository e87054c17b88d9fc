-- What edits of any memory's words answer and leave. Assumes nothing.
use Rattle.std.specs.Prelude.{ℕ, cond, List, length, Err, Result, nat_lt, slice_index, slice_set}
use Rattle.memory.specs.Memory.{fault_of, write_of}
use Rattle.memory.specs.declared.memory.MemoryFault.{MemoryFault}

-- what a copy of word number n to word number k answers: the first refusal, if any
abbrev pub copy_of : List ℕ → ℕ → ℕ → Result (Unit {0}) MemoryFault
copy_of ws n k = cond (nat_lt n (length ws)) (write_of ws k) (Err (fault_of ws n))

-- the words after it
abbrev pub copied : List ℕ → ℕ → ℕ → List ℕ
copied ws n k = cond (nat_lt n (length ws)) (slice_set ws k (slice_index ws n)) ws
