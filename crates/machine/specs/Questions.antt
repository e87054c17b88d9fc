-- What the questions to a machine answer. Assumes nothing.
use Rattle.std.specs.Prelude.{ℕ, cond, length, Ok, Err, Result, nat_lt, slice_index}
use Rattle.memory.specs.Memory.{fault_of}
use Rattle.rows.specs.Core as bus
use Rattle.run_control.specs.declared.refusals.Refusal.{Refusal}
use Rattle.run_control.specs.declared.refusals.Refusal.TheVariants.{NoRegister, NoWord}
use Rattle.run_control.specs.State.{State, Delays}
use Rattle.run_control.specs.Calls.{with_words}

-- register i, where there is one: there are 32
abbrev pub register_asked : State bus.Core → ℕ → Result ℕ Refusal
register_asked s i = cond (nat_lt i 32) (Ok (slice_index s.core.regs i)) (Err (NoRegister i))

-- word number n, where the memory has one
abbrev pub word_asked : State bus.Core → ℕ → Result ℕ Refusal
word_asked s n = cond (nat_lt n (length s.words)) (Ok (slice_index s.words n)) (Err (NoWord (fault_of s.words n)))

-- the machine then: only the delays are others, d, and not where it is refused
abbrev pub after_word_asked : State bus.Core → ℕ → Delays → State bus.Core
after_word_asked s n d = cond (nat_lt n (length s.words)) (with_words s s.words d) s

-- the program counter, and the step T
abbrev pub pc_of : State bus.Core → ℕ
pc_of s = s.core.pc

abbrev pub step_of : State bus.Core → ℕ
step_of s = s.core.t

-- how many words there are
abbrev pub size_of : State bus.Core → ℕ
size_of s = length s.words
