-- The numbers that the commands of a script take. Assumes nothing.
use Rattle.std.specs.Prelude.{ℕ, min, cond, List, Some, None, Ok, Err, Option, Result, nat_lt}
use Rattle.src_sim.specs.declared.complaint.Complaint.{Complaint}
use Rattle.src_sim.specs.declared.complaint.Complaint.TheVariants.{NoNumber, TooLarge}
use Rattle.src_sim.specs.Numbers.{number_of}

-- a number that was read, taken by f
abbrev pub taken : (ℕ → Result ℕ Complaint) → Option ℕ → Result ℕ Complaint
taken f None = Err NoNumber
taken f (Some n) = f n

-- a number of clocks: any number is taken
abbrev pub count_of : List ℕ → Result ℕ Complaint
count_of cs = taken Ok (number_of cs)

-- the number of a register or of a word, or how many words: what is larger counts as the largest number of 32 bits
abbrev pub index_of : List ℕ → Result ℕ Complaint
index_of cs = taken (λ n. Ok (min 4294967295 n)) (number_of cs)

-- a number that is at most `most`
abbrev pub limited_of : ℕ → List ℕ → Result ℕ Complaint
limited_of most cs = taken (λ n. cond (nat_lt most n) (Err (TooLarge most)) (Ok n)) (number_of cs)
