-- Registers that are all 0 fit 32 bits. Assumes nothing.
use Rattle.std.proofs.Common.{ℕ, zero, suc, ◌^◌, ◌<◌, get_or, replicate, lit<}

zeros_small : (n i : ℕ) → get_or (replicate n 0) i 0 < 2 ^ 32
zeros_small zero i = lit< tt
zeros_small (suc n) zero = lit< tt
zeros_small (suc n) (suc i) = zeros_small n i

pub all_small : (i : ℕ) → get_or (replicate 32 0) i 0 < 2 ^ 32
all_small = zeros_small 32
