use Rattle.std.proofs.Common.{◌≡◌, ℕ, ◌+◌, ◌*◌, ◌/◌, ◌%◌, ◌^◌, ◌<◌, bit_or, arith}
use Rattle.std.proofs.lemmas.Grind.{common_steps}
use Rattle.std.proofs.lemmas.Nat.{or_shifted}
use Rattle.onebus.proofs.datapath.shifter.Goals as goal

-- the bit that goes around meets none of the others
around : (x : ℕ) → x < 2 ^ 32 → bit_or (x * 2 % 2 ^ 32) (x / 2 ^ 31) ≡ x * 2 % 2 ^ 32 + x / 2 ^ 31
around x l =
    let e : x * 2 % 2 ^ 32 ≡ x % 2 ^ 31 * 2 = omega arith in
    rw e (or_shifted (x % 2 ^ 31) 1 (x / 2 ^ 31) (omega arith))

pub returns-then-has-4 : goal.returns-then-has-4
returns-then-has-4 c = grind (arith, common_steps, around)
