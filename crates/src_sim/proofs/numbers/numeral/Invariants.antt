use Rattle.std.proofs.Common.{◌≡◌, ◌≤◌, drop}
use Rattle.src_sim.specs.Numbers.{most, numeral}
use Rattle.src_sim.specs.Bases.{radix_of}
use Rattle.src_sim.proofs.Digits.{read_on}
use Rattle.src_sim.proofs.numbers.numeral.Given as goal

abbrev pub invariant-loop-byte : goal.invariant-loop-byte
invariant-loop-byte l = record { fits : l.number ≤ most; read : read_on (radix_of l.base) l.number (drop l.byte-index l.digits) ≡ numeral (radix_of l.base) l.digits }
