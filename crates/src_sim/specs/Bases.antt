-- The bases of a script's numbers. Assumes nothing.
use Rattle.std.specs.Prelude.{ℕ}
use Rattle.src_sim.specs.declared.numbers.Base.{Base}
use Rattle.src_sim.specs.declared.numbers.Base.TheVariants.{Decimal, Hexadecimal}

-- how many digits a base has
abbrev pub radix_of : Base → ℕ
radix_of Decimal = 10
radix_of Hexadecimal = 16
