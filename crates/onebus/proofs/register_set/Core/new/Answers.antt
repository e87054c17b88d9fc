use Rattle.std.proofs.Common.{lit<, refl}
use Rattle.onebus.proofs.Registers.{all_small}
use Rattle.onebus.proofs.register_set.Core.new.Goals as goal

pub invariant_of-result : goal.invariant_of-result
invariant_of-result c = record { count = lit< tt; step = lit< tt; many = refl; small = all_small }

pub returns-clause-fits : goal.returns-clause-fits
returns-clause-fits c = record { count = lit< tt; step = lit< tt; many = refl; small = all_small }
