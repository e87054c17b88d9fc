use Rattle.std.proofs.Common.{refl}
use Rattle.onebus.proofs.Registers.{all_small}
use Rattle.onebus.proofs.register_set.Core.clear_registers.Goals as goal

pub invariant_of-self : goal.invariant_of-self
invariant_of-self c = record {
  count = c.self.invariant.count;
  step = c.self.invariant.step;
  many = refl;
  small = all_small;
}
