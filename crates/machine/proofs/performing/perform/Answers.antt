use Rattle.run_control.specs.OneBus.{one_bus}
use Rattle.run_control.proofs.OneBus.{one_bus_facts}
use Rattle.run_control.proofs.Whole as whole
use Rattle.machine.proofs.performing.perform.Goals as goal

pub returns-clause-carries : goal.returns-clause-carries
returns-clause-carries g c = whole.carries one_bus one_bus_facts g.M.Memory.delay g.M.Memory.laws.short _ _ _ _ c.act.ensures.does
