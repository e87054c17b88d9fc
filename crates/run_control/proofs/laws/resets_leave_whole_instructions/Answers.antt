use Rattle.run_control.specs.Whole.{any_delay}
use Rattle.run_control.specs.OneBus.{one_bus}
use Rattle.run_control.proofs.OneBus.{one_bus_facts}
use Rattle.run_control.proofs.Whole as whole
use Rattle.run_control.proofs.laws.resets_leave_whole_instructions.Goals as goal

pub returns : goal.returns
returns c = whole.resets_leave_whole_instructions one_bus one_bus_facts any_delay (λ d. d.few)
