use Rattle.run_control.specs.Whole.{any_delay}
use Rattle.run_control.specs.OneBus.{one_bus}
use Rattle.run_control.proofs.OneBus.{one_bus_facts}
use Rattle.run_control.proofs.Whole.{keeps_pace}
use Rattle.run_control.proofs.laws.machines_keep_pace.Goals as goal

pub returns : goal.returns
returns c = keeps_pace one_bus one_bus_facts any_delay any_delay (λ d. d.few) (λ d. d.few)
