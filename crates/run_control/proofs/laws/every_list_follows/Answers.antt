use Rattle.run_control.specs.Whole.{any_delay}
use Rattle.run_control.specs.OneBus.{one_bus}
use Rattle.run_control.proofs.OneBus.{one_bus_facts}
use Rattle.run_control.proofs.Whole.{follows}
use Rattle.run_control.proofs.laws.every_list_follows.Goals as goal

pub returns : goal.returns
returns c = follows one_bus one_bus_facts any_delay (λ d. d.few)
