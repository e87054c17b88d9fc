use Rattle.run_control.proofs.Examples.{worked_runs}
use Rattle.run_control.proofs.laws.programs_run.Goals as goal

pub returns : goal.returns
returns c = worked_runs
