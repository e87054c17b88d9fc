use Rattle.rows.proofs.Whole.{runs_alike}
use Rattle.rows.proofs.laws.runs_alike.Goals as goal

pub returns : goal.returns
returns c = runs_alike
