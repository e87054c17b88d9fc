use Rattle.rows.proofs.Moves.{moves_on}
use Rattle.rows.proofs.laws.steps_move_on.Goals as goal

pub returns : goal.returns
returns c = moves_on
