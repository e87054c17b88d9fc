use Rattle.rows.proofs.Refining.{refines}
use Rattle.rows.proofs.laws.rows_refine.Goals as goal

pub returns : goal.returns
returns c = refines
