use Rattle.rows.proofs.Bounds.{finishes_within}
use Rattle.rows.proofs.laws.clocks_bounded.Goals as goal

pub returns : goal.returns
returns c = finishes_within _ _ tt tt
