use Rattle.std.proofs.Common.{rules}
use Rattle.memory.proofs.Joined.{joined_length}
use Rattle.memory.proofs.pair.Pair.sizes.Goals as goal

pub returns : goal.returns
returns g c = let p = c.args.self.now in let e = joined_length (g.A.Memory.words p.first) (g.B.Memory.words p.second) in search rules
