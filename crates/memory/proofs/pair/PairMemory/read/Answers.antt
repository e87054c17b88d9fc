use Rattle.std.proofs.Common.{arith, rules}
use Rattle.memory.proofs.Joined.{joined_length, first_word, second_word}
use Rattle.memory.proofs.pair.PairMemory.read.Goals as goal

pub returns-in_err-admit : goal.returns-in_err-admit
returns-in_err-admit g c =
    let p = c.args.self.now in
    let l = joined_length (g.A.Memory.words p.first) (g.B.Memory.words p.second) in
    let f = g.A.Memory.laws.few p.first in
    search rules

pub returns-then-number-front : goal.returns-then-number-front
returns-then-number-front g c =
    let p = c.args.self.now in
    let e = first_word (g.A.Memory.words p.first) (g.B.Memory.words p.second) c.args.number (omega arith) (omega arith) in
    search rules

pub returns-else-number-front : goal.returns-else-number-front
returns-else-number-front g c =
    let p = c.args.self.now in
    let e = second_word (g.A.Memory.words p.first) (g.B.Memory.words p.second) c.args.number (omega arith) (omega arith) in
    let l = joined_length (g.A.Memory.words p.first) (g.B.Memory.words p.second) in
    search rules
