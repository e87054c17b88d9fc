use Rattle.std.proofs.Common.{rules}
use Rattle.memory.proofs.Lists.{loan_same}
use Rattle.memory.proofs.slice_memory.SliceMemoryMemory.write.Goals as goal

pub returns : goal.returns
returns g c = search (rules, loan_same)
