-- How a script describes the board. Assumes nothing.
use Rattle.std.specs.Prelude.{Some, None, Option}
use Rattle.src_sim.specs.declared.board.Board.{Board}
use Rattle.memory.specs.declared.slow_stretch.Stretch.{Stretch}
use Rattle.src_sim.specs.declared.board.BoardPart.{BoardPart}
use Rattle.src_sim.specs.declared.board.BoardPart.TheVariants.{Words, Bytes, Slow, Row}

-- the board with one part described anew, the others as they were
abbrev pub described : Board → BoardPart → Board
described b (Words n) = record { words = n; bytes = b.bytes; slow = b.slow; row = b.row }
described b (Bytes n) = record { words = b.words; bytes = n; slow = b.slow; row = b.row }
described b (Slow s) = record { words = b.words; bytes = b.bytes; slow = Some s; row = b.row }
described b (Row e) = record { words = b.words; bytes = b.bytes; slow = b.slow; row = Some e }

-- the stretch of a pile: where none is described, one of length 0, which adds nothing
abbrev pub stretch_of : Option Stretch → Stretch
stretch_of None = record { first = 0; length = 0; extra = 0 }
stretch_of (Some s) = s
