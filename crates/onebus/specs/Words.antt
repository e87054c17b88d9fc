-- The control words that the code tells. Assumes nothing.
use Rattle.std.specs.Prelude.{ℕ, ◌+◌, ◌*◌, cond, ◌&&◌, Some, None, Option, nat_lt, slice_index}
use Rattle.rows.specs.Rows.{table}
use Rattle.onebus.specs.declared.control.ControlWord.{ControlWord}

-- the control word of a code at a step: there are 32 codes and eight steps
abbrev pub word_in_store : ℕ → ℕ → Option ControlWord
word_in_store code t = cond (nat_lt code 32 && nat_lt t 8) (Some (record { 0 = slice_index table (code * 8 + t) })) None
