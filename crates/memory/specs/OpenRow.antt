-- What the rule of an open row means. Assumes nothing.
use Rattle.std.specs.Prelude.{ℕ, ◌/◌, Bool, false, if◌then◌else◌, List, length, Some, None, Option, ◌==◌, nat_lt}

-- does word number n lie in the open row? A row has 64 words
abbrev pub in_row : Option ℕ → ℕ → Bool
in_row None n = false
in_row (Some row) n = row == n / 64

-- what is added for word number n: the extra outside of the open row
abbrev pub off_row : ℕ → Option ℕ → ℕ → ℕ
off_row extra row n = if in_row row n then 0 else extra

-- the open row after a read or write of word number n: that of the word, or as before where it was refused
abbrev pub row_after : List ℕ → Option ℕ → ℕ → Option ℕ
row_after ws row n = if nat_lt n (length ws) then Some (n / 64) else row
