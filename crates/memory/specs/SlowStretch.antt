-- What the rule of a slow stretch means. Assumes nothing.
use Rattle.std.specs.Prelude.{ℕ, ◌+◌, if◌then◌else◌, ◌&&◌, nat_le, nat_lt}

-- what is added for word number n: the extra in the stretch of so many words from the first on
abbrev pub in_stretch : ℕ → ℕ → ℕ → ℕ → ℕ
in_stretch first many extra n = if nat_le first n && nat_lt n (first + many) then extra else 0
