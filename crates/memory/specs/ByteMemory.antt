-- How words are packed in bytes. Assumes nothing.
use Rattle.std.specs.Prelude.{ℕ, ◌+◌, ◌*◌, ◌/◌, min, List, map, length, drop, slice_index}
use Rattle.std.specs.List.{range_with_len}

-- word number n of some bytes: four bytes, high byte first
abbrev pub packed_word : List ℕ → ℕ → ℕ
packed_word bs n = slice_index bs (4 * n) * 16777216 + slice_index bs (4 * n + 1) * 65536 + slice_index bs (4 * n + 2) * 256 + slice_index bs (4 * n + 3)

-- the whole words of some bytes
unfoldable pub packed : List ℕ → List ℕ
packed bs = map (packed_word bs) (range_with_len 0 (length bs / 4))

-- how many of the bytes are used: those of at most 8,192 whole words
abbrev pub bytes_used : List ℕ → ℕ
bytes_used bs = 4 * min 8192 (length bs / 4)

-- the bytes past them
abbrev pub past_bytes : List ℕ → List ℕ
past_bytes bs = drop (bytes_used bs) bs
