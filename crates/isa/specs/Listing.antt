-- A word in a listing. Assumes nothing.
use Rattle.std.specs.Prelude.{ℕ, ◌*◌, List, ◌++◌, codes, decimal}
use Rattle.isa.specs.Lines.{hex_text, line_of}

-- the number of the word w, its byte address, its digits and its line, parted by one blank
abbrev pub entry_text : ℕ → ℕ → List ℕ
entry_text n w = decimal n ++ (codes " " ++ (decimal (4 * n) ++ (codes " " ++ (hex_text w ++ (codes " " ++ line_of w)))))
