-- How the refusals of an image are told: by number, and in words. Assumes nothing.
use Rattle.std.specs.Prelude.{ℕ, zero, suc, ◌/◌, ◌%◌, true, List, [], ◌∷◌, ◌++◌, Some, codes, decimal, Option}
use Rattle.std.specs.Fmt.{digit_glyph}
use Rattle.image.specs.declared.refusal.ImageRefusal.{ImageRefusal}
use Rattle.image.specs.declared.refusal.ImageRefusal.TheVariants.{Length, Mark, Trailer, Cut, Empty, Beyond, Overlap, LeftOver}

-- the number of a refusal
abbrev pub refusal_number : ImageRefusal → ℕ
refusal_number (Length n) = 8
refusal_number (Mark found) = 9
refusal_number (Trailer segments back before) = 10
refusal_number (Cut segment left) = 11
refusal_number (Empty segment) = 11
refusal_number (Beyond segment count left) = 11
refusal_number (Overlap segment first count limit) = 12
refusal_number (LeftOver left) = 13

-- the last k digits of a number, as capital hexadecimal digits
abbrev pub hex_digits : ℕ → ℕ → List ℕ
hex_digits zero n = []
hex_digits (suc k) n = hex_digits k (n / 16) ++ (digit_glyph true (n % 16) ∷ [])

-- its reason in words, as an output is given; each has one
abbrev pub refusal_text : ImageRefusal → Option (List ℕ)
refusal_text (Length n) = Some (decimal n ++ codes " bytes, and an image has 12 to 65536")
refusal_text (Mark found) = Some (hex_digits 8 found ++ codes " stands for the mark 53524349")
refusal_text (Trailer segments back before) =
    Some (decimal segments ++ (codes " segments of " ++ (decimal back ++ (codes " bytes, and there may be 64 of the " ++ (decimal before ++ codes " bytes before the trailer")))))
refusal_text (Cut segment left) = Some (codes "segment " ++ (decimal segment ++ (codes " has " ++ (decimal left ++ codes " bytes, and needs 8"))))
refusal_text (Empty segment) = Some (codes "segment " ++ (decimal segment ++ codes " has no words"))
refusal_text (Beyond segment count left) =
    Some (codes "segment " ++ (decimal segment ++ (codes " has " ++ (decimal count ++ (codes " words, and there are " ++ (decimal left ++ codes " bytes for them"))))))
refusal_text (Overlap segment first count limit) =
    Some (codes "segment " ++ (decimal segment ++ (codes " has " ++ (decimal count ++ (codes " words from number " ++ (decimal first ++ (codes " on, and has to end before number " ++ decimal limit)))))))
refusal_text (LeftOver left) = Some (decimal left ++ codes " bytes are left over before segment 0")
