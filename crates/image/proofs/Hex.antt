-- Eight hexadecimal digits, as a format with zeros before them writes them. Assumes nothing.
-- Kept: isa proves the like of a definition of its own, and images do not depend on instruction words.
use Rattle.std.proofs.Common.{◌≡◌, ℕ, zero, suc, ◌+◌, ◌-◌, ◌/◌, ◌%◌, ◌^◌, ◌<◌, ◌≤◌, Bool, true, false, cond, eqb, List, [], ◌∷◌, ◌++◌, length, replicate, Some, sym, refl, ap, ◌∙◌, subst, append_assoc, arith}
use Rattle.std.proofs.lemmas.Bool.{eqb-true, eqb-false}
use Rattle.std.proofs.lemmas.List.{append-nil}
use Rattle.std.specs.Fmt.{digit_glyph, digits_onto, digits, padded_integral, char_count, format_spec, digits_output, styled_digits_output, option_append}
use Rattle.std.specs.Option.{option_map}
use Rattle.image.specs.Refusals.{hex_digits}

zeros_push : (k x : ℕ) → replicate k x ++ (x ∷ []) ≡ x ∷ replicate k x
zeros_push zero x = refl
zeros_push (suc k) x = ap (λ xs. x ∷ xs) (zeros_push k x)

-- the digits of 0
zeros : (k : ℕ) → hex_digits k 0 ≡ replicate k 48
zeros zero = refl
zeros (suc k) = ap (λ xs. xs ++ (48 ∷ [])) (zeros k) ∙ zeros_push k 48

-- n has k hexadecimal digits at most
abbrev Short : ℕ → ℕ → Type 0
Short zero n = n ≡ 0
Short (suc k) n = Short k (n / 16)

-- so many zeros before what is written make k digits of n and what follows them
record Filled (k n : ℕ) (after written : List ℕ) : Type 0 where
  before : ℕ
  long : before + length written ≡ k + length after
  same : replicate before 48 ++ written ≡ hex_digits k n ++ after

-- the last digit, and those before it unless they are zeros
fill_one : (k fuel n : ℕ) (after : List ℕ) (b : Bool) → eqb (n / 16) 0 ≡ b → Short (suc k) n →
    let last = digit_glyph true (n % 16) ∷ after in
    ((j : ℕ) → k ≡ suc j → Short (suc j) (n / 16) → Filled (suc j) (n / 16) last (digits_onto fuel 16 true (n / 16) last)) →
    Filled (suc k) n after (cond b last (digits_onto fuel 16 true (n / 16) last))
fill_one k fuel n after true e short more =
    let g = digit_glyph true (n % 16) in
    let none : hex_digits k (n / 16) ≡ replicate k 48 = ap (hex_digits k) (eqb-true (n / 16) 0 e) ∙ zeros k in
    record { before = k; long = omega arith; same = ap (λ xs. xs ++ (g ∷ after)) (sym none) ∙ sym (append_assoc (hex_digits k (n / 16)) (g ∷ []) after) }
fill_one zero fuel n after false e short more = absurd (eqb-false (n / 16) 0 e short)
fill_one (suc j) fuel n after false e short more =
    let r = more j refl short in
    record { before = r.before; long = omega (arith, r.long); same = r.same ∙ sym (append_assoc (hex_digits (suc j) (n / 16)) (digit_glyph true (n % 16) ∷ []) after) }

fill : (k fuel n : ℕ) (after : List ℕ) → Short (suc k) n → suc k ≤ fuel → Filled (suc k) n after (digits_onto fuel 16 true n after)
fill k zero n after short enough = absurd (omega arith)
fill k (suc fuel) n after short enough =
    fill_one k fuel n after (eqb (n / 16) 0) refl short (λ j e s. fill j fuel (n / 16) (digit_glyph true (n % 16) ∷ after) s (omega (arith, e, enough)))

all_digits : (n : ℕ) → digits_onto 64 16 true n [] ≡ digits 16 true n
unfolding digits
all_digits n = refl

-- what `{:08X}` writes of a number of 32 bits
hex_padded : (n : ℕ) → n < 2 ^ 32 → padded_integral (format_spec 32 0 4 8 (2 ^ 64 - 1)) false [] (digits 16 true n) ≡ hex_digits 8 n
unfolding padded_integral char_count
hex_padded n small =
    let r : Filled 8 n [] (digits 16 true n) = subst (Filled 8 n []) (all_digits n) (fill 7 64 n [] (omega arith) (omega arith)) in
    let zeros_before : 8 - length (digits 16 true n) - 0 - 0 ≡ r.before = omega (arith, r.long) in
    ap (λ m. replicate m 48 ++ (digits 16 true n ++ [])) zeros_before ∙ ap (λ xs. replicate r.before 48 ++ xs) (append-nil (digits 16 true n)) ∙ r.same ∙ append-nil (hex_digits 8 n)

pub hex_text : (d : _) (s : _) (n : ℕ) (words : List ℕ) → digits_output d ≡ Some (digits 16 true n) → s ≡ format_spec 32 0 4 8 (2 ^ 64 - 1) → n < 2 ^ 32 →
    option_append (styled_digits_output d s) (Some words) ≡ Some (hex_digits 8 n ++ words)
hex_text d s n words e laid small =
    let spec = format_spec 32 0 4 8 (2 ^ 64 - 1) in
    ap (λ x. option_append (styled_digits_output d x) (Some words)) laid
    ∙ ap (λ o. option_append (option_map (padded_integral spec false []) o) (Some words)) e
    ∙ ap (λ xs. Some (xs ++ words)) (hex_padded n small)
