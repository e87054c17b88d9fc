-- What `{:08X}` writes of a word is its eight hexadecimal digits. Assumes nothing.
use Rattle.std.proofs.Common.{◌≡◌, ℕ, suc, zero, ◌+◌, ◌-◌, ◌/◌, ◌%◌, ◌^◌, ◌<◌, true, false, eqb, List, [], ◌∷◌, ◌++◌, length, replicate, refl, ap, sym, ◌∙◌, eq-eqb, arith}
use Rattle.std.proofs.Math.Nat.{div-div-eq-div-mul, div-one, pow-suc, sub-zero}
use Rattle.std.proofs.lemmas.List.{append-nil}
use Rattle.std.proofs.lemmas.Bool.{cond_both, eqb-true}
use Rattle.std.specs.Fmt.{digits, digits_onto, digit_glyph, padded_integral, format_spec, char_count}
use Rattle.isa.specs.Lines.{hex_text}

-- the last k hexadecimal digits of n, before those in acc
abbrev onto : ℕ → ℕ → List ℕ → List ℕ
onto zero n acc = acc
onto (suc k) n acc = onto k (n / 16) (digit_glyph true (n % 16) ∷ acc)

zeros : (k : ℕ) (acc : List ℕ) → onto k 0 acc ≡ replicate k 48 ++ acc
zeros zero acc = refl
zeros (suc k) acc = zeros k (48 ∷ acc) ∙ shifted k
  where
    shifted : (j : ℕ) → replicate j 48 ++ (48 ∷ acc) ≡ 48 ∷ (replicate j 48 ++ acc)
    shifted zero = refl
    shifted (suc j) = ap (λ l. 48 ∷ l) (shifted j)

-- the digits ds, and zeros before them where they are fewer than m
abbrev filled : ℕ → List ℕ → List ℕ
filled m ds = replicate (m - length ds) 48 ++ ds

module _ (n : ℕ) (acc : List ℕ) where
  abbrev next : List ℕ
  next = digit_glyph true (n % 16) ∷ acc

  -- where no digit is left, zeros are
  ends : (k m : ℕ) → m ≡ suc k + length acc → eqb (n / 16) 0 ≡ true → filled m next ≡ onto k (n / 16) next
  ends k m e z =
      ap (λ p. replicate p 48 ++ next) {x = m - length next} {y = k} (omega arith)
      ∙ sym (zeros k next) ∙ ap (λ q. onto k q next) (sym (eqb-true (n / 16) 0 z))

fills : (k j n m : ℕ) (acc : List ℕ) → n < 16 ^ suc k → k < j → m ≡ suc k + length acc → filled m (digits_onto j 16 true n acc) ≡ onto (suc k) n acc
fills k zero n m acc fits room e = absurd (omega arith)
fills zero (suc j) n m acc fits room e =
    cond_both (eqb (n / 16) 0) _ _ (λ ds. filled m ds ≡ onto 1 n acc) (ends n acc 0 m e)
    (λ f. let t = eq-eqb (n / 16) 0 (omega arith) in cc)
fills (suc k) (suc j) n m acc fits room e =
    cond_both (eqb (n / 16) 0) _ _ (λ ds. filled m ds ≡ onto (suc (suc k)) n acc) (ends n acc (suc k) m e)
    (λ f. fills k j (n / 16) m (next n acc) (omega (arith, pow-suc 16 (suc k))) (omega arith) (omega arith))

eight : (w : ℕ) → onto 8 w [] ≡ hex_text w
eight w = simp (div-div-eq-div-mul, div-one)

spelled : (w : ℕ) → digits 16 true w ≡ digits_onto 64 16 true w []
unfolding digits
spelled w = refl

pub hex_word : (w : ℕ) → w < 2 ^ 32 → padded_integral (format_spec 32 0 4 8 (2 ^ 64 - 1)) false [] (digits 16 true w) ≡ hex_text w
unfolding padded_integral char_count
hex_word w fits = rw (sub-zero, sub-zero, append-nil, spelled) (fills 7 64 w 8 [] fits (omega arith) refl ∙ eight w)
