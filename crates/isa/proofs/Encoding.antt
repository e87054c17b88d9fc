-- The fields that a line shows determine the word. Assumes nothing.
use Rattle.std.proofs.Common.{◌≡◌, ℕ, ◌+◌, ◌-◌, ◌*◌, ◌/◌, ◌%◌, ◌^◌, ◌<◌, Bool, true, false, cond, eqb, ltb, Some, None, Option, sym, refl, ap, ◌∙◌, subst, div-one, arith}
use Rattle.std.proofs.lemmas.Bool.{eqb-true, cond_both, not-false, or_parts}
use Rattle.std.proofs.lemmas.Nat.{mod-pow-add, mod_below, pow_pos}
use Rattle.isa.specs.Fields.{bits, extended, op_of, ra_of, rb_of, rc_of, c1_of, c2_of, count_of}
use Rattle.isa.specs.Operations.{Op, operation}
use Rattle.isa.specs.Operations.Mode.{displaced, relative}
use Rattle.isa.specs.Operations.Op.{nop, stop, br, brl, unassigned, transfer, binary, immediate, unary, shift}
use Rattle.isa.specs.Instructions.{said, set_in}
use Rattle.isa.specs.Lines.{clean, formed}
use Rattle.isa.specs.Encoding.{transfer_code, relative_code, binary_code, immediate_code, unary_code, shift_code, within, packed, encoded, Encodes}
use Rattle.isa.specs.declared.instruction.Instruction.{Instruction}
use Rattle.isa.specs.declared.instruction.Instruction.TheVariants as i

-- the code k is the operation's
abbrev Coded : Op → ℕ → Type 0
Coded nop k = k ≡ 0
Coded stop k = k ≡ 31
Coded br k = k ≡ 8
Coded brl k = k ≡ 9
Coded unassigned k = Unit {0}
Coded (transfer t displaced) k = k ≡ transfer_code t
Coded (transfer t relative) k = k ≡ relative_code t
Coded (binary f) k = k ≡ binary_code f
Coded (immediate f) k = k ≡ immediate_code f
Coded (unary f) k = k ≡ unary_code f
Coded (shift f) k = k ≡ shift_code f

coded_at : (k n : ℕ) (a b : Op) → Coded a n → Coded b k → Coded (cond (eqb k n) a b) k
coded_at k n a b f g = cond_both (eqb k n) a b (λ o. Coded o k) (λ e. subst (λ m. Coded a m) (sym (eqb-true k n e)) f) (λ e. g)

coded : (k : ℕ) → Coded (operation k) k
coded k = search coded_at depth 80 fits 4000

-- a constant that a field holds, put back into the field
put_back : (width w : ℕ) → within width (extended width w) ≡ w % 2 ^ width
put_back width w =
    cond_both (ltb (w % 2 ^ width) (2 ^ (width - 1))) _ _ (λ z. within width z ≡ w % 2 ^ width)
    (λ e. refl) (λ e. omega (arith, mod_below w (2 ^ width) (pow_pos width)))

low_bits : (k w : ℕ) → bits 0 k w ≡ w % 2 ^ k
low_bits k w = ap (λ n. n % 2 ^ k) (div-one w)

-- the low bits in two fields
split : (j k w : ℕ) → bits 0 (j + k) w ≡ bits k j w * 2 ^ k + w % 2 ^ k
split j k w = rw (low_bits (j + k) w) (mod-pow-add w j k)

module _ (w : ℕ) (fits : w < 2 ^ 32) where
  high : op_of w ≡ w / 2 ^ 27
  high = omega arith

  -- a word is its fields
  whole_22 : packed (op_of w) (ra_of w) 0 0 (w % 2 ^ 22) ≡ w
  whole_22 = rw high (omega arith)

  whole_17 : packed (op_of w) (ra_of w) (rb_of w) 0 (w % 2 ^ 17) ≡ w
  whole_17 = rw high (omega arith)

  -- with a constant
  with_c1 : (o : ℕ) → op_of w ≡ o → packed o (ra_of w) 0 0 (within 22 (c1_of w)) ≡ w
  with_c1 o e = let f = put_back 22 w in let g = whole_22 in cc

  with_c2 : (o b : ℕ) → op_of w ≡ o → rb_of w ≡ b → packed o (ra_of w) b 0 (within 17 (c2_of w)) ≡ w
  with_c2 o b e f = let g = put_back 17 w in let h = whole_17 in cc

  regrouped : (p m n x : ℕ) → x ≡ m + n → p + 0 + x ≡ w → p + m + n ≡ w
  regrouped p m n x e f = omega arith

  whole : packed (op_of w) (ra_of w) (rb_of w) (rc_of w) (bits 0 12 w) ≡ w
  whole = regrouped (op_of w * 2 ^ 27 + ra_of w * 2 ^ 22 + rb_of w * 2 ^ 17) (rc_of w * 2 ^ 12) (bits 0 12 w) (w % 2 ^ 17) (rw (low_bits 12 w) (mod-pow-add w 5 12)) whole_17

  repacked : (o a b c l : ℕ) → op_of w ≡ o → ra_of w ≡ a → rb_of w ≡ b → rc_of w ≡ c → bits 0 12 w ≡ l → packed o a b c l ≡ w
  repacked o a b c l p q r s t = let e = whole in cc

  -- an instruction that the word says with no stray bit has the word back
  Back : Option Instruction → Type 0
  Back o = (x : Instruction) → o ≡ Some x → encoded x ≡ w

  back_none : Back None
  unfolding Back
  back_none x e = let z : ◌≡◌ {A = ℕ} 0 1 = cc in absurd (omega arith)

  back_some : (y : Instruction) → encoded y ≡ w → Back (Some y)
  unfolding Back
  back_some y h x e = let p : y ≡ x = cc in subst (λ z. encoded z ≡ w) p h

  back_clean : (s : Bool) (y : Instruction) → (s ≡ false → encoded y ≡ w) → Back (clean s y)
  back_clean true y h = back_none
  back_clean false y h = back_some y (h refl)

  -- a field with no bit set is 0
  unset : (low width : ℕ) → set_in low width w ≡ false → bits low width w ≡ 0
  unset low width e = eqb-true (bits low width w) 0 (not-false (eqb (bits low width w) 0) e)

  -- a word with a code alone
  bare : (k : ℕ) → op_of w ≡ k → set_in 0 27 w ≡ false → packed k 0 0 0 0 ≡ w
  bare k e s =
      let z : w % 2 ^ 27 ≡ 0 = sym (low_bits 27 w) ∙ unset 0 27 s in
      let h : w / 2 ^ 27 ≡ k = sym high ∙ e in
      rw (sym h) (omega arith)

  back : (o : Op) → Coded o (op_of w) → Back (formed (said o w) w)
  back nop e = back_clean _ i.Nop (λ s. bare 0 e s)
  back stop e = back_clean _ i.Stop (λ s. bare 31 e s)
  back br e =
      back_clean _ _ (λ s. let z = or_parts _ _ s in
      repacked _ _ _ _ _ e (unset 22 5 z.0) refl refl (omega (arith, split 9 3 w, unset 3 9 z.1)))
  back brl e = back_clean _ _ (λ s. repacked _ _ _ _ _ e refl refl refl (omega (arith, split 9 3 w, unset 3 9 s)))
  back unassigned e = back_none
  back (transfer t displaced) e =
      cond_both (eqb (rb_of w) 0) _ _ (λ x. Back (formed (Some x) w))
      (λ z. back_some _ (with_c2 _ _ e (eqb-true (rb_of w) 0 z))) (λ z. back_some _ (with_c2 _ _ e refl))
  back (transfer t relative) e = back_some _ (with_c1 _ e)
  back (binary f) e = back_clean _ _ (λ s. repacked _ _ _ _ _ e refl refl refl (unset 0 12 s))
  back (immediate f) e = back_some _ (with_c2 _ _ e refl)
  back (unary f) e = back_clean _ _ (λ s. let z = or_parts _ _ s in repacked _ _ _ _ _ e refl (unset 17 5 z.0) refl (unset 0 12 z.1))
  back (shift f) e =
      cond_both (eqb (count_of w) 0) _ _ (λ x. Back (formed (Some x) w))
      (λ z. back_clean _ _ (λ s. repacked (shift_code f) _ _ _ 0 e refl refl refl (omega (arith, split 7 5 w, unset 5 7 s, eqb-true (count_of w) 0 z))))
      (λ z. back_clean _ _ (λ s. let y = or_parts _ _ s in repacked (shift_code f) _ _ 0 (count_of w) e refl refl (unset 12 5 y.0) (omega (arith, split 7 5 w, unset 5 7 y.1))))

  pub encodes : Encodes w
  unfolding Back
  encodes = back (operation (op_of w)) (coded (op_of w))
