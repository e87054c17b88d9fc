-- An instruction of the book keeps every number within 32 bits. Assumes nothing.
use Rattle.std.proofs.Common.{ℕ, zero, suc, ◌-◌, ◌/◌, ◌%◌, ◌^◌, ◌<◌, Bool, true, false, cond, eqb, ltb, List, [], ◌∷◌, length, get_or, set, pos, negsuc, subst, lt_of_le_of_lt, arith}
use Rattle.std.proofs.lemmas.Nat.{and_le_l, or_lt}
use Rattle.isa.specs.declared.operation.Transfer.TheVariants.{Load, Store, Address}
use Rattle.isa.specs.declared.operation.Binary.{Binary}
use Rattle.isa.specs.declared.operation.Binary.TheVariants.{Add, Sub, And, Or}
use Rattle.isa.specs.declared.operation.Unary.{Unary}
use Rattle.isa.specs.declared.operation.Unary.TheVariants.{Neg, Not}
use Rattle.isa.specs.declared.operation.Shift.{Shift}
use Rattle.isa.specs.declared.operation.Shift.TheVariants.{Shr, Shra, Shl, Shc}
use Rattle.isa.specs.Fields.{ra_of, rb_of, rc_of, c2_of, word_of}
use Rattle.isa.specs.Operations.{Mode, Op, decoded_op, binary_of}
use Rattle.isa.specs.Operations.Mode.{displaced, relative}
use Rattle.isa.specs.Operations.Op.{nop, stop, br, brl, unassigned, transfer, binary, immediate, unary, shift}
use Rattle.isa.specs.Arithmetic.{plus, sign, binary_result, unary_result, shifted_once, shifted}
use Rattle.isa.specs.Book.{Visible, After, Access, access, with_pc, with_register, with_word, address, places, taken, branched, checked, perform, fetched, raised, begun, instruction}
use Rattle.isa.specs.Book.After.{next, fault}
use Rattle.isa.specs.Book.Access.{fit, unfit}
use Rattle.rows.specs.Runs.{Fits}
use Rattle.rows.proofs.Places.{iterate, all_places}
use Rattle.rows.proofs.Shifts.{few}

pub set_small : (xs : List ℕ) (i v m : ℕ) → ((j : ℕ) → get_or xs j 0 < m) → v < m → (j : ℕ) → get_or (set xs i v) j 0 < m
set_small [] i v m h l j = h j
set_small (x ∷ xs) zero v m h l zero = l
set_small (x ∷ xs) zero v m h l (suc j) = h (suc j)
set_small (x ∷ xs) (suc i) v m h l zero = h 0
set_small (x ∷ xs) (suc i) v m h l (suc j) = set_small xs i v m (λ k. h (suc k)) l j

cond_small : (b : Bool) (x y m : ℕ) → x < m → y < m → cond b x y < m
cond_small true x y m h l = h
cond_small false x y m h l = l

plus_small : (a b : ℕ) → plus a b < 2 ^ 32
plus_small a b = omega arith

binary_small : (f : Binary) (a b : ℕ) → a < 2 ^ 32 → b < 2 ^ 32 → binary_result f a b < 2 ^ 32
binary_small Add a b h l = plus_small a b
binary_small Sub a b h l = omega arith
binary_small And a b h l = lt_of_le_of_lt (and_le_l a b) h
binary_small Or a b h l = or_lt 32 a b h l

unary_small : (f : Unary) (b : ℕ) → unary_result f b < 2 ^ 32
unary_small Neg b = omega arith
unary_small Not b = omega arith

once_small : (f : Shift) (x : ℕ) → x < 2 ^ 32 → shifted_once f x < 2 ^ 32
once_small Shr x l = omega arith
once_small Shra x l = cond_small (sign x) _ _ (2 ^ 32) (omega arith) (omega arith)
once_small Shl x l = omega arith
once_small Shc x l = omega arith

iterate_small : (f : Shift) (k x : ℕ) → x < 2 ^ 32 → iterate f k x < 2 ^ 32
unfolding iterate
iterate_small f zero x l = l
iterate_small f (suc k) x l = iterate_small f k (shifted_once f x) (once_small f x l)

shifted_small : (f : Shift) (k x : ℕ) → k < 32 → x < 2 ^ 32 → shifted f k x < 2 ^ 32
shifted_small f k x i l = subst (λ (y : ℕ). y < 2 ^ 32) (all_places f k x i l) (iterate_small f k x l)

c2_small : (w : ℕ) → word_of (c2_of w) < 2 ^ 32
c2_small w = go (ltb (w % 2 ^ 17) (2 ^ 16))
  where
    go : (b : Bool) → word_of (cond b (pos (w % 2 ^ 17)) (negsuc (2 ^ 17 - 1 - w % 2 ^ 17))) < 2 ^ 32
    go true = omega arith
    go false = omega arith

address_small : (m : Mode) (w : ℕ) (v : Visible) → address m w v < 2 ^ 32
unfolding address
address_small displaced w v = cond_small (eqb (rb_of w) 0) _ _ (2 ^ 32) (c2_small w) (plus_small _ _)
address_small relative w v = plus_small _ _

unfoldable pub FitsAfter : After → Type 0
FitsAfter (next stops v) = Fits v
FitsAfter (fault e a v) = Fits v

module _ (v : Visible) (g : Fits v) where
  register_fits : (i x : ℕ) → x < 2 ^ 32 → Fits (with_register v i x)
  register_fits i x l = record { small = set_small v.regs i x (2 ^ 32) g.small l; held = g.held; at = g.at }

  word_fits : (n x : ℕ) → x < 2 ^ 32 → Fits (with_word v n x)
  word_fits n x l = record { small = g.small; held = set_small v.words n x (2 ^ 32) g.held l; at = g.at }

  pc_fits : (p : ℕ) → p < 2 ^ 32 → Fits (with_pc v p)
  pc_fits p l = record { small = g.small; held = g.held; at = l }

  branch_fits : (w : ℕ) → Fits (branched w v)
  branch_fits w = pc_fits _ (cond_small (taken w v) _ _ (2 ^ 32) (g.small (rb_of w)) g.at)

checked_fits : (x : Access) (a : ℕ) (v v' : Visible) → Fits v → Fits v' → FitsAfter (checked x a v v')
unfolding FitsAfter
checked_fits fit a v v' g h = h
checked_fits (unfit e) a v v' g h = g

perform_fits : (o : Op) (w at : ℕ) (v : Visible) → Fits v → FitsAfter (perform o w at v)
unfolding perform FitsAfter
perform_fits nop w at v g = g
perform_fits stop w at v g = g
perform_fits br w at v g = branch_fits v g w
perform_fits brl w at v g = register_fits (branched w v) (branch_fits v g w) (ra_of w) v.pc g.at
perform_fits unassigned w at v g = g
perform_fits (transfer Load m) w at v g = checked_fits _ _ _ _ g (register_fits v g (ra_of w) _ (g.held (address m w v / 4)))
perform_fits (transfer Store m) w at v g = checked_fits _ _ _ _ g (word_fits v g (address m w v / 4) _ (g.small (ra_of w)))
perform_fits (transfer Address m) w at v g = register_fits v g (ra_of w) _ (address_small m w v)
perform_fits (binary f) w at v g = register_fits v g (ra_of w) _ (binary_small f _ _ (g.small (rb_of w)) (g.small (rc_of w)))
perform_fits (immediate f) w at v g = register_fits v g (ra_of w) _ (binary_small (binary_of f) _ _ (g.small (rb_of w)) (c2_small w))
perform_fits (unary f) w at v g = register_fits v g (ra_of w) _ (unary_small f _)
perform_fits (shift f) w at v g = register_fits v g (ra_of w) _ (shifted_small f (places w v) _ (few w v) (g.small (rb_of w)))

begun_fits : (x : Access) (v : Visible) → Fits v → FitsAfter (begun x v)
unfolding FitsAfter
begun_fits fit v g = perform_fits (decoded_op (fetched v)) (fetched v) v.pc (raised v) (pc_fits v g _ (plus_small _ _))
begun_fits (unfit e) v g = g

pub instruction_fits : (v : Visible) → Fits v → FitsAfter (instruction v)
unfolding instruction
instruction_fits v g = begun_fits (access v.pc (length v.words)) v g
