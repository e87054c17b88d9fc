-- How many clocks an instruction takes, at least and at most. Assumes nothing.
use Rattle.std.proofs.Common.{ℕ, ◌≤◌, T, leb, length, sym, subst, le_trans, arith, leb→le}
use Rattle.isa.specs.declared.operation.Transfer.TheVariants.{Load, Store, Address}
use Rattle.isa.specs.Operations.{Op, decoded_op}
use Rattle.isa.specs.Operations.Op.{nop, stop, br, brl, unassigned, transfer, binary, immediate, unary, shift}
use Rattle.isa.specs.Book.{Visible, After, Access, access, address, fetched, raised, begun, instruction}
use Rattle.isa.specs.Book.After.{next, fault}
use Rattle.isa.specs.Book.Access.{fit, unfit}
use Rattle.isa.specs.Clocks.{load_clocks, op_clocks, begun_clocks, clocks}
use Rattle.rows.specs.Refine.{FinishesWithin}
use Rattle.rows.proofs.Shifts.{few}

load_bounds : (x : Access) → (4 ≤ load_clocks x) × (load_clocks x ≤ 39)
load_bounds fit = (omega arith, omega arith)
load_bounds (unfit e) = (omega arith, omega arith)

op_bounds : (o : Op) (w : ℕ) (v : Visible) → (4 ≤ op_clocks o w v) × (op_clocks o w v ≤ 39)
unfolding op_clocks
op_bounds nop w v = (omega arith, omega arith)
op_bounds stop w v = (omega arith, omega arith)
op_bounds br w v = (omega arith, omega arith)
op_bounds brl w v = (omega arith, omega arith)
op_bounds unassigned w v = (omega arith, omega arith)
op_bounds (transfer Load m) w v = load_bounds (access (address m w v) (length v.words))
op_bounds (transfer Store m) w v = (omega arith, omega arith)
op_bounds (transfer Address m) w v = (omega arith, omega arith)
op_bounds (binary f) w v = (omega arith, omega arith)
op_bounds (immediate f) w v = (omega arith, omega arith)
op_bounds (unary f) w v = (omega arith, omega arith)
op_bounds (shift f) w v = (omega arith, omega (arith, few w v))

-- of any instruction, also one that faults
begun_bounds : (x : Access) (v : Visible) → (2 ≤ begun_clocks x v) × (begun_clocks x v ≤ 39)
begun_bounds fit v = let b = op_bounds (decoded_op (fetched v)) (fetched v) (raised v) in (omega (arith, b.0), b.1)
begun_bounds (unfit e) v = (omega arith, omega arith)

pub clocks_bounds : (v : Visible) → (2 ≤ clocks v) × (clocks v ≤ 39)
unfolding clocks
clocks_bounds v = begun_bounds (access v.pc (length v.words)) v

abbrev Finished : After → Type 0
Finished (next stops v) = Unit {0}
Finished (fault e a v) = ⊥

finishing : (x : Access) (v : Visible) → Finished (begun x v) → (4 ≤ begun_clocks x v) × (begun_clocks x v ≤ 39)
finishing fit v f = op_bounds (decoded_op (fetched v)) (fetched v) (raised v)
finishing (unfit e) v f = absurd f

pub finishes_within : (low high : ℕ) → T (leb low 4) → T (leb 39 high) → FinishesWithin low high
unfolding instruction clocks
finishes_within low high l h v v' stops e =
    let b = finishing (access v.pc (length v.words)) v (subst Finished (sym e) tt) in
    (le_trans (leb→le low 4 l) b.0, le_trans b.1 (leb→le 39 high h))
