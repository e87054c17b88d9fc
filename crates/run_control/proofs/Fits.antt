-- What an instruction keeps: numbers of 32 bits, and where it faults the registers and the words. Assumes nothing.
use Rattle.std.proofs.Common.{◌≡◌, ℕ, ◌^◌, ◌<◌, List, length, set, refl}
use Rattle.isa.specs.Operations.{Op, decoded_op}
use Rattle.isa.specs.Operations.Op.{nop, stop, br, brl, unassigned, transfer, binary, immediate, unary, shift}
use Rattle.isa.specs.Book.{Visible, After, Access, access, with_pc, with_register, checked, perform, fetched, raised, begun, instruction}
use Rattle.isa.specs.Book.After.{next, fault}
use Rattle.isa.specs.Book.Access.{fit, unfit}
use Rattle.isa.specs.declared.operation.Transfer.TheVariants.{Load, Store, Address}
use Rattle.rows.specs.Runs.{Fits}
use Rattle.rows.proofs.Kept as kept
use Rattle.rows.proofs.Kept.{FitsAfter, instruction_fits}
use Rattle.run_control.specs.Core.{Small}

pub set_small : (xs : List ℕ) (i v : ℕ) → Small xs → v < 2 ^ 32 → Small (set xs i v)
set_small xs i v h l = kept.set_small xs i v (2 ^ 32) h l

module _ (v : Visible) (g : Fits v) where
  pub register_fits : (i x : ℕ) → x < 2 ^ 32 → Fits (with_register v i x)
  register_fits i x l = record { small = set_small v.regs i x g.small l; held = g.held; at = g.at }

  pub pc_fits : (p : ℕ) → p < 2 ^ 32 → Fits (with_pc v p)
  pc_fits p l = record { small = g.small; held = g.held; at = l }

-- where an instruction from v faults, the registers and the words are those of v
abbrev FaultsIn : Visible → After → Type 0
FaultsIn v (next stops u) = Unit {0}
FaultsIn v (fault c a u) = (u.regs ≡ v.regs) × (u.words ≡ v.words)

checked_faults : (x : Access) (a : ℕ) (v u : Visible) → FaultsIn v (checked x a v u)
checked_faults fit a v u = tt
checked_faults (unfit c) a v u = (refl, refl)

perform_faults : (o : Op) (w at : ℕ) (v : Visible) → FaultsIn v (perform o w at v)
unfolding perform
perform_faults nop w at v = tt
perform_faults stop w at v = tt
perform_faults br w at v = tt
perform_faults brl w at v = tt
perform_faults unassigned w at v = (refl, refl)
perform_faults (transfer Load m) w at v = checked_faults _ _ v _
perform_faults (transfer Store m) w at v = checked_faults _ _ v _
perform_faults (transfer Address m) w at v = tt
perform_faults (binary f) w at v = tt
perform_faults (immediate f) w at v = tt
perform_faults (unary f) w at v = tt
perform_faults (shift f) w at v = tt

begun_faults : (x : Access) (v : Visible) → FaultsIn v (begun x v)
begun_faults fit v = perform_faults (decoded_op (fetched v)) (fetched v) v.pc (raised v)
begun_faults (unfit c) v = (refl, refl)

instruction_faults : (v : Visible) → FaultsIn v (instruction v)
unfolding instruction
instruction_faults v = begun_faults (access v.pc (length v.words)) v

-- both: after an instruction from v every number fits, and a fault keeps the registers and the words of v
abbrev pub Keeps : Visible → After → Type 0
Keeps v (next stops u) = Fits u
Keeps v (fault c a u) = Fits u × (u.regs ≡ v.regs) × (u.words ≡ v.words)

both : (v : Visible) (r : After) → FitsAfter r → FaultsIn v r → Keeps v r
unfolding FitsAfter
both v (next stops u) g e = g
both v (fault c a u) g e = (g, e.0, e.1)

pub keeps : (v : Visible) → Fits v → Keeps v (instruction v)
keeps v g = both v (instruction v) (instruction_fits v g) (instruction_faults v)
