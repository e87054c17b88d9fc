-- Under our control store the core does the book's instruction. Assumes nothing.
use Rattle.std.proofs.Common.{◌≡◌, ℕ, suc, ◌+◌, ◌^◌, ◌<◌, Bool, true, false, cond, eqb, ltb, List, length, get_or, sym, refl, ap, ◌∙◌, subst, add-zero, arith, lit<}
use Rattle.std.proofs.lemmas.Bool.{ne_eqb, le-ltb}
use Rattle.isa.specs.declared.operation.Transfer.TheVariants.{Load, Store, Address}
use Rattle.isa.specs.Operations.{Op, decoded_op}
use Rattle.isa.specs.Operations.Op.{nop, stop, br, brl, unassigned, transfer, binary, immediate, unary, shift}
use Rattle.isa.specs.Arithmetic.{plus}
use Rattle.isa.specs.Book.{Visible, After, Access, access, fetched, begun, instruction}
use Rattle.isa.specs.Book.After.{next, fault}
use Rattle.isa.specs.Book.Access.{fit, unfit}
use Rattle.isa.specs.Clocks.{op_accesses, begun_accesses, accesses, begun_clocks, clocks}
use Rattle.rows.specs.Rows.{table}
use Rattle.rows.specs.Core.{Core, Outcome, at_step, allowed, micro, waits, steps}
use Rattle.rows.specs.Core.Outcome.{more, failed}
use Rattle.rows.specs.After.{Hidden, visible, hidden_after, joined, after_instruction}
use Rattle.rows.specs.Refine.{Ready, Amid, Within, Same, Refined, Refines}
use Rattle.rows.proofs.Runs.{Runs, own_wait, wait_at, waits_are, clock, row_runs, runs_steps, runs_within}
use Rattle.rows.proofs.Runs.Runs.{last, step}
use Rattle.rows.proofs.Alu.{Does, does_binary, does_immediate, does_unary, does_nop, does_stop, does_unassigned, does_br, does_brl}
use Rattle.rows.proofs.Transfers.{does_address, does_load, does_store}
use Rattle.rows.proofs.Shifts.{does_shift}

does : (o : Op) (s : Core) (ws : List ℕ) → ((i : ℕ) → get_or s.regs i 0 < 2 ^ 32) → Does o s ws
does nop s ws h = does_nop s ws
does stop s ws h = does_stop s ws
does br s ws h = does_br s ws
does brl s ws h = does_brl s ws
does unassigned s ws h = does_unassigned s ws
does (transfer Load m) s ws h = does_load m s ws
does (transfer Store m) s ws h = does_store m s ws
does (transfer Address m) s ws h = does_address m s ws
does (binary f) s ws h = does_binary f s ws
does (immediate f) s ws h = does_immediate f s ws
does (unary f) s ws h = does_unary f s ws
does (shift f) s ws h = does_shift f s ws h

-- the states of the fetch, at T1, T2 and T3
first : Core → Core
first s = record {
  pc = s.pc;
  regs = s.regs;
  ir = s.ir;
  ma = s.pc;
  md = s.md;
  a = s.a;
  c = plus s.pc 4;
  n = s.n;
  con = s.con;
  t = 1;
}

second : Core → ℕ → Core
second s w = record {
  pc = plus s.pc 4;
  regs = s.regs;
  ir = s.ir;
  ma = s.pc;
  md = w;
  a = s.a;
  c = plus s.pc 4;
  n = s.n;
  con = s.con;
  t = 2;
}

third : Core → ℕ → Core
third s w = record {
  pc = plus s.pc 4;
  regs = s.regs;
  ir = w;
  ma = s.pc;
  md = w;
  a = s.a;
  c = plus s.pc 4;
  n = s.n;
  con = s.con;
  t = 3;
}

-- no operation has a Wait step of its own in the first three
early : (o : Op) (t : ℕ) → t < 3 → own_wait o t ≡ false
early nop t l = refl
early stop t l = refl
early br t l = refl
early brl t l = refl
early unassigned t l = refl
early (transfer Load m) t l = ne_eqb t 6 (λ e. absurd (omega arith))
early (transfer Store m) t l = ne_eqb t 7 (λ e. absurd (omega arith))
early (transfer Address m) t l = refl
early (binary f) t l = refl
early (immediate f) t l = refl
early (unary f) t l = refl
early (shift f) t l = refl

uncounted : (o : Op) (j : ℕ) → j < 4 → op_accesses o j ≡ 0
uncounted nop j l = refl
uncounted stop j l = refl
uncounted br j l = refl
uncounted brl j l = refl
uncounted unassigned j l = refl
uncounted (transfer Load m) j l = ap (λ (b : Bool). cond b 1 0) (le-ltb 6 j (omega arith))
uncounted (transfer Store m) j l = ap (λ (b : Bool). cond b 1 0) (le-ltb 7 j (omega arith))
uncounted (transfer Address m) j l = refl
uncounted (binary f) j l = refl
uncounted (immediate f) j l = refl
uncounted (unary f) j l = refl
uncounted (shift f) j l = refl

none_begun : (x : Access) (v : Visible) (j : ℕ) → j < 4 → begun_accesses x v j ≡ 0
none_begun fit v j l = uncounted (decoded_op (fetched v)) j l
none_begun (unfit e) v j l = refl

-- the core in the fetch, at clock and step j
fetching : (v : Visible) (s : Core) (j : ℕ) → j < 3 → s.t ≡ j → s.regs ≡ v.regs
    → cond (ltb 1 j) 1 0 + cond (cond (eqb j 1) true false) 1 0 ≡ cond (ltb 1 (suc j)) 1 0 → Amid v j s v.words
fetching v s j l e r q =
    let low : s.t < 8 = omega arith in
    let o : Op = decoded_op s.ir in
    let w : waits table s ≡ cond (eqb j 1) true false =
    waits_are s low ∙ ap (λ (t : ℕ). wait_at o t) e ∙ ap (λ (b : Bool). cond (eqb j 1) true b) (early o j l) in
    let x : Access = access v.pc (length v.words) in
    let none : (i : ℕ) → i < 4 → accesses v i ≡ cond (ltb 1 i) 1 0 =
    λ i k. ap (λ (m : ℕ). cond (ltb 1 i) 1 0 + m) (none_begun x v i k) ∙ add-zero (cond (ltb 1 i) 1 0) in
    record {
      registers = r;
      kept = refl;
      below = low;
      begun = λ z. sym e ∙ z;
      counted =
          ap (λ (b : Bool). accesses v j + cond b 1 0) w ∙ ap (λ (m : ℕ). m + cond (cond (eqb j 1) true false) 1 0) (none j (omega arith))
          ∙ q ∙ sym (none (suc j) (omega arith));
    }

module _ (s : Core) (ws : List ℕ) where
  fetch_0 : micro table (at_step s 0) ws ≡ more (first s) ws
  unfolding first
  fetch_0 = clock (at_step s 0) ws tt

  fetch_1 : (x : Access) → access s.pc (length ws) ≡ x → micro table (first s) ws ≡ allowed x (first s) ws (more (second s (fetched (visible s ws))) ws)
  unfolding first second
  fetch_1 x e = clock (first s) ws tt ∙ ap (λ (y : Access). allowed y (first s) ws (more (second s (fetched (visible s ws))) ws)) e

  fetch_2 : micro table (second s (fetched (visible s ws))) ws ≡ more (third s (fetched (visible s ws))) ws
  unfolding second third
  fetch_2 = clock (second s (fetched (visible s ws))) ws tt

-- the steps of one instruction, to the outcome that is defined
pub record Ran (s : Core) (ws : List ℕ) : Type 0 where
  pub run : Runs (visible s ws) 0 s (clocks (visible s ws)) (after_instruction s ws)

ran_in : (s : Core) (ws : List ℕ) (n : ℕ) (r : Outcome) → Runs (visible s ws) 0 s n r → clocks (visible s ws) ≡ n → r ≡ after_instruction s ws → Ran s ws
ran_in s ws n r w e q = record { run = subst (λ (m : ℕ). Runs (visible s ws) 0 s m (after_instruction s ws)) (sym e) (subst (λ (u : Outcome). Runs (visible s ws) 0 s n u) q w) }

whole : (s : Core) (ws : List ℕ) → ((i : ℕ) → get_or s.regs i 0 < 2 ^ 32) → (x : Access) → access s.pc (length ws) ≡ x → Ran (at_step s 0) ws
unfolding clocks instruction after_instruction first second third
whole s ws h fit e =
    let v : Visible = visible s ws in
    let w : ℕ = fetched v in
    let d : Does (decoded_op w) (third s w) ws = does (decoded_op w) (third s w) ws h in
    ran_in (at_step s 0) ws (suc (suc (suc d.m))) d.r
    (step (first s) (fetching v (at_step s 0) 0 (lit< tt) refl refl refl) (fetch_0 s ws)
    (step (second s w) (fetching v (first s) 1 (lit< tt) refl refl refl) (fetch_1 s ws fit e)
    (step (third s w) (fetching v (second s w) 2 (lit< tt) refl refl refl) (fetch_2 s ws)
    (row_runs v e (lit< tt) d.row))))
    (ap (λ (y : Access). begun_clocks y v) e ∙ d.time)
    (d.ends ∙ ap (λ (y : Access). joined (begun y v) (hidden_after y (at_step s 0) v)) (sym e))
whole s ws h (unfit k) e =
    let v : Visible = visible s ws in
    ran_in (at_step s 0) ws 2 (failed k s.pc (at_step (first s) 0) ws)
    (step (first s) (fetching v (at_step s 0) 0 (lit< tt) refl refl refl) (fetch_0 s ws)
    (last (fetching v (first s) 1 (lit< tt) refl refl refl) (fetch_1 s ws (unfit k) e)))
    (ap (λ (y : Access). begun_clocks y v) e)
    (ap (λ (y : Access). joined (begun y v) (hidden_after y (at_step s 0) v)) (sym e))

pub ran : (s : Core) (ws : List ℕ) → Ready s → Ran s ws
ran s ws k =
    subst (λ (t : ℕ). Ran (at_step s t) ws) (sym k.start)
    (whole s ws k.small (access s.pc (length ws)) refl)

pub same_joined : (r : After) (h : Hidden) → Same (joined r h) r
same_joined (next stops v) h = (refl, refl, refl)
same_joined (fault e a v) h = (refl, refl, refl, refl)

pub same_after : (s : Core) (ws : List ℕ) → Same (after_instruction s ws) (instruction (visible s ws))
unfolding after_instruction
same_after s ws = same_joined (instruction (visible s ws)) (hidden_after (access s.pc (length ws)) s (visible s ws))

refined : (s : Core) (ws : List ℕ) → Ran s ws → Refined s ws
refined s ws k =
    let v : Visible = visible s ws in
    record {
      before = λ j h. subst (λ (m : ℕ). Within v m (steps table j s ws)) (add-zero j) (runs_within k.run j h);
      after = subst (λ (u : Outcome). Same u (instruction v)) (sym (runs_steps k.run)) (same_after s ws);
      whole = runs_steps k.run;
    }

pub refines : Refines
refines s ws k = refined s ws (ran s ws k)
