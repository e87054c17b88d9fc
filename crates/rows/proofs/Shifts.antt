-- The shifts: T6 is done again until n is 0. Assumes nothing.
use Rattle.std.proofs.Common.{◌≡◌, ℕ, zero, suc, ◌+◌, ◌-◌, ◌%◌, ◌^◌, ◌<◌, Bool, true, false, cond, not, eqb, ltb, List, [], ◌∷◌, get_or, pos, negsuc, refl, ap, ◌∙◌, arith}
use lib.Dec.{eqb-suc-zero}
use Rattle.isa.specs.declared.operation.Shift.{Shift}
use Rattle.isa.specs.declared.operation.Shift.TheVariants as by_places
use Rattle.isa.specs.Fields.{ra_of, rb_of, rc_of, c1_of, count_of, word_of}
use Rattle.isa.specs.Operations.Op.{shift}
use Rattle.isa.specs.Arithmetic.{shifted_once}
use Rattle.isa.specs.Book.{Visible, register, places, perform, with_register}
use Rattle.isa.specs.Clocks.{op_clocks}
use Rattle.rows.specs.declared.signal.Signal.TheVariants.{Grc, ROut, COut, CIn, Ld, Decr, Goto6, NIsZero, NIsNotZero}
use Rattle.rows.specs.Signals.{encode}
use Rattle.rows.specs.Rows.{shift_signal}
use Rattle.rows.specs.Core.{Core, Outcome, up, conditional, execute}
use Rattle.rows.specs.Core.Outcome.{more, done}
use Rattle.rows.specs.After.{visible, hidden_by, counted_out, core_of}
use Rattle.rows.proofs.Runs.{Row}
use Rattle.rows.proofs.Runs.Row.{end, then}
use Rattle.rows.proofs.Alu.{hidden_of, Does}
use Rattle.rows.proofs.Places.{iterate, all_places}

-- s with k in n and x in C, at the step t
abbrev counting : Core → ℕ → ℕ → ℕ → Core
counting s k x t = record {
  pc = s.pc;
  regs = s.regs;
  ir = s.ir;
  ma = s.ma;
  md = s.md;
  a = s.a;
  c = x;
  n = k;
  con = s.con;
  t = t;
}

-- the end, with x in R[ra]
abbrev ending : Core → List ℕ → ℕ → Outcome
ending s ws x = done false (core_of (with_register (visible s ws) (ra_of s.ir) x) (counted_out (hidden_of s) x)) ws

abbrev turn_word : Shift → ℕ
turn_word f = encode (NIsNotZero ∷ COut ∷ shift_signal f ∷ CIn ∷ Decr ∷ Goto6 ∷ [])

-- T6 with n at 0, which only raises T
idle : (f : Shift) (s : Core) (ws : List ℕ) (x : ℕ) → execute (turn_word f) (counting s 0 x 6) ws ≡ more (counting s 0 x 7) ws
idle by_places.Shr s ws x = refl
idle by_places.Shra s ws x = refl
idle by_places.Shl s ws x = refl
idle by_places.Shc s ws x = refl

-- T6 with n above 0
turned : (f : Shift) (s : Core) (ws : List ℕ) (k x : ℕ) → conditional true (turn_word f) (counting s k x 6) ws ≡ more (counting s ((k + 31) % 32) (shifted_once f x) 6) ws
turned by_places.Shr s ws k x = refl
turned by_places.Shra s ws k x = refl
turned by_places.Shl s ws k x = refl
turned by_places.Shc s ws k x = refl

tested : (f : Shift) (s : Core) (ws : List ℕ) (k x : ℕ) → execute (turn_word f) (counting s k x 6) ws ≡ conditional (not (eqb k 0)) (turn_word f) (counting s k x 6) ws
tested by_places.Shr s ws k x = refl
tested by_places.Shra s ws k x = refl
tested by_places.Shl s ws k x = refl
tested by_places.Shc s ws k x = refl

turn : (f : Shift) (s : Core) (ws : List ℕ) (k x : ℕ) → suc k < 32 → execute (turn_word f) (counting s (suc k) x 6) ws ≡ more (counting s k (shifted_once f x) 6) ws
turn f s ws k x l =
    let e : (suc k + 31) % 32 ≡ k = omega arith in
    tested f s ws (suc k) x ∙ ap (λ (b : Bool). conditional (not b) (turn_word f) (counting s (suc k) x 6) ws) (eqb-suc-zero k)
    ∙ turned f s ws (suc k) x ∙ ap (λ (i : ℕ). more (counting s i (shifted_once f x) 6) ws) e

loop : (f : Shift) (s : Core) (ws : List ℕ) (j k x : ℕ) → k < 32 → Row (shift f) s.regs s.ir ws j (counting s k x 6) (suc (suc k)) (ending s ws (iterate f k x))
unfolding iterate
loop f s ws j zero x l = then (counting s 0 x 7) (tt, refl, refl, refl) (idle f s ws x) (end (tt, refl, refl, refl) refl)
loop f s ws j (suc k) x l = then (counting s k (shifted_once f x) 6) (tt, refl, refl, refl) (turn f s ws k x l) (loop f s ws (suc j) k (shifted_once f x) (omega arith))

-- T4: n is taken from R[rc] where it is 0
chosen : (b : Bool) (s : Core) (ws : List ℕ) → conditional b (encode (NIsZero ∷ Grc ∷ ROut ∷ Ld ∷ [])) s ws
    ≡ more (counting s (cond b (get_or s.regs (rc_of s.ir) 0 % 32) s.n) s.c (up s.t)) ws
chosen true s ws = refl
chosen false s ws = refl

choose : (s : Core) (ws : List ℕ) (k : ℕ) → s.n ≡ k → execute (encode (NIsZero ∷ Grc ∷ ROut ∷ Ld ∷ [])) s ws
    ≡ more (counting s (cond (eqb k 0) (get_or s.regs (rc_of s.ir) 0 % 32) k) s.c (up s.t)) ws
choose s ws k e =
    chosen (eqb s.n 0) s ws
    ∙ ap (λ (j : ℕ). more (counting s (cond (eqb j 0) (get_or s.regs (rc_of s.ir) 0 % 32) j) s.c (up s.t)) ws) e

low_five : (w : ℕ) → word_of (c1_of w) % 32 ≡ count_of w
low_five w = go (ltb (w % 2 ^ 22) (2 ^ 21))
  where
    go : (b : Bool) → word_of (cond b (pos (w % 2 ^ 22)) (negsuc (2 ^ 22 - 1 - w % 2 ^ 22))) % 32 ≡ w % 32
    go true = omega arith
    go false = omega arith

pub few : (w : ℕ) (v : Visible) → places w v < 32
unfolding places
few w v = go (eqb (count_of w) 0)
  where
    go : (b : Bool) → cond b (register v (rc_of w) % 32) (count_of w) < 32
    go true = omega arith
    go false = omega arith

pub does_shift : (f : Shift) (s : Core) (ws : List ℕ) → ((i : ℕ) → get_or s.regs i 0 < 2 ^ 32) → Does (shift f) s ws
unfolding perform op_clocks places hidden_by
does_shift f s ws small =
    let k : ℕ = places s.ir (visible s ws) in
    let x : ℕ = get_or s.regs (rb_of s.ir) 0 in
    record {
      m = suc (suc (suc (suc (suc k))));
      r = ending s ws (iterate f k x);
      row = then (counting s (word_of (c1_of s.ir) % 32) s.c 4) (tt, refl, refl, refl) refl
          (then (counting s k s.c 5) (tt, refl, refl, refl) (choose (counting s (word_of (c1_of s.ir) % 32) s.c 4) ws (count_of s.ir) (low_five s.ir))
          (then (counting s k x 6) (tt, refl, refl, refl) refl (loop f s ws 6 k x (few s.ir (visible s ws)))));
      ends = ap (λ (y : ℕ). ending s ws y) (all_places f k x (few s.ir (visible s ws)) (small (rb_of s.ir)));
      time = omega arith;
    }
