-- The operations that make an address: loads, stores and addresses. Assumes nothing.
use Rattle.std.proofs.Common.{◌≡◌, ℕ, suc, ◌-◌, ◌/◌, ◌%◌, ◌^◌, Bool, true, false, cond, eqb, ltb, List, [], ◌∷◌, length, get_or, set, pos, negsuc, sym, refl, ap, ◌∙◌, arith}
use Rattle.isa.specs.declared.operation.Transfer.TheVariants.{Load, Store, Address}
use Rattle.isa.specs.Fields.{ra_of, rb_of, c1_of, c2_of, word_of}
use Rattle.isa.specs.Operations.{Mode, Op}
use Rattle.isa.specs.Operations.Mode.{displaced, relative}
use Rattle.isa.specs.Operations.Op.{transfer}
use Rattle.isa.specs.Arithmetic.{plus}
use Rattle.isa.specs.Book.{Visible, Access, access, register, address, checked, perform, word_at, with_register, with_word}
use Rattle.isa.specs.Book.Access.{fit, unfit}
use Rattle.isa.specs.Clocks.{load_clocks, op_clocks}
use Rattle.rows.specs.declared.signal.Signal.TheVariants.{Read, Write, Wait, End}
use Rattle.rows.specs.Signals.{encode}
use Rattle.rows.specs.Rows.{base, offset, control_word}
use Rattle.rows.specs.Core.{Core, Outcome, up, at_step, allowed, execute}
use Rattle.rows.specs.Core.Outcome.{more, done}
use Rattle.rows.specs.After.{visible, based, loaded, transferred, hidden_by, joined}
use Rattle.rows.proofs.Runs.{Row, At}
use Rattle.rows.proofs.Runs.Row.{end, then}
use Rattle.rows.proofs.Alu.{hidden_of, Does}

-- what is added to the base
abbrev added : Mode → ℕ → ℕ
added displaced w = word_of (c2_of w)
added relative w = word_of (c1_of w)

-- s with b in A, x in C and in MA, and y in MD, at the step t
abbrev addressing : Core → ℕ → ℕ → ℕ → ℕ → ℕ → Core
addressing s b x m y t = record {
  pc = s.pc;
  regs = s.regs;
  ir = s.ir;
  ma = m;
  md = y;
  a = b;
  c = x;
  n = s.n;
  con = s.con;
  t = t;
}

module _ (m : Mode) (s : Core) (ws : List ℕ) where
  -- the base in A; the address in C; in MA; and, of a store, the register in MD
  abbrev basing : Core
  basing = addressing s (based m s.ir (visible s ws)) s.c s.ma s.md 4

  abbrev reached : Core
  reached = addressing s (based m s.ir (visible s ws)) (address m s.ir (visible s ws)) s.ma s.md 5

  abbrev aimed : Core
  aimed = addressing s (based m s.ir (visible s ws)) (address m s.ir (visible s ws)) (address m s.ir (visible s ws)) s.md 6

  abbrev armed : Core
  armed = addressing s (based m s.ir (visible s ws)) (address m s.ir (visible s ws)) (address m s.ir (visible s ws)) (get_or s.regs (ra_of s.ir) 0) 7

first : (m : Mode) (s : Core) (ws : List ℕ) → execute (encode (base m)) (at_step s 3) ws ≡ more (basing m s ws) ws
first displaced s ws = refl
first relative s ws = refl

second : (m : Mode) (s : Core) (ws : List ℕ) →
    execute (encode (offset m)) (basing m s ws) ws
    ≡ more (addressing s (based m s.ir (visible s ws)) (plus (based m s.ir (visible s ws)) (added m s.ir)) s.ma s.md 5) ws
second displaced s ws = refl
second relative s ws = refl

zero_plus : (w : ℕ) → plus 0 (word_of (c2_of w)) ≡ word_of (c2_of w)
zero_plus w = go (ltb (w % 2 ^ 17) (2 ^ 16))
  where
    go : (b : Bool) → plus 0 (word_of (cond b (pos (w % 2 ^ 17)) (negsuc (2 ^ 17 - 1 - w % 2 ^ 17)))) ≡ word_of (cond b (pos (w % 2 ^ 17)) (negsuc (2 ^ 17 - 1 - w % 2 ^ 17)))
    go true = omega arith
    go false = omega arith

sum_is : (m : Mode) (w : ℕ) (v : Visible) → plus (based m w v) (added m w) ≡ address m w v
unfolding address
sum_is displaced w v = go (eqb (rb_of w) 0)
  where
    go : (b : Bool) → plus (cond b 0 (register v (rb_of w))) (word_of (c2_of w)) ≡ cond b (word_of (c2_of w)) (plus (register v (rb_of w)) (word_of (c2_of w)))
    go true = zero_plus w
    go false = refl
sum_is relative w v = refl

-- a row that begins with the two steps
reaches : (o : Op) (m : Mode) (s : Core) (ws : List ℕ) (n : ℕ) (r : Outcome) → control_word o 3 ≡ encode (base m) → control_word o 4 ≡ encode (offset m)
    → At o s.regs s.ir 3 (at_step s 3) → At o s.regs s.ir 4 (basing m s ws)
    → Row o s.regs s.ir ws 5 (reached m s ws) n r → Row o s.regs s.ir ws 3 (at_step s 3) (suc (suc n)) r
reaches o m s ws n r e f g h k =
    then (basing m s ws) g (ap (λ (w : ℕ). execute w (at_step s 3) ws) e ∙ first m s ws)
    (then (reached m s ws) h
    (ap (λ (w : ℕ). execute w (basing m s ws) ws) f ∙ second m s ws
    ∙ ap (λ (x : ℕ). more (addressing s (based m s.ir (visible s ws)) x s.ma s.md 5) ws) (sum_is m s.ir (visible s ws))) k)

pub does_address : (m : Mode) (s : Core) (ws : List ℕ) → Does (transfer Address m) s ws
unfolding perform op_clocks hidden_by
does_address m s ws = record {
  m = 3;
  r = _;
  row = reaches (transfer Address m) m s ws 1 _ refl refl (tt, refl, refl, refl) (tt, refl, refl, refl) (end (tt, refl, refl, refl) refl);
  ends = refl;
  time = refl;
}

-- the steps that read and write a word
abbrev holding : Core → ℕ → Core
holding s y = addressing s s.a s.c s.ma y (up s.t)

reads : (s : Core) (ws : List ℕ) (x : Access) → access s.ma (length ws) ≡ x
    → execute (encode (Read ∷ Wait ∷ [])) s ws ≡ allowed x s ws (more (holding s (get_or ws (s.ma / 4) 0)) ws)
reads s ws x e = ap (λ (y : Access). allowed y s ws (more (holding s (get_or ws (s.ma / 4) 0)) ws)) e

writes : (s : Core) (ws : List ℕ) (x : Access) → access s.ma (length ws) ≡ x
    → execute (encode (Write ∷ Wait ∷ End ∷ [])) s ws ≡ allowed x s ws (done false (at_step s 0) (set ws (s.ma / 4) s.md))
writes s ws x e = ap (λ (y : Access). allowed y s ws (done false (at_step s 0) (set ws (s.ma / 4) s.md))) e

-- the book's part, by whether the word may be used
module _ (m : Mode) (s : Core) (ws : List ℕ) where
  abbrev load_ends : Access → Outcome
  load_ends x =
      let v : Visible = visible s ws in
      let a : ℕ = address m s.ir v in
      joined (checked x a v (with_register v (ra_of s.ir) (word_at v a))) (transferred (hidden_of s) (based m s.ir v) a (loaded x (word_at v a) s.md))

  abbrev store_ends : Access → Outcome
  store_ends x =
      let v : Visible = visible s ws in
      let a : ℕ = address m s.ir v in
      joined (checked x a v (with_word v (a / 4) (register v (ra_of s.ir)))) (transferred (hidden_of s) (based m s.ir v) a (register v (ra_of s.ir)))

  does_load_at : (x : Access) → access (address m s.ir (visible s ws)) (length ws) ≡ x → Does (transfer Load m) s ws
  unfolding perform op_clocks hidden_by
  does_load_at fit e = record {
    m = 5;
    r = load_ends fit;
    row = reaches (transfer Load m) m s ws 3 _ refl refl (tt, refl, refl, refl) (tt, refl, refl, refl)
        (then (aimed m s ws) (tt, refl, refl, refl) refl
        (then (holding (aimed m s ws) (word_at (visible s ws) (address m s.ir (visible s ws)))) (tt, refl, refl, refl) (reads (aimed m s ws) ws fit e)
        (end (tt, refl, refl, refl) refl)));
    ends = ap load_ends (sym e);
    time = ap load_clocks e;
  }
  does_load_at (unfit k) e = record {
    m = 4;
    r = load_ends (unfit k);
    row = reaches (transfer Load m) m s ws 2 _ refl refl (tt, refl, refl, refl) (tt, refl, refl, refl)
        (then (aimed m s ws) (tt, refl, refl, refl) refl (end (tt, refl, refl, refl) (reads (aimed m s ws) ws (unfit k) e)));
    ends = ap load_ends (sym e);
    time = ap load_clocks e;
  }

  pub does_load : Does (transfer Load m) s ws
  does_load = does_load_at (access (address m s.ir (visible s ws)) (length ws)) refl

  does_store_at : (x : Access) → access (address m s.ir (visible s ws)) (length ws) ≡ x → store_ends x ≡ allowed x (armed m s ws) ws (done false (at_step (armed m s ws) 0) (set ws (address m s.ir (visible s ws) / 4) (get_or s.regs (ra_of s.ir) 0))) → Does (transfer Store m) s ws
  unfolding perform op_clocks hidden_by
  does_store_at x e q = record {
    m = 5;
    r = store_ends x;
    row = reaches (transfer Store m) m s ws 3 _ refl refl (tt, refl, refl, refl) (tt, refl, refl, refl)
        (then (aimed m s ws) (tt, refl, refl, refl) refl
        (then (armed m s ws) (tt, refl, refl, refl) refl (end (tt, refl, refl, refl) (writes (armed m s ws) ws x e ∙ sym q))));
    ends = ap store_ends (sym e);
    time = refl;
  }

  pub does_store : Does (transfer Store m) s ws
  does_store = does_store_at (access (address m s.ir (visible s ws)) (length ws)) refl (by (access (address m s.ir (visible s ws)) (length ws)))
    where
      by : (x : Access) → store_ends x ≡ allowed x (armed m s ws) ws (done false (at_step (armed m s ws) 0) (set ws (address m s.ir (visible s ws) / 4) (get_or s.regs (ra_of s.ir) 0)))
      by fit = refl
      by (unfit k) = refl
