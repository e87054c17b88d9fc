-- Where in an instruction the one-bus core is, by its step and its instruction register. Assumes nothing.
use Rattle.std.proofs.Common.{◌≡◌, ℕ, zero, suc, ◌+◌, ◌*◌, ◌<◌, ◌≤◌, Bool, true, false, cond, eqb, ltb, ◌⊎◌, List, length, get_or, sym, refl, ap, ◌∙◌, subst, inl, inr, arith}
use native.Mathlib.Decide.{dec_lt}
use Rattle.std.proofs.lemmas.Bool.{true≢false, eqb-true, ltb-true, ltb-false}
use Rattle.isa.specs.Fields.{op_of}
use Rattle.isa.specs.Operations.{Op, operation, decoded_op}
use Rattle.isa.specs.Operations.Op.{nop, stop, br, brl, unassigned, transfer, binary, immediate, unary, shift}
use Rattle.isa.specs.declared.operation.Transfer.TheVariants.{Load, Store, Address}
use Rattle.isa.specs.Arithmetic.{plus}
use Rattle.isa.specs.Book.{Visible, Access, access, address, fetched}
use Rattle.isa.specs.Book.Access.{fit, unfit}
use Rattle.isa.specs.Clocks.{load_clocks, op_clocks, begun_clocks, clocks}
use Rattle.rows.specs.declared.signal.Signal.TheVariants.{IrIn, Goto6, End, Stop}
use Rattle.rows.specs.Signals.{gives}
use Rattle.rows.specs.Rows.{table}
use Rattle.rows.specs.Core.{Core, Outcome, up, at_step, held, written, stored, bus, closed, carried_out, allowed, addressed, touches, conditional, met, assigned, rowless, control_at, micro, and_then, steps}
use Rattle.rows.specs.Core.Outcome.{more, done, failed}
use Rattle.rows.specs.After.{visible}
use Rattle.rows.specs.Refine.{Refined, Within}
use Rattle.rows.proofs.Table.{all_codes, some_code}
use Rattle.rows.proofs.Runs.{clock}
use Rattle.rows.proofs.Moves.{steps_last}

abbrev pub is_shift : Op → Bool
is_shift nop = false
is_shift stop = false
is_shift br = false
is_shift brl = false
is_shift unassigned = false
is_shift (transfer f m) = false
is_shift (binary f) = false
is_shift (immediate f) = false
is_shift (unary f) = false
is_shift (shift f) = true

-- Goto6 stands only in T6 of a shift, and IRin only in T2
abbrev placed : ℕ → ℕ → Bool
placed code t =
    let w = get_or table (code * 8 + t) 0 in
    cond (cond (gives w Goto6) (cond (eqb t 6) (is_shift (operation code)) false) true) (cond (gives w IrIn) (eqb t 2) true) false

all_placed : all_codes placed 32 ≡ true
unfolding table
all_placed = refl

both : (x y : Bool) → cond x y false ≡ true → (x ≡ true) × (y ≡ true)
both true y e = (refl, e)
both false y e = absurd (true≢false (sym e))

imp : (x y : Bool) → cond x y true ≡ true → x ≡ true → y ≡ true
imp true y e p = e
imp false y e p = absurd (true≢false (sym p))

record Placed (s : Core) (w : ℕ) : Type 0 where
  goto : gives w Goto6 ≡ true → (eqb s.t 6 ≡ true) × (is_shift (decoded_op s.ir) ≡ true)
  ir : gives w IrIn ≡ true → eqb s.t 2 ≡ true

placed_at : (s : Core) → s.t < 8 → Placed s (control_at table s)
unfolding decoded_op
placed_at s l =
    let c = both _ _ (some_code placed 32 (op_of s.ir) s.t (omega arith) l all_placed) in
    record { goto = λ p. both _ _ (imp _ _ c.0 p); ir = imp _ _ c.1 }

-- after a step within an instruction: T goes up, or stays at 7, or goes from 6 to 6 in a shift; and from T3 on IR stays
pub record Moved (s u : Core) : Type 0 where
  pub rise : (u.t ≡ up s.t) ⊎ ((s.t ≡ 6) × (u.t ≡ 6) × (is_shift (decoded_op s.ir) ≡ true))
  pub keeps : 3 ≤ s.t → u.ir ≡ s.ir

-- and a fault leaves the core but for T, and the words
abbrev pub Moves : Core → List ℕ → Outcome → Type 0
Moves s ws (more u us) = Moved s u
Moves s ws (done stops u us) = Unit {0}
Moves s ws (failed c a u us) = (u ≡ at_step s 0) × (us ≡ ws)

module _ (s : Core) (ws : List ℕ) (w : ℕ) (f : Placed s w) where
  keeps_ir : (b : Bool) (v : ℕ) → gives w IrIn ≡ b → 3 ≤ s.t → cond (gives w IrIn) v s.ir ≡ s.ir
  keeps_ir true v e l = absurd (omega (arith, eqb-true s.t 2 (f.ir e)))
  keeps_ir false v e l = ap (λ (x : Bool). cond x v s.ir) e

  rises : (g : Bool) → gives w Goto6 ≡ g → gives w End ≡ false → (cond (gives w Goto6) 6 (cond (gives w End) 0 (up s.t)) ≡ up s.t) ⊎ ((s.t ≡ 6) × (cond (gives w Goto6) 6 (cond (gives w End) 0 (up s.t)) ≡ 6) × (is_shift (decoded_op s.ir) ≡ true))
  rises true p q = inr (eqb-true s.t 6 (f.goto p).0, ap (λ (x : Bool). cond x 6 (cond (gives w End) 0 (up s.t))) p, (f.goto p).1)
  rises false p q = inl (ap (λ (x : Bool). cond x 6 (cond (gives w End) 0 (up s.t))) p ∙ ap (λ (x : Bool). cond x 0 (up s.t)) q)

  closed_moves : (e z : Bool) (m : ℕ) (us : List ℕ) → gives w End ≡ e → Moves s ws (closed e z (stored w (bus w s) m s) us)
  closed_moves true z m us q = tt
  closed_moves false z m us q = record { rise = rises (gives w Goto6) refl q; keeps = keeps_ir (gives w IrIn) (bus w s) refl }

  carried_moves : Moves s ws (carried_out w s ws)
  carried_moves = closed_moves (gives w End) (gives w Stop) (held w s ws) (written w s ws) refl

  allowed_moves : (x : Access) → Moves s ws (allowed x s ws (carried_out w s ws))
  allowed_moves fit = carried_moves
  allowed_moves (unfit c) = (refl, refl)

  addressed_moves : (b : Bool) → Moves s ws (addressed b w s ws)
  addressed_moves true = allowed_moves (access s.ma (length ws))
  addressed_moves false = carried_moves

  conditional_moves : (b : Bool) → Moves s ws (conditional b w s ws)
  conditional_moves true = addressed_moves (touches w)
  conditional_moves false = record { rise = inl refl; keeps = λ _. refl }

  assigned_moves : (b : Bool) → Moves s ws (assigned b w s ws)
  assigned_moves true = (refl, refl)
  assigned_moves false = conditional_moves (met w s.n)

pub micro_moves : (s : Core) (ws : List ℕ) → s.t < 8 → Moves s ws (micro table s ws)
micro_moves s ws l = assigned_moves s ws (control_at table s) (placed_at s l) (rowless (control_at table s) s.t)

-- only a shift has more than eight clocks
long_load : (x : Access) → load_clocks x ≤ 8
long_load fit = omega arith
long_load (unfit c) = omega arith

long_op : (o : Op) (w : ℕ) (v : Visible) → 8 < op_clocks o w v → is_shift o ≡ true
unfolding op_clocks
long_op nop w v l = absurd (omega arith)
long_op stop w v l = absurd (omega arith)
long_op br w v l = absurd (omega arith)
long_op brl w v l = absurd (omega arith)
long_op unassigned w v l = absurd (omega arith)
long_op (transfer Load m) w v l = absurd (omega (arith, long_load (access (address m w v) (length v.words))))
long_op (transfer Store m) w v l = absurd (omega arith)
long_op (transfer Address m) w v l = absurd (omega arith)
long_op (binary f) w v l = absurd (omega arith)
long_op (immediate f) w v l = absurd (omega arith)
long_op (unary f) w v l = absurd (omega arith)
long_op (shift f) w v l = refl

long_begun : (x : Access) (v : Visible) → 8 < begun_clocks x v → is_shift (decoded_op (fetched v)) ≡ true
long_begun fit v l = long_op (decoded_op (fetched v)) (fetched v) _ l
long_begun (unfit c) v l = absurd (omega arith)

long : (v : Visible) → 8 < clocks v → is_shift (decoded_op (fetched v)) ≡ true
unfolding clocks
long v l = long_begun (access v.pc (length v.words)) v l

fit_begun : (x : Access) (v : Visible) → 2 < begun_clocks x v → x ≡ fit
fit_begun fit v l = refl
fit_begun (unfit c) v l = absurd (omega arith)

pub fit_of : (v : Visible) → 2 < clocks v → access v.pc (length v.words) ≡ fit
unfolding clocks
fit_of v l = fit_begun (access v.pc (length v.words)) v l

-- the core in the fetch
abbrev fetching : Core → ℕ → ℕ → ℕ → ℕ → Core
fetching s p m i t = record { pc = p; regs = s.regs; ir = i; ma = s.pc; md = m; a = s.a; c = plus s.pc 4; n = s.n; con = s.con; t = t }

module _ (s : Core) (ws : List ℕ) (ok : access s.pc (length ws) ≡ fit) where
  fetches : steps table 3 (at_step s 0) ws ≡ more (fetching s (plus s.pc 4) (fetched (visible s ws)) (fetched (visible s ws)) 3) ws
  unfolding steps
  fetches =
      let w : ℕ = fetched (visible s ws) in
      let one = fetching s s.pc s.md s.ir 1 in
      let two = fetching s (plus s.pc 4) w s.ir 2 in
      ap (λ (o : Outcome). and_then o (steps table 2)) (clock (at_step s 0) ws tt)
      ∙ ap (λ (o : Outcome). and_then o (steps table 1)) (clock one ws tt ∙ ap (λ (x : Access). allowed x one ws (more two ws)) ok)
      ∙ ap (λ (o : Outcome). and_then o (steps table 0)) (clock two ws tt)

abbrev ir_of : Outcome → ℕ
ir_of (more u us) = u.ir
ir_of (done z u us) = 0
ir_of (failed c a u us) = 0

abbrev t_of : Outcome → ℕ
t_of (more u us) = u.t
t_of (done z u us) = 0
t_of (failed c a u us) = 0

abbrev Goes : Outcome → Type 0
Goes (more u us) = Unit {0}
Goes (done z u us) = ⊥
Goes (failed c a u us) = ⊥

-- j steps into the instruction that began in s: T is j, unless a shift goes round; and IR has the word that was fetched
pub record Trace (v : Visible) (j : ℕ) (q : Core) : Type 0 where
  pub at : (q.t ≡ j) ⊎ ((6 ≤ q.t) × (6 ≤ j) × (is_shift (decoded_op q.ir) ≡ true))
  pub ir : 3 ≤ j → q.ir ≡ fetched v

module _ (s : Core) (ws : List ℕ) (z : s.t ≡ 0) (r : Refined s ws) where
  abbrev v : Visible
  v = visible s ws

  in_step : (j : ℕ) (q : Core) (us : List ℕ) → j < clocks v → steps table j s ws ≡ more q us → q.t < 8
  in_step j q us l e = (subst (λ (o : Outcome). Within v j o) e (r.before j l)).below

  late : (j : ℕ) (q : Core) → Trace v j q → 3 ≤ j → 3 ≤ q.t
  late j q h l = elim h.at [ inl a ↦ omega arith | inr a ↦ omega (arith, a.0) ]

  up_is : (t : ℕ) → (up t ≡ suc t) ⊎ (7 ≤ t)
  up_is t = by (ltb t 7) refl
    where
      by : (b : Bool) → ltb t 7 ≡ b → (cond b (suc t) 7 ≡ suc t) ⊎ (7 ≤ t)
      by true e = inl refl
      by false e = inr (ltb-false t 7 e)

  up_top : (t : ℕ) → 7 ≤ t → up t ≡ 7
  up_top t l = by (ltb t 7) refl
    where
      by : (b : Bool) → ltb t 7 ≡ b → cond b (suc t) 7 ≡ 7
      by true e = absurd (omega (arith, ltb-true t 7 e))
      by false e = refl

  trace_at : (j : ℕ) (q u : Core) → suc j < clocks v → q.t < 8 → Trace v j q → Moved q u → (u.t ≡ suc j) ⊎ ((6 ≤ u.t) × (6 ≤ suc j) × (is_shift (decoded_op u.ir) ≡ true))
  trace_at j q u l low h m = by h.at m.rise (up_is q.t)
    where
      stays : 3 ≤ q.t → is_shift (decoded_op q.ir) ≡ true → is_shift (decoded_op u.ir) ≡ true
      stays g e = ap (λ (i : ℕ). is_shift (decoded_op i)) (m.keeps g) ∙ e

      by : (q.t ≡ j) ⊎ ((6 ≤ q.t) × (6 ≤ j) × (is_shift (decoded_op q.ir) ≡ true)) → (u.t ≡ up q.t) ⊎ ((q.t ≡ 6) × (u.t ≡ 6) × (is_shift (decoded_op q.ir) ≡ true)) → (up q.t ≡ suc q.t) ⊎ (7 ≤ q.t) →
          (u.t ≡ suc j) ⊎ ((6 ≤ u.t) × (6 ≤ suc j) × (is_shift (decoded_op u.ir) ≡ true))
      by (inl a) (inl b) (inl c) = inl (b ∙ c ∙ ap suc a)
      by (inl a) (inl b) (inr c) =
          let top = b ∙ up_top q.t c in
          inr (omega (arith, top), omega arith, stays (omega arith) (ap (λ (i : ℕ). is_shift (decoded_op i)) (h.ir (omega arith)) ∙ long v (omega arith)))
      by (inl a) (inr b) c = inr (omega (arith, b.1), omega (arith, b.0), stays (omega (arith, b.0)) b.2)
      by (inr a) (inl b) (inl c) = inr (omega (arith, a.0, b, c), omega (arith, a.1), stays (omega (arith, a.0)) a.2)
      by (inr a) (inl b) (inr c) = let top = b ∙ up_top q.t c in inr (omega (arith, top), omega (arith, a.1), stays (omega (arith, a.0)) a.2)
      by (inr a) (inr b) c = inr (omega (arith, b.1), omega (arith, a.1), stays (omega (arith, a.0)) a.2)

  trace_ir : (j : ℕ) (q u : Core) (us : List ℕ) → suc j < clocks v → steps table (suc j) s ws ≡ more u us → Trace v j q → Moved q u → 3 ≤ suc j → Dec (2 < j) → u.ir ≡ fetched v
  trace_ir j q u us l e h m g (yes n) = m.keeps (late j q h n) ∙ h.ir n
  trace_ir j q u us l e h m g (no n) =
      let is : suc j ≡ 3 = omega arith in
      let three : steps table 3 s ws ≡ more u us = subst (λ (i : ℕ). steps table i s ws ≡ more u us) is e in
      let same : steps table 3 (at_step s 0) ws ≡ steps table 3 s ws = ap (λ (t : ℕ). steps table 3 (at_step s t) ws) (sym z) in
      sym (ap ir_of (sym (fetches s ws (fit_of v (omega arith))) ∙ same ∙ three))

  trace_more : (j : ℕ) (u : Core) (us : List ℕ) → suc j < clocks v → steps table (suc j) s ws ≡ more u us → ((q : Core) (qs : List ℕ) → steps table j s ws ≡ more q qs → Trace v j q) →
      (o : Outcome) → steps table j s ws ≡ o → and_then o (micro table) ≡ more u us → Trace v (suc j) u
  trace_more j u us l e ih (more q qs) x y =
      let h = ih q qs x in
      let low = in_step j q qs (omega arith) x in
      let m = subst (Moves q qs) y (micro_moves q qs low) in
      record { at = trace_at j q u l low h m; ir = λ g. trace_ir j q u us l e h m g (dec_lt 2 j) }
  trace_more j u us l e ih (done b q qs) x y = absurd (subst Goes (sym y) tt)
  trace_more j u us l e ih (failed c a q qs) x y = absurd (subst Goes (sym y) tt)

  pub trace : (j : ℕ) (q : Core) (us : List ℕ) → j < clocks v → steps table j s ws ≡ more q us → Trace v j q
  unfolding steps
  trace zero q us l e = record { at = inl (sym (ap t_of e) ∙ z); ir = λ g. absurd (omega arith) }
  trace (suc j) q us l e = trace_more j q us l e (λ u uus x. trace j u uus (omega arith) x) (steps table j s ws) refl (sym (steps_last table j s ws) ∙ e)
