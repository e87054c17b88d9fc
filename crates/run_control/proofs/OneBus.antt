-- The one-bus core has the facts that run control asks of a core. Assumes nothing.
use Rattle.std.proofs.Common.{◌≡◌, ℕ, zero, suc, ◌+◌, ◌^◌, ◌<◌, ◌≤◌, Bool, true, cond, ◌⊎◌, List, length, sym, refl, ap, ◌∙◌, subst, inl, inr, arith}
use native.Mathlib.Decide.{dec_lt}
use Rattle.std.proofs.lemmas.Bool.{true≢false, lt-ltb, le-ltb}
use Rattle.isa.specs.Operations.{Op, decoded_op}
use Rattle.isa.specs.Operations.Op.{nop, stop, br, brl, unassigned, transfer, binary, immediate, unary, shift}
use Rattle.isa.specs.declared.operation.Transfer.TheVariants.{Load, Store, Address}
use Rattle.isa.specs.Arithmetic.{plus, minus}
use Rattle.isa.specs.Book.{Visible, Cause, After, Access, access, address, checked, perform, fetched, raised, begun, instruction}
use Rattle.isa.specs.Book.After.{next, fault}
use Rattle.isa.specs.Book.Access.{fit, unfit}
use Rattle.isa.specs.Clocks.{load_clocks, op_clocks, begun_clocks, clocks, op_accesses, begun_accesses, accesses}
use Rattle.rows.specs.Rows.{table}
use Rattle.rows.specs.Core as bus
use Rattle.rows.specs.Core.{micro, waits}
use Rattle.rows.specs.After.{visible}
use Rattle.rows.specs.Runs.{Fits}
use Rattle.rows.specs.Refine as rows
use Rattle.rows.proofs.Refining.{refines}
use Rattle.rows.proofs.Moves.{moves_on, steps_last}
use Rattle.run_control.specs.Core.{CoreFacts, Refined, Outcome, and_then, steps, Quiet, Same, Reached}
use Rattle.run_control.specs.Core.Outcome.{more, done, failed}
use Rattle.run_control.specs.OneBus.{outcome, fetched_from, one_bus}
use Rattle.run_control.proofs.Traces.{is_shift, Moves, micro_moves, fit_of, Trace, trace}

-- where an instruction of c clocks from v faults, PC is as it was in the fetch, and raised after it
abbrev FaultsAt : Visible → ℕ → After → Type 0
FaultsAt v c (next stops u) = Unit {0}
FaultsAt v c (fault e a u) = ((c ≡ 2) × (u.pc ≡ v.pc)) ⊎ ((3 < c) × (u.pc ≡ plus v.pc 4))

load_faults : (x : Access) (a : ℕ) (v u : Visible) → FaultsAt v (load_clocks x) (checked x a (raised v) u)
load_faults fit a v u = tt
load_faults (unfit c) a v u = inr (omega arith, refl)

store_faults : (x : Access) (a : ℕ) (v u : Visible) → FaultsAt v 8 (checked x a (raised v) u)
store_faults fit a v u = tt
store_faults (unfit c) a v u = inr (omega arith, refl)

perform_faults : (o : Op) (w at : ℕ) (v : Visible) → FaultsAt v (op_clocks o w (raised v)) (perform o w at (raised v))
unfolding perform op_clocks
perform_faults nop w at v = tt
perform_faults stop w at v = tt
perform_faults br w at v = tt
perform_faults brl w at v = tt
perform_faults unassigned w at v = inr (omega arith, refl)
perform_faults (transfer Load m) w at v = load_faults (access (address m w (raised v)) (length v.words)) _ v _
perform_faults (transfer Store m) w at v = store_faults (access (address m w (raised v)) (length v.words)) _ v _
perform_faults (transfer Address m) w at v = tt
perform_faults (binary f) w at v = tt
perform_faults (immediate f) w at v = tt
perform_faults (unary f) w at v = tt
perform_faults (shift f) w at v = tt

begun_faults : (x : Access) (v : Visible) → FaultsAt v (begun_clocks x v) (begun x v)
begun_faults fit v = perform_faults (decoded_op (fetched v)) (fetched v) v.pc v
begun_faults (unfit c) v = inl (refl, refl)

instruction_faults : (v : Visible) → FaultsAt v (clocks v) (instruction v)
unfolding instruction clocks
instruction_faults v = begun_faults (access v.pc (length v.words)) v

-- from the steps of the rows to those of a core
then_outcome : (o : bus.Outcome) → and_then (outcome o) one_bus.step ≡ outcome (bus.and_then o (micro table))
then_outcome (bus.Outcome.more s ws) = refl
then_outcome (bus.Outcome.done z s ws) = refl
then_outcome (bus.Outcome.failed c a s ws) = refl

steps_outcome : (j : ℕ) (s : bus.Core) (ws : List ℕ) → steps one_bus j s ws ≡ outcome (bus.steps table j s ws)
unfolding bus.steps
steps_outcome zero s ws = refl
steps_outcome (suc j) s ws =
    ap (λ (o : Outcome bus.Core). and_then o one_bus.step) (steps_outcome j s ws) ∙ then_outcome (bus.steps table j s ws) ∙ ap outcome (sym (steps_last table j s ws))

abbrev Was : bus.Outcome → Outcome bus.Core → Type 0
Was o (more q us) = o ≡ bus.Outcome.more q us
Was o (done z q us) = Unit {0}
Was o (failed c a) = Unit {0}

was_it : (o : bus.Outcome) → Was o (outcome o)
was_it (bus.Outcome.more s ws) = refl
was_it (bus.Outcome.done z s ws) = tt
was_it (bus.Outcome.failed c a s ws) = tt

was : (o : bus.Outcome) (q : bus.Core) (us : List ℕ) → outcome o ≡ more q us → o ≡ bus.Outcome.more q us
was o q us e = subst (λ (x : Outcome bus.Core). Was o x) e (was_it o)

quiet_outcome : (v : Visible) (j : ℕ) (o : bus.Outcome) → rows.Within v j o → Quiet one_bus v (outcome o)
quiet_outcome v j (bus.Outcome.more s ws) h = (h.registers, h.kept)
quiet_outcome v j (bus.Outcome.done z s ws) h = h
quiet_outcome v j (bus.Outcome.failed c a s ws) h = h

same_outcome : (o : bus.Outcome) (r : After) → rows.Same o r → Same one_bus (outcome o) r
same_outcome (bus.Outcome.more s ws) r h = h
same_outcome (bus.Outcome.done z s ws) (next z' v) h = h
same_outcome (bus.Outcome.done z s ws) (fault c a v) h = h
same_outcome (bus.Outcome.failed c a s ws) (next z v) h = h
same_outcome (bus.Outcome.failed c a s ws) (fault c' a' v) h = (h.0, h.1)

-- the accesses up to a clock of a shift are the fetch
shift_accesses : (o : Op) (j : ℕ) → is_shift o ≡ true → op_accesses o j ≡ 0
shift_accesses nop j e = refl
shift_accesses stop j e = refl
shift_accesses br j e = refl
shift_accesses brl j e = refl
shift_accesses unassigned j e = refl
shift_accesses (transfer Load m) j e = absurd (true≢false (sym e))
shift_accesses (transfer Store m) j e = absurd (true≢false (sym e))
shift_accesses (transfer Address m) j e = refl
shift_accesses (binary f) j e = refl
shift_accesses (immediate f) j e = refl
shift_accesses (unary f) j e = refl
shift_accesses (shift f) j e = refl

fetch_only : (v : Visible) (j : ℕ) → access v.pc (length v.words) ≡ fit → is_shift (decoded_op (fetched v)) ≡ true → 1 < j → accesses v j ≡ 1
fetch_only v j ok e l =
    ap (λ (b : Bool). cond b 1 0 + begun_accesses (access v.pc (length v.words)) v j) (lt-ltb 1 j l)
    ∙ ap (λ (x : Access). 1 + begun_accesses x v j) ok ∙ ap (λ (n : ℕ). 1 + n) (shift_accesses (decoded_op (fetched v)) j e)

-- what is told of the instruction's address
origin_early : (q : bus.Core) (p : ℕ) → q.t ≡ 1 → q.pc ≡ p → fetched_from q ≡ p
origin_early q p t e = ap (λ (b : Bool). cond b q.pc (minus q.pc 4)) (lt-ltb q.t 2 (omega arith)) ∙ e

origin_late : (q : bus.Core) (p : ℕ) → 2 ≤ q.t → p < 2 ^ 32 → q.pc ≡ plus p 4 → fetched_from q ≡ p
origin_late q p t l e =
    let back : minus (plus p 4) 4 ≡ p = omega arith in
    ap (λ (b : Bool). cond b q.pc (minus q.pc 4)) (le-ltb q.t 2 t) ∙ ap (λ (x : ℕ). minus x 4) e ∙ back

module _ (s : bus.Core) (ws : List ℕ) (z : s.t ≡ 0) (g : Fits (visible s ws)) where
  abbrev v : Visible
  v = visible s ws

  r : rows.Refined s ws
  r = refines s ws (record { start = z; small = g.small })

  module _ (j : ℕ) (q : bus.Core) (us : List ℕ) (h : Reached one_bus s ws j q us) where
    there : bus.steps table j s ws ≡ bus.Outcome.more q us
    there = was (bus.steps table j s ws) q us (sym (steps_outcome j s ws) ∙ h.1)

    mid : rows.Amid v j q us
    mid = subst (λ (o : bus.Outcome). rows.Within v j o) there (r.before j h.0)

    tr : Trace v j q
    tr = trace s ws z r j q us h.0 there

    by_time : accesses v (suc j) ≤ accesses v (suc q.t)
    by_time = by tr.at
      where
        by : (q.t ≡ j) ⊎ ((6 ≤ q.t) × (6 ≤ j) × (is_shift (decoded_op q.ir) ≡ true)) → accesses v (suc j) ≤ accesses v (suc q.t)
        by (inl a) = subst (λ (i : ℕ). accesses v (suc j) ≤ accesses v (suc i)) (sym a) (omega arith)
        by (inr a) =
            let l : j < clocks v = h.0 in
            let ok = fit_of v (omega (arith, a.1)) in
            let e : is_shift (decoded_op (fetched v)) ≡ true = ap (λ (i : ℕ). is_shift (decoded_op i)) (sym (tr.ir (omega (arith, a.1)))) ∙ a.2 in
            omega (arith, fetch_only v (suc j) ok e (omega (arith, a.1)), fetch_only v (suc q.t) ok e (omega (arith, a.0)))

    -- a step that fails is the last one, and the core that it leaves has the book's PC
    fails : (c : Cause) (a : ℕ) (o : bus.Outcome) (x : After) → micro table q us ≡ o → outcome o ≡ failed c a → instruction v ≡ x → bus.steps table (suc j) s ws ≡ o → Dec (suc j < clocks v) → fetched_from q ≡ s.pc
    fails c a (bus.Outcome.more u uus) x e f i st d = cc
    fails c a (bus.Outcome.done b u uus) x e f i st d = cc
    fails c a (bus.Outcome.failed c' a' u uus) x e f i st (yes l) = absurd (subst (λ (y : bus.Outcome). rows.Within v (suc j) y) st (r.before (suc j) l))
    fails c a (bus.Outcome.failed c' a' u uus) x e f i st (no n) =
        let l : j < clocks v = h.0 in
        let last : clocks v ≡ suc j = omega arith in
        let same : rows.Same (bus.Outcome.failed c' a' u uus) x
        = subst (λ (y : bus.Outcome). rows.Same y x) st (subst (λ (m : ℕ). rows.Same (bus.steps table m s ws) x) last (subst (λ (y : After). rows.Same (bus.steps table (clocks v) s ws) y) i r.after)) in
        let kept : u.pc ≡ q.pc = ap (λ (p : bus.Core). p.pc) (subst (Moves q us) e (micro_moves q us mid.below)).0 in
        by x same (subst (FaultsAt v (clocks v)) i (instruction_faults v)) last kept
      where
        by : (y : After) → rows.Same (bus.Outcome.failed c' a' u uus) y → FaultsAt v (clocks v) y → clocks v ≡ suc j → u.pc ≡ q.pc → fetched_from q ≡ s.pc
        by (next b w) h f l p = absurd h
        by (fault b k w) h (inl m) l p =
            let one : j ≡ 1 = omega (arith, m.0) in
            origin_early q s.pc (elim tr.at [ inl t ↦ t ∙ one | inr t ↦ absurd (omega (arith, t.1)) ]) (sym p ∙ ap (λ (n : Visible). n.pc) h.2 ∙ m.1)
        by (fault b k w) h (inr m) l p =
            let far : 3 ≤ j = omega (arith, m.0) in
            let late : 2 ≤ q.t = elim tr.at [ inl t ↦ omega arith | inr t ↦ omega (arith, t.0) ] in
            origin_late q s.pc late g.at (sym p ∙ ap (λ (n : Visible). n.pc) h.2 ∙ m.1)

    fetched_at : (c : Cause) (a : ℕ) → outcome (micro table q us) ≡ failed c a → fetched_from q ≡ s.pc
    fetched_at c a e =
        fails c a (micro table q us) (instruction v) refl e refl (steps_last table j s ws ∙ ap (λ (o : bus.Outcome). bus.and_then o (micro table)) there) (dec_lt (suc j) (clocks v))

  refined : Refined one_bus s ws
  refined = record {
    before = λ j l. subst (λ (o : Outcome bus.Core). Quiet one_bus v o) (sym (steps_outcome j s ws)) (quiet_outcome v j (bus.steps table j s ws) (r.before j l));
    after = subst (λ (o : Outcome bus.Core). Same one_bus o (instruction v)) (sym (steps_outcome (clocks v) s ws)) (same_outcome (bus.steps table (clocks v) s ws) (instruction v) r.after);
    counted = λ j q us h. let e = (mid j q us h).counted in omega arith;
    by_time = λ j q us h. by_time j q us h;
    fetched_at = λ j q us c a h e. fetched_at j q us h c a e;
  }

moves : (p q : bus.Core) (ws us : List ℕ) → outcome (micro table p ws) ≡ more q us → q.t ≡ 0 → ⊥
moves p q ws us e z = let m = moves_on table p ws q us (was (micro table p ws) q us e) in omega (arith, m.0)

pub one_bus_facts : CoreFacts one_bus
one_bus_facts = record {
  refined = λ p ws z g. refined p ws z g;
  moves = moves;
  fresh = (refl, refl, refl);
  rewound = λ p. (refl, refl, refl);
  restarted = λ p. (refl, refl, refl);
  cleared = λ p. (refl, refl, refl);
  with_register = λ p i x. (refl, refl, refl);
}
